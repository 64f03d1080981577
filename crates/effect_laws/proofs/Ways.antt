-- Where CALL, ENDPROC, GOTO and IF go on.
use Rattle.std.proofs.Common.{◌≡◌, ℕ, ◌+◌, pos, true, false, List, [], ◌∷◌, ◌++◌, None, refl, sym, ap, ◌∙◌}
use Rattle.stapl_syntax.specs.Trees.{ExprTree, BodyTree, call, goto, if_then, end_procedure}
use Rattle.stapl_meaning.specs.declared.events.Ending.TheVariants.{Exit}
use Rattle.stapl_meaning.specs.declared.records.Record.{Record}
use Rattle.stapl_meaning.specs.declared.records.Record.TheVariants.{Called}
use Rattle.stapl_meaning.specs.declared.values.ValueKind.TheVariants as kinds
use Rattle.stapl_meaning.specs.declared.values.Value.{Value}
use Rattle.stapl_meaning.specs.declared.values.Value.TheVariants.{Bit}
use Rattle.stapl_meaning.specs.Values.{Known, value_of}
use Rattle.stapl_meaning.specs.Operands.{a_boolean, values_of}
use Rattle.stapl_meaning.specs.States.{State, Falls, Jumps, Resumes, Returns, Turned, Leads, Over, Broken, Scanning, NoTurn, preceded, turn_of_piece, next_chosen}
use Rattle.stapl_meaning.specs.Effects.{with_records, returned_from}
use Rattle.stapl_meaning.specs.Scopes.{Played, scope_at}
use Rattle.stapl_meaning.specs.Turns.{rows, rows_done, turn_of, turn}
use Rattle.effect_laws.specs.Given.{StandsAt, HasRoom}
use Rattle.effect_laws.specs.Ways.{HasNoCall, none, value, loop}
use Rattle.effect_laws.proofs.Singles.{plain_known, next_known, roomy, row_known, one_row}

dropped : (above records : List Record) (place : ℕ) (u : State) → HasNoCall above →
    returned_from (above ++ Called place ∷ records) u ≡ Resumes place (with_records u records)
dropped _ records place u none = refl
dropped _ records place u (value h) = dropped _ records place u h
dropped _ records place u (loop h) = dropped _ records place u h

all_dropped : (above : List Record) (u : State) → HasNoCall above → returned_from above u ≡ Returns (with_records u [])
all_dropped _ u none = refl
all_dropped _ u (value h) = all_dropped _ u h
all_dropped _ u (loop h) = all_dropped _ u h

pub returns_after : (program : Played) (i : ℕ) (s : State) (name : List ℕ) → StandsAt program i (call name) → HasRoom s →
    (t : State) × (turn program i s ≡ Leads [] ((scope_at program i).entry ((scope_at program i).procedure name)) t) ×
    ((j : ℕ) (u : State) (above : List Record) → StandsAt program j end_procedure → HasNoCall above →
    u.records ≡ above ++ t.records → turn program j u ≡ Leads [] (i + 1) (record u { records = s.records }))
returns_after program i s name stands room = (
  with_records s (Called (i + 1) ∷ s.records),
  one_row program i s (call name) [] (Jumps (with_records s (Called (i + 1) ∷ s.records))) stands refl refl
      (roomy s (Known (Jumps (with_records s (Called (i + 1) ∷ s.records)))) room),
  λ j u above at no_call records.
      one_row program j u end_procedure [] (Resumes (i + 1) (with_records u s.records)) at refl refl
      (ap Known (ap (λ rs. returned_from rs u) records ∙ dropped above s.records (i + 1) u no_call)),
)

ended : (program : Played) (i : ℕ) (s : State) → StandsAt program i end_procedure → HasNoCall s.records →
    turn program i s ≡ turn_of_piece (i + 1) (next_chosen (scope_at program i).entry (with_records s []) s.chosen)
ended program i s stands no_call =
    one_row program i s end_procedure [] (Returns (with_records s [])) stands refl refl (ap Known (all_dropped s.records s no_call))

pub next_begins : (program : Played) (i p : ℕ) (s : State) (others : List ℕ) → StandsAt program i end_procedure → HasNoCall s.records →
    s.chosen ≡ p ∷ others →
    turn program i s ≡ Leads [] ((scope_at program i).entry p) (record s { chosen = others; records = [] })
next_begins program i p s others stands no_call is =
    ended program i s stands no_call
    ∙ ap (λ cs. turn_of_piece (i + 1) (next_chosen (scope_at program i).entry (with_records s []) cs)) is

pub last_ends : (program : Played) (i : ℕ) (s : State) → StandsAt program i end_procedure → HasNoCall s.records → s.chosen ≡ [] →
    turn program i s ≡ Over [] (Exit (pos 0)) (record s { chosen = []; records = [] })
last_ends program i s stands no_call is =
    ended program i s stands no_call
    ∙ ap (λ cs. turn_of_piece (i + 1) (next_chosen (scope_at program i).entry (with_records s []) cs)) is

pub goes_to : (program : Played) (i : ℕ) (s : State) (name : List ℕ) → StandsAt program i (goto name) →
    turn program i s ≡ Leads [] ((scope_at program i).label name) s
goes_to program i s name stands = one_row program i s (goto name) [] (Jumps s) stands refl refl refl

nothing_before : (t : Turned) → preceded [] t ≡ t
nothing_before (Leads deeds place s) = refl
nothing_before (Over deeds ending s) = refl
nothing_before (Broken deeds k s) = refl
nothing_before (Scanning deeds scan rest) = refl
nothing_before (NoTurn deeds) = refl

module _ (program : Played) (i : ℕ) (s : State) (e : ExprTree) (body : BodyTree) (stands : StandsAt program i (if_then e body)) where
  condition : (b : Value) → value_of (scope_at program i).look s.store.variables kinds.Bit e ≡ Known b →
      values_of (scope_at program i).look s.store.variables (a_boolean e ∷ []) ≡ Known (b ∷ [])
  condition b is =
      next_known (scope_at program i).look s.store.variables None (a_boolean e) [] b []
      (plain_known (scope_at program i).look s.store.variables None kinds.Bit e b is) refl

  pub skips : value_of (scope_at program i).look s.store.variables kinds.Bit e ≡ Known (Bit false) → turn program i s ≡ Leads [] (i + 1) s
  skips is =
      ap (turn_of (scope_at program i) (i + 1) s) stands.1
      ∙ ap (turn_of_piece (i + 1))
      (row_known (scope_at program i) (if_then e body) s (rows_done (scope_at program i) (rows body)) (Bit false ∷ []) (Jumps s) (condition (Bit false) is) refl)

  pub enters : (other : Played) → StandsAt other i body → scope_at other i ≡ scope_at program i →
      value_of (scope_at program i).look s.store.variables kinds.Bit e ≡ Known (Bit true) → turn program i s ≡ turn other i s
  enters other inside same is =
      ap (turn_of (scope_at program i) (i + 1) s) stands.1
      ∙ ap (turn_of_piece (i + 1))
      (row_known (scope_at program i) (if_then e body) s (rows_done (scope_at program i) (rows body)) (Bit true ∷ []) (Falls [] s) (condition (Bit true) is) refl
      ∙ nothing_before (rows_done (scope_at program i) (rows body) s))
      ∙ sym
      (ap (turn_of (scope_at other i) (i + 1) s) inside.1 ∙ ap (λ scope. turn_of_piece (i + 1) (rows_done scope (rows body) s)) same)
