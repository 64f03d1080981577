-- No run of an accepted program gets stuck.
use Rattle.std.proofs.Common.{◌≡◌, ◌≢◌, ℕ, ◌+◌, Bool, List, [], ◌∷◌, length, map, Option, Some, None, true, false, refl, sym, ap, subst, ◌∙◌}
use Rattle.std.specs.Prelude.{pos, nat_abs, slice_get}
use Rattle.std.proofs.lemmas.List.{length-replicate}
use Rattle.stapl_syntax.specs.declared.names.Key.{Key}
use Rattle.stapl_syntax.specs.declared.names.VarKind.{VarKind}
use Rattle.stapl_syntax.specs.declared.names.VarKind.TheVariants as variables
use Rattle.stapl_syntax.specs.declared.names.Variable.{Variable}
use Rattle.stapl_syntax.specs.Trees.{ExprTree, BodyTree, if_then, StmtTree}
use Rattle.tap_states.specs.Tap.{is_stable_state}
use Rattle.stapl_meaning.specs.declared.values.Value.{Value}
use Rattle.stapl_meaning.specs.declared.values.Value.TheVariants.{Int, Bit}
use Rattle.stapl_meaning.specs.Values.{Got, Known, Faults, Stuck}
use Rattle.stapl_meaning.specs.Operands.{values_of}
use Rattle.stapl_meaning.specs.Effects.{parted}
use Rattle.stapl_meaning.specs.Deeds.{Deed, Chain}
use Rattle.stapl_meaning.specs.States.{State, Did, Falls, Captures, Jumps, Resumes, Returns, Ends, Turned, Leads, Over, Broken, Scanning, NoTurn, with_got, preceded, turn_of_piece, next_chosen, jumps_to, led, happens}
use Rattle.stapl_meaning.specs.Scopes.{Played, Scope, scope_at, procedures_in, zero_by, zero_of, zeros_of}
use Rattle.stapl_meaning.specs.Turns.{operands, effect, target, rows, rows_done, done, turn_of, turn, IsFound}
use Rattle.stapl_meaning.specs.Plays.{Outcome, Going, Stopped, Run, after, goes_on, run, procedures_run, continued}
use Rattle.stapl_code.specs.declared.raw.CodeLists.{CodeLists}
use Rattle.stapl_code.specs.Machine.{code_play}
use Rattle.stapl_code.specs.Safe.{entries_of, constants_of, Fits, AllFit, AllBelow, NeverStuck}
use Rattle.stapl_codegen.specs.Emit.{start_of}
use Rattle.stapl_codegen.specs.Correct.{placed_outcome}
use Rattle.stapl_codegen.specs.Accepted.{IsAccepted}
use Rattle.stapl_codegen.specs.Generated.{kind_number, variable_def, lists_of}
use Rattle.stapl_codegen.specs.Unstuck.{HasOneTurn, IsNotStuck, ProgramsAreNotStuck}
use Rattle.stapl_meaning.proofs.RunLaws.{procedures_add}
use Rattle.stapl_meaning.proofs.TurnLemmas.{found_of_piece, is_turn, one_turn}
use Rattle.stapl_codegen.proofs.Rows.{IsRows, no_row, one_row, more_rows, rows_view}
use Rattle.stapl_codegen.proofs.Whole.{is_valid}
use Rattle.stapl_codegen.proofs.Defined.{count_same}
use Rattle.stapl_codegen.proofs.Generated.{in_range, code}

-- ---- after a scan nothing is left of a turn, whatever bits the scan captures

-- the turn finds something to do after its scan, if it has one
abbrev ScansLast : Turned → Type 0
ScansLast (Scanning deeds scan rest) = (bits : List Bool) → IsFound (rest bits)
ScansLast _ = Unit {0}

preceded_last : (deeds : List Deed) (t : Turned) → ScansLast t → ScansLast (preceded deeds t)
preceded_last deeds (Leads more place s) last = tt
preceded_last deeds (Over more ending s) last = tt
preceded_last deeds (Broken more f s) last = tt
preceded_last deeds (Scanning more scan rest) last = last
preceded_last deeds (NoTurn more) last = tt

jump_last : (to : Option ℕ) (s : State) → ScansLast (jumps_to to s)
jump_last None s = tt
jump_last (Some place) s = tt

chosen_last : (entry : ℕ → ℕ) (s : State) (chosen : List ℕ) → ScansLast (next_chosen entry s chosen)
chosen_last entry s [] = tt
chosen_last entry s (p ∷ ps) = tt

got_last : {A : Type 0} (g : Got A) (s : State) (go : A → Turned) → ((x : A) → ScansLast (go x)) → ScansLast (with_got g s go)
got_last (Known x) s go last = last x
got_last (Faults f) s go last = tt
got_last Stuck s go last = tt

module _ (scope : Scope) where
  -- the one row of a statement, and none
  did_last : (to : Option ℕ) (did : Did) → ScansLast (led scope.entry to did (rows_done scope []))
  did_last to (Falls deeds s) = tt
  did_last to (Captures scan lands) = λ bits. tt
  did_last to (Jumps s) = jump_last to s
  did_last to (Resumes place s) = tt
  did_last to (Returns s) = chosen_last scope.entry s s.chosen
  did_last to (Ends ending s) = tt

  -- an IF does not scan
  parted_last : (e : ExprTree) (b : BodyTree) (bs : List BodyTree) (values : List Value) (s : State) → ((t : State) → ScansLast (rows_done scope bs t)) →
      ScansLast (with_got (parted values s) s (λ did. led scope.entry (target scope (if_then e b)) did (rows_done scope bs)))
  parted_last e b bs [] s last = tt
  parted_last e b bs (Int z ∷ values) s last = tt
  parted_last e b bs (Bit true ∷ []) s last = preceded_last [] (rows_done scope bs s) (last s)
  parted_last e b bs (Bit false ∷ []) s last = tt
  parted_last e b bs (Bit c ∷ v ∷ values) s last = tt

  rows_scan_last : (b : BodyTree) (bs : List BodyTree) → IsRows b bs → (s : State) → ScansLast (rows_done scope bs s)
  rows_scan_last _ _ (no_row b) s = tt
  rows_scan_last _ _ (one_row b) s =
      let leads : List Value → Turned = λ values. with_got (effect scope b values s) s (λ did. led scope.entry (target scope b) did (rows_done scope [])) in
      got_last (values_of scope.look s.store.variables (operands scope b)) s leads (λ values.
      got_last (effect scope b values s) s (λ did. led scope.entry (target scope b) did (rows_done scope [])) (did_last (target scope b)))
  rows_scan_last _ _ (more_rows e b bs rows) s =
      let leads : List Value → Turned = λ values. with_got (parted values s) s (λ did. led scope.entry (target scope (if_then e b)) did (rows_done scope bs)) in
      got_last (values_of scope.look s.store.variables (operands scope (if_then e b))) s leads (λ values. parted_last e b bs values s (rows_scan_last b bs rows))

piece_last : (piece : ℕ) (t : Turned) → ScansLast t → ScansLast (turn_of_piece piece t)
piece_last piece (Leads deeds place s) last = tt
piece_last piece (Over deeds ending s) last = tt
piece_last piece (Broken deeds f s) last = tt
piece_last piece (Scanning deeds scan rest) last = λ bits. found_of_piece piece (rest bits) (last bits)
piece_last piece (NoTurn deeds) last = tt

turn_scans_last : (program : Played) (place : ℕ) (s : State) → ScansLast (turn program place s)
turn_scans_last program place s = by (slice_get program.pieces place)
  where
    by : (o : Option StmtTree) → ScansLast (turn_of (scope_at program place) (place + 1) s o)
    by None = tt
    by (Some st) =
        piece_last (place + 1) (done (scope_at program place) s st.body)
        (rows_scan_last (scope_at program place) st.body (rows st.body) (rows_view st.body) s)

-- a turn that finds nothing to do stops the run
found : (program : Played) (s : State) (k : Chain) (t : Turned) → ScansLast t → (goes_on (happens k t) s k (run program 0)).outcome ≢ Stopped → IsFound t
found program s k (Leads deeds to u) last more = tt
found program s k (Over deeds ending u) last more = tt
found program s k (Broken deeds f u) last more = tt
found program s k (Scanning deeds scan rest) last more = last
found program s k (NoTurn deeds) last more = absurd (more refl)

-- a run that goes on and has one turn more has a turn at its place
has_turn : (program : Played) (chosen : List ℕ) (n place : ℕ) (k : Chain) → (procedures_run program chosen (n + 1) k).outcome ≢ Stopped → (procedures_run program chosen n k).outcome ≡ Going place →
    HasOneTurn program place (procedures_run program chosen n k).state
has_turn program chosen n place k more going =
    let r : Run = procedures_run program chosen n k in
    let next : procedures_run program chosen (n + 1) k ≡ after r.events (run program 1 place r.state r.chain) =
    procedures_add program chosen n 1 k ∙ ap (λ (o : Outcome). continued o r (run program 1)) going in
    let is = is_turn program place r.state (found program r.state r.chain (turn program place r.state) (turn_scans_last program place r.state) (λ e. more (ap (λ (q : Run). q.outcome) next ∙ e))) in
    record { turned = turn program place r.state; is_turn = is; only = λ other t. one_turn program place r.state other (turn program place r.state) t is }

all_not_stuck : (program : Played) (chosen : List ℕ) (k : Chain) → ((n : ℕ) → (procedures_run program chosen n k).outcome ≢ Stopped) → (n : ℕ) → IsNotStuck program chosen n k
all_not_stuck program chosen k never n = record { stands = never n; goes_on = λ place going. has_turn program chosen n place k (never (n + 1)) going }

pub variables_fit : (vs : List (Key × Variable)) → AllFit (map variable_def vs) (map zero_of vs)
variables_fit [] = tt
variables_fit (v ∷ vs) = (fit v.1.kind (nat_abs v.1.size), variables_fit vs)
  where
    fit : (k : VarKind) (n : ℕ) → Fits (record { kind = kind_number k; size = n }) (zero_by k n)
    fit variables.Integer n = refl
    fit variables.Boolean n = refl
    fit variables.IntegerArray n = (refl, length-replicate n (pos 0))
    fit variables.BooleanArray n = (refl, length-replicate n false)

never_stops : NeverStuck → (program : Played) → IsAccepted program → (chosen : List ℕ) → AllBelow (procedures_in program.pieces) chosen → (k : Chain) → is_stable_state k.tap ≡ true → (n : ℕ) →
    (procedures_run program chosen n k).outcome ≢ Stopped
never_stops never program accepted chosen below k stable n =
    let lists : CodeLists = lists_of program in
    let many : length lists.procedures ≡ procedures_in program.pieces = count_same (start_of program) 0 program.pieces in
    let same : (code_play (entries_of lists.procedures) (constants_of lists) lists.instrs chosen (zeros_of program) n k).outcome ≡ placed_outcome (start_of program)
    (procedures_run program chosen n k).outcome =
    ap (λ (r : Run). r.outcome) ((code program accepted).stands chosen n k) in
    λ stopped.
    never lists (in_range program accepted) (is_valid program accepted.shaped accepted.typed) chosen (subst (λ (count : ℕ). AllBelow count chosen) (sym many) below)
    (zeros_of program) (variables_fit program.names.variables) n k stable (same ∙ ap (placed_outcome (start_of program)) stopped)

pub programs_not_stuck : NeverStuck → ProgramsAreNotStuck
programs_not_stuck never program accepted chosen below n k stable = all_not_stuck program chosen k (never_stops never program accepted chosen below k stable) n
