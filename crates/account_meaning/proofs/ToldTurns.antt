-- Each turn of a code is told, if all its plays come to an ending.
use Rattle.std.proofs.Common.{◌≡◌, ◌<◌, ◌+◌, ℕ, zero, suc, Bool, true, false, List, [], ◌∷◌, length, drop, Option, Some, None, refl, sym, ap, subst, ◌∙◌, arith}
use Rattle.std.specs.Prelude.{slice_get}
use Rattle.std.proofs.lemmas.Bool.{false≢true}
use Rattle.std.proofs.lemmas.Option.{none-some, same_Some, slice_get_within}
use Rattle.stapl_syntax.specs.Trees.{BodyTree, note, action, procedure, data_block, end_data, crc, StmtTree}
use Rattle.stapl_syntax.specs.Statements.{is_outer}
use Rattle.stapl_syntax.specs.Programs.{IsProgram}
use Rattle.stapl_meaning.specs.declared.events.Ending.{Ending}
use Rattle.stapl_meaning.specs.Deeds.{Chain}
use Rattle.stapl_meaning.specs.States.{State, Turned, NoTurn, turn_of_piece, Happened, Led, Finished, Broke, Lacks, happens}
use Rattle.stapl_meaning.specs.Scopes.{Scope, Played, as_played, scope_at, zeros_of}
use Rattle.stapl_meaning.specs.Turns.{rows, rows_done, turn, turn_of}
use Rattle.stapl_meaning.specs.Plays.{Run, Outcome, Ended, Going, Stopped, goes_on, run, procedures_run, beginning, start, ending_of}
use Rattle.stapl_meaning.proofs.Blocks.{same_count}
use Rattle.stapl_code.specs.declared.instr.Instr.{Instr}
use Rattle.stapl_code.specs.declared.instr.Instr.TheVariants.{Turn}
use Rattle.stapl_code.specs.declared.raw.CodeLists.{CodeLists}
use Rattle.stapl_code.proofs.Heads.{head_of, get_head}
use Rattle.stapl_codegen.specs.Emit.{start_of, piece_code, pieces_code, program_code}
use Rattle.stapl_codegen.specs.Correct.{placed_outcome, placed_run}
use Rattle.stapl_codegen.specs.Generated.{IsCodeOf}
use Rattle.stapl_codegen.proofs.Pieces.{code_from}
use Rattle.stapl_machine.specs.Machines.{play_of}
use Rattle.stapl_machine.specs.Turns.{piece_of}
use Rattle.quiet_runs.proofs.FirstZeros.{same_zeros}
use Rattle.account_lines.specs.declared.lines.TurnPlace.{TurnPlace}
use Rattle.code_plays.specs.CodePlays.{HasEnding}
use Rattle.account_plays.specs.AccountedRuns.{AreTold}
use Rattle.turn_table.specs.Tables.{turn_place, IsTurnTable}

-- a statement outside procedures finds nothing to do
outer_stuck : (scope : Scope) (b : BodyTree) (s : State) → is_outer b ≡ true → rows_done scope (rows b) s ≡ NoTurn []
outer_stuck scope (note key text) s e = refl
outer_stuck scope (action own text items) s e = refl
outer_stuck scope (procedure own uses) s e = refl
outer_stuck scope (data_block own) s e = refl
outer_stuck scope end_data s e = refl
outer_stuck scope (crc n) s e = refl
outer_stuck scope _ s e = absurd (false≢true e)

-- where the places of a code stand for those of its program, an ending is the same
same_ending : (place : ℕ → ℕ) (o : Outcome) → ending_of (placed_outcome place o) ≡ ending_of o
same_ending place (Ended ending) = refl
same_ending place (Going i) = refl
same_ending place Stopped = refl

-- where the program goes on, if the code goes on at a place
record GoesAt (place : ℕ → ℕ) (o : Outcome) (at : ℕ) : Type 0 where
  i : ℕ
  goes : o ≡ Going i
  is : place i ≡ at

goes_at : (place : ℕ → ℕ) (o : Outcome) (at : ℕ) → placed_outcome place o ≡ Going at → GoesAt place o at
goes_at place (Ended ending) at e = absurd cc
goes_at place (Going i) at e = let is : place i ≡ at = cc in record { i = i; goes = refl; is = is }
goes_at place Stopped at e = absurd cc

module _ (program : Played) where
  -- a piece of a procedure
  record IsInside (i : ℕ) : Type 0 where
    st : StmtTree
    stands : slice_get program.pieces i ≡ Some st
    inside : is_outer st.body ≡ false

  turn_first : (i : ℕ) (st : StmtTree) (rest : List Instr) → is_outer st.body ≡ false →
      head_of (piece_code program (start_of program) i st rest) ≡ Some (Turn (i + 1))
  turn_first i st rest inside = rw inside refl

  -- the code at its place begins with its Turn
  turn_there : (i : ℕ) → IsInside i → piece_of (slice_get (program_code program) (start_of program i)) ≡ Some (i + 1)
  turn_there i h = ap piece_of (first ∙ found (drop i program.pieces) (sym (get_head i program.pieces) ∙ h.stands))
    where
      first : slice_get (program_code program) (start_of program i) ≡ head_of (pieces_code program (start_of program) i (drop i program.pieces))
      first = get_head (start_of program i) (program_code program) ∙ ap head_of (code_from program i h.st h.stands h.inside)

      found : (sts : List StmtTree) → head_of sts ≡ Some h.st → head_of (pieces_code program (start_of program) i sts) ≡ Some (Turn (i + 1))
      found [] e = absurd cc
      found (s ∷ rest) e =
          turn_first i s (pieces_code program (start_of program) (i + 1) rest)
          (ap (λ (t : StmtTree). is_outer t.body) (same_Some s h.st e) ∙ h.inside)

  -- how a run of one turn stands
  abbrev one : Turned → State → Chain → Option Ending
  one turned s k = ending_of (goes_on (happens k turned) s k (run program 0)).outcome

  -- a turn that comes to an ending is that of a piece of a procedure
  turn_inside : (i : ℕ) (s : State) (k : Chain) (ending : Ending) → one (turn program i s) s k ≡ Some ending → IsInside i
  turn_inside i s k ending e = by (slice_get program.pieces i) refl
    where
      finds : turn program i s ≡ NoTurn [] → ⊥
      finds is = none-some ending (sym (ap (λ (t : Turned). one t s k) is) ∙ e)

      by_outer : (st : StmtTree) (b : Bool) → slice_get program.pieces i ≡ Some st → is_outer st.body ≡ b → IsInside i
      by_outer st true at o =
          absurd (finds (ap (turn_of (scope_at program i) (i + 1) s) at ∙ ap (turn_of_piece (i + 1)) (outer_stuck (scope_at program i) st.body s o)))
      by_outer st false at o = record { st = st; stands = at; inside = o }

      by : (o : Option StmtTree) → slice_get program.pieces i ≡ o → IsInside i
      by None at = absurd (finds (ap (turn_of (scope_at program i) (i + 1) s) at))
      by (Some st) at = by_outer st (is_outer st.body) at refl

  -- the same of what follows a turn or the beginning, if it is known of what follows the place to which that leads
  module _ (n : ℕ) (s : State) (k : Chain) (p : ℕ) (ending : Ending)
      (again : (q : ℕ) (u : State) (l : Chain) → (run program n q u l).outcome ≡ Going p → ending_of (run program (suc n) q u l).outcome ≡ Some ending → IsInside p) where
    follows_inside : (h : Happened) → (goes_on h s k (run program n)).outcome ≡ Going p → ending_of (goes_on h s k (run program (suc n))).outcome ≡ Some ending → IsInside p
    follows_inside (Led events q u l) goes ends = again q u l goes ends
    follows_inside (Finished events last u l) goes ends = absurd cc
    follows_inside (Broke events f u l) goes ends = absurd cc
    follows_inside (Lacks events) goes ends = absurd cc

  -- where a run goes on and with one turn more comes to an ending, there is a piece of a procedure
  run_inside : (n i : ℕ) (s : State) (k : Chain) (p : ℕ) (ending : Ending) → (run program n i s k).outcome ≡ Going p →
      ending_of (run program (suc n) i s k).outcome ≡ Some ending → IsInside p
  run_inside zero i s k p ending goes ends = let same : i ≡ p = cc in subst IsInside same (turn_inside i s k ending ends)
  run_inside (suc n) i s k p ending goes ends =
      follows_inside n s k p ending (λ q u l. run_inside n q u l p ending) (happens k (turn program i s)) goes ends

  -- and so it is from the beginning of a play on
  play_inside : (chosen : List ℕ) (n : ℕ) (k : Chain) (p : ℕ) (ending : Ending) → (procedures_run program chosen n k).outcome ≡ Going p →
      ending_of (procedures_run program chosen (suc n) k).outcome ≡ Some ending → IsInside p
  play_inside chosen n k p ending goes ends =
      let s = start chosen (zeros_of program) in
      follows_inside n s k p ending (λ q u l. run_inside n q u l p ending) (happens k (beginning program s)) goes ends

-- so the table of a program tells each turn of its code
pub turns_are_told : (text : List ℕ) (program : List StmtTree) (code : CodeLists) (table : List TurnPlace) → IsProgram text program → IsTurnTable text program table →
    IsCodeOf (as_played program) code → (chosen : List ℕ) (k : Chain) → ((n : ℕ) → HasEnding (play_of code chosen n k)) →
    AreTold code table (λ n. play_of code chosen n k)
turns_are_told text program code table sound tells is chosen k ends n at goes =
    let own : Played = as_played program in
    let same : (m : ℕ) → play_of code chosen m k ≡ placed_run (start_of own) (procedures_run own chosen m k) =
    λ m. rw (same_zeros own code is) (is.stands chosen m k) in
    let from : GoesAt (start_of own) (procedures_run own chosen n k).outcome at =
    goes_at (start_of own) (procedures_run own chosen n k).outcome at (sym (ap (λ (r : Run). r.outcome) (same n)) ∙ goes) in
    let last : HasEnding (play_of code chosen (suc n) k) = ends (suc n) in
    let ending : ending_of (procedures_run own chosen (suc n) k).outcome ≡ Some last.ending =
    sym (same_ending (start_of own) (procedures_run own chosen (suc n) k).outcome) ∙ sym (ap (λ (r : Run). ending_of r.outcome) (same (suc n))) ∙ last.comes in
    let piece : IsInside own from.i = play_inside own chosen n k from.i last.ending from.goes ending in
    let count : length own.pieces ≡ length program = same_count None program in
    let within : from.i < length program = omega (arith, slice_get_within own.pieces from.i piece.st piece.stands, count) in
    let instrs : code.instrs ≡ program_code own = ap (λ (c : CodeLists). c.instrs) is.lists in (
      turn_place text sound.pieces own from.i,
      record {
        piece = from.i;
        at_piece = ap (λ (l : List Instr). piece_of (slice_get l at)) instrs ∙ ap (λ p. piece_of (slice_get (program_code own) p)) (sym from.is) ∙ turn_there own from.i piece;
        in_table = tells.each sound.pieces from.i sound.cut within;
      },
    )
