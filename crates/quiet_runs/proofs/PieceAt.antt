-- The piece of a turn: the code at the place of a piece begins with its Turn.
use Rattle.std.proofs.Common.{◌≡◌, ◌<◌, ◌≤◌, ◌+◌, ◌-◌, ◌^◌, ℕ, suc, Bool, true, false, List, [], ◌∷◌, length, drop, refl, sym, ap, subst, ◌∙◌, arith}
use Rattle.std.specs.Prelude.{Option, Some, None, slice_get}
use Rattle.std.proofs.lemmas.List.{drop_all}
use Rattle.dev_card.specs.declared.desc.Desc.{Desc}
use Rattle.stapl_syntax.specs.Trees.{StmtTree}
use Rattle.stapl_syntax.specs.Statements.{is_outer}
use Rattle.stapl_meaning.specs.Scopes.{Played}
use Rattle.stapl_meaning.specs.Plays.{Outcome, Ended, Going, Stopped, Run, procedures_run}
use Rattle.stapl_code.specs.declared.instr.Instr.{Instr}
use Rattle.stapl_code.specs.declared.instr.Instr.TheVariants.{Turn}
use Rattle.stapl_code.specs.declared.raw.CodeLists.{CodeLists}
use Rattle.stapl_code.specs.Machine.{nowhere}
use Rattle.stapl_code.proofs.Heads.{head_of, get_head}
use Rattle.stapl_codegen.specs.Emit.{start_of, piece_code, pieces_code, program_code}
use Rattle.stapl_codegen.specs.Correct.{placed_outcome, placed_run}
use Rattle.stapl_codegen.specs.Generated.{IsCodeOf}
use Rattle.stapl_codegen.proofs.Pieces.{start_none, start_head, code_from}
use Rattle.stapl_machine.specs.Machines.{play_of}
use Rattle.stapl_machine.specs.Turns.{piece_of}
use Rattle.padded_plays.specs.QuietPlays.{first_chain, play_alone}
use Rattle.padded_plays.specs.declared.unquiet.Unquiet.{Unquiet}
use Rattle.padded_plays.specs.FirstDeeds.{IsFirstUnquiet, at_the_beginning, in_a_turn}
use Rattle.quiet_runs.specs.Verdicts.{GoesOnAlone, GoesOnAtPiece, IsUnquietAt, IsUnquietIn}
use Rattle.quiet_runs.proofs.FirstZeros.{same_zeros}

-- where the program stands, if the code stands at a place
record StandsAt (start : ℕ → ℕ) (o : Outcome) (place : ℕ) : Type 0 where
  at : ℕ
  goes : o ≡ Going at
  is : start at ≡ place

stands_at : (start : ℕ → ℕ) (o : Outcome) (place : ℕ) → placed_outcome start o ≡ Going place → StandsAt start o place
stands_at start (Ended ending) place e = absurd cc
stands_at start (Going i) place e = let is : start i ≡ place = cc in record { at = i; goes = refl; is = is }
stands_at start Stopped place e = absurd cc

-- the code of a piece in a procedure begins with its Turn
turn_first : (program : Played) (i : ℕ) (st : StmtTree) (rest : List Instr) → is_outer st.body ≡ false →
    head_of (piece_code program (start_of program) i st rest) ≡ Some (Turn (i + 1))
turn_first program i st rest inside = rw inside refl

module _ (program : Played) (short : length (program_code program) < 2 ^ 32) where
  -- no instruction is past the code
  none_there : (i piece : ℕ) → start_of program i ≡ nowhere → piece_of (slice_get (program_code program) (start_of program i)) ≡ Some piece → ⊥
  none_there i piece out e =
      let few : length (program_code program) ≤ nowhere = omega (arith, short) in
      let none : slice_get (program_code program) (start_of program i) ≡ None =
      ap (slice_get (program_code program)) out ∙ get_head nowhere (program_code program) ∙ ap head_of (drop_all nowhere (program_code program) few) in
      let never : None ≡ Some piece = sym (ap piece_of none) ∙ e in
      absurd cc

  pub start_piece : (i piece : ℕ) → piece_of (slice_get (program_code program) (start_of program i)) ≡ Some piece → piece ≡ i + 1
  start_piece i piece e = by (slice_get program.pieces i) refl
    where
      inner : (st : StmtTree) → slice_get program.pieces i ≡ Some st → is_outer st.body ≡ false → piece ≡ i + 1
      inner st at inside =
          let first : slice_get (program_code program) (start_of program i) ≡ head_of (pieces_code program (start_of program) i (drop i program.pieces)) =
          get_head (start_of program i) (program_code program) ∙ ap head_of (code_from program i st at inside) in
          found (drop i program.pieces) (sym (get_head i program.pieces) ∙ at) first
        where
          found : (sts : List StmtTree) → head_of sts ≡ Some st →
              slice_get (program_code program) (start_of program i) ≡ head_of (pieces_code program (start_of program) i sts) → piece ≡ i + 1
          found [] h first = absurd cc
          found (s ∷ rest) h first =
              let same : s ≡ st = cc in
              let turn : head_of (pieces_code program (start_of program) i (s ∷ rest)) ≡ Some (Turn (i + 1)) =
              turn_first program i s (pieces_code program (start_of program) (i + 1) rest) (ap (λ (t : StmtTree). is_outer t.body) same ∙ inside) in
              let told : Some piece ≡ Some (i + 1) = sym e ∙ ap piece_of (first ∙ turn) in
              cc

      by_outer : (st : StmtTree) (b : Bool) → slice_get program.pieces i ≡ Some st → is_outer st.body ≡ b → piece ≡ i + 1
      by_outer st true at o = absurd (none_there i piece (start_head program i st at o) e)
      by_outer st false at o = inner st at o

      by : (o : Option StmtTree) → slice_get program.pieces i ≡ o → piece ≡ i + 1
      by None at = absurd (none_there i piece (start_none program i at) e)
      by (Some st) at = by_outer st (is_outer st.body) at refl

-- what the place of a play of a code tells of its program
pub tells_piece : (program : Played) (code : CodeLists) → IsCodeOf program code → (chosen : List ℕ) (n : ℕ) (run : List Desc) (place piece : ℕ) → length code.instrs < 2 ^ 32 →
    GoesOnAlone code chosen n run place → piece_of (slice_get code.instrs place) ≡ Some piece → GoesOnAtPiece program chosen n run piece
tells_piece program code is chosen n run place piece short goes there =
    let k = first_chain run in
    let source : Run = procedures_run program chosen n k in
    let same : play_of code chosen n k ≡ placed_run (start_of program) source = rw (same_zeros program code is) (is.stands chosen n k) in
    let s : StandsAt (start_of program) source.outcome place = stands_at (start_of program) source.outcome place (sym (ap (λ (r : Run). r.outcome) same) ∙ goes) in
    let instrs : code.instrs ≡ program_code program = ap (λ (c : CodeLists). c.instrs) is.lists in
    record {
      place = s.at;
      goes = s.goes;
      piece_is = start_piece program (subst (λ (l : List Instr). length l < 2 ^ 32) instrs short) s.at piece
          (ap (λ p. piece_of (slice_get (program_code program) p)) s.is ∙ ap (λ (l : List Instr). piece_of (slice_get l place)) (sym instrs) ∙ there);
    }

-- the first deed that is not quiet, at its piece
pub with_piece : (program : Played) (chosen : List ℕ) (n : ℕ) (run : List Desc) (turn piece : ℕ) (why : Unquiet) → IsUnquietAt program chosen n run turn why →
    0 < turn → GoesOnAtPiece program chosen (turn - 1) run piece → IsUnquietIn program chosen n run turn piece why
with_piece program chosen n run turn piece why u some g = record { first = by turn u.piece why u.first some g; within = u.within }
  where
    by : (turn other : ℕ) (why : Unquiet) → IsFirstUnquiet program chosen run turn other why → 0 < turn → GoesOnAtPiece program chosen (turn - 1) run piece →
        IsFirstUnquiet program chosen run turn piece why
    by _ _ _ (at_the_beginning why h) some g = absurd (omega arith)
    by _ _ _ (in_a_turn before place why q goes h) some g =
        let less : suc before - 1 ≡ before = omega arith in
        let same : Going g.place ≡ Going place = sym g.goes ∙ ap (λ m. (play_alone program chosen m run).outcome) less ∙ goes in
        let places : g.place ≡ place = cc in
        let pieces : place + 1 ≡ piece = ap (λ p. p + 1) (sym places) ∙ sym g.piece_is in
        subst (λ p. IsFirstUnquiet program chosen run (suc before) p why) pieces (in_a_turn before place why q goes h)

pub at_beginning : (program : Played) (chosen : List ℕ) (n : ℕ) (run : List Desc) (turn : ℕ) (why : Unquiet) → IsUnquietAt program chosen n run turn why → turn ≡ 0 →
    IsUnquietIn program chosen n run 0 0 why
at_beginning program chosen n run turn why u e = record { first = by turn u.piece why u.first e; within = omega arith }
  where
    by : (turn piece : ℕ) (why : Unquiet) → IsFirstUnquiet program chosen run turn piece why → turn ≡ 0 → IsFirstUnquiet program chosen run 0 0 why
    by _ _ _ (at_the_beginning why h) e = at_the_beginning why h
    by _ _ _ (in_a_turn before place why q goes h) e = absurd (omega arith)
