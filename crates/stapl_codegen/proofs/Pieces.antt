-- Where the code of a piece stands.
use Rattle.std.proofs.Common.{◌≡◌, ℕ, zero, suc, ◌+◌, ◌-◌, true, false, cond, List, [], ◌∷◌, ◌++◌, length, drop, Some, None, arith, length-append, sym, ap, ◌∙◌}
use Rattle.std.specs.Prelude.{slice_get, if◌then◌else◌}
use Rattle.std.proofs.lemmas.List.{length-map, drop_at}
use Rattle.std.proofs.lemmas.Option.{slice_get_past}
use Rattle.stapl_syntax.specs.Trees.{BodyTree, procedure, StmtTree}
use Rattle.stapl_syntax.specs.Statements.{is_outer, begins_procedure}
use Rattle.stapl_meaning.specs.Scopes.{Played, entry_from}
use Rattle.stapl_code.specs.declared.instr.Instr.{Instr}
use Rattle.stapl_code.specs.Machine.{nowhere, entry_of}
use Rattle.stapl_code.specs.Safe.{entries_of}
use Rattle.stapl_codegen.specs.Emit.{pieces_code, code_to, program_code, total_of, start_in, start_of, procedure_def, procedures_from, program_entries, retarget}
use Rattle.stapl_codegen.proofs.Lists.{pieces_retarget, code_retarget, code_split}

module _ (program : Played) where
  same_length : (i : ℕ) (sts : List StmtTree) → length (pieces_code program (λ j. j) i sts) ≡ length (pieces_code program (start_of program) i sts)
  same_length i sts =
      sym (length-map (pieces_code program (λ j. j) i sts) (retarget (start_of program))) ∙ ap length (pieces_retarget program (start_of program) i sts)

  pub total_is : total_of program ≡ length (program_code program)
  total_is = sym (length-map (code_to program (λ j. j)) (retarget (start_of program))) ∙ ap length (code_retarget program (start_of program))

  -- the place of a piece of a procedure counts back from the end
  pub start_is : (i : ℕ) (st : StmtTree) → slice_get program.pieces i ≡ Some st → is_outer st.body ≡ false →
      start_of program i ≡ length (program_code program) - length (pieces_code program (start_of program) i (drop i program.pieces))
  start_is i st at inner =
      ap (start_in program i) at
      ∙ ap (λ b. if b then nowhere else total_of program - length (pieces_code program (λ j. j) i (drop i program.pieces))) inner
      ∙ ap (λ n. n - length (pieces_code program (λ j. j) i (drop i program.pieces))) total_is
      ∙ ap (λ n. length (program_code program) - n) (same_length i (drop i program.pieces))

  pub start_none : (i : ℕ) → slice_get program.pieces i ≡ None → start_of program i ≡ nowhere
  start_none i at = ap (start_in program i) at

  pub start_head : (i : ℕ) (st : StmtTree) → slice_get program.pieces i ≡ Some st → is_outer st.body ≡ true → start_of program i ≡ nowhere
  start_head i st at head =
      ap (start_in program i) at ∙ ap (λ b. if b then nowhere else total_of program - length (pieces_code program (λ j. j) i (drop i program.pieces))) head

  drop_by : (code before suffix : List Instr) → code ≡ before ++ suffix → drop (length code - length suffix) code ≡ suffix
  drop_by code before suffix e =
      let n : length before ≡ length code - length suffix = omega (arith, ap length e ∙ length-append before suffix) in
      ap (drop (length code - length suffix)) e ∙ drop_at before suffix _ n

  -- what stands at the place of a piece
  pub code_from : (i : ℕ) (st : StmtTree) → slice_get program.pieces i ≡ Some st → is_outer st.body ≡ false →
      drop (start_of program i) (program_code program) ≡ pieces_code program (start_of program) i (drop i program.pieces)
  code_from i st at inner =
      let r = code_split program (start_of program) i in
      ap (λ n. drop n (program_code program)) (start_is i st at inner)
      ∙ drop_by (program_code program) r.0 (pieces_code program (start_of program) i (drop i program.pieces)) r.1

-- the procedures begin after their heads
entries_at : (place : ℕ → ℕ) (i : ℕ) (sts : List StmtTree) (p : ℕ) → place (i + length sts) ≡ nowhere →
    entry_of (entries_of (procedures_from place i sts)) p ≡ place (i + entry_from sts p)
entries_at place i [] p e = sym e
entries_at place i (st ∷ rest) zero e = by_head st.body (entries_at place (i + 1) rest zero (ap place (omega arith) ∙ e))
  where
    by_head : (b : BodyTree) → entry_of (entries_of (procedures_from place (i + 1) rest)) zero ≡ place (i + 1 + entry_from rest zero) →
        entry_of (entries_of (procedure_def (place (i + 1)) b (procedures_from place (i + 1) rest))) zero ≡ place (i + suc (cond (begins_procedure b) 0 (entry_from rest zero)))
    by_head (procedure name uses) others = ap place (omega arith)
    by_head _ others = others ∙ ap place (omega arith)
entries_at place i (st ∷ rest) (suc p) e = by_head st.body (λ q. entries_at place (i + 1) rest q (ap place (omega arith) ∙ e))
  where
    by_head : (b : BodyTree) → ((q : ℕ) → entry_of (entries_of (procedures_from place (i + 1) rest)) q ≡ place (i + 1 + entry_from rest q)) →
        entry_of (entries_of (procedure_def (place (i + 1)) b (procedures_from place (i + 1) rest))) (suc p) ≡ place (i + suc (cond (begins_procedure b) (entry_from rest p) (entry_from rest (suc p))))
    by_head (procedure name uses) others = others p ∙ ap place (omega arith)
    by_head _ others = others (suc p) ∙ ap place (omega arith)

pub entry_is : (program : Played) (p : ℕ) → entry_of (program_entries program) p ≡ start_of program (entry_from program.pieces p)
entry_is program p =
    entries_at (start_of program) 0 program.pieces p (start_none program (0 + length program.pieces) (slice_get_past program.pieces (0 + length program.pieces) (omega arith)))
    ∙ ap (start_of program) (omega arith)
