use Rattle.std.proofs.Common.{List, arith, refl, sym, ap, subst, ◌∙◌}
use Rattle.stapl_lexer.specs.declared.piece.Piece.{Piece}
use Rattle.stapl_syntax.specs.Programs.{line_of_index}
use Rattle.turn_table.proofs.Entries.{Lists, one_more, entry_is, same_program, few_statements, whole_table}
use Rattle.turn_table.proofs.table.turn_table.Goals as goal

pub overflow_cast-i : goal.overflow_cast-i
overflow_cast-i c =
    let few = few_statements _ _ _ c.statements-statements.ensures.statements c.text-text.ensures.program in
    omega (arith, c.loop-i-test.true, few)

pub overflow_add-i : goal.overflow_add-i
overflow_add-i c =
    let few = few_statements _ _ _ c.statements-statements.ensures.statements c.text-text.ensures.program in
    omega (arith, c.loop-i-test.true, few)

pub loop-i-preserved : goal.loop-i-preserved
loop-i-preserved c =
    let program =
    same_program _ _ _ _ c.text-text.ensures.text c.statements-statements.ensures.statements c.text-text.ensures.program in
    let line =
    c.line_of_index.ensures
    ∙ ap (λ (ps : List Piece). line_of_index c.text-text.result.now ps c.loop-i.i) c.deref.ensures.value in
    let entry =
    entry_is _ _ _ c.loop-i.i c.index-statements-i.result _ program c.loop-i-test.true c.index-statements-i.is refl line
    c.does_scan.ensures in
    subst (Lists _ _) (sym c.in_ok-push.ensures.items) (one_more _ _ _ _ c.loop-i.invariant entry)

pub returns : goal.returns
returns c =
    whole_table _ _ _ _ _ _ c.loop-i.i c.text-text.ensures.text c.statements-statements.ensures.statements
    c.in_ok-pieces.ensures.cut (omega (arith, c.loop-i-test.false, c.loop-i.auto.i-end)) c.loop-i.invariant
