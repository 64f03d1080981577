use Rattle.std.proofs.Common.{◌+◌, ◌++◌, [], refl, rules, sym, ap, subst, ◌∙◌, drop, if◌then◌else◌}
use Rattle.stapl_syntax.specs.Trees.{StmtTree, end_data, body_tree, stmt_tree, trees}
use Rattle.stapl_meaning.specs.Scopes.{plays, as_played}
use Rattle.stapl_meaning.specs.Typed.{NamesProcedures}
use Rattle.stapl_meaning.proofs.Blocks.{body_of}
use Rattle.stapl_meaning.proofs.Entries.{all_at}
use Rattle.stapl_codegen.specs.Emit.{action_def}
use Rattle.stapl_code.proofs.Heads.{head_of, get_head}
use Rattle.stapl_codegen.proofs.Heads.{mapped_more}
use Rattle.stapl_codegen.proofs.Places.{at_start, piece, piece_first, next}
use Rattle.stapl_codegen.proofs.DefinitionSteps.{actions_more}
use Rattle.stapl_codegen.proofs.definitions.actions.Goals as goal

pub loop-st-init : goal.loop-st-init
loop-st-init c = record { put = search rules; at = at_start (trees c.args.program.now) }

pub put_action-requires-clause-there : goal.put_action-requires-clause-there
put_action-requires-clause-there c =
    let sts = trees c.args.program.now in
    let program = as_played sts in
    let i = c.loop-st.st-index in
    let st = c.st-item.result in
    let block = c.loop-st.block in
    let is = mapped_more stmt_tree i c.args.program.now st c.loop-st-test.true c.st-item.is in
    let own = piece sts i block (stmt_tree st) (drop (i + 1) sts) is c.loop-st.invariant.at in
    let first = piece_first sts i block (stmt_tree st) (drop (i + 1) sts) is c.loop-st.invariant.at in
    let there = all_at (λ (s : StmtTree). NamesProcedures program s.body) program.pieces i own c.requires.there (get_head i program.pieces ∙ ap head_of first) in
    subst (λ b. NamesProcedures program (if b then body_tree st.body else end_data)) (sym c.plays-playing.ensures)
    (subst (NamesProcedures program) (body_of (plays block (body_tree st.body)) (stmt_tree st)) there)

pub loop-st-preserved : goal.loop-st-preserved
loop-st-preserved c =
    let sts = trees c.args.program.now in
    let program = as_played sts in
    let i = c.loop-st.st-index in
    let st = c.st-item.result in
    let block = c.loop-st.block in
    let is = mapped_more stmt_tree i c.args.program.now st c.loop-st-test.true c.st-item.is in
    let at = c.loop-st.invariant.at in
    let own = piece sts i block (stmt_tree st) (drop (i + 1) sts) is at in
    let same = body_of (plays block (body_tree st.body)) (stmt_tree st) in
    record {
      put = actions_more program own (drop (i + 1) program.pieces) (drop i program.pieces) _ _ _
          (piece_first sts i block (stmt_tree st) (drop (i + 1) sts) is at)
          (c.in_ok-put_action.ensures
          ∙ ap (λ b. c.loop-st.actions.items ++ action_def program (if b then body_tree st.body else end_data) []) c.plays-playing.ensures
          ∙ ap (λ b. c.loop-st.actions.items ++ action_def program b []) (sym same))
          c.loop-st.invariant.put;
      at = rw c.data_after-block.ensures (next sts i block (stmt_tree st) (drop (i + 1) sts) is at refl);
    }
