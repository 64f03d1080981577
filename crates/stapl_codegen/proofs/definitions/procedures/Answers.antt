use Rattle.std.proofs.Common.{◌+◌, ◌++◌, [], refl, rules, sym, ap, ◌∙◌, drop, if◌then◌else◌}
use Rattle.stapl_syntax.specs.Trees.{end_data, body_tree, stmt_tree, trees}
use Rattle.stapl_meaning.specs.Scopes.{plays, as_played}
use Rattle.stapl_meaning.proofs.Blocks.{body_of}
use Rattle.stapl_codegen.specs.Emit.{start_of, procedure_def}
use Rattle.stapl_codegen.proofs.Heads.{mapped_more}
use Rattle.stapl_codegen.proofs.Places.{at_start, piece, piece_first, next}
use Rattle.stapl_codegen.proofs.DefinitionSteps.{procedures_more}
use Rattle.stapl_codegen.proofs.definitions.procedures.Goals as goal

pub loop-i-init : goal.loop-i-init
loop-i-init c = record { put = search rules; at = at_start (trees c.args.program.now) }

pub loop-i-preserved : goal.loop-i-preserved
loop-i-preserved c =
    let sts = trees c.args.program.now in
    let i = c.loop-i.i in
    let st = c.index-program-i.result in
    let block = c.loop-i.block in
    let is = mapped_more stmt_tree i c.args.program.now st c.loop-i-test.true c.index-program-i.is in
    let at = c.loop-i.invariant.at in
    let own = piece sts i block (stmt_tree st) (drop (i + 1) sts) is at in
    let same = body_of (plays block (body_tree st.body)) (stmt_tree st) in
    record {
      put = procedures_more (start_of (as_played sts)) i own (drop (i + 1) (as_played sts).pieces) (drop i (as_played sts).pieces) _ _ _
          (piece_first sts i block (stmt_tree st) (drop (i + 1) sts) is at)
          (c.in_ok-put_procedure.ensures
          ∙ ap (λ b. c.loop-i.procedures.items ++ procedure_def c.start_of_place-entry.result (if b then body_tree st.body else end_data) []) c.plays.ensures
          ∙ ap (λ b. c.loop-i.procedures.items ++ procedure_def c.start_of_place-entry.result b []) (sym same)
          ∙ ap (λ n. c.loop-i.procedures.items ++ procedure_def n own.body []) c.start_of_place-entry.ensures)
          c.loop-i.invariant.put;
      at = rw c.data_after-block.ensures (next sts i block (stmt_tree st) (drop (i + 1) sts) is at refl);
    }
