use Rattle.std.proofs.Common.{◌≡◌, [], ◌∷◌, sym, ap, ◌∙◌}
use Rattle.stapl_code.specs.declared.instr.Instr.TheVariants.{Turn}
use Rattle.stapl_codegen.specs.Drafts.{Draft, with_code}
use Rattle.stapl_syntax.specs.Trees.{body_tree}
use Rattle.stapl_syntax.specs.Statements.{is_outer}
use Rattle.stapl_codegen.proofs.Emits.{turn_written}
use Rattle.stapl_codegen.proofs.emit.Emitter.turn.Goals as goal

pub returns : goal.returns
returns c =
    let body = body_tree c.args.st.now.body in
    let piece : c.self.inside.piece ≡ c.args.self.now.site.piece = ap (λ (d : Draft). d.site.piece) c.self.view_is in
    turn_written (is_outer body) body c.args.self.now c.put.new.self c.body.new.self (sym c.is_outer.ensures ∙ c.if-is_outer.false)
    (c.in_ok-put.ensures ∙ ap (λ n. with_code c.args.self.now (Turn n ∷ [])) piece) c.in_ok-body.ensures
