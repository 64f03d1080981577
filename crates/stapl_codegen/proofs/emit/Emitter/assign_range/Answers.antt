use Rattle.std.proofs.Common.{◌∷◌, [], ◌++◌, ap, ◌∙◌}
use Rattle.stapl_syntax.specs.Trees.{expr_tree, array_tree}
use Rattle.stapl_meaning.specs.Operands.{a_range}
use Rattle.stapl_meaning.specs.Values.{Lookup}
use Rattle.stapl_code.specs.declared.instr.Dest.TheVariants.{Range}
use Rattle.stapl_code.specs.declared.instr.Instr.TheVariants.{CopyBits}
use Rattle.stapl_codegen.specs.Emit.{array_literals, operands_code}
use Rattle.stapl_codegen.specs.Drafts.{Draft, scope_of_site, with_code, with_literals, array_operands_in, source_in}
use Rattle.stapl_codegen.proofs.Emits.{range_written}
use Rattle.stapl_codegen.proofs.emit.Emitter.assign_range.Goals as goal

pub returns : goal.returns
returns c =
    let start : Draft = c.args.self.now in
    let look : Lookup = (scope_of_site start.site).look in
    let n = c.variable-number.result in
    let high = expr_tree c.args.high.now in
    let low = expr_tree c.args.low.now in
    let a = array_tree c.args.a.now in
    range_written n high low a (λ source. CopyBits (Range n) source) start c.range.new.self c.source.new.self c.put.new.self c.in_ok-source.source
    c.in_ok-range.ensures c.in_ok-source.ensures.drafted c.in_ok-source.ensures.source c.in_ok-put.ensures
    ∙ ap (λ m. with_literals (with_code start (operands_code look (a_range m high low ++ array_operands_in start a) (CopyBits (Range m) (source_in start a) ∷ []))) (array_literals a))
    c.variable-number.ensures
