use Rattle.std.proofs.Common.{◌≡◌, ◌∙◌, sym, subst, length, arith}
use Rattle.stapl_lexer.specs.Names.{IsUpperName}
use Rattle.stapl_lexer.proofs.NameLemmas.{upper_name, stored_front, stored_name}
use Rattle.stapl_lexer.proofs.name.Name.read.Goals as goal

pub invariant_of-result : goal.invariant_of-result
invariant_of-result c =
    let all_read : c.loop-i.i ≡ length c.args.bytes.now = omega arith in
    stored_name c.loop-i.upper c.args.bytes.now (sym c.is_name.ensures ∙ c.if-not-is_name.false) (rw all_read at c.loop-i.invariant.so_far)

pub returns-clause-name : goal.returns-clause-name
returns-clause-name c =
    let all_read : c.loop-i.i ≡ length c.args.bytes.now = omega arith in
    subst IsUpperName (sym (stored_front c.loop-i.upper c.args.bytes.now (rw all_read at c.loop-i.invariant.so_far)))
    (upper_name c.args.bytes.now (sym c.is_name.ensures ∙ c.if-not-is_name.false))
