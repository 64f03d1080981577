use Rattle.std.proofs.Common.{◌≡◌, rules, get_or}
use Rattle.machine_memory.proofs.ArrayLemmas.{other_put}
use Rattle.machine_copies.proofs.copying.put_other.Goals as goal

pub returns : goal.returns
returns c =
    let vars = c.args.variables.now.items in let old = c.replace-held.result in
    let old_is : old ≡ get_or vars c.args.part.array old = search rules in
    other_put vars c.args.part c.args.from c.replace-held.new.dest old c.copy_bits.new.held c.index.result.now c.requires.is_part.there c.requires.source.there
    c.requires.other old_is c.index.ensures c.copy_bits.ensures
