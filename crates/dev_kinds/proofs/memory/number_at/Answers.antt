use Rattle.std.proofs.Common.{◌≡◌, ◌<◌, sym, subst}
use Rattle.base.specs.Bits.{number_of}
use Rattle.dev_kinds.proofs.MemoryLemmas.{number_read, address_below}
use Rattle.dev_kinds.proofs.memory.number_at.Goals as goal

pub returns-clause-value : goal.returns-clause-value
returns-clause-value c = number_read c.args.address.now c.to_int.result c.cast_unsigned.result c.requires c.to_int.ensures c.cast_unsigned.ensures

pub returns-clause-limit : goal.returns-clause-limit
returns-clause-limit c =
    let value : c.cast_unsigned.result ≡ number_of c.args.address.now = number_read c.args.address.now c.to_int.result c.cast_unsigned.result c.requires c.to_int.ensures c.cast_unsigned.ensures in
    subst (λ n. n < 65536) (sym value) (address_below c.args.address.now c.requires)
