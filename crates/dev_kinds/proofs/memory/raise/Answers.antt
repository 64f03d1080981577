use Rattle.std.proofs.Common.{ap, ◌+◌, arith}
use Rattle.dev_kinds.proofs.MemoryLemmas.{raised}
use Rattle.dev_kinds.proofs.memory.raise.Goals as goal

pub returns : goal.returns
returns c =
    let n = c.number_at-next.result + 1 in
    raised c.args.address.now c.set_low_bits.new.self n c.cast_signed.result c.requires (ap (λ m. m + 1) c.number_at-next.ensures.value)
    (omega (arith, c.number_at-next.ensures.limit)) c.cast_signed.ensures c.set_low_bits.ensures.bits
