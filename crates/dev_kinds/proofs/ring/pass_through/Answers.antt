use Rattle.std.proofs.Common.{ap, sym, ◌++◌, ◌∙◌}
use Rattle.base.specs.Bits.{low_bits}
use Rattle.base.proofs.NumberBits.{length-low_bits}
use Rattle.dev_kinds.specs.ShiftRegister.{rotated}
use Rattle.std.proofs.Common.{take}
use Rattle.dev_kinds.proofs.RingBlocks.{front_loaded}
use Rattle.dev_kinds.proofs.ring.pass_through.Goals as goal

pub returns-clause-bits : goal.returns-clause-bits
returns-clause-bits c =
    let a = c.args in
    let list = c.through-out.result.1 in
    ap (λ z. z ++ low_bits a.n a.number) (sym c.number_of_ring.ensures.bits) ∙ c.through-out.ensures.bits
    ∙ ap (λ z. low_bits a.n c.through-out.result.0 ++ z)
    (sym (ap (λ z. rotated 0 (take a.len z)) c.set_word.ensures.bits ∙ front_loaded a.len (low_bits a.len list) a.ring.now (length-low_bits a.len list)))
