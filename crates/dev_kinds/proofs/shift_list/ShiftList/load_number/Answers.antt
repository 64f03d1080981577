use Rattle.base.specs.Bits.{low_bits}
use Rattle.base.proofs.NumberBits.{length-low_bits}
use Rattle.dev_kinds.proofs.RingBlocks.{front_loaded}
use Rattle.dev_kinds.proofs.shift_list.ShiftList.load_number.Goals as goal

pub returns : goal.returns
returns c =
    let e = front_loaded c.args.n (low_bits c.args.n c.args.number) c.self.inside.ring (length-low_bits c.args.n c.args.number) in
    rw (← c.self.view_is, c.set_word.ensures.length, c.set_word.ensures.bits, e)
