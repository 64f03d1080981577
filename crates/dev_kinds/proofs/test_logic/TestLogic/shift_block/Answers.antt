use Rattle.std.proofs.Common.{◌≡◌, ◌<◌, refl, ap, length, arith}
use Rattle.base.specs.Bits.{low_bits}
use Rattle.base.proofs.NumberBits.{length-low_bits}
use Rattle.dev_kinds.specs.Logic.{Logic}
use Rattle.dev_kinds.proofs.LogicBlocks.{block_length}
use Rattle.dev_kinds.proofs.LogicBlocks.{ir_block, dr_block}
use Rattle.dev_kinds.proofs.test_logic.TestLogic.shift_block.Goals as goal

pub invariant_of-self-in-DrShift : goal.invariant_of-self-in-DrShift
invariant_of-self-in-DrShift c =
    let s = c.self.inside in
    let same : length c.shift_block-tdo.new.self.bits ≡ length s.dr_list.bits =
    block_length s.dr_list.bits _ c.shift_block-tdo.new.self.bits c.args.n c.args.tdi c.shift_block-tdo.result refl
    c.shift_block-tdo.ensures.bits in
    record {
      good = c.self.invariant.good;
      ir_fits = c.self.invariant.ir_fits;
      some = omega (arith, same, c.self.invariant.some);
      room_for_identity = rw c.shift_block-tdo.ensures.room c.self.invariant.room_for_identity;
    }

pub returns-in-IrShift-clause-shifted : goal.returns-in-IrShift-clause-shifted
returns-in-IrShift-clause-shifted c =
    let s = c.self.inside in
    let k : Logic = record {
      desc = s.desc;
      tap = s.tap;
      instruction = s.instruction;
      ir_list =
          low_bits s.desc.ir_len s.ir_number;
      dr_list = s.dr_list.bits;
      room = s.dr_list.room;
    } in
    let rest = low_bits s.desc.ir_len c.through-tdo.result.1 in
    let some : 0 < length (low_bits s.desc.ir_len s.ir_number) = omega (arith, length-low_bits s.desc.ir_len s.ir_number, c.self.invariant.good.shortest) in
    rw (← c.self.view_is)
    (ir_block k c.args.tdi c.args.n c.through-tdo.result.0 c.args.last rest c.requires.some
    c.through-tdo.ensures.out _ c.in-IrShift.is some c.through-tdo.ensures.bits
    (ap (λ t. record k { tap = t; ir_list = rest }) c.next-self-inside.ensures))

pub returns-in-DrShift-clause-shifted : goal.returns-in-DrShift-clause-shifted
returns-in-DrShift-clause-shifted c =
    let s = c.self.inside in
    let k : Logic = record {
      desc = s.desc;
      tap = s.tap;
      instruction = s.instruction;
      ir_list =
          low_bits s.desc.ir_len s.ir_number;
      dr_list = s.dr_list.bits;
      room = s.dr_list.room;
    } in
    let rest = c.shift_block-tdo.new.self.bits in
    rw (← c.self.view_is)
    (dr_block k c.args.tdi c.args.n c.shift_block-tdo.result c.args.last rest c.requires.some
    c.shift_block-tdo.ensures.below _ c.in-DrShift.is c.self.invariant.some
    c.shift_block-tdo.ensures.bits
    (rw c.shift_block-tdo.ensures.room (ap (λ t. record k { tap = t; dr_list = rest }) c.next-self-inside-in-DrShift.ensures)))
