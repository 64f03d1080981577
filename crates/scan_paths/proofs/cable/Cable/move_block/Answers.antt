use Rattle.std.proofs.Common.{◌+◌, ◌-◌, ◌/◌, ◌%◌, nat_eq, false, List, [], ◌∷◌, refl, arith}
use Rattle.base.specs.Bits.{low_bits}
use Rattle.dev_card.specs.Board.{Input}
use Rattle.dev_card.specs.Clocks.{with_zero}
use Rattle.scan_paths.proofs.CallsInARow.{clocks_nothing, front_clock}
use Rattle.scan_paths.proofs.Parts.{cable_start, cable_then, cable_done, cable_failed, block_failed}
use Rattle.scan_paths.proofs.Arriving.{all_bits, next_bit, no_bits}
use Rattle.scan_paths.proofs.Capturing.{seen_none, seen_clock, seen_failed, shifted_of_seen, bit_above}
use Rattle.scan_paths.proofs.cable.Cable.move_block.Goals as goal

pub loop-i-init : goal.loop-i-init
loop-i-init g c =
    let m = g.Self.Cable in
    let start = c.args.self.now in
    record {
      kept = cable_start tt _ _ _ _ _ c.requires.whole;
      below = omega arith;
      way = seen_none m.board m.made start _ _ (all_bits c.args.n c.args.tms)
          (clocks_nothing m.board m.made start start (record { made = g.met.Self.Cable.none_made start; cards = refl }));
    }

pub clock-requires : goal.clock-requires
clock-requires g c = c.loop-i.invariant.kept.unbroken

pub returns-in_err-tdo-clause-moved : goal.returns-in_err-tdo-clause-moved
returns-in_err-tdo-clause-moved g c =
    let m = g.Self.Cable in
    let i : Input = record { tms = nat_eq (c.loop-i.rest % 2) 1; tdi = false } in
    let rest : List Input = with_zero (low_bits (c.args.n - (c.loop-i.i + 1)) (c.loop-i.rest / 2)) in
    let s = rw (next_bit c.args.n c.loop-i.i c.loop-i.rest (omega arith)) at c.loop-i.invariant.way in
    block_failed c.from_residual.result c.from_residual.ensures.0
    (seen_failed m.board m.made g.met.Self.Cable.both_made c.args.self.now c.loop-i.self c.clock.new.self (i ∷ []) rest _ _
    (front_clock m.board m.made c.loop-i.self c.clock.new.self i [] c.in_err-tdo.ensures.clocked) s)

pub returns-in_err-tdo-clause-kept : goal.returns-in_err-tdo-clause-kept
returns-in_err-tdo-clause-kept g c =
    cable_failed c.from_residual.result c.from_residual.ensures.0 (cable_then c.loop-i.invariant.kept c.in_err-tdo.ensures.kept)

pub with_bit-seen-requires-clause-below : goal.with_bit-seen-requires-clause-below
with_bit-seen-requires-clause-below g c = c.loop-i.invariant.below

pub loop-i-preserved : goal.loop-i-preserved
loop-i-preserved g c =
    let m = g.Self.Cable in
    let s = rw (next_bit c.args.n c.loop-i.i c.loop-i.rest (omega arith)) at c.loop-i.invariant.way in
    let t = seen_clock m.board m.made g.met.Self.Cable.both_made c.args.self.now c.loop-i.self c.clock.new.self _ _ _ _ _ c.in_ok-tdo.ensures.clocked s in
    record {
      kept = cable_then c.loop-i.invariant.kept (cable_done c.in_ok-tdo.ensures.kept);
      below = c.with_bit-seen.ensures.below;
      way = rw (bit_above c.loop-i.i c.loop-i.seen c.with_bit-seen.result c.in_ok-tdo.tdo c.loop-i.invariant.below c.with_bit-seen.ensures.value) at t;
    }

pub returns-clause-moved : goal.returns-clause-moved
returns-clause-moved g c =
    let m = g.Self.Cable in
    shifted_of_seen m.board m.made c.args.self.now c.loop-i.self _ c.loop-i.i c.loop-i.seen c.loop-i.invariant.below
    (rw (no_bits c.args.n c.loop-i.i c.loop-i.rest (omega arith)) at c.loop-i.invariant.way)

pub returns-clause-kept : goal.returns-clause-kept
returns-clause-kept g c = cable_done c.loop-i.invariant.kept
