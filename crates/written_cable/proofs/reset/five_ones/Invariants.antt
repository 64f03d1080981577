use Rattle.std.proofs.Common.{◌≡◌, ◌≤◌, ◌-◌, length, replicate, true}
use Rattle.dev_card.specs.Clocks.{with_zero}
use Rattle.scan_paths.specs.Cables.{whole, line, pins, HasPartCause}
use Rattle.written_cable.proofs.ResetLemmas.{IsNoted}
use Rattle.written_cable.proofs.reset.five_ones.Given as goal

abbrev pub invariant-loop-turn : goal.invariant-loop-turn
invariant-loop-turn g l =
    let c = g.C.Cable in
    record {
      whole : c.breakage l.cable ≡ whole;
      few : length l.digits ≤ l._turn;
      within : l._turn ≤ 5;
      line : HasPartCause line c.line_faults c.is_line_last c.breakage l.fn.cable l.cable;
      pins : HasPartCause pins c.pin_faults c.is_pin_last c.breakage l.fn.cable l.cable;
      noted : IsNoted c.board c.made l.fn.cable l.cable (with_zero (replicate (5 - l._turn) true)) l.digits;
    }
