use Rattle.std.proofs.Common.{◌≡◌, Bool, List, take, sym, ap, subst, refl, ◌∙◌}
use Rattle.stapl_meaning.specs.Scans.{scan_of}
use Rattle.written_cable.specs.declared.pin_cable.PinCable.{PinCable}
use Rattle.written_cable.specs.Ports.{DidScan}
use Rattle.written_cable.proofs.DeedLemmas.{scan_failed, pins_put, pins_put_front, kept_made, stays_open, scan_did, scan_did_front}
use Rattle.machine_memory.proofs.SettingLemmas.{same_scan}
use Rattle.machine_memory.proofs.RoomLemmas.{count_of_room}
use Rattle.written_cable.proofs.pin_cable.PinCable.scan.Goals as goal

pub returns-in_err-_state-clause-did : goal.returns-in_err-_state-clause-did
returns-in_err-_state-clause-did g c =
    let m = g.C.Cable in let p = g.O.Paper in let old = c.args.self.now in let e = c.in_err-_state.ensures in let f = e.scanned.front in let k = f.made in
    let s = scan_of c.args.register c.args.settings.now c.args.bits.now in
    let same = same_scan old.base c.args.register c.args.settings.now c.as_bits.result.now c.args.bits.now c.is_instruction.result c.len.result c.stop.result
    c.pads.result.now c.is_instruction.ensures (rw c.len.ensures c.as_bits.ensures.own) c.stop.ensures c.pads.ensures.seen in
    scan_failed _ c.from_residual.result c.from_residual.ensures.0 (record {
      front = scan_did_front m p old c.scan.new.cable s _ same f.front f.rest k.clocks f.parts k.made.made (pins_put_front k.clocks k.made e.kept.broken) k.went_in k.seen;
      broken = e.kept.broken;
      kept = kept_made k.made e.kept.line_cause e.kept.pins_cause;
    })

pub returns-clause-did : goal.returns-clause-did
returns-clause-did g c =
    let m = g.C.Cable in let paper = g.O.Paper in let old = c.args.self.now in let e = c.in_ok-_state.ensures in let h = e.scanned in let k = h.made in
    let p = pins_put h.clocks k.made e.kept.unbroken in let port = k.made.same in
    let s = scan_of c.args.register c.args.settings.now c.args.bits.now in let n = c.len.result in let captured = c.scan.new.captured in
    let same = same_scan old.base c.args.register c.args.settings.now c.as_bits.result.now c.args.bits.now c.is_instruction.result n c.stop.result c.pads.result.now
    c.is_instruction.ensures (rw c.len.ensures c.as_bits.ensures.own) c.stop.ensures c.pads.ensures.seen in
    let same_count : n ≡ c.captured.inside.count = c.len.ensures ∙ sym c.requires.room ∙ sym
    (count_of_room c.captured.inside.count c.captured.inside.room c.args.captured.now c.captured.view_is c.captured.invariant) in
    let all : take n captured ≡ take c.captured.inside.count captured = ap (λ k. take k captured) same_count in
    let new : PinCable g.row.C.Denot g.row.O.Denot = record c.scan.new.cable { tap = c.stop.result } in
    record {
      did = subst (λ (x : List Bool). DidScan m paper s x old new) all
          (scan_did m paper old new s _ same h.clocks (take n captured) c.stop.ensures (record { cable = port.cable; out = port.out; pins = port.pins; base = port.base })
          k.made.made (record { was_whole = p.was_whole; put = p.put; digits = p.digits }) k.went_in k.seen k.cards h.captured_is);
      open_now = stays_open m paper new c.stop.result refl e.kept.unbroken e.arrived.1;
      kept = record {
        same = record { cable = port.cable; out = port.out; pins = port.pins; base = port.base };
        over = k.made.over;
        line_cause = e.kept.line_cause;
        pins_cause = e.kept.pins_cause;
      };
    }
