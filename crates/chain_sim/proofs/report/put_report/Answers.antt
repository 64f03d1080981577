use Rattle.std.proofs.Common.{rules, ◌+◌, map, drop, refl, arith}
use Rattle.dev_card.specs.Sound.{card_in}
use Rattle.tool_io.proofs.PutLemmas.{put_failed}
use Rattle.chain_sim.specs.Places.{cards_at}
use Rattle.chain_sim.specs.Reports.{line_in, report_in}
use Rattle.chain_sim.proofs.PutParts.{nothing_put, part_put, part_failed, all_put}
use Rattle.chain_sim.proofs.ReportCards.{same_count, place_inside, described_there, line_more, report_end}
use Rattle.chain_sim.proofs.report.put_report.Goals as goal

pub loop-i-init : goal.loop-i-init
loop-i-init g c =
    let whole = report_in (cards_at (map g.D.Device.fitted c.args.rack.now) c.args.places.now) in
    record {
      puts = nothing_put whole c.args.out.now whole c.requires.whole refl;
    }

pub bounds-places-i : goal.bounds-places-i
bounds-places-i g c =
    omega (arith, same_count (map g.D.Device.fitted c.args.rack.now) c.args.places.now c.args.descs.now c.requires.board)

pub offset_bounds-rack-place : goal.offset_bounds-rack-place
offset_bounds-rack-place g c =
    omega (
      arith,
      place_inside g.D.Device.fitted c.args.rack.now c.args.places.now c.args.descs.now c.loop-i.i c.index-descs-i.result
          c.requires.board (omega arith) c.index-descs-i.is,
    )

pub bounds-rack-place : goal.bounds-rack-place
bounds-rack-place g c =
    place_inside g.D.Device.fitted c.args.rack.now c.args.places.now c.args.descs.now c.loop-i.i c.index-descs-i.result
    c.requires.board (omega arith) c.index-descs-i.is

pub put_line-requires-clause-desc : goal.put_line-requires-clause-desc
put_line-requires-clause-desc g c =
    described_there g.D.Device.fitted c.args.rack.now c.args.places.now c.args.descs.now c.loop-i.i c.index-descs-i.result
    c.requires.board (omega arith) c.index-descs-i.is
    c.index-rack-place.result c.index-rack-place.is

pub loop-i-preserved : goal.loop-i-preserved
loop-i-preserved g c =
    let rack = map g.D.Device.fitted c.args.rack.now in
    let places = c.args.places.now in
    let i = c.loop-i.i in
    record {
      puts = part_put (report_in (cards_at rack places)) (report_in (cards_at rack (drop i places)))
          (line_in (card_in (g.D.Device.fitted c.index-rack-place.result)))
          (report_in (cards_at rack (drop (i + 1) places)))
          (line_more g.D.Device.fitted c.args.rack.now places c.args.descs.now i c.index-descs-i.result c.requires.board (omega arith) c.index-descs-i.is
          c.index-rack-place.result c.index-rack-place.is) c.loop-i.invariant.puts c.in_ok-put_line.ensures;
    }

pub returns-in_err-put_line : goal.returns-in_err-put_line
returns-in_err-put_line g c =
    let rack = map g.D.Device.fitted c.args.rack.now in
    let places = c.args.places.now in
    let i = c.loop-i.i in
    put_failed c.from_residual.result c.from_residual.ensures.0
    (part_failed (report_in (cards_at rack places)) (report_in (cards_at rack (drop i places)))
    (line_in (card_in (g.D.Device.fitted c.index-rack-place.result)))
    (report_in (cards_at rack (drop (i + 1) places)))
    (line_more g.D.Device.fitted c.args.rack.now places c.args.descs.now i c.index-descs-i.result c.requires.board (omega arith) c.index-descs-i.is
    c.index-rack-place.result c.index-rack-place.is) c.loop-i.invariant.puts c.in_err-put_line.ensures)

pub returns : goal.returns
returns g c =
    let rack = map g.D.Device.fitted c.args.rack.now in
    let places = c.args.places.now in
    (all_put (report_in (cards_at rack places)) (report_in (cards_at rack (drop c.loop-i.i places)))
    (report_end rack places c.loop-i.i (omega (arith, same_count rack places c.args.descs.now c.requires.board))) c.loop-i.invariant.puts)
