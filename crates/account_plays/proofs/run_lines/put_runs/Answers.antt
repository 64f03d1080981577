use Rattle.std.proofs.Common.{ap, ◌∙◌, arith, false}
use Rattle.std.specs.Prelude.{flat_map}
use Rattle.std.proofs.lemmas.List.{take_all}
use Rattle.scan_paths.specs.Scans.{lengths_of}
use Rattle.tool_io.proofs.PutLemmas.{puts_nothing, puts_same, front_same, put_failed, puts_item, puts_item_front}
use Rattle.run_cable.specs.declared.run_place.RunPlace.{RunPlace}
use Rattle.account_plays.specs.RunTexts.{place_text}
use Rattle.account_plays.proofs.RunTextLemmas.{texts_of_places}
use Rattle.account_plays.proofs.run_lines.put_runs.Goals as goal

abbrev none : RunPlace
none = record { ir = false; low = 0; count = 0 }

pub loop-at-init : goal.loop-at-init
loop-at-init g c = puts_nothing g.K.Sink c.args.out.now c.requires.whole

pub put_said-requires-clause-whole : goal.put_said-requires-clause-whole
put_said-requires-clause-whole g c = c.loop-at.invariant.whole

pub returns-in_err-put_said : goal.returns-in_err-put_said
returns-in_err-put_said g c =
    let runs = c.args.runs.now in let base = lengths_of c.args.base.now in let text = place_text c.args.turn base runs.bits_in.now runs.bits_out.now in
    put_failed c.from_residual.result c.from_residual.ensures.0
    (front_same (texts_of_places c.args.turn base runs.bits_in.now runs.bits_out.now runs.places.now)
    (puts_item_front text runs.places.now c.loop-at.at-index none c.loop-at-test.true c.loop-at.invariant c.in_err-put_said.ensures))

pub loop-at-preserved : goal.loop-at-preserved
loop-at-preserved g c =
    let runs = c.args.runs.now in let text = place_text c.args.turn (lengths_of c.args.base.now) runs.bits_in.now runs.bits_out.now in
    puts_item text runs.places.now c.loop-at.at-index none c.loop-at-test.true c.loop-at.invariant c.in_ok-put_said.ensures

pub returns : goal.returns
returns g c =
    let runs = c.args.runs.now in let base = lengths_of c.args.base.now in let text = place_text c.args.turn base runs.bits_in.now runs.bits_out.now in
    puts_same (ap (flat_map text) (take_all c.loop-at.at-index runs.places.now (omega arith)) ∙ texts_of_places c.args.turn base runs.bits_in.now runs.bits_out.now runs.places.now)
    c.loop-at.invariant
