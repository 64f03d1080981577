use Rattle.std.proofs.Common.{[], ◌∷◌}
use Rattle.dev_card.specs.Sound.{card_in}
use Rattle.tool_io.proofs.PutLemmas.{put_then, put_then_front, front_with, put_failed, puts_same, front_same}
use Rattle.chain_sim.specs.Reports.{instruction_in, held_in}
use Rattle.chain_sim.proofs.ReportCards.{line_shown}
use Rattle.chain_sim.proofs.report.put_line.Goals as goal

pub returns-in_err-put : goal.returns-in_err-put
returns-in_err-put g c =
    let card = card_in (g.D.Device.fitted c.args.device.now) in
    let shown = line_shown (g.D.Device.fitted c.args.device.now) c.args.desc.now c.bytes-name.result.now c.requires.desc c.bytes-name.ensures.value in
    put_failed c.from_residual.result c.from_residual.ensures.0
    (front_same shown (front_with (10 ∷ []) (front_with (held_in card) (front_with (instruction_in card)
    (front_with c.bytes-name.result.now c.in_err-put.ensures.put)))))

pub returns-in_err-put-2 : goal.returns-in_err-put-2
returns-in_err-put-2 g c =
    let card = card_in (g.D.Device.fitted c.args.device.now) in
    let shown = line_shown (g.D.Device.fitted c.args.device.now) c.args.desc.now c.bytes-name.result.now c.requires.desc c.bytes-name.ensures.value in
    put_failed c.from_residual-in_err-put-2.result c.from_residual-in_err-put-2.ensures.0
    (front_same shown (front_with (10 ∷ []) (front_with (held_in card) (front_with (instruction_in card)
    (put_then_front c.in_ok-put.ensures.put c.in_err-put-2.ensures.put)))))

pub returns-in_err-put_instruction : goal.returns-in_err-put_instruction
returns-in_err-put_instruction g c =
    let card = card_in (g.D.Device.fitted c.args.device.now) in
    let shown = line_shown (g.D.Device.fitted c.args.device.now) c.args.desc.now c.bytes-name.result.now c.requires.desc c.bytes-name.ensures.value in
    put_failed c.from_residual-in_err-put_instruction.result c.from_residual-in_err-put_instruction.ensures.0
    (front_same shown (front_with (10 ∷ []) (front_with (held_in card)
    (put_then_front (put_then c.in_ok-put.ensures.put c.in_ok-put-2.ensures.put) c.in_err-put_instruction.ensures))))

pub returns-in_err-put_held : goal.returns-in_err-put_held
returns-in_err-put_held g c =
    let shown = line_shown (g.D.Device.fitted c.args.device.now) c.args.desc.now c.bytes-name.result.now c.requires.desc c.bytes-name.ensures.value in
    put_failed c.from_residual-in_err-put_held.result c.from_residual-in_err-put_held.ensures.0
    (front_same shown (front_with (10 ∷ [])
    (put_then_front
    (put_then (put_then c.in_ok-put.ensures.put c.in_ok-put-2.ensures.put) c.in_ok-put_instruction.ensures)
    c.in_err-put_held.ensures)))

pub returns-in_err-put-3 : goal.returns-in_err-put-3
returns-in_err-put-3 g c =
    let shown = line_shown (g.D.Device.fitted c.args.device.now) c.args.desc.now c.bytes-name.result.now c.requires.desc c.bytes-name.ensures.value in
    put_failed c.from_residual-in_err-put-3.result c.from_residual-in_err-put-3.ensures.0
    (front_same shown
    (put_then_front
    (put_then (put_then (put_then c.in_ok-put.ensures.put c.in_ok-put-2.ensures.put) c.in_ok-put_instruction.ensures)
    c.in_ok-put_held.ensures)
    c.in_err-put-3.ensures.put))

pub returns : goal.returns
returns g c =
    let shown = line_shown (g.D.Device.fitted c.args.device.now) c.args.desc.now c.bytes-name.result.now c.requires.desc c.bytes-name.ensures.value in
    (puts_same shown
    (put_then
    (put_then (put_then (put_then c.in_ok-put.ensures.put c.in_ok-put-2.ensures.put) c.in_ok-put_instruction.ensures)
    c.in_ok-put_held.ensures) c.in_ok-put-3.ensures.put))
