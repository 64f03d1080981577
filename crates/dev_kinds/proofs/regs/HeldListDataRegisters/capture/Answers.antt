use Rattle.std.proofs.Common.{◌≡◌, [], ap, sym, ◌∙◌}
use Rattle.std.proofs.lemmas.Option.{get_or_from_slice_get}
use Rattle.dev_card.specs.Card.{captured, cell_of, constant_or}
use Rattle.dev_kinds.specs.DataRegisters.{card_with, without_memory}
use Rattle.dev_kinds.proofs.RegsContents.{register_length}
use Rattle.dev_kinds.proofs.regs.HeldListDataRegisters.capture.Goals as goal

pub capture_held-requires-clause-register : goal.capture_held-requires-clause-register
capture_held-requires-clause-register c =
    let r = c.in-Held.ensures.0 in
    let place = c.in-Held.ensures.1.0 in
    let same = register_length c.args.logic.now c.args.self.now c.requires in
    (r, (place, same c.in-Held.k r c.get.result.now place c.get.ensures))

pub returns-in-Held-clause-captured : goal.returns-in-Held-clause-captured
returns-in-Held-clause-captured c =
    let k = c.args.logic.now in
    let card = card_with k (without_memory c.args.self.now) in
    let r = c.in-Held.ensures.0 in
    let cell : cell_of card c.in-Held.k ≡ c.get.result.now =
    get_or_from_slice_get c.args.self.now c.in-Held.k c.get.result.now [] c.get.ensures in
    c.capture_held.ensures r c.in-Held.ensures.1.0
    ∙ ap (λ bits. record k { dr_list = bits })
    (ap (constant_or r.constant) (sym cell) ∙ ap (captured card) (sym c.in-Held.ensures.1.1))
