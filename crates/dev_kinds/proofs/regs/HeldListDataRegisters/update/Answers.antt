use Rattle.std.proofs.Common.{ap, sym, ◌∙◌}
use Rattle.dev_card.specs.Card.{selected_length}
use Rattle.dev_kinds.proofs.RegsContents.{register_length}
use Rattle.dev_kinds.proofs.regs.HeldListDataRegisters.update.Goals as goal

pub store-requires-clause-same : goal.store-requires-clause-same
store-requires-clause-same c held e =
    let r = c.in-Held.ensures.0 in
    register_length c.args.logic.now c.args.self.now c.requires.fitted c.in-Held.k r held c.in-Held.ensures.1.0 e
    ∙ sym (c.requires.fitted.sound.dr_length c.requires.data ∙ ap selected_length c.in-Held.ensures.1.1)
