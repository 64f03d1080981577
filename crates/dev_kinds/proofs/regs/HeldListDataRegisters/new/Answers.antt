use Rattle.std.proofs.Common.{false, map, replicate, ap, ◌∙◌}
use Rattle.std.proofs.lemmas.Result.{IfOk-weaker}
use Rattle.dev_card.specs.declared.desc.RegDesc.{RegDesc}
use Rattle.dev_kinds.proofs.RegsContents.{fresh_regs}
use Rattle.dev_kinds.proofs.regs.HeldListDataRegisters.new.Goals as goal

pub returns : goal.returns
returns c =
    IfOk-weaker c.zeros.result _ _ (λ held e. fresh_regs c.args.desc.now held c.requires.good c.requires.kind
    (e ∙ ap (map (λ (r : RegDesc). replicate r.len false)) c.as_slice.ensures)) c.zeros.ensures
