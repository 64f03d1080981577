use Rattle.dev_kinds.proofs.RegsContents.{blank_regs}
use Rattle.dev_kinds.proofs.regs.HeldListDataRegisters.blank.Goals as goal

pub returns : goal.returns
returns c k h = blank_regs k c.args.self.now c.clear.new.self h c.clear.ensures
