use Rattle.std.proofs.Common.{List, ℕ, ◌≤◌, length, ap, sym, ◌∙◌, subst}
use Rattle.dev_card.specs.declared.desc.RegDesc.{RegDesc}
use Rattle.tool_io.specs.Lines.{HasPut}
use Rattle.tool_io.proofs.PutLemmas.{puts_nothing, puts_same}
use Rattle.chain_sim.proofs.ReportCards.{plain_held, registers_fit, registers_held, memory_fits, memory_held}
use Rattle.chain_sim.proofs.report.put_held.Goals as goal

pub returns-in-Plain : goal.returns-in-Plain
returns-in-Plain g c =
    (puts_same (sym (plain_held (g.D.Device.fitted c.args.device.now) c.args.desc.now c.requires.desc c.in-Plain.is))
    (puts_nothing g.K.Sink c.args.out.now c.requires.whole))

pub put_registers-requires-clause-cells : goal.put_registers-requires-clause-cells
put_registers-requires-clause-cells g c =
    ap length c.as_slice.ensures ∙ (registers_fit (g.D.Device.fitted c.args.device.now) c.args.desc.now c.requires.desc c.in-Regs.is).0

pub put_registers-requires-clause-few : goal.put_registers-requires-clause-few
put_registers-requires-clause-few g c =
    subst (λ (l : List RegDesc). length l ≤ 64) (sym c.as_slice.ensures)
    (registers_fit (g.D.Device.fitted c.args.device.now) c.args.desc.now c.requires.desc c.in-Regs.is).1

pub returns-in-Regs : goal.returns-in-Regs
returns-in-Regs g c =
    subst (λ (t : List ℕ). HasPut g.K.Sink c.args.out.now t c.put_registers.new.out c.put_registers.result)
    (registers_held (g.D.Device.fitted c.args.device.now) c.args.desc.now c.as_slice.result.now c.requires.desc c.in-Regs.is c.as_slice.ensures)
    c.put_registers.ensures

pub put_memory-requires-clause-address : goal.put_memory-requires-clause-address
put_memory-requires-clause-address g c = memory_fits (g.D.Device.fitted c.args.device.now) c.args.desc.now c.requires.desc c.in-Flash.is

pub returns-in-Flash : goal.returns-in-Flash
returns-in-Flash g c =
    subst (λ (t : List ℕ). HasPut g.K.Sink c.args.out.now t c.put_memory.new.out c.put_memory.result)
    (memory_held (g.D.Device.fitted c.args.device.now) c.args.desc.now c.requires.desc c.in-Flash.is) c.put_memory.ensures
