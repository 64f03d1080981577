use Rattle.std.proofs.Common.{◌≡◌, ◌≤◌, Some, sym, subst, length, arith}
use Rattle.dev_card.specs.declared.desc.Desc.{Desc}
use Rattle.dev_card.specs.Descriptions.{IsOpcode}
use Rattle.board_text.specs.declared.reason.BoardReason.{BoardReason}
use Rattle.board_text.specs.declared.reason.BoardReason.TheVariants as reasons
use Rattle.board_text.specs.Contents.{RegisterLine, register, register_line}
use Rattle.board_text.specs.Boards.{most_registers, RepeatsInDevice, ReasonAgainst, IsSmallest}
use Rattle.board_text.specs.Lines.{texts}
use Rattle.board_text.proofs.ReasonLemmas.{register_many, refuted}
use Rattle.board_text.proofs.reading.read_register.Goals as goal

pub returns-then-len-ge-MOST_REGISTERS-clause-fault : goal.returns-then-len-ge-MOST_REGISTERS-clause-fault
returns-then-len-ge-MOST_REGISTERS-clause-fault c = λ r e.
    let l : RegisterLine = register_line c.args.constant (texts c.args.words.now) in
    let d : Desc = c.in-Some-open_device.device.now in
    let op : IsOpcode d.ir_len l.description.op =
    subst (λ (x : RegisterLine). IsOpcode d.ir_len x.description.op) c.in-Some.ensures.1 (c.is_opcode.ensures.0 c.if-not-is_opcode.false) in
    let new : RepeatsInDevice l.description d → ⊥ =
    λ h. refuted c.repeats_in_device.result c.repeats_in_device.ensures.1 c.if-repeats_in_device.false (subst (λ (x : RegisterLine). RepeatsInDevice x.description d) (sym c.in-Some.ensures.1) h) in
    let many : most_registers ≤ length d.registers = omega arith in
    let same : reasons.TooMany ≡ r = cc in
    subst (λ (x : BoardReason). IsSmallest (ReasonAgainst c.args.earlier.now (Some (register l))) x) same
    (register_many c.args.earlier.now l d (sym c.in-Some-open_device.ensures) c.in-Some.ensures.0 op new many)
