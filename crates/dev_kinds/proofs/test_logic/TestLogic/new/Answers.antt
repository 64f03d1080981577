use Rattle.base.proofs.NumberBits.{low_bits_of_zero}
use Rattle.dev_kinds.proofs.test_logic.TestLogic.new.Goals as goal

pub returns : goal.returns
returns c = rw (c.in_ok-desc.ensures, c.opcode_in_reset-instruction.ensures, c.in_ok-dr_list.ensures, low_bits_of_zero c.args.desc.now.ir_len)
