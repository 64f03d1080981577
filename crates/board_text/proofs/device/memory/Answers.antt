use Rattle.std.proofs.Common.{arith}
use Rattle.board_text.specs.Lines.{texts}
use Rattle.board_text.proofs.FieldLemmas.{memory_word}
use Rattle.board_text.proofs.device.memory.Goals as goal

pub number_within-requires-clause-spelled : goal.number_within-requires-clause-spelled
number_within-requires-clause-spelled c = memory_word (texts c.args.words.now) 9 c.requires (omega arith)

pub number_within-requires-2-clause-spelled : goal.number_within-requires-2-clause-spelled
number_within-requires-2-clause-spelled c = memory_word (texts c.args.words.now) 11 c.requires (omega arith)

pub number_within-requires-3-clause-spelled : goal.number_within-requires-3-clause-spelled
number_within-requires-3-clause-spelled c = memory_word (texts c.args.words.now) 13 c.requires (omega arith)

pub number_within-requires-4-clause-spelled : goal.number_within-requires-4-clause-spelled
number_within-requires-4-clause-spelled c = memory_word (texts c.args.words.now) 15 c.requires (omega arith)

pub opcode_at-requires : goal.opcode_at-requires
opcode_at-requires c = memory_word (texts c.args.words.now) 1 c.requires (omega arith)

pub opcode_at-requires-2 : goal.opcode_at-requires-2
opcode_at-requires-2 c = memory_word (texts c.args.words.now) 3 c.requires (omega arith)

pub opcode_at-requires-3 : goal.opcode_at-requires-3
opcode_at-requires-3 c = memory_word (texts c.args.words.now) 5 c.requires (omega arith)

pub opcode_at-requires-4 : goal.opcode_at-requires-4
opcode_at-requires-4 c = memory_word (texts c.args.words.now) 7 c.requires (omega arith)
