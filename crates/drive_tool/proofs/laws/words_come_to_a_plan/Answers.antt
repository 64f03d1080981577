use Rattle.drive_tool.proofs.SomePlan.{words_planned}
use Rattle.drive_tool.proofs.laws.words_come_to_a_plan.Goals as goal

pub returns : goal.returns
returns c = λ words contents held.
    words_planned (record {
      boards = c.every_text_is_a_board_or_has_a_fault.ensures;
      programs = c.each_text_is_a_program_or_has_a_fault.ensures;
    }) words contents held
