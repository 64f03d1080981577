use Rattle.scans_tool.proofs.Answered.{words_answered}
use Rattle.scans_tool.proofs.laws.words_are_answered.Goals as goal

pub returns : goal.returns
returns c = λ words contents held.
    words_answered (record {
      boards = c.every_text_is_a_board_or_has_a_fault.ensures;
      programs = c.each_text_is_a_program_or_has_a_fault.ensures;
      pieces = c.every_text_has_pieces.ensures;
      typed = c.programs_are_typed.ensures;
      taken = c.programs_are_accepted.ensures;
      in_range = c.accepted_code_is_valid.ensures.in_range;
      valid = c.accepted_code_is_valid.ensures.valid;
      code = c.accepted_code_is_valid.ensures.code;
      never = c.never_stuck.ensures;
    }) words contents held
