use Rattle.play_tool.proofs.AnsweredLemmas.{request_answered}
use Rattle.play_tool.proofs.laws.requests_are_answered.Goals as goal

pub returns : goal.returns
returns c = λ request contents held.
    request_answered (record {
      boards = c.every_text_is_a_board_or_has_a_fault.ensures;
      programs = c.each_text_is_a_program_or_has_a_fault.ensures;
      files = c.bytes_are_a_file_or_have_a_fault.ensures;
      checks = c.each_program_has_a_check_text.ensures;
      typed = c.programs_are_typed.ensures;
      taken = c.programs_are_accepted.ensures;
      in_range = c.accepted_code_is_valid.ensures.in_range;
      valid = c.accepted_code_is_valid.ensures.valid;
      code = c.accepted_code_is_valid.ensures.code;
      short = c.files_are_short.ensures;
      fits = c.codes_of_programs_fit.ensures;
      never = c.never_stuck.ensures;
    }) request contents held
