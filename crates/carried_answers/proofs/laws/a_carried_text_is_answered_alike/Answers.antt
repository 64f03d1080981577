use Rattle.tool_frame.specs.Files.{first_of}
use Rattle.code_plays.specs.Plays.{neighbours}
use Rattle.carried_answers.proofs.CarriedAnswers.{answered_alike, devices_good, devices_few}
use Rattle.carried_answers.proofs.laws.a_carried_text_is_answered_alike.Goals as goal

pub returns : goal.returns
returns c = λ play contents path new q.
    answered_alike play.request contents new q
    (c.a_carried_text_plays_as_its_program_with_base_padding.ensures.plays q.bytes new q.program q.own q.devices (neighbours q.run) q.is q.bare
    (devices_good (first_of contents) q.devices q.board) (devices_few (first_of contents) q.devices q.board) q.carried q.read)
