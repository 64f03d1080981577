use Rattle.stapl_instructions.proofs.OperandLemmas.{none_hold}
use Rattle.account_plays.proofs.turns.do_part.Goals as goal

pub rest_of_turn-requires-clause-room : goal.rest_of_turn-requires-clause-room
rest_of_turn-requires-clause-room g c =
    let ready = c.requires.ready in
    record {
      countable = ready.countable;
      room = ready.room;
      few = none_hold c.args.course.now.code.now 0 c.args.work.now ready.room ready.none;
    }
