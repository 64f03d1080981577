use Rattle.stapl_instructions.proofs.OperandLemmas.{room_kept}
use Rattle.stapl_machine.proofs.turns.carry_out_common.Goals as goal

pub try_at-requires-clause-room : goal.try_at-requires-clause-room
try_at-requires-clause-room g c = record {
  countable = c.requires.countable;
  room = room_kept c.args.code.now c.args.work.now c.loop-i.work c.requires.room c.loop-i.invariant.room;
  few = c.loop-i.invariant.few;
}
