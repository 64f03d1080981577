use Rattle.std.proofs.Common.{arith, rules}
use Rattle.scan_paths.specs.Scans.{lengths_of}
use Rattle.machine_memory.specs.Acts.{state_of}
use Rattle.stapl_instructions.proofs.OperandLemmas.{room_kept}
use Rattle.written_cable.specs.Signals.{signals_of}
use Rattle.account_plays.proofs.RunAccounts.{so_far_none, so_far_more, played_over, played_spent, played_front, next_told, next_finds}
use Rattle.account_plays.proofs.running.account_turns.Goals as goal

pub loop-turn-init : goal.loop-turn-init
loop-turn-init g c =
    let course = c.args.course.now in let first = state_of course.chosen.now c.args.work.now in
    record {
      ready = c.requires.ready;
      open_now = c.requires.open;
      whole = c.requires.whole;
      within = omega arith;
      played = so_far_none g.C.Cable g.K.Sink course.code.now course.table.now (lengths_of course.base) c.args.start first c.args.from c.args.cable.now c.args.runs.now
          c.args.out.now (g.met.C.Cable.none_made c.args.cable.now) c.requires.whole c.requires.none_lost;
    }

pub unreachable-requires : goal.unreachable-requires
unreachable-requires g c =
    let course = c.args.course.now in let first = state_of course.chosen.now c.args.work.now in let l = c.loop-turn in
    let told = next_told g.C.Cable g.K.Sink course.code.now course.table.now (lengths_of course.base) c.args.start first c.args.from c.args.cable.now c.args.runs.now
    c.args.out.now l.turn l.place (state_of course.chosen.now l.work) l.tap l.cable l.runs l.out l.invariant.played c.requires.told in
    c.in_default.ensures.untold told.0 told.1

pub account_turn-requires-clause-ready : goal.account_turn-requires-clause-ready
account_turn-requires-clause-ready g c = c.loop-turn.invariant.ready

pub account_turn-requires-clause-open : goal.account_turn-requires-clause-open
account_turn-requires-clause-open g c = c.loop-turn.invariant.open_now

pub account_turn-requires-clause-whole : goal.account_turn-requires-clause-whole
account_turn-requires-clause-whole g c = c.loop-turn.invariant.whole

pub account_turn-requires-clause-none_lost : goal.account_turn-requires-clause-none_lost
account_turn-requires-clause-none_lost g c = c.loop-turn.invariant.played.sums.none_lost

pub account_turn-requires-clause-room : goal.account_turn-requires-clause-room
account_turn-requires-clause-room g c =
    let course = c.args.course.now in let first = state_of course.chosen.now c.args.work.now in let l = c.loop-turn in
    next_finds g.C.Cable g.K.Sink course.code.now course.table.now (lengths_of course.base) c.args.start first c.args.from c.args.cable.now c.args.runs.now
    c.args.out.now l.turn l.place (state_of course.chosen.now l.work) l.tap l.cable l.runs l.out l.invariant.played c.in-Some.said c.in-Some.ensures.told c.requires.room

pub returns-in-Err-clause-played : goal.returns-in-Err-clause-played
returns-in-Err-clause-played g c =
    let course = c.args.course.now in let first = state_of course.chosen.now c.args.work.now in let l = c.loop-turn in
    played_front g.C.Cable g.K.Sink course.code.now course.table.now (lengths_of course.base) c.args.start first c.args.from c.args.cable.now c.args.runs.now
    c.args.out.now l.turn l.place (state_of course.chosen.now l.work) l.tap l.cable l.runs l.out l.invariant.played c.in-Some.said c.in-Some.ensures.told c.args.turns c.loop-turn-test.true
    c.account_turn.new.out
    c.in-Err.ensures.accounted

pub returns-in-Err-clause-clocked : goal.returns-in-Err-clause-clocked
returns-in-Err-clause-clocked g c =
    let p = c.loop-turn.invariant.played in let made = c.account_turn.ensures.clocked in
    record { signals = _; made = g.met.C.Cable.both_made _ _ _ (signals_of p.events) made.signals p.made made.made }

pub returns-in-Over-clause-played : goal.returns-in-Over-clause-played
returns-in-Over-clause-played g c =
    let course = c.args.course.now in let first = state_of course.chosen.now c.args.work.now in let l = c.loop-turn in
    played_over g.C.Cable g.K.Sink course.code.now course.table.now (lengths_of course.base) c.args.start first c.args.from c.args.cable.now c.args.runs.now c.args.out.now
    l.turn l.place (state_of course.chosen.now l.work) l.tap l.cable l.runs l.out l.invariant.played c.in-Some.said c.in-Some.ensures.told
    g.met.C.Cable.both_made c.account_turn.new.cable c.account_turn.new.runs c.account_turn.new.out c.in-Ok.turned.tap c.in-Ok.turned.went
    (state_of course.chosen.now c.account_turn.new.work) c.in-Ok.ensures.accounted c.args.turns c.in-Over.ending c.in-Over.is c.loop-turn-test.true

pub returns-in-Over-clause-clocked : goal.returns-in-Over-clause-clocked
returns-in-Over-clause-clocked g c =
    let p = c.loop-turn.invariant.played in let made = c.account_turn.ensures.clocked in
    record { signals = _; made = g.met.C.Cable.both_made _ _ _ (signals_of p.events) made.signals p.made made.made }

pub loop-turn-preserved : goal.loop-turn-preserved
loop-turn-preserved g c =
    let course = c.args.course.now in let first = state_of course.chosen.now c.args.work.now in let l = c.loop-turn in
    record {
      ready = record {
        countable = l.invariant.ready.countable;
        none = search rules;
        room = room_kept course.code.now l.work c.account_turn.new.work l.invariant.ready.room c.account_turn.ensures.room;
      };
      open_now = c.in-Ok.ensures.open;
      whole = c.in-Ok.ensures.accounted.put.whole;
      within = search rules;
      played = so_far_more g.C.Cable g.K.Sink course.code.now course.table.now (lengths_of course.base) c.args.start first c.args.from c.args.cable.now c.args.runs.now
          c.args.out.now l.turn l.place (state_of course.chosen.now l.work) l.tap l.cable l.runs l.out l.invariant.played c.in-Some.said c.in-Some.ensures.told
          g.met.C.Cable.both_made c.account_turn.new.cable c.account_turn.new.runs c.account_turn.new.out c.in-Ok.turned.tap c.in-Ok.turned.went
          (state_of course.chosen.now c.account_turn.new.work) c.in-Ok.ensures.accounted c.in-On.to c.in-On.is;
    }

pub returns-clause-played : goal.returns-clause-played
returns-clause-played g c =
    let course = c.args.course.now in let first = state_of course.chosen.now c.args.work.now in let l = c.loop-turn in
    played_spent g.C.Cable g.K.Sink course.code.now course.table.now (lengths_of course.base) c.args.start first c.args.from c.args.cable.now c.args.runs.now c.args.out.now
    c.args.turns l.turn l.place (state_of course.chosen.now l.work) l.tap l.cable l.runs l.out (omega arith) l.invariant.played

pub returns-clause-clocked : goal.returns-clause-clocked
returns-clause-clocked g c = let p = c.loop-turn.invariant.played in record { signals = signals_of p.events; made = p.made }
