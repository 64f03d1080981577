use Rattle.std.proofs.Common.{refl, ◌+◌, None, subst, arith}
use Rattle.stapl_instructions.specs.declared.control.Went.TheVariants as went
use Rattle.machine_memory.specs.Acts.{state_of}
use Rattle.stapl_instructions.specs.Moves.{led_on}
use Rattle.stapl_machine.specs.Turns.{rest_of, ticks_from, no_ticks, after_it, ticks_after_it, IsCleanAfter}
use Rattle.written_cable.proofs.DeedLemmas.{kept_none, kept_both}
use Rattle.stapl_instructions.proofs.OperandLemmas.{room_kept}
use Rattle.stapl_machine.proofs.TurnLemmas.{does_still, does_same, does_of, front_of, does_both, does_both_front}
use Rattle.stapl_machine.proofs.turns.rest_of_turn.Goals as goal

pub parts-init : goal.parts-init
parts-init g c =
    let m = g.C.Cable in let turn = rest_of c.args.code.now c.args.from c.args.chosen.now c.args.work.now in
    let count = ticks_from c.args.code.now c.args.from c.args.chosen.now c.args.work.now in
    record {
      open_now = c.requires.open;
      room = c.requires.room.room;
      kept_room = (omega arith, omega arith);
      few = c.requires.room.few;
      does = does_still m g.O.Paper c.args.port.now turn turn count count c.args.steps.now c.args.steps.now
          (g.met.C.Cable.none_made c.args.port.now.cable.now) c.requires.open.whole_port (λ k. refl) (λ k. refl);
      kept = kept_none c.args.port.now c.requires.open.whole_port;
    }

pub parts-preserved : goal.parts-preserved
parts-preserved g c =
    let m = g.C.Cable in let s = g.O.Paper in
    let code = c.args.code.now in let chosen = c.args.chosen.now in let i = c.in-Within.i in let first = c.args.work.now in let old = c.parts.work in let mid =
    c.carry_out_common.new.work in let new = c.carry_out.new.work in
    record {
      open_now = c.in-Ok-None.ensures.keeps.open_now;
      room = room_kept code mid new (room_kept code old mid c.parts.invariant.room c.carry_out_common.ensures.room) c.carry_out.ensures.room;
      kept_room = (
        omega (arith, c.parts.invariant.kept_room.0, c.carry_out_common.ensures.room.0, c.carry_out.ensures.room.0),
        omega (arith, c.parts.invariant.kept_room.1, c.carry_out_common.ensures.room.1, c.carry_out.ensures.room.1),
      );
      few = subst (λ e. IsCleanAfter code i e new) c.in-Ok-None.field-0-is c.in-Ok-None.ensures.clean;
      does =
          does_both m s g.met.C.Cable.both_made c.args.port.now c.parts.port c.carry_out.new.port (rest_of code c.args.from chosen first)
          (rest_of code c.parts.place chosen old) (rest_of code (i + 1) chosen new)
          (ticks_from code c.args.from chosen first) (ticks_from code c.parts.place chosen old)
          (ticks_from code (i + 1) chosen new) c.args.steps.now c.parts.steps c.carry_out.new.steps c.parts.invariant.does
          (does_of m s c.parts.port c.carry_out.new.port (rest_of code i chosen mid) (rest_of code c.parts.place chosen old) (rest_of code (i + 1) chosen new)
          (ticks_from code i chosen mid) (ticks_from code c.parts.place chosen old) (ticks_from code (i + 1) chosen new) c.parts.steps c.carry_out_common.new.steps c.carry_out.new.steps
          (c.in-Within.ensures.does chosen) (c.in-Within.ensures.ticks chosen)
          (does_same m s c.parts.port c.carry_out.new.port (rest_of code i chosen mid) (ticks_from code i chosen mid) c.carry_out_common.new.steps c.carry_out.new.steps
          (λ e. after_it code i chosen new e) (λ e. ticks_after_it code i chosen new e) c.in-Ok-None.field-0-is c.in-Ok-None.ensures.does));
      kept = kept_both c.parts.invariant.kept c.in-Ok-None.ensures.keeps.kept;
    }

pub returns-in-Turn-clause-does : goal.returns-in-Turn-clause-does
returns-in-Turn-clause-does g c =
    let m = g.C.Cable in let s = g.O.Paper in
    let code = c.args.code.now in let chosen = c.args.chosen.now in let first = c.args.work.now in let old = c.parts.work in let mid = c.carry_out_common.new.work in
    let led = led_on (went.On c.in-Turn.to) (state_of chosen mid) in
    does_both m s g.met.C.Cable.both_made c.args.port.now c.parts.port c.parts.port (rest_of code c.args.from chosen first) (rest_of code c.parts.place chosen old) led
    (ticks_from code c.args.from chosen first) (ticks_from code c.parts.place chosen old) no_ticks c.args.steps.now c.parts.steps c.carry_out_common.new.steps c.parts.invariant.does
    (does_still m s c.parts.port (rest_of code c.parts.place chosen old) led (ticks_from code c.parts.place chosen old) no_ticks c.parts.steps c.carry_out_common.new.steps
    (g.met.C.Cable.none_made c.parts.port.cable.now) c.parts.invariant.open_now.whole_port (c.in-Turn.ensures.does chosen) (c.in-Turn.ensures.ticks chosen))

pub returns-in-End-clause-does : goal.returns-in-End-clause-does
returns-in-End-clause-does g c =
    let m = g.C.Cable in let s = g.O.Paper in
    let code = c.args.code.now in let chosen = c.args.chosen.now in let first = c.args.work.now in let old = c.parts.work in let mid = c.carry_out_common.new.work in
    let led = led_on (went.Over None) (state_of chosen mid) in
    does_both m s g.met.C.Cable.both_made c.args.port.now c.parts.port c.parts.port (rest_of code c.args.from chosen first) (rest_of code c.parts.place chosen old) led
    (ticks_from code c.args.from chosen first) (ticks_from code c.parts.place chosen old) no_ticks c.args.steps.now c.parts.steps c.carry_out_common.new.steps c.parts.invariant.does
    (does_still m s c.parts.port (rest_of code c.parts.place chosen old) led (ticks_from code c.parts.place chosen old) no_ticks c.parts.steps c.carry_out_common.new.steps
    (g.met.C.Cable.none_made c.parts.port.cable.now) c.parts.invariant.open_now.whole_port (c.in-End.ensures.does chosen) (c.in-End.ensures.ticks chosen))

pub returns-in-Ok-Some-clause-does : goal.returns-in-Ok-Some-clause-does
returns-in-Ok-Some-clause-does g c =
    let m = g.C.Cable in let s = g.O.Paper in
    let code = c.args.code.now in let chosen = c.args.chosen.now in let i = c.in-Within.i in let first = c.args.work.now in let old = c.parts.work in let mid =
    c.carry_out_common.new.work in let new = c.carry_out.new.work in
    let led = led_on c.in-Ok-Some.went (state_of chosen new) in
    does_both m s g.met.C.Cable.both_made c.args.port.now c.parts.port c.carry_out.new.port (rest_of code c.args.from chosen first) (rest_of code c.parts.place chosen old) led
    (ticks_from code c.args.from chosen first) (ticks_from code c.parts.place chosen old) no_ticks c.args.steps.now c.parts.steps c.carry_out.new.steps c.parts.invariant.does
    (does_of m s c.parts.port c.carry_out.new.port (rest_of code i chosen mid) (rest_of code c.parts.place chosen old) led
    (ticks_from code i chosen mid) (ticks_from code c.parts.place chosen old) no_ticks c.parts.steps c.carry_out_common.new.steps c.carry_out.new.steps
    (c.in-Within.ensures.does chosen) (c.in-Within.ensures.ticks chosen)
    (does_same m s c.parts.port c.carry_out.new.port (rest_of code i chosen mid) (ticks_from code i chosen mid) c.carry_out_common.new.steps c.carry_out.new.steps
    (λ e. after_it code i chosen new e) (λ e. ticks_after_it code i chosen new e) c.in-Ok-Some.field-0-is c.in-Ok-Some.ensures.does))

pub returns-in-Err-clause-does : goal.returns-in-Err-clause-does
returns-in-Err-clause-does g c =
    let m = g.C.Cable in let s = g.O.Paper in
    let code = c.args.code.now in let chosen = c.args.chosen.now in let i = c.in-Within.i in let first = c.args.work.now in let old = c.parts.work in let mid = c.carry_out_common.new.work in
    does_both_front m s g.met.C.Cable.both_made c.args.port.now c.parts.port c.carry_out.new.port (rest_of code c.args.from chosen first) (rest_of code c.parts.place chosen old)
    (ticks_from code c.args.from chosen first) (ticks_from code c.parts.place chosen old) c.args.steps.now c.parts.steps c.carry_out.new.steps c.parts.invariant.does
    (front_of m s c.parts.port c.carry_out.new.port (rest_of code i chosen mid) (rest_of code c.parts.place chosen old) (ticks_from code i chosen mid)
    (ticks_from code c.parts.place chosen old)
    c.parts.steps c.carry_out_common.new.steps c.carry_out.new.steps (c.in-Within.ensures.does chosen) (c.in-Within.ensures.ticks chosen) c.in-Err.ensures.does)

pub carry_out-requires-clause-room : goal.carry_out-requires-clause-room
carry_out-requires-clause-room g c = record {
  countable = c.requires.room.countable;
  room = room_kept c.args.code.now c.parts.work c.carry_out_common.new.work c.parts.invariant.room c.carry_out_common.ensures.room;
  few = c.in-Within.ensures.reached.1;
}

pub carry_out_common-requires : goal.carry_out_common-requires
carry_out_common-requires g c = record { countable = c.requires.room.countable; room = c.parts.invariant.room; few = c.parts.invariant.few }
