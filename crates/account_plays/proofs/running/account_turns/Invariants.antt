use Rattle.std.proofs.Common.{◌≤◌}
use Rattle.tool_io.specs.Lines.{IsWhole}
use Rattle.scan_paths.specs.Scans.{lengths_of}
use Rattle.machine_memory.specs.Acts.{state_of}
use Rattle.stapl_machine.specs.Runs.{run_of}
use Rattle.account_plays.specs.AccountTurns.{IsOpenCable, CanPlayTurns}
use Rattle.account_plays.specs.AccountedRuns.{PlayedSoFar}
use Rattle.account_plays.proofs.running.account_turns.Given as goal

abbrev pub invariant-loop-turn : goal.invariant-loop-turn
invariant-loop-turn g l =
    let course = l.course in let code = course.code.now in let first = state_of course.chosen.now l.fn.work in
    record {
      ready : CanPlayTurns code l.work;
      open_now : IsOpenCable g.C.Cable l.tap l.cable;
      whole : IsWhole l.out;
      within : l.turn ≤ l.turns;
      played : PlayedSoFar g.C.Cable g.K.Sink code course.table.now (lengths_of course.base) (λ n. run_of code n l.start first) l.fn.from l.fn.cable l.fn.runs l.fn.out
          l.turn l.place (state_of course.chosen.now l.work) l.tap l.cable l.runs l.out;
    }
