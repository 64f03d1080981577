use Rattle.std.proofs.Common.{map}
use Rattle.dev_card.specs.Card.{fresh}
use Rattle.dev_card.specs.FarEnds.{Told}
use Rattle.scan_paths.specs.Scans.{lengths_of}
use Rattle.stapl_syntax.specs.ProgramValues.{trees_of}
use Rattle.accounted_plays.proofs.SourceAccounts.{first_fits}
use Rattle.accounted_plays.proofs.laws_of_code.check_room.Goals as goal

pub returns : goal.returns
returns c =
    let code = c.args.code.now in let base = lengths_of c.args.base.now in let devices = c.args.task.now.devices.now in let far = Told (map fresh devices) in
    let chosen = c.args.chosen.now in let table = c.args.table.now in let bytes = c.args.program.now.text in let trees = trees_of c.args.program.now in
    let sound = c.requires.program in let short = c.raw-raw.ensures.in_range.countable in let runs = c.args.runs.now in
    record {
      countable = short;
      told = c.each_turn_of_a_code_is_told.ensures bytes trees code table chosen base far sound c.requires.table c.requires.code short c.check_endings.ensures;
      room = c.the_turns_of_a_code_fit_the_room.ensures bytes trees code table chosen base far runs sound c.requires.table c.requires.code short
          c.requires.room.bits c.requires.room.runs_enough;
      first_room = first_fits trees code chosen base devices c.requires.code runs (c.programs_are_typed.ensures bytes trees sound);
    }
