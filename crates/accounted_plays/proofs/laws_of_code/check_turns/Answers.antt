use Rattle.std.proofs.Common.{map}
use Rattle.dev_card.specs.Card.{fresh}
use Rattle.dev_card.specs.FarEnds.{Told}
use Rattle.scan_paths.specs.Scans.{lengths_of}
use Rattle.stapl_syntax.specs.ProgramValues.{trees_of}
use Rattle.stapl_meaning.specs.Scopes.{as_played}
use Rattle.account_meaning.proofs.SourceTexts.{tells_scans}
use Rattle.accounted_plays.proofs.laws_of_code.check_turns.Goals as goal

pub returns : goal.returns
returns c =
    let code = c.args.code.now in let base = lengths_of c.args.base.now in let far = Told (map fresh c.args.task.now.devices.now) in
    let chosen = c.args.chosen.now in let table = c.args.table.now in let bytes = c.args.program.now.text in let trees = trees_of c.args.program.now in
    let sound = c.requires.program in let short = c.raw-raw.ensures.in_range.countable in
    let scans = tells_scans bytes trees sound.pieces table sound.cut c.requires.table in
    record {
      pieces = sound.pieces;
      cut = sound.cut;
      of_program = c.requires.code;
      come_to_ends = c.check_endings.ensures;
      turns_are = λ n turns all. c.a_code_has_the_turns_of_its_program.ensures (as_played trees) code table chosen n base far turns c.requires.code short scans
          all.first.are all.first.few all.whole;
      texts_are = λ n turns all. c.the_text_of_a_code_is_that_of_its_program.ensures bytes trees sound.pieces code table chosen n base far turns sound sound.cut
          c.requires.table c.requires.code short all.first.are all.first.few all.whole;
      scans_are = λ n turns ir all. c.the_scans_of_a_code_are_those_of_its_program.ensures (as_played trees) code table chosen n base far turns ir c.requires.code short scans
          all.first.are all.first.few all.whole;
    }
