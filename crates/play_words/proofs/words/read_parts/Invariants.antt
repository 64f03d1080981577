use Rattle.std.proofs.Common.{map, string_bytes}
use Rattle.std.specs.Option.{option_map}
use Rattle.command_words.specs.KeyedWords.{names_in}
use Rattle.play_words.specs.ReadParts.{AreReadUpTo}
use Rattle.play_words.proofs.words.read_parts.Given as goal

abbrev pub invariant-loop-place : goal.invariant-loop-place
invariant-loop-place l =
    AreReadUpTo (map string_bytes l.words) l.place
    (record {
      mode = l.given.0;
      board = option_map (λ path. path.now) l.given.1.0;
      program = option_map (λ path. path.now) l.given.1.1.0;
      code = option_map (λ path. path.now) l.given.1.1.1.0;
      action = l.given.1.1.1.1.0;
      todo = option_map (λ spelling. names_in spelling.now) l.given.1.1.1.1.1.0;
      skip = option_map (λ spelling. names_in spelling.now) l.given.1.1.1.1.1.1.0;
      place = l.given.1.1.1.1.1.1.1.0;
      turns = l.given.1.1.1.1.1.1.1.1.0;
      pins = l.given.1.1.1.1.1.1.1.1.1.0;
      report = l.given.1.1.1.1.1.1.1.1.1.1.0;
      seed = l.given.1.1.1.1.1.1.1.1.1.1.1.0;
    })
