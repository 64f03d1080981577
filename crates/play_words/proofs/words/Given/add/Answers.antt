use Rattle.std.proofs.Common.{rules, ◌≡◌, true, false}
use Rattle.std.specs.Prelude.{is_some}
use Rattle.play_words.specs.Words.{takes}
use Rattle.play_words.specs.ReadParts.{values_of, given_of, part_of}
use Rattle.play_words.proofs.WordLemmas.{adds_where_free, refuses_given}
use Rattle.play_words.proofs.words.Given.add.Goals as goal

pub returns-then-has-clause-none : goal.returns-then-has-clause-none
returns-then-has-clause-none c =
    let given : is_some (given_of (values_of c.args.self.now) c.key-key.result) ≡ true = search rules in
    refuses_given (part_of c.args.part.now) c.key-key.result c.key-key.ensures given

pub returns-clause-some : goal.returns-clause-some
returns-clause-some c =
    let taken : takes c.args.self.now.mode c.key-key.result ≡ true = search rules in
    let free : is_some (given_of (values_of c.args.self.now) c.key-key.result) ≡ false = search rules in
    adds_where_free (part_of c.args.part.now) c.key-key.result c.key-key.ensures taken free c.with.ensures
