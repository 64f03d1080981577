use Rattle.std.proofs.Common.{◌≡◌, ◌∙◌, ap, length, arith, false}
use Rattle.std.specs.Prelude.{replicate}
use Rattle.std.proofs.lemmas.List.{length-take-le, take_at}
use Rattle.base.specs.Bits.{number_of}
use Rattle.drive_cable.proofs.calls.ask_number.Goals as goal

pub returns-clause-asked : goal.returns-clause-asked
returns-clause-asked g c =
    let count : length c.ask.new.into ≡ c.args.n =
    c.in_ok-ask.ensures.length ∙ length-take-le c.args.n (replicate 64 false) (omega arith) in
    record {
      answered = c.ask.new.into;
      count = count;
      number_is = c.number_in.ensures.number ∙ ap number_of (take_at c.ask.new.into _ c.args.n count);
      carried = c.in_ok-ask.ensures.asked;
    }
