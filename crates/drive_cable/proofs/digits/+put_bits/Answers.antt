use Rattle.std.proofs.Common.{◌<◌, ◌≡◌, ◌∙◌, length, ap, take, true, rules}
use Rattle.std.specs.Prelude.{slice_index_or}
use Rattle.std.proofs.lemmas.List.{take_rest}
use Rattle.drive_cable.specs.Digits.{is_digit}
use Rattle.drive_cable.proofs.PartLemmas.{one_more}
use Rattle.drive_cable.proofs.digits.+put_bits.Goals as goal

pub returns-clause-bits : goal.returns-clause-bits
returns-clause-bits t c =
    let some : 0 < length c.args.answers.now = search rules in
    let place : 0 < length c.args.into.now = search rules in
    let is : is_digit (slice_index_or c.args.answers.now 0 0) ≡ true = search rules in
    one_more c.args.answers.now c.args.into.now c.put_bits.new.into c.put_bits.result some place is
    (c.put_bits.ensures.bits ∙ ap (λ v. take c.put_bits.result v) (take_rest c.args.answers.now 1))
