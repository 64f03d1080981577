use Rattle.std.proofs.Common.{◌∙◌, sym}
use Rattle.std.proofs.lemmas.List.{take_rest}
use Rattle.stapl_lexer.proofs.NumberLemmas.{plain_number, scaled_number}
use Rattle.stapl_lexer.proofs.number.number_in_front.Goals as goal

pub returns-then-not-begins_exponent : goal.returns-then-not-begins_exponent
returns-then-not-begins_exponent c =
    plain_number c.args.bytes.now c.digits_len-n.result c.capped_digits-value.result c.requires.digit c.digits_len-n.ensures
    (rw take_rest at (sym c.begins_exponent.ensures ∙ c.if-not-begins_exponent.true)) c.capped_digits-value.ensures

pub returns : goal.returns
returns c =
    scaled_number c.args.bytes.now c.digits_len-n.result c.digits_len-m.result c.capped_digits-value.result c.capped_digits-power.result c.scaled.result
    c.requires.digit c.digits_len-n.ensures
    (rw take_rest at (sym c.begins_exponent.ensures ∙ c.if-not-begins_exponent.false)) (rw take_rest at c.digits_len-m.ensures) c.capped_digits-value.ensures
    (rw take_rest at c.capped_digits-power.ensures) c.scaled.ensures
