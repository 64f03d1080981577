use Rattle.std.proofs.Common.{◌≡◌, ◌∙◌, ◌+◌, ◌*◌, ◌^◌, ◌<◌, ℕ, ap, sym, subst, take, length, get_or, arith}
use Rattle.std.proofs.Math.Seq.{take-length}
use Rattle.std.specs.Char.{digit_value}
use Rattle.std.specs.Str.Parse.{digits_value}
use Rattle.board_text.proofs.NumberWords.{hexadecimal_more, hexadecimal_lt, front_fits}
use Rattle.board_text.proofs.digits.hexadecimal_value.Goals as goal

pub overflow_mul-value : goal.overflow_mul-value
overflow_mul-value c =
    let ds = c.args.digits.now in
    let i = c.loop-digit.digit-index in
    let more : digits_value 16 (take (i + 1) ds) ≡ digits_value 16 (take i ds) * 16 + digit_value (get_or ds i 0) = hexadecimal_more ds i c.loop-digit-test.true in
    omega (arith, more, c.loop-digit.invariant, front_fits ds (i + 1) c.requires.digits c.requires.short)

pub overflow_add-value : goal.overflow_add-value
overflow_add-value c =
    let ds = c.args.digits.now in
    let i = c.loop-digit.digit-index in
    let more : digits_value 16 (take (i + 1) ds) ≡ digits_value 16 (take i ds) * 16 + digit_value (get_or ds i 0) = hexadecimal_more ds i c.loop-digit-test.true in
    omega (arith, more, c.loop-digit.invariant, c.hexadecimal_digit.ensures.value, front_fits ds (i + 1) c.requires.digits c.requires.short)

pub loop-digit-preserved : goal.loop-digit-preserved
loop-digit-preserved c =
    let ds = c.args.digits.now in
    let i = c.loop-digit.digit-index in
    let more : digits_value 16 (take (i + 1) ds) ≡ digits_value 16 (take i ds) * 16 + digit_value (get_or ds i 0) = hexadecimal_more ds i c.loop-digit-test.true in
    ap (λ (v : ℕ). v * 16 + c.hexadecimal_digit.result) c.loop-digit.invariant
    ∙ ap (λ (d : ℕ). digits_value 16 (take i ds) * 16 + d) c.hexadecimal_digit.ensures.value ∙ sym more

pub returns-clause-bound : goal.returns-clause-bound
returns-clause-bound c =
    let ds = c.args.digits.now in
    let all : c.loop-digit.digit-index ≡ length ds = omega arith in
    let whole : c.loop-digit.value ≡ digits_value 16 ds = c.loop-digit.invariant ∙ ap (λ (k : ℕ). digits_value 16 (take k ds)) all ∙ ap (digits_value 16) (take-length ds) in
    subst (λ (v : ℕ). v < 16 ^ length ds) (sym whole) (hexadecimal_lt ds c.requires.digits)
