use Rattle.std.proofs.Common.{◌≡◌, ◌≤◌, ℕ, List, sym, subst, false, true, length}
use Rattle.std.specs.List.{list_all}
use Rattle.stapl_lexer.specs.PieceTokens.{is_literal_digit}
use Rattle.stapl_lexer.proofs.DigitLemmas.{each_digit, few_digits, digits_read}
use Rattle.stapl_lexer.proofs.literal.literal_digits.Goals as goal

pub returns-clause-each : goal.returns-clause-each
returns-clause-each c =
    subst (λ (v : List ℕ). list_all (is_literal_digit c.args.kind) v ≡ true)
    (sym (digits_read c.args.kind c.args.own.now c.loop-byte.digits.items c.loop-byte.in_comment c.loop-byte.byte-index c.loop-byte.invariant c.loop-byte-test.false))
    (each_digit c.args.kind false c.args.own.now)

pub returns-clause-few : goal.returns-clause-few
returns-clause-few c =
    subst (λ (v : List ℕ). length v ≤ length c.args.own.now)
    (sym (digits_read c.args.kind c.args.own.now c.loop-byte.digits.items c.loop-byte.in_comment c.loop-byte.byte-index c.loop-byte.invariant c.loop-byte-test.false))
    (few_digits c.args.kind false c.args.own.now)
