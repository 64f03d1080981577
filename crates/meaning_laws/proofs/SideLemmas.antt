-- What operators take from their sides, and the values of expressions
use Rattle.std.proofs.Common.{◌≡◌, ◌≢◌, Bool, true, false, cond, ◌||◌, List, Option, Some, None, refl, ap, ◌∙◌}
use Rattle.stapl_lexer.specs.declared.terminal.BinOp.{BinOp}
use Rattle.stapl_syntax.specs.declared.signs.UnOp.{UnOp}
use Rattle.stapl_syntax.specs.declared.names.Kind.{Kind}
use Rattle.stapl_syntax.specs.declared.names.Kind.TheVariants as kind_of
use Rattle.stapl_syntax.specs.Kinds.{is_bit_alone, expr_kind}
use Rattle.stapl_syntax.specs.Trees.{ExprTree, unary, binary}
use Rattle.stapl_meaning.specs.declared.values.Held.{Held}
use Rattle.stapl_meaning.specs.declared.values.Value.{Value}
use Rattle.stapl_meaning.specs.declared.values.ValueKind.{ValueKind}
use Rattle.stapl_meaning.specs.declared.values.ValueKind.TheVariants as kinds
use Rattle.stapl_meaning.specs.Values.{Known, Lookup, alike, side, sides, combined, signed, value_of}
use Rattle.meaning_laws.specs.Sides.{IsOfIntegers, product, quotient, remainder, sum, difference, shift_left, shift_right, less, at_most, greater, at_least, IsOfBits, and, or, IsOfAlike, both, just_one, either, equal, not_equal, TakesSides, integers, bits, by_left, by_right, by_neither, TakesOperand, negated, complemented, turned}

of_integers : (op : BinOp) (a b : Option Kind) → IsOfIntegers op → side op a b ≡ kinds.Int
of_integers _ a b product = refl
of_integers _ a b quotient = refl
of_integers _ a b remainder = refl
of_integers _ a b sum = refl
of_integers _ a b difference = refl
of_integers _ a b shift_left = refl
of_integers _ a b shift_right = refl
of_integers _ a b less = refl
of_integers _ a b at_most = refl
of_integers _ a b greater = refl
of_integers _ a b at_least = refl

of_bits : (op : BinOp) (a b : Option Kind) → IsOfBits op → side op a b ≡ kinds.Bit
of_bits _ a b and = refl
of_bits _ a b or = refl

of_alike : (op : BinOp) (a b : Option Kind) → IsOfAlike op → side op a b ≡ alike a b
of_alike _ a b both = refl
of_alike _ a b just_one = refl
of_alike _ a b either = refl
of_alike _ a b equal = refl
of_alike _ a b not_equal = refl

no_bit : (k : Option Kind) → k ≢ Some kind_of.Bool → is_bit_alone k ≡ false
no_bit None other = refl
no_bit (Some kind_of.Int) other = refl
no_bit (Some kind_of.Bool) other = absurd (other refl)
no_bit (Some kind_of.Either) other = refl

alike_left : (a b : Option Kind) → a ≡ Some kind_of.Bool → alike a b ≡ kinds.Bit
alike_left a b e = rw e refl

alike_right : (a b : Option Kind) → b ≡ Some kind_of.Bool → alike a b ≡ kinds.Bit
alike_right a b e = rw e (by (is_bit_alone a))
  where
    by : (t : Bool) → cond (t || true) kinds.Bit kinds.Int ≡ kinds.Bit
    by true = refl
    by false = refl

alike_neither : (a b : Option Kind) → a ≢ Some kind_of.Bool → b ≢ Some kind_of.Bool → alike a b ≡ kinds.Int
alike_neither a b f g = let d = no_bit a f in let e = no_bit b g in rw (d, e) refl

takes_side : (look : Lookup) (op : BinOp) (a b : ExprTree) (kind : ValueKind) → TakesSides look.kind op a b kind → sides look op a b ≡ kind
takes_side look op a b _ (integers h) = of_integers op (expr_kind look.kind a) (expr_kind look.kind b) h
takes_side look op a b _ (bits h) = of_bits op (expr_kind look.kind a) (expr_kind look.kind b) h
takes_side look op a b _ (by_left h e) = of_alike op (expr_kind look.kind a) (expr_kind look.kind b) h ∙ alike_left (expr_kind look.kind a) (expr_kind look.kind b) e
takes_side look op a b _ (by_right h e) = of_alike op (expr_kind look.kind a) (expr_kind look.kind b) h ∙ alike_right (expr_kind look.kind a) (expr_kind look.kind b) e
takes_side look op a b _ (by_neither h f g) = of_alike op (expr_kind look.kind a) (expr_kind look.kind b) h ∙ alike_neither (expr_kind look.kind a) (expr_kind look.kind b) f g

pub between : (look : Lookup) (variables : List Held) (kind side : ValueKind) (op : BinOp) (a b : ExprTree) (x y : Value) → TakesSides look.kind op a b side →
    value_of look variables side a ≡ Known x → value_of look variables side b ≡ Known y → value_of look variables kind (binary op a b) ≡ combined op x y
between look variables kind side op a b x y h e f =
    let s = takes_side look op a b side h in
    let d : value_of look variables (sides look op a b) a ≡ Known x = ap (λ (k : ValueKind). value_of look variables k a) s ∙ e in
    let g : value_of look variables (sides look op a b) b ≡ Known y = ap (λ (k : ValueKind). value_of look variables k b) s ∙ f in
    rw d (rw g refl)

pub before : (look : Lookup) (variables : List Held) (kind side : ValueKind) (op : UnOp) (a : ExprTree) (x : Value) → TakesOperand op side →
    value_of look variables side a ≡ Known x → value_of look variables kind (unary op a) ≡ signed op x
before look variables kind _ _ a x negated e = rw e refl
before look variables kind _ _ a x complemented e = rw e refl
before look variables kind _ _ a x turned e = rw e refl
