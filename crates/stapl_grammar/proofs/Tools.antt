-- Steps that may fail, marks, words and operators.
use Rattle.std.proofs.Common.{◌≡◌, ℕ, suc, ◌-◌, ◌≤◌, Bool, true, false, cond, List, [], ◌∷◌, get_or, Option, Some, None, inl, inr, refl, sym, ap, subst, ◌∙◌, arith}
use Rattle.std.specs.Prelude.{nat_le}
use Rattle.std.specs.Option.{option_map_or}
use Rattle.std.proofs.lemmas.Bool.{eqb-true, eq-eqb, leb-true, le-leb, lt-leb, cases_lt}
use Rattle.stapl_lexer.specs.declared.terminal.BinOp.{BinOp}
use Rattle.stapl_lexer.specs.declared.terminal.BinOp.TheVariants.{Multiply, Divide, Remainder, Add, Subtract, ShiftLeft, ShiftRight, Less, AtMost, Greater, AtLeast, Equal, NotEqual, BitAnd, BitXor, BitOr, And, Or}
use Rattle.stapl_lexer.specs.declared.terminal.Mark.{Mark}
use Rattle.stapl_lexer.specs.declared.terminal.Mark.TheVariants.{Tilde, Exclamation, LeftRound, RightRound, LeftSquare, RightSquare, Dots, Comma, Equals, Colon}
use Rattle.stapl_lexer.specs.declared.terminal.JoinWord.{JoinWord}
use Rattle.stapl_lexer.specs.declared.terminal.JoinWord.TheVariants.{Capture, Compare, Cycles, Optional, Recommended, Step, Then, To, Usec, Uses}
use Rattle.stapl_syntax.specs.declared.signs.Sign.TheVariants as signs
use Rattle.stapl_syntax.specs.Symbols.{Symbol, Plain, sign_of}
use Rattle.stapl_syntax.specs.Expressions.{level_of, operator, mark}
use Rattle.stapl_syntax.specs.Parts.{join}
use Rattle.stapl_grammar.specs.Looks.{is_mark, mark_number, after_mark, is_join, join_number, after_join}
use Rattle.stapl_grammar.specs.Reading.{◌>>=◌, operator_of, next_operator}

-- what a step gave, where the whole gave something
pub bind_some : {A B : Type 0} (o : Option A) (f : A → Option B) (y : B) → (o >>= f) ≡ Some y → (x : A) × (o ≡ Some x) × (f x ≡ Some y)
bind_some None f y e = absurd cc
bind_some (Some x) f y e = (x, refl, e)

-- the same, where the goal follows from the value of the step
pub by_step : {A B P : Type 0} (o : Option A) (f : A → Option B) (y : B) → (o >>= f) ≡ Some y → ((x : A) → o ≡ Some x → f x ≡ Some y → P) → P
by_step None f y e k = absurd cc
by_step (Some x) f y e k = k x refl e

pub some_is : {A : Type 0} (x y : A) → Some x ≡ Some y → x ≡ y
some_is x y e = cc

-- which way a choice went
pub choice_some : {A B : Type 0} {P : Type 0} (o : Option A) (f : A → Option B) (d : Option B) (y : B) → option_map_or f o d ≡ Some y → (o ≡ None → d ≡ Some y → P) →
    ((x : A) → o ≡ Some x → f x ≡ Some y → P) → P
choice_some None f d y e n s = n refl e
choice_some (Some x) f d y e n s = s x refl e

-- which way a test went
pub by_test : {B P : Type 0} (b : Bool) (x y : Option B) (z : B) → cond b x y ≡ Some z → (b ≡ true → x ≡ Some z → P) → (b ≡ false → y ≡ Some z → P) → P
by_test true x y z e k h = k refl e
by_test false x y z e k h = h refl e

pub cond_some : {A : Type 0} (b : Bool) (x y : A) → cond b (Some x) None ≡ Some y → (b ≡ true) × (x ≡ y)
cond_some true x y e = (refl, cc)
cond_some false x y e = absurd cc

-- ---- marks

marks : List Mark
marks = Tilde ∷ Exclamation ∷ LeftRound ∷ RightRound ∷ LeftSquare ∷ RightSquare ∷ Dots ∷ Comma ∷ Equals ∷ Colon ∷ []

mark_back : (m : Mark) → get_or marks (mark_number m) Tilde ≡ m
unfolding marks mark_number
mark_back Tilde = refl
mark_back Exclamation = refl
mark_back LeftRound = refl
mark_back RightRound = refl
mark_back LeftSquare = refl
mark_back RightSquare = refl
mark_back Dots = refl
mark_back Comma = refl
mark_back Equals = refl
mark_back Colon = refl

same_mark : (k m : Mark) → mark_number k ≡ mark_number m → k ≡ m
same_mark k m e = sym (mark_back k) ∙ ap (λ n. get_or marks n Tilde) e ∙ mark_back m

is_mark_true : (t : Symbol) (m : Mark) → is_mark (sign_of t) m ≡ true → t ≡ mark m
unfolding is_mark
is_mark_true (Plain (signs.Mark k)) m e = ap mark (same_mark k m (eqb-true _ _ e))
is_mark_true _ m e = absurd cc

pub after_mark_some : (m : Mark) (s r : List Symbol) → after_mark m s ≡ Some r → s ≡ mark m ∷ r
unfolding after_mark
after_mark_some m [] r e = absurd cc
after_mark_some m (t ∷ s) r e =
    let c = cond_some (is_mark (sign_of t) m) s r e in
    let t-is = is_mark_true t m c.0 in
    cc

pub after_mark_here : (m : Mark) (r : List Symbol) → after_mark m (mark m ∷ r) ≡ Some r
unfolding after_mark is_mark
after_mark_here m r = rw (eq-eqb (mark_number m) (mark_number m) refl)

-- ---- words inside statements

words : List JoinWord
words = Capture ∷ Compare ∷ Cycles ∷ Optional ∷ Recommended ∷ Step ∷ Then ∷ To ∷ Usec ∷ Uses ∷ []

word_back : (w : JoinWord) → get_or words (join_number w) Capture ≡ w
unfolding words join_number
word_back Capture = refl
word_back Compare = refl
word_back Cycles = refl
word_back Optional = refl
word_back Recommended = refl
word_back Step = refl
word_back Then = refl
word_back To = refl
word_back Usec = refl
word_back Uses = refl

same_word : (k w : JoinWord) → join_number k ≡ join_number w → k ≡ w
same_word k w e = sym (word_back k) ∙ ap (λ n. get_or words n Capture) e ∙ word_back w

is_join_true : (t : Symbol) (w : JoinWord) → is_join (sign_of t) w ≡ true → t ≡ join w
unfolding is_join
is_join_true (Plain (signs.Join k)) w e = ap join (same_word k w (eqb-true _ _ e))
is_join_true _ w e = absurd cc

pub after_join_some : (w : JoinWord) (s r : List Symbol) → after_join w s ≡ Some r → s ≡ join w ∷ r
unfolding after_join
after_join_some w [] r e = absurd cc
after_join_some w (t ∷ s) r e =
    let c = cond_some (is_join (sign_of t) w) s r e in
    let t-is = is_join_true t w c.0 in
    cc

pub after_join_here : (w : JoinWord) (r : List Symbol) → after_join w (join w ∷ r) ≡ Some r
unfolding after_join is_join
after_join_here w r = rw (eq-eqb (join_number w) (join_number w) refl)

-- ---- operators

-- each level is above 0
pub level_suc : (op : BinOp) → level_of op ≡ suc (level_of op - 1)
unfolding level_of
level_suc Multiply = refl
level_suc Divide = refl
level_suc Remainder = refl
level_suc Add = refl
level_suc Subtract = refl
level_suc ShiftLeft = refl
level_suc ShiftRight = refl
level_suc Less = refl
level_suc AtMost = refl
level_suc Greater = refl
level_suc AtLeast = refl
level_suc Equal = refl
level_suc NotEqual = refl
level_suc BitAnd = refl
level_suc BitXor = refl
level_suc BitOr = refl
level_suc And = refl
level_suc Or = refl

-- an operator that stands first has a level from n on
abbrev pub AtLeastLevel : ℕ → List Symbol → Type 0
AtLeastLevel n s = (op : BinOp) (r : List Symbol) → s ≡ operator op ∷ r → n ≤ level_of op

operator_of_some : (t : Symbol) (op : BinOp) → operator_of (sign_of t) ≡ Some op → t ≡ operator op
unfolding operator_of
operator_of_some (Plain (signs.Operator k)) op e = cc
operator_of_some _ op e = absurd cc

pub next_operator_some : (n : ℕ) (s : List Symbol) (o : BinOp × List Symbol) → next_operator n s ≡ Some o → (s ≡ operator o.0 ∷ o.1) × (level_of o.0 ≤ n)
unfolding next_operator
next_operator_some n [] o e = absurd cc
next_operator_some n (t ∷ s) o e =
    let b = bind_some (operator_of (sign_of t)) _ o e in
    let c = cond_some (nat_le (level_of b.0) n) (b.0, s) o b.2 in
    let t-is = operator_of_some t b.0 b.1 in
    let le : level_of b.0 ≤ n = leb-true _ _ c.0 in
    let goal : BinOp × List Symbol → Type 0 = λ o. (t ∷ s ≡ operator o.0 ∷ o.1) × (level_of o.0 ≤ n) in
    subst goal c.1 (ap (λ (x : Symbol). x ∷ s) t-is, le)

pub next_operator_here : (n : ℕ) (op : BinOp) (s : List Symbol) → level_of op ≤ n → next_operator n (operator op ∷ s) ≡ Some (op, s)
unfolding next_operator operator_of
next_operator_here n op s le = rw (le-leb (level_of op) n le)

pub next_operator_quiet : (n : ℕ) (s : List Symbol) → AtLeastLevel (suc n) s → next_operator n s ≡ None
unfolding next_operator operator_of
next_operator_quiet n [] q = refl
next_operator_quiet n (Plain (signs.Operator op) ∷ s) q = rw (lt-leb (level_of op) n (omega (arith, q op s refl)))
next_operator_quiet n _ q = refl

pub next_operator_none : (n : ℕ) (s : List Symbol) → next_operator n s ≡ None → AtLeastLevel (suc n) s
next_operator_none n s e op r s-is =
    elim (cases_lt n (level_of op)) [
      | inl lt ↦ omega arith
      | inr le ↦ let here = next_operator_here n op r le in absurd cc
    ]
