-- Reading without a bound on its steps: one equation for each function.
use Rattle.std.proofs.Common.{◌≡◌, ℕ, zero, suc, ◌-◌, ◌<◌, ◌≤◌, List, [], ◌∷◌, length, Option, Some, None, refl, ap, arith}
use Rattle.std.specs.Option.{option_map_or}
use Rattle.stapl_lexer.specs.declared.terminal.Mark.{Mark}
use Rattle.stapl_lexer.specs.declared.terminal.Mark.TheVariants as marks
use Rattle.stapl_lexer.specs.declared.terminal.Function.TheVariants as functions
use Rattle.stapl_syntax.specs.declared.signs.Sign.{Sign}
use Rattle.stapl_syntax.specs.declared.signs.Sign.TheVariants as signs
use Rattle.stapl_syntax.specs.Symbols.{Symbol, Plain, Text, Literal, CheckWord, sign_of}
use Rattle.stapl_syntax.specs.Trees.{ExprTree, unary, binary}
use Rattle.stapl_syntax.specs.Expressions.{level_of}
use Rattle.stapl_grammar.specs.Looks.{after_mark}
use Rattle.stapl_grammar.specs.Reading.{◌>>=◌, Reader, next_sign, literal_at, next_operator, closed_by, bracketed_by, named_by, range_by, target_from, target_by, bool_from, array_from, array_by, brackets_from, function_from, primary_from, unary_of, unary_by, expr_in, climb_in, expr, climb}
use Rattle.stapl_grammar.proofs.Tools.{after_mark_some, next_operator_some}
use Rattle.stapl_grammar.proofs.Sound.{expr_sound, unary_sound}

pub bind_same : {A B : Type 0} (o : Option A) (f g : A → Option B) → ((x : A) → o ≡ Some x → f x ≡ g x) → (o >>= f) ≡ (o >>= g)
bind_same None f g h = refl
bind_same (Some x) f g h = h x refl

pub choice_same : {A B : Type 0} (o : Option A) (f g : A → B) (d : B) (c : B) → ((x : A) → o ≡ Some x → f x ≡ g x) → d ≡ c → option_map_or f o d ≡ option_map_or g o c
choice_same None f g d c h e = e
choice_same (Some x) f g d c h e = h x refl

-- two readers that read the same from fewer than k symbols
abbrev pub Agree : {A : Type 0} → ℕ → Reader A → Reader A → Type 0
Agree k r q = (t : List Symbol) → length t < k → r t ≡ q t

abbrev pub Shortens : {A : Type 0} → Reader A → Type 0
Shortens {A} q = (t : List Symbol) (x : A × List Symbol) → q t ≡ Some x → length x.1 < length t

closed_same : {A : Type 0} (m : Mark) (r q : Reader A) (s : List Symbol) → r s ≡ q s → closed_by m r s ≡ closed_by m q s
unfolding closed_by
closed_same m r q s e = rw e

mark_shorter : (m : Mark) (s r : List Symbol) → after_mark m s ≡ Some r → length r < length s
mark_shorter m s r e = omega (arith, ap length (after_mark_some m s r e))

bracketed_same : {A : Type 0} (r q : Reader A) (k : ℕ) → Agree k r q → (s : List Symbol) → length s ≤ k → bracketed_by r s ≡ bracketed_by q s
unfolding bracketed_by
bracketed_same r q k agree s le =
    bind_same (after_mark marks.LeftRound s) _ _ (λ t t-is. closed_same marks.RightRound r q t (agree t (omega (arith, mark_shorter marks.LeftRound s t t-is))))

module _ (r q : Reader ExprTree) (k : ℕ) (agree : Agree k r q) (short : Shortens q) where
  named_same : (v : List ℕ) (s : List Symbol) → length s ≤ k → named_by r v s ≡ named_by q v s
  unfolding named_by
  named_same v s le =
      choice_same (after_mark marks.LeftSquare s) _ _ _ _ (λ t t-is. rw (closed_same marks.RightSquare r q t (agree t (omega (arith, mark_shorter marks.LeftSquare s t t-is))))) refl

  range_same : (v : List ℕ) (s : List Symbol) → length s < k → range_by r v s ≡ range_by q v s
  unfolding range_by
  range_same v s le =
      rw (agree s le)
      (bind_same (q s) _ _ λ h h-is.
      bind_same (after_mark marks.Dots h.1) _ _ λ t t-is.
      rw (closed_same marks.RightSquare r q t (agree t (omega (arith, short s h h-is, mark_shorter marks.Dots h.1 t t-is)))))

  target_from_same : (v : List ℕ) (s : List Symbol) → length s < k → target_from r v s ≡ target_from q v s
  unfolding target_from
  target_from_same v s le = choice_same (after_mark marks.RightSquare s) _ _ _ _ (λ t t-is. refl) (range_same v s le)

  target_same : (v : List ℕ) (s : List Symbol) → length s ≤ k → target_by r v s ≡ target_by q v s
  unfolding target_by
  target_same v s le = bind_same (after_mark marks.LeftSquare s) _ _ (λ t t-is. target_from_same v t (omega (arith, mark_shorter marks.LeftSquare s t t-is)))

  array_from_same : (g : Sign) (s : List Symbol) → length s ≤ k → array_from r g s ≡ array_from q g s
  unfolding array_from bool_from
  array_from_same (signs.Name v) s le = target_same v s le
  array_from_same (signs.Function functions.Bool) s le = rw (bracketed_same r q k agree s le)
  array_from_same _ s le = refl

  array_same : (s : List Symbol) → length s ≤ k → array_by r s ≡ array_by q s
  unfolding array_by literal_at next_sign
  array_same [] le = refl
  array_same (Literal bits ∷ s) le = refl
  array_same (Plain g ∷ s) le = array_from_same g s (omega arith)
  array_same (Text bytes ∷ s) le = array_from_same signs.Other s (omega arith)
  array_same (CheckWord n ∷ s) le = array_from_same signs.Other s (omega arith)

  primary_same : (g : Sign) (s : List Symbol) → length s < k → primary_from r g s ≡ primary_from q g s
  unfolding primary_from brackets_from function_from
  primary_same (signs.Name v) s le = named_same v s (omega arith)
  primary_same (signs.Mark marks.LeftRound) s le = closed_same marks.RightRound r q s (agree s le)
  primary_same (signs.Function functions.Abs) s le = rw (bracketed_same r q k agree s (omega arith))
  primary_same (signs.Function functions.Int) s le = rw (bracketed_same (array_by r) (array_by q) k (λ t lt. array_same t (omega arith)) s (omega arith))
  primary_same _ s le = refl

  unary_same : (s : List Symbol) → length s ≤ k → unary_by r s ≡ unary_by q s
  unfolding unary_by
  unary_same [] le = refl
  unary_same (t ∷ s) le = choice_same (unary_of (sign_of t)) _ _ _ _ (λ op op-is. rw (unary_same s (omega arith))) (primary_same (sign_of t) s (omega arith))

pub expr_shorter : (f n : ℕ) → Shortens (expr_in f n)
expr_shorter f n t x e = (expr_sound f n t x e).front.shorter

unary_shorter : (f : ℕ) → Shortens (unary_by (expr_in f 10))
unary_shorter f t x e = (unary_sound (expr_in f 10) (λ s y d. (expr_sound f 10 s y d).front) t x e).shorter

mutual
  unfolding expr_in climb_in

  expr_same : (f g n : ℕ) (s : List Symbol) → length s < f → length s < g → expr_in f n s ≡ expr_in g n s
  expr_same zero g n s lf lg = absurd (omega arith)
  expr_same (suc f) zero n s lf lg = absurd (omega arith)
  expr_same (suc f) (suc g) n s lf lg =
      rw (unary_same (expr_in f 10) (expr_in g 10) (length s) (λ t lt. expr_same f g 10 t (omega arith) (omega arith)) (expr_shorter g 10) s (omega arith))
      (bind_same (unary_by (expr_in g 10) s) _ _ λ x x-is. climb_same f g n x.0 x.1 (omega (arith, unary_shorter g s x x-is)) (omega (arith, unary_shorter g s x x-is)))

  climb_same : (f g n : ℕ) (e : ExprTree) (s : List Symbol) → length s < f → length s < g → climb_in f n e s ≡ climb_in g n e s
  climb_same zero g n e s lf lg = absurd (omega arith)
  climb_same (suc f) zero n e s lf lg = absurd (omega arith)
  climb_same (suc f) (suc g) n e s lf lg =
      choice_same (next_operator n s) _ _ _ _
      (λ o o-is.
      let first = ap length (next_operator_some n s o o-is).0 in
      rw (expr_same f g (level_of o.0 - 1) o.1 (omega (arith, first)) (omega (arith, first)))
      (bind_same (expr_in g (level_of o.0 - 1) o.1) _ _ λ y y-is.
      let less = expr_shorter g (level_of o.0 - 1) o.1 y y-is in
      climb_same f g n (binary o.0 e y.0) y.1 (omega (arith, first, less)) (omega (arith, first, less))))
      refl

-- an expression is an operand and what stands after it
pub expr-is : (n : ℕ) (s : List Symbol) → expr n s ≡ (unary_by (expr 10) s >>= λ x. climb n x.0 x.1)
unfolding expr expr_in climb
expr-is n s =
    rw (unary_same (expr_in (length s) 10) (expr 10) (length s) (λ t lt. expr_same (length s) (suc (length t)) 10 t lt (omega arith)) (λ t x e. expr_shorter (suc (length t)) 10 t x e) s (omega arith))
    (bind_same (unary_by (expr 10) s) _ _ λ x x-is.
    let less = (unary_sound (expr 10) (λ t y d. (expr_sound (suc (length t)) 10 t y d).front) s x x-is).shorter in
    climb_same (length s) (suc (length x.1)) n x.0 x.1 less (omega arith))

pub climb-is : (n : ℕ) (e : ExprTree) (s : List Symbol) → climb n e s ≡ option_map_or (λ o. expr (level_of o.0 - 1) o.1 >>= λ y. climb n (binary o.0 e y.0) y.1) (next_operator n s) (Some (e, s))
unfolding expr climb climb_in
climb-is n e s =
    choice_same (next_operator n s) _ _ _ _
    (λ o o-is.
    let first = ap length (next_operator_some n s o o-is).0 in
    rw (expr_same (length s) (suc (length o.1)) (level_of o.0 - 1) o.1 (omega (arith, first)) (omega arith))
    (bind_same (expr_in (suc (length o.1)) (level_of o.0 - 1) o.1) _ _ λ y y-is.
    let less = expr_shorter (suc (length o.1)) (level_of o.0 - 1) o.1 y y-is in
    climb_same (length s) (suc (length y.1)) n (binary o.0 e y.0) y.1 (omega (arith, first, less)) (omega arith)))
    refl

-- an operand, by its first sign
pub unary_is : (read : Reader ExprTree) (g : Sign) (s r : List Symbol) → next_sign s ≡ Some (g, r) →
    unary_by read s ≡ option_map_or (λ op. unary_by read r >>= λ x. Some (unary op x.0, x.1)) (unary_of g) (primary_from read g r)
unfolding unary_by next_sign
unary_is read g [] r h = absurd cc
unary_is read g (t ∷ s) r h =
    let both : ◌≡◌ {A = Sign × List Symbol} (sign_of t, s) (g, r) = cc in
    let sign : sign_of t ≡ g = ap (λ (x : Sign × List Symbol). x.0) both in
    let rest : s ≡ r = ap (λ (x : Sign × List Symbol). x.1) both in
    rw (sign, rest)

pub unary_nothing : (read : Reader ExprTree) (s : List Symbol) → next_sign s ≡ None → unary_by read s ≡ None
unfolding unary_by next_sign
unary_nothing read [] h = refl
unary_nothing read (t ∷ s) h = absurd cc
