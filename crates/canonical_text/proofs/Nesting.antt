-- How deep the brackets of printed statements are nested, and that each other writing of them nests as deep.
use Rattle.std.proofs.Common.{◌≡◌, ℕ, ◌+◌, ◌-◌, ◌<◌, ◌≤◌, max, suc, Bool, true, false, cond, List, [], ◌∷◌, ◌++◌, refl, sym, ap, subst, arith, append_assoc}
use Rattle.std.specs.Prelude.{nat_lt}
use Rattle.std.proofs.lemmas.Bool.Decides.{nat_tests}
use Rattle.stapl_lexer.specs.Depth.{is_opening, is_closing}
use Rattle.stapl_lexer.specs.declared.terminal.BinOp.TheVariants.{Subtract}
use Rattle.stapl_lexer.specs.declared.terminal.Function.TheVariants as functions
use Rattle.stapl_lexer.specs.declared.terminal.Mark.TheVariants as marks
use Rattle.stapl_syntax.specs.declared.signs.Sign.TheVariants as signs
use Rattle.stapl_syntax.specs.declared.signs.UnOp.{UnOp}
use Rattle.stapl_syntax.specs.declared.signs.UnOp.TheVariants.{Negate, Complement, Not}
use Rattle.stapl_syntax.specs.Symbols.{Symbol, Plain, Literal}
use Rattle.stapl_syntax.specs.Trees.{ExprTree, number, scalar, element, unary, binary, abs, int, ArrayTree, literal, whole, range, of_int}
use Rattle.stapl_syntax.specs.Expressions.{level_of, operator, mark, function, name, left_round, right_round, left_square, right_square, dots, IsExpr}
use Rattle.stapl_syntax.specs.Expressions.{of_unary, tighter, of_binary, IsUnary, negation, complement, negated, of_primary, IsPrimary, of_number, of_cell}
use Rattle.stapl_syntax.specs.Expressions.{of_brackets, of_abs, of_array, IsCell, of_scalar, of_element, IsTarget, of_whole, of_range, IsArray, of_literal}
use Rattle.stapl_syntax.specs.Expressions.{of_target, of_expr}
use Rattle.canonical_text.specs.PrintedTokens.{Printed, Seen, unary_symbol}
use Rattle.canonical_text.specs.PrintedStatements.{bracketed_if, expr_tokens, array_tokens}
use Rattle.canonical_text.specs.Printable.{sign_terminal, symbol_terminal, opens, closes, one_if, openings, closings}
use Rattle.canonical_text.proofs.Grammar.{symbols, symbols-append}
use Rattle.canonical_text.proofs.Kept.{weight-append}
use Rattle.canonical_text.proofs.Heights.{lower, Walk, walk_on, Reaches, reaches_none}
use Rattle.canonical_text.proofs.Heights.{reaches_less, balanced_on, reaches_left, reaches_both, reaches_in, reaches_past}

abbrev mutual
  -- how deep the brackets of an expression are nested as it is printed
  pub expr_depth : ℕ → ExprTree → ℕ
  expr_depth n (number z) = 0
  expr_depth n (scalar v) = 0
  expr_depth n (element v i) = suc (expr_depth 10 i)
  expr_depth n (unary op x) = expr_depth 0 x
  expr_depth n (binary op x y) = one_if (nat_lt n (level_of op)) + max (expr_depth (level_of op) x) (expr_depth (level_of op - 1) y)
  expr_depth n (abs x) = suc (expr_depth 10 x)
  expr_depth n (int a) = suc (array_depth a)

  pub array_depth : ArrayTree → ℕ
  array_depth (literal bits) = 0
  array_depth (whole v) = 1
  array_depth (range v h l) = suc (max (expr_depth 10 h) (expr_depth 10 l))
  array_depth (of_int x) = suc (expr_depth 10 x)

-- ---- what is printed goes no deeper

-- a walk in round or square brackets
module _ (d h : ℕ) (ts : List Printed) (w : Walk d (suc h) (symbols ts) (suc h)) (le : suc h ≤ d) where
  inside : (t : Symbol) → opens t ≡ false → closes t ≡ true → Walk d (suc h) (symbols (ts ++ Seen t ∷ [])) h
  inside t o c =
      subst (λ (v : List Symbol). Walk d (suc h) v h) (sym (symbols-append ts (Seen t ∷ [])))
      (walk_on d (suc h) (suc h) h (symbols ts) (t ∷ []) w (last (opens t) (closes t) o c))
    where
      last : (a b : Bool) → a ≡ false → b ≡ true → (b ≡ true → 0 < suc h) × (cond a (suc (suc h)) (cond b h (suc h)) ≤ d) × (cond a (suc (suc h)) (cond b h (suc h)) ≡ h)
      last true b o c = absurd cc
      last false false o c = absurd cc
      last false true o c = ((λ e. omega arith), omega arith, refl)

marked : (op : UnOp) (d h : ℕ) (s : List Symbol) → h ≤ d → Walk d h s h → Walk d h (unary_symbol op ∷ s) h
unfolding symbol_terminal sign_terminal is_opening is_closing unary_symbol
marked Negate d h s le w = ((λ e. absurd cc), le, w)
marked Complement d h s le w = ((λ e. absurd cc), le, w)
marked Not d h s le w = ((λ e. absurd cc), le, w)

module _ (d : ℕ) where
  operands_walk : (h : ℕ) (t : Symbol) (ts us : List Printed) (a b : ℕ) → opens t ≡ false → closes t ≡ false →
      ((k : ℕ) → k + a ≤ d → Walk d k (symbols ts) k) → ((k : ℕ) → k + b ≤ d → Walk d k (symbols us) k) →
      h + max a b ≤ d → Walk d h (symbols (ts ++ Seen t ∷ us)) h
  operands_walk h t ts us a b o c left right le =
      subst (λ (v : List Symbol). Walk d h v h) (sym (symbols-append ts (Seen t ∷ us)))
      (walk_on d h h h (symbols ts) (t ∷ symbols us) (left h (omega arith)) (next (opens t) (closes t) o c (right h (omega arith))))
    where
      next : (p q : Bool) → p ≡ false → q ≡ false → Walk d h (symbols us) h →
          (q ≡ true → 0 < h) × (cond p (suc h) (cond q (lower h) h) ≤ d) × Walk d (cond p (suc h) (cond q (lower h) h)) (symbols us) h
      next true q o c w = absurd cc
      next false true o c w = absurd cc
      next false false o c w = ((λ e. absurd cc), omega arith, w)

binary_walk : (d h : ℕ) (b : Bool) (t : Symbol) (ts us : List Printed) (x y : ℕ) → opens t ≡ false → closes t ≡ false →
    ((k : ℕ) → k + x ≤ d → Walk d k (symbols ts) k) → ((k : ℕ) → k + y ≤ d → Walk d k (symbols us) k) →
    h + (one_if b + max x y) ≤ d → Walk d h (symbols (bracketed_if b (ts ++ Seen t ∷ us))) h
unfolding symbol_terminal sign_terminal is_opening is_closing
binary_walk d h true t ts us x y o c left right le =
    ((λ e. absurd cc), omega arith, inside d h (ts ++ Seen t ∷ us) (operands_walk d (suc h) t ts us x y o c left right (omega arith)) (omega arith) right_round refl refl)
binary_walk d h false t ts us x y o c left right le = operands_walk d h t ts us x y o c left right (omega arith)

mutual
  unfolding symbol_terminal sign_terminal is_opening is_closing

  pub expr_walk : (d h n : ℕ) (e : ExprTree) → h + expr_depth n e ≤ d → Walk d h (symbols (expr_tokens n e)) h
  expr_walk d h n (number z) le = ((λ e. absurd cc), omega arith, refl)
  expr_walk d h n (scalar v) le = ((λ e. absurd cc), omega arith, refl)
  expr_walk d h n (element v i) le =
      ((λ e. absurd cc), omega arith, ((λ e. absurd cc), omega arith, inside d h (expr_tokens 10 i) (expr_walk d (suc h) 10 i (omega arith)) (omega arith) right_square refl refl))
  expr_walk d h n (unary op x) le = marked op d h _ (omega arith) (expr_walk d h 0 x (omega arith))
  expr_walk d h n (binary op x y) le =
      binary_walk d h (nat_lt n (level_of op)) (operator op) (expr_tokens (level_of op) x) (expr_tokens (level_of op - 1) y) (expr_depth (level_of op) x) (expr_depth (level_of op - 1) y)
      refl refl (λ k le. expr_walk d k (level_of op) x le) (λ k le. expr_walk d k (level_of op - 1) y le) (omega arith)
  expr_walk d h n (abs x) le =
      ((λ e. absurd cc), omega arith, ((λ e. absurd cc), omega arith, inside d h (expr_tokens 10 x) (expr_walk d (suc h) 10 x (omega arith)) (omega arith) right_round refl refl))
  expr_walk d h n (int a) le =
      ((λ e. absurd cc), omega arith, ((λ e. absurd cc), omega arith, inside d h (array_tokens a) (array_walk d (suc h) a (omega arith)) (omega arith) right_round refl refl))

  pub array_walk : (d h : ℕ) (a : ArrayTree) → h + array_depth a ≤ d → Walk d h (symbols (array_tokens a)) h
  array_walk d h (literal bits) le = ((λ e. absurd cc), omega arith, refl)
  array_walk d h (whole v) le = ((λ e. absurd cc), omega arith, ((λ e. absurd cc), omega arith, ((λ e. omega arith), omega arith, refl)))
  array_walk d h (range v a b) le = (
    (λ e. absurd cc),
    omega arith,
    (
      (λ e. absurd cc),
      omega arith,
      subst (λ (w : List Symbol). Walk d (suc h) w h) (sym (symbols-append (expr_tokens 10 a) (Seen dots ∷ (expr_tokens 10 b ++ Seen right_square ∷ []))))
          (walk_on d (suc h) (suc h) h (symbols (expr_tokens 10 a)) (dots ∷ symbols (expr_tokens 10 b ++ Seen right_square ∷ [])) (expr_walk d (suc h) 10 a (omega arith))
          ((λ e. absurd cc), omega arith, inside d h (expr_tokens 10 b) (expr_walk d (suc h) 10 b (omega arith)) (omega arith) right_square refl refl)),
    ),
  )
  array_walk d h (of_int x) le =
      ((λ e. absurd cc), omega arith, ((λ e. absurd cc), omega arith, inside d h (expr_tokens 10 x) (expr_walk d (suc h) 10 x (omega arith)) (omega arith) right_round refl refl))

-- ---- each other writing goes as deep

-- what is known of the brackets of symbols: they are balanced, and nested so deep
pub record Nests (d : ℕ) (s : List Symbol) : Type 0 where
  pub reaches : Reaches d s
  pub even : openings s ≡ closings s

pub past : (d : ℕ) (t : Symbol) (s : List Symbol) → opens t ≡ false → closes t ≡ false → Nests d s → Nests d (t ∷ s)
past d t s o c r = record { reaches = reaches_past d t s o c r.reaches; even = omega (arith, ap one_if o, ap one_if c, r.even) }

-- in brackets
pub enclosed : (d : ℕ) (t u : Symbol) (s : List Symbol) → opens t ≡ true → closes t ≡ false → opens u ≡ false → closes u ≡ true → Nests d s → Nests (suc d) (t ∷ (s ++ u ∷ []))
enclosed d t u s o c p q r = record {
  reaches = reaches_in d t (s ++ u ∷ []) o c (reaches_left d s (u ∷ []) r.reaches);
  even = omega (arith, weight-append opens s (u ∷ []), weight-append closes s (u ∷ []), ap one_if o, ap one_if c, ap one_if p, ap one_if q, r.even);
}

both_nest : (d e : ℕ) (a b : List Symbol) → Nests d a → Nests e b → Nests (max d e) (a ++ b)
both_nest d e a b r q = record { reaches = reaches_both d e a b r.even r.reaches q.reaches; even = balanced_on a b r.even q.even }

nest_less : (d e : ℕ) (s : List Symbol) → d ≤ e → Nests e s → Nests d s
nest_less d e s le r = record { reaches = reaches_less d e s le r.reaches; even = r.even }

pub flat : (t : Symbol) → opens t ≡ false → closes t ≡ false → Nests 0 (t ∷ [])
flat t o c = record { reaches = reaches_none (t ∷ []); even = omega (arith, ap one_if o, ap one_if c) }

one_at_most : (b : Bool) → one_if b ≤ 1
one_at_most true = omega arith
one_at_most false = omega arith

-- a place for looser operators saves one pair of brackets at most
one_more : (n : ℕ) (e : ExprTree) → expr_depth n e ≤ suc (expr_depth 10 e)
one_more n (number z) = omega arith
one_more n (scalar v) = omega arith
one_more n (element v i) = omega arith
one_more n (unary op x) = omega arith
one_more n (binary op x y) = omega (arith, one_at_most (nat_lt n (level_of op)))
one_more n (abs x) = omega arith
one_more n (int a) = omega arith

no_bracket : (n k : ℕ) → k ≤ n → one_if (nat_lt n k) ≡ 0
no_bracket n k le = ap one_if (not_below n k le)
  where
    not_below : (n k : ℕ) → k ≤ n → nat_lt n k ≡ false
    not_below n k le = grind (arith, nat_tests)

mutual
  unfolding symbol_terminal sign_terminal is_opening is_closing

  pub expr_nests : (m n : ℕ) (s : List Symbol) (e : ExprTree) → IsExpr m s e → m ≤ n → Nests (expr_depth n e) s
  expr_nests _ n _ _ (of_unary {s = s} {e = e} d) le = unary_nests n s e d
  expr_nests _ n _ _ (tighter {n = m} {s = s} {e = e} d) le = expr_nests m n s e d (omega arith)
  expr_nests _ n _ _ (of_binary {n = m} {a = a} {b = b} {x = x} {y = y} op level left right) le =
      nest_less _ (max (expr_depth (level_of op) x) (expr_depth (level_of op - 1) y)) (a ++ operator op ∷ b)
      (omega (arith, no_bracket n (level_of op) (omega (arith, level))))
      (both_nest (expr_depth (level_of op) x) (expr_depth (level_of op - 1) y) a (operator op ∷ b) (expr_nests (suc m) (level_of op) a x left (omega (arith, level)))
      (past (expr_depth (level_of op - 1) y) (operator op) b refl refl (expr_nests m (level_of op - 1) b y right (omega (arith, level)))))

  pub unary_nests : (n : ℕ) (s : List Symbol) (e : ExprTree) → IsUnary s e → Nests (expr_depth n e) s
  unary_nests n _ _ (negation {s = s} {e = e} d) = past (expr_depth 0 e) (operator Subtract) s refl refl (unary_nests 0 s e d)
  unary_nests n _ _ (complement {s = s} {e = e} d) = past (expr_depth 0 e) (mark marks.Tilde) s refl refl (unary_nests 0 s e d)
  unary_nests n _ _ (negated {s = s} {e = e} d) = past (expr_depth 0 e) (mark marks.Exclamation) s refl refl (unary_nests 0 s e d)
  unary_nests n _ _ (of_primary {s = s} {e = e} d) = primary_nests n s e d

  pub primary_nests : (n : ℕ) (s : List Symbol) (e : ExprTree) → IsPrimary s e → Nests (expr_depth n e) s
  primary_nests n _ _ (of_number {z = z}) = flat (Plain (signs.Number z)) refl refl
  primary_nests n _ _ (of_cell {s = s} {e = e} d) = cell_nests n s e d
  primary_nests n _ _ (of_brackets {s = s} {e = e} d) =
      nest_less (expr_depth n e) (suc (expr_depth 10 e)) _ (one_more n e) (enclosed (expr_depth 10 e) left_round right_round s refl refl refl refl (expr_nests 10 10 s e d (omega arith)))
  primary_nests n _ _ (of_abs {s = s} {e = e} d) =
      past _ (function functions.Abs) _ refl refl (enclosed (expr_depth 10 e) left_round right_round s refl refl refl refl (expr_nests 10 10 s e d (omega arith)))
  primary_nests n _ _ (of_array {s = s} {a = a} d) =
      past _ (function functions.Int) _ refl refl (enclosed (array_depth a) left_round right_round s refl refl refl refl (array_nests s a d))

  pub cell_nests : (n : ℕ) (s : List Symbol) (e : ExprTree) → IsCell s e → Nests (expr_depth n e) s
  cell_nests n _ _ (of_scalar {v = v}) = flat (name v) refl refl
  cell_nests n _ _ (of_element {v = v} {s = s} {e = e} d) =
      past _ (name v) _ refl refl (enclosed (expr_depth 10 e) left_square right_square s refl refl refl refl (expr_nests 10 10 s e d (omega arith)))

  pub target_nests : (s : List Symbol) (a : ArrayTree) → IsTarget s a → Nests (array_depth a) s
  target_nests _ _ (of_whole {v = v}) =
      past 1 (name v) _ refl refl (enclosed 0 left_square right_square [] refl refl refl refl (record { reaches = reaches_none []; even = refl }))
  target_nests _ _ (of_range {v = v} {a = a} {b = b} {x = x} {y = y} c d) =
      past _ (name v) _ refl refl (subst (λ (w : List Symbol). Nests (suc (max (expr_depth 10 x) (expr_depth 10 y))) (left_square ∷ w)) (append_assoc a (dots ∷ b) (right_square ∷ []))
      (enclosed (max (expr_depth 10 x) (expr_depth 10 y)) left_square right_square (a ++ dots ∷ b) refl refl refl refl
      (both_nest (expr_depth 10 x) (expr_depth 10 y) a (dots ∷ b) (expr_nests 10 10 a x c (omega arith)) (past (expr_depth 10 y) dots b refl refl (expr_nests 10 10 b y d (omega arith))))))

  pub array_nests : (s : List Symbol) (a : ArrayTree) → IsArray s a → Nests (array_depth a) s
  array_nests _ _ (of_literal {bits = bits}) = flat (Literal bits) refl refl
  array_nests _ _ (of_target {s = s} {a = a} d) = target_nests s a d
  array_nests _ _ (of_expr {s = s} {e = e} d) =
      past _ (function functions.Bool) _ refl refl (enclosed (expr_depth 10 e) left_round right_round s refl refl refl refl (expr_nests 10 10 s e d (omega arith)))
