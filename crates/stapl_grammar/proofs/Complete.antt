-- What is in the grammar is read, whatever follows that can't continue it.
use Rattle.std.proofs.Common.{◌≡◌, ℕ, zero, suc, ◌-◌, ◌<◌, List, [], ◌∷◌, ◌++◌, length, Option, Some, None, refl, sym, ap, ◌∙◌, arith, append_assoc}
use Rattle.std.proofs.lemmas.List.{append-nil}
use Rattle.stapl_lexer.specs.declared.terminal.BinOp.{BinOp}
use Rattle.stapl_lexer.specs.declared.terminal.Mark.{Mark}
use Rattle.stapl_lexer.specs.declared.terminal.Mark.TheVariants as marks
use Rattle.stapl_syntax.specs.Symbols.{Symbol}
use Rattle.stapl_syntax.specs.Trees.{ExprTree, ArrayTree, binary, range}
use Rattle.stapl_syntax.specs.Expressions.{level_of, operator, mark, IsExpr, IsUnary, IsPrimary, IsCell, IsTarget, IsArray, of_unary, negation, complement, negated, tighter, of_binary, of_primary, of_number, of_cell, of_scalar, of_element, of_brackets, of_abs, of_array, of_literal, of_target, of_whole, of_range, of_expr, right_square, left_round, right_round, dots}
use Rattle.stapl_grammar.specs.Looks.{after_mark, is_mark, mark_number}
use Rattle.stapl_grammar.specs.Reading.{◌>>=◌, Reader, next_sign, name_at, name_of, literal_at, operator_of, next_operator, closed_by, bracketed_by, named_by, range_by, target_from, target_by, bool_from, array_from, array_by, brackets_from, function_from, primary_from, unary_of, unary_by, expr, climb}
use Rattle.stapl_grammar.proofs.Tools.{AtLeastLevel, some_is, after_mark_some, after_mark_here, next_operator_some, next_operator_here, next_operator_quiet, next_operator_none}
use Rattle.stapl_grammar.proofs.Steps.{bind_same, expr-is, climb-is, expr_shorter}

-- where no operator of these levels stands first, nothing more is taken
pub climb_stops : (n : ℕ) (e : ExprTree) (s : List Symbol) → next_operator n s ≡ None → climb n e s ≡ Some (e, s)
climb_stops n e s h = rw (climb-is n e s, h)

pub climb_some : (n : ℕ) (e : ExprTree) (s : List Symbol) (o : BinOp × List Symbol) → next_operator n s ≡ Some o → climb n e s ≡ (expr (level_of o.0 - 1) o.1 >>= λ y. climb n (binary o.0 e y.0) y.1)
climb_some n e s o h = rw (climb-is n e s, h)

bind_assoc : {A B C : Type 0} (o : Option A) (f : A → Option B) (g : B → Option C) → ((o >>= f) >>= g) ≡ (o >>= λ x. f x >>= g)
bind_assoc None f g = refl
bind_assoc (Some x) f g = refl

next_operator_up : (n : ℕ) (s : List Symbol) (o : BinOp × List Symbol) → next_operator n s ≡ Some o → next_operator (suc n) s ≡ Some o
next_operator_up n s o h =
    let first = next_operator_some n s o h in
    rw first.0 (next_operator_here (suc n) o.0 o.1 (omega (arith, first.1)))

pub shorter : (m : ℕ) (t : List Symbol) (y : ExprTree × List Symbol) → expr m t ≡ Some y → length y.1 < length t
unfolding expr
shorter m t y y-is = expr_shorter (suc (length t)) m t y y-is

-- a level more reads on where the level below stopped
climb_layered : (k n : ℕ) (e : ExprTree) (s : List Symbol) → length s < k → climb (suc n) e s ≡ (climb n e s >>= λ x. climb (suc n) x.0 x.1)
climb_layered zero n e s lt = absurd (omega arith)
climb_layered (suc k) n e s lt = go (next_operator n s) refl (λ f t l. climb_layered k n f t l)
  where
    go : (q : Option (BinOp × List Symbol)) → next_operator n s ≡ q →
        ((f : ExprTree) (t : List Symbol) → length t < k → climb (suc n) f t ≡ (climb n f t >>= λ x. climb (suc n) x.0 x.1)) → climb (suc n) e s ≡ (climb n e s >>= λ x. climb (suc n) x.0 x.1)
    go None h ih = rw (climb_stops n e s h)
    go (Some o) h ih =
        let first = ap length (next_operator_some n s o h).0 in
        climb_some (suc n) e s o (next_operator_up n s o h)
        ∙ bind_same (expr (level_of o.0 - 1) o.1) _ _ (λ y y-is.
        let less = shorter (level_of o.0 - 1) o.1 y y-is in
        ih (binary o.0 e y.0) y.1 (omega (arith, first, less)))
        ∙ sym (bind_assoc (expr (level_of o.0 - 1) o.1) _ _)
        ∙ ap (λ (q : Option (ExprTree × List Symbol)). q >>= λ x. climb (suc n) x.0 x.1) (sym (climb_some n e s o h))

expr_layered : (n : ℕ) (s : List Symbol) → expr (suc n) s ≡ (expr n s >>= λ x. climb (suc n) x.0 x.1)
expr_layered n s =
    expr-is (suc n) s
    ∙ bind_same (unary_by (expr 10) s) _ _ (λ x x-is. climb_layered (suc (length x.1)) n x.0 x.1 (omega arith))
    ∙ sym (bind_assoc (unary_by (expr 10) s) _ _)
    ∙ ap (λ (q : Option (ExprTree × List Symbol)). q >>= λ x. climb (suc n) x.0 x.1) (sym (expr-is n s))

-- nothing here reads on: no operator of these levels, and no bracket after a name
pub record Ends (n : ℕ) (r : List Symbol) : Type 0 where
  pub operator : AtLeastLevel n r
  pub bracket : after_mark marks.LeftSquare r ≡ None

-- after a mark other than an opening bracket nothing reads on
whole_from : (s : List Symbol) (e : ExprTree) (m : Mark) (r : List Symbol) → expr 10 (s ++ (mark m ∷ r)) ≡ climb 10 e (mark m ∷ r) → expr 10 (s ++ (mark m ∷ r)) ≡ Some (e, mark m ∷ r)
unfolding next_operator operator_of
whole_from s e m r h = h ∙ climb_stops 10 e (mark m ∷ r) refl

ends_mark : (n : ℕ) (m : Mark) (r : List Symbol) → after_mark marks.LeftSquare (mark m ∷ r) ≡ None → Ends n (mark m ∷ r)
ends_mark n m r h = record { operator = λ op t i. absurd cc; bracket = h }

ends_operator : (k : ℕ) (op : BinOp) (s : List Symbol) → level_of op ≡ suc k → Ends (suc k) (operator op ∷ s)
unfolding after_mark is_mark
ends_operator k op s level = record { operator = λ o t i. let same : op ≡ o = cc in omega (arith, level, ap level_of same); bracket = refl }

ends_below : (k : ℕ) (r : List Symbol) → Ends (suc k) r → Ends k r
ends_below k r ends = record { operator = λ op t i. omega (arith, ends.operator op t i); bracket = ends.bracket }

closed_complete : {A : Type 0} (m : Mark) (read : Reader A) (s r : List Symbol) (x : A) → read (s ++ (mark m ∷ r)) ≡ Some (x, mark m ∷ r) → closed_by m read ((s ++ (mark m ∷ [])) ++ r) ≡ Some (x, r)
unfolding closed_by
closed_complete m read s r x h = rw (append_assoc s (mark m ∷ []) r, h, after_mark_here m r)

pub bracketed_complete : {A : Type 0} (read : Reader A) (s r : List Symbol) (x : A) → read (s ++ (right_round ∷ r)) ≡ Some (x, right_round ∷ r) →
    bracketed_by read (left_round ∷ ((s ++ (right_round ∷ [])) ++ r)) ≡ Some (x, r)
unfolding bracketed_by
bracketed_complete read s r x h = rw (after_mark_here marks.LeftRound ((s ++ (right_round ∷ [])) ++ r), closed_complete marks.RightRound read s r x h)

-- an operand without an operator before it
pub primary_by : Reader ExprTree
primary_by s = next_sign s >>= λ g. primary_from (expr 10) g.0 g.1

-- what a reader reads after a name
unfoldable pub after_name : {A : Type 0} → (List ℕ → Reader A) → Reader A
after_name read s = name_at s >>= λ v. read v.0 v.1

cell_primary : {a : List Symbol} {e : ExprTree} → IsCell a e → (r : List Symbol) → primary_by (a ++ r) ≡ after_name (named_by (expr 10)) (a ++ r)
unfolding primary_by primary_from brackets_from function_from next_sign after_name name_at name_of
cell_primary of_scalar r = refl
cell_primary (of_element m) r = refl

target_array : {a : List Symbol} {x : ArrayTree} → IsTarget a x → (r : List Symbol) → array_by (expr 10) (a ++ r) ≡ after_name (target_by (expr 10)) (a ++ r)
unfolding array_by array_from bool_from literal_at next_sign after_name name_at name_of
target_array of_whole r = refl
target_array (of_range h l) r = refl

first_of_cell : {a : List Symbol} {e : ExprTree} → IsCell a e → (r : List Symbol) → unary_by (expr 10) (a ++ r) ≡ primary_by (a ++ r)
unfolding unary_by unary_of primary_by next_sign
first_of_cell of_scalar r = refl
first_of_cell (of_element m) r = refl

first_of_primary : {a : List Symbol} {e : ExprTree} → IsPrimary a e → (r : List Symbol) → unary_by (expr 10) (a ++ r) ≡ primary_by (a ++ r)
unfolding unary_by unary_of primary_by next_sign
first_of_primary of_number r = refl
first_of_primary (of_cell m) r = first_of_cell m r
first_of_primary (of_brackets m) r = refl
first_of_primary (of_abs m) r = refl
first_of_primary (of_array m) r = refl

closing_none : (t : List Symbol) → expr 10 (right_square ∷ t) ≡ None
unfolding unary_by unary_of primary_from brackets_from function_from
closing_none t = expr-is 10 (right_square ∷ t)

-- an expression doesn't begin with a closing bracket
pub not_closing : (s : List Symbol) (x : ExprTree × List Symbol) → expr 10 s ≡ Some x → after_mark marks.RightSquare s ≡ None
not_closing s x h = go (after_mark marks.RightSquare s) refl
  where
    go : (q : Option (List Symbol)) → after_mark marks.RightSquare s ≡ q → q ≡ None
    go None e = refl
    go (Some t) e =
        let s-is = after_mark_some marks.RightSquare s t e in
        let none : expr 10 s ≡ None = rw s-is (closing_none t) in
        absurd cc

range_complete : (v : List ℕ) (a : List Symbol) (x : ExprTree) (s : List Symbol) (y : ExprTree) (r : List Symbol) → expr 10 (a ++ (dots ∷ s)) ≡ Some (x, dots ∷ s) →
    closed_by marks.RightSquare (expr 10) s ≡ Some (y, r) → target_from (expr 10) v (a ++ (dots ∷ s)) ≡ Some (range v x y, r)
unfolding target_from range_by
range_complete v a x s y r h l = rw (not_closing (a ++ (dots ∷ s)) (x, dots ∷ s) h, h, after_mark_here marks.Dots s, l)

mutual
  unfolding unary_by unary_of primary_by primary_from brackets_from function_from named_by array_by array_from bool_from literal_at next_sign name_at name_of after_name
      target_by target_from range_by after_mark is_mark mark_number

  pub expr_complete : {n : ℕ} {a : List Symbol} {e : ExprTree} → IsExpr n a e → (r : List Symbol) → Ends n r → expr n (a ++ r) ≡ climb n e r
  expr_complete (of_unary m) r ends = expr-is 0 _ ∙ ap (λ (q : Option (ExprTree × List Symbol)). q >>= λ x. climb 0 x.0 x.1) (unary_complete m r ends.bracket)
  expr_complete (tighter {n = k} {e = e} m) r ends =
      expr_layered k _
      ∙ ap (λ (q : Option (ExprTree × List Symbol)). q >>= λ x. climb (suc k) x.0 x.1)
      (expr_complete m r (ends_below k r ends) ∙ climb_stops k e r (next_operator_quiet k r ends.operator))
  expr_complete (of_binary {n = k} {a = a} {b = b} {x = x} {y = y} op level left right) r ends =
      let s = operator op ∷ (b ++ r) in
      ap (λ (l : List Symbol). expr (suc k) l) (append_assoc a (operator op ∷ b) r)
      ∙ expr_complete left s (ends_operator k op (b ++ r) level)
      ∙ climb_some (suc k) x s (op, b ++ r) (next_operator_here (suc k) op (b ++ r) (omega (arith, level)))
      ∙ ap (λ (q : Option (ExprTree × List Symbol)). q >>= λ z. climb (suc k) (binary op x z.0) z.1)
      (ap (λ (i : ℕ). expr i (b ++ r)) (omega (arith, level)) ∙ expr_complete right r (ends_below k r ends) ∙ climb_stops k y r (next_operator_quiet k r ends.operator))

  pub unary_complete : {a : List Symbol} {e : ExprTree} → IsUnary a e → (r : List Symbol) → after_mark marks.LeftSquare r ≡ None → unary_by (expr 10) (a ++ r) ≡ Some (e, r)
  unary_complete (negation m) r h = rw (unary_complete m r h)
  unary_complete (complement m) r h = rw (unary_complete m r h)
  unary_complete (negated m) r h = rw (unary_complete m r h)
  unary_complete (of_primary m) r h = first_of_primary m r ∙ primary_complete m r h

  pub primary_complete : {a : List Symbol} {e : ExprTree} → IsPrimary a e → (r : List Symbol) → after_mark marks.LeftSquare r ≡ None → primary_by (a ++ r) ≡ Some (e, r)
  primary_complete of_number r h = refl
  primary_complete (of_cell m) r h = cell_primary m r ∙ cell_complete m r h
  primary_complete (of_brackets {s = s} {e = e} m) r h = closed_complete marks.RightRound (expr 10) s r e
      (whole_from s e marks.RightRound r (expr_complete m (right_round ∷ r) (ends_mark 10 marks.RightRound r refl)))
  primary_complete (of_abs {s = s} {e = e} m) r h = rw (bracketed_complete (expr 10) s r e
      (whole_from s e marks.RightRound r (expr_complete m (right_round ∷ r) (ends_mark 10 marks.RightRound r refl))))
  primary_complete (of_array {s = s} {a = a} m) r h = rw (bracketed_complete (array_by (expr 10)) s r a (array_complete m (right_round ∷ r)))

  pub cell_complete : {a : List Symbol} {e : ExprTree} → IsCell a e → (r : List Symbol) → after_mark marks.LeftSquare r ≡ None → after_name (named_by (expr 10)) (a ++ r) ≡ Some (e, r)
  cell_complete of_scalar r h = rw h
  cell_complete (of_element {s = s} {e = e} m) r h = rw (closed_complete marks.RightSquare (expr 10) s r e
      (whole_from s e marks.RightSquare r (expr_complete m (right_square ∷ r) (ends_mark 10 marks.RightSquare r refl))))

  pub target_complete : {a : List Symbol} {x : ArrayTree} → IsTarget a x → (r : List Symbol) → after_name (target_by (expr 10)) (a ++ r) ≡ Some (x, r)
  target_complete of_whole r = refl
  target_complete (of_range {v = v} {a = a} {b = b} {x = x} {y = y} h l) r =
      let s = (b ++ (right_square ∷ [])) ++ r in
      ap (λ (t : List Symbol). target_from (expr 10) v t) (append_assoc a (dots ∷ (b ++ (right_square ∷ []))) r)
      ∙ range_complete v a x s y r
      (whole_from a x marks.Dots s (expr_complete h (dots ∷ s) (ends_mark 10 marks.Dots s refl)))
      (closed_complete marks.RightSquare (expr 10) b r y (whole_from b y marks.RightSquare r (expr_complete l (right_square ∷ r) (ends_mark 10 marks.RightSquare r refl))))

  pub array_complete : {a : List Symbol} {x : ArrayTree} → IsArray a x → (r : List Symbol) → array_by (expr 10) (a ++ r) ≡ Some (x, r)
  array_complete of_literal r = refl
  array_complete (of_target m) r = target_array m r ∙ target_complete m r
  array_complete (of_expr {s = s} {e = e} m) r = rw (bracketed_complete (expr 10) s r e (whole_from s e marks.RightRound r (expr_complete m (right_round ∷ r) (ends_mark 10 marks.RightRound r refl))))

-- nothing reads on at the end
ends_nothing : (n : ℕ) → Ends n []
unfolding after_mark
ends_nothing n = record { operator = λ op t i. absurd cc; bracket = refl }

-- an expression is read up to where nothing reads on
pub expr_read : (s : List Symbol) (e : ExprTree) (r : List Symbol) → IsExpr 10 s e → next_operator 10 r ≡ None → after_mark marks.LeftSquare r ≡ None → expr 10 (s ++ r) ≡ Some (e, r)
expr_read s e r m none bracket =
    expr_complete m r (record { operator = λ op t i. omega (arith, next_operator_none 10 r none op t i); bracket = bracket }) ∙ climb_stops 10 e r none

-- a whole list that is an expression is read
pub whole_read : (s : List Symbol) (e : ExprTree) → IsExpr 10 s e → expr 10 s ≡ Some (e, [])
unfolding next_operator
whole_read s e m =
    ap (λ (l : List Symbol). expr 10 l) (sym (append-nil s)) ∙ expr_complete m [] (ends_nothing 10) ∙ climb_stops 10 e [] refl

-- the symbols are one expression at most
pub one : (s : List Symbol) (d e : ExprTree) → IsExpr 10 s d → IsExpr 10 s e → d ≡ e
one s d e m k =
    let same = some_is (d, []) (e, []) (sym (whole_read s d m) ∙ whole_read s e k) in
    ap (λ (x : ExprTree × List Symbol). x.0) same
