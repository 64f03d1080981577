-- What is read is in the grammar.
use Rattle.std.proofs.Common.{◌≡◌, ℕ, zero, suc, ◌+◌, ◌-◌, ◌<◌, ◌≤◌, List, [], ◌∷◌, ◌++◌, length, Some, None, refl, sym, ap, subst, ◌∙◌, arith, append_assoc, add-zero, add-suc}
use Rattle.std.proofs.lemmas.List.{append-nil}
use Rattle.stapl_lexer.specs.declared.terminal.BinOp.TheVariants.{Subtract}
use Rattle.stapl_syntax.specs.declared.signs.UnOp.{UnOp}
use Rattle.stapl_syntax.specs.declared.signs.UnOp.TheVariants.{Negate, Complement, Not}
use Rattle.stapl_lexer.specs.declared.terminal.Mark.{Mark}
use Rattle.stapl_lexer.specs.declared.terminal.Mark.TheVariants as marks
use Rattle.stapl_lexer.specs.declared.terminal.Function.TheVariants as functions
use Rattle.stapl_syntax.specs.declared.signs.Sign.{Sign}
use Rattle.stapl_syntax.specs.declared.signs.Sign.TheVariants as signs
use Rattle.stapl_syntax.specs.Symbols.{Symbol, Plain, Text, Literal, CheckWord, sign_of}
use Rattle.stapl_syntax.specs.Trees.{ExprTree, ArrayTree, number, scalar, element, unary, binary, abs, int, literal, whole, range, of_int}
use Rattle.stapl_syntax.specs.Expressions.{level_of, operator, mark, function, name, IsExpr, IsUnary, IsPrimary, IsCell, IsTarget, IsArray, of_unary, negation, complement, negated, tighter, of_binary, of_primary, of_number, of_cell, of_scalar, of_element, of_brackets, of_abs, of_array, of_literal, of_target, of_whole, of_range, of_expr, left_square, right_square, left_round, right_round, dots}
use Rattle.stapl_grammar.specs.Looks.{after_mark}
use Rattle.stapl_grammar.specs.Reading.{◌>>=◌, Reader, next_sign, literal_at, next_operator, closed_by, bracketed_by, named_by, range_by, target_from, target_by, bool_from, array_from, array_by, brackets_from, function_from, primary_from, unary_of, unary_by, expr_in, climb_in}
use Rattle.stapl_grammar.proofs.Tools.{by_step, some_is, choice_some, after_mark_some, next_operator_some, next_operator_none, level_suc, AtLeastLevel}

-- a front of the symbols is what P says, and the rest stands after it
pub record IsFront {A : Type 0} (P : List Symbol → A → Type 0) (s : List Symbol) (x : A × List Symbol) : Type 0 where
  pub taken : List Symbol
  pub parts : s ≡ taken ++ x.1
  pub meant : P taken x.0
  pub shorter : length x.1 < length s

-- whatever the reader reads is what P says
abbrev pub IsSound : {A : Type 0} → (List Symbol → A → Type 0) → Reader A → Type 0
IsSound {A} P read = (s : List Symbol) (x : A × List Symbol) → read s ≡ Some x → IsFront P s x

-- the same, and then a mark
abbrev pub Closed : {A : Type 0} → Mark → (List Symbol → A → Type 0) → List Symbol → A → Type 0
Closed m P s x = (inner : List Symbol) × (s ≡ inner ++ (mark m ∷ [])) × P inner x

-- one more symbol before a front
pub front_cons : {A B : Type 0} {P : List Symbol → A → Type 0} {Q : List Symbol → B → Type 0} {s : List Symbol} {x : A × List Symbol} (t : Symbol) (g : A → B) →
    ((a : List Symbol) → P a x.0 → Q (t ∷ a) (g x.0)) → IsFront P s x → IsFront Q (t ∷ s) (g x.0, x.1)
front_cons t g step f = record { taken = t ∷ f.taken; parts = ap (λ (l : List Symbol). t ∷ l) f.parts; meant = step f.taken f.meant; shorter = omega (arith, f.shorter) }

-- the same front, of something else
pub front_as : {A B : Type 0} {P : List Symbol → A → Type 0} {Q : List Symbol → B → Type 0} {s : List Symbol} {x : A × List Symbol} (g : A → B) →
    ((a : List Symbol) → P a x.0 → Q a (g x.0)) → IsFront P s x → IsFront Q s (g x.0, x.1)
front_as g step f = record { taken = f.taken; parts = f.parts; meant = step f.taken f.meant; shorter = f.shorter }

pub closed_sound : {A : Type 0} (m : Mark) (P : List Symbol → A → Type 0) (read : Reader A) → IsSound P read → IsSound (Closed m P) (closed_by m read)
unfolding closed_by
closed_sound m P read sound s x e =
    by_step (read s) _ x e λ b b-is e1.
    by_step (after_mark m b.1) _ x e1 λ r r-is e2.
    let f = sound s b b-is in
    let b-rest = after_mark_some m b.1 r r-is in
    subst (IsFront (Closed m P) s) (some_is (b.0, r) x e2) (record {
      taken = f.taken ++ (mark m ∷ []);
      parts = f.parts ∙ ap (λ (l : List Symbol). f.taken ++ l) b-rest ∙ sym (append_assoc f.taken (mark m ∷ []) r);
      meant = (f.taken, refl, f.meant);
      shorter = omega (arith, f.shorter, ap length b-rest);
    })

-- round brackets and what stands in them
pub Bracketed : {A : Type 0} → (List Symbol → A → Type 0) → List Symbol → A → Type 0
Bracketed P s x = (inner : List Symbol) × (s ≡ left_round ∷ (inner ++ (right_round ∷ []))) × P inner x

pub bracketed_sound : {A : Type 0} (P : List Symbol → A → Type 0) (read : Reader A) → IsSound P read → IsSound (Bracketed P) (bracketed_by read)
unfolding bracketed_by Bracketed
bracketed_sound P read sound s x e =
    by_step (after_mark marks.LeftRound s) _ x e λ r r-is e1.
    let s-is = after_mark_some marks.LeftRound s r r-is in
    let f = closed_sound marks.RightRound P read sound r x e1 in
    subst (λ (l : List Symbol). IsFront (Bracketed P) l x) (sym s-is) (front_cons left_round (λ y. y) (λ a m. (m.0, ap (λ (l : List Symbol). left_round ∷ l) m.1, m.2)) f)

-- a symbol and then round brackets
pub word_sound : {A B : Type 0} (t : Symbol) (P : List Symbol → A → Type 0) (Q : List Symbol → B → Type 0) (g : A → B) →
    ((a : List Symbol) (y : A) → P a y → Q (t ∷ left_round ∷ (a ++ (right_round ∷ []))) (g y)) → (read : Reader A) → IsSound P read →
    (s : List Symbol) (x : B × List Symbol) → (bracketed_by read s >>= λ y. Some (g y.0, y.1)) ≡ Some x → IsFront Q (t ∷ s) x
unfolding Bracketed
word_sound t P Q g step read sound s x e =
    by_step (bracketed_by read s) _ x e λ b b-is e1.
    let f = bracketed_sound P read sound s b b-is in
    subst (IsFront Q (t ∷ s)) (some_is (g b.0, b.1) x e1) (front_cons t g (λ a m. subst (λ (l : List Symbol). Q (t ∷ l) (g b.0)) (sym m.1) (step m.0 b.0 m.2)) f)

pub named_sound : (v : List ℕ) (read : Reader ExprTree) → IsSound (IsExpr 10) read → (s : List Symbol) (x : ExprTree × List Symbol) → named_by read v s ≡ Some x → IsFront IsCell (name v ∷ s) x
unfolding named_by
named_sound v read sound s x e =
    choice_some (after_mark marks.LeftSquare s) _ _ x e
    (λ none d. subst (IsFront IsCell (name v ∷ s)) (some_is (scalar v, s) x d) (record { taken = name v ∷ []; parts = refl; meant = of_scalar; shorter = omega arith }))
    (λ r r-is d.
    by_step (closed_by marks.RightSquare read r) _ x d λ b b-is e1.
    let s-is = after_mark_some marks.LeftSquare s r r-is in
    let f = closed_sound marks.RightSquare (IsExpr 10) read sound r b b-is in
    let g : IsFront IsCell (name v ∷ left_square ∷ r) (element v b.0, b.1) = record {
      taken = name v ∷ left_square ∷ f.taken;
      parts = ap (λ (l : List Symbol). name v ∷ left_square ∷ l) f.parts;
      meant = subst (λ (l : List Symbol). IsCell (name v ∷ left_square ∷ l) (element v b.0)) (sym f.meant.1) (of_element f.meant.2);
      shorter = omega (arith, f.shorter);
    } in
    subst (λ (l : List Symbol). IsFront IsCell (name v ∷ l) x) (sym s-is) (subst (IsFront IsCell (name v ∷ left_square ∷ r)) (some_is (element v b.0, b.1) x e1) g))

range_sound : (v : List ℕ) (read : Reader ExprTree) → IsSound (IsExpr 10) read → (s : List Symbol) (x : ArrayTree × List Symbol) → range_by read v s ≡ Some x →
    IsFront IsTarget (name v ∷ left_square ∷ s) x
unfolding range_by
range_sound v read sound s x e =
    by_step (read s) _ x e λ h h-is e1.
    by_step (after_mark marks.Dots h.1) _ x e1 λ r r-is e2.
    by_step (closed_by marks.RightSquare read r) _ x e2 λ l l-is e3.
    let f = sound s h h-is in
    let h-rest = after_mark_some marks.Dots h.1 r r-is in
    let g = closed_sound marks.RightSquare (IsExpr 10) read sound r l l-is in
    let inner = g.meant.0 in
    subst (IsFront IsTarget (name v ∷ left_square ∷ s)) (some_is (range v h.0 l.0, l.1) x e3) (record {
      taken = name v ∷ left_square ∷ (f.taken ++ (dots ∷ g.taken));
      parts = ap (λ (t : List Symbol). name v ∷ left_square ∷ t)
          (f.parts ∙ ap (λ (t : List Symbol). f.taken ++ t) (h-rest ∙ ap (λ (t : List Symbol). dots ∷ t) g.parts) ∙ sym (append_assoc f.taken (dots ∷ g.taken) l.1));
      meant = subst (λ (t : List Symbol). IsTarget (name v ∷ left_square ∷ (f.taken ++ (dots ∷ t))) (range v h.0 l.0)) (sym g.meant.1) (of_range f.meant g.meant.2);
      shorter = omega (arith, f.shorter, g.shorter, ap length h-rest);
    })

-- after a name and its bracket
target_from_sound : (v : List ℕ) (read : Reader ExprTree) → IsSound (IsExpr 10) read → (s : List Symbol) (x : ArrayTree × List Symbol) → target_from read v s ≡ Some x →
    IsFront IsTarget (name v ∷ left_square ∷ s) x
unfolding target_from
target_from_sound v read sound s x e =
    choice_some (after_mark marks.RightSquare s) _ _ x e
    (λ none d. range_sound v read sound s x d)
    (λ r r-is d.
    let s-is = after_mark_some marks.RightSquare s r r-is in
    subst (IsFront IsTarget (name v ∷ left_square ∷ s)) (some_is (whole v, r) x d) (record {
      taken = name v ∷ left_square ∷ right_square ∷ [];
      parts = ap (λ (t : List Symbol). name v ∷ left_square ∷ t) s-is;
      meant = of_whole;
      shorter = omega (arith, ap length s-is);
    }))

pub target_sound : (v : List ℕ) (read : Reader ExprTree) → IsSound (IsExpr 10) read → (s : List Symbol) (x : ArrayTree × List Symbol) → target_by read v s ≡ Some x → IsFront IsTarget (name v ∷ s) x
unfolding target_by
target_sound v read sound s x e =
    by_step (after_mark marks.LeftSquare s) _ x e λ r r-is e1.
    let s-is = after_mark_some marks.LeftSquare s r r-is in
    subst (λ (l : List Symbol). IsFront IsTarget (name v ∷ l) x) (sym s-is) (target_from_sound v read sound r x e1)

array_from_sound : (read : Reader ExprTree) → IsSound (IsExpr 10) read → (g : Sign) (s : List Symbol) (x : ArrayTree × List Symbol) → array_from read g s ≡ Some x → IsFront IsArray (Plain g ∷ s) x
unfolding array_from bool_from
array_from_sound read sound (signs.Name v) s x e = front_as (λ y. y) (λ a m. of_target m) (target_sound v read sound s x e)
array_from_sound read sound (signs.Function functions.Bool) s x e = word_sound (function functions.Bool) (IsExpr 10) IsArray of_int (λ a y m. of_expr m) read sound s x e
array_from_sound read sound _ s x e = absurd cc

pub array_sound : (read : Reader ExprTree) → IsSound (IsExpr 10) read → IsSound IsArray (array_by read)
unfolding array_by array_from bool_from literal_at next_sign
array_sound read sound [] x e = absurd cc
array_sound read sound (Literal bits ∷ s) x e =
    subst (IsFront IsArray (Literal bits ∷ s)) (some_is (literal bits, s) x e) (record { taken = Literal bits ∷ []; parts = refl; meant = of_literal; shorter = omega arith })
array_sound read sound (Plain g ∷ s) x e = array_from_sound read sound g s x e
array_sound read sound (Text bytes ∷ s) x e = absurd cc
array_sound read sound (CheckWord n ∷ s) x e = absurd cc

primary_from_sound : (read : Reader ExprTree) → IsSound (IsExpr 10) read → (g : Sign) (s : List Symbol) (x : ExprTree × List Symbol) → primary_from read g s ≡ Some x →
    IsFront IsPrimary (Plain g ∷ s) x
unfolding primary_from brackets_from function_from
primary_from_sound read sound (signs.Number z) s x e =
    subst (IsFront IsPrimary (Plain (signs.Number z) ∷ s)) (some_is (number z, s) x e) (record { taken = Plain (signs.Number z) ∷ []; parts = refl; meant = of_number; shorter = omega arith })
primary_from_sound read sound (signs.Name v) s x e = front_as (λ y. y) (λ a m. of_cell m) (named_sound v read sound s x e)
primary_from_sound read sound (signs.Mark marks.LeftRound) s x e =
    front_cons left_round (λ y. y) (λ a m. subst (λ (l : List Symbol). IsPrimary (left_round ∷ l) x.0) (sym m.1) (of_brackets m.2)) (closed_sound marks.RightRound (IsExpr 10) read sound s x e)
primary_from_sound read sound (signs.Function functions.Abs) s x e = word_sound (function functions.Abs) (IsExpr 10) IsPrimary abs (λ a y m. of_abs m) read sound s x e
primary_from_sound read sound (signs.Function functions.Int) s x e = word_sound (function functions.Int) IsArray IsPrimary int (λ a y m. of_array m) (array_by read) (array_sound read sound) s x e
primary_from_sound read sound _ s x e = absurd cc

primary_sound : (read : Reader ExprTree) → IsSound (IsExpr 10) read → (t : Symbol) (s : List Symbol) (x : ExprTree × List Symbol) →
    primary_from read (sign_of t) s ≡ Some x → IsFront IsPrimary (t ∷ s) x
unfolding primary_from brackets_from function_from
primary_sound read sound (Plain g) s x e = primary_from_sound read sound g s x e
primary_sound read sound (Text bytes) s x e = absurd cc
primary_sound read sound (Literal bits) s x e = absurd cc
primary_sound read sound (CheckWord n) s x e = absurd cc

-- an operator with one operand before its operand
unary_joins : (t : Symbol) (op : UnOp) → unary_of (sign_of t) ≡ Some op → (s : List Symbol) (e : ExprTree) → IsUnary s e → IsUnary (t ∷ s) (unary op e)
unfolding unary_of
unary_joins (Plain (signs.Operator Subtract)) op o s e m = subst (λ (k : UnOp). IsUnary (operator Subtract ∷ s) (unary k e)) (some_is Negate op o) (negation m)
unary_joins (Plain (signs.Mark marks.Tilde)) op o s e m = subst (λ (k : UnOp). IsUnary (mark marks.Tilde ∷ s) (unary k e)) (some_is Complement op o) (complement m)
unary_joins (Plain (signs.Mark marks.Exclamation)) op o s e m = subst (λ (k : UnOp). IsUnary (mark marks.Exclamation ∷ s) (unary k e)) (some_is Not op o) (negated m)
unary_joins _ op o s e m = absurd cc

pub unary_sound : (read : Reader ExprTree) → IsSound (IsExpr 10) read → IsSound IsUnary (unary_by read)
unfolding unary_by
unary_sound read sound [] x e = absurd cc
unary_sound read sound (t ∷ s) x e =
    choice_some (unary_of (sign_of t)) _ _ x e
    (λ none d. front_as (λ y. y) (λ a m. of_primary m) (primary_sound read sound t s x d))
    (λ op op-is d.
    by_step (unary_by read s) _ x d λ y y-is e1.
    let f = unary_sound read sound s y y-is in
    subst (IsFront IsUnary (t ∷ s)) (some_is (unary op y.0, y.1) x e1) (front_cons t (λ z. unary op z) (λ a m. unary_joins t op op-is a y.0 m) f))

-- a looser level
raised : (n k : ℕ) (s : List Symbol) (e : ExprTree) → IsExpr n s e → IsExpr (n + k) s e
raised n zero s e m = rw add-zero m
raised n (suc k) s e m = rw add-suc (tighter (raised n k s e m))

raised_to : (n k : ℕ) (s : List Symbol) (e : ExprTree) → n ≤ k → IsExpr n s e → IsExpr k s e
raised_to n k s e le m = let k-is : n + (k - n) ≡ k = omega arith in subst (λ (i : ℕ). IsExpr i s e) k-is (raised n (k - n) s e m)

-- what stands after an operand of level m is read on
pub record Climbs (n : ℕ) (a : List Symbol) (s : List Symbol) (x : ExprTree × List Symbol) : Type 0 where
  pub taken : List Symbol
  pub parts : s ≡ taken ++ x.1
  pub meant : IsExpr n (a ++ taken) x.0
  pub stops : next_operator n x.1 ≡ None
  pub within : length x.1 ≤ length s

pub record Reads (n : ℕ) (s : List Symbol) (x : ExprTree × List Symbol) : Type 0 where
  pub front : IsFront (IsExpr n) s x
  pub stops : next_operator n x.1 ≡ None

mutual
  unfolding expr_in climb_in

  pub expr_sound : (f n : ℕ) (s : List Symbol) (x : ExprTree × List Symbol) → expr_in f n s ≡ Some x → Reads n s x
  expr_sound zero n s x e = absurd cc
  expr_sound (suc f) n s x e =
      by_step (unary_by (expr_in f 10) s) _ x e λ u u-is e1.
      let g = unary_sound (expr_in f 10) (λ t y d. (expr_sound f 10 t y d).front) s u u-is in
      let c = climb_sound f n 0 g.taken u.0 u.1 x (of_unary g.meant) (omega arith) (λ op r i. omega arith) e1 in
      record {
        front = record {
          taken = g.taken ++ c.taken;
          parts = g.parts ∙ ap (λ (l : List Symbol). g.taken ++ l) c.parts ∙ sym (append_assoc g.taken c.taken x.1);
          meant = c.meant;
          shorter = omega (arith, g.shorter, c.within);
        };
        stops = c.stops;
      }

  pub climb_sound : (f n m : ℕ) (a : List Symbol) (e : ExprTree) (s : List Symbol) (x : ExprTree × List Symbol) → IsExpr m a e → m ≤ n → AtLeastLevel m s → climb_in f n e s ≡ Some x → Climbs n a s x
  climb_sound zero n m a e s x left le most d = absurd cc
  climb_sound (suc f) n m a e s x left le most d =
      choice_some (next_operator n s) _ _ x d
      (λ none dd. subst (Climbs n a s) (some_is (e, s) x dd) (record {
        taken = [];
        parts = refl;
        meant = rw append-nil (raised_to m n a e le left);
        stops = none;
        within = omega arith;
      }))
      (λ o o-is dd.
      by_step (expr_in f (level_of o.0 - 1) o.1) _ x dd λ y y-is e1.
      let first = next_operator_some n s o o-is in
      let level = level_suc o.0 in
      let right = expr_sound f (level_of o.0 - 1) o.1 y y-is in
      let low : m ≤ suc (level_of o.0 - 1) = omega (arith, most o.0 o.1 first.0, level) in
      let high : suc (level_of o.0 - 1) ≤ n = omega (arith, first.1, level) in
      let front = operator o.0 ∷ right.front.taken in
      let node : IsExpr (suc (level_of o.0 - 1)) (a ++ front) (binary o.0 e y.0) = of_binary o.0 level (raised_to m (suc (level_of o.0 - 1)) a e low left) right.front.meant in
      let c = climb_sound f n (suc (level_of o.0 - 1)) (a ++ front) (binary o.0 e y.0) y.1 x node high (next_operator_none (level_of o.0 - 1) y.1 right.stops) e1 in
      record {
        taken = front ++ c.taken;
        parts = first.0 ∙ ap (λ (l : List Symbol). operator o.0 ∷ l) (right.front.parts ∙ ap (λ (l : List Symbol). right.front.taken ++ l) c.parts ∙ sym (append_assoc right.front.taken c.taken x.1));
        meant = subst (λ (l : List Symbol). IsExpr n l x.0) (append_assoc a front c.taken) c.meant;
        stops = c.stops;
        within = omega (arith, c.within, right.front.shorter, ap length first.0);
      })
