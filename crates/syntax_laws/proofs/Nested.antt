-- Indexes and functions of a statement stand in as many brackets in each writing of it.
use Rattle.std.proofs.Common.{ℕ, ◌+◌, ◌-◌, ◌≤◌, max, List, [], ◌∷◌, ◌++◌, Option, Some, None, arith}
use Rattle.stapl_lexer.specs.Depth.{is_opening, is_closing}
use Rattle.stapl_syntax.specs.Expressions.{level_of}
use Rattle.stapl_syntax.specs.Trees.{ExprTree, number, scalar, element, unary, binary, abs, int, ArrayTree, literal, whole, range, of_int}
use Rattle.stapl_syntax.specs.Trees.{PartTree, string, value, character, exported_value, exported_array, CompareTree}
use Rattle.stapl_syntax.specs.Trees.{BodyTree}
use Rattle.stapl_syntax.specs.Trees.{assign, assign_element, assign_array, assign_range, if_then, for_loop, push, pop, print}
use Rattle.stapl_syntax.specs.Trees.{export, exit, scan, pad, wait_cycles, wait_usec, frequency}
use Rattle.stapl_syntax.specs.Parts.{capture_part, compare_part}
use Rattle.canonical_text.specs.Printable.{sign_terminal, symbol_terminal}
use Rattle.canonical_text.proofs.Nesting.{expr_depth, array_depth}
use Rattle.canonical_text.proofs.PartNesting.{part_peak, most, print_part_depth}
use Rattle.canonical_text.proofs.BodyNesting.{body_peak}
use Rattle.syntax_laws.specs.Sizes.{Operand, nesting_of, nesting_of_array, operand_nesting, print_operands, maybe_array, maybe_compared, largest, nesting_in}

mutual
  pub expr_within : (n : ℕ) (e : ExprTree) → nesting_of e ≤ expr_depth n e
  expr_within n (number z) = omega arith
  expr_within n (scalar v) = omega arith
  expr_within n (element v i) = let own = expr_within 10 i in omega (arith, own)
  expr_within n (unary op x) = expr_within 0 x
  expr_within n (binary op x y) =
      let left = expr_within (level_of op) x in let right = expr_within (level_of op - 1) y in omega (arith, left, right)
  expr_within n (abs x) = let own = expr_within 10 x in omega (arith, own)
  expr_within n (int a) = let own = array_within a in omega (arith, own)

  pub array_within : (a : ArrayTree) → nesting_of_array a ≤ array_depth a
  array_within (literal bits) = omega arith
  array_within (whole v) = omega arith
  array_within (range v h l) = let first = expr_within 10 h in let last = expr_within 10 l in omega (arith, first, last)
  array_within (of_int x) = let own = expr_within 10 x in omega (arith, own)

prints_within : (parts : List PartTree) → largest operand_nesting (print_operands parts) ≤ most 0 (λ x. 0 + print_part_depth x) parts
prints_within [] = omega arith
prints_within (string bytes ∷ parts) = let rest = prints_within parts in omega (arith, rest)
prints_within (value e ∷ parts) = let own = expr_within 10 e in let rest = prints_within parts in omega (arith, own, rest)
prints_within (character e ∷ parts) = let own = expr_within 10 e in let rest = prints_within parts in omega (arith, own, rest)

both_within : (a b c : ℕ) → a ≤ c → b ≤ c → max a b ≤ c
both_within a b c p q = omega arith

by_left : (a b c : ℕ) → a ≤ b → a ≤ max b c
by_left a b c p = omega arith

by_right : (a b c : ℕ) → a ≤ c → a ≤ max b c
by_right a b c p = omega arith

by_sum : (a b c : ℕ) → a ≤ c → a ≤ b + c
by_sum a b c p = omega arith

none_within : (a : ℕ) → 0 ≤ a
none_within a = omega arith

next_within : (a b c : ℕ) → a ≤ b → b ≤ c → a ≤ c
next_within a b c p q = omega arith

joined_within : (size : Operand → ℕ) (xs ys : List Operand) → largest size (xs ++ ys) ≤ max (largest size xs) (largest size ys)
joined_within size [] ys = omega arith
joined_within size (x ∷ xs) ys = let rest = joined_within size xs ys in omega (arith, rest)

captured_within : (t : Option ArrayTree) → largest operand_nesting (maybe_array t) ≤ part_peak 0 capture_part t
unfolding symbol_terminal sign_terminal is_opening is_closing
captured_within None = omega arith
captured_within (Some a) = let own = array_within a in omega (arith, own)

compared_within : (c : Option CompareTree) → largest operand_nesting (maybe_compared c) ≤ part_peak 0 compare_part c
unfolding symbol_terminal sign_terminal is_opening is_closing
compared_within None = omega arith
compared_within (Some c) =
    let wanted = array_within c.0 in
    let mask = array_within c.1.0 in
    let cell = expr_within 10 c.1.1 in
    both_within _ _ _ (search (wanted, by_left, by_right, by_sum) depth 14 fits 4000)
    (both_within _ _ _ (search (mask, by_left, by_right, by_sum) depth 14 fits 4000)
    (both_within _ _ _ (search (cell, by_left, by_right, by_sum) depth 14 fits 4000) (none_within _)))

pub body_within : (b : BodyTree) → nesting_in b ≤ body_peak b
unfolding symbol_terminal sign_terminal is_opening is_closing
body_within (assign v e) = let own = expr_within 10 e in omega (arith, own)
body_within (assign_element v i e) = let index = expr_within 10 i in let own = expr_within 10 e in omega (arith, index, own)
body_within (assign_array v a) = let own = array_within a in omega (arith, own)
body_within (assign_range v h l a) =
    let first = expr_within 10 h in let last = expr_within 10 l in let own = array_within a in omega (arith, first, last, own)
body_within (if_then e b) = let own = expr_within 10 e in let rest = body_within b in omega (arith, own, rest)
body_within (for_loop v a b None) = let first = expr_within 10 a in let last = expr_within 10 b in omega (arith, first, last)
body_within (for_loop v a b (Some c)) = let first = expr_within 10 a in let last = expr_within 10 b in let step = expr_within 10 c in omega (arith, first, last, step)
body_within (push e) = let own = expr_within 10 e in omega (arith, own)
body_within (pop e) = let own = expr_within 10 e in omega (arith, own)
body_within (print parts) = let own = prints_within parts in omega (arith, own)
body_within (export key (exported_value e)) = let own = expr_within 10 e in omega (arith, own)
body_within (export key (exported_array a)) = let own = array_within a in omega (arith, own)
body_within (exit e) = let own = expr_within 10 e in omega (arith, own)
body_within (scan k e a t c) =
    let own = expr_within 10 e in
    let bits = array_within a in
    let target = captured_within t in
    let wanted = compared_within c in
    both_within _ _ _ (search (own, by_left, by_right, by_sum) depth 14 fits 4000)
    (both_within _ _ _ (search (bits, by_left, by_right, by_sum) depth 14 fits 4000)
    (next_within _ _ _ (joined_within operand_nesting (maybe_array t) (maybe_compared c))
    (both_within _ _ _ (search (target, by_left, by_right, by_sum) depth 14 fits 4000) (search (wanted, by_left, by_right, by_sum) depth 14 fits 4000))))
body_within (pad k e None) = let own = expr_within 10 e in omega (arith, own)
body_within (pad k e (Some a)) = let own = expr_within 10 e in let bits = array_within a in omega (arith, own, bits)
body_within (wait_cycles k e None l) = let own = expr_within 10 e in omega (arith, own)
body_within (wait_cycles k e (Some u) l) = let own = expr_within 10 e in let usec = expr_within 10 u in omega (arith, own, usec)
body_within (wait_usec k e l) = let own = expr_within 10 e in omega (arith, own)
body_within (frequency None) = omega arith
body_within (frequency (Some e)) = let own = expr_within 10 e in omega (arith, own)
body_within b = omega arith
