-- The steps of the code that reads assignments.
use Rattle.std.proofs.Common.{◌≡◌, ℕ, List, Option, Some, None, Result, inr, refl, sym, ap, subst, ◌∙◌}
use Rattle.std.specs.Prelude.{◌⊎◌}
use Rattle.stapl_lexer.specs.declared.terminal.Mark.TheVariants as marks
use Rattle.stapl_syntax.specs.Symbols.{Symbol}
use Rattle.stapl_syntax.specs.Trees.{ExprTree, ArrayTree, BodyTree}
use Rattle.stapl_grammar.specs.declared.refused.Refused.{Refused}
use Rattle.stapl_grammar.specs.Given.{Gives}
use Rattle.stapl_grammar.specs.Looks.{after_mark}
use Rattle.stapl_grammar.specs.Reading.{expr}
use Rattle.stapl_grammar.specs.PartReading.{part_at}
use Rattle.stapl_grammar.specs.BodyReading.{mapped, range_or_element_of, range_or_element_part, indexed_of, indexed_part, assign_of, assign_part}

after_first : (v : List ℕ) (first : ExprTree) (o : Option (((ExprTree × ArrayTree) ⊎ ExprTree) × List Symbol)) →
    mapped (indexed_of v) (mapped (λ x. inr x) (mapped (λ x. (first, x)) o)) ≡ mapped (range_or_element_of v first) o
after_first v first None = refl
after_first v first (Some x) = refl

-- after a name, its bracket and an expression
indexed_is : (v : List ℕ) (s : List Symbol) (first : ExprTree) (r : List Symbol) → after_mark marks.RightSquare s ≡ None → expr 10 s ≡ Some (first, r) →
    mapped (indexed_of v) (part_at indexed_part s) ≡ mapped (range_or_element_of v first) (part_at range_or_element_part r)
unfolding part_at
indexed_is v s first r none e = rw (none, e) (after_first v first (part_at range_or_element_part r))

after_bracket : (v : List ℕ) (o : Option ((ArrayTree ⊎ (ExprTree × ((ExprTree × ArrayTree) ⊎ ExprTree))) × List Symbol)) → mapped (assign_of v) (mapped (λ x. inr x) o) ≡ mapped (indexed_of v) o
after_bracket v None = refl
after_bracket v (Some x) = refl

-- after a name and its bracket
assign_is : (v : List ℕ) (s r : List Symbol) → after_mark marks.Equals s ≡ None → after_mark marks.LeftSquare s ≡ Some r →
    mapped (assign_of v) (part_at assign_part s) ≡ mapped (indexed_of v) (part_at indexed_part r)
unfolding part_at
assign_is v s r none e = rw (none, e) (after_bracket v (part_at indexed_part r))

-- what was returned is what equal reading gives
gives_same : {X Y : Type 0} (view : X → Y) (result : Result X Refused) (a b : Option Y) → a ≡ b → Gives view result b → Gives view result a
gives_same {X} {Y} view result a b e g = subst (λ (o : Option Y). Gives view result o) (sym e) g

pub indexed_gives : {X : Type 0} (view : X → BodyTree × List Symbol) (result : Result X Refused) (v : List ℕ) (s q : List Symbol) (first : ExprTree) (r : List Symbol) →
    after_mark marks.RightSquare s ≡ None → q ≡ s → expr 10 q ≡ Some (first, r) →
    Gives view result (mapped (range_or_element_of v first) (part_at range_or_element_part r)) → Gives view result (mapped (indexed_of v) (part_at indexed_part s))
indexed_gives view result v s q first r none same e g = gives_same view result _ _ (indexed_is v s first r none (ap (expr 10) (sym same) ∙ e)) g

pub assign_gives : {X : Type 0} (view : X → BodyTree × List Symbol) (result : Result X Refused) (v : List ℕ) (s q r : List Symbol) → after_mark marks.Equals s ≡ None →
    q ≡ s → after_mark marks.LeftSquare q ≡ Some r → Gives view result (mapped (indexed_of v) (part_at indexed_part r)) → Gives view result (mapped (assign_of v) (part_at assign_part s))
assign_gives view result v s q r none same e g = gives_same view result _ _ (assign_is v s r none (ap (after_mark marks.LeftSquare) (sym same) ∙ e)) g
