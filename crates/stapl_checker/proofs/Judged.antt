-- The reason that the checker names is the smallest that holds.
use Rattle.std.proofs.Common.{◌≡◌, ◌≤◌, ◌<◌, ℕ, Bool, true, false, List, [], ◌∷◌, Option, None, Some, refl, sym, ap, ◌∙◌, subst, arith, nat_le, if◌then◌else◌, is_some, find, ◌⊎◌, inl, inr}
use Rattle.std.specs.Prelude.{take}
use Rattle.std.proofs.lemmas.Bool.Decides.{nat_tests}
use Rattle.stapl_lexer.specs.declared.piece.Piece.{Piece}
use Rattle.stapl_lexer.specs.declared.reason.Reason.{Reason}
use Rattle.stapl_lexer.specs.declared.reason.Reason.TheVariants as reasons
use Rattle.stapl_lexer.specs.Reasons.{reason_number}
use Rattle.stapl_lexer.proofs.ReasonLemmas.{from_two}
use Rattle.stapl_syntax.specs.Trees.{StmtTree}
use Rattle.stapl_syntax.specs.Statements.{IsPieceStatement}
use Rattle.stapl_syntax.specs.Reasons.{HasReason, in_tokens, unknown, left_out, not_in_grammar, SmallestReason}
use Rattle.stapl_syntax.specs.Names.{Numbered, numbered, inside_after}
use Rattle.stapl_syntax.specs.Rules.{is_action, any_body, Facts, breaks}
use Rattle.stapl_syntax.specs.Programs.{piece_limit}
use Rattle.stapl_syntax.specs.Programs.{facts_at, HasReasonAt, one_too_many, no_statement, breaks_rule, not_closed, nothing_to_do, SmallestReasonAt}
use Rattle.stapl_grammar.proofs.LawLemmas.{no_reason, one_piece_statement}
use Rattle.checker_rules.specs.BrokenRules.{rule_reasons, rule_broken}
use Rattle.stapl_checker.specs.Judgements.{What, statement, faulty, IsWhat, reason_of, reason_of_end, IsJudged}

-- the reason stands in a list
abbrev In : Reason → List Reason → Type 0
In r [] = ⊥
In r (x ∷ xs) = (r ≡ x) ⊎ In r xs

-- the numbers rise, from this one on
abbrev Rises : ℕ → List Reason → Type 0
Rises n [] = Unit {0}
Rises n (x ∷ xs) = (n ≤ reason_number x) × Rises (reason_number x) xs

at_least : (n : ℕ) (xs : List Reason) (q : Reason) → Rises n xs → In q xs → n ≤ reason_number q
at_least n [] q rises stands = absurd stands
at_least n (x ∷ xs) q rises (inl e) = subst (λ (r : Reason). n ≤ reason_number r) (sym e) rises.0
at_least n (x ∷ xs) q rises (inr more) =
    let le = at_least (reason_number x) xs q rises.1 more in let from = rises.0 in omega (arith, le, from)

clash : {A : Type 0} (b : Bool) → b ≡ true → b ≡ false → A
clash true e f = absurd cc
clash false e f = absurd cc

module _ (test : Reason → Bool) where
  found_holds : (xs : List Reason) (r : Reason) → find test xs ≡ Some r → test r ≡ true
  found_holds [] r e = absurd cc
  found_holds (x ∷ xs) r e = by (found_holds xs r) (test x) refl
    where
      by : (find test xs ≡ Some r → test r ≡ true) → (b : Bool) → test x ≡ b → test r ≡ true
      by more true h =
          let at : find test (x ∷ xs) ≡ Some x = ap (λ (b : Bool). if b then Some x else find test xs) h in
          let same : x ≡ r = cc in ap test (sym same) ∙ h
      by more false h = more (sym (ap (λ (b : Bool). if b then Some x else find test xs) h) ∙ e)

  found_least : (n : ℕ) (xs : List Reason) (r q : Reason) → Rises n xs → find test xs ≡ Some r → In q xs → test q ≡ true → reason_number r ≤ reason_number q
  found_least n [] r q rises e stands holds = absurd stands
  found_least n (x ∷ xs) r q rises e stands holds =
      by (λ f k. found_least (reason_number x) xs r q rises.1 f k holds) (test x) refl stands
    where
      by : (find test xs ≡ Some r → In q xs → reason_number r ≤ reason_number q) → (b : Bool) → test x ≡ b → (q ≡ x) ⊎ In q xs → reason_number r ≤ reason_number q
      by rest true h s =
          let at : find test (x ∷ xs) ≡ Some x = ap (λ (b : Bool). if b then Some x else find test xs) h in
          let same : x ≡ r = cc in
          subst (λ (z : Reason). reason_number z ≤ reason_number q) same
          (at_least (reason_number x) (x ∷ xs) q (omega arith, rises.1) s)
      by rest false h (inl same) = clash (test q) holds (ap test same ∙ h)
      by rest false h (inr more) = rest (sym (ap (λ (b : Bool). if b then Some x else find test xs) h) ∙ e) more

  none_found : (xs : List Reason) (q : Reason) → find test xs ≡ None → In q xs → test q ≡ true → ⊥
  none_found [] q e stands holds = stands
  none_found (x ∷ xs) q e stands holds = by (λ f k. none_found xs q f k holds) (test x) refl stands
    where
      by : (find test xs ≡ None → In q xs → ⊥) → (b : Bool) → test x ≡ b → (q ≡ x) ⊎ In q xs → ⊥
      by rest true h s = let at : find test (x ∷ xs) ≡ Some x = ap (λ (b : Bool). if b then Some x else find test xs) h in absurd cc
      by rest false h (inl same) = clash (test q) holds (ap test same ∙ h)
      by rest false h (inr more) = rest (sym (ap (λ (b : Bool). if b then Some x else find test xs) h) ∙ e) more

rise : Rises 2 rule_reasons
rise = (omega arith, (omega arith, (omega arith, (omega arith, (omega arith, (omega arith, (omega arith, tt)))))))

-- a reason of a rule is one of these
is_rule : (facts : Facts) (st : StmtTree) (q : Reason) → breaks facts st q ≡ true → In q rule_reasons
is_rule facts st reasons.Order h = inl refl
is_rule facts st reasons.Duplicate h = inr (inl refl)
is_rule facts st reasons.Undefined h = inr (inr (inl refl))
is_rule facts st reasons.NotVisible h = inr (inr (inr (inl refl)))
is_rule facts st reasons.TypeMismatch h = inr (inr (inr (inr (inl refl))))
is_rule facts st reasons.NotStable h = inr (inr (inr (inr (inr (inl refl)))))
is_rule facts st reasons.SizeLimit h = inr (inr (inr (inr (inr (inr (inl refl))))))
is_rule facts st _ h = absurd cc

-- each reason of a piece that is no statement is above that of a piece too many
module _ (text : List ℕ) (piece : Piece) where
  above : (reason : Reason) → HasReason text piece reason → 1 ≤ reason_number reason
  above reason (in_tokens has) = let two = from_two text piece reason has in omega (arith, two)
  above _ (unknown tokens good e) = omega arith
  above _ (left_out tokens good e) = omega arith
  above _ (not_in_grammar tokens good nothing) = omega arith

none_some : {A B : Type 0} {piece : A} → None ≡ Some piece → B
none_some e = absurd cc

module _ (text : List ℕ) (read : List (Option StmtTree)) (i : ℕ) (piece : Piece) where
  -- every reason is at least that of a piece too many
  late_least : {at : Option Piece} {other : Reason} → at ≡ Some piece → HasReasonAt text read i at other → 1 ≤ reason_number other
  late_least e (one_too_many own late) = omega arith
  late_least e (no_statement own other has) = above text own other has
  late_least e (breaks_rule own st other is broken) =
      let le = at_least 2 rule_reasons other rise (is_rule (facts_at read i) st other broken) in omega (arith, le)
  late_least e (not_closed h) = none_some e
  late_least e (nothing_to_do h) = none_some e

  late : piece_limit ≤ i → SmallestReasonAt text read i (Some piece) reasons.TooManyPieces
  late le = record { holds = one_too_many piece le; least = λ other has. late_least refl has }

  -- a statement that is not too late
  module _ (st : StmtTree) (is : IsPieceStatement text piece st) (early : i < piece_limit) where
    -- whose rules are broken, where its piece has a reason
    broken_by : {at : Option Piece} {other : Reason} → at ≡ Some piece → HasReasonAt text read i at other → breaks (facts_at read i) st other ≡ true
    broken_by e (one_too_many own late) = absurd (omega arith)
    broken_by e (no_statement own other has) =
        let same : own ≡ piece = cc in absurd (no_reason st is (subst (λ (p : Piece). HasReason text p other) same has))
    broken_by e (breaks_rule own other_st other is_other broken) =
        let same : own ≡ piece = cc in
        let st_same = one_piece_statement text piece other_st st (subst (λ (p : Piece). IsPieceStatement text p other_st) same is_other) is in
        ap (λ (s : StmtTree). breaks (facts_at read i) s other) (sym st_same) ∙ broken
    broken_by e (not_closed h) = none_some e
    broken_by e (nothing_to_do h) = none_some e

    of_statement : (o : Option Reason) → rule_broken (facts_at read i) st ≡ o → IsJudged text read i (Some piece) o
    of_statement None e =
        λ reason has. let broken = broken_by refl has in
        none_found (breaks (facts_at read i) st) rule_reasons reason e (is_rule (facts_at read i) st reason broken) broken
    of_statement (Some r) e = record {
      holds = breaks_rule piece st r is (found_holds (breaks (facts_at read i) st) rule_reasons r e);
      least = λ other has. let broken = broken_by refl has in
          found_least (breaks (facts_at read i) st) 2 rule_reasons r other rise e (is_rule (facts_at read i) st other broken) broken;
    }

  -- a piece that is no statement, and not too late
  least_of_faulty : {at : Option Piece} {other : Reason} (reason : Reason) → SmallestReason text piece reason → i < piece_limit → at ≡ Some piece →
      HasReasonAt text read i at other → reason_number reason ≤ reason_number other
  least_of_faulty reason smallest early e (one_too_many own late) = absurd (omega arith)
  least_of_faulty reason smallest early e (no_statement own other has) =
      let same : own ≡ piece = cc in smallest.least other (subst (λ (p : Piece). HasReason text p other) same has)
  least_of_faulty reason smallest early e (breaks_rule own st other is broken) =
      let same : own ≡ piece = cc in absurd (no_reason st (subst (λ (p : Piece). IsPieceStatement text p st) same is) smallest.holds)
  least_of_faulty reason smallest early e (not_closed h) = none_some e
  least_of_faulty reason smallest early e (nothing_to_do h) = none_some e

  pub judged : (w : What) → IsWhat text piece w → IsJudged text read i (Some piece) (reason_of read i w)
  judged (statement st) is = by (nat_le piece_limit i) refl
    where
      by : (b : Bool) → nat_le piece_limit i ≡ b → IsJudged text read i (Some piece) (if b then Some reasons.TooManyPieces else rule_broken (facts_at read i) st)
      by true e = late (grind (arith, nat_tests, e))
      by false e = of_statement st is (grind (arith, nat_tests, e)) (rule_broken (facts_at read i) st) refl
  judged (faulty reason) is = by (nat_le piece_limit i) refl
    where
      by : (b : Bool) → nat_le piece_limit i ≡ b → IsJudged text read i (Some piece) (if b then Some reasons.TooManyPieces else Some reason)
      by true e = late (grind (arith, nat_tests, e))
      by false e =
          let early : i < piece_limit = grind (arith, nat_tests, e) in
          record { holds = no_statement piece reason is.holds; least = λ other has. least_of_faulty reason is early refl has }

some_none : {A B : Type 0} {piece : A} → Some piece ≡ None → B
some_none e = absurd cc

module _ (text : List ℕ) (read : List (Option StmtTree)) (i : ℕ) where
  abbrev Before : List Numbered
  Before = numbered (take i read)

  -- what holds at the end
  end_holds : {at : Option Piece} {reason : Reason} → at ≡ None → HasReasonAt text read i at reason →
      ((is_some (inside_after Before) ≡ true) × (reason ≡ reasons.NotClosed)) ⊎ ((any_body is_action Before ≡ false) × (reason ≡ reasons.NothingToDo))
  end_holds e (one_too_many piece le) = some_none e
  end_holds e (no_statement piece reason has) = some_none e
  end_holds e (breaks_rule piece st reason is broken) = some_none e
  end_holds e (not_closed h) = inl (h, refl)
  end_holds e (nothing_to_do h) = inr (h, refl)

  pub judged_end : IsJudged text read i None (reason_of_end Before)
  judged_end = by (is_some (inside_after Before)) refl
    where
      least_closed : (other : Reason) →
          ((is_some (inside_after Before) ≡ true) × (other ≡ reasons.NotClosed)) ⊎ ((any_body is_action Before ≡ false) × (other ≡ reasons.NothingToDo)) →
          19 ≤ reason_number other
      least_closed other (inl h) = subst (λ (r : Reason). 19 ≤ reason_number r) (sym h.1) (omega arith)
      least_closed other (inr h) = subst (λ (r : Reason). 19 ≤ reason_number r) (sym h.1) (omega arith)

      least_open : is_some (inside_after Before) ≡ false → (other : Reason) →
          ((is_some (inside_after Before) ≡ true) × (other ≡ reasons.NotClosed)) ⊎ ((any_body is_action Before ≡ false) × (other ≡ reasons.NothingToDo)) →
          20 ≤ reason_number other
      least_open e other (inl h) = clash (is_some (inside_after Before)) h.0 e
      least_open e other (inr h) = subst (λ (r : Reason). 20 ≤ reason_number r) (sym h.1) (omega arith)

      never : is_some (inside_after Before) ≡ false → any_body is_action Before ≡ true → (other : Reason) →
          ((is_some (inside_after Before) ≡ true) × (other ≡ reasons.NotClosed)) ⊎ ((any_body is_action Before ≡ false) × (other ≡ reasons.NothingToDo)) → ⊥
      never e f other (inl h) = clash (is_some (inside_after Before)) h.0 e
      never e f other (inr h) = clash (any_body is_action Before) f h.0

      acts : is_some (inside_after Before) ≡ false → (b : Bool) → any_body is_action Before ≡ b →
          IsJudged text read i None (if b then None else Some reasons.NothingToDo)
      acts e true f = λ reason has. never e f reason (end_holds refl has)
      acts e false f = record { holds = nothing_to_do f; least = λ other has. least_open e other (end_holds refl has) }

      by : (b : Bool) → is_some (inside_after Before) ≡ b →
          IsJudged text read i None (if b then Some reasons.NotClosed else if any_body is_action Before then None else Some reasons.NothingToDo)
      by true e = record { holds = not_closed e; least = λ other has. least_closed other (end_holds refl has) }
      by false e = acts e (any_body is_action Before) refl
