-- On the depth rule: brackets are counted from the front, and the count falls to 0 and not below.
use Rattle.std.proofs.Common.{◌≡◌, ◌≤◌, ◌<◌, ◌+◌, ◌-◌, ℕ, List, [], ◌∷◌, ◌++◌, length, drop, get_or, refl, sym, ap, ◌∙◌, Bool, true, false, ◌||◌, arith, suc, add-one, nat_lt, if◌then◌else◌, Option, Some, inl, inr, ◌⊎◌}
use Rattle.std.proofs.Math.ListN.{drop_of_length-le}
use Rattle.std.proofs.Math.Seq.{drop-cons}
use Rattle.std.proofs.lemmas.List.Sums.{sum_by-cons}
use Rattle.std.proofs.lemmas.Bool.{cases_eq}
use Rattle.std.proofs.lemmas.Bool.Decides.{nat_tests}
use Rattle.stapl_lexer.specs.declared.terminal.Mark.TheVariants as marks
use Rattle.stapl_lexer.specs.declared.terminal.Terminal.{Terminal}
use Rattle.stapl_lexer.specs.declared.terminal.Terminal.TheVariants as terminals
use Rattle.stapl_lexer.specs.declared.token.Token.{Token}
use Rattle.stapl_lexer.specs.Depth.{is_opening, is_closing, count_of, HasOpenBrackets}
use Rattle.stapl_lexer.proofs.PieceTokenLemmas.{clash}

-- how many brackets are open after a token
abbrev pub open_after : Option Terminal → ℕ → ℕ
open_after terminal n = if is_opening terminal then n + 1 else if is_closing terminal then n - 1 else n

-- at some place of these tokens more than 32 brackets are open, if so many are before them
abbrev pub opens_many : ℕ → List Token → Bool
opens_many n [] = nat_lt 32 n
opens_many n (token ∷ tokens) = nat_lt 32 n || opens_many (open_after token.terminal n) tokens

above : (n : ℕ) → 32 < n → nat_lt 32 n ≡ true
above n lt = grind (arith, nat_tests)

not_above : (n : ℕ) → n ≤ 32 → nat_lt 32 n ≡ false
not_above n le = grind (arith, nat_tests)

-- one token more
pub open_more : (n : ℕ) (token : Token) (tokens : List Token) → n ≤ 32 → opens_many n (token ∷ tokens) ≡ opens_many (open_after token.terminal n) tokens
open_more n token tokens le = ap (λ (b : Bool). b || opens_many (open_after token.terminal n) tokens) (not_above n le)

pub open_found : (n : ℕ) (tokens : List Token) → 32 < n → opens_many n tokens ≡ true
open_found n [] lt = above n lt
open_found n (token ∷ tokens) lt = ap (λ (b : Bool). b || opens_many (open_after token.terminal n) tokens) (above n lt)

-- the token at a place is read
pub open_at : (n i : ℕ) (tokens : List Token) (none : Token) → n ≤ 32 → i < length tokens →
    opens_many n (drop i tokens) ≡ opens_many (open_after (get_or tokens i none).terminal n) (drop (i + 1) tokens)
open_at n i tokens none le lt =
    ap (opens_many n) (drop-cons tokens i none lt) ∙ open_more n (get_or tokens i none) (drop (suc i) tokens) le
    ∙ ap (λ (k : ℕ). opens_many (open_after (get_or tokens i none).terminal n) (drop k tokens)) (sym (add-one i))

-- all tokens are read, and at most 32 brackets are open
pub open_at_end : (n i : ℕ) (tokens : List Token) → n ≤ 32 → length tokens ≤ i → opens_many n (drop i tokens) ≡ false
open_at_end n i tokens le end = ap (opens_many n) (drop_of_length-le tokens end) ∙ not_above n le

-- Some front of the tokens has so many more opening than closing brackets that more than 32 are open after it, if so
-- many are before it.
record OpensInFront (n : ℕ) (tokens : List Token) : Type 0 where
  front : List Token
  rest : List Token
  parts : tokens ≡ front ++ rest
  deep : count_of is_closing front + 32 < n + count_of is_opening front

above_is : (n : ℕ) (other : Bool) → nat_lt 32 n || other ≡ true → (32 < n) ⊎ (other ≡ true)
above_is n true e = inr refl
above_is n false e = inl (grind (arith, nat_tests))

-- a run of the tokens after the first one
later : (token : Token) (tokens : List Token) → HasOpenBrackets tokens → HasOpenBrackets (token ∷ tokens)
later token tokens h = record {
  front = token ∷ h.front;
  run = h.run;
  rest = h.rest;
  parts = ap (λ (v : List Token). token ∷ v) h.parts;
  deep = h.deep;
}

-- what a token is as a bracket
abbrev Opens : Option Terminal → Type 0
Opens terminal = (is_opening terminal ≡ true) × (is_closing terminal ≡ false)

abbrev Closes : Option Terminal → Type 0
Closes terminal = (is_opening terminal ≡ false) × (is_closing terminal ≡ true)

abbrev IsNoBracket : Option Terminal → Type 0
IsNoBracket terminal = (is_opening terminal ≡ false) × (is_closing terminal ≡ false)

bracket : (terminal : Option Terminal) → Opens terminal ⊎ (Closes terminal ⊎ IsNoBracket terminal)
unfolding is_opening is_closing
bracket (Some (terminals.Mark marks.LeftRound)) = inl (refl, refl)
bracket (Some (terminals.Mark marks.LeftSquare)) = inl (refl, refl)
bracket (Some (terminals.Mark marks.RightRound)) = inr (inl (refl, refl))
bracket (Some (terminals.Mark marks.RightSquare)) = inr (inl (refl, refl))
bracket _ = inr (inr (refl, refl))

-- one more token is counted or not
count_first : (test : Option Terminal → Bool) (token : Token) (tokens : List Token) (passes : Bool) → test token.terminal ≡ passes →
    count_of test (token ∷ tokens) ≡ (if passes then 1 else 0) + count_of test tokens
count_first test token tokens passes e =
    sum_by-cons (λ (t : Token). if test t.terminal then 1 else 0) token tokens ∙ ap (λ (b : Bool). (if b then 1 else 0) + count_of test tokens) e

module _ (n : ℕ) (token : Token) (tokens : List Token) where
  opened : Bool → Bool → ℕ
  opened o c = if o then n + 1 else if c then n - 1 else n

  -- a front of the tokens after the first one
  taken : OpensInFront (open_after token.terminal n) tokens → OpensInFront n (token ∷ tokens) ⊎ HasOpenBrackets (token ∷ tokens)
  unfolding opened
  taken h = elim (bracket token.terminal) [
    | inl is ↦ inl (with_first (omega (arith, deep, ones true is.0, closes false is.1, opening is)))
    | inr (inl is) ↦ elim (cases_eq n 0) [
      | inl none ↦ inr (record {
        front = token ∷ [];
        run = h.front;
        rest = h.rest;
        parts = ap (λ (v : List Token). token ∷ v) h.parts;
        deep = omega (arith, deep, closing is);
      })
      | inr some ↦ inl (with_first (omega (arith, deep, ones false is.0, closes true is.1, closing is)))
    ]
    | inr (inr is) ↦ inl (with_first (omega (arith, deep, ones false is.0, closes false is.1, other is)))
  ]
    where
      ones : (passes : Bool) → is_opening token.terminal ≡ passes → count_of is_opening (token ∷ h.front) ≡ (if passes then 1 else 0) + count_of is_opening h.front
      ones passes e = count_first is_opening token h.front passes e

      closes : (passes : Bool) → is_closing token.terminal ≡ passes → count_of is_closing (token ∷ h.front) ≡ (if passes then 1 else 0) + count_of is_closing h.front
      closes passes e = count_first is_closing token h.front passes e

      deep : count_of is_closing h.front + 32 < open_after token.terminal n + count_of is_opening h.front
      deep = h.deep

      opening : Opens token.terminal → open_after token.terminal n ≡ n + 1
      opening is j = opened (is.0 j) (is.1 j)

      closing : Closes token.terminal → open_after token.terminal n ≡ n - 1
      closing is j = opened (is.0 j) (is.1 j)

      other : IsNoBracket token.terminal → open_after token.terminal n ≡ n
      other is j = opened (is.0 j) (is.1 j)

      with_first : count_of is_closing (token ∷ h.front) + 32 < n + count_of is_opening (token ∷ h.front) → OpensInFront n (token ∷ tokens)
      with_first lt = record { front = token ∷ h.front; rest = h.rest; parts = ap (λ (v : List Token). token ∷ v) h.parts; deep = lt }

  -- a front with the first token, seen after it
  passed : (front : List Token) → count_of is_closing (token ∷ front) + 32 < n + count_of is_opening (token ∷ front) →
      count_of is_closing front + 32 < open_after token.terminal n + count_of is_opening front
  unfolding opened
  passed front lt = elim (bracket token.terminal) [
    | inl is ↦ let e : open_after token.terminal n ≡ n + 1 = λ j. opened (is.0 j) (is.1 j) in omega
        (arith, lt, count_first is_opening token front true is.0, count_first is_closing token front false is.1, e)
    | inr (inl is) ↦ let e : open_after token.terminal n ≡ n - 1 =
        λ j. opened (is.0 j) (is.1 j) in omega (arith, lt, count_first is_opening token front false is.0, count_first is_closing token front true is.1, e)
    | inr (inr is) ↦ let e : open_after token.terminal n ≡ n =
        λ j. opened (is.0 j) (is.1 j) in omega (arith, lt, count_first is_opening token front false is.0, count_first is_closing token front false is.1, e)
  ]

-- what the count finds is there
counted : (n : ℕ) (tokens : List Token) → opens_many n tokens ≡ true → OpensInFront n tokens ⊎ HasOpenBrackets tokens
counted n [] e = inl (record { front = []; rest = []; parts = refl; deep = elim (above_is n false (or_last (nat_lt 32 n) ∙ e)) [ inl lt ↦ omega arith | inr none ↦ absurd cc ] })
  where
    or_last : (b : Bool) → (b || false) ≡ b
    or_last true = refl
    or_last false = refl
counted n (token ∷ tokens) e = elim (above_is n (opens_many (open_after token.terminal n) tokens) e) [
  | inl lt ↦ inl (record { front = []; rest = token ∷ tokens; parts = refl; deep = omega arith })
  | inr after ↦ elim (counted (open_after token.terminal n) tokens after) [
    | inl h ↦ taken n token tokens h
    | inr h ↦ inr (later token tokens h)
  ]
]

or_true : (a b : Bool) → b ≡ true → (a || b) ≡ true
or_true true b e = refl
or_true false b e = e

-- what is there the count finds
in_front : (n : ℕ) (front rest : List Token) → count_of is_closing front + 32 < n + count_of is_opening front → opens_many n (front ++ rest) ≡ true
in_front n [] rest lt = open_found n rest (omega arith)
in_front n (token ∷ front) rest lt =
    or_true (nat_lt 32 n) _ (in_front (open_after token.terminal n) front rest (passed n token front front lt))

in_run : (n : ℕ) (front run rest : List Token) → count_of is_closing run + 32 < count_of is_opening run → opens_many n (front ++ (run ++ rest)) ≡ true
in_run n [] run rest lt = in_front n run rest (omega arith)
in_run n (token ∷ front) run rest lt = or_true (nat_lt 32 n) _ (in_run (open_after token.terminal n) front run rest lt)

pub brackets_found : (tokens : List Token) → opens_many 0 tokens ≡ true → HasOpenBrackets tokens
brackets_found tokens e = elim (counted 0 tokens e) [
  | inl h ↦ record { front = []; run = h.front; rest = h.rest; parts = h.parts; deep = let deep = h.deep in omega arith }
  | inr h ↦ h
]

pub no_brackets : (tokens : List Token) → opens_many 0 tokens ≡ false → HasOpenBrackets tokens → ⊥
no_brackets tokens e h = clash (opens_many 0 tokens) (ap (opens_many 0) h.parts ∙ in_run 0 h.front h.run h.rest h.deep) e
