-- How deep the brackets of statements are nested, as they are printed and as they are written otherwise.
use Rattle.std.proofs.Common.{◌≡◌, ℕ, ℤ, pos, negsuc, ◌+◌, ◌<◌, ◌≤◌, max, zero, suc, Bool, true, false, cond, not, ◌&&◌, ◌||◌, List, [], ◌∷◌, ◌++◌, Option}
use Rattle.std.proofs.Common.{Some, None, inl, inr, refl, sym, ap, subst, ◌∙◌, arith, append_assoc}
use Rattle.std.specs.Prelude.{nat_lt, nat_eq}
use Rattle.std.proofs.lemmas.Bool.{and_parts, cases_lt}
use Rattle.std.proofs.lemmas.Bool.Decides.{nat_tests}
use Rattle.stapl_lexer.specs.Depth.{is_opening, is_closing}
use Rattle.stapl_lexer.specs.declared.terminal.Mark.TheVariants as marks
use Rattle.stapl_lexer.specs.declared.terminal.Terminal.{Terminal}
use Rattle.stapl_lexer.specs.declared.terminal.Terminal.TheVariants as terminals
use Rattle.stapl_lexer.specs.declared.terminal.Function.TheVariants as functions
use Rattle.stapl_syntax.specs.declared.statement.ItemChoice.{ItemChoice}
use Rattle.stapl_syntax.specs.declared.statement.ItemChoice.TheVariants as choices
use Rattle.stapl_syntax.specs.Symbols.{Symbol, Text}
use Rattle.stapl_syntax.specs.Expressions.{function, left_round, right_round}
use Rattle.stapl_syntax.specs.Trees.{PartTree, string, value, character, ExportTree, exported_value, exported_array}
use Rattle.stapl_syntax.specs.Parts.{IsSigned, unsigned, minus, IsBit, zero_bit, one_bit, IsChoice, optional_item, recommended_item, IsPrintPart, of_string}
use Rattle.stapl_syntax.specs.Parts.{of_value, of_character, IsExported, of_exported_value, of_exported_array, AreStates, one_state, more_states}
use Rattle.stapl_syntax.specs.Parts.{more_after_comma, Part, a_name, a_state, a_number, a_signed, a_bit, a_text, a_literal, a_check_word, a_choice, an_expr}
use Rattle.stapl_syntax.specs.Parts.{an_array, a_cell, a_target, a_print_part, an_export, some_states, after, before, maybe_hz, both, maybe, either, listed}
use Rattle.stapl_syntax.specs.Parts.{Separated, IsPart, hz}
use Rattle.canonical_text.specs.PrintedTokens.{Printed, Seen, seen, unary_symbol}
use Rattle.canonical_text.specs.PrintedStatements.{expr_tokens, signed_tokens, bit_tokens, choice_tokens, print_part_tokens, export_tokens, separated_tokens, states_tokens, part_tokens}
use Rattle.canonical_text.specs.Printable.{sign_terminal, symbol_terminal, opens, closes, one_if, openings, closings}
use Rattle.canonical_text.proofs.Grammar.{symbols, symbols-append}
use Rattle.canonical_text.proofs.Kept.{weight-append}
use Rattle.canonical_text.proofs.Heights.{lower, height, Walk, walk_on}
use Rattle.canonical_text.proofs.Nesting.{expr_depth, array_depth, expr_walk, array_walk, Nests, expr_nests, cell_nests, target_nests, array_nests, past, enclosed, flat}

abbrev pub print_part_depth : PartTree → ℕ
print_part_depth (string bytes) = 0
print_part_depth (value e) = expr_depth 10 e
print_part_depth (character e) = suc (expr_depth 10 e)

abbrev pub export_depth : ExportTree → ℕ
export_depth (exported_value e) = expr_depth 10 e
export_depth (exported_array a) = array_depth a

-- how many brackets are open after a part, if so many are open before it
abbrev pub part_end : {A : Type 0} → ℕ → Part A → ℕ
part_end h (after t p) = part_end (height h t) p
part_end h (before p t) = height (part_end h p) t
part_end h (maybe_hz p) = part_end h p
part_end h (both p q) = part_end (part_end h p) q
part_end h _ = h

-- the most of a list
abbrev pub most : {A : Type 0} → ℕ → (A → ℕ) → List A → ℕ
most h peak [] = h
most h peak (x ∷ xs) = max (peak x) (most h peak xs)

-- how many are open at most in a part
abbrev pub part_peak : {A : Type 0} → ℕ → Part A → A → ℕ
part_peak h an_expr e = h + expr_depth 10 e
part_peak h an_array a = h + array_depth a
part_peak h a_cell e = h + expr_depth 10 e
part_peak h a_target a = h + array_depth a
part_peak h a_print_part x = h + print_part_depth x
part_peak h an_export x = h + export_depth x
part_peak h (after t p) x = max (height h t) (part_peak (height h t) p x)
part_peak h (before p t) x = max (part_peak h p x) (height (part_end h p) t)
part_peak h (maybe_hz p) x = part_peak h p x
part_peak h (both p q) x = max (part_peak h p x.0) (part_peak (part_end h p) q x.1)
part_peak h (maybe p) None = h
part_peak h (maybe p) (Some x) = part_peak h p x
part_peak h (either p q) (inl x) = part_peak h p x
part_peak h (either p q) (inr y) = part_peak h q y
part_peak h (listed t p) xs = most h (part_peak h p) xs
part_peak h _ x = h

-- a symbol may stand there: a closing bracket closes one
abbrev pub may_step : ℕ → Symbol → Bool
may_step h t = not (closes t) || nat_lt 0 h

-- the brackets of a part fit so many open ones
abbrev pub fits : {A : Type 0} → ℕ → Part A → Bool
fits h (after t p) = may_step h t && fits (height h t) p
fits h (before p t) = fits h p && may_step (part_end h p) t
fits h (maybe_hz p) = fits h p
fits h (both p q) = fits h p && fits (part_end h p) q
fits h (maybe p) = fits h p && nat_eq (part_end h p) h
fits h (either p q) = (fits h p && nat_eq (part_end h p) h) && (fits h q && nat_eq (part_end h q) h)
fits h (listed t p) = (fits h p && nat_eq (part_end h p) h) && (not (opens t) && not (closes t))
fits h _ = true

step_closes : (h : ℕ) (t : Symbol) → may_step h t ≡ true → closes t ≡ true → 0 < h
step_closes h t e c = by (closes t) c e
  where
    by : (b : Bool) → b ≡ true → (not b || nat_lt 0 h) ≡ true → 0 < h
    by true c e = grind (arith, nat_tests, e)
    by false c e = absurd cc

same_height : (a b : ℕ) → nat_eq a b ≡ true → a ≡ b
same_height a b e = grind (arith, nat_tests, e)

is_false : (b : Bool) → not b ≡ true → b ≡ false
is_false true e = absurd cc
is_false false e = refl

-- ---- what is printed

module _ (d : ℕ) where
  step_on : (h k : ℕ) (t : Symbol) (s : List Symbol) → may_step h t ≡ true → height h t ≤ d → Walk d (height h t) s k → Walk d h (t ∷ s) k
  step_on h k t s e le w = (step_closes h t e, le, w)

  joined : (h m k : ℕ) (a b : List Printed) → Walk d h (symbols a) m → Walk d m (symbols b) k → Walk d h (symbols (a ++ b)) k
  joined h m k a b w v = subst (λ (s : List Symbol). Walk d h s k) (sym (symbols-append a b)) (walk_on d h m k (symbols a) (symbols b) w v)

  last_step : (h k : ℕ) (t : Symbol) (a : List Printed) → Walk d h (symbols a) k → may_step k t ≡ true → height k t ≤ d → Walk d h (symbols (a ++ Seen t ∷ [])) (height k t)
  last_step h k t a w e le = joined h k (height k t) a (Seen t ∷ []) w (step_closes k t e, le, refl)

  -- a walk from below ends below
  end_low : (h k : ℕ) (a : List Printed) → h ≤ d → Walk d h (symbols a) k → k ≤ d
  end_low h k [] low w = omega (arith, w)
  end_low h k (t ∷ a) low w = end_low (height h (seen t)) k a w.1 w.2

  signed_walk : (h : ℕ) (z : ℤ) → h ≤ d → Walk d h (symbols (signed_tokens z)) h
  unfolding symbol_terminal sign_terminal is_opening is_closing unary_symbol
  signed_walk h (pos n) le = ((λ e. absurd cc), le, refl)
  signed_walk h (negsuc n) le = ((λ e. absurd cc), le, ((λ e. absurd cc), le, refl))

  bit_walk : (h : ℕ) (b : Bool) → h ≤ d → Walk d h (symbols (bit_tokens b)) h
  unfolding symbol_terminal sign_terminal is_opening is_closing
  bit_walk h true le = ((λ e. absurd cc), le, refl)
  bit_walk h false le = ((λ e. absurd cc), le, refl)

  choice_walk : (h : ℕ) (c : ItemChoice) → h ≤ d → Walk d h (symbols (choice_tokens c)) h
  unfolding symbol_terminal sign_terminal is_opening is_closing choice_tokens
  choice_walk h choices.Optional le = ((λ e. absurd cc), le, refl)
  choice_walk h choices.Recommended le = ((λ e. absurd cc), le, refl)

  print_part_walk : (h : ℕ) (x : PartTree) → h + print_part_depth x ≤ d → Walk d h (symbols (print_part_tokens x)) h
  unfolding symbol_terminal sign_terminal is_opening is_closing
  print_part_walk h (string bytes) le = ((λ e. absurd cc), omega arith, refl)
  print_part_walk h (value e) le = expr_walk d h 10 e le
  print_part_walk h (character e) le = (
    (λ e. absurd cc),
    omega arith,
    (
      (λ e. absurd cc),
      omega arith,
      last_step (suc h) (suc h) right_round (expr_tokens 10 e) (expr_walk d (suc h) 10 e (omega arith)) (some_open h) (omega arith),
    ),
  )
    where
      some_open : (h : ℕ) → (false || nat_lt 0 (suc h)) ≡ true
      some_open h = grind (arith, nat_tests)

  export_walk : (h : ℕ) (x : ExportTree) → h + export_depth x ≤ d → Walk d h (symbols (export_tokens x)) h
  export_walk h (exported_value e) le = expr_walk d h 10 e le
  export_walk h (exported_array a) le = array_walk d h a le

  states_walk : (h : ℕ) (ks : List ℕ) → h ≤ d → Walk d h (symbols (states_tokens ks)) h
  unfolding symbol_terminal sign_terminal is_opening is_closing
  states_walk h [] le = refl
  states_walk h (k ∷ []) le = ((λ e. absurd cc), le, refl)
  states_walk h (k ∷ j ∷ ks) le = ((λ e. absurd cc), le, ((λ e. absurd cc), le, states_walk h (j ∷ ks) le))

  separated_walk : {A : Type 0} (h : ℕ) (write : A → List Printed) (t : Symbol) (peak : A → ℕ) → h ≤ d → opens t ≡ false → closes t ≡ false →
      ((x : A) → peak x ≤ d → Walk d h (symbols (write x)) h) → (xs : List A) → most h peak xs ≤ d → Walk d h (symbols (separated_tokens write (Seen t) xs)) h
  separated_walk h write t peak low o c each [] le = refl
  separated_walk h write t peak low o c each (x ∷ []) le = each x (omega arith)
  separated_walk h write t peak low o c each (x ∷ y ∷ ys) le =
      joined h h h (write x) (Seen t ∷ separated_tokens write (Seen t) (y ∷ ys)) (each x (omega arith))
      (next (opens t) (closes t) o c (separated_walk h write t peak low o c each (y ∷ ys) (omega arith)))
    where
      next : (p q : Bool) → p ≡ false → q ≡ false → Walk d h (symbols (separated_tokens write (Seen t) (y ∷ ys))) h →
          (q ≡ true → 0 < h) × (cond p (suc h) (cond q (lower h) h) ≤ d) × Walk d (cond p (suc h) (cond q (lower h) h)) (symbols (separated_tokens write (Seen t) (y ∷ ys))) h
      next true q o c w = absurd cc
      next false true o c w = absurd cc
      next false false o c w = ((λ e. absurd cc), low, w)

  pub part_walk : {A : Type 0} (h : ℕ) (p : Part A) (x : A) → h ≤ d → fits h p ≡ true → part_peak h p x ≤ d → Walk d h (symbols (part_tokens p x)) (part_end h p)
  unfolding symbol_terminal sign_terminal is_opening is_closing
  part_walk h a_name x low e le = ((λ e. absurd cc), low, refl)
  part_walk h a_state x low e le = ((λ e. absurd cc), low, refl)
  part_walk h a_number x low e le = ((λ e. absurd cc), low, refl)
  part_walk h a_signed x low e le = signed_walk h x low
  part_walk h a_bit x low e le = bit_walk h x low
  part_walk h a_text x low e le = ((λ e. absurd cc), low, refl)
  part_walk h a_literal x low e le = ((λ e. absurd cc), low, refl)
  part_walk h a_check_word x low e le = ((λ e. absurd cc), low, refl)
  part_walk h a_choice x low e le = choice_walk h x low
  part_walk h an_expr x low e le = expr_walk d h 10 x le
  part_walk h an_array x low e le = array_walk d h x le
  part_walk h a_cell x low e le = expr_walk d h 10 x le
  part_walk h a_target x low e le = array_walk d h x le
  part_walk h a_print_part x low e le = print_part_walk h x le
  part_walk h an_export x low e le = export_walk h x le
  part_walk h some_states x low e le = states_walk h x low
  part_walk h (after t p) x low e le =
      let c = and_parts (may_step h t) (fits (height h t) p) e in
      step_on h (part_end (height h t) p) t (symbols (part_tokens p x)) c.0 (omega arith) (part_walk (height h t) p x (omega arith) c.1 (omega arith))
  part_walk h (before p t) x low e le =
      let c = and_parts (fits h p) (may_step (part_end h p) t) e in
      last_step h (part_end h p) t (part_tokens p x) (part_walk h p x low c.0 (omega arith)) c.1 (omega arith)
  part_walk h (maybe_hz p) x low e le =
      joined h (part_end h p) (part_end h p) (part_tokens p x) (Seen hz ∷ []) (part_walk h p x low e le)
      ((λ e. absurd cc), end_low h (part_end h p) (part_tokens p x) low (part_walk h p x low e le), refl)
  part_walk h (both p q) x low e le =
      let c = and_parts (fits h p) (fits (part_end h p) q) e in
      let first = part_walk h p x.0 low c.0 (omega arith) in
      joined h (part_end h p) (part_end (part_end h p) q) (part_tokens p x.0) (part_tokens q x.1) first
      (part_walk (part_end h p) q x.1 (end_low h (part_end h p) (part_tokens p x.0) low first) c.1 (omega arith))
  part_walk h (maybe p) None low e le = refl
  part_walk h (maybe p) (Some x) low e le =
      let c = and_parts (fits h p) (nat_eq (part_end h p) h) e in
      subst (λ (k : ℕ). Walk d h (symbols (part_tokens p x)) k) (same_height (part_end h p) h c.1) (part_walk h p x low c.0 le)
  part_walk h (either p q) (inl x) low e le =
      let c = and_parts (fits h p) (nat_eq (part_end h p) h) (and_parts _ _ e).0 in
      subst (λ (k : ℕ). Walk d h (symbols (part_tokens p x)) k) (same_height (part_end h p) h c.1) (part_walk h p x low c.0 le)
  part_walk h (either p q) (inr y) low e le =
      let c = and_parts (fits h q) (nat_eq (part_end h q) h) (and_parts _ _ e).1 in
      subst (λ (k : ℕ). Walk d h (symbols (part_tokens q y)) k) (same_height (part_end h q) h c.1) (part_walk h q y low c.0 le)
  part_walk h (listed t p) xs low e le =
      let c = and_parts (fits h p && nat_eq (part_end h p) h) (not (opens t) && not (closes t)) e in
      let own = and_parts (fits h p) (nat_eq (part_end h p) h) c.0 in
      let plain = and_parts (not (opens t)) (not (closes t)) c.1 in
      separated_walk h (part_tokens p) t (part_peak h p) low (is_false (opens t) plain.0) (is_false (closes t) plain.1)
      (λ x le. subst (λ (k : ℕ). Walk d h (symbols (part_tokens p x)) k) (same_height (part_end h p) h own.1) (part_walk h p x low own.0 le)) xs le

-- ---- each other writing

-- from so many open brackets to so many, and up to a height on the way
pub record GoesTo (h d k : ℕ) (s : List Symbol) : Type 0 where
  pub front : List Symbol
  pub rest : List Symbol
  pub parts : s ≡ front ++ rest
  pub top : closings front + d ≤ h + openings front
  pub even : h + openings s ≡ closings s + k

pub from_nest : (h d : ℕ) (s : List Symbol) → Nests d s → GoesTo h (h + d) h s
from_nest h d s n = record {
  front = n.reaches.front;
  rest = n.reaches.rest;
  parts = n.reaches.parts;
  top = omega (arith, n.reaches.height);
  even = omega (arith, n.even);
}

-- a start that is as high
from_start : (h d k : ℕ) (s : List Symbol) → d ≤ h → h + openings s ≡ closings s + k → GoesTo h d k s
from_start h d k s le even = record { front = []; rest = s; parts = refl; top = omega arith; even = even }

pub from_flat : (h : ℕ) (s : List Symbol) → openings s ≡ closings s → GoesTo h h h s
from_flat h s even = from_start h h h s (omega arith) (omega (arith, even))

pub less : (h d e k : ℕ) (s : List Symbol) → d ≤ e → GoesTo h e k s → GoesTo h d k s
less h d e k s le g = record { front = g.front; rest = g.rest; parts = g.parts; top = omega (arith, g.top); even = g.even }

pub two : (h d k e m : ℕ) (a b : List Symbol) → GoesTo h d k a → GoesTo k e m b → GoesTo h (max d e) m (a ++ b)
two h d k e m a b g q = elim (cases_lt d e) [
  | inl lt ↦ record {
    front = a ++ q.front;
    rest = q.rest;
    parts = ap (λ (v : List Symbol). a ++ v) q.parts ∙ sym (append_assoc a q.front q.rest);
    top = omega (arith, weight-append opens a q.front, weight-append closes a q.front, q.top, g.even);
    even = whole;
  }
  | inr le ↦ record {
    front = g.front;
    rest = g.rest ++ b;
    parts = ap (λ (v : List Symbol). v ++ b) g.parts ∙ append_assoc g.front g.rest b;
    top = omega (arith, g.top);
    even = whole;
  }
]
  where
    whole : h + openings (a ++ b) ≡ closings (a ++ b) + m
    whole = omega (arith, weight-append opens a b, weight-append closes a b, g.even, q.even)

never_both : (o : Option Terminal) → is_opening o ≡ true → is_closing o ≡ false
unfolding is_opening is_closing
never_both (Some (terminals.Mark marks.LeftRound)) e = refl
never_both (Some (terminals.Mark marks.LeftSquare)) e = refl
never_both _ e = absurd cc

balance_step : (h : ℕ) (t : Symbol) → may_step h t ≡ true → h + one_if (opens t) ≡ one_if (closes t) + height h t
balance_step h t e = by (opens t) (closes t) (never_both (symbol_terminal t)) (step_closes h t e)
  where
    by : (o c : Bool) → (o ≡ true → c ≡ false) → (c ≡ true → 0 < h) → h + one_if o ≡ one_if c + cond o (suc h) (cond c (lower h) h)
    by true true never low = absurd (let f = never refl in cc)
    by true false never low = omega arith
    by false true never low = positive h (low refl)
      where
        positive : (h : ℕ) → 0 < h → h + 0 ≡ 1 + lower h
        positive zero lt = absurd (omega arith)
        positive (suc h) lt = omega arith
    by false false never low = omega arith

one_goes : (h : ℕ) (t : Symbol) → may_step h t ≡ true → GoesTo h (height h t) (height h t) (t ∷ [])
one_goes h t e = record {
  front = t ∷ [];
  rest = [];
  parts = refl;
  top = omega (arith, balance_step h t e);
  even = omega (arith, balance_step h t e);
}

step_goes : (h d k : ℕ) (t : Symbol) (s : List Symbol) → may_step h t ≡ true → GoesTo (height h t) d k s → GoesTo h (max (height h t) d) k (t ∷ s)
step_goes h d k t s e g = two h (height h t) (height h t) d k (t ∷ []) s (one_goes h t e) g

pub renamed : (h d k : ℕ) (r s : List Symbol) → s ≡ r → GoesTo h d k r → GoesTo h d k s
renamed h d k r s e g = subst (GoesTo h d k) (sym e) g

signed_even : {s : List Symbol} {z : ℤ} → IsSigned s z → openings s ≡ closings s
unfolding symbol_terminal sign_terminal is_opening is_closing
signed_even unsigned = refl
signed_even minus = refl

bit_even : {s : List Symbol} {b : Bool} → IsBit s b → openings s ≡ closings s
unfolding symbol_terminal sign_terminal is_opening is_closing
bit_even zero_bit = refl
bit_even one_bit = refl

choice_even : {s : List Symbol} {c : ItemChoice} → IsChoice s c → openings s ≡ closings s
unfolding symbol_terminal sign_terminal is_opening is_closing
choice_even optional_item = refl
choice_even recommended_item = refl

states_even : {s : List Symbol} {ks : List ℕ} → AreStates s ks → openings s ≡ closings s
unfolding symbol_terminal sign_terminal is_opening is_closing
states_even one_state = refl
states_even (more_states d) = omega (arith, states_even d)
states_even (more_after_comma d) = omega (arith, states_even d)

print_part_nests : (s : List Symbol) (x : PartTree) → IsPrintPart s x → Nests (print_part_depth x) s
unfolding symbol_terminal sign_terminal is_opening is_closing
print_part_nests _ _ (of_string {bytes = bytes}) = flat (Text bytes) refl refl
print_part_nests _ _ (of_value {s = s} {e = e} d) = expr_nests 10 10 s e d (omega arith)
print_part_nests _ _ (of_character {s = s} {e = e} d) =
    past _ (function functions.Character) _ refl refl (enclosed (expr_depth 10 e) left_round right_round s refl refl refl refl (expr_nests 10 10 s e d (omega arith)))

export_nests : (s : List Symbol) (x : ExportTree) → IsExported s x → Nests (export_depth x) s
export_nests _ _ (of_exported_value {s = s} {e = e} d) = expr_nests 10 10 s e d (omega arith)
export_nests _ _ (of_exported_array {s = s} {a = a} d) = array_nests s a d

start_too : (h d k : ℕ) (s : List Symbol) → GoesTo h d k s → GoesTo h (max d h) k s
start_too h d k s g = elim (cases_lt d h) [
  | inl lt ↦ from_start h (max d h) k s (omega arith) g.even
  | inr le ↦ less h (max d h) d k s (omega arith) g
]

separated_goes : {A : Type 0} (h : ℕ) (P : A → List Symbol → Type 0) (t : Symbol) (peak : A → ℕ) → opens t ≡ false → closes t ≡ false →
    ((x : A) (s : List Symbol) → P x s → GoesTo h (peak x) h s) → (xs : List A) (s : List Symbol) → Separated P t xs s → GoesTo h (most h peak xs) h s
separated_goes h P t peak o c each [] s is = absurd is
separated_goes h P t peak o c each (x ∷ []) s is = start_too h (peak x) h s (each x s is)
separated_goes h P t peak o c each (x ∷ y ∷ ys) s is =
    renamed h _ h _ s is.2
    (two h (peak x) h (most h peak (y ∷ ys)) h is.0 (t ∷ is.1) (each x is.0 is.3)
    (less h (most h peak (y ∷ ys)) (max h (most h peak (y ∷ ys))) h (t ∷ is.1) (omega arith) (plain_step (separated_goes h P t peak o c each (y ∷ ys) is.1 is.4))))
  where
    plain_step : GoesTo h (most h peak (y ∷ ys)) h is.1 → GoesTo h (max h (most h peak (y ∷ ys))) h (t ∷ is.1)
    plain_step g = two h h h (most h peak (y ∷ ys)) h (t ∷ []) is.1 (from_flat h (t ∷ []) (omega (arith, ap one_if o, ap one_if c))) g

pub part_goes : {A : Type 0} (h : ℕ) (p : Part A) (x : A) (s : List Symbol) → fits h p ≡ true → IsPart p x s → GoesTo h (part_peak h p x) (part_end h p) s
unfolding symbol_terminal sign_terminal is_opening is_closing
part_goes h a_name x s e is = renamed h h h _ s is (from_flat h _ refl)
part_goes h a_state x s e is = renamed h h h _ s is (from_flat h _ refl)
part_goes h a_number x s e is = renamed h h h _ s is (from_flat h _ refl)
part_goes h a_signed x s e is = from_flat h s (signed_even is)
part_goes h a_bit x s e is = from_flat h s (bit_even is)
part_goes h a_text x s e is = renamed h h h _ s is (from_flat h _ refl)
part_goes h a_literal x s e is = renamed h h h _ s is (from_flat h _ refl)
part_goes h a_check_word x s e is = renamed h h h _ s is (from_flat h _ refl)
part_goes h a_choice x s e is = from_flat h s (choice_even is)
part_goes h an_expr x s e is = from_nest h (expr_depth 10 x) s (expr_nests 10 10 s x is (omega arith))
part_goes h an_array x s e is = from_nest h (array_depth x) s (array_nests s x is)
part_goes h a_cell x s e is = from_nest h (expr_depth 10 x) s (cell_nests 10 s x is)
part_goes h a_target x s e is = from_nest h (array_depth x) s (target_nests s x is)
part_goes h a_print_part x s e is = from_nest h (print_part_depth x) s (print_part_nests s x is)
part_goes h an_export x s e is = from_nest h (export_depth x) s (export_nests s x is)
part_goes h some_states x s e is = from_flat h s (states_even is)
part_goes h (after t p) x s e is =
    let c = and_parts (may_step h t) (fits (height h t) p) e in
    renamed h _ _ _ s is.1 (step_goes h (part_peak (height h t) p x) (part_end (height h t) p) t is.0 c.0 (part_goes (height h t) p x is.0 c.1 is.2))
part_goes h (before p t) x s e is =
    let c = and_parts (fits h p) (may_step (part_end h p) t) e in
    renamed h _ _ _ s is.1 (two h (part_peak h p x) (part_end h p) (height (part_end h p) t) (height (part_end h p) t) is.0 (t ∷ []) (part_goes h p x is.0 c.0 is.2) (one_goes (part_end h p) t c.1))
part_goes h (maybe_hz p) x s e (inl is) = part_goes h p x s e is
part_goes h (maybe_hz p) x s e (inr is) =
    renamed h _ _ _ s is.1 (less h (part_peak h p x) (max (part_peak h p x) (part_end h p)) (part_end h p) (is.0 ++ hz ∷ []) (omega arith)
    (two h (part_peak h p x) (part_end h p) (part_end h p) (part_end h p) is.0 (hz ∷ []) (part_goes h p x is.0 e is.2) (from_flat (part_end h p) (hz ∷ []) refl)))
part_goes h (both p q) x s e is =
    let c = and_parts (fits h p) (fits (part_end h p) q) e in
    renamed h _ _ _ s is.2
    (two h (part_peak h p x.0) (part_end h p) (part_peak (part_end h p) q x.1) (part_end (part_end h p) q) is.0 is.1 (part_goes h p x.0 is.0 c.0 is.3) (part_goes (part_end h p) q x.1 is.1 c.1 is.4))
part_goes h (maybe p) None s e is = renamed h h h [] s is (from_flat h [] refl)
part_goes h (maybe p) (Some x) s e is =
    let c = and_parts (fits h p) (nat_eq (part_end h p) h) e in
    subst (λ (k : ℕ). GoesTo h (part_peak h p x) k s) (same_height (part_end h p) h c.1) (part_goes h p x s c.0 is)
part_goes h (either p q) (inl x) s e is =
    let c = and_parts (fits h p) (nat_eq (part_end h p) h) (and_parts _ _ e).0 in
    subst (λ (k : ℕ). GoesTo h (part_peak h p x) k s) (same_height (part_end h p) h c.1) (part_goes h p x s c.0 is)
part_goes h (either p q) (inr y) s e is =
    let c = and_parts (fits h q) (nat_eq (part_end h q) h) (and_parts _ _ e).1 in
    subst (λ (k : ℕ). GoesTo h (part_peak h q y) k s) (same_height (part_end h q) h c.1) (part_goes h q y s c.0 is)
part_goes h (listed t p) xs s e is =
    let c = and_parts (fits h p && nat_eq (part_end h p) h) (not (opens t) && not (closes t)) e in
    let own = and_parts (fits h p) (nat_eq (part_end h p) h) c.0 in
    let plain = and_parts (not (opens t)) (not (closes t)) c.1 in
    separated_goes h (IsPart p) t (part_peak h p) (is_false (opens t) plain.0) (is_false (closes t) plain.1)
    (λ x s is. subst (λ (k : ℕ). GoesTo h (part_peak h p x) k s) (same_height (part_end h p) h own.1) (part_goes h p x s own.0 is)) xs s is
