-- The tokens of a printed statement stay apart when they are read.
use Rattle.std.proofs.Common.{◌≡◌, ℕ, ℤ, pos, negsuc, ◌-◌, Bool, true, false, not, ◌&&◌, ◌||◌, List, [], ◌∷◌, ◌++◌, Option, Some, None, inl, inr, ◌⊎◌, refl, sym, ap, subst, ◌∙◌, append_assoc}
use Rattle.std.specs.Prelude.{nat_lt}
use Rattle.std.specs.List.{list_all}
use Rattle.std.proofs.lemmas.Bool.{and_parts}
use Rattle.std.proofs.lemmas.List.Folds.{list_all-append}
use Rattle.stapl_lexer.specs.declared.terminal.Function.TheVariants as functions
use Rattle.stapl_lexer.specs.declared.terminal.JoinWord.TheVariants as joins
use Rattle.stapl_lexer.specs.declared.terminal.Mark.TheVariants as marks
use Rattle.stapl_syntax.specs.declared.signs.Sign.TheVariants as signs
use Rattle.stapl_syntax.specs.declared.signs.UnOp.TheVariants.{Negate}
use Rattle.stapl_syntax.specs.declared.statement.ItemChoice.{ItemChoice}
use Rattle.stapl_syntax.specs.declared.statement.ItemChoice.TheVariants as choices
use Rattle.stapl_syntax.specs.Symbols.{Symbol, Plain, Text, Literal}
use Rattle.stapl_syntax.specs.Expressions.{level_of, operator, mark, function, name, left_round, right_round, left_square, right_square, dots}
use Rattle.stapl_lexer.specs.declared.terminal.InnerWord.TheVariants as inner_words
use Rattle.stapl_lexer.specs.declared.terminal.OuterWord.TheVariants as outer_words
use Rattle.stapl_lexer.specs.declared.terminal.PortWord.TheVariants as port_words
use Rattle.stapl_lexer.specs.declared.terminal.SimpleWord.TheVariants as simple_words
use Rattle.stapl_syntax.specs.Trees.{ExprTree, number, scalar, element, unary, binary, abs, int, ArrayTree, literal, whole, range, of_int, PartTree, string}
use Rattle.stapl_syntax.specs.Trees.{value, character, ExportTree, exported_value, exported_array, BodyTree, note, action, procedure, data_block, end_data}
use Rattle.stapl_syntax.specs.Trees.{crc, end_procedure, boolean, boolean_array, integer, integer_array, assign, assign_element, assign_array, assign_range}
use Rattle.stapl_syntax.specs.Trees.{call, goto, if_then, for_loop, next, push, pop, print, export, exit, scan, stop, pad, state_list, wait_cycles, wait_usec}
use Rattle.stapl_syntax.specs.Trees.{frequency, StmtTree}
use Rattle.stapl_syntax.specs.Parts.{Part, a_name, a_state, a_number, a_signed, a_bit, a_text, a_literal, a_check_word, a_choice, an_expr, an_array, a_cell}
use Rattle.stapl_syntax.specs.Parts.{a_target, a_print_part, an_export, some_states, after, before, maybe_hz, both, maybe, either, listed, hz, comma, equals}
use Rattle.stapl_syntax.specs.Parts.{join, note_part, action_part, procedure_part, size_part, bit_part, bits_part, signed_part, signed_list_part, for_part}
use Rattle.stapl_syntax.specs.Parts.{print_part, export_part, scan_part, pad_part, last_part, usec_part, first_part, frequency_part}
use Rattle.stapl_syntax.specs.Statements.{outer, inner, simple, if_word, port, IsBody, IsLabelled, Means, is_outer}
use Rattle.stapl_syntax.specs.Rules.{is_crc}
use Rattle.canonical_text.specs.PrintedTokens.{Printed, Seen, UnaryMark}
use Rattle.canonical_text.specs.Spacing.{leans_back, begins_operand, stays_apart, stay_apart, is_ordinary}
use Rattle.canonical_text.specs.PrintedStatements.{bracketed_if, expr_tokens, array_tokens, signed_tokens, bit_tokens, choice_tokens, print_part_tokens}
use Rattle.canonical_text.specs.PrintedStatements.{export_tokens, separated_tokens, states_tokens, part_tokens, body_tokens, label_tokens, stmt_tokens}

-- a literal
unfoldable pub is_literal : Printed → Bool
is_literal (Seen (Literal bits)) = true
is_literal _ = false

-- the mark of an operator with one operand
unfoldable pub is_unary : Printed → Bool
is_unary (UnaryMark op) = true
is_unary _ = false

-- the last token passes a test
abbrev pub ends_with : (Printed → Bool) → List Printed → Bool
ends_with test [] = false
ends_with test (t ∷ []) = test t
ends_with test (t ∷ after_it ∷ ts) = ends_with test (after_it ∷ ts)

-- the first token, if there is one, leans back
abbrev pub leans : List Printed → Bool
leans [] = true
leans (t ∷ ts) = leans_back t

-- What is known of tokens: they stay apart and are ordinary, and none that wants an operand is the last. Whether the last
-- one may be a literal, and whether the first one leans back.
pub record IsApart (ts : List Printed) (literal back : Bool) : Type 0 where
  pub stays : stay_apart ts ≡ true
  pub ordinary : list_all is_ordinary ts ≡ true
  pub no_mark : ends_with is_unary ts ≡ false
  pub last : ends_with is_literal ts ≡ true → literal ≡ true
  pub first : back ≡ true → leans ts ≡ true

or_left : (a b : Bool) → a ≡ true → (a || b) ≡ true
or_left true b e = refl
or_left false b e = absurd cc

or_right : (a b : Bool) → b ≡ true → (a || b) ≡ true
or_right true b e = refl
or_right false b e = e

both_true : (a b : Bool) → a ≡ true → b ≡ true → (a && b) ≡ true
both_true true b p q = q
both_true false b p q = absurd cc

not_true : (b : Bool) → not b ≡ true → b ≡ false
not_true true e = absurd cc
not_true false e = refl

clash : {P : Type 0} (b : Bool) → b ≡ true → b ≡ false → P
clash b e f = absurd cc

-- two tokens
next_apart : (t after_it : Printed) → is_unary t ≡ false → (is_literal t ≡ true → leans_back after_it ≡ true) → stays_apart t after_it ≡ true
unfolding stays_apart is_unary is_literal
next_apart (UnaryMark op) after_it u h = absurd cc
next_apart (Seen (Literal bits)) after_it u h = h refl
next_apart _ after_it u h = refl

stay_on : (a b : List Printed) → stay_apart a ≡ true → stay_apart b ≡ true → ends_with is_unary a ≡ false → (ends_with is_literal a ≡ true → leans b ≡ true) → stay_apart (a ++ b) ≡ true
stay_on [] b p q u h = q
stay_on (t ∷ []) [] p q u h = p
stay_on (t ∷ []) (after_it ∷ b) p q u h = both_true (stays_apart t after_it) (stay_apart (after_it ∷ b)) (next_apart t after_it u h) q
stay_on (t ∷ after_it ∷ a) b p q u h =
    let parts = and_parts (stays_apart t after_it) (stay_apart (after_it ∷ a)) p in
    both_true (stays_apart t after_it) (stay_apart (after_it ∷ a ++ b)) parts.0 (stay_on (after_it ∷ a) b parts.1 q u h)

ends_on : (test : Printed → Bool) (a b : List Printed) → ends_with test (a ++ b) ≡ true → (ends_with test a ≡ true) ⊎ (ends_with test b ≡ true)
ends_on test [] b e = inr e
ends_on test (t ∷ []) [] e = inl e
ends_on test (t ∷ []) (after_it ∷ b) e = inr e
ends_on test (t ∷ after_it ∷ a) b e = ends_on test (after_it ∷ a) b e

not_so : (b : Bool) → (b ≡ true → ⊥) → b ≡ false
not_so true f = absurd (f refl)
not_so false f = refl

leans_on_both : (a b : List Printed) → leans a ≡ true → leans b ≡ true → leans (a ++ b) ≡ true
leans_on_both [] b p q = q
leans_on_both (t ∷ a) b p q = p

-- what stands after what may end in a literal leans back
pub apart_on : (a b : List Printed) (k l m n : Bool) → IsApart a k l → IsApart b m n → (k ≡ true → n ≡ true) → IsApart (a ++ b) (k || m) (l && n)
apart_on a b k l m n p q h = record {
  stays = stay_on a b p.stays q.stays p.no_mark (λ e. q.first (h (p.last e)));
  ordinary = list_all-append is_ordinary a b ∙ rw p.ordinary q.ordinary;
  no_mark = not_so (ends_with is_unary (a ++ b)) (λ e. elim (ends_on is_unary a b e) [ inl f ↦ clash (ends_with is_unary a) f p.no_mark | inr f ↦ clash (ends_with is_unary b) f q.no_mark ]);
  last = λ e. elim (ends_on is_literal a b e) [ inl f ↦ or_left k m (p.last f) | inr f ↦ or_right k m (q.last f) ];
  first = λ e. let parts = and_parts l n e in leans_on_both a b (p.first parts.0) (q.first parts.1);
}

pub weaken : (a : List Printed) (k l m n : Bool) → (k ≡ true → m ≡ true) → (n ≡ true → l ≡ true) → IsApart a k l → IsApart a m n
weaken a k l m n f g p = record { stays = p.stays; ordinary = p.ordinary; no_mark = p.no_mark; last = λ e. f (p.last e); first = λ e. p.first (g e) }

-- one token that is neither a literal nor wants an operand
pub one : (t : Printed) → is_ordinary t ≡ true → is_literal t ≡ false → is_unary t ≡ false → IsApart (t ∷ []) false (leans_back t)
one t o l u = record { stays = refl; ordinary = rw o refl; no_mark = u; last = λ e. clash (is_literal t) e l; first = λ e. e }

one_literal : (bits : List Bool) → IsApart (Seen (Literal bits) ∷ []) true false
unfolding is_ordinary is_unary
one_literal bits = record { stays = refl; ordinary = refl; no_mark = refl; last = λ e. refl; first = λ e. absurd cc }

pub nothing : IsApart [] false true
nothing = record { stays = refl; ordinary = refl; no_mark = refl; last = λ e. absurd cc; first = λ e. refl }

-- a token, and then more
pub token_then : (t : Printed) (ts : List Printed) (k l : Bool) → is_ordinary t ≡ true → is_literal t ≡ false → is_unary t ≡ false → IsApart ts k l → IsApart (t ∷ ts) k false
token_then t ts k l o li u p =
    weaken (t ∷ ts) (false || k) (leans_back t && l) k false (λ e. e) (λ e. absurd cc) (apart_on (t ∷ []) ts false (leans_back t) k l (one t o li u) p (λ e. absurd cc))

-- in brackets
in_round : (ts : List Printed) (k l : Bool) → IsApart ts k l → IsApart (Seen left_round ∷ (ts ++ Seen right_round ∷ [])) false false
unfolding is_ordinary is_literal is_unary leans_back
in_round ts k l p =
    let inner = apart_on ts (Seen right_round ∷ []) k l false true p (one (Seen right_round) refl refl refl) (λ e. refl) in
    let whole = token_then (Seen left_round) (ts ++ Seen right_round ∷ []) (k || false) (l && true) refl refl refl inner in
    record { stays = whole.stays; ordinary = whole.ordinary; no_mark = whole.no_mark; last = λ e. absurd (ends ts e); first = λ e. absurd cc }
  where
    ends : (ts : List Printed) → ends_with is_literal (Seen left_round ∷ (ts ++ Seen right_round ∷ [])) ≡ true → ⊥
    ends [] e = cc
    ends (t ∷ ts) e = later t ts e
      where
        later : (t : Printed) (ts : List Printed) → ends_with is_literal (t ∷ (ts ++ Seen right_round ∷ [])) ≡ true → ⊥
        later t [] e = cc
        later t (u ∷ us) e = later u us e

in_square : (ts : List Printed) (k l : Bool) → IsApart ts k l → IsApart (Seen left_square ∷ (ts ++ Seen right_square ∷ [])) false true
unfolding is_ordinary is_literal is_unary leans_back
in_square ts k l p =
    let inner = apart_on ts (Seen right_square ∷ []) k l false true p (one (Seen right_square) refl refl refl) (λ e. refl) in
    let whole = token_then (Seen left_square) (ts ++ Seen right_square ∷ []) (k || false) (l && true) refl refl refl inner in
    record { stays = whole.stays; ordinary = whole.ordinary; no_mark = whole.no_mark; last = λ e. absurd (ends ts e); first = λ e. refl }
  where
    ends : (ts : List Printed) → ends_with is_literal (Seen left_square ∷ (ts ++ Seen right_square ∷ [])) ≡ true → ⊥
    ends [] e = cc
    ends (t ∷ ts) e = later t ts e
      where
        later : (t : Printed) (ts : List Printed) → ends_with is_literal (t ∷ (ts ++ Seen right_square ∷ [])) ≡ true → ⊥
        later t [] e = cc
        later t (u ∷ us) e = later u us e

-- ---- expressions

-- an expression begins with a token of an operand
record BeginsOperand (ts : List Printed) : Type 0 where
  head : Printed
  rest : List Printed
  parts : ts ≡ head ∷ rest
  operand : begins_operand head ≡ true

begins_on : (a b : List Printed) → BeginsOperand a → BeginsOperand (a ++ b)
begins_on a b h = record { head = h.head; rest = h.rest ++ b; parts = ap (λ (v : List Printed). v ++ b) h.parts; operand = h.operand }

begins_bracketed : (b : Bool) (ts : List Printed) → BeginsOperand ts → BeginsOperand (bracketed_if b ts)
unfolding begins_operand
begins_bracketed true ts h = record { head = Seen left_round; rest = ts ++ Seen right_round ∷ []; parts = refl; operand = refl }
begins_bracketed false ts h = h

expr_begins : (n : ℕ) (e : ExprTree) → BeginsOperand (expr_tokens n e)
unfolding begins_operand
expr_begins n (number z) = record { head = Seen (Plain (signs.Number z)); rest = []; parts = refl; operand = refl }
expr_begins n (scalar v) = record { head = Seen (name v); rest = []; parts = refl; operand = refl }
expr_begins n (element v i) = record { head = Seen (name v); rest = _; parts = refl; operand = refl }
expr_begins n (unary op x) = record { head = UnaryMark op; rest = expr_tokens 0 x; parts = refl; operand = refl }
expr_begins n (binary op x y) =
    begins_bracketed (nat_lt n (level_of op)) _ (begins_on (expr_tokens (level_of op) x) (Seen (operator op) ∷ expr_tokens (level_of op - 1) y) (expr_begins (level_of op) x))
expr_begins n (abs x) = record { head = Seen (function functions.Abs); rest = _; parts = refl; operand = refl }
expr_begins n (int a) = record { head = Seen (function functions.Int); rest = _; parts = refl; operand = refl }

-- the mark of an operator with one operand, and its operand
unary_apart : (op : _) (ts : List Printed) (k l : Bool) → BeginsOperand ts → IsApart ts k l → IsApart (UnaryMark op ∷ ts) k false
unfolding stays_apart is_ordinary is_literal is_unary
unary_apart op ts k l h p =
    subst (λ (v : List Printed). IsApart (UnaryMark op ∷ v) k false) (sym h.parts)
    (by h.head h.rest h.operand (subst (λ (v : List Printed). IsApart v k l) h.parts p))
  where
    by : (t : Printed) (rest : List Printed) → begins_operand t ≡ true → IsApart (t ∷ rest) k l → IsApart (UnaryMark op ∷ t ∷ rest) k false
    by t rest o p = record { stays = both_true (begins_operand t) (stay_apart (t ∷ rest)) o p.stays; ordinary = p.ordinary; no_mark = p.no_mark; last = p.last; first = λ e. absurd cc }

bracketed_apart : (b : Bool) (ts : List Printed) → IsApart ts false false → IsApart (bracketed_if b ts) false false
bracketed_apart true ts p = in_round ts false false p
bracketed_apart false ts p = p

mutual
  unfolding is_ordinary is_literal is_unary leans_back

  pub expr_apart : (n : ℕ) (e : ExprTree) → IsApart (expr_tokens n e) false false
  expr_apart n (number z) = one (Seen (Plain (signs.Number z))) refl refl refl
  expr_apart n (scalar v) = one (Seen (name v)) refl refl refl
  expr_apart n (element v i) = token_then (Seen (name v)) _ false true refl refl refl (in_square (expr_tokens 10 i) false false (expr_apart 10 i))
  expr_apart n (unary op x) = unary_apart op (expr_tokens 0 x) false false (expr_begins 0 x) (expr_apart 0 x)
  expr_apart n (binary op x y) =
      bracketed_apart (nat_lt n (level_of op)) _
      (apart_on (expr_tokens (level_of op) x) (Seen (operator op) ∷ expr_tokens (level_of op - 1) y) false false false false (expr_apart (level_of op) x)
      (token_then (Seen (operator op)) (expr_tokens (level_of op - 1) y) false false refl refl refl (expr_apart (level_of op - 1) y)) (λ e. absurd cc))
  expr_apart n (abs x) = token_then (Seen (function functions.Abs)) _ false false refl refl refl (in_round (expr_tokens 10 x) false false (expr_apart 10 x))
  expr_apart n (int a) = token_then (Seen (function functions.Int)) _ false false refl refl refl (in_round (array_tokens a) true false (array_apart a))

  pub array_apart : (a : ArrayTree) → IsApart (array_tokens a) true false
  array_apart (literal bits) = one_literal bits
  array_apart (whole v) = weaken _ false false true false (λ e. absurd cc) (λ e. absurd cc) (token_then (Seen (name v)) _ false true refl refl refl (in_square [] false true nothing))
  array_apart (range v h l) =
      weaken _ false false true false (λ e. absurd cc) (λ e. absurd cc)
      (token_then (Seen (name v)) _ false true refl refl refl
      (subst (λ (w : List Printed). IsApart (Seen left_square ∷ w) false true) (append_assoc (expr_tokens 10 h) (Seen dots ∷ expr_tokens 10 l) (Seen right_square ∷ []))
      (in_square (expr_tokens 10 h ++ Seen dots ∷ expr_tokens 10 l) false false
      (apart_on (expr_tokens 10 h) (Seen dots ∷ expr_tokens 10 l) false false false false (expr_apart 10 h)
      (token_then (Seen dots) (expr_tokens 10 l) false false refl refl refl (expr_apart 10 l)) (λ e. absurd cc)))))
  array_apart (of_int x) =
      weaken _ false false true false (λ e. absurd cc) (λ e. absurd cc)
      (token_then (Seen (function functions.Bool)) _ false false refl refl refl (in_round (expr_tokens 10 x) false false (expr_apart 10 x)))

-- ---- parts

abbrev pub is_plain : Symbol → Bool
is_plain t = is_ordinary (Seen t) && not (is_literal (Seen t))

-- its last token may be a literal
abbrev pub may_end : {A : Type 0} → Part A → Bool
may_end a_literal = true
may_end an_array = true
may_end a_target = true
may_end an_export = true
may_end (after t p) = may_end p
may_end (both p q) = may_end p || may_end q
may_end (maybe p) = may_end p
may_end (either p q) = may_end p || may_end q
may_end (listed t p) = may_end p
may_end _ = false

-- its first token, if it has one, leans back
abbrev pub leans_first : {A : Type 0} → Part A → Bool
leans_first (after t p) = leans_back (Seen t)
leans_first (both p q) = leans_first p && leans_first q
leans_first (maybe p) = leans_first p
leans_first _ = false

-- its tokens stay apart
abbrev pub keeps_apart : {A : Type 0} → Part A → Bool
keeps_apart a_check_word = false
keeps_apart (after t p) = is_plain t && keeps_apart p
keeps_apart (before p t) = keeps_apart p && (is_plain t && (not (may_end p) || leans_back (Seen t)))
keeps_apart (maybe_hz p) = keeps_apart p && not (may_end p)
keeps_apart (both p q) = keeps_apart p && (keeps_apart q && (not (may_end p) || leans_first q))
keeps_apart (maybe p) = keeps_apart p
keeps_apart (either p q) = keeps_apart p && keeps_apart q
keeps_apart (listed t p) = keeps_apart p && (is_plain t && (not (may_end p) || leans_back (Seen t)))
keeps_apart _ = true

if_so : (a b : Bool) → (not a || b) ≡ true → a ≡ true → b ≡ true
if_so true b e f = e
if_so false b e f = absurd cc

signed_apart : (z : ℤ) → IsApart (signed_tokens z) false false
unfolding is_ordinary is_literal is_unary leans_back begins_operand
signed_apart (pos n) = one (Seen (Plain (signs.Number (pos n)))) refl refl refl
signed_apart (negsuc n) = unary_apart Negate _ false false (record { head = _; rest = []; parts = refl; operand = refl }) (one (Seen (Plain (signs.Number _))) refl refl refl)

bit_apart : (b : Bool) → IsApart (bit_tokens b) false false
unfolding is_ordinary is_literal is_unary leans_back
bit_apart true = one (Seen (Plain (signs.Number (pos 1)))) refl refl refl
bit_apart false = one (Seen (Plain (signs.Number (pos 0)))) refl refl refl

choice_apart : (c : ItemChoice) → IsApart (choice_tokens c) false false
unfolding is_ordinary is_literal is_unary leans_back choice_tokens
choice_apart choices.Optional = one (Seen (join joins.Optional)) refl refl refl
choice_apart choices.Recommended = one (Seen (join joins.Recommended)) refl refl refl

print_part_apart : (x : PartTree) → IsApart (print_part_tokens x) false false
unfolding is_ordinary is_literal is_unary leans_back
print_part_apart (string bytes) = one (Seen (Text bytes)) refl refl refl
print_part_apart (value e) = expr_apart 10 e
print_part_apart (character e) = token_then (Seen (function functions.Character)) _ false false refl refl refl (in_round (expr_tokens 10 e) false false (expr_apart 10 e))

export_apart : (x : ExportTree) → IsApart (export_tokens x) true false
export_apart (exported_value e) = weaken _ false false true false (λ e. absurd cc) (λ e. absurd cc) (expr_apart 10 e)
export_apart (exported_array a) = array_apart a

separated_apart : {A : Type 0} (write : A → List Printed) (t : Symbol) (k l : Bool) → is_ordinary (Seen t) ≡ true → is_literal (Seen t) ≡ false → is_unary (Seen t) ≡ false →
    (k ≡ true → leans_back (Seen t) ≡ true) → ((x : A) → IsApart (write x) k l) → (xs : List A) → IsApart (separated_tokens write (Seen t) xs) k false
separated_apart write t k l o li u lean each [] = weaken [] false true k false (λ e. absurd cc) (λ e. absurd cc) nothing
separated_apart write t k l o li u lean each (x ∷ []) = weaken (write x) k l k false (λ e. e) (λ e. absurd cc) (each x)
separated_apart write t k l o li u lean each (x ∷ y ∷ ys) =
    let more = separated_apart write t k l o li u lean each (y ∷ ys) in
    let beyond = apart_on (Seen t ∷ []) (separated_tokens write (Seen t) (y ∷ ys)) false (leans_back (Seen t)) k false (one (Seen t) o li u) more (λ e. absurd cc) in
    let kept : IsApart (Seen t ∷ separated_tokens write (Seen t) (y ∷ ys)) k (leans_back (Seen t)) =
    record { stays = beyond.stays; ordinary = beyond.ordinary; no_mark = beyond.no_mark; last = beyond.last; first = λ e. e } in
    weaken _ (k || k) (l && leans_back (Seen t)) k false (λ e. twice k e) (λ e. absurd cc)
    (apart_on (write x) (Seen t ∷ separated_tokens write (Seen t) (y ∷ ys)) k l k (leans_back (Seen t)) (each x) kept lean)
  where
    twice : (k : Bool) → (k || k) ≡ true → k ≡ true
    twice true e = refl
    twice false e = e

states_apart : (ks : List ℕ) → IsApart (states_tokens ks) false false
unfolding is_ordinary is_literal is_unary leans_back
states_apart ks = separated_apart (λ k. Seen (Plain (signs.State k)) ∷ []) comma false false refl refl refl (λ e. absurd cc) (λ k. one (Seen (Plain (signs.State k))) refl refl refl) ks

plain_parts : (t : Symbol) → is_plain t ≡ true → (is_ordinary (Seen t) ≡ true) × (is_literal (Seen t) ≡ false)
plain_parts t e = let c = and_parts (is_ordinary (Seen t)) (not (is_literal (Seen t))) e in (c.0, not_true (is_literal (Seen t)) c.1)

none_unary : (t : Symbol) → is_unary (Seen t) ≡ false
unfolding is_unary
none_unary t = refl

last_token : (ts : List Printed) (t : Printed) → ends_with is_literal (ts ++ t ∷ []) ≡ true → is_literal t ≡ true
last_token [] t e = e
last_token (u ∷ []) t e = e
last_token (u ∷ v ∷ ts) t e = last_token (v ∷ ts) t e

pub part_apart : {A : Type 0} (p : Part A) (x : A) → keeps_apart p ≡ true → IsApart (part_tokens p x) (may_end p) (leans_first p)
unfolding is_ordinary is_literal is_unary leans_back
part_apart a_name x e = one _ refl refl refl
part_apart a_state x e = one _ refl refl refl
part_apart a_number x e = one _ refl refl refl
part_apart a_signed x e = signed_apart x
part_apart a_bit x e = bit_apart x
part_apart a_text x e = one _ refl refl refl
part_apart a_literal x e = one_literal x
part_apart a_check_word x e = absurd cc
part_apart a_choice x e = choice_apart x
part_apart an_expr x e = expr_apart 10 x
part_apart an_array x e = array_apart x
part_apart a_cell x e = expr_apart 10 x
part_apart a_target x e = array_apart x
part_apart a_print_part x e = print_part_apart x
part_apart an_export x e = export_apart x
part_apart some_states x e = states_apart x
part_apart (after t p) x e =
    let c = and_parts (is_plain t) (keeps_apart p) e in
    let own = plain_parts t c.0 in
    let all = token_then (Seen t) (part_tokens p x) (may_end p) (leans_first p) own.0 own.1 (none_unary t) (part_apart p x c.1) in
    record { stays = all.stays; ordinary = all.ordinary; no_mark = all.no_mark; last = all.last; first = λ e. e }
part_apart (before p t) x e =
    let c = and_parts (keeps_apart p) (is_plain t && (not (may_end p) || leans_back (Seen t))) e in
    let d = and_parts (is_plain t) (not (may_end p) || leans_back (Seen t)) c.1 in
    let own = plain_parts t d.0 in
    let all = apart_on (part_tokens p x) (Seen t ∷ []) (may_end p) (leans_first p) false (leans_back (Seen t)) (part_apart p x c.0) (one (Seen t) own.0 own.1 (none_unary t))
    (if_so (may_end p) (leans_back (Seen t)) d.1) in
    record { stays = all.stays; ordinary = all.ordinary; no_mark = all.no_mark; last = λ f. clash (is_literal (Seen t)) (last_token (part_tokens p x) (Seen t) f) own.1; first = λ f. absurd cc }
part_apart (maybe_hz p) x e =
    let c = and_parts (keeps_apart p) (not (may_end p)) e in
    let all = apart_on (part_tokens p x) (Seen hz ∷ []) (may_end p) (leans_first p) false false (part_apart p x c.0) (one (Seen hz) refl refl refl)
    (λ f. clash (may_end p) f (not_true (may_end p) c.1)) in
    record { stays = all.stays; ordinary = all.ordinary; no_mark = all.no_mark; last = λ f. absurd (let g = last_token (part_tokens p x) (Seen hz) f in cc); first = λ f. absurd cc }
part_apart (both p q) x e =
    let c = and_parts (keeps_apart p) (keeps_apart q && (not (may_end p) || leans_first q)) e in
    let d = and_parts (keeps_apart q) (not (may_end p) || leans_first q) c.1 in
    apart_on (part_tokens p x.0) (part_tokens q x.1) (may_end p) (leans_first p) (may_end q) (leans_first q) (part_apart p x.0 c.0) (part_apart q x.1 d.0) (if_so (may_end p) (leans_first q) d.1)
part_apart (maybe p) None e = weaken [] false true (may_end p) (leans_first p) (λ f. absurd cc) (λ f. refl) nothing
part_apart (maybe p) (Some x) e = part_apart p x e
part_apart (either p q) (inl x) e =
    weaken (part_tokens p x) (may_end p) (leans_first p) (may_end p || may_end q) false (λ f. or_left (may_end p) (may_end q) f) (λ f. absurd cc)
    (part_apart p x (and_parts (keeps_apart p) (keeps_apart q) e).0)
part_apart (either p q) (inr y) e =
    weaken (part_tokens q y) (may_end q) (leans_first q) (may_end p || may_end q) false (λ f. or_right (may_end p) (may_end q) f) (λ f. absurd cc)
    (part_apart q y (and_parts (keeps_apart p) (keeps_apart q) e).1)
part_apart (listed t p) xs e =
    let c = and_parts (keeps_apart p) (is_plain t && (not (may_end p) || leans_back (Seen t))) e in
    let d = and_parts (is_plain t) (not (may_end p) || leans_back (Seen t)) c.1 in
    let own = plain_parts t d.0 in
    separated_apart (part_tokens p) t (may_end p) (leans_first p) own.0 own.1 (none_unary t) (if_so (may_end p) (leans_back (Seen t)) d.1) (λ x. part_apart p x c.0) xs

-- ---- statements

whole_part : {A : Type 0} (p : Part A) (x : A) → keeps_apart p ≡ true → IsApart (part_tokens p x) true false
whole_part p x e = weaken (part_tokens p x) (may_end p) (leans_first p) true false (λ f. refl) (λ f. absurd cc) (part_apart p x e)

no_crc : (b : BodyTree) → is_outer b ≡ false → is_crc b ≡ false
no_crc (crc n) e = absurd cc
no_crc _ e = refl

pub body_apart : (s : List Symbol) (b : BodyTree) → IsBody s b → is_crc b ≡ false → IsApart (body_tokens b) true false
unfolding is_ordinary is_literal is_unary leans_back
body_apart s (note key text) is free = whole_part (after (outer outer_words.Note) note_part) (key, text) refl
body_apart s (action v text items) is free = whole_part (after (outer outer_words.Action) action_part) (v, (text, items)) refl
body_apart s (procedure v uses) is free = whole_part (after (outer outer_words.Procedure) procedure_part) (v, uses) refl
body_apart s (data_block v) is free = whole_part (after (outer outer_words.Data) a_name) v refl
body_apart s end_data is free = weaken _ false false true false (λ f. refl) (λ f. absurd cc) (one _ refl refl refl)
body_apart s (crc n) is free = absurd cc
body_apart s end_procedure is free = weaken _ false false true false (λ f. refl) (λ f. absurd cc) (one _ refl refl refl)
body_apart s (boolean v start) is free = whole_part (after (inner inner_words.Boolean) (both a_name bit_part)) (v, start) refl
body_apart s (boolean_array v n bits) is free = whole_part (after (inner inner_words.Boolean) (both a_name (both size_part bits_part))) (v, (n, bits)) refl
body_apart s (integer v start) is free = whole_part (after (inner inner_words.Integer) (both a_name signed_part)) (v, start) refl
body_apart s (integer_array v n start) is free = whole_part (after (inner inner_words.Integer) (both a_name (both size_part signed_list_part))) (v, (n, start)) refl
body_apart s (assign v e) is free = whole_part (both a_name (after equals an_expr)) (v, e) refl
body_apart s (assign_element v i e) is free = whole_part (both a_name (after left_square (both an_expr (after right_square (after equals an_expr))))) (v, (i, e)) refl
body_apart s (assign_array v a) is free = whole_part (both a_name (after left_square (after right_square (after equals an_array)))) (v, a) refl
body_apart s (assign_range v h l a) is free = whole_part (both a_name (after left_square (both an_expr (after dots (both an_expr (after right_square (after equals an_array))))))) (v, (h, (l, a))) refl
body_apart s (call v) is free = whole_part (after (simple simple_words.Call) a_name) v refl
body_apart s (goto v) is free = whole_part (after (simple simple_words.Goto) a_name) v refl
body_apart s (for_loop v a b c) is free = whole_part (after (simple simple_words.For) for_part) (v, (a, (b, c))) refl
body_apart s (next v) is free = whole_part (after (simple simple_words.Next) a_name) v refl
body_apart s (push e) is free = whole_part (after (simple simple_words.Push) an_expr) e refl
body_apart s (pop e) is free = whole_part (after (simple simple_words.Pop) a_cell) e refl
body_apart s (print parts) is free = whole_part (after (simple simple_words.Print) print_part) parts refl
body_apart s (export key x) is free = whole_part (after (simple simple_words.Export) export_part) (key, x) refl
body_apart s (exit e) is free = whole_part (after (simple simple_words.Exit) an_expr) e refl
body_apart s (scan k e a t c) is free = whole_part (after (port (port_words.Scan k)) scan_part) (e, (a, (t, c))) refl
body_apart s (stop k state) is free = whole_part (after (port (port_words.Stop k)) a_state) state refl
body_apart s (pad k e a) is free = whole_part (after (port (port_words.Pad k)) pad_part) (e, a) refl
body_apart s (state_list states) is free = whole_part (after (port port_words.State) some_states) states refl
body_apart s (wait_cycles k e u l) is free = whole_part (after (port port_words.Wait) (both first_part (both an_expr (after (join joins.Cycles) (both usec_part last_part))))) (k, (e, (u, l))) refl
body_apart s (wait_usec k e l) is free = whole_part (after (port port_words.Wait) (both first_part (both an_expr (after (join joins.Usec) last_part)))) (k, (e, l)) refl
body_apart s (frequency e) is free = whole_part (after (port port_words.Frequency) frequency_part) e refl
body_apart s (if_then e b) is f =
    token_then (Seen if_word) (expr_tokens 10 e ++ Seen (join joins.Then) ∷ body_tokens b) true false refl refl refl
    (apart_on (expr_tokens 10 e) (Seen (join joins.Then) ∷ body_tokens b) false false true false (expr_apart 10 e)
    (token_then (Seen (join joins.Then)) (body_tokens b) true false refl refl refl (body_apart is.1 b is.6 (no_crc b is.4))) (λ e. absurd cc))

labelled_apart : (s : List Symbol) (label : Option (List ℕ)) (b : BodyTree) → IsLabelled s label b → is_crc b ≡ false → IsApart (label_tokens label ++ body_tokens b) true false
unfolding is_ordinary is_literal is_unary leans_back
labelled_apart s None b is e = body_apart s b is e
labelled_apart s (Some v) b is e = token_then (Seen (name v)) (Seen (mark marks.Colon) ∷ body_tokens b) true false refl refl refl
    (token_then (Seen (mark marks.Colon)) (body_tokens b) true false refl refl refl (body_apart is.0 b is.3 e))

pub stmt_apart : (s : List Symbol) (st : StmtTree) → Means s st → is_crc st.body ≡ false → IsApart (stmt_tokens st) true false
stmt_apart s st is e = labelled_apart s st.label st.body is e
