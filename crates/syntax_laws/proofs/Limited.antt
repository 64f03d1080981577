-- The limits of a piece are limits of its statement.
use Rattle.std.proofs.Common.{◌≡◌, ℕ, ℤ, pos, negsuc, ◌+◌, ◌<◌, ◌≤◌, ◌∙◌, false, List, Option, Some, None, inl, inr, refl, sym, ap, subst, arith}
use Rattle.std.proofs.lemmas.Bool.{cases_lt}
use Rattle.stapl_lexer.specs.declared.piece.Piece.{Piece}
use Rattle.stapl_lexer.specs.declared.token.Token.{Token}
use Rattle.stapl_lexer.specs.Depth.{is_opening, is_closing, is_condition, is_operator, count_of}
use Rattle.stapl_lexer.specs.PieceFaults.{AreGoodTokens}
use Rattle.stapl_lexer.specs.declared.terminal.Mark.TheVariants as marks
use Rattle.stapl_syntax.specs.Symbols.{Symbol, symbols_of}
use Rattle.stapl_syntax.specs.Expressions.{name, mark}
use Rattle.stapl_syntax.specs.Trees.{BodyTree, integer, integer_array, if_then, StmtTree}
use Rattle.stapl_syntax.specs.Parts.{IsSigned, unsigned, minus}
use Rattle.stapl_syntax.specs.Statements.{IsBody, IsLabelled, Means, IsPieceStatement, is_unconditional}
use Rattle.canonical_text.specs.PrintedTokens.{unary_symbol}
use Rattle.canonical_text.specs.PrintedStatements.{signed_tokens}
use Rattle.canonical_text.specs.Printable.{sign_terminal, symbol_terminal, conditions, operators, weight, is_integer_body, CanBePrinted}
use Rattle.canonical_text.proofs.Grammar.{symbols}
use Rattle.canonical_text.proofs.Heights.{Reaches, reaches_past, many_by_depth}
use Rattle.canonical_text.proofs.Kept.{LeavesOpen, NeedsSigned, body_kept}
use Rattle.canonical_text.proofs.BodyNesting.{body_peak, body_goes}
use Rattle.canonical_text.proofs.PartNesting.{GoesTo}
use Rattle.canonical_text.proofs.PieceStatements.{of_other}
use Rattle.canonical_text.proofs.DepthRule.{tokens_seen, count_seen}
use Rattle.syntax_laws.specs.Sizes.{operators_in, conditions_in, nesting_in}
use Rattle.syntax_laws.proofs.Counted.{IsPlain, body_operators, body_conditions}
use Rattle.syntax_laws.proofs.Nested.{body_within}

conditions_out : LeavesOpen conditions (λ (m n : ℕ). m ≡ n)
unfolding symbol_terminal sign_terminal is_condition
conditions_out = record { wider = λ a b e. omega (arith, e); between = refl; unit = refl }

operators_out : LeavesOpen operators (λ (m n : ℕ). m ≡ n)
unfolding symbol_terminal sign_terminal is_operator
operators_out = record { wider = λ a b e. omega (arith, e); between = refl; unit = refl }

equal_sums : (a b c d : ℕ) → a ≡ b → c ≡ d → a + c ≡ b + d
equal_sums a b c d e f = omega arith

signed_conditions : (s : List Symbol) (z : ℤ) → IsSigned s z → weight conditions (symbols (signed_tokens z)) ≡ weight conditions s
unfolding is_condition symbol_terminal sign_terminal unary_symbol
signed_conditions s z is = printed z ∙ sym (written is)
  where
    printed : (z : ℤ) → weight conditions (symbols (signed_tokens z)) ≡ 0
    printed (pos n) = refl
    printed (negsuc n) = refl

    written : {s : List Symbol} {z : ℤ} → IsSigned s z → weight conditions s ≡ 0
    written unsigned = refl
    written minus = refl

needs_conditions : (b : BodyTree) → NeedsSigned conditions (λ (m n : ℕ). m ≡ n) conditions_out (λ n. refl) equal_sums b
needs_conditions (integer v z) = signed_conditions
needs_conditions (integer_array v n zs) = signed_conditions
needs_conditions (if_then e b) = needs_conditions b
needs_conditions _ = tt

pub inner_plain : (b : BodyTree) → is_unconditional b ≡ false → is_integer_body b ≡ false
inner_plain (integer v z) e = absurd cc
inner_plain (integer_array v n zs) e = absurd cc
inner_plain _ e = refl

needs_none : (s : List Symbol) (b : BodyTree) → IsBody s b → is_integer_body b ≡ false → NeedsSigned operators (λ (m n : ℕ). m ≡ n) operators_out (λ n. refl) equal_sums b
needs_none s (integer v z) is e = absurd cc
needs_none s (integer_array v n zs) is e = absurd cc
needs_none s (if_then e b) is plain = needs_none is.1 b is.6 (inner_plain b is.5)
needs_none s _ is e = tt

plain_of : (s : List Symbol) (b : BodyTree) → IsBody s b → is_integer_body b ≡ false → IsPlain b
plain_of s (integer v z) is e = absurd cc
plain_of s (integer_array v n zs) is e = absurd cc
plain_of s (if_then e b) is plain = plain_of is.1 b is.6 (inner_plain b is.5)
plain_of s _ is e = tt

-- ---- what symbols weigh that mean a statement

-- what stands after the label weighs as much
record AfterLabel (s : List Symbol) (b : BodyTree) : Type 0 where
  rest : List Symbol
  is : IsBody rest b
  operators_same : weight operators s ≡ weight operators rest
  conditions_same : weight conditions s ≡ weight conditions rest
  reaches : (d : ℕ) → Reaches d rest → Reaches d s

after_label : (s : List Symbol) (label : Option (List ℕ)) (b : BodyTree) → IsLabelled s label b → AfterLabel s b
unfolding symbol_terminal sign_terminal is_operator is_condition is_opening is_closing
after_label s None b is = record { rest = s; is = is; operators_same = refl; conditions_same = refl; reaches = λ d r. r }
after_label s (Some v) b is = record {
  rest = is.0;
  is = is.3;
  operators_same = let e = ap (weight operators) is.1 in omega (arith, e);
  conditions_same = let e = ap (weight conditions) is.1 in omega (arith, e);
  reaches = λ d r. subst (Reaches d) (sym is.1) (reaches_past d (name v) _ refl refl (reaches_past d (mark marks.Colon) is.0 refl refl r));
}

written_operators : (s : List Symbol) (b : BodyTree) → IsBody s b → is_integer_body b ≡ false → weight operators s ≡ operators_in b
written_operators s b is plain =
    sym (body_kept operators (λ (m n : ℕ). m ≡ n) operators_out (λ n. refl) equal_sums s b (needs_none s b is plain) is) ∙ body_operators b (plain_of s b is plain)

written_conditions : (s : List Symbol) (b : BodyTree) → IsBody s b → weight conditions s ≡ conditions_in b
written_conditions s b is =
    sym (body_kept conditions (λ (m n : ℕ). m ≡ n) conditions_out (λ n. refl) equal_sums s b (needs_conditions b) is) ∙ body_conditions b

pub operators_counted : (text : List ℕ) (piece : Piece) (tokens : List Token) (st : StmtTree) → AreGoodTokens text piece tokens →
    Means (symbols_of text tokens) st → is_integer_body st.body ≡ false → count_of is_operator tokens ≡ operators_in st.body
operators_counted text piece tokens st good means plain =
    let own = after_label (symbols_of text tokens) st.label st.body means in
    count_seen is_operator text tokens (tokens_seen text piece tokens good) ∙ own.operators_same ∙ written_operators own.rest st.body own.is plain

pub conditions_counted : (text : List ℕ) (piece : Piece) (tokens : List Token) (st : StmtTree) → AreGoodTokens text piece tokens →
    Means (symbols_of text tokens) st → count_of is_condition tokens ≡ conditions_in st.body
conditions_counted text piece tokens st good means =
    let own = after_label (symbols_of text tokens) st.label st.body means in
    count_seen is_condition text tokens (tokens_seen text piece tokens good) ∙ own.conditions_same ∙ written_conditions own.rest st.body own.is

-- ---- the limits

not_less : (m n : ℕ) → (n < m → ⊥) → m ≤ n
not_less m n h = elim (cases_lt n m) [
  | inl lt ↦ absurd (h lt)
  | inr le ↦ omega arith
]

reached : (d : ℕ) (s : List Symbol) → GoesTo 0 d 0 s → Reaches d s
reached d s g = record { front = g.front; rest = g.rest; parts = g.parts; height = let top = g.top in omega (arith, top) }

module _ (st : StmtTree) (can : CanBePrinted st) where
  own : AfterLabel can.writing st.body
  own = after_label can.writing st.label st.body can.means

  few_operators : is_integer_body st.body ≡ false → operators_in st.body ≤ 256
  few_operators plain =
      let few = can.operators_few plain in let after = own.operators_same in let e = written_operators own.rest st.body own.is plain in omega (arith, few, after, e)

  few_conditions : conditions_in st.body ≤ 32
  few_conditions = let few = can.conditions_few in let after = own.conditions_same in let e = written_conditions own.rest st.body own.is in omega (arith, few, after, e)

  few_nested : nesting_in st.body ≤ 32
  few_nested = not_less (nesting_in st.body) 32
      (λ lt. can.shallow (many_by_depth (body_peak st.body) can.writing (let within = body_within st.body in omega (arith, within, lt))
      (own.reaches (body_peak st.body) (reached (body_peak st.body) own.rest (body_goes own.rest st.body own.is)))))

limited : (b : BodyTree) → (is_integer_body b ≡ false → operators_in b ≤ 256) → operators_in b ≤ 256
limited (integer v z) few = omega arith
limited (integer_array v n zs) few = omega arith
limited b few = few refl

pub operators_limited : (text : List ℕ) (piece : Piece) (st : StmtTree) → IsPieceStatement text piece st → operators_in st.body ≤ 256
operators_limited text piece st is = limited st.body (few_operators st (of_other text piece st is))

pub conditions_limited : (text : List ℕ) (piece : Piece) (st : StmtTree) → IsPieceStatement text piece st → conditions_in st.body ≤ 32
conditions_limited text piece st is = few_conditions st (of_other text piece st is)

pub nesting_limited : (text : List ℕ) (piece : Piece) (st : StmtTree) → IsPieceStatement text piece st → nesting_in st.body ≤ 32
nesting_limited text piece st is = few_nested st (of_other text piece st is)
