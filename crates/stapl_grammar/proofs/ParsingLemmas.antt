-- What is read of the tokens of a piece is the statement of the piece.
use Rattle.std.proofs.Common.{◌≡◌, ◌≤◌, ℕ, List, [], ◌∷◌, Bool, true, false, if◌then◌else◌, Option, Some, None, Result, Ok, Err, refl, sym, ap, subst, arith, ◌⊎◌, inl, inr}
use Rattle.std.specs.Prelude.{IfOk}
use Rattle.std.specs.List.{list_all}
use Rattle.stapl_lexer.specs.declared.piece.Piece.{Piece}
use Rattle.stapl_lexer.specs.declared.reason.Reason.{Reason}
use Rattle.stapl_lexer.specs.declared.reason.Reason.TheVariants as reasons
use Rattle.stapl_lexer.specs.declared.token.Token.{Token}
use Rattle.stapl_lexer.specs.PieceFaults.{HasTokenReason, NoSemicolon, ForeignByte, UnclosedString, AtSign, LongWord, LargeNumber, Deep, BadToken, IsSmallestTokenReason, AreGoodTokens, AreTokens}
use Rattle.stapl_lexer.specs.PieceTokens.{Lexeme}
use Rattle.stapl_lexer.specs.Reasons.{reason_number}
use Rattle.stapl_lexer.proofs.PieceTokenLemmas.{same_lexemes}
use Rattle.stapl_lexer.proofs.ReasonLemmas.{one_list}
use Rattle.stapl_syntax.specs.declared.statement.Stmt.{Stmt}
use Rattle.stapl_syntax.specs.Symbols.{Symbol, symbols_of}
use Rattle.stapl_syntax.specs.Trees.{BodyTree, StmtTree, stmt_tree}
use Rattle.stapl_syntax.specs.Statements.{IsLabelled, Means, IsPieceStatement}
use Rattle.stapl_syntax.specs.Reasons.{after_label, is_unknown, holds_left_out, HasReason, in_tokens, unknown, left_out, not_in_grammar, SmallestReason}
use Rattle.stapl_grammar.specs.declared.parsing.ParseRefused.{ParseRefused}
use Rattle.stapl_grammar.specs.declared.parsing.ParseRefused.TheVariants.{Because}
use Rattle.stapl_grammar.specs.Seen.{seen, seen_as}
use Rattle.stapl_grammar.specs.BodyReading.{statement_of}
use Rattle.stapl_grammar.specs.Answers.{reason_of, IsRefused, AnswersFor}
use Rattle.stapl_grammar.proofs.BodyComplete.{statement_sound, statement_complete}

pub read_none : (s : List Symbol) (reason : Reason) → statement_of s ≡ None → reason ≡ reason_of s → IsRefused s reason
read_none s reason e r = record { reason_is = r; none = λ label body m. let read = statement_complete s label body m in cc }

pub read_some : (s : List Symbol) (label : Option (List ℕ)) (body : BodyTree) → statement_of s ≡ Some (label, body) → IsLabelled s label body
read_some s label body e = statement_sound s label body e

seen_is : (text : List ℕ) (tokens : List Token) → seen text tokens ≡ symbols_of text tokens
unfolding seen seen_as
seen_is text [] = refl
seen_is text (t ∷ tokens) = ap (λ (s : List Symbol). seen_as text t ∷ s) (seen_is text tokens)

pub parsed_ok : (text : List ℕ) (piece : Piece) (tokens : List Token) (result : Result Stmt ParseRefused) → AreTokens text piece tokens →
    AnswersFor (seen text tokens) result → IfOk result (λ st. IsPieceStatement text piece (stmt_tree st))
parsed_ok text piece tokens (Ok st) are answer = record {
  tokens = tokens;
  are = are;
  means = subst (λ (s : List Symbol). IsLabelled s (stmt_tree st).label (stmt_tree st).body) (seen_is text tokens) answer;
}
parsed_ok text piece tokens (Err e) are answer = tt

-- the numbers of what the parser answers, by what it found
reason_below : (s : List Symbol) → reason_number (reason_of s) ≤ 11
unfolding reason_of
reason_below s = by (is_unknown (after_label s)) (holds_left_out s)
  where
    by : (a b : Bool) → reason_number (if a then reasons.UnknownStatement else if b then reasons.Unsupported else reasons.Syntax) ≤ 11
    by true b = omega arith
    by false true = omega arith
    by false false = omega arith

reason_unknown : (s : List Symbol) → is_unknown (after_label s) ≡ true → reason_number (reason_of s) ≤ 9
unfolding reason_of
reason_unknown s e = rw e (omega arith)

reason_left_out : (s : List Symbol) → holds_left_out s ≡ true → reason_number (reason_of s) ≤ 10
unfolding reason_of
reason_left_out s e = rw e (by (is_unknown (after_label s)))
  where
    by : (a : Bool) → reason_number (if a then reasons.UnknownStatement else reasons.Unsupported) ≤ 10
    by true = omega arith
    by false = omega arith

-- a piece with a bad token has no list of good ones
syntax_back : {text : List ℕ} {piece : Piece} {reason : Reason} (tokens : List Token) → AreGoodTokens text piece tokens → reason ≡ reasons.Syntax → HasTokenReason text piece reason → ⊥
syntax_back tokens good e (NoSemicolon is) = cc
syntax_back tokens good e (ForeignByte segments has is) = cc
syntax_back tokens good e (UnclosedString segments has is) = cc
syntax_back tokens good e (AtSign segments has is) = cc
syntax_back tokens good e (LongWord lexemes has is) = cc
syntax_back tokens good e (LargeNumber lexemes has is) = cc
syntax_back tokens good e (Deep lexemes has is) = cc
syntax_back {text = text} {piece = piece} tokens good e (BadToken lexemes has is) =
    let same = same_lexemes text None piece.start piece.end lexemes good.lexemes good.within has good.has in
    let bad : list_all (λ (l : Lexeme). l.good) good.lexemes ≡ false = subst (λ (ls : List Lexeme). list_all (λ (l : Lexeme). l.good) ls ≡ false) same is in
    let all = good.good in cc

-- the numbers of reasons that lie in the tokens
token_reason_below : {text : List ℕ} {piece : Piece} {reason : Reason} → HasTokenReason text piece reason → reason_number reason ≤ 8 ⊎ (reason ≡ reasons.Syntax)
token_reason_below (NoSemicolon is) = inl (omega arith)
token_reason_below (ForeignByte segments has is) = inl (omega arith)
token_reason_below (UnclosedString segments has is) = inl (omega arith)
token_reason_below (AtSign segments has is) = inl (omega arith)
token_reason_below (LongWord lexemes has is) = inl (omega arith)
token_reason_below (LargeNumber lexemes has is) = inl (omega arith)
token_reason_below (Deep lexemes has is) = inl (omega arith)
token_reason_below (BadToken lexemes has is) = inr refl

-- the piece has these tokens, and they are no statement
module _ (text : List ℕ) (piece : Piece) (list : List Token) (are : AreTokens text piece list) (none : (st : StmtTree) → Means (symbols_of text list) st → ⊥) where
  least_in_grammar : (other : Reason) → HasReason text piece other → reason_number (reason_of (symbols_of text list)) ≤ reason_number other
  least_in_grammar other (in_tokens has) = absurd (are.faultless other has)
  least_in_grammar _ (unknown tokens good e) =
      reason_unknown (symbols_of text list)
      (subst (λ (t : List Token). is_unknown (after_label (symbols_of text t)) ≡ true) (one_list text piece tokens list good are.good) e)
  least_in_grammar _ (left_out tokens good e) =
      reason_left_out (symbols_of text list)
      (subst (λ (t : List Token). holds_left_out (symbols_of text t) ≡ true) (one_list text piece tokens list good are.good) e)
  least_in_grammar _ (not_in_grammar tokens good nothing) = reason_below (symbols_of text list)

  holds_in_grammar : HasReason text piece (reason_of (symbols_of text list))
  unfolding reason_of
  holds_in_grammar = by (is_unknown (after_label (symbols_of text list))) (holds_left_out (symbols_of text list)) refl refl
    where
      by : (a b : Bool) → is_unknown (after_label (symbols_of text list)) ≡ a → holds_left_out (symbols_of text list) ≡ b →
          HasReason text piece (if a then reasons.UnknownStatement else if b then reasons.Unsupported else reasons.Syntax)
      by true b e f = unknown list are.good e
      by false true e f = left_out list are.good f
      by false false e f = not_in_grammar list are.good none

  pub smallest_in_grammar : SmallestReason text piece (reason_of (symbols_of text list))
  smallest_in_grammar = record { holds = holds_in_grammar; least = least_in_grammar }

pub parsed_because : (text : List ℕ) (piece : Piece) (tokens : List Token) (result : Result Stmt ParseRefused) → AreTokens text piece tokens →
    AnswersFor (seen text tokens) result → (reason : Reason) → result ≡ Err (Because reason) → SmallestReason text piece reason
parsed_because text piece tokens result are answer reason e =
    let refused : IsRefused (seen text tokens) reason = subst (AnswersFor (seen text tokens)) e answer in
    let refused_so : IsRefused (symbols_of text tokens) reason = subst (λ (s : List Symbol). IsRefused s reason) (seen_is text tokens) refused in
    subst (SmallestReason text piece) (sym refused_so.reason_is)
    (smallest_in_grammar text piece tokens are (λ st m. refused_so.none st.label st.body m))

-- The reasons that lie in the bytes and the tokens are smaller than those of the grammar, but for a bad token, after
-- which the grammar has none.
module _ (text : List ℕ) (piece : Piece) (own : Reason) (smallest : IsSmallestTokenReason text piece own) where
  not_good : (tokens : List Token) → AreGoodTokens text piece tokens → own ≡ reasons.Syntax → ⊥
  not_good tokens good e = syntax_back tokens good e smallest.holds

  below_nine : (tokens : List Token) → AreGoodTokens text piece tokens → reason_number own ≤ 8
  below_nine tokens good = by (token_reason_below smallest.holds)
    where
      by : reason_number own ≤ 8 ⊎ (own ≡ reasons.Syntax) → reason_number own ≤ 8
      by (inl le) = le
      by (inr e) = absurd (not_good tokens good e)

  least_in_tokens : (other : Reason) → HasReason text piece other → reason_number own ≤ reason_number other
  least_in_tokens other (in_tokens has) = smallest.smallest other has
  least_in_tokens _ (unknown tokens good e) = let le = below_nine tokens good in omega (arith, le)
  least_in_tokens _ (left_out tokens good e) = let le = below_nine tokens good in omega (arith, le)
  least_in_tokens _ (not_in_grammar tokens good nothing) = let le = below_nine tokens good in omega (arith, le)

pub smallest_in_tokens : (text : List ℕ) (piece : Piece) (own : Reason) → IsSmallestTokenReason text piece own → SmallestReason text piece own
smallest_in_tokens text piece own smallest = record { holds = in_tokens smallest.holds; least = least_in_tokens text piece own smallest }

pub refused_by_tokens : (text : List ℕ) (piece : Piece) (x own reason : Reason) →
    ◌≡◌ {A = Result Stmt ParseRefused} (Err (Because x)) (Err (Because reason)) → x ≡ own → IsSmallestTokenReason text piece own → SmallestReason text piece reason
refused_by_tokens text piece x own reason e o smallest =
    let same : own ≡ reason = cc in
    subst (SmallestReason text piece) same (smallest_in_tokens text piece own smallest)
