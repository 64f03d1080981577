-- The laws of the grammar.
use Rattle.std.proofs.Common.{◌≡◌, ℕ, List, Option, true, ap, subst}
use Rattle.stapl_lexer.specs.declared.piece.Piece.{Piece}
use Rattle.stapl_lexer.specs.declared.reason.Reason.{Reason}
use Rattle.stapl_lexer.specs.declared.token.Token.{Token}
use Rattle.stapl_lexer.proofs.ReasonLemmas.{one_list}
use Rattle.stapl_syntax.specs.Symbols.{Symbol, symbols_of}
use Rattle.stapl_syntax.specs.Trees.{BodyTree, StmtTree}
use Rattle.stapl_syntax.specs.Statements.{Means, IsPieceStatement}
use Rattle.stapl_syntax.specs.Reasons.{HasReason, in_tokens, unknown, left_out, not_in_grammar, after_label, is_unknown, holds_left_out}
use Rattle.stapl_grammar.proofs.BodyClean.{labelled_clean}
use Rattle.stapl_grammar.proofs.BodyComplete as complete

pub one_meaning : (s : List Symbol) (a b : StmtTree) → Means s a → Means s b → a ≡ b
one_meaning s a b m k =
    let same = complete.one_statement s a.label b.label a.body b.body m k in
    ap (λ (x : Option (List ℕ) × BodyTree). record { label = x.0; body = x.1 }) same

pub one_piece_statement : (text : List ℕ) (piece : Piece) (a b : StmtTree) → IsPieceStatement text piece a → IsPieceStatement text piece b → a ≡ b
one_piece_statement text piece a b x y =
    let same = one_list text piece x.tokens y.tokens x.are.good y.are.good in
    one_meaning (symbols_of text y.tokens) a b (subst (λ (t : List Token). Means (symbols_of text t) a) same x.means) y.means

-- a statement has no reason why it is none
pub no_reason : {text : List ℕ} {piece : Piece} {reason : Reason} (st : StmtTree) → IsPieceStatement text piece st → HasReason text piece reason → ⊥
no_reason st is (in_tokens has) = is.are.faultless _ has
no_reason {text = text} {piece = piece} st is (unknown tokens are e) =
    let clean = labelled_clean (symbols_of text is.tokens) st.label st.body is.means in
    let same = one_list text piece tokens is.tokens are is.are.good in
    let e' = subst (λ (t : List Token). is_unknown (after_label (symbols_of text t)) ≡ true) same e in
    let f = clean.0 in cc
no_reason {text = text} {piece = piece} st is (left_out tokens are e) =
    let clean = labelled_clean (symbols_of text is.tokens) st.label st.body is.means in
    let same = one_list text piece tokens is.tokens are is.are.good in
    let e' = subst (λ (t : List Token). holds_left_out (symbols_of text t) ≡ true) same e in
    let f = clean.1 in cc
no_reason {text = text} {piece = piece} st is (not_in_grammar tokens are none) =
    none st (subst (λ (t : List Token). Means (symbols_of text t) st) (one_list text piece is.tokens tokens is.are.good are) is.means)
