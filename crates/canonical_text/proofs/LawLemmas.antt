-- The laws of printed tokens and pieces.
use Rattle.std.proofs.Common.{◌≡◌, ℕ, ◌≤◌, true, List, [], ◌∷◌, ◌++◌, map, slice_range, length, None, inl, inr, ◌⊎◌, refl, sym, subst}
use Rattle.std.specs.List.{list_all}
use Rattle.stapl_lexer.specs.declared.piece.Piece.{Piece}
use Rattle.stapl_lexer.specs.declared.reason.Reason.{Reason}
use Rattle.stapl_lexer.specs.declared.token.Token.{Token}
use Rattle.stapl_lexer.specs.Depth.{IsTooDeep}
use Rattle.stapl_lexer.specs.PieceFaults.{HasTokenReason, AreGoodTokens}
use Rattle.stapl_syntax.specs.Symbols.{symbols_of}
use Rattle.stapl_syntax.specs.Trees.{StmtTree}
use Rattle.stapl_syntax.specs.Statements.{IsPieceStatement}
use Rattle.canonical_text.specs.PrintedStatements.{stmt_tokens}
use Rattle.canonical_text.specs.PrintedTokens.{Printed, seen}
use Rattle.canonical_text.specs.Spacing.{spaced, stay_apart, is_ordinary}
use Rattle.canonical_text.specs.Printable.{CanBePrinted}
use Rattle.canonical_text.specs.Spellable.{is_spellable}
use Rattle.canonical_text.proofs.ListReads.{nothing_blank, line_feed_blank, list_reads}
use Rattle.canonical_text.proofs.Pieces.{printed_piece}
use Rattle.canonical_text.proofs.PieceStatements.{IsLead, piece_statement}
use Rattle.canonical_text.proofs.PrintedSegments.{plain_segments, spaced_segments, calm_on, plain_are_calm, spaced_are_calm}

leads : (lead : List ℕ) → (lead ≡ []) ⊎ (lead ≡ 10 ∷ []) → IsLead lead
leads lead (inl e) = subst IsLead (sym e) (record { blank = nothing_blank; calm = plain_are_calm [] refl })
leads lead (inr e) = subst IsLead (sym e) (record { blank = line_feed_blank; calm = plain_are_calm (10 ∷ []) refl })

pub tokens_back : (text lead : List ℕ) (piece : Piece) (ts : List Printed) → piece.start ≤ piece.end → piece.end ≤ length text → piece.closed ≡ true →
    (lead ≡ []) ⊎ (lead ≡ 10 ∷ []) → slice_range text piece.start piece.end ≡ lead ++ spaced ts →
    list_all (λ t. is_spellable (seen t)) ts ≡ true → list_all is_ordinary ts ≡ true → stay_apart ts ≡ true →
    (tokens : List Token) × AreGoodTokens text piece tokens × (symbols_of text tokens ≡ map seen ts) × ((reason : Reason) → HasTokenReason text piece reason → IsTooDeep tokens)
tokens_back text lead piece ts ordered within closed kind bytes spell other apart =
    let start = leads lead kind in
    let own = printed_piece text piece (lead ++ spaced ts) (plain_segments lead ++ spaced_segments ts) (map seen ts) ordered within closed bytes
    (calm_on (plain_segments lead) (spaced_segments ts) lead (spaced ts) start.calm (spaced_are_calm ts spell)) (list_reads None lead ts refl start.blank spell other apart) in
    (own.tokens, own.good, own.sees, (λ reason h. own.only_depth h))

pub pieces_back : (text lead : List ℕ) (piece : Piece) (st : StmtTree) → piece.start ≤ piece.end → piece.end ≤ length text → piece.closed ≡ true →
    (lead ≡ []) ⊎ (lead ≡ 10 ∷ []) → slice_range text piece.start piece.end ≡ lead ++ spaced (stmt_tokens st) →
    CanBePrinted st → IsPieceStatement text piece st
pieces_back text lead piece st ordered within closed kind bytes can = piece_statement text piece lead st ordered within closed (leads lead kind) bytes can
