-- A piece that holds what is printed for a statement is that statement.
use Rattle.std.proofs.Common.{◌≡◌, ℕ, ◌<◌, ◌≤◌, Bool, true, false, ◌&&◌, List, [], ◌∷◌, ◌++◌, map, slice_range, length, Option, Some, None, refl, sym, ap, subst, arith}
use Rattle.std.specs.Prelude.{nat_lt}
use Rattle.std.specs.List.{list_all}
use Rattle.std.proofs.lemmas.Bool.Decides.{nat_tests}
use Rattle.stapl_lexer.specs.declared.piece.Piece.{Piece}
use Rattle.stapl_lexer.specs.declared.terminal.OuterWord.TheVariants as outers
use Rattle.stapl_lexer.specs.Depth.{is_opening, is_closing, is_condition, is_operator}
use Rattle.stapl_syntax.specs.Rules.{is_crc}
use Rattle.stapl_syntax.specs.Symbols.{Symbol, CheckWord, symbols_of}
use Rattle.stapl_syntax.specs.Trees.{BodyTree, crc, StmtTree}
use Rattle.stapl_syntax.specs.Statements.{outer, IsLabelled, Means, IsPieceStatement}
use Rattle.stapl_grammar.proofs.BodyClean.{labelled_clean}
use Rattle.canonical_text.specs.PrintedTokens.{Printed, Seen, seen}
use Rattle.canonical_text.specs.PrintedStatements.{stmt_tokens}
use Rattle.canonical_text.specs.Spacing.{spaced}
use Rattle.canonical_text.specs.Spellable.{is_spellable, is_spellable_sign}
use Rattle.canonical_text.specs.Printable.{sign_terminal, symbol_terminal, OpensMany, CanBePrinted}
use Rattle.canonical_text.proofs.Apart.{stmt_apart}
use Rattle.canonical_text.proofs.CheckReads.{crc_reads}
use Rattle.canonical_text.proofs.DepthRule.{by_piece, not_too_deep}
use Rattle.canonical_text.proofs.Heights.{goes_high}
use Rattle.canonical_text.proofs.ListReads.{IsBlank, list_reads}
use Rattle.canonical_text.proofs.Reading.{Reads}
use Rattle.canonical_text.proofs.Pieces.{printed_piece}
use Rattle.canonical_text.proofs.PrintedSegments.{AreCalm, plain_segments, spaced_segments, calm_on, spaced_are_calm}
use Rattle.canonical_text.proofs.PrintedSpelled.{printed_spelled, holds_initial_values}
use Rattle.canonical_text.proofs.Spelled.{symbols_spellable}
use Rattle.canonical_text.proofs.Statements.{printed_means}

-- what is seen of all tokens
all_seen : (ts : List Printed) → list_all is_spellable (map seen ts) ≡ true → list_all (λ t. is_spellable (seen t)) ts ≡ true
all_seen [] e = refl
all_seen (t ∷ ts) e = by (is_spellable (seen t)) e (λ f. all_seen ts f)
  where
    by : (b : Bool) → (b && list_all is_spellable (map seen ts)) ≡ true → (list_all is_spellable (map seen ts) ≡ true → list_all (λ t. is_spellable (seen t)) ts ≡ true) →
        (b && list_all (λ t. is_spellable (seen t)) ts) ≡ true
    by true e more = more e
    by false e more = absurd cc

check_spelled : (n : ℕ) → n < 65536 → list_all (λ t. is_spellable (seen t)) (Seen (outer outers.Crc) ∷ Seen (CheckWord n) ∷ []) ≡ true
unfolding is_spellable is_spellable_sign
check_spelled n small = ap (λ (b : Bool). b && true) (below n small)
  where
    below : (n : ℕ) → n < 65536 → nat_lt n 65536 ≡ true
    below n lt = grind (arith, nat_tests)

small_check : (n : ℕ) → list_all (λ t. is_spellable (seen t)) (Seen (outer outers.Crc) ∷ Seen (CheckWord n) ∷ []) ≡ true → n < 65536
unfolding is_spellable is_spellable_sign
small_check n e = above n (nat_lt n 65536) refl e
  where
    above : (n : ℕ) (b : Bool) → nat_lt n 65536 ≡ b → (b && true) ≡ true → n < 65536
    above n true f e = grind (arith, nat_tests, f)
    above n false f e = absurd cc

-- the statement of a piece can be printed
pub of_other : (other : List ℕ) (place : Piece) (st : StmtTree) → IsPieceStatement other place st → CanBePrinted st
of_other other place st is =
    by_piece other place st is (symbols_spellable other place is.tokens is.are (labelled_clean (symbols_of other is.tokens) st.label st.body is.means).1)

-- CRC with a number of four digits can be printed
pub of_check : (n : ℕ) → n < 65536 → CanBePrinted (record { label = None; body = crc n })
unfolding symbol_terminal sign_terminal is_opening is_closing is_condition is_operator
of_check n small = record {
  writing = outer outers.Crc ∷ CheckWord n ∷ [];
  means = (CheckWord n ∷ [], refl, refl);
  spelled = check_spelled n small;
  shallow = λ many. high many;
  conditions_few = omega arith;
  operators_few = λ i. omega arith;
}
  where
    high : OpensMany (outer outers.Crc ∷ CheckWord n ∷ []) → ⊥
    high many = let above = goes_high 0 0 (outer outers.Crc ∷ CheckWord n ∷ []) ((λ e. absurd cc), omega arith, ((λ e. absurd cc), omega arith, refl)) many in omega (arith, above)

-- what is printed can be spelled
here_spelled : (st : StmtTree) → CanBePrinted st → list_all (λ t. is_spellable (seen t)) (stmt_tokens st) ≡ true
here_spelled st can = all_seen (stmt_tokens st) (printed_spelled can.writing st can.means can.spelled)

-- the segments of what is printed
pub printed_calm : (st : StmtTree) → CanBePrinted st → AreCalm (spaced_segments (stmt_tokens st)) (spaced (stmt_tokens st))
printed_calm st can = spaced_are_calm (stmt_tokens st) (here_spelled st can)

-- CRC alone is read in its own way
reads_back : (lead : List ℕ) (st : StmtTree) → IsBlank lead → CanBePrinted st → Reads None (lead ++ spaced (stmt_tokens st)) (map seen (stmt_tokens st))
reads_back lead st blank can = by (is_crc st.body) refl
  where
    crc_back : (label : Option (List ℕ)) (body : BodyTree) → IsLabelled can.writing label body →
        list_all (λ t. is_spellable (seen t)) (stmt_tokens (record { label = label; body = body })) ≡ true → is_crc body ≡ true →
        Reads None (lead ++ spaced (stmt_tokens (record { label = label; body = body }))) (map seen (stmt_tokens (record { label = label; body = body })))
    crc_back None (crc n) is spelled e = crc_reads lead n blank (small_check n spelled)
    crc_back (Some v) (crc n) is spelled e = absurd (let f = is.2 in cc)
    crc_back label _ is spelled e = absurd cc

    by : (b : Bool) → is_crc st.body ≡ b → Reads None (lead ++ spaced (stmt_tokens st)) (map seen (stmt_tokens st))
    by true e = crc_back st.label st.body can.means (here_spelled st can) e
    by false e = let apart = stmt_apart can.writing st can.means e in list_reads None lead (stmt_tokens st) refl blank (here_spelled st can) apart.ordinary apart.stays

-- bytes that are blank before whatever follows them, with calm segments
pub record IsLead (lead : List ℕ) : Type 0 where
  pub blank : IsBlank lead
  pub calm : AreCalm (plain_segments lead) lead

-- a piece that holds what is printed for a statement is that statement
pub piece_statement : (text : List ℕ) (piece : Piece) (lead : List ℕ) (st : StmtTree) → piece.start ≤ piece.end → piece.end ≤ length text → piece.closed ≡ true → IsLead lead →
    slice_range text piece.start piece.end ≡ lead ++ spaced (stmt_tokens st) → CanBePrinted st → IsPieceStatement text piece st
piece_statement text piece lead st ordered within closed leads bytes can =
    let own = printed_piece text piece (lead ++ spaced (stmt_tokens st)) (plain_segments lead ++ spaced_segments (stmt_tokens st)) (map seen (stmt_tokens st)) ordered within closed bytes
    (calm_on (plain_segments lead) (spaced_segments (stmt_tokens st)) lead (spaced (stmt_tokens st)) leads.calm (printed_calm st can))
    (reads_back lead st leads.blank can) in
    record {
      tokens = own.tokens;
      are = record { good = own.good; faultless = λ reason h. not_too_deep text piece own.tokens st own.good own.short own.sees can (own.only_depth h) };
      means = subst (λ (s : List Symbol). Means s st) (sym own.sees) (printed_means can.writing st can.means (holds_initial_values can.writing st can.means can.spelled));
    }
