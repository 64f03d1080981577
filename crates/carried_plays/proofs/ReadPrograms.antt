-- Statements that break no rule are a program if a text has them, is short enough, and has few enough pieces.
use Rattle.std.proofs.Common.{◌≡◌, ℕ, zero, suc, ◌+◌, ◌<◌, ◌≤◌, List, [], ◌∷◌, map, take, length, slice_get, Option, Some, None, is_some, refl, sym, ap, subst, ◌∙◌, arith}
use Rattle.std.proofs.lemmas.Bool.{true≢false, false≢true}
use Rattle.std.proofs.lemmas.Option.{same_Some, none-some, slice_get_within}
use Rattle.stapl_lexer.specs.declared.piece.Piece.{Piece}
use Rattle.stapl_lexer.specs.declared.reason.Reason.{Reason}
use Rattle.stapl_lexer.specs.Pieces.{text_limit}
use Rattle.stapl_syntax.specs.Names.{numbered, inside_after}
use Rattle.stapl_syntax.specs.Programs.{piece_limit, AreReadAs, facts_at, HasReasonAt, one_too_many, no_statement, breaks_rule, not_closed, nothing_to_do, IsProgram}
use Rattle.stapl_syntax.specs.Rules.{is_action, any_body, breaks}
use Rattle.stapl_syntax.specs.Statements.{IsPieceStatement}
use Rattle.stapl_syntax.specs.Trees.{StmtTree}
use Rattle.stapl_grammar.proofs.LawLemmas.{no_reason, one_piece_statement}
use Rattle.stapl_shapes.proofs.Counts.{same_length}
use Rattle.canonical_text.specs.CanonicalText.{HasStatements}
use Rattle.carried_plays.specs.CarriedRules.{BreaksNoRule}

-- the statement of a piece
record ReadAt (text : List ℕ) (sts : List StmtTree) (i : ℕ) (piece : Piece) : Type 0 where
  statement : StmtTree
  at : slice_get sts i ≡ Some statement
  is : IsPieceStatement text piece statement

read_at : (text : List ℕ) (pieces : List Piece) (sts : List StmtTree) (i : ℕ) (piece : Piece) → AreReadAs text pieces (map Some sts) →
    slice_get pieces i ≡ Some piece → ReadAt text sts i piece
read_at text [] sts i piece read at = absurd (none-some piece at)
read_at text (p ∷ ps) [] i piece read at = absurd read
read_at text (p ∷ ps) (s ∷ sts) zero piece read at =
    record { statement = s; at = refl; is = subst (λ (q : Piece). IsPieceStatement text q s) (same_Some p piece at) read.0 }
read_at text (p ∷ ps) (s ∷ sts) (suc i) piece read at =
    let r = read_at text ps sts i piece read.1 at in
    record { statement = r.statement; at = r.at; is = r.is }

past_end : (pieces : List Piece) (i : ℕ) → slice_get pieces i ≡ None → length pieces ≤ i
past_end [] i e = omega arith
past_end (p ∷ ps) zero e = absurd (none-some p (sym e))
past_end (p ∷ ps) (suc i) e = let le = past_end ps i e in omega (arith, le)

module _ (text : List ℕ) (sts : List StmtTree) (has : HasStatements text sts) (keeps : BreaksNoRule sts) (few : length sts ≤ piece_limit) where
  as_many : length has.pieces ≡ length sts
  as_many = same_length text has.pieces sts has.read

  -- no reason against a piece, nor against the end
  none_here : (k : ℕ) (o : Option Piece) (reason : Reason) → k < length has.pieces + 1 → slice_get has.pieces k ≡ o → HasReasonAt text (map Some sts) k o reason → ⊥
  none_here k _ _ lt at (one_too_many piece le) = let in_list = slice_get_within has.pieces k piece at in omega (arith, in_list, as_many, few, le)
  none_here k _ _ lt at (no_statement piece reason h) =
      let r = read_at text has.pieces sts k piece has.read at in
      no_reason r.statement r.is h
  none_here k _ _ lt at (breaks_rule piece st reason is b) =
      let r = read_at text has.pieces sts k piece has.read at in
      let same : st ≡ r.statement = one_piece_statement text piece st r.statement is r.is in
      true≢false (sym b ∙ ap (λ (s : StmtTree). breaks (facts_at (map Some sts) k) s reason) same ∙ keeps.keeps k r.statement reason r.at)
  none_here k _ _ lt at (not_closed b) =
      let last : k ≡ length sts = let le = past_end has.pieces k at in omega (arith, le, lt, as_many) in
      true≢false (sym b ∙ ap (λ i. is_some (inside_after (numbered (take i (map Some sts))))) last ∙ keeps.closed)
  none_here k _ _ lt at (nothing_to_do b) =
      let last : k ≡ length sts = let le = past_end has.pieces k at in omega (arith, le, lt, as_many) in
      false≢true (sym b ∙ ap (λ i. any_body is_action (numbered (take i (map Some sts)))) last ∙ keeps.acts)

  pub read_program : length text ≤ text_limit → IsProgram text sts
  read_program short = record {
    short = short;
    pieces = has.pieces;
    cut = has.cut;
    read = has.read;
    sound = λ k lt reason h. none_here k (slice_get has.pieces k) reason lt refl h;
  }
