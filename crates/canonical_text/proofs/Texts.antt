-- The pieces of canonical text are the statements that are printed in it.
use Rattle.std.proofs.Common.{◌≡◌, ℕ, ◌+◌, ◌≤◌, Bool, true, false, List, [], ◌∷◌, ◌++◌, map, take, drop, slice_range, length, Some, refl, sym, ap, subst, ◌∙◌}
use Rattle.std.proofs.Common.{arith, append-nil, append_assoc, length-drop}
use Rattle.std.specs.Prelude.{if◌then◌else◌, All}
use Rattle.std.specs.List.{list_all, slice_split, AllByRecursion}
use Rattle.std.proofs.Math.Seq.{take-append_seam, drop-append_seam}
use Rattle.std.proofs.lemmas.Bool.{and_parts}
use Rattle.std.proofs.lemmas.List.{length-append, drop-drop}
use Rattle.std.proofs.lemmas.List.Concat.{flat_map-cons}
use Rattle.std.proofs.lemmas.List.Elements.{All-nil, All-cons}
use Rattle.std.proofs.lemmas.List.Folds.{list_all-append}
use Rattle.std.proofs.lemmas.List.Splits.{slice_split_at, slice_split_none}
use Rattle.stapl_lexer.specs.declared.piece.Piece.{Piece}
use Rattle.stapl_lexer.specs.Pieces.{is_blank, is_semicolon, piece_of, pieces_from, IsCut}
use Rattle.stapl_lexer.specs.Segments.{Segment, Plain as PlainByte, spelled, spelling, Divides}
use Rattle.stapl_syntax.specs.Programs.{AreReadAs}
use Rattle.stapl_syntax.specs.Trees.{StmtTree}
use Rattle.canonical_text.specs.PrintedStatements.{stmt_tokens}
use Rattle.canonical_text.specs.Spacing.{spaced}
use Rattle.canonical_text.specs.CanonicalText.{line, lines}
use Rattle.canonical_text.specs.Printable.{CanBePrinted}
use Rattle.canonical_text.proofs.ListReads.{nothing_blank, line_feed_blank}
use Rattle.canonical_text.proofs.PieceStatements.{printed_calm, IsLead, piece_statement}
use Rattle.canonical_text.proofs.PrintedSegments.{is_calm_segment, plain_segments, spaced_segments, AreCalm, calm_on, plain_are_calm, divides_on, no_end}

-- ---- segments

abbrev pub text_segments : List StmtTree → List Segment
text_segments [] = []
text_segments (st ∷ sts) = spaced_segments (stmt_tokens st) ++ (PlainByte 59 ∷ PlainByte 10 ∷ text_segments sts)

pub lines-cons : (st : StmtTree) (sts : List StmtTree) → lines (st ∷ sts) ≡ spaced (stmt_tokens st) ++ (59 ∷ 10 ∷ lines sts)
lines-cons st sts = flat_map-cons line st sts ∙ append_assoc (spaced (stmt_tokens st)) (59 ∷ 10 ∷ []) (lines sts)

-- a semicolon and a line feed
line_end : (segments : List Segment) (bytes : List ℕ) → Divides segments bytes [] → Divides (PlainByte 59 ∷ PlainByte 10 ∷ segments) (59 ∷ 10 ∷ bytes) []
line_end segments bytes d = (10 ∷ bytes, refl, ((λ e. absurd cc), (λ e. absurd cc)), (bytes, refl, ((λ e. absurd cc), (λ e. absurd cc)), d))

line_divides : (own segments : List Segment) (whole front bytes : List ℕ) → AreCalm own front → whole ≡ front ++ (59 ∷ 10 ∷ bytes) → Divides segments bytes [] →
    Divides (own ++ (PlainByte 59 ∷ PlainByte 10 ∷ segments)) whole []
line_divides own segments whole front bytes calm e d =
    divides_on own (PlainByte 59 ∷ PlainByte 10 ∷ segments) whole (59 ∷ 10 ∷ bytes) []
    (subst (λ (v : List ℕ). Divides own v (59 ∷ 10 ∷ bytes)) (sym e) (calm.divides (59 ∷ 10 ∷ bytes))) (line_end segments bytes d)

text_divides : (sts : List StmtTree) → AllByRecursion CanBePrinted sts → Divides (text_segments sts) (lines sts) []
text_divides [] all = refl
text_divides (st ∷ sts) all =
    line_divides (spaced_segments (stmt_tokens st)) (text_segments sts) (lines (st ∷ sts)) (spaced (stmt_tokens st)) (lines sts) (printed_calm st all.0) (lines-cons st sts) (text_divides sts all.1)

-- the groups of segments between the semicolons, if some segments stand before them
abbrev pub groups_from : List Segment → List StmtTree → List (List Segment)
groups_from lead [] = lead ∷ []
groups_from lead (st ∷ sts) = (lead ++ spaced_segments (stmt_tokens st)) ∷ groups_from (PlainByte 10 ∷ []) sts

none_ends : (segments : List Segment) → list_all is_calm_segment segments ≡ true → All (λ s. is_semicolon s ≡ false) segments
none_ends [] all = All-nil (λ s. is_semicolon s ≡ false)
none_ends (s ∷ ss) all =
    let parts = and_parts (is_calm_segment s) (list_all is_calm_segment ss) all in
    All-cons (λ s. is_semicolon s ≡ false) s ss (no_end s parts.0) (none_ends ss parts.1)

split_is : (lead : List Segment) (sts : List StmtTree) → list_all is_calm_segment lead ≡ true → AllByRecursion CanBePrinted sts →
    slice_split is_semicolon (lead ++ text_segments sts) ≡ groups_from lead sts
split_is lead [] calm all = ap (slice_split is_semicolon) (append-nil lead) ∙ slice_split_none is_semicolon lead (none_ends lead calm)
split_is lead (st ∷ sts) calm all =
    let own = lead ++ spaced_segments (stmt_tokens st) in
    let own_calm : list_all is_calm_segment own ≡ true = list_all-append is_calm_segment lead (spaced_segments (stmt_tokens st)) ∙ rw calm (printed_calm st all.0).calm in
    ap (slice_split is_semicolon) (sym (append_assoc lead (spaced_segments (stmt_tokens st)) (PlainByte 59 ∷ PlainByte 10 ∷ text_segments sts)))
    ∙ slice_split_at is_semicolon own (PlainByte 59) (PlainByte 10 ∷ text_segments sts) (none_ends own own_calm) refl
    ∙ ap (λ (v : List (List Segment)). own ∷ v) (split_is (PlainByte 10 ∷ []) sts refl all.1)

divided_bytes : (segments : List Segment) (bytes rest : List ℕ) → Divides segments bytes rest → bytes ≡ spelling segments ++ rest
divided_bytes [] bytes rest d = d
divided_bytes (s ∷ ss) bytes rest d =
    d.1 ∙ ap (λ (v : List ℕ). spelled s ++ v) (divided_bytes ss d.0 rest d.3)
    ∙ sym (append_assoc (spelled s) (spelling ss) rest) ∙ ap (λ (v : List ℕ). v ++ rest) (sym (flat_map-cons spelled s ss))

pub calm_spelling : (segments : List Segment) (bytes : List ℕ) → AreCalm segments bytes → spelling segments ≡ bytes
calm_spelling segments bytes calm =
    sym (append-nil (spelling segments)) ∙ sym (divided_bytes segments (bytes ++ []) [] (calm.divides [])) ∙ append-nil bytes

-- ---- pieces

pub closed_first : (text : List ℕ) (start : ℕ) (group : List Segment) (sts : List StmtTree) →
    pieces_from text start (group ∷ groups_from (PlainByte 10 ∷ []) sts)
    ≡ piece_of text start group true ∷ pieces_from text (start + length (spelling group) + 1) (groups_from (PlainByte 10 ∷ []) sts)
closed_first text start group [] = refl
closed_first text start group (st ∷ sts) = refl

pub record Lead (lead : List ℕ) : Type 0 where
  pub is : IsLead lead
  pub all_blank : list_all is_blank (plain_segments lead) ≡ true

pub first_lead : Lead []
first_lead = record { is = record { blank = nothing_blank; calm = plain_are_calm [] refl }; all_blank = refl }

pub next_lead : Lead (10 ∷ [])
next_lead = record { is = record { blank = line_feed_blank; calm = plain_are_calm (10 ∷ []) refl }; all_blank = refl }

-- the first piece, and where the next one begins
module _ (text : List ℕ) (start : ℕ) (own rest : List ℕ) (le : start ≤ length text) (bytes : drop start text ≡ own ++ (59 ∷ rest)) where
  pub room : start + length own + 1 + length rest ≡ length text
  room = omega (arith, length-drop start text, ap length bytes, length-append own (59 ∷ rest))

  pub own_range : (end : ℕ) → end ≡ start + length own → slice_range text start end ≡ own
  own_range end e =
      ap (λ (n : ℕ). take n (drop start text)) (omega arith) ∙ ap (take (length own)) bytes ∙ take-append_seam own (59 ∷ rest)

  pub rest_bytes : (n : ℕ) → n ≡ start + length own + 1 → drop n text ≡ rest
  rest_bytes n e =
      ap (λ (k : ℕ). drop k text) (omega (arith, length-append own (59 ∷ [])))
      ∙ sym (drop-drop (length (own ++ 59 ∷ [])) start text)
      ∙ ap (drop (length (own ++ 59 ∷ []))) (bytes ∙ sym (append_assoc own (59 ∷ []) rest)) ∙ drop-append_seam (own ++ 59 ∷ []) rest

pub text_reads : (text : List ℕ) (start : ℕ) (lead : List ℕ) (sts : List StmtTree) → Lead lead → AllByRecursion CanBePrinted sts → start ≤ length text →
    drop start text ≡ lead ++ lines sts → AreReadAs text (pieces_from text start (groups_from (plain_segments lead) sts)) (map Some sts)
text_reads text start lead [] leads all le bytes =
    subst (λ (b : Bool). AreReadAs text (if b then [] else piece_of text start (plain_segments lead) false ∷ []) []) (sym leads.all_blank) tt
text_reads text start lead (st ∷ sts) leads all le bytes =
    let own = lead ++ spaced (stmt_tokens st) in
    let group = plain_segments lead ++ spaced_segments (stmt_tokens st) in
    let group_is : spelling group ≡ own =
    calm_spelling group own (calm_on (plain_segments lead) (spaced_segments (stmt_tokens st)) lead (spaced (stmt_tokens st)) leads.is.calm (printed_calm st all.0)) in
    let whole : drop start text ≡ own ++ (59 ∷ 10 ∷ lines sts) =
    bytes ∙ ap (λ (v : List ℕ). lead ++ v) (lines-cons st sts) ∙ sym (append_assoc lead (spaced (stmt_tokens st)) (59 ∷ 10 ∷ lines sts)) in
    let len : length (spelling group) ≡ length own = ap length group_is in
    let space = room text start own (10 ∷ lines sts) le whole in
    subst (λ (v : List Piece). AreReadAs text v (map Some (st ∷ sts))) (sym (closed_first text start group sts)) (
      piece_statement text (piece_of text start group true) lead st (omega arith) (omega (arith, len, space)) refl leads.is
          (own_range text start own (10 ∷ lines sts) le whole (start + length (spelling group)) (omega (arith, len))) all.0,
      text_reads text (start + length (spelling group) + 1) (10 ∷ []) sts next_lead all.1 (omega (arith, len, space))
          (rest_bytes text start own (10 ∷ lines sts) le whole (start + length (spelling group) + 1) (omega (arith, len))),
    )

-- the pieces of printed lines are the statements
pub lines_cut : (sts : List StmtTree) → AllByRecursion CanBePrinted sts → IsCut (lines sts) (pieces_from (lines sts) 0 (groups_from [] sts))
lines_cut sts all = record {
  segments = text_segments sts;
  divides = text_divides sts all;
  pieces_are = ap (pieces_from (lines sts) 0) (sym (split_is [] sts refl all));
}

pub lines_read : (sts : List StmtTree) → AllByRecursion CanBePrinted sts → AreReadAs (lines sts) (pieces_from (lines sts) 0 (groups_from [] sts)) (map Some sts)
lines_read sts all = text_reads (lines sts) 0 [] sts first_lead all (omega arith) refl
