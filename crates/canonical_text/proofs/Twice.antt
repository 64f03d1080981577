-- Canonical texts are equal exactly where the statements are, but for the check word.
use Rattle.std.proofs.Common.{◌≡◌, ◌↔◌, ℕ, ◌≤◌, List, [], ◌∷◌, ◌++◌, map, length, Option, Some, refl, sym, ap, subst, ◌∙◌}
use Rattle.stapl_lexer.specs.declared.piece.Piece.{Piece}
use Rattle.stapl_lexer.specs.Pieces.{text_limit}
use Rattle.stapl_lexer.proofs.PieceLemmas.{cut_one_way}
use Rattle.stapl_grammar.proofs.LawLemmas.{one_piece_statement}
use Rattle.stapl_syntax.specs.Programs.{AreReadAs, IsProgram}
use Rattle.stapl_syntax.specs.Trees.{BodyTree, crc, StmtTree}
use Rattle.canonical_text.specs.CanonicalText.{line, lines, checked_body, checked, checked_from, checked_statements, canonical_text, plain_body, plain}
use Rattle.canonical_text.proofs.Programs.{plain_checked, canonical_program, stmt_of}

same_read : (text : List ℕ) (pieces : List Piece) (a b : List StmtTree) → AreReadAs text pieces (map Some a) → AreReadAs text pieces (map Some b) → a ≡ b
same_read text [] [] [] r q = refl
same_read text [] (a ∷ as') b r q = absurd r
same_read text [] [] (b ∷ bs) r q = absurd q
same_read text (p ∷ ps) [] b r q = absurd r
same_read text (p ∷ ps) (a ∷ as') [] r q = absurd q
same_read text (p ∷ ps) (a ∷ as') (b ∷ bs) r q =
    ap (λ (x : StmtTree). x ∷ as') (one_piece_statement text p a b r.0 q.0) ∙ ap (λ (v : List StmtTree). b ∷ v) (same_read text ps as' bs r.1 q.1)

-- a text is the program of one list of statements
pub one_program : (text : List ℕ) (a b : List StmtTree) → IsProgram text a → IsProgram text b → a ≡ b
one_program text a b x y =
    same_read text y.pieces a b (subst (λ (v : List Piece). AreReadAs text v (map Some a)) (cut_one_way text x.pieces y.pieces x.cut y.cut) x.read) y.read

checked_of_plain : (before : List ℕ) (label : Option (List ℕ)) (body : BodyTree) → stmt_of label (checked_body before (plain_body body)) ≡ stmt_of label (checked_body before body)
checked_of_plain before label (crc n) = refl
checked_of_plain before label _ = refl

from_plain : (before : List ℕ) (sts : List StmtTree) → checked_from before (map plain sts) ≡ checked_from before sts
from_plain before [] = refl
from_plain before (st ∷ sts) =
    ap (λ (s : StmtTree). s ∷ checked_from (before ++ line s) (map plain sts)) (checked_of_plain before st.label st.body)
    ∙ ap (λ (v : List StmtTree). checked before st ∷ v) (from_plain (before ++ line (checked before st)) sts)

same_checked : (a b : List StmtTree) → map plain a ≡ map plain b → checked_statements a ≡ checked_statements b
same_checked a b e = sym (from_plain [] a) ∙ ap (checked_from []) e ∙ from_plain [] b

pub equal_texts : (text other : List ℕ) (a b : List StmtTree) → IsProgram text a → IsProgram other b → length (canonical_text a) ≤ text_limit → length (canonical_text b) ≤ text_limit →
    (canonical_text a ≡ canonical_text b) ↔ (map plain a ≡ map plain b)
equal_texts text other a b x y p q = (
  (λ e.
      let here = subst (λ (t : List ℕ). IsProgram t (checked_statements a)) e (canonical_program text a x p) in
      let same = one_program (canonical_text b) (checked_statements a) (checked_statements b) here (canonical_program other b y q) in
      sym (plain_checked [] a) ∙ ap (map plain) same ∙ plain_checked [] b),
  (λ e. ap lines (same_checked a b e)),
)

pub printed_twice : (sts : List StmtTree) → canonical_text (checked_statements sts) ≡ canonical_text sts
printed_twice sts = ap lines (same_checked (checked_statements sts) sts (plain_checked [] sts))
