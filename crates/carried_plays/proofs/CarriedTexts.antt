-- The text of a program that carries its padding is a program, whose statements are those of that program with another
-- value of its CRC.
use Rattle.std.proofs.Common.{◌≡◌, inl, inr, ℕ, suc, ◌+◌, ◌≤◌, Bool, true, false, if◌then◌else◌, List, [], ◌∷◌, ◌++◌, map, length, Option, refl, sym, ap, subst, ◌∙◌, arith}
use Rattle.std.proofs.lemmas.Bool.{false≢true, cases_lt}
use Rattle.std.proofs.lemmas.List.{length-append}
use Rattle.std.specs.List.{AllByRecursion}
use Rattle.stapl_lexer.specs.Pieces.{text_limit}
use Rattle.stapl_lexer.proofs.PieceLemmas.{cut_one_way}
use Rattle.stapl_shapes.proofs.Counts.{same_length, few_pieces}
use Rattle.stapl_syntax.specs.Programs.{piece_limit, IsProgram}
use Rattle.stapl_syntax.specs.Rules.{is_crc}
use Rattle.stapl_syntax.specs.Trees.{BodyTree, action, crc, StmtTree}
use Rattle.stapl_meaning.proofs.Sound.{sound}
use Rattle.canonical_text.specs.CanonicalText.{line, checked_body, checked, checked_from, checked_statements, HasStatements}
use Rattle.canonical_text.specs.Printable.{CanBePrinted}
use Rattle.canonical_text.proofs.Programs.{program_printable, canonical_read}
use Rattle.canonical_text.proofs.Twice.{one_program}
use Rattle.dev_card.specs.Padding.{BaseLengths}
use Rattle.carried_plays.specs.CarriedPrograms.{padding_procedure, body_with_item, with_item, before_crc, from_crc, carried_with, carried_program, IsEnd}
use Rattle.carried_plays.specs.CarriedRules.{BreaksNoRule}
use Rattle.carried_plays.specs.CarriedRuns.{AreShort}
use Rattle.carried_plays.specs.CarriedTexts.{carried_text, IsCarriedText, IsTooLarge, too_many_pieces, too_many_bytes}
use Rattle.carried_plays.specs.PadNames.{pad_name, IsPadNumber}
use Rattle.carried_plays.proofs.CarriedNames.{EndsWell, split_at_crc}
use Rattle.carried_plays.proofs.CarriedRules.{carried_breaks_none}
use Rattle.carried_plays.proofs.PadNumbers.{a_number, one_number}
use Rattle.carried_plays.proofs.PrintedItems.{carried_printed}
use Rattle.carried_plays.proofs.PrintedNames.{pad_name_is_printed}
use Rattle.carried_plays.proofs.ProgramEnds.{program_ends_well}
use Rattle.carried_plays.proofs.ReadPrograms.{read_program}

-- ---- check words

abbrev stmt_of : Option (List ℕ) → BodyTree → StmtTree
stmt_of label body = record { label = label; body = body }

checked_other : (before : List ℕ) (label : Option (List ℕ)) (body : BodyTree) → is_crc body ≡ false → stmt_of label (checked_body before body) ≡ stmt_of label body
checked_other before label (crc n) e = absurd (false≢true (sym e))
checked_other before label _ e = refl

no_crc : (name : List ℕ) (b : BodyTree) → is_crc (body_with_item name b) ≡ is_crc b
no_crc name (action own text items) = refl
no_crc name _ = refl

-- the bytes before what stands after the pieces before a CRC
abbrev bytes_after : List ℕ → List StmtTree → List ℕ
bytes_after before [] = before
bytes_after before (st ∷ sts) = bytes_after (before ++ line (checked before st)) sts

-- statements that are no CRC keep their values
abbrev HaveNoCrc : List StmtTree → Type 0
HaveNoCrc [] = Unit {0}
HaveNoCrc (st ∷ sts) = (is_crc st.body ≡ false) × HaveNoCrc sts

checked_join : (before : List ℕ) (xs ys : List StmtTree) → HaveNoCrc xs → checked_from before (xs ++ ys) ≡ xs ++ checked_from (bytes_after before xs) ys
checked_join before [] ys h = refl
checked_join before (x ∷ xs) ys h =
    ap (λ (st : StmtTree). st ∷ checked_from (before ++ line (checked before x)) (xs ++ ys)) (checked_other before x.label x.body h.0)
    ∙ ap (λ t. x ∷ t) (checked_join (before ++ line (checked before x)) xs ys h.1)

front_has_none : (name : List ℕ) (program : List StmtTree) → HaveNoCrc (map (with_item name) (before_crc program))
front_has_none name [] = tt
front_has_none name (st ∷ rest) = by (is_crc st.body) refl (front_has_none name rest)
  where
    by : (b : Bool) → is_crc st.body ≡ b → HaveNoCrc (map (with_item name) (before_crc rest)) →
        HaveNoCrc (map (with_item name) (if b then [] else st ∷ before_crc rest))
    by true e k = tt
    by false e k = (no_crc name st.body ∙ e, k)

checked_end : (before : List ℕ) (end : List StmtTree) → IsEnd end → IsEnd (checked_from before end)
checked_end before [] h = tt
checked_end before (st ∷ x ∷ rest) h = absurd h
checked_end before (st ∷ []) h = by st.body h
  where
    by : (b : BodyTree) → is_crc b ≡ true → is_crc (checked_body before b) ≡ true
    by (crc n) e = refl
    by _ e = absurd (false≢true e)

-- The statements with their check words are the same program with another end.
pub record HasCheckedEnd (name : List ℕ) (base : BaseLengths) (program : List StmtTree) : Type 0 where
  pub end : List StmtTree
  pub closes : IsEnd end
  pub same : checked_statements (carried_program name base program) ≡ carried_with name base end program

pub checked_carried : (name : List ℕ) (base : BaseLengths) (program : List StmtTree) → EndsWell program → HasCheckedEnd name base program
checked_carried name base program ends =
    let front : List StmtTree = map (with_item name) (before_crc program) in
    let six : List StmtTree = padding_procedure name base in
    let tail : List StmtTree = from_crc program in
    let before : List ℕ = bytes_after [] front in
    record {
      end = checked_from (bytes_after before six) tail;
      closes = checked_end (bytes_after before six) tail ends.end;
      same = checked_join [] front (six ++ tail) (front_has_none name program)
          ∙ ap (λ t. front ++ t) (checked_join before six tail (refl, (refl, (refl, (refl, (refl, (refl, tt)))))));
    }

-- ---- how many pieces

same_count : (name : List ℕ) (xs ys : List StmtTree) → length (map (with_item name) xs ++ ys) ≡ length xs + length ys
same_count name [] ys = omega arith
same_count name (x ∷ xs) ys = omega (arith, same_count name xs ys)

pub six_more : (name : List ℕ) (base : BaseLengths) (program : List StmtTree) → length (carried_program name base program) ≡ length program + 6
six_more name base program =
    let whole : length program ≡ length (before_crc program) + length (from_crc program) =
    ap length (split_at_crc program) ∙ length-append (before_crc program) (from_crc program) in
    let new : length (carried_program name base program) ≡ length (before_crc program) + length (padding_procedure name base ++ from_crc program) =
    same_count name (before_crc program) (padding_procedure name base ++ from_crc program) in
    omega (arith, whole, new)

checked_count : (before : List ℕ) (xs : List StmtTree) → length (checked_from before xs) ≡ length xs
checked_count before [] = refl
checked_count before (x ∷ xs) = ap suc (checked_count (before ++ line (checked before x)) xs)

-- ---- the whole

-- the number of the name is small
pub small_number : (text : List ℕ) (program : List StmtTree) (n : ℕ) → IsProgram text program → IsPadNumber program n → n ≤ 100000
small_number text program n is number =
    let own = a_number text program is in
    let same : own.0 ≡ n = one_number program own.0 n own.2 number in
    omega (arith, same, own.1, (sound text program is).few)

pub statements_printed : (text : List ℕ) (program : List StmtTree) (base : BaseLengths) (n : ℕ) → IsProgram text program → IsPadNumber program n → AreShort base →
    AllByRecursion CanBePrinted (carried_program (pad_name n) base program)
statements_printed text program base n is number short =
    carried_printed (pad_name n) base program (pad_name_is_printed n (small_number text program n is number)) short (program_printable text program is)

pub text_is_program : (text : List ℕ) (program : List StmtTree) (base : BaseLengths) (n : ℕ) → IsProgram text program → IsPadNumber program n → AreShort base →
    length program + 6 ≤ piece_limit → length (carried_text n base program) ≤ text_limit →
    IsProgram (carried_text n base program) (checked_statements (carried_program (pad_name n) base program))
text_is_program text program base n is number short few fits =
    let new : List StmtTree = carried_program (pad_name n) base program in
    let own : HasCheckedEnd (pad_name n) base program = checked_carried (pad_name n) base program (program_ends_well text program is) in
    let count : length (checked_statements new) ≤ piece_limit = omega (arith, checked_count [] new, six_more (pad_name n) base program, few) in
    read_program (carried_text n base program) (checked_statements new) (canonical_read new (statements_printed text program base n is number short))
    (subst BreaksNoRule (sym own.same) (carried_breaks_none text own.end program (pad_name n) base is number.free own.closes)) count fits

-- a text that is a program has few enough pieces
few_read : (text : List ℕ) (program own : List StmtTree) (base : BaseLengths) (n : ℕ) → IsProgram text program → IsPadNumber program n → AreShort base →
    IsProgram (carried_text n base program) own → length program + 6 ≤ piece_limit
few_read text program own base n is number short new =
    let stated : List StmtTree = checked_statements (carried_program (pad_name n) base program) in
    let has : HasStatements (carried_text n base program) stated =
    canonical_read (carried_program (pad_name n) base program) (statements_printed text program base n is number short) in
    let pieces : length new.pieces ≡ length has.pieces = ap length (cut_one_way (carried_text n base program) new.pieces has.pieces new.cut has.cut) in
    let a : length has.pieces ≡ length stated = same_length (carried_text n base program) has.pieces stated has.read in
    let b : length new.pieces ≡ length own = same_length (carried_text n base program) new.pieces own new.read in
    let few : length own ≤ piece_limit = few_pieces (carried_text n base program) own new in
    omega (arith, pieces, a, b, few, checked_count [] (carried_program (pad_name n) base program), six_more (pad_name n) base program)

-- whoever reads the text reads these statements
pub own_statements : (text : List ℕ) (program own : List StmtTree) (base : BaseLengths) (n : ℕ) → IsProgram text program → IsPadNumber program n → AreShort base →
    IsProgram (carried_text n base program) own → own ≡ checked_statements (carried_program (pad_name n) base program)
own_statements text program own base n is number short new =
    one_program (carried_text n base program) own (checked_statements (carried_program (pad_name n) base program)) new
    (text_is_program text program base n is number short (few_read text program own base n is number short new) new.short)

-- ---- too large

pub small_is_program : (text new : List ℕ) (program : List StmtTree) (base : BaseLengths) → IsProgram text program → AreShort base → IsCarriedText base program new →
    (IsTooLarge base program → ⊥) → (own : List StmtTree) × IsProgram new own
small_is_program text new program base is short carried small =
    let n : ℕ = carried.number in
    let own : List StmtTree = checked_statements (carried_program (pad_name n) base program) in
    (own, subst (λ (t : List ℕ). IsProgram t own) (sym carried.whole) (text_is_program text program base n is carried.named short few_of_pieces few_of_bytes))
  where
    few_of_pieces : length program + 6 ≤ piece_limit
    few_of_pieces = elim (cases_lt piece_limit (length program + 6)) [
      | inl many ↦ absurd (small (too_many_pieces many))
      | inr few ↦ few
    ]

    few_of_bytes : length (carried_text carried.number base program) ≤ text_limit
    few_of_bytes = elim (cases_lt text_limit (length (carried_text carried.number base program))) [
      | inl many ↦ absurd (small (too_many_bytes carried.number carried.named many))
      | inr few ↦ few
    ]

pub program_is_small : (text new : List ℕ) (program own : List StmtTree) (base : BaseLengths) → IsProgram text program → AreShort base → IsCarriedText base program new →
    IsProgram new own → IsTooLarge base program → ⊥
program_is_small text new program own base is short carried read (too_many_pieces many) =
    let few = few_read text program own base carried.number is carried.named short (subst (λ (t : List ℕ). IsProgram t own) carried.whole read) in
    omega (arith, few, many)
program_is_small text new program own base is short carried read (too_many_bytes m number many) =
    let same : m ≡ carried.number = one_number program m carried.number number carried.named in
    let fits : length new ≤ text_limit = read.short in
    let whole : length new ≡ length (carried_text m base program) = ap length carried.whole ∙ ap (λ k. length (carried_text k base program)) (sym same) in
    omega (arith, fits, whole, many)

-- ---- one text

pub a_text : (text : List ℕ) (program : List StmtTree) (base : BaseLengths) → IsProgram text program → (new : List ℕ) × IsCarriedText base program new
a_text text program base is =
    let own = a_number text program is in
    (carried_text own.0 base program, record { number = own.0; named = own.2; whole = refl })

pub one_text : (base : BaseLengths) (program : List StmtTree) (a b : List ℕ) → IsCarriedText base program a → IsCarriedText base program b → a ≡ b
one_text base program a b x y =
    x.whole ∙ ap (λ n. carried_text n base program) (one_number program x.number y.number x.named y.named) ∙ sym y.whole
