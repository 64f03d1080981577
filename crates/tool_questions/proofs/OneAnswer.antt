-- Words have at most one answer: a text has one list of pieces and one first fault, and words say one thing.
use Rattle.std.proofs.Common.{◌≡◌, ℕ, pos, List, [], ◌∷◌, Option, Some, None, refl, sym, ap, ◌∙◌, subst, arith, codes}
use Rattle.stapl_lexer.specs.declared.piece.Piece.{Piece}
use Rattle.stapl_lexer.proofs.PieceLemmas.{cut_one_way}
use Rattle.stapl_checker.proofs.UniqueLemmas.{one_first_fault}
use Rattle.named_files.specs.Texts.{usage_line}
use Rattle.play_words.specs.declared.status.Status.{Status}
use Rattle.play_words.specs.declared.status.Status.TheVariants.{Done, Usage}
use Rattle.tool_questions.specs.declared.report.PieceReport.{PieceReport}
use Rattle.tool_questions.specs.declared.report.Refusal.{Refusal}
use Rattle.tool_questions.specs.Numbers.{part_numbered}
use Rattle.tool_questions.specs.Pieces.{RefusalAt, refusal_text, shown_text, IsReport, KnownAnswer, shown, ended, lacking, IsLongAnswer, too_long, PieceAnswer, known, long, HeldPieceAnswer}
use Rattle.tool_questions.specs.BoardLines.{HeldLineAnswer, HeldCheckAnswer}
use Rattle.tool_questions.specs.Questions.{FileQuestion, of_piece, of_line, of_board, question_word, file_key, IsExplained, explained, unknown, WordAnswer, PartQuestionAnswer, asked, refused, WholeQuestionAnswer, asked_whole, refused_whole, FileQuestionAnswer, QuestionAnswer, of_word, of_file, no_question}
use Rattle.tool_questions.proofs.Said.{Said, said, one_usage}
use Rattle.tool_questions.proofs.WordLemmas.{asks, same_rest, no_both, same_question, file_asks}
use Rattle.tool_questions.proofs.AskedLemmas.{one_asked, named_or_usage, asked_or_usage, same_files, same_usage}
use Rattle.tool_questions.proofs.OneLine.{one_held_line, one_held_check}

-- What is known of a piece.

one_refusal : (text : List ℕ) (number : ℕ) (a b : Option Refusal) → RefusalAt text number a → RefusalAt text number b → a ≡ b
one_refusal text number None None x y = refl
one_refusal text number None (Some b) x y = absurd (x b.line b.reason y)
one_refusal text number (Some a) None x y = absurd (y a.line a.reason x)
one_refusal text number (Some a) (Some b) x y =
    let same = one_first_fault text number a.line number b.line a.reason b.reason x y in
    let equal : a ≡ b = λ j. record { line = same.1 j; reason = same.2 j } in
    ap Some equal

one_place : (text : List ℕ) (number : ℕ) (a b : PieceReport) → IsReport text number a → IsReport text number b → a.place ≡ b.place
one_place text number a b x y = x.place ∙ ap (part_numbered number) (cut_one_way text x.pieces y.pieces x.cut y.cut) ∙ sym y.place

abbrev said_of : List ℕ → ℕ → Option Piece → Option Refusal → Said
said_of text number (Some piece) refusal = said (shown_text text number piece refusal) (Done (pos 0))
said_of text number None (Some refusal) = said (refusal_text number (Some refusal)) (Done (pos 0))
said_of text number None None = said (usage_line 2) (Usage 2)

record IsKnown (text : List ℕ) (number : ℕ) (all : Said) : Type 0 where
  report : PieceReport
  is : IsReport text number report
  same : all ≡ said_of text number report.place report.refusal

known_said : (text : List ℕ) (number : ℕ) (t : List ℕ) (s : Status) → KnownAnswer text number t s → IsKnown text number (said t s)
known_said text number t s (shown report piece is at) = record { report = report; is = is; same = rw at refl }
known_said text number t s (ended report refusal is none at) = record { report = report; is = is; same = rw (none, at) refl }
known_said text number t s (lacking report is none clean) = record { report = report; is = is; same = rw (none, clean) refl }

one_known : (text : List ℕ) (number : ℕ) (a b : Said) → IsKnown text number a → IsKnown text number b → a ≡ b
one_known text number a b x y =
    let place = one_place text number x.report y.report x.is y.is in
    let refusal = one_refusal text number x.report.refusal y.report.refusal x.is.refusal y.is.refusal in
    x.same ∙ ap (λ p. said_of text number p x.report.refusal) place ∙ ap (said_of text number y.report.place) refusal ∙ sym y.same

one_long : (a b : List ℕ) (s t : Status) → IsLongAnswer a s → IsLongAnswer b t → said a s ≡ said b t
one_long a b s t too_long too_long = refl

one_piece : (text : List ℕ) (number : ℕ) (a b : List ℕ) (s t : Status) → PieceAnswer text number a s → PieceAnswer text number b t → said a s ≡ said b t
one_piece text number a b s t (known short x) (known few y) = one_known text number (said a s) (said b t) (known_said text number a s x) (known_said text number b t y)
one_piece text number a b s t (known short x) (long more_bytes y) = absurd (omega (arith, short, more_bytes))
one_piece text number a b s t (long more_bytes x) (known short y) = absurd (omega (arith, short, more_bytes))
one_piece text number a b s t (long x_long x) (long y_long y) = one_long a b s t x y

one_held : (held : Option (List ℕ)) (number : ℕ) (a b : List ℕ) (s t : Status) → HeldPieceAnswer number held a s → HeldPieceAnswer number held b t → said a s ≡ said b t
one_held None number a b s t x y = absurd x
one_held (Some text) number a b s t x y = one_piece text number a b s t x y

-- The words.

one_explained : (word a b : List ℕ) (s t : Status) → IsExplained word a s → IsExplained word b t → said a s ≡ said b t
one_explained word a b s t (explained some x f) (explained other y g) = ap (λ (l : List ℕ). said l s) (x ∙ sym y) ∙ ap (said b) (f ∙ sym g)
one_explained word a b s t (explained some x f) (unknown none y) = absurd (some none)
one_explained word a b s t (unknown none x) (explained some y g) = absurd (some none)
one_explained word a b s t (unknown none x) (unknown other y) = one_usage 2 2 a b s t refl x y

one_word : (rest : List (List ℕ)) (a b : List ℕ) (s t : Status) → WordAnswer rest a s → WordAnswer rest b t → said a s ≡ said b t
one_word [] a b s t x y = one_usage 2 2 a b s t refl x y
one_word (word ∷ []) a b s t x y = one_explained word a b s t x y
one_word (word ∷ other ∷ rest) a b s t x y = one_usage 3 3 a b s t refl x y

one_part_question : (key : List ℕ) (knows : ℕ → List ℕ → Status → Type 0) →
    ((n : ℕ) (a b : List ℕ) (s t : Status) → knows n a s → knows n b t → said a s ≡ said b t) → (rest : List (List ℕ)) (a b : List ℕ) (s t : Status) →
    PartQuestionAnswer key knows rest a s → PartQuestionAnswer key knows rest b t → said a s ≡ said b t
one_part_question key knows one rest a b s t (asked n path x p) (asked m other y q) =
    one m a b s t (subst (λ (k : ℕ). knows k a s) (one_asked key rest n m path other x y) p) q
one_part_question key knows one rest a b s t (asked n path x p) (refused m y q) = absurd (asked_or_usage key rest n m path x y)
one_part_question key knows one rest a b s t (refused m x p) (asked n path y q) = absurd (asked_or_usage key rest n m path y x)
one_part_question key knows one rest a b s t (refused m x p) (refused k y q) = one_usage m k a b s t (same_usage key rest m k x y) p q

one_whole_question : (key : List ℕ) (knows : List ℕ → Status → Type 0) →
    ((a b : List ℕ) (s t : Status) → knows a s → knows b t → said a s ≡ said b t) → (rest : List (List ℕ)) (a b : List ℕ) (s t : Status) →
    WholeQuestionAnswer key knows rest a s → WholeQuestionAnswer key knows rest b t → said a s ≡ said b t
one_whole_question key knows one rest a b s t (asked_whole path x p) (asked_whole other y q) = one a b s t p q
one_whole_question key knows one rest a b s t (asked_whole path x p) (refused_whole m y q) = absurd (named_or_usage key 2 rest m path x y)
one_whole_question key knows one rest a b s t (refused_whole m x p) (asked_whole path y q) = absurd (named_or_usage key 2 rest m path y x)
one_whole_question key knows one rest a b s t (refused_whole m x p) (refused_whole k y q) = one_usage m k a b s t (same_files key 2 rest m k x y) p q

one_file_question : (question : FileQuestion) (held : Option (List ℕ)) (rest : List (List ℕ)) (a b : List ℕ) (s t : Status) →
    FileQuestionAnswer question held rest a s → FileQuestionAnswer question held rest b t → said a s ≡ said b t
one_file_question of_piece held rest a b s t x y = one_part_question (file_key of_piece) (λ n. HeldPieceAnswer n held) (one_held held) rest a b s t x y
one_file_question of_line held rest a b s t x y = one_part_question (file_key of_line) (λ n. HeldLineAnswer n held) (one_held_line held) rest a b s t x y
one_file_question of_board held rest a b s t x y = one_whole_question (file_key of_board) (HeldCheckAnswer held) (one_held_check held) rest a b s t x y

same_file_question : (words rest other : List (List ℕ)) (q p : FileQuestion) (held : Option (List ℕ)) (a : List ℕ) (s : Status) → words ≡ question_word q ∷ rest →
    words ≡ question_word p ∷ other → FileQuestionAnswer q held rest a s → FileQuestionAnswer p held other a s
same_file_question words rest other q p held a s x y answer =
    let same : q ≡ p = same_question words rest other q p x y in
    let moved : words ≡ question_word p ∷ rest = subst (λ (r : FileQuestion). words ≡ question_word r ∷ rest) same x in
    subst (λ (r : List (List ℕ)). FileQuestionAnswer p held r a s) (same_rest (question_word p) rest other (sym moved ∙ y))
    (subst (λ (r : FileQuestion). FileQuestionAnswer r held rest a s) same answer)

one_question : (held : Option (List ℕ)) (words : List (List ℕ)) (a b : List ℕ) (s t : Status) → QuestionAnswer held words a s →
    QuestionAnswer held words b t → said a s ≡ said b t
one_question held words a b s t (of_word rest x p) (of_word other y q) =
    one_word other a b s t (subst (λ (l : List (List ℕ)). WordAnswer l a s) (same_rest (codes "--explain") rest other (sym x ∙ y)) p) q
one_question held words a b s t (of_word rest x p) (of_file question other y q) = absurd (no_both words rest other question x y)
one_question held words a b s t (of_word rest x p) (no_question none q) = absurd (asks words rest (codes "--explain") x refl none)
one_question held words a b s t (of_file question rest x p) (of_word other y q) = absurd (no_both words other rest question y x)
one_question held words a b s t (of_file question rest x p) (of_file second other y q) =
    one_file_question second held other a b s t (same_file_question words rest other question second held a s x y p) q
one_question held words a b s t (of_file question rest x p) (no_question none q) = absurd (file_asks words rest question x none)
one_question held words a b s t (no_question none p) (of_word rest y q) = absurd (asks words rest (codes "--explain") y refl none)
one_question held words a b s t (no_question none p) (of_file question rest y q) = absurd (file_asks words rest question y none)
one_question held words a b s t (no_question none p) (no_question also q) = one_usage 1 1 a b s t refl p q

pub one_answer : (held : Option (List ℕ)) (words : List (List ℕ)) (a b : List ℕ) (s t : Status) → QuestionAnswer held words a s →
    QuestionAnswer held words b t → (a ≡ b) × (s ≡ t)
one_answer held words a b s t x y =
    let same = one_question held words a b s t x y in (ap (λ (z : Said). z.text) same, ap (λ (z : Said). z.status) same)
