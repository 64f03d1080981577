-- All words have an answer: each text has pieces, and a first fault or none, and each word says something or nothing.
use Rattle.std.proofs.Common.{◌≡◌, ◌<◌, ◌≤◌, ℕ, pos, Bool, true, false, List, [], ◌∷◌, length, Option, Some, None, refl, ap, subst, codes, ◌⊎◌, inl, inr}
use Rattle.std.proofs.lemmas.Bool.{cases_lt, cases_eq, or_from}
use Rattle.std.proofs.lemmas.Slice.Eq.{bytes_eq-Decides}
use Rattle.std.specs.List.{flat_map}
use Rattle.std.specs.Str.{bytes_eq}
use Rattle.tool_io.specs.Texts.{word_line}
use Rattle.stapl_lexer.specs.declared.reason.Reason.{Reason}
use Rattle.stapl_lexer.specs.declared.reason.Reason.TheVariants.{TooLong}
use Rattle.stapl_lexer.specs.declared.piece.Piece.{Piece}
use Rattle.stapl_lexer.specs.Pieces.{IsCut, text_limit}
use Rattle.stapl_lexer.proofs.Existence.{cut_exists}
use Rattle.stapl_syntax.specs.Trees.{StmtTree}
use Rattle.stapl_syntax.specs.Programs.{IsProgram, FirstFault}
use Rattle.stapl_checker.proofs.Answered.{program_or_fault}
use Rattle.stapl_checker.proofs.UniqueLemmas.{no_fault}
use Rattle.command_words.specs.KeyedWords.{NamesPath}
use Rattle.command_words.proofs.FoundOrNot.{IsFoundOrNot, path_or_not, number_or_not}
use Rattle.named_files.specs.Texts.{usage_line}
use Rattle.tool_questions.specs.Explanations.{word_paragraphs}
use Rattle.play_words.specs.declared.status.Status.{Status}
use Rattle.play_words.specs.declared.status.Status.TheVariants.{Done, Usage}
use Rattle.tool_questions.specs.declared.report.Refusal.{Refusal}
use Rattle.tool_questions.specs.Numbers.{part_numbered}
use Rattle.tool_questions.specs.Pieces.{RefusalAt, refusal_text, shown_text, KnownAnswer, shown, ended, lacking, too_long, PieceAnswer, known, long, HeldPieceAnswer}
use Rattle.tool_questions.specs.BoardLines.{HeldLineAnswer, HeldCheckAnswer}
use Rattle.tool_questions.specs.Questions.{FileQuestion, of_piece, of_line, of_board, question_word, file_key, IsExplained, explained, unknown, WordAnswer, NamesPart, no_file, after_file, AreFileUsage, no_number, after_number, HasPartUsage, PartQuestionAnswer, asked, refused, WholeQuestionAnswer, asked_whole, refused_whole, FileQuestionAnswer, QuestionAnswer, of_word, of_file, no_question}
use Rattle.tool_questions.proofs.Said.{IsAnswered, usage}
use Rattle.tool_questions.proofs.EveryLine.{every_line, every_check}
use Rattle.tool_questions.proofs.ReportLemmas.{elsewhere}

-- A text.

record HasRefusal (text : List ℕ) (number : ℕ) : Type 0 where
  refusal : Option Refusal
  is : RefusalAt text number refusal

refusal_here : (text : List ℕ) (p number line : ℕ) (reason : Reason) → FirstFault text p line reason → (p ≡ number) ⊎ (p ≡ number → ⊥) → HasRefusal text number
refusal_here text p number line reason fault (inl e) =
    record { refusal = Some (record { line = line; reason = reason }); is = subst (λ (n : ℕ). FirstFault text n line reason) e fault }
refusal_here text p number line reason fault (inr other) = record { refusal = None; is = elsewhere text p number line reason other fault }

refusal_by : (text : List ℕ) (number : ℕ) → ((statements : List StmtTree) × IsProgram text statements)
    ⊎ ((piece : ℕ) × (line : ℕ) × (reason : Reason) × FirstFault text piece line reason) → HasRefusal text number
refusal_by text number (inl program) = record { refusal = None; is = λ line reason fault. no_fault program.0 program.1 fault }
refusal_by text number (inr fault) = refusal_here text fault.0 number fault.1 fault.2 fault.3 (cases_eq fault.0 number)

known_by : (text : List ℕ) (number : ℕ) (pieces : List Piece) → IsCut text pieces → (place : Option Piece) → place ≡ part_numbered number pieces → (refusal : Option Refusal) →
    RefusalAt text number refusal → IsAnswered (KnownAnswer text number)
known_by text number pieces cut (Some piece) at refusal is =
    record {
      text = shown_text text number piece refusal;
      status = Done (pos 0);
      answer = shown (record { place = Some piece; refusal = refusal }) piece (record { pieces = pieces; cut = cut; place = at; refusal = is }) refl;
    }
known_by text number pieces cut None at (Some refusal) is =
    record {
      text = refusal_text number (Some refusal);
      status = Done (pos 0);
      answer = ended (record { place = None; refusal = Some refusal }) refusal (record { pieces = pieces; cut = cut; place = at; refusal = is }) refl refl;
    }
known_by text number pieces cut None at None is =
    record {
      text = usage_line 2;
      status = Usage 2;
      answer = lacking (record { place = None; refusal = None }) (record { pieces = pieces; cut = cut; place = at; refusal = is }) refl refl;
    }

every_known : (text : List ℕ) (number : ℕ) → IsAnswered (KnownAnswer text number)
every_known text number =
    let pieces = cut_exists text in
    let found = refusal_by text number (program_or_fault text) in
    known_by text number pieces.0 pieces.1 (part_numbered number pieces.0) refl found.refusal found.is

piece_by : (text : List ℕ) (number : ℕ) → (text_limit < length text) ⊎ (length text ≤ text_limit) → IsAnswered (PieceAnswer text number)
piece_by text number (inl more) =
    record { text = refusal_text 0 (Some (record { line = 0; reason = TooLong })); status = Done (pos 0); answer = long more too_long }
piece_by text number (inr short) = let a = every_known text number in record { text = a.text; status = a.status; answer = known short a.answer }

every_piece : (text : List ℕ) (number : ℕ) → IsAnswered (PieceAnswer text number)
every_piece text number = piece_by text number (cases_lt text_limit (length text))

-- The words.

explained_by : (word : List ℕ) (paragraphs : List (List ℕ)) → word_paragraphs word ≡ paragraphs → IsAnswered (IsExplained word)
explained_by word [] e = let a = usage 2 in record { text = a.text; status = a.status; answer = unknown e a.answer }
explained_by word (first ∷ rest) e =
    record { text = flat_map word_line (word_paragraphs word); status = Done (pos 0); answer = explained (λ none. absurd (cc)) refl refl }

every_word : (rest : List (List ℕ)) → IsAnswered (WordAnswer rest)
every_word [] = usage 2
every_word (word ∷ []) = explained_by word (word_paragraphs word) refl
every_word (word ∷ other ∷ rest) = usage 3

module _ (key : List ℕ) (knows : ℕ → List ℕ → Status → Type 0) (every : (n : ℕ) → IsAnswered (knows n)) where
  refuses : (rest : List (List ℕ)) (m : ℕ) → HasPartUsage key rest m → IsAnswered (PartQuestionAnswer key knows rest)
  refuses rest m is = let a = usage m in record { text = a.text; status = a.status; answer = refused m is a.answer }

  shows : (word file path : List ℕ) (n : ℕ) → NamesPart word n → NamesPath key file path → IsAnswered (PartQuestionAnswer key knows (word ∷ file ∷ []))
  shows word file path n number named =
      let a = every n in record { text = a.text; status = a.status; answer = asked n path (number, named) a.answer }

  by_file : (word file : List ℕ) (rest : List (List ℕ)) (n : ℕ) → NamesPart word n → IsFoundOrNot (NamesPath key file) →
      IsAnswered (PartQuestionAnswer key knows (word ∷ file ∷ rest))
  by_file word file rest n number (inr none) = refuses (word ∷ file ∷ rest) 3 (after_number n number (no_file none refl))
  by_file word file [] n number (inl found) = shows word file found.0 n number found.1
  by_file word file (more ∷ rest) n number (inl found) = refuses (word ∷ file ∷ more ∷ rest) 4 (after_number n number (after_file found.0 found.1 refl))

  by_number : (word : List ℕ) (rest : List (List ℕ)) → IsFoundOrNot (NamesPart word) → IsAnswered (PartQuestionAnswer key knows (word ∷ rest))
  by_number word rest (inr none) = refuses (word ∷ rest) 2 (no_number none refl)
  by_number word [] (inl found) = refuses (word ∷ []) 3 (after_number found.0 found.1 refl)
  by_number word (file ∷ rest) (inl found) = by_file word file rest found.0 found.1 (path_or_not key file)

  every_part_question : (rest : List (List ℕ)) → IsAnswered (PartQuestionAnswer key knows rest)
  every_part_question [] = refuses [] 2 refl
  every_part_question (word ∷ rest) = by_number word rest (number_or_not (codes "") 0 4294967295 word)

module _ (key : List ℕ) (knows : List ℕ → Status → Type 0) (every : IsAnswered knows) where
  refuses_whole : (rest : List (List ℕ)) (m : ℕ) → AreFileUsage key 2 rest m → IsAnswered (WholeQuestionAnswer key knows rest)
  refuses_whole rest m is = let a = usage m in record { text = a.text; status = a.status; answer = refused_whole m is a.answer }

  by_whole_file : (file : List ℕ) (rest : List (List ℕ)) → IsFoundOrNot (NamesPath key file) → IsAnswered (WholeQuestionAnswer key knows (file ∷ rest))
  by_whole_file file rest (inr none) = refuses_whole (file ∷ rest) 2 (no_file none refl)
  by_whole_file file [] (inl found) = record { text = every.text; status = every.status; answer = asked_whole found.0 found.1 every.answer }
  by_whole_file file (more ∷ rest) (inl found) = refuses_whole (file ∷ more ∷ rest) 3 (after_file found.0 found.1 refl)

  every_whole_question : (rest : List (List ℕ)) → IsAnswered (WholeQuestionAnswer key knows rest)
  every_whole_question [] = refuses_whole [] 2 refl
  every_whole_question (file ∷ rest) = by_whole_file file rest (path_or_not key file)

every_file_question : (bytes : List ℕ) (question : FileQuestion) (rest : List (List ℕ)) → IsAnswered (FileQuestionAnswer question (Some bytes) rest)
every_file_question bytes of_piece rest = every_part_question (file_key of_piece) (λ n. HeldPieceAnswer n (Some bytes)) (every_piece bytes) rest
every_file_question bytes of_line rest = every_part_question (file_key of_line) (λ n. HeldLineAnswer n (Some bytes)) (every_line bytes) rest
every_file_question bytes of_board rest = every_whole_question (file_key of_board) (HeldCheckAnswer (Some bytes)) (every_check bytes) rest

by_question : (bytes first : List ℕ) (rest : List (List ℕ)) (question : FileQuestion) → bytes_eq first (question_word question) ≡ true →
    IsAnswered (QuestionAnswer (Some bytes) (first ∷ rest))
by_question bytes first rest question is =
    let first_is = (bytes_eq-Decides first (question_word question)).0 is in
    let a = every_file_question bytes question rest in
    record { text = a.text; status = a.status; answer = of_file question rest (ap (λ (w : List ℕ). w ∷ rest) first_is) a.answer }

by_first : (bytes first : List ℕ) (rest : List (List ℕ)) (w p l b : Bool) → bytes_eq first (codes "--explain") ≡ w → bytes_eq first (codes "--piece") ≡ p →
    bytes_eq first (codes "--line") ≡ l → bytes_eq first (codes "--board") ≡ b → IsAnswered (QuestionAnswer (Some bytes) (first ∷ rest))
by_first bytes first rest true p l b is_word no_piece no_line no_board =
    let first_is = (bytes_eq-Decides first (codes "--explain")).0 is_word in
    let a = every_word rest in record { text = a.text; status = a.status; answer = of_word rest (ap (λ (w : List ℕ). w ∷ rest) first_is) a.answer }
by_first bytes first rest false true l b no_word is_piece no_line no_board = by_question bytes first rest of_piece is_piece
by_first bytes first rest false false true b no_word no_piece is_line no_board = by_question bytes first rest of_line is_line
by_first bytes first rest false false false true no_word no_piece no_line is_board = by_question bytes first rest of_board is_board
by_first bytes first rest false false false false no_word no_piece no_line no_board =
    let a = usage 1 in
    let none = or_from (bytes_eq first (codes "--explain")) _ no_word (or_from (bytes_eq first (codes "--piece")) _ no_piece
    (or_from (bytes_eq first (codes "--line")) (bytes_eq first (codes "--board")) no_line no_board)) in
    record { text = a.text; status = a.status; answer = no_question none a.answer }

pub every_question : (bytes : List ℕ) (words : List (List ℕ)) → (text : List ℕ) × (status : Status) × QuestionAnswer (Some bytes) words text status
every_question bytes [] = let a = usage 1 in (a.text, a.status, no_question refl a.answer)
every_question bytes (first ∷ rest) =
    let a = by_first bytes first rest (bytes_eq first (codes "--explain")) (bytes_eq first (codes "--piece")) (bytes_eq first (codes "--line"))
    (bytes_eq first (codes "--board")) refl refl refl refl in (a.text, a.status, a.answer)
