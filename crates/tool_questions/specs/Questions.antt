-- Questions about what the tool says, and their answers. The rules are this tool's own.
use Rattle.std.specs.Prelude.{◌≡◌, ◌≢◌, ◌+◌, ℕ, pos, Bool, false, ◌||◌, List, [], ◌∷◌, codes, Option}
use Rattle.std.specs.Str.{bytes_eq}
use Rattle.std.specs.List.{flat_map}
use Rattle.tool_io.specs.Texts.{word_line}
use Rattle.command_words.specs.KeyedWords.{NamesNumber, NamesPath}
use Rattle.named_files.specs.Texts.{usage_line}
use Rattle.tool_questions.specs.Explanations.{word_paragraphs}
use Rattle.play_words.specs.declared.status.Status.{Status}
use Rattle.play_words.specs.declared.status.Status.TheVariants.{Done, Usage}
use Rattle.tool_questions.specs.Pieces.{HeldPieceAnswer}
use Rattle.tool_questions.specs.BoardLines.{HeldLineAnswer, HeldCheckAnswer}

-- the questions about a file: for a piece of a program, for a line of a board, and for a board alone
pub data FileQuestion : Type 0 where
  of_piece : FileQuestion
  of_line : FileQuestion
  of_board : FileQuestion

-- the first word of each
abbrev pub question_word : FileQuestion → List ℕ
question_word of_piece = codes "--piece"
question_word of_line = codes "--line"
question_word of_board = codes "--board"

-- the key of its file
abbrev pub file_key : FileQuestion → List ℕ
file_key of_piece = codes "program="
file_key of_line = codes "board="
file_key of_board = codes "board="

-- the first word is that of a question
abbrev pub is_question : List ℕ → Bool
is_question word =
    bytes_eq word (codes "--explain") || (bytes_eq word (codes "--piece") || (bytes_eq word (codes "--line") || bytes_eq word (codes "--board")))

abbrev pub ask_question : List (List ℕ) → Bool
ask_question [] = false
ask_question (word ∷ rest) = is_question word

-- the refusal of a word, counted from 1
pub record IsUsage (n : ℕ) (said : List ℕ) (status : Status) : Type 0 where
  pub said_is : said ≡ usage_line n
  pub status_is : status ≡ Usage n

-- The answer to a word: what is said of it; or its refusal, if nothing is.
pub data IsExplained (word said : List ℕ) (status : Status) : Type 0 where
  explained : word_paragraphs word ≢ [] → said ≡ flat_map word_line (word_paragraphs word) → status ≡ Done (pos 0) → IsExplained word said status
  unknown : word_paragraphs word ≡ [] → IsUsage 2 said status → IsExplained word said status

-- The answer to the words after `--explain`, which is one word.
abbrev pub WordAnswer : List (List ℕ) → List ℕ → Status → Type 0
WordAnswer [] said status = IsUsage 2 said status
WordAnswer (word ∷ []) said status = IsExplained word said status
WordAnswer (word ∷ other ∷ rest) said status = IsUsage 3 said status

-- a word that is the number of a piece or of a line
abbrev pub NamesPart : List ℕ → ℕ → Type 0
NamesPart word n = NamesNumber (codes "") 0 4294967295 word n

-- The words are one, the file under this key.
abbrev pub IsFileNamed : List ℕ → List (List ℕ) → List ℕ → Type 0
IsFileNamed key (file ∷ []) path = NamesPath key file path
IsFileNamed key _ path = ⊥

-- The words are the number of a part of a text, and the file of the text.
abbrev pub IsPartAsked : List ℕ → List (List ℕ) → ℕ → List ℕ → Type 0
IsPartAsked key [] n path = ⊥
IsPartAsked key (word ∷ rest) n path = NamesPart word n × IsFileNamed key rest path

-- The first word of the command, counted from 1, that is not so; or the number of words plus 1 if one is missing. First
-- what follows the file, then the file, which is the word at this place, and what follows it, then the number and the
-- file.
abbrev pub IsMoreUsage : ℕ → List (List ℕ) → ℕ → Type 0
IsMoreUsage place [] m = ⊥
IsMoreUsage place (word ∷ rest) m = m ≡ place + 1

pub data IsFileUsage (key : List ℕ) (place : ℕ) (file : List ℕ) (rest : List (List ℕ)) (m : ℕ) : Type 0 where
  no_file : ((path : List ℕ) → NamesPath key file path → ⊥) → m ≡ place → IsFileUsage key place file rest m
  after_file : (path : List ℕ) → NamesPath key file path → IsMoreUsage place rest m → IsFileUsage key place file rest m

abbrev pub AreFileUsage : List ℕ → ℕ → List (List ℕ) → ℕ → Type 0
AreFileUsage key place [] m = m ≡ place
AreFileUsage key place (file ∷ rest) m = IsFileUsage key place file rest m

pub data IsNumberUsage (key word : List ℕ) (rest : List (List ℕ)) (m : ℕ) : Type 0 where
  no_number : ((n : ℕ) → NamesPart word n → ⊥) → m ≡ 2 → IsNumberUsage key word rest m
  after_number : (n : ℕ) → NamesPart word n → AreFileUsage key 3 rest m → IsNumberUsage key word rest m

abbrev pub HasPartUsage : List ℕ → List (List ℕ) → ℕ → Type 0
HasPartUsage key [] m = m ≡ 2
HasPartUsage key (word ∷ rest) m = IsNumberUsage key word rest m

-- The answer to words that are the number of a part and its file, if what is known of the part has this answer.
pub data PartQuestionAnswer (key : List ℕ) (known : ℕ → List ℕ → Status → Type 0) (rest : List (List ℕ)) (said : List ℕ) (status : Status) : Type 0 where
  asked : (n : ℕ) (path : List ℕ) → IsPartAsked key rest n path → known n said status → PartQuestionAnswer key known rest said status
  refused : (m : ℕ) → HasPartUsage key rest m → IsUsage m said status → PartQuestionAnswer key known rest said status

-- The answer to words that are a file alone, if what is known of the file has this answer.
pub data WholeQuestionAnswer (key : List ℕ) (known : List ℕ → Status → Type 0) (rest : List (List ℕ)) (said : List ℕ) (status : Status) : Type 0 where
  asked_whole : (path : List ℕ) → IsFileNamed key rest path → known said status → WholeQuestionAnswer key known rest said status
  refused_whole : (m : ℕ) → AreFileUsage key 2 rest m → IsUsage m said status → WholeQuestionAnswer key known rest said status

-- The answer to the words after the first, if the file that they name holds this.
abbrev pub FileQuestionAnswer : FileQuestion → Option (List ℕ) → List (List ℕ) → List ℕ → Status → Type 0
FileQuestionAnswer of_piece held rest said status = PartQuestionAnswer (file_key of_piece) (λ n. HeldPieceAnswer n held) rest said status
FileQuestionAnswer of_line held rest said status = PartQuestionAnswer (file_key of_line) (λ n. HeldLineAnswer n held) rest said status
FileQuestionAnswer of_board held rest said status = WholeQuestionAnswer (file_key of_board) (HeldCheckAnswer held) rest said status

-- The answer to words, if the file that they name holds this. Words that are no question are refused at the first.
pub data QuestionAnswer (held : Option (List ℕ)) (words : List (List ℕ)) (said : List ℕ) (status : Status) : Type 0 where
  of_word : (rest : List (List ℕ)) → words ≡ codes "--explain" ∷ rest → WordAnswer rest said status → QuestionAnswer held words said status
  of_file : (question : FileQuestion) (rest : List (List ℕ)) → words ≡ question_word question ∷ rest → FileQuestionAnswer question held rest said status →
      QuestionAnswer held words said status
  no_question : ask_question words ≡ false → IsUsage 1 said status → QuestionAnswer held words said status

-- the words after the first name this file
abbrev pub NamesQuestionFile : FileQuestion → List (List ℕ) → List ℕ → Type 0
NamesQuestionFile of_piece rest path = (n : ℕ) × IsPartAsked (file_key of_piece) rest n path
NamesQuestionFile of_line rest path = (n : ℕ) × IsPartAsked (file_key of_line) rest n path
NamesQuestionFile of_board rest path = IsFileNamed (file_key of_board) rest path

-- the words name this file
pub record IsAskedOf (words : List (List ℕ)) (path : List ℕ) : Type 0 where
  pub question : FileQuestion
  pub rest : List (List ℕ)
  pub words_are : words ≡ question_word question ∷ rest
  pub names : NamesQuestionFile question rest path
