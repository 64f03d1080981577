-- The words of a command on a board and one more file: `board=PATH`, and after it the other file under a key of its
-- own. A key is its bytes with the equals sign. The rules are these tools' own.
use Rattle.std.specs.Prelude.{◌≡◌, ◌<◌, ℕ, List, length, codes, slice_get, IsSomeAnd}
use Rattle.command_words.specs.KeyedWords.{NamesPath}

-- the word at a place, counted from 0, is there and names this file under this key
abbrev pub NamesAt : List ℕ → List (List ℕ) → ℕ → List ℕ → Type 0
NamesAt key words place path = IsSomeAnd (slice_get words place) (λ word. NamesPath key word path)

abbrev pub NamesBoard : List (List ℕ) → List ℕ → Type 0
NamesBoard words path = NamesAt (codes "board=") words 0 path

abbrev pub NamesFile : List ℕ → List (List ℕ) → List ℕ → Type 0
NamesFile key words path = NamesAt key words 1 path

-- the names of the two files
pub record FileNames : Type 0 where
  pub board : List ℕ
  pub file : List ℕ

-- The words name these files, and there are no others.
pub record IsRequest (key : List ℕ) (words : List (List ℕ)) (files : FileNames) : Type 0 where
  pub board : NamesBoard words files.board
  pub file : NamesFile key words files.file
  pub two : length words ≡ 2

-- The first word, counted from 1, that is not as stated; where all words are as stated and one is missing, that is the
-- number of words plus 1.
pub data IsUsage (key : List ℕ) (words : List (List ℕ)) : ℕ → Type 0 where
  no_board : ((path : List ℕ) → NamesBoard words path → ⊥) → IsUsage key words 1
  no_file : (board : List ℕ) → NamesBoard words board → ((path : List ℕ) → NamesFile key words path → ⊥) →
      IsUsage key words 2
  too_many : (board file : List ℕ) → NamesBoard words board → NamesFile key words file → 2 < length words →
      IsUsage key words 3
