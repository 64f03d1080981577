-- The words of the program: `program=PATH`, `board=PATH` and `place=RUN`, in this order. The rules are this tool's own.
use Rattle.std.specs.Prelude.{◌≡◌, ◌<◌, ◌≤◌, ℕ, List, length, codes, slice_get, IsSomeAnd}
use Rattle.command_words.specs.declared.place_run.PlaceRun.{PlaceRun}
use Rattle.command_words.specs.KeyedWords.{most_place, NamesRun}
use Rattle.named_files.specs.Words.{NamesAt, FileNames}

abbrev pub NamesProgram : List (List ℕ) → List ℕ → Type 0
NamesProgram words path = NamesAt (codes "program=") words 0 path

abbrev pub NamesBoard : List (List ℕ) → List ℕ → Type 0
NamesBoard words path = NamesAt (codes "board=") words 1 path

-- the third word names this run of devices
abbrev pub NamesPlace : List (List ℕ) → PlaceRun → Type 0
NamesPlace words run = IsSomeAnd (slice_get words 2) (λ word. NamesRun (codes "place=") most_place word run)

-- a run of places, which are counted from 1
pub record IsPlaceRun (run : PlaceRun) : Type 0 where
  pub counted : 1 ≤ run.first
  pub in_order : run.first ≤ run.last

-- the names of the board and of the program, and the run of devices
pub record Request : Type 0 where
  pub files : FileNames
  pub run : PlaceRun

-- The words name these, and there are no others.
pub record IsRequest (words : List (List ℕ)) (request : Request) : Type 0 where
  pub program : NamesProgram words request.files.file
  pub board : NamesBoard words request.files.board
  pub place : NamesPlace words request.run
  pub three : length words ≡ 3

-- The words ask for these files, for some run.
abbrev pub Asks : List (List ℕ) → FileNames → Type 0
Asks words files = (run : PlaceRun) × IsRequest words (record { files = files; run = run })

-- The first word, counted from 1, that is not as stated; where all words are as stated and one is missing, that is the
-- number of words plus 1.
pub data IsUsage (words : List (List ℕ)) : ℕ → Type 0 where
  no_program : ((path : List ℕ) → NamesProgram words path → ⊥) → IsUsage words 1
  no_board : (program : List ℕ) → NamesProgram words program → ((path : List ℕ) → NamesBoard words path → ⊥) →
      IsUsage words 2
  no_place : (program board : List ℕ) → NamesProgram words program → NamesBoard words board →
      ((run : PlaceRun) → NamesPlace words run → ⊥) → IsUsage words 3
  too_many : (request : Request) → NamesProgram words request.files.file → NamesBoard words request.files.board →
      NamesPlace words request.run → 3 < length words → IsUsage words 4
