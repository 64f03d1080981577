-- The words of the command: `trace=PATH`, alone. The rules are this tool's own.
use Rattle.std.specs.Prelude.{◌≡◌, ◌<◌, ℕ, List, length, codes, slice_get, IsSomeAnd}
use Rattle.command_words.specs.KeyedWords.{NamesPath}

-- the first word is there and names this file
abbrev pub NamesTrace : List (List ℕ) → List ℕ → Type 0
NamesTrace words path = IsSomeAnd (slice_get words 0) (λ word. NamesPath (codes "trace=") word path)

-- The words name this file, and there is no other word.
pub record IsRequest (words : List (List ℕ)) (path : List ℕ) : Type 0 where
  pub trace : NamesTrace words path
  pub one : length words ≡ 1

-- The first word, counted from 1, that is not as stated; 1 where there is none.
pub data IsUsage (words : List (List ℕ)) : ℕ → Type 0 where
  no_trace : ((path : List ℕ) → NamesTrace words path → ⊥) → IsUsage words 1
  too_many : (trace : List ℕ) → NamesTrace words trace → 1 < length words → IsUsage words 2
