-- The words of the program, which are one: the name of the file of a program. The rules are this tool's own.
use Rattle.std.specs.Prelude.{◌≡◌, ◌≢◌, ℕ, List, [], ◌∷◌, codes}
use Rattle.command_words.specs.KeyedWords.{NamesPath}

-- a word that names the file of a program
abbrev pub IsProgramWord : List ℕ → List ℕ → Type 0
IsProgramWord word path = NamesPath (codes "program=") word path

-- the words are one, which names this file
abbrev pub NamesProgram : List (List ℕ) → List ℕ → Type 0
NamesProgram (word ∷ []) path = IsProgramWord word path
NamesProgram _ path = ⊥

-- The word is not as stated, or it is and another one follows it.
pub data IsWordUsage (word : List ℕ) (rest : List (List ℕ)) (n : ℕ) : Type 0 where
  no_program : ((path : List ℕ) → IsProgramWord word path → ⊥) → n ≡ 1 → IsWordUsage word rest n
  too_many : (path : List ℕ) → IsProgramWord word path → rest ≢ [] → n ≡ 2 → IsWordUsage word rest n

-- The first word, counted from 1, that is not as stated, or the number of words plus 1 if one is missing.
abbrev pub HasUsage : List (List ℕ) → ℕ → Type 0
HasUsage [] n = n ≡ 1
HasUsage (word ∷ rest) n = IsWordUsage word rest n
