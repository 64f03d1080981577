-- The words of the program, which are one: the name of the file of a board.
use Rattle.std.specs.Prelude.{ℕ, List, [], ◌∷◌, codes}
use Rattle.command_words.specs.KeyedWords.{NamesPath}

-- the words are one, which names this file
abbrev pub NamesBoard : List (List ℕ) → List ℕ → Type 0
NamesBoard (word ∷ []) path = NamesPath (codes "board=") word path
NamesBoard _ path = ⊥

-- they name no file
abbrev pub NamesNone : List (List ℕ) → Type 0
NamesNone words = (path : List ℕ) → NamesBoard words path → ⊥
