-- What a sink has taken, where it tells: all bytes in the order in which they were written. Nothing is said of a sink
-- that tells nothing, but that it goes on to do so. The rules are the tool's own.
use Rattle.std.specs.Prelude.{◌≡◌, ℕ, List, ◌++◌, Option}
use Rattle.std.specs.Option.{option_map}

-- the told bytes, and then these; nothing, where nothing is told
abbrev pub then_bytes : Option (List ℕ) → List ℕ → Option (List ℕ)
then_bytes told bytes = option_map (λ xs. xs ++ bytes) told

-- Of the bytes that were to be written a front went to the sink, and the rest is still to be written.
pub record Moves (before : Option (List ℕ)) (bytes : List ℕ) (after : Option (List ℕ)) (rest : List ℕ) : Type 0 where
  pub front : List ℕ
  pub parts : bytes ≡ front ++ rest
  pub written : after ≡ then_bytes before front

-- A front went to the sink, perhaps none.
pub record MovesFront (before : Option (List ℕ)) (bytes : List ℕ) (after : Option (List ℕ)) : Type 0 where
  pub rest : List ℕ
  pub moves : Moves before bytes after rest
