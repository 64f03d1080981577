-- Named files, which of them are picked, and what a read gives of one. A name is the list of its bytes, and a file is
-- the list of its own. The rules are the tool's own.
use Rattle.std.specs.Prelude.{◌≡◌, ℕ, List, [], ◌∷◌, ◌++◌, take, Option, None, Some, Result, Ok, Err, if◌then◌else◌}
use Rattle.std.specs.Option.{option_map}
use Rattle.std.specs.Str.{bytes_eq}

-- the bytes of the first file of this name, where there is one
abbrev pub file_of : List (List ℕ × List ℕ) → List ℕ → Option (List ℕ)
file_of [] name = None
file_of (f ∷ fs) name = if bytes_eq f.0 name then Some f.1 else file_of fs name

-- A read put the next n bytes in front of the slice, and none exactly at the end: what was left before and what is left
-- now.
pub record Gives (before after : List ℕ) (n : ℕ) (into : List ℕ) : Type 0 where
  pub next : before ≡ take n into ++ after
  pub end : before ≡ [] → n ≡ 0
  pub only_end : n ≡ 0 → before ≡ []

-- the names of picks, and then these; nothing, where they are not told
abbrev pub then_names : Option (List (List ℕ)) → List (List ℕ) → Option (List (List ℕ))
then_names told names = option_map (λ ns. ns ++ names) told

-- Of these files some in front were picked, perhaps none or all, in their order and once each, and no other file was.
pub record PicksFront (before : Option (List (List ℕ))) (names : List (List ℕ)) (after : Option (List (List ℕ)))
    : Type 0 where
  pub count : ℕ
  pub picked : after ≡ then_names before (take count names)

-- One file was picked once, and no other was; after a failure perhaps none.
abbrev pub HasPicked : {T E : Type 0} → Option (List (List ℕ)) → List ℕ → Option (List (List ℕ)) → Result T E → Type 0
HasPicked before name after (Ok x) = after ≡ then_names before (name ∷ [])
HasPicked before name after (Err e) = PicksFront before (name ∷ []) after
