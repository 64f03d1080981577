-- Files that words name, and their contents as they were read. The rules are the tools' own.
use Rattle.std.specs.Prelude.{◌≡◌, ℕ, List, [], ◌∷◌, map, Option, None, Some, IfSome, Result, IsErrOf}
use Rattle.tool_io.specs.Causes.{HasRisenAt, NoneFalls}
use Rattle.tool_io.specs.Files.{file_of, PicksFront}
use Rattle.tool_io.specs.declared.outside.Shelf.{Ghosts as ShelfOf}
use Rattle.tool_frame.specs.declared.no_answer.NoAnswer.{NoAnswer}
use Rattle.tool_frame.specs.declared.no_answer.NoAnswer.TheVariants.{Read}

-- the bytes of the file that is named, where it is held; none where none is named
abbrev pub file_named : List (List ℕ × List ℕ) → Option (List ℕ) → Option (List ℕ)
file_named files None = None
file_named files (Some path) = file_of files path

-- The bytes of the file that is named, as they were read: what the store holds there, if it tells that.
pub record AreRead (told : Option (List (List ℕ × List ℕ))) (named held : Option (List ℕ)) : Type 0 where
  pub same : IfSome told (λ files. file_named files named ≡ held)

-- This stands of the bytes of a file, as they were read: those that the store holds, if it tells its files, and else
-- some bytes.
pub record OfFile (told : Option (List (List ℕ × List ℕ))) (named : Option (List ℕ)) (stands : Option (List ℕ) → Type 0) : Type 0 where
  pub held : Option (List ℕ)
  pub read : AreRead told named held
  pub holds : stands held

-- This stands of the contents of the files that are named, in their order, as they were read: those that the store
-- holds, if it tells its files, and else some contents. A place for which no file is named has none.
pub record OfFiles (names : List (Option (List ℕ)) → Type 0) (told : Option (List (List ℕ × List ℕ)))
    (stands : List (Option (List ℕ)) → Type 0) : Type 0 where
  pub contents : List (Option (List ℕ))
  pub read : (named : List (Option (List ℕ))) → names named → IfSome told (λ files. map (file_named files) named ≡ contents)
  pub holds : stands contents

-- the file of this path is named, and no other
abbrev pub NamesThis : List ℕ → List (Option (List ℕ)) → Type 0
NamesThis path named = named ≡ Some path ∷ []

-- the files of these two paths are named, in this order, and no other
abbrev pub NamesTwo : List ℕ → List ℕ → List (Option (List ℕ)) → Type 0
NamesTwo first second named = named ≡ Some first ∷ Some second ∷ []

-- One file is named.
pub record NamesOne (IsNamed : List ℕ → Type 0) (named : List (Option (List ℕ))) : Type 0 where
  pub path : List ℕ
  pub is : IsNamed path
  pub alone : NamesThis path named

-- the contents of the first place
abbrev pub first_of : List (Option (List ℕ)) → Option (List ℕ)
first_of [] = None
first_of (held ∷ others) = held

-- and of the second
abbrev pub second_of : List (Option (List ℕ)) → Option (List ℕ)
second_of [] = None
second_of (held ∷ others) = first_of others

-- A file could not be read, which was reached: its count rose, or stands at its last value.
pub record HasReadCause {S : Type 0} (shelf : ShelfOf S) (reached : List ℕ → Type 0) (before after : S) : Type 0 where
  pub path : List ℕ
  pub is_reached : reached path
  pub rose : HasRisenAt shelf.faults shelf.is_last path before after

-- the paths at the places that name a file, in their order
abbrev pub paths_of : List (Option (List ℕ)) → List (List ℕ)
paths_of [] = []
paths_of (None ∷ named) = paths_of named
paths_of (Some path ∷ named) = path ∷ paths_of named

-- The picks before and after, if these files are named: some in front of them were picked, perhaps none or all, each
-- once and in the order of their places, and no other file was; and none was if no files are named.
pub data PicksNamed (names : List (Option (List ℕ)) → Type 0) (before after : Option (List (List ℕ))) : Type 0 where
  nothing_picked : after ≡ before → PicksNamed names before after
  files_picked : (named : List (Option (List ℕ))) → names named → PicksFront before (paths_of named) after →
      PicksNamed names before after

-- The store tells the same files, and no count fell; of the files that are named only some in front were picked, each
-- once, and no other was; and a read fault has its cause in a file that was reached.
pub record KeepsShelf {S T : Type 0} (shelf : ShelfOf S) (names : List (Option (List ℕ)) → Type 0)
    (reached : List ℕ → Type 0) (before after : S) (result : Result T NoAnswer) : Type 0 where
  pub keeps : shelf.told after ≡ shelf.told before
  pub later : NoneFalls shelf.faults shelf.is_last before after
  pub once : PicksNamed names (shelf.picks before) (shelf.picks after)
  pub read : IsErrOf result Read → HasReadCause shelf reached before after
