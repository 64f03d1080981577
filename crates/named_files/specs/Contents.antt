-- The contents of the two files, as they were read, and which of them is read. The rules are these tools' own.
use Rattle.std.specs.Prelude.{◌≡◌, ℕ, List, Option, Some, IfSome}
use Rattle.dev_card.specs.declared.desc.Desc.{Desc}
use Rattle.tool_frame.specs.Files.{file_named, NamesTwo, first_of, second_of}
use Rattle.named_files.specs.Boards.{HasBoard}
use Rattle.named_files.specs.Words.{FileNames, IsRequest}

-- The bytes of the two files, each where it is held.
pub record Contents : Type 0 where
  pub board : Option (List ℕ)
  pub file : Option (List ℕ)

-- by their places, the board first
abbrev pub both_of : List (Option (List ℕ)) → Contents
both_of contents = record { board = first_of contents; file = second_of contents }

-- those that a store holds
abbrev pub contents_in : List (List ℕ × List ℕ) → FileNames → Contents
contents_in files named =
    record { board = file_named files (Some named.board); file = file_named files (Some named.file) }

-- This stands of the contents of the files of a request, as they were read: those that the store holds, if it tells its
-- files, and else some contents.
pub record OfContents (told : Option (List (List ℕ × List ℕ))) (named : FileNames) (stands : Contents → Type 0)
    : Type 0 where
  pub contents : Contents
  pub read : IfSome told (λ files. contents_in files named ≡ contents)
  pub holds : stands contents

-- The same of the files that are asked for. Words that are no request ask for none.
pub record OfAsked (asks : FileNames → Type 0) (told : Option (List (List ℕ × List ℕ))) (stands : Contents → Type 0)
    : Type 0 where
  pub contents : Contents
  pub read : (named : FileNames) → asks named → IfSome told (λ files. contents_in files named ≡ contents)
  pub holds : stands contents

-- the files of a request are named, the board at the first place
abbrev pub AreFilesOf : FileNames → List (Option (List ℕ)) → Type 0
AreFilesOf files named = NamesTwo files.board files.file named

-- The files that are asked for are named, the board at the first place.
pub record NamesBoth (asks : FileNames → Type 0) (named : List (Option (List ℕ))) : Type 0 where
  pub files : FileNames
  pub asked : asks files
  pub both : AreFilesOf files named

-- The same of words that are a board and one more file.
abbrev pub OfWords : List ℕ → Option (List (List ℕ × List ℕ)) → List (List ℕ) → (Contents → Type 0) → Type 0
OfWords key told words stands = OfAsked (IsRequest key words) told stands

-- The store holds the board of a request, and it is a board.
pub record HoldsBoard (named : FileNames) (files : List (List ℕ × List ℕ)) : Type 0 where
  pub devices : List Desc
  pub board : HasBoard (file_named files (Some named.board)) devices

-- A file of a request that is read: its board; or its other file, and if the store tells its files, the board is held
-- there and is a board.
pub data IsReached (told : Option (List (List ℕ × List ℕ))) (named : FileNames) (path : List ℕ) : Type 0 where
  board_reached : named.board ≡ path → IsReached told named path
  file_reached : named.file ≡ path → IfSome told (HoldsBoard named) → IsReached told named path

-- a file that is asked for and is read
pub record IsAskedAndReached (asks : FileNames → Type 0) (told : Option (List (List ℕ × List ℕ))) (path : List ℕ)
    : Type 0 where
  pub named : FileNames
  pub asked : asks named
  pub reached : IsReached told named path

-- a file that the words name and that is read, if they are a board and one more file
abbrev pub IsReachedBy : List ℕ → Option (List (List ℕ × List ℕ)) → List (List ℕ) → List ℕ → Type 0
IsReachedBy key told words path = IsAskedAndReached (IsRequest key words) told path
