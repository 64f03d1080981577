-- On boards in files, and on the contents of files.
use Rattle.std.proofs.Common.{◌≡◌, ◌<◌, ◌+◌, ℕ, List, length, Option, None, Some, IfSome, IsSomeAnd, refl, subst, replicate, arith, inl}
use Rattle.std.proofs.lemmas.List.{length-replicate}
use Rattle.tool_io.specs.Files.{file_of}
use Rattle.dev_card.specs.declared.desc.Desc.{Desc}
use Rattle.board_text.specs.declared.reason.BoardReason.TheVariants as reasons
use Rattle.board_text.specs.declared.reason.BoardReason.{BoardReason}
use Rattle.board_text.specs.Boards.{most_bytes, IsFirstFault}
use Rattle.board_text.proofs.OneAnswer.{one_board, one_first_fault, no_board_has_a_fault}
use Rattle.tool_frame.specs.Files.{file_named, AreRead, OfFile}
use Rattle.named_files.specs.Boards.{HasBoard, HasBoardFault, ReadsBoardFault}

-- there is a text of each length
text_of_length : (n : ℕ) → (text : List ℕ) × (length text ≡ n)
text_of_length n = (replicate n 0, length-replicate n 0)

is_longer : (text : List ℕ) (n : ℕ) → length text ≡ n + 1 → n < length text
is_longer text n e = omega arith

-- and so a longer one
pub long_text : (n : ℕ) → (text : List ℕ) × (n < length text)
long_text n = let t = text_of_length (n + 1) in (t.0, is_longer t.0 n t.1)

-- The contents of a file.

are_read : (told : Option (List (List ℕ × List ℕ))) (path bytes : List ℕ) → IfSome told (λ files. file_of files path ≡ Some bytes) → AreRead told (Some path) (Some bytes)
are_read told path bytes e = record { same = e }

-- more that stands of the same contents
pub of_file_as : {told : Option (List (List ℕ × List ℕ))} {named : Option (List ℕ)} {P Q : Option (List ℕ) → Type 0} →
    ((held : Option (List ℕ)) → P held → Q held) → OfFile told named P → OfFile told named Q
of_file_as f o = record { held = o.held; read = o.read; holds = f o.held o.holds }

-- what stands of all contents
pub of_any_file : (told : Option (List (List ℕ × List ℕ))) (named : Option (List ℕ)) {P : Option (List ℕ) → Type 0} →
    ((held : Option (List ℕ)) → P held) → OfFile told named P
of_any_file None named f = record { held = None; read = record { same = tt }; holds = f None }
of_any_file (Some files) named f = record { held = file_named files named; read = record { same = refl }; holds = f (file_named files named) }

-- the bytes that were read whole
pub of_whole_file : (told : Option (List (List ℕ × List ℕ))) (path bytes : List ℕ) {P : Option (List ℕ) → Type 0} →
    IfSome told (λ files. file_of files path ≡ Some bytes) → P (Some bytes) → OfFile told (Some path) P
of_whole_file told path bytes e p = record { held = Some bytes; read = are_read told path bytes e; holds = p }

-- bytes of more than so many
pub of_long_file : (told : Option (List (List ℕ × List ℕ))) (path : List ℕ) (n : ℕ) →
    IfSome told (λ files. IsSomeAnd (file_of files path) (λ bytes. n < length bytes)) →
    OfFile told (Some path) (λ held. IsSomeAnd held (λ bytes. n < length bytes))
of_long_file None path n long = let t = long_text n in record { held = Some t.0; read = record { same = tt }; holds = t.1 }
of_long_file (Some files) path n long = record { held = file_of files path; read = record { same = refl }; holds = long }

-- A text is too long.

too_long : (bytes : List ℕ) → most_bytes < length bytes → IsFirstFault bytes 0 reasons.TooLong
too_long bytes long = inl (record { long = long; line_is = refl; reason_is = refl })

long_held : (held : Option (List ℕ)) → IsSomeAnd held (λ bytes. most_bytes < length bytes) → IsSomeAnd held (λ bytes. IsFirstFault bytes 0 reasons.TooLong)
long_held None long = long
long_held (Some bytes) long = too_long bytes long

pub reads_long : (told : Option (List (List ℕ × List ℕ))) (path : List ℕ) → IfSome told (λ files. IsSomeAnd (file_of files path) (λ bytes. most_bytes < length bytes)) →
    ReadsBoardFault told path 0 reasons.TooLong
reads_long told path long = of_file_as long_held (of_long_file told path most_bytes long)

-- There is one board, or one fault.

pub one_held : (held : Option (List ℕ)) (a b : List Desc) → HasBoard held a → HasBoard held b → a ≡ b
one_held None a b x y = absurd x
one_held (Some bytes) a b x y = one_board bytes a b x y

pub one_fault : (held : Option (List ℕ)) (m n : ℕ) (r s : BoardReason) → HasBoardFault held m r → HasBoardFault held n s → (m ≡ n) × (r ≡ s)
one_fault None m n r s x y = absurd x
one_fault (Some bytes) m n r s x y = one_first_fault bytes m n r s x y

pub board_or_fault : (held : Option (List ℕ)) (devices : List Desc) (n : ℕ) (r : BoardReason) → HasBoard held devices → HasBoardFault held n r → ⊥
board_or_fault None devices n r x y = y
board_or_fault (Some bytes) devices n r x y = no_board_has_a_fault bytes devices n r x y

pub fault_is : {told : Option (List (List ℕ × List ℕ))} {path : List ℕ} (m n : ℕ) (r s : BoardReason) → m ≡ n → r ≡ s → ReadsBoardFault told path m r →
    ReadsBoardFault told path n s
fault_is {told = told} {path = path} m n r s e f x = subst (λ (k : ℕ). ReadsBoardFault told path k s) e (subst (ReadsBoardFault told path m) f x)
