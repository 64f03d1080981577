-- The board in a file that is named. The rules are the tools' own.
use Rattle.std.specs.Prelude.{ℕ, List, Option, Some, IsSomeAnd}
use Rattle.dev_card.specs.declared.desc.Desc.{Desc}
use Rattle.board_text.specs.declared.reason.BoardReason.{BoardReason}
use Rattle.board_text.specs.Boards.{IsBoard, IsFirstFault}
use Rattle.tool_frame.specs.Files.{OfFile}

-- Some bytes are held, and they are the board of these devices.
abbrev pub HasBoard : Option (List ℕ) → List Desc → Type 0
HasBoard held devices = IsSomeAnd held (λ bytes. IsBoard bytes devices)

-- Some bytes are held, and this is their first fault as a board.
abbrev pub HasBoardFault : Option (List ℕ) → ℕ → BoardReason → Type 0
HasBoardFault held line reason = IsSomeAnd held (λ bytes. IsFirstFault bytes line reason)

-- The bytes that were read at a path are the board of these devices.
abbrev pub ReadsBoard : Option (List (List ℕ × List ℕ)) → List ℕ → List Desc → Type 0
ReadsBoard told path devices = OfFile told (Some path) (λ held. HasBoard held devices)

-- The bytes that were read at a path are no board, and this is their first fault.
abbrev pub ReadsBoardFault : Option (List (List ℕ × List ℕ)) → List ℕ → ℕ → BoardReason → Type 0
ReadsBoardFault told path line reason = OfFile told (Some path) (λ held. HasBoardFault held line reason)
