-- The lines that say why there is no new program. The format is this tool's own.
use Rattle.std.specs.Prelude.{ℕ, pos, List, codes}
use Rattle.tool_io.specs.Texts.{number_line}

-- the board lacks a device of the run
abbrev pub place_line : List ℕ
place_line = codes "R place\n"

-- the first piece, counted from 1, that sets a padding
abbrev pub padding_line : ℕ → List ℕ
padding_line piece = number_line (codes "R padding ") (pos piece)

-- the new program is too large
abbrev pub too_large_line : List ℕ
too_large_line = codes "R print TooLarge\n"
