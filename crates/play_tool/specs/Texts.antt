-- The lines that this tool alone writes. The format is its own.
use Rattle.std.specs.Prelude.{ℕ, pos, List, ◌++◌, codes}
use Rattle.tool_io.specs.Texts.{labelled, number_line, word_line}
use Rattle.stapl_code.specs.declared.reason.CodeReason.{CodeReason}
use Rattle.stapl_code.specs.Reasons as codes_refused

-- the line of a refused code: the offset of the fault, and the reason
abbrev pub code_refusal_line : ℕ → CodeReason → List ℕ
code_refusal_line offset reason = labelled (codes "R code ") (pos offset) ++ codes " " ++ word_line (codes_refused.reason_name reason)

-- the first line of a soak: the number that it is made from, how many devices its board has, the place of the device
-- that its program is for, and how many pieces the program has
abbrev pub soak_line : ℕ → ℕ → ℕ → ℕ → List ℕ
soak_line seed devices place pieces =
    labelled (codes "soak ") (pos seed) ++ labelled (codes " devices ") (pos devices) ++ labelled (codes " place ") (pos place)
    ++ number_line (codes " pieces ") (pos pieces)
