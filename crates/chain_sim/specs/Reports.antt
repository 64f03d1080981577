-- What is read of a device for its line in a report, and lines that are put in parts. The rules are this profile's.
use Rattle.std.specs.Prelude.{◌≡◌, ℕ, Bool, List, [], ◌++◌, Option, Some, None, codes, slice_index_or}
use Rattle.base.specs.Bits.{low_bits}
use Rattle.tool_io.specs.declared.lines.Lines.{Lines}
use Rattle.tool_io.specs.declared.outside.Sink.{Ghosts as SinkOf}
use Rattle.tool_io.specs.Lines.{Puts}
use Rattle.dev_card.specs.Card.{Card}
use Rattle.bit_list.specs.Hexadecimal.{all_hex_digits}
use Rattle.dev_card.specs.Reports.{named_text, held_text, report_line, report_of}

-- the cells of a card, and one of them
abbrev pub cells_in : Option Card → List (List Bool)
cells_in None = []
cells_in (Some c) = c.cells

abbrev pub cell_in : Option Card → ℕ → List Bool
cell_in card k = slice_index_or (cells_in card) k []

-- what a line says of the instruction in force, and of the cells
abbrev pub instruction_in : Option Card → List ℕ
instruction_in None = []
instruction_in (Some c) = named_text (codes "ir") (all_hex_digits (low_bits c.desc.ir_len c.instruction))

abbrev pub held_in : Option Card → List ℕ
held_in None = []
held_in (Some c) = held_text c.desc.kind c

-- the line of a card, and those of a board
abbrev pub line_in : Option Card → List ℕ
line_in None = []
line_in (Some c) = report_line c

abbrev pub report_in : Option (List Card) → List ℕ
report_in None = []
report_in (Some cs) = report_of cs

-- A text was put, and with this rest it is the whole.
pub record PutsBut {K : Type 0} (sink : SinkOf K) (whole : List ℕ) (old : Lines K) (rest : List ℕ)
    (new : Lines K) : Type 0 where
  pub front : List ℕ
  pub put : Puts sink old front new
  pub all : front ++ rest ≡ whole
