-- The text of bits, and how it is put.
use Rattle.std.specs.Prelude.{◌≡◌, ℕ, Bool, List, ◌++◌, take, codes}
use Rattle.tool_io.specs.declared.lines.Lines.{Lines}
use Rattle.tool_io.specs.declared.outside.Sink.{Ghosts as SinkOf}
use Rattle.tool_io.specs.Lines.{Puts}
use Rattle.bit_list.specs.Hexadecimal.{all_hex_digits}

-- the text of bits: a dollar sign, and their digits
abbrev pub hex_text : List Bool → List ℕ
hex_text list = codes "$" ++ all_hex_digits list

-- A text was put in front of the digits of the lowest n bits, and with them it is this whole.
pub record PutsDigits {K : Type 0} (sink : SinkOf K) (list : List Bool) (whole : List ℕ) (old : Lines K) (n : ℕ) (new : Lines K) : Type 0 where
  pub front : List ℕ
  pub put : Puts sink old front new
  pub rest : front ++ all_hex_digits (take n list) ≡ whole
