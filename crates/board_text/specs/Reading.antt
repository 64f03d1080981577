-- What the reader keeps while it reads a text from its front.
use Rattle.std.specs.Prelude.{◌≡◌, ◌≤◌, ℕ, Bool, true, false, List, length, take, drop, Option}
use Rattle.std.specs.Option.{option_map}
use Rattle.std.specs.Str.Lines.{lines}
use Rattle.dev_card.specs.declared.desc.Desc.{Desc}
use Rattle.board_text.specs.declared.reason.BoardReason.{BoardReason}
use Rattle.board_text.specs.Lines.{words_of}
use Rattle.board_text.specs.declared.register.RegisterWords.{RegisterWords}
use Rattle.board_text.specs.Contents.{RegisterLine, Content, constant_bits, line_content}
use Rattle.board_text.specs.Boards.{AreFaultless, ReasonAgainst, devices_of, devices_with}

-- one above each limit of a number in a board
abbrev pub cap : ℕ
cap = 1000001

-- what a register's line says, as its reader keeps it
abbrev pub line_of : RegisterWords → RegisterLine
line_of r =
    let digits : Option (List ℕ) = option_map (λ d. d.now) r.digits in
    record { description = record { name = r.name; op = r.op; len = r.len; constant = option_map (constant_bits r.len) digits }; digits = digits }

-- a device whose opcodes have 64 bits at most
abbrev pub IsNarrow : Desc → Type 0
IsNarrow d = d.ir_len ≤ 64

-- what a line says is without a fault, and gives these devices
pub record Extends (earlier : List Desc) (content : Option Content) (later : List Desc) : Type 0 where
  pub faultless : (reason : BoardReason) → ¬ ReasonAgainst earlier content reason
  pub later_is : later ≡ devices_with earlier content

-- a line without a fault leads from some devices to others
abbrev pub LeadsTo : Bool → List Desc → List ℕ → List Desc → Type 0
LeadsTo true earlier line later = later ≡ earlier
LeadsTo false earlier line later = Extends earlier (line_content (words_of line)) later

-- the bytes in front of a place are so many whole lines, without a fault, and give these devices
pub record IsReadUpTo (text : List ℕ) (at count : ℕ) (devices : List Desc) : Type 0 where
  pub within : at ≤ length text
  pub counted : count ≤ at
  pub inside : count ≤ length (lines text)
  pub rest : drop count (lines text) ≡ lines (drop at text)
  pub faultless : AreFaultless (lines text) count
  pub given : devices ≡ devices_of (take count (lines text))
