-- The tokens of canonical text, and how each is spelled (JESD71, statements). The form of canonical text is this
-- profile's.
use Rattle.std.specs.Prelude.{ℕ, ◌%◌, ◌==◌, nat_abs, slice_get, unwrap_or, List, [], ◌∷◌, ◌++◌, Bool, length, codes, if◌then◌else◌}
use Rattle.std.specs.Fmt.{decimal}
use Rattle.base.specs.Bits.{low_bits}
use Rattle.bit_list.specs.Hexadecimal.{all_hex_digits}
use Rattle.stapl_lexer.specs.declared.terminal.BinOp.{BinOp}
use Rattle.stapl_lexer.specs.declared.terminal.BinOp.TheVariants.{Multiply, Divide, Remainder, Add, Subtract, ShiftLeft, ShiftRight, Less, AtMost, Greater}
use Rattle.stapl_lexer.specs.declared.terminal.BinOp.TheVariants.{AtLeast, Equal, NotEqual, BitAnd, BitXor, BitOr, And, Or}
use Rattle.stapl_lexer.specs.declared.terminal.Function.{Function}
use Rattle.stapl_lexer.specs.declared.terminal.Function.TheVariants as functions
use Rattle.stapl_lexer.specs.declared.terminal.InnerWord.{InnerWord}
use Rattle.stapl_lexer.specs.declared.terminal.InnerWord.TheVariants as inners
use Rattle.stapl_lexer.specs.declared.terminal.JoinWord.{JoinWord}
use Rattle.stapl_lexer.specs.declared.terminal.JoinWord.TheVariants as joins
use Rattle.stapl_lexer.specs.declared.terminal.Mark.{Mark}
use Rattle.stapl_lexer.specs.declared.terminal.Mark.TheVariants as marks
use Rattle.stapl_lexer.specs.declared.terminal.OuterWord.{OuterWord}
use Rattle.stapl_lexer.specs.declared.terminal.OuterWord.TheVariants as outers
use Rattle.stapl_lexer.specs.declared.terminal.Padding.TheVariants as paddings
use Rattle.stapl_lexer.specs.declared.terminal.PortWord.{PortWord}
use Rattle.stapl_lexer.specs.declared.terminal.PortWord.TheVariants as ports
use Rattle.stapl_lexer.specs.declared.terminal.Register.TheVariants as registers
use Rattle.stapl_lexer.specs.declared.terminal.SimpleWord.{SimpleWord}
use Rattle.stapl_lexer.specs.declared.terminal.SimpleWord.TheVariants as simples
use Rattle.stapl_syntax.specs.declared.signs.Sign.{Sign}
use Rattle.stapl_syntax.specs.declared.signs.Sign.TheVariants as signs
use Rattle.stapl_syntax.specs.declared.signs.UnOp.{UnOp}
use Rattle.stapl_syntax.specs.declared.signs.UnOp.TheVariants.{Negate, Complement, Not}
use Rattle.stapl_syntax.specs.Symbols.{Symbol, Plain, Text, Literal, CheckWord}
use Rattle.stapl_syntax.specs.Expressions.{operator, mark}

-- A token that is printed. The mark of an operator with one operand is told from that of one with two, since no space
-- stands after it.
pub data Printed : Type 0 where
  -- what the grammar sees
  Seen : Symbol → Printed
  -- an operator with one operand
  UnaryMark : UnOp → Printed

-- the symbol of an operator with one operand
unfoldable pub unary_symbol : UnOp → Symbol
unary_symbol Negate = operator Subtract
unary_symbol Complement = mark marks.Tilde
unary_symbol Not = mark marks.Exclamation

-- what the grammar sees of a printed token
abbrev pub seen : Printed → Symbol
seen (Seen t) = t
seen (UnaryMark op) = unary_symbol op

unfoldable pub operator_spelling : BinOp → List ℕ
operator_spelling Multiply = codes "*"
operator_spelling Divide = codes "/"
operator_spelling Remainder = codes "%"
operator_spelling Add = codes "+"
operator_spelling Subtract = codes "-"
operator_spelling ShiftLeft = codes "<<"
operator_spelling ShiftRight = codes ">>"
operator_spelling Less = codes "<"
operator_spelling AtMost = codes "<="
operator_spelling Greater = codes ">"
operator_spelling AtLeast = codes ">="
operator_spelling Equal = codes "=="
operator_spelling NotEqual = codes "!="
operator_spelling BitAnd = codes "&"
operator_spelling BitXor = codes "^"
operator_spelling BitOr = codes "|"
operator_spelling And = codes "&&"
operator_spelling Or = codes "||"

unfoldable pub mark_spelling : Mark → List ℕ
mark_spelling marks.Tilde = codes "~"
mark_spelling marks.Exclamation = codes "!"
mark_spelling marks.LeftRound = codes "("
mark_spelling marks.RightRound = codes ")"
mark_spelling marks.LeftSquare = codes "["
mark_spelling marks.RightSquare = codes "]"
mark_spelling marks.Dots = codes ".."
mark_spelling marks.Comma = codes ","
mark_spelling marks.Equals = codes "="
mark_spelling marks.Colon = codes ":"

unfoldable pub outer_spelling : OuterWord → List ℕ
outer_spelling outers.Note = codes "NOTE"
outer_spelling outers.Action = codes "ACTION"
outer_spelling outers.Procedure = codes "PROCEDURE"
outer_spelling outers.Data = codes "DATA"
outer_spelling outers.EndData = codes "ENDDATA"
outer_spelling outers.Crc = codes "CRC"

unfoldable pub inner_spelling : InnerWord → List ℕ
inner_spelling inners.EndProcedure = codes "ENDPROC"
inner_spelling inners.Boolean = codes "BOOLEAN"
inner_spelling inners.Integer = codes "INTEGER"

unfoldable pub simple_spelling : SimpleWord → List ℕ
simple_spelling simples.Call = codes "CALL"
simple_spelling simples.Goto = codes "GOTO"
simple_spelling simples.For = codes "FOR"
simple_spelling simples.Next = codes "NEXT"
simple_spelling simples.Push = codes "PUSH"
simple_spelling simples.Pop = codes "POP"
simple_spelling simples.Print = codes "PRINT"
simple_spelling simples.Export = codes "EXPORT"
simple_spelling simples.Exit = codes "EXIT"

unfoldable pub port_spelling : PortWord → List ℕ
port_spelling (ports.Scan registers.Data) = codes "DRSCAN"
port_spelling (ports.Scan registers.Instruction) = codes "IRSCAN"
port_spelling (ports.Stop registers.Data) = codes "DRSTOP"
port_spelling (ports.Stop registers.Instruction) = codes "IRSTOP"
port_spelling (ports.Pad paddings.PreData) = codes "PREDR"
port_spelling (ports.Pad paddings.PostData) = codes "POSTDR"
port_spelling (ports.Pad paddings.PreInstruction) = codes "PREIR"
port_spelling (ports.Pad paddings.PostInstruction) = codes "POSTIR"
port_spelling ports.State = codes "STATE"
port_spelling ports.Wait = codes "WAIT"
port_spelling ports.Frequency = codes "FREQUENCY"

unfoldable pub join_spelling : JoinWord → List ℕ
join_spelling joins.Capture = codes "CAPTURE"
join_spelling joins.Compare = codes "COMPARE"
join_spelling joins.Cycles = codes "CYCLES"
join_spelling joins.Optional = codes "OPTIONAL"
join_spelling joins.Recommended = codes "RECOMMENDED"
join_spelling joins.Step = codes "STEP"
join_spelling joins.Then = codes "THEN"
join_spelling joins.To = codes "TO"
join_spelling joins.Usec = codes "USEC"
join_spelling joins.Uses = codes "USES"

unfoldable pub function_spelling : Function → List ℕ
function_spelling functions.Abs = codes "ABS"
function_spelling functions.Bool = codes "BOOL"
function_spelling functions.Character = codes "CHR$"
function_spelling functions.Int = codes "INT"

-- the states in the order of their numbers
abbrev pub state_names : List (List ℕ)
state_names =
    codes "RESET" ∷ codes "IDLE" ∷ codes "DRSELECT" ∷ codes "DRCAPTURE" ∷ codes "DRSHIFT" ∷ codes "DREXIT1"
    ∷ codes "DRPAUSE" ∷ codes "DREXIT2" ∷ codes "DRUPDATE" ∷ codes "IRSELECT" ∷ codes "IRCAPTURE" ∷ codes "IRSHIFT"
    ∷ codes "IREXIT1" ∷ codes "IRPAUSE" ∷ codes "IREXIT2" ∷ codes "IRUPDATE" ∷ []

-- A number is in decimal. Those that tokens stand for are at least 0, but for -2147483648, for which 2147483648 stands;
-- a sign is a token of its own. A name is in upper case. The words that this profile leaves out are never printed.
unfoldable pub sign_spelling : Sign → List ℕ
sign_spelling (signs.Number z) = decimal (nat_abs z)
sign_spelling (signs.Name v) = v
sign_spelling (signs.State k) = unwrap_or (slice_get state_names k) []
sign_spelling (signs.Operator op) = operator_spelling op
sign_spelling (signs.Mark m) = mark_spelling m
sign_spelling (signs.Outer w) = outer_spelling w
sign_spelling (signs.Inner w) = inner_spelling w
sign_spelling (signs.Simple w) = simple_spelling w
sign_spelling signs.If = codes "IF"
sign_spelling (signs.Port w) = port_spelling w
sign_spelling (signs.Join w) = join_spelling w
sign_spelling (signs.Function f) = function_spelling f
sign_spelling signs.LeftOutStatement = []
sign_spelling signs.LeftOutWord = []
sign_spelling signs.Other = []

-- the binary digits of bits, the highest first
abbrev pub binary_digits : List Bool → List ℕ
binary_digits [] = []
binary_digits (b ∷ bits) = binary_digits bits ++ (if b then 49 else 48) ∷ []

-- a literal: `$` (36) and hexadecimal digits if four bits go into each, and else `#` (35) and binary ones
abbrev pub literal_spelling : List Bool → List ℕ
literal_spelling bits = if length bits % 4 == 0 then 36 ∷ all_hex_digits bits else 35 ∷ binary_digits bits

-- the bytes of a token: a string has its quotes (34), the digits after CRC are four
abbrev pub spelling : Printed → List ℕ
spelling (Seen (Plain sign)) = sign_spelling sign
spelling (Seen (Text bytes)) = 34 ∷ bytes ++ 34 ∷ []
spelling (Seen (Literal bits)) = literal_spelling bits
spelling (Seen (CheckWord n)) = all_hex_digits (low_bits 16 n)
spelling (UnaryMark Negate) = codes "-"
spelling (UnaryMark Complement) = codes "~"
spelling (UnaryMark Not) = codes "!"
