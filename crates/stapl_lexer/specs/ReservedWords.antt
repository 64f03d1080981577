-- The reserved words. The words are those of JESD71; that all of them, and no others, are reserved is this profile's
-- rule.
use Rattle.std.specs.Prelude.{ℕ, List, [], ◌∷◌, Bool, ◌&&◌, not, codes, Option, is_some}
use Rattle.std.specs.Str.{str_eq_ignore_ascii_case}
use Rattle.stapl_lexer.specs.declared.terminal.Function.TheVariants as functions
use Rattle.stapl_lexer.specs.declared.terminal.InnerWord.TheVariants as inners
use Rattle.stapl_lexer.specs.declared.terminal.JoinWord.TheVariants as joins
use Rattle.stapl_lexer.specs.declared.terminal.OuterWord.TheVariants as outers
use Rattle.stapl_lexer.specs.declared.terminal.Padding.TheVariants as paddings
use Rattle.stapl_lexer.specs.declared.terminal.PortWord.TheVariants as ports
use Rattle.stapl_lexer.specs.declared.terminal.Register.TheVariants as registers
use Rattle.stapl_lexer.specs.declared.terminal.SimpleWord.TheVariants as simples
use Rattle.stapl_lexer.specs.declared.terminal.Terminal.{Terminal}
use Rattle.stapl_lexer.specs.declared.terminal.Terminal.TheVariants as terminals
use Rattle.stapl_lexer.specs.Names.{is_name}
use Rattle.stapl_lexer.specs.Terminals.{terminal_in}

-- The reserved words, each with what it is, the shortest first. A state has its number in the order of the table of
-- states; TRST, VECTOR and VMAP begin statements that this profile leaves out, and CEIL, FLOOR, LOG2, MAX and SQRT are
-- left out too.
abbrev pub reserved_words : List (List ℕ × Terminal)
reserved_words =
    (codes "IF", terminals.If) ∷
    (codes "TO", terminals.Join joins.To) ∷
    (codes "CRC", terminals.Outer outers.Crc) ∷
    (codes "FOR", terminals.Simple simples.For) ∷
    (codes "POP", terminals.Simple simples.Pop) ∷
    (codes "ABS", terminals.Function functions.Abs) ∷
    (codes "INT", terminals.Function functions.Int) ∷
    (codes "MAX", terminals.LeftOutWord) ∷
    (codes "NOTE", terminals.Outer outers.Note) ∷
    (codes "DATA", terminals.Outer outers.Data) ∷
    (codes "CALL", terminals.Simple simples.Call) ∷
    (codes "GOTO", terminals.Simple simples.Goto) ∷
    (codes "NEXT", terminals.Simple simples.Next) ∷
    (codes "PUSH", terminals.Simple simples.Push) ∷
    (codes "EXIT", terminals.Simple simples.Exit) ∷
    (codes "WAIT", terminals.Port ports.Wait) ∷
    (codes "STEP", terminals.Join joins.Step) ∷
    (codes "THEN", terminals.Join joins.Then) ∷
    (codes "USEC", terminals.Join joins.Usec) ∷
    (codes "USES", terminals.Join joins.Uses) ∷
    (codes "BOOL", terminals.Function functions.Bool) ∷
    (codes "CHR$", terminals.Function functions.Character) ∷
    (codes "IDLE", terminals.State 1) ∷
    (codes "TRST", terminals.LeftOutStatement) ∷
    (codes "VMAP", terminals.LeftOutStatement) ∷
    (codes "CEIL", terminals.LeftOutWord) ∷
    (codes "LOG2", terminals.LeftOutWord) ∷
    (codes "SQRT", terminals.LeftOutWord) ∷
    (codes "PRINT", terminals.Simple simples.Print) ∷
    (codes "PREDR", terminals.Port (ports.Pad paddings.PreData)) ∷
    (codes "PREIR", terminals.Port (ports.Pad paddings.PreInstruction)) ∷
    (codes "STATE", terminals.Port ports.State) ∷
    (codes "RESET", terminals.State 0) ∷
    (codes "FLOOR", terminals.LeftOutWord) ∷
    (codes "ACTION", terminals.Outer outers.Action) ∷
    (codes "EXPORT", terminals.Simple simples.Export) ∷
    (codes "DRSCAN", terminals.Port (ports.Scan registers.Data)) ∷
    (codes "IRSCAN", terminals.Port (ports.Scan registers.Instruction)) ∷
    (codes "DRSTOP", terminals.Port (ports.Stop registers.Data)) ∷
    (codes "IRSTOP", terminals.Port (ports.Stop registers.Instruction)) ∷
    (codes "POSTDR", terminals.Port (ports.Pad paddings.PostData)) ∷
    (codes "POSTIR", terminals.Port (ports.Pad paddings.PostInstruction)) ∷
    (codes "CYCLES", terminals.Join joins.Cycles) ∷
    (codes "VECTOR", terminals.LeftOutStatement) ∷
    (codes "ENDDATA", terminals.Outer outers.EndData) ∷
    (codes "ENDPROC", terminals.Inner inners.EndProcedure) ∷
    (codes "BOOLEAN", terminals.Inner inners.Boolean) ∷
    (codes "INTEGER", terminals.Inner inners.Integer) ∷
    (codes "CAPTURE", terminals.Join joins.Capture) ∷
    (codes "COMPARE", terminals.Join joins.Compare) ∷
    (codes "DRSHIFT", terminals.State 4) ∷
    (codes "DREXIT1", terminals.State 5) ∷
    (codes "DRPAUSE", terminals.State 6) ∷
    (codes "DREXIT2", terminals.State 7) ∷
    (codes "IRSHIFT", terminals.State 11) ∷
    (codes "IREXIT1", terminals.State 12) ∷
    (codes "IRPAUSE", terminals.State 13) ∷
    (codes "IREXIT2", terminals.State 14) ∷
    (codes "OPTIONAL", terminals.Join joins.Optional) ∷
    (codes "DRSELECT", terminals.State 2) ∷
    (codes "DRUPDATE", terminals.State 8) ∷
    (codes "IRSELECT", terminals.State 9) ∷
    (codes "IRUPDATE", terminals.State 15) ∷
    (codes "PROCEDURE", terminals.Outer outers.Procedure) ∷
    (codes "FREQUENCY", terminals.Port ports.Frequency) ∷
    (codes "DRCAPTURE", terminals.State 3) ∷
    (codes "IRCAPTURE", terminals.State 10) ∷
    (codes "RECOMMENDED", terminals.Join joins.Recommended) ∷
    []

-- the bytes spell this word; letter case is ignored
abbrev pub spells_word : List ℕ → List ℕ → Bool
spells_word word bytes = str_eq_ignore_ascii_case bytes word

-- what reserved word the bytes spell, if any; letter case is ignored
unfoldable pub word_terminal : List ℕ → Option Terminal
word_terminal bytes = terminal_in (λ word. spells_word word bytes) reserved_words

-- the bytes spell a reserved word
abbrev pub is_reserved_word : List ℕ → Bool
is_reserved_word bytes = is_some (word_terminal bytes)

-- the bytes spell a name that is not reserved
abbrev pub is_free_name : List ℕ → Bool
is_free_name bytes = is_name bytes && not (is_reserved_word bytes)
