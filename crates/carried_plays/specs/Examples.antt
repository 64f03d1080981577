-- Programs as examples: one that carries a padding, one whose blocks have the first names, and one with a padding of
-- its own inside IF.
use Rattle.std.specs.Prelude.{pos, List, [], ◌∷◌, true, false, Some, None, codes}
use Rattle.stapl_lexer.specs.declared.terminal.Padding.TheVariants as paddings
use Rattle.stapl_lexer.specs.declared.terminal.Register.TheVariants as registers
use Rattle.stapl_syntax.specs.declared.statement.ItemChoice.TheVariants as choices
use Rattle.stapl_syntax.specs.Trees.{number, literal, whole, exported_array, action, procedure, data_block, end_data}
use Rattle.stapl_syntax.specs.Trees.{crc, end_procedure, boolean_array, if_then, export, scan, pad, StmtTree}
use Rattle.canonical_text.specs.Examples.{bare_statement}
use Rattle.dev_card.specs.Padding.{BaseLengths}

-- one action, and a procedure that scans the registers and exports what it captures
abbrev pub scanning_program : List StmtTree
scanning_program =
    bare_statement (action (codes "A") None ((codes "P", None) ∷ []))
    ∷ bare_statement (procedure (codes "P") None)
    ∷ bare_statement (boolean_array (codes "X") (pos 8) None)
    ∷ bare_statement (scan registers.Instruction (number (pos 4))
    (literal (false ∷ true ∷ false ∷ false ∷ [])) None None)
    ∷ bare_statement (scan registers.Data (number (pos 8))
    (literal (true ∷ false ∷ true ∷ false ∷ false ∷ true ∷ false ∷ true ∷ [])) None None)
    ∷ bare_statement (scan registers.Data (number (pos 8))
    (literal (false ∷ false ∷ true ∷ true ∷ true ∷ true ∷ false ∷ false ∷ [])) (Some (whole (codes "X"))) None)
    ∷ bare_statement (export (codes "X") (exported_array (whole (codes "X"))))
    ∷ bare_statement end_procedure ∷ []

-- between a device with an instruction of 2 bits and one of 5
abbrev pub middle_base : BaseLengths
middle_base = record { ir_pre = 2; ir_post = 5; dr_pre = 1; dr_post = 1 }

-- a procedure and a DATA block have the names with the numbers 0 and 2; a CRC is the end
abbrev pub named_program : List StmtTree
named_program =
    bare_statement (action (codes "A") (Some (codes "t")) ((codes "CHAIN_PAD_0", Some choices.Optional) ∷ []))
    ∷ bare_statement (action (codes "B") None ((codes "CHAIN_PAD_0", None) ∷ []))
    ∷ bare_statement (procedure (codes "CHAIN_PAD_0") None) ∷ bare_statement end_procedure
    ∷ bare_statement (data_block (codes "CHAIN_PAD_2")) ∷ bare_statement end_data ∷ bare_statement (crc 4660) ∷ []

-- the fourth piece sets a padding, inside IF, and so does the fifth
abbrev pub padding_program : List StmtTree
padding_program =
    bare_statement (action (codes "A") None ((codes "P", None) ∷ []))
    ∷ bare_statement (procedure (codes "P") None)
    ∷ bare_statement (if_then (number (pos 1)) (scan registers.Data (number (pos 1)) (literal (true ∷ [])) None None))
    ∷ bare_statement (if_then (number (pos 1)) (if_then (number (pos 0)) (pad paddings.PostData (number (pos 3)) None)))
    ∷ bare_statement (pad paddings.PreInstruction (number (pos 3)) None) ∷ bare_statement end_procedure ∷ []
