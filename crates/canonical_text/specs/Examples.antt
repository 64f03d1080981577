-- Statements as examples, whose canonical texts are written out in the laws.
use Rattle.std.specs.Prelude.{pos, negsuc, List, [], ◌∷◌, true, false, Some, None, codes}
use Rattle.stapl_lexer.specs.declared.terminal.BinOp.TheVariants.{Multiply, Add, Subtract, Equal, And}
use Rattle.stapl_lexer.specs.declared.terminal.Register.TheVariants as registers
use Rattle.stapl_syntax.specs.declared.signs.UnOp.TheVariants.{Negate, Not}
use Rattle.stapl_syntax.specs.declared.statement.ItemChoice.TheVariants as choices
use Rattle.stapl_syntax.specs.Trees.{number, scalar, element, unary, binary, literal, whole, range, of_int, string}
use Rattle.stapl_syntax.specs.Trees.{value, character, BodyTree, action, procedure, end_procedure, boolean_array}
use Rattle.stapl_syntax.specs.Trees.{integer_array, if_then, for_loop, goto, print, scan, state_list, wait_cycles}
use Rattle.stapl_syntax.specs.Trees.{frequency, StmtTree}

-- a statement without a label
abbrev pub bare_statement : BodyTree → StmtTree
bare_statement body = record { label = None; body = body }

-- a string, a character, brackets and a sign in PRINT
abbrev pub first_example : List StmtTree
first_example =
    bare_statement (action (codes "A") None ((codes "P", None) ∷ []))
    ∷ bare_statement (procedure (codes "P") None)
    ∷ bare_statement (print (string (codes "x") ∷ character (number (pos 65))
    ∷ value (binary Multiply (binary Add (number (pos 1)) (number (pos 2))) (number (pos 3)))
    ∷ value (unary Negate (number (pos 4))) ∷ []))
    ∷ bare_statement end_procedure ∷ []

-- a literal of four bits, the lowest first, and a frequency
abbrev pub second_example : List StmtTree
second_example =
    bare_statement (boolean_array (codes "X") (pos 4) (Some (false ∷ true ∷ false ∷ true ∷ [])))
    ∷ bare_statement (frequency (Some (number (pos 1000000)))) ∷ []

-- a label, conditions after one another, signs over one another, all parts of a scan, the least initial value, and more
abbrev pub third_example : List StmtTree
third_example =
    record {
      label = Some (codes "L");
      body = if_then (binary And (unary Not (scalar (codes "OK")))
          (binary Equal (scalar (codes "I")) (unary Negate (unary Negate (number (pos 4))))))
          (if_then (number (pos 1)) (goto (codes "BAD")));
    }
    ∷ bare_statement (scan registers.Data (number (pos 8)) (literal (false ∷ false ∷ true ∷ true ∷ true ∷ []))
    (Some (range (codes "X") (binary Subtract (number (pos 7)) (binary Subtract (number (pos 1)) (number (pos 2))))
    (number (pos 0))))
    (Some (whole (codes "E"), (of_int (number (negsuc 2147483647)), element (codes "R") (number (pos 3))))))
    ∷ bare_statement (integer_array (codes "N") (pos 3) (Some (negsuc 4 ∷ negsuc 2147483647 ∷ pos 7 ∷ [])))
    ∷ bare_statement (wait_cycles (Some 1) (number (pos 3)) (Some (number (pos 10))) (Some 13))
    ∷ bare_statement (state_list (0 ∷ 1 ∷ []))
    ∷ bare_statement (for_loop (codes "I") (number (pos 3)) (number (pos 1)) (Some (unary Negate (number (pos 1)))))
    ∷ bare_statement (action (codes "A") (Some (codes "t"))
    ((codes "P", Some choices.Optional) ∷ (codes "Q", None) ∷ [])) ∷ []
