-- Symbols of the grammar with a fixed spelling, found in tables by that spelling (JESD71, statements and expressions).
use Rattle.std.specs.Prelude.{ℕ, List, [], ◌∷◌, Bool, if◌then◌else◌, Option, None, Some}
use Rattle.stapl_lexer.specs.declared.terminal.Terminal.{Terminal}

-- what the first row of a table is whose spelling passes the test
abbrev pub terminal_in : (List ℕ → Bool) → List (List ℕ × Terminal) → Option Terminal
terminal_in spells [] = None
terminal_in spells (row ∷ rows) = if spells row.0 then Some row.1 else terminal_in spells rows
