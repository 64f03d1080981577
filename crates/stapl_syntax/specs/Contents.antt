-- What the names, strings and literals of statements are (JESD71, names, strings, Boolean array literals).
use Rattle.std.specs.Prelude.{◌≡◌, ℕ, ◌*◌, ◌≤◌, List, Bool, false, IfSome, length, All}
use Rattle.stapl_lexer.specs.Names.{IsUpperName}
use Rattle.stapl_lexer.specs.ReservedWords.{is_reserved_word}
use Rattle.stapl_syntax.specs.Trees.{ArrayTree, literal, PartTree, string, exported_array, CompareTree, BodyTree, action, procedure, boolean_array, assign_array, assign_range, if_then, print, export, scan, pad}

-- a name that a block or an action may bear
pub record IsFreeName (name : List ℕ) : Type 0 where
  pub spelled : IsUpperName name
  pub free : is_reserved_word name ≡ false

-- an ACTION has a free name, and an item; a PROCEDURE has a free name
abbrev pub IsWellNamed : BodyTree → Type 0
IsWellNamed (action name text items) = IsFreeName name × (1 ≤ length items)
IsWellNamed (procedure name uses) = IsFreeName name
IsWellNamed _ = Unit {0}

-- a string among the parts of a PRINT has at most so many bytes
abbrev pub IsShortPart : ℕ → PartTree → Type 0
IsShortPart n (string bytes) = length bytes ≤ n
IsShortPart n _ = Unit {0}

-- each string that a statement prints has at most so many bytes, and so has the key under which it exports
abbrev pub PrintsShortStrings : ℕ → BodyTree → Type 0
PrintsShortStrings n (print parts) = All (IsShortPart n) parts
PrintsShortStrings n (export key x) = length key ≤ n
PrintsShortStrings n (if_then e body) = PrintsShortStrings n body
PrintsShortStrings n _ = Unit {0}

-- Bits of a literal that stands in so many bytes: at least one, and at most four for each byte.
pub record AreLiteralBits (n : ℕ) (bits : List Bool) : Type 0 where
  pub some : 1 ≤ length bits
  pub few : length bits ≤ 4 * n

-- an array, if it is a literal, has the bits of one in so many bytes
abbrev pub HoldsLiteral : ℕ → ArrayTree → Type 0
HoldsLiteral n (literal bits) = AreLiteralBits n bits
HoldsLiteral n _ = Unit {0}

-- so have both arrays that a scan compares with
abbrev pub HoldsBoth : ℕ → CompareTree → Type 0
HoldsBoth n compare = HoldsLiteral n compare.0 × HoldsLiteral n compare.1.0

-- each literal that stands as an array in a declaration, an assignment, an EXPORT, a scan or a padding has the bits of
-- one in so many bytes
abbrev pub HoldsLiterals : ℕ → BodyTree → Type 0
HoldsLiterals n (boolean_array name size bits) = IfSome bits (AreLiteralBits n)
HoldsLiterals n (assign_array name array) = HoldsLiteral n array
HoldsLiterals n (assign_range name high low array) = HoldsLiteral n array
HoldsLiterals n (export key (exported_array array)) = HoldsLiteral n array
HoldsLiterals n (scan register count source target compare) = HoldsLiteral n source × IfSome compare (HoldsBoth n)
HoldsLiterals n (pad which count bits) = IfSome bits (HoldsLiteral n)
HoldsLiterals n (if_then e body) = HoldsLiterals n body
HoldsLiterals n _ = Unit {0}
