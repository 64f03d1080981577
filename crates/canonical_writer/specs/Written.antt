-- Canonical text that is written token by token.
use Rattle.std.specs.Prelude.{ℕ, List, [], ◌∷◌, ◌++◌, Bool, true, false, if◌then◌else◌, Option}
use Rattle.canonical_writer.specs.declared.writer.Shape.{Shape}
use Rattle.canonical_writer.specs.declared.writer.Shape.TheVariants as shapes
use Rattle.stapl_lexer.specs.Crc.{check_word}
use Rattle.stapl_syntax.specs.Trees.{crc, StmtTree}
use Rattle.canonical_text.specs.PrintedTokens.{Printed, spelling}
use Rattle.canonical_text.specs.Spacing.{leans_back, leans_on, is_function, is_left_round}

-- what is written, and how the last token bears on the space after it
pub record Written : Type 0 where
  pub bytes : List ℕ
  pub last : Shape

-- how a token bears on the spaces around it
abbrev pub shape_of_flags : Bool → Bool → Bool → Bool → Shape
shape_of_flags on back function round =
    if round then shapes.Round
    else if function then shapes.Function
    else if on then (if back then shapes.LeansBoth else shapes.LeansOn)
    else if back then shapes.LeansBack
    else shapes.Usual

abbrev pub shape_of : Printed → Shape
shape_of t = shape_of_flags (leans_on t) (leans_back t) (is_function t) (is_left_round t)

-- no space stands between tokens of these shapes
unfoldable pub shapes_touch : Shape → Shape → Bool
shapes_touch shapes.Nothing next = true
shapes_touch shapes.LeansOn next = true
shapes_touch shapes.LeansBoth next = true
shapes_touch shapes.Round next = true
shapes_touch shapes.Function shapes.Round = true
shapes_touch last shapes.LeansBack = true
shapes_touch last shapes.LeansBoth = true
shapes_touch last _ = false

-- these bytes of this shape after what is written
abbrev pub put_as : Written → List ℕ → Shape → Written
put_as w bytes shape = record { bytes = w.bytes ++ ((if shapes_touch w.last shape then [] else 32 ∷ []) ++ bytes); last = shape }

abbrev pub written_one : Written → Printed → Written
written_one w t = put_as w (spelling t) (shape_of t)

-- tokens after what is written
abbrev pub written : Written → List Printed → Written
written w [] = w
written w (t ∷ ts) = written (written_one w t) ts

-- a line is begun after these bytes
abbrev pub line_begun : List ℕ → Written
line_begun bytes = record { bytes = bytes; last = shapes.Nothing }

-- CRC after these bytes
abbrev pub check_statement : Option (List ℕ) → List ℕ → StmtTree
check_statement label before = record { label = label; body = crc (check_word before) }
