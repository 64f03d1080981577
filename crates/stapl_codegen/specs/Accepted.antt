-- What the compiler asks of a program, and what each program has.
use Rattle.std.specs.Prelude.{◌≡◌, ◌≤◌, ℕ, true, length, All, IfSome, Option, None, Some, sum_by}
use Rattle.stapl_lexer.specs.Pieces.{text_limit}
use Rattle.stapl_syntax.specs.Trees.{StmtTree}
use Rattle.stapl_shapes.specs.Shapes.{is_inner_shape, HasShape}
use Rattle.stapl_shapes.specs.Sizes.{body_size, statements_size}
use Rattle.stapl_syntax.specs.Contents.{IsWellNamed}
use Rattle.stapl_meaning.specs.Scopes.{Preset, Played}
use Rattle.stapl_meaning.specs.Typed.{IsTyped}
use Rattle.stapl_code.specs.Ranges.{IsLiteral}
use Rattle.stapl_codegen.specs.Emit.{literals_of, texts_of}

-- how large an initial value of a DATA block is, if there is one
abbrev pub preset_size : Option Preset → ℕ
preset_size None = 0
preset_size (Some preset) = body_size preset.body

-- A program that is compiled: its statements and the declarations of its DATA blocks have their shapes and are typed,
-- its actions and procedures have names that they may bear, neither its texts nor its statements nor those declarations
-- are larger than the text of a program may be, and its literals have bits.
pub record IsAccepted (program : Played) : Type 0 where
  pub shaped : All HasShape program.pieces
  pub presets_shaped : All (λ (o : Option Preset). IfSome o (λ preset. is_inner_shape preset.body ≡ true)) program.presets
  pub typed : IsTyped program
  pub named : All (λ (st : StmtTree). IsWellNamed st.body) program.pieces
  pub size : statements_size program.pieces ≤ text_limit
  pub presets_size : sum_by preset_size program.presets ≤ text_limit
  pub literals : All IsLiteral (literals_of program)
  pub texts : All (λ text. length text ≤ text_limit) (texts_of program)
