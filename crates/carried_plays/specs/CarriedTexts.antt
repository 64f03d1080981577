-- The text of a program that carries its own padding, and when there is none. The limits are this profile's.
use Rattle.std.specs.Prelude.{◌≡◌, ℕ, ◌<◌, ◌+◌, List, length}
use Rattle.stapl_lexer.specs.Pieces.{text_limit}
use Rattle.stapl_syntax.specs.Programs.{piece_limit}
use Rattle.stapl_syntax.specs.Trees.{StmtTree}
use Rattle.canonical_text.specs.CanonicalText.{canonical_text}
use Rattle.dev_card.specs.Padding.{BaseLengths}
use Rattle.carried_plays.specs.CarriedPrograms.{carried_program}
use Rattle.carried_plays.specs.PadNames.{pad_name, IsPadNumber}

-- the text of the program that carries this padding in the procedure with this number in its name
abbrev pub carried_text : ℕ → BaseLengths → List StmtTree → List ℕ
carried_text n base program = canonical_text (carried_program (pad_name n) base program)

-- The text is that of the program that carries this padding, in the procedure with the least free number in its name.
pub record IsCarriedText (base : BaseLengths) (program : List StmtTree) (text : List ℕ) : Type 0 where
  pub number : ℕ
  pub named : IsPadNumber program number
  pub whole : text ≡ carried_text number base program

-- The program that carries this padding is too large: with its six new pieces it has too many, or its text has too many
-- bytes.
pub data IsTooLarge (base : BaseLengths) (program : List StmtTree) : Type 0 where
  too_many_pieces : piece_limit < length program + 6 → IsTooLarge base program
  too_many_bytes : (n : ℕ) → IsPadNumber program n → text_limit < length (carried_text n base program) →
      IsTooLarge base program
