-- What `check` says of a program: how many statements it has, and whether its check word is that of its text (JESD71,
-- CRC statement). The format is this tool's own.
use Rattle.std.specs.Prelude.{◌≡◌, ℕ, ◌-◌, pos, List, [], ◌∷◌, ◌++◌, Bool, true, false, ◌==◌, codes, count_by, length, take, slice_get, Option, None, Some, if◌then◌else◌}
use Rattle.std.specs.Option.{option_map_or}
use Rattle.base.specs.Bits.{low_bits}
use Rattle.bit_list.specs.Hexadecimal.{all_hex_digits}
use Rattle.tool_io.specs.Texts.{labelled}
use Rattle.stapl_lexer.specs.declared.piece.Piece.{Piece}
use Rattle.stapl_lexer.specs.declared.token.Token.{Token}
use Rattle.stapl_lexer.specs.Crc.{check_word}
use Rattle.stapl_lexer.specs.PieceFaults.{AreTokens}
use Rattle.stapl_lexer.specs.Pieces.{IsCut}
use Rattle.stapl_syntax.specs.Trees.{BodyTree, action, procedure, data_block, crc, StmtTree, body_tree}
use Rattle.stapl_syntax.specs.declared.statement.Stmt.{Stmt}
use Rattle.program_reports.specs.declared.checking.CheckWords.{CheckWords}
use Rattle.program_reports.specs.declared.checking.StatementKind.{StatementKind}
use Rattle.program_reports.specs.declared.checking.StatementKind.TheVariants.{Action, Procedure, Data}

-- a statement is of this kind
abbrev pub is_of_kind : StatementKind → BodyTree → Bool
is_of_kind Action (action name text items) = true
is_of_kind Procedure (procedure name uses) = true
is_of_kind Data (data_block name) = true
is_of_kind _ _ = false

unfoldable pub has_kind : StatementKind → Stmt → Bool
has_kind kind statement = is_of_kind kind (body_tree statement.body)

-- how many statements of a program are of a kind
abbrev pub count_of : StatementKind → List StmtTree → ℕ
count_of kind program = count_by (λ st. is_of_kind kind st.body) program

-- a label and how many statements of a program are of a kind
abbrev pub labelled_count : List ℕ → StatementKind → List StmtTree → List ℕ
labelled_count label kind program = labelled label (pos (count_of kind program))

-- the counts of the blocks, and the end of the line
abbrev pub block_counts : List StmtTree → List ℕ
block_counts program = labelled_count (codes " procedures ") Procedure program ++ labelled_count (codes " data ") Data program ++ 10 ∷ []

-- the line of the counts; a program has a piece for each statement
abbrev pub counts_line : List StmtTree → List ℕ
counts_line program =
    labelled (codes "ok pieces ") (pos (length program)) ++ labelled_count (codes " actions ") Action program ++ block_counts program

-- the check word that a statement holds
abbrev pub word_of : BodyTree → Option ℕ
word_of (crc n) = Some n
word_of _ = None

-- The check word that a program holds. Its CRC statement, if it has one, is the last.
abbrev pub stored_word : List StmtTree → Option ℕ
stored_word program = option_map_or (λ st. word_of st.body) (slice_get program (length program - 1)) None

-- The token is the first one of the last piece of the text. In a program that ends with the CRC statement it is the
-- word CRC.
pub record BeginsLastPiece (text : List ℕ) (word : Token) : Type 0 where
  pub pieces : List Piece
  pub cut : IsCut text pieces
  pub piece : Piece
  pub last : slice_get pieces (length pieces - 1) ≡ Some piece
  pub after : List Token
  pub tokens : AreTokens text piece (word ∷ after)

-- The check word that a program holds, and the one of its text before the word CRC; or that it holds none.
pub data HasCheckWords (text : List ℕ) (program : List StmtTree) : Option CheckWords → Type 0 where
  holds_none : stored_word program ≡ None → HasCheckWords text program None
  holds_one : (stored : ℕ) (word : Token) → stored_word program ≡ Some stored → BeginsLastPiece text word →
      HasCheckWords text program (Some (record { stored = stored; computed = check_word (take word.start text) }))

-- the four upper-case hexadecimal digits of a check word
abbrev pub hex_word : ℕ → List ℕ
hex_word n = all_hex_digits (low_bits 16 n)

-- a label and a check word
abbrev pub labelled_word : List ℕ → ℕ → List ℕ
labelled_word label n = label ++ hex_word n

-- the line of a good check word
abbrev pub good_line : ℕ → List ℕ
good_line word = labelled_word (codes "crc good ") word ++ 10 ∷ []

-- the line of one that differs from that of the text
abbrev pub differing_line : ℕ → ℕ → List ℕ
differing_line stored computed = labelled_word (codes "crc differs stored ") stored ++ labelled_word (codes " computed ") computed ++ 10 ∷ []

-- the line of a check word, by that of the text
abbrev pub compared_line : CheckWords → List ℕ
compared_line words = if words.stored == words.computed then good_line words.stored else differing_line words.stored words.computed

-- the line of the check word
abbrev pub crc_line : Option CheckWords → List ℕ
crc_line None = codes "crc none\n"
crc_line (Some words) = compared_line words

-- what is said of a program with these check words
abbrev pub check_text : List StmtTree → Option CheckWords → List ℕ
check_text program words = counts_line program ++ crc_line words

-- What `check` says of a program.
pub data IsCheckText (text : List ℕ) (program : List StmtTree) : List ℕ → Type 0 where
  checked : (words : Option CheckWords) → HasCheckWords text program words → IsCheckText text program (check_text program words)
