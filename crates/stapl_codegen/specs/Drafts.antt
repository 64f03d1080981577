-- What is written so far of the code of a program, and where its pieces begin.
use Rattle.std.specs.Prelude.{◌≡◌, ℕ, ◌+◌, ◌<◌, Bool, List, [], ◌∷◌, ◌++◌, length, drop, slice_index, Option, None, Some, if◌then◌else◌}
use Rattle.std.specs.List.{position_or_len}
use Rattle.std.specs.Map.{keys_of}
use Rattle.std.specs.Str.{bytes_eq}
use Rattle.stapl_syntax.specs.Trees.{ExprTree, ArrayTree, CompareTree, PartTree, BodyTree, StmtTree}
use Rattle.stapl_syntax.specs.Statements.{is_outer}
use Rattle.stapl_syntax.specs.Names.{Names, inside_next}
use Rattle.stapl_meaning.specs.declared.values.ValueKind.{ValueKind}
use Rattle.stapl_meaning.specs.Operands.{Operand, array_operands, given_operands, target_operands, compare_operands, part_operands}
use Rattle.stapl_meaning.specs.Scopes.{Scope, Preset, Played, block_at, lookup_from, label_from}
use Rattle.stapl_code.specs.declared.instr.PrintPart.{PrintPart}
use Rattle.stapl_code.specs.declared.instr.Source.{Source}
use Rattle.stapl_code.specs.declared.instr.Dest.{Dest}
use Rattle.stapl_code.specs.declared.instr.Compare.{Compare}
use Rattle.stapl_code.specs.declared.instr.Instr.{Instr}
use Rattle.stapl_code.specs.declared.instr.Instr.TheVariants.{Turn}
use Rattle.stapl_codegen.specs.Numbers.{numbers_from}
use Rattle.stapl_codegen.specs.Emit.{expr_code, int_code, operands_code, source_code, given_code, target_code, compare_code, print_parts, Firsts, texts_before, literals_before, pieces_code, row_code, body_code, presets_code, texts_of, literals_of, code_to, start_of}

-- Where a piece stands: the names of its program, at each of its blocks and after them the number of the next
-- procedure, how many pieces the program has, the block that is open before the piece, and the number of the piece,
-- which is also the place after it.
pub record Site : Type 0 where
  pub names : Names
  pub next : List ℕ
  pub count : ℕ
  pub inside : Option (List ℕ)
  pub piece : ℕ

-- the instructions, whose targets are places of the program, the texts, the literals, and where the next piece stands
pub record Draft : Type 0 where
  pub code : List Instr
  pub texts : List (List ℕ)
  pub literals : List (List Bool)
  pub site : Site

-- the number of a procedure by its name, from those at the blocks
abbrev pub number_in : Names → List ℕ → List ℕ → ℕ
number_in names next name = slice_index next (position_or_len (bytes_eq name) (keys_of names.blocks))

-- what a statement finds there; its code does not ask where procedures begin
abbrev pub scope_of_site : Site → Scope
scope_of_site site = record {
  look = lookup_from site.names site.inside;
  label = label_from site.names site.count site.inside;
  entry = λ p. 0;
  procedure = number_in site.names site.next;
  follow = site.piece;
}

-- where the piece at a place of a program stands
abbrev pub site_at : Played → ℕ → Site
site_at program i =
    record {
      names = program.names;
      next = numbers_from 0 program.names.blocks;
      count = length program.pieces;
      inside = block_at program.pieces i;
      piece = i + 1;
    }

-- where the piece after this statement stands
abbrev pub site_after : Site → BodyTree → Site
site_after site b = record site { inside = inside_next site.inside b; piece = site.piece + 1 }

-- a draft with code, with texts and with literals more
abbrev pub with_code : Draft → List Instr → Draft
with_code d code = record d { code = d.code ++ code }

abbrev pub with_texts : Draft → List (List ℕ) → Draft
with_texts d texts = record d { texts = d.texts ++ texts }

abbrev pub with_literals : Draft → List (List Bool) → Draft
with_literals d literals = record d { literals = d.literals ++ literals }

-- a draft after which the piece after this statement follows
abbrev pub passed : Draft → BodyTree → Draft
passed d b = record d { site = site_after d.site b }

-- the numbers of the next text and of the next literal
abbrev pub firsts_in : Draft → Firsts
firsts_in d = record { text = length d.texts; literal = length d.literals }

-- the code of an expression, of INT of an array, of operands, of a statement and of a piece that follow on a draft
abbrev pub expr_code_in : Draft → ValueKind → ExprTree → List Instr
expr_code_in d kind e = expr_code (scope_of_site d.site).look kind e []

abbrev pub int_code_in : Draft → ArrayTree → List Instr
int_code_in d a = int_code (scope_of_site d.site).look a []

abbrev pub operands_code_in : Draft → List Operand → List Instr
operands_code_in d os = operands_code (scope_of_site d.site).look os []

-- the operands of the parts of a PRINT, and what its instruction prints
abbrev pub part_operands_in : Draft → List PartTree → List Operand
part_operands_in d parts = part_operands (scope_of_site d.site).look parts

abbrev pub print_parts_in : Draft → List PartTree → List PrintPart
print_parts_in d parts = print_parts (scope_of_site d.site).look (length d.texts) parts

-- the operands of an array, and where its bits come from
abbrev pub array_operands_in : Draft → ArrayTree → List Operand
array_operands_in d a = array_operands (scope_of_site d.site).look a

abbrev pub source_in : Draft → ArrayTree → Source
source_in d a = source_code (scope_of_site d.site).look (length d.literals) a

-- the same of an array that may be left out, of where captured bits go, and of what a scan compares with
abbrev pub given_operands_in : Draft → Option ArrayTree → List Operand
given_operands_in d a = given_operands (scope_of_site d.site).look a

abbrev pub given_in : Draft → Option ArrayTree → Option Source
given_in d a = given_code (scope_of_site d.site).look (length d.literals) a

abbrev pub target_operands_in : Draft → Option ArrayTree → List Operand
target_operands_in d target = target_operands (scope_of_site d.site).look target

abbrev pub target_in : Draft → Option ArrayTree → Option Dest
target_in d target = target_code (scope_of_site d.site).look target

abbrev pub compare_operands_in : Draft → Option CompareTree → List Operand
compare_operands_in d compare = compare_operands (scope_of_site d.site).look compare

abbrev pub compare_in : Draft → Option CompareTree → Option Compare
compare_in d compare = compare_code (scope_of_site d.site).look (length d.literals) compare

abbrev pub body_code_in : Draft → BodyTree → List Instr
body_code_in d b = body_code (scope_of_site d.site) (λ j. j) (firsts_in d) b []

abbrev pub piece_code_in : Draft → StmtTree → List Instr
piece_code_in d st = if is_outer st.body then [] else Turn d.site.piece ∷ body_code_in d st.body

-- where an initial value of a DATA block stands, and its code
abbrev pub preset_site : Site → Preset → Site
preset_site site preset = record site { inside = Some preset.block }

-- its literal, if it has one, has this number
abbrev pub initial_code_in : Site → ℕ → BodyTree → List Instr
initial_code_in site literal b = row_code (scope_of_site site) (λ j. j) (record { text = 0; literal = literal }) b []

abbrev pub preset_code_in : Draft → ℕ → Option Preset → List Instr
preset_code_in d literal None = []
preset_code_in d literal (Some preset) = initial_code_in (preset_site d.site preset) literal preset.body

-- The initial values before a place are written, and nothing else is; so many literals stand before the place.
pub record ArePresetsWritten (program : Played) (i : ℕ) (d : Draft) (literals : ℕ) : Type 0 where
  pub code : d.code ++ presets_code program (λ j. j) i (drop i program.presets) [] ≡ presets_code program (λ j. j) 0 program.presets []
  pub texts : d.texts ≡ []
  pub no_literals : d.literals ≡ []
  pub site : d.site ≡ site_at program 0
  pub counted : literals ≡ length (literals_before program i)

-- these are where the first n pieces of a program begin
pub record StartsTo (program : Played) (n : ℕ) (starts : List ℕ) : Type 0 where
  pub all : length starts ≡ n
  pub each : (k : ℕ) → k < n → slice_index starts k ≡ start_of program k

-- these are where the pieces of a program begin
abbrev pub AreStarts : Played → List ℕ → Type 0
AreStarts program starts = StartsTo program (length program.pieces) starts

-- the first i pieces of a program are written
pub record AreDrafted (program : Played) (i : ℕ) (d : Draft) (starts : List ℕ) : Type 0 where
  pub code : d.code ++ pieces_code program (λ j. j) i (drop i program.pieces) ≡ code_to program (λ j. j)
  pub texts : d.texts ≡ texts_before program i
  pub literals : d.literals ≡ literals_before program i
  pub site : d.site ≡ site_at program i
  pub begins : StartsTo program i starts

-- These are the instructions of a program, whose targets are its places, its texts, its literals, and where its pieces
-- begin.
pub record IsDraft
    (program : Played) (code : List Instr) (texts : List (List ℕ)) (literals : List (List Bool)) (starts : List ℕ) :
    Type 0 where
  pub code_is : code ≡ code_to program (λ j. j)
  pub texts_are : texts ≡ texts_of program
  pub literals_are : literals ≡ literals_of program
  pub begins : AreStarts program starts
