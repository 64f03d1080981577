-- The shapes of a board's lines: what stands at each place of a line. The notation is this profile's.
--
--   plain NAME IRLEN [id HEX8 OP]
--   regs NAME IRLEN [id HEX8 OP]
--   flash NAME IRLEN [id HEX8 OP] erase OP addr OP prog OP read OP words N width W busy C fill B
--   reg NAME OP LENGTH keep
--   reg NAME OP LENGTH const HEX
use Rattle.std.specs.Prelude.{ℕ, Bool, true, false, ◌&&◌, ◌||◌, ◌==◌, ◌++◌, not, nat_le, List, [], ◌∷◌, length, slice_index, Option, codes}
use Rattle.std.specs.Char.{is_ascii_digit, is_ascii_hexdigit}
use Rattle.std.specs.List.{list_all, find}
use Rattle.std.specs.Str.{bytes_eq}
use Rattle.base.specs.Decimals.{is_decimal}
use Rattle.stapl_lexer.specs.Names.{is_name}
use Rattle.dev_card.specs.declared.desc.Kind.{Kind}
use Rattle.dev_card.specs.declared.desc.Kind.TheVariants as kinds
use Rattle.board_text.specs.declared.shapes.KeyWord.{KeyWord}
use Rattle.board_text.specs.declared.shapes.KeyWord.TheVariants as keys
use Rattle.board_text.specs.declared.shapes.Place.{Place}
use Rattle.board_text.specs.declared.shapes.Place.TheVariants as places
use Rattle.board_text.specs.declared.shapes.Shape.{Shape}
use Rattle.board_text.specs.declared.shapes.Shape.TheVariants as shapes

-- how a key word is spelled
abbrev pub spelling : KeyWord → List ℕ
spelling keys.Plain = codes "plain"
spelling keys.Regs = codes "regs"
spelling keys.Flash = codes "flash"
spelling keys.Reg = codes "reg"
spelling keys.Id = codes "id"
spelling keys.Keep = codes "keep"
spelling keys.Const = codes "const"
spelling keys.Erase = codes "erase"
spelling keys.Addr = codes "addr"
spelling keys.Prog = codes "prog"
spelling keys.Read = codes "read"
spelling keys.Words = codes "words"
spelling keys.Width = codes "width"
spelling keys.Busy = codes "busy"
spelling keys.Fill = codes "fill"

-- hexadecimal digits of either case
abbrev pub are_hexadecimal : List ℕ → Bool
are_hexadecimal word = list_all is_ascii_hexdigit word

-- an opcode is written with 1 to 16 of them
abbrev pub is_opcode_word : List ℕ → Bool
is_opcode_word word = nat_le 1 (length word) && nat_le (length word) 16 && are_hexadecimal word

-- an identity with eight
abbrev pub is_identity_word : List ℕ → Bool
is_identity_word word = (length word == 8) && are_hexadecimal word

-- and a constant with at least one
abbrev pub is_constant_word : List ℕ → Bool
is_constant_word word = nat_le 1 (length word) && are_hexadecimal word

-- a word is spelled as its place wants
abbrev pub is_spelled : Place → List ℕ → Bool
is_spelled (places.Key key) word = bytes_eq word (spelling key)
is_spelled places.Name word = is_name word
is_spelled places.Number word = is_decimal word
is_spelled places.Opcode word = is_opcode_word word
is_spelled places.Identity word = is_identity_word word
is_spelled places.Constant word = is_constant_word word

-- words are as many as the places, and each is spelled as its place wants
abbrev pub fits : List Place → List (List ℕ) → Bool
fits [] [] = true
fits [] (w ∷ ws) = false
fits (p ∷ ps) [] = false
fits (p ∷ ps) (w ∷ ws) = is_spelled p w && fits ps ws

-- the identity of a device, with the opcode that selects it
abbrev pub identity_places : List Place
identity_places = places.Key keys.Id ∷ places.Identity ∷ places.Opcode ∷ []

-- the memory of a Flash
abbrev pub memory_places : List Place
memory_places =
    places.Key keys.Erase ∷ places.Opcode ∷ places.Key keys.Addr ∷ places.Opcode ∷ places.Key keys.Prog ∷ places.Opcode ∷ places.Key keys.Read ∷ places.Opcode
    ∷ places.Key keys.Words ∷ places.Number ∷ places.Key keys.Width ∷ places.Number ∷ places.Key keys.Busy ∷ places.Number ∷ places.Key keys.Fill ∷ places.Number ∷ []

-- the key word of each kind, and what stands at the end of its line
abbrev pub kind_key : Kind → KeyWord
kind_key kinds.Plain = keys.Plain
kind_key kinds.Regs = keys.Regs
kind_key kinds.Flash = keys.Flash

abbrev pub own_places : Kind → List Place
own_places kinds.Plain = []
own_places kinds.Regs = []
own_places kinds.Flash = memory_places

-- what a register captures
abbrev pub capture_places : Bool → List Place
capture_places true = places.Key keys.Const ∷ places.Constant ∷ []
capture_places false = places.Key keys.Keep ∷ []

-- the places of each shape
abbrev pub places_of : Shape → List Place
places_of (shapes.Device kind true) = places.Key (kind_key kind) ∷ places.Name ∷ places.Number ∷ (identity_places ++ own_places kind)
places_of (shapes.Device kind false) = places.Key (kind_key kind) ∷ places.Name ∷ places.Number ∷ own_places kind
places_of (shapes.Register constant) = places.Key keys.Reg ∷ places.Name ∷ places.Opcode ∷ places.Number ∷ capture_places constant

abbrev pub all_shapes : List Shape
all_shapes =
    shapes.Device kinds.Plain false ∷ shapes.Device kinds.Plain true ∷ shapes.Device kinds.Regs false ∷ shapes.Device kinds.Regs true
    ∷ shapes.Device kinds.Flash false ∷ shapes.Device kinds.Flash true ∷ shapes.Register false ∷ shapes.Register true ∷ []

-- the shape that words have; no words have two
abbrev pub shape_of : List (List ℕ) → Option Shape
shape_of words = find (λ shape. fits (places_of shape) words) all_shapes
