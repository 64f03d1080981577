-- The words of a line that has a shape, by their places.
use Rattle.std.proofs.Common.{◌≡◌, ◌<◌, ◌≤◌, ◌%◌, ℕ, List, [], length, get_or, refl, ap, ◌∙◌, Bool, true, false, arith}
use Rattle.std.specs.Prelude.{if◌then◌else◌, nat_le}
use Rattle.std.specs.Option.{ForSome}
use Rattle.std.proofs.lemmas.Bool.{and_parts, false≢true}
use Rattle.dev_card.specs.declared.desc.Kind.{Kind}
use Rattle.dev_card.specs.declared.desc.Kind.TheVariants as kinds
use Rattle.board_text.specs.declared.shapes.Place.TheVariants as places
use Rattle.board_text.specs.declared.shapes.Shape.TheVariants as shapes
use Rattle.stapl_lexer.specs.Names.{is_name}
use Rattle.base.specs.Decimals.{is_decimal}
use Rattle.board_text.specs.Shapes.{is_spelled, are_hexadecimal, is_opcode_word, is_identity_word, fits, places_of, memory_places}
use Rattle.board_text.specs.Contents.{word, code_at, identity_of, last_words}
use Rattle.board_text.specs.Limits.{IsOdd}
use Rattle.board_text.proofs.ShapeLemmas.{fits-length, fits-drop, spelled_at}

-- of a device
pub device_words : (kind : Kind) (identified : Bool) (ws : List (List ℕ)) → fits (places_of (shapes.Device kind identified)) ws ≡ true → (if identified then 6 else 3) ≤ length ws
device_words kind true ws e = omega (arith, fits-length (places_of (shapes.Device kind true)) ws e)
device_words kind false ws e = omega (arith, fits-length (places_of (shapes.Device kind false)) ws e)

pub device_name : (kind : Kind) (identified : Bool) (ws : List (List ℕ)) → fits (places_of (shapes.Device kind identified)) ws ≡ true → is_name (word ws 1) ≡ true
device_name kind true ws e = spelled_at (places_of (shapes.Device kind true)) ws 1 places.Name [] e (omega arith)
device_name kind false ws e = spelled_at (places_of (shapes.Device kind false)) ws 1 places.Name [] e (omega arith)

pub device_number : (kind : Kind) (identified : Bool) (ws : List (List ℕ)) → fits (places_of (shapes.Device kind identified)) ws ≡ true → is_decimal (word ws 2) ≡ true
device_number kind true ws e = spelled_at (places_of (shapes.Device kind true)) ws 2 places.Name [] e (omega arith)
device_number kind false ws e = spelled_at (places_of (shapes.Device kind false)) ws 2 places.Name [] e (omega arith)

pub device_identity : (kind : Kind) (identified : Bool) (ws : List (List ℕ)) → fits (places_of (shapes.Device kind identified)) ws ≡ true → identified ≡ true → is_identity_word (word ws 4) ≡ true
device_identity kind true ws e known = spelled_at (places_of (shapes.Device kind true)) ws 4 places.Name [] e (omega arith)
device_identity kind false ws e known = absurd (false≢true known)

pub device_opcode : (kind : Kind) (identified : Bool) (ws : List (List ℕ)) → fits (places_of (shapes.Device kind identified)) ws ≡ true → identified ≡ true → is_opcode_word (word ws 5) ≡ true
device_opcode kind true ws e known = spelled_at (places_of (shapes.Device kind true)) ws 5 places.Name [] e (omega arith)
device_opcode kind false ws e known = absurd (false≢true known)

pub device_memory : (kind : Kind) (identified : Bool) (ws : List (List ℕ)) → fits (places_of (shapes.Device kind identified)) ws ≡ true → kind ≡ kinds.Flash →
    fits memory_places (last_words identified ws) ≡ true
device_memory kinds.Plain identified ws e flash = absurd cc
device_memory kinds.Regs identified ws e flash = absurd cc
device_memory kinds.Flash true ws e flash = fits-drop 6 (places_of (shapes.Device kinds.Flash true)) ws e
device_memory kinds.Flash false ws e flash = fits-drop 3 (places_of (shapes.Device kinds.Flash false)) ws e

-- of a memory
pub memory_word : (ws : List (List ℕ)) (k : ℕ) → fits memory_places ws ≡ true → k < 16 → is_spelled (get_or memory_places k places.Name) (word ws k) ≡ true
memory_word ws k e lt = spelled_at memory_places ws k places.Name [] e lt

-- an even identity
pub even_identity : (identified : Bool) (ws : List (List ℕ)) (value : ℕ) → identified ≡ true → value ≡ code_at ws 4 → (value % 2 ≡ 1 → ⊥) → ForSome (identity_of identified ws) IsOdd → ⊥
even_identity true ws value known value_is even odd = even (ap (λ (n : ℕ). n % 2) value_is ∙ odd _ refl)
even_identity false ws value known value_is even odd = false≢true known

-- of a register
pub register_word : (constant : Bool) (ws : List (List ℕ)) (k : ℕ) → fits (places_of (shapes.Register constant)) ws ≡ true → k < 4 →
    is_spelled (get_or (places_of (shapes.Register constant)) k places.Name) (word ws k) ≡ true
register_word constant ws k e lt = spelled_at (places_of (shapes.Register constant)) ws k places.Name [] e (omega arith)

pub register_digits : (constant : Bool) (ws : List (List ℕ)) → fits (places_of (shapes.Register constant)) ws ≡ true → constant ≡ true → are_hexadecimal (word ws 5) ≡ true
register_digits true ws e known = (and_parts (nat_le 1 (length (word ws 5))) _ (spelled_at (places_of (shapes.Register true)) ws 5 places.Name [] e (omega arith))).1
register_digits false ws e known = absurd (false≢true known)

pub register_words : (constant : Bool) (ws : List (List ℕ)) → fits (places_of (shapes.Register constant)) ws ≡ true → constant ≡ true → 5 < length ws
register_words true ws e known = omega (arith, fits-length (places_of (shapes.Register true)) ws e)
register_words false ws e known = absurd (false≢true known)
