-- How the file of a code is read. The format is this profile's.
use Rattle.std.specs.Prelude.{ℕ, zero, suc, ◌+◌, ◌-◌, ◌<◌, ◌≤◌, min, Bool, true, not, ◌&&◌, ◌||◌, if◌then◌else◌, List, length, take, drop, fold, map, sum_by}
use Rattle.std.specs.List.{flat_map, list_all, list_any}
use Rattle.std.specs.Str.{bytes_eq, str_to_ascii_uppercase}
use Rattle.base.specs.Bits.{low_bits}
use Rattle.stapl_lexer.specs.ReservedWords.{is_free_name}
use Rattle.stapl_meaning.specs.declared.profiles.Profile.{Profile}
use Rattle.stapl_meaning.specs.declared.profiles.Profile.TheVariants.{One, Two}
use Rattle.stapl_code.specs.declared.raw.VarDef.{VarDef}
use Rattle.stapl_code.specs.declared.raw.ProcDef.{ProcDef}
use Rattle.stapl_code.specs.declared.raw.ItemDef.{ItemDef}
use Rattle.stapl_code.specs.declared.raw.ActionDef.{ActionDef}
use Rattle.stapl_code.specs.declared.raw.CodeLists.{CodeLists}
use Rattle.stapl_code.specs.Ranges.{elements_of}
use Rattle.stapl_code.specs.Fields.{bytes_for}
use Rattle.stapl_code.specs.Files.{head}
use Rattle.code_files.specs.Reading.{field, listed_in, any_end}
use Rattle.code_files.specs.ReadInstrs.{Reads, with_number, with_number_from, with_byte, with_byte_from, made_of, followed, instr_at}

-- the size of a variable of a kind is below this, after earlier ones: a scalar has 1 element, a BOOLEAN array at most
-- 4194304, and all INTEGER and all BOOLEAN elements together have their limits
abbrev pub size_end : List VarDef → ℕ → ℕ
size_end earlier zero = min 2 (1048577 - sum_by (elements_of 0 2) earlier)
size_end earlier (suc zero) = min 2 (16777217 - sum_by (elements_of 1 3) earlier)
size_end earlier (suc (suc zero)) = 1048577 - sum_by (elements_of 0 2) earlier
size_end earlier (suc (suc (suc k))) = min 4194305 (16777217 - sum_by (elements_of 1 3) earlier)

-- variables of a kind whose size is below this keep the limits
abbrev pub HasRoomFor : ℕ → ℕ → ℕ → ℕ → Type 0
HasRoomFor ints bits kind end =
    (size : ℕ) → size < end → (ints + elements_of 0 2 (record { kind = kind; size = size }) ≤ 1048576)
    × (bits + elements_of 1 3 (record { kind = kind; size = size }) ≤ 16777216)

abbrev pub variable_at : List VarDef → Reads VarDef
variable_at earlier = followed (with_byte 4 (λ kind. kind)) (λ kind.
    with_number_from 1 (size_end earlier kind) (λ size. record { kind = kind; size = size }))

-- the bits of so many bytes, of which those after the last one of the literal are 0
abbrev pub is_padded : ℕ → List ℕ → Bool
is_padded bits packed = list_all not (drop bits (flat_map (low_bits 8) packed))

abbrev pub literal_at : Reads (List Bool)
literal_at = followed (with_number_from 1 16777217 (λ bits. bits)) (λ bits.
    made_of (λ packed. take bits (flat_map (low_bits 8) packed)) (field (bytes_for bits) (is_padded bits)))

abbrev pub text_at : Reads (List ℕ)
text_at = followed (with_number 4194305 (λ len. len)) (λ len. field len (λ _. true))

-- a name in upper case that is not reserved
abbrev pub is_spelled : List ℕ → Bool
is_spelled bytes = is_free_name bytes && bytes_eq (str_to_ascii_uppercase bytes) bytes

-- a name that is none of these
abbrev pub name_at : List (List ℕ) → Reads (List ℕ)
name_at names = followed (with_byte_from 1 33 (λ len. len)) (λ len.
    field len (λ bytes. is_spelled bytes && not (list_any (bytes_eq bytes) names)))

-- an entry is greater than those before it
abbrev pub least_entry : List ProcDef → ℕ
least_entry earlier = fold (λ least (p : ProcDef). p.entry + 1) 0 earlier

-- a procedure whose name is none of these, and whose entry is at least this
abbrev pub procedure_among : List (List ℕ) → ℕ → Reads ProcDef
procedure_among names least = followed (name_at names) (λ name.
    with_number_from least any_end (λ entry. record { name = name; entry = entry }))

abbrev pub procedure_at : List ProcDef → Reads ProcDef
procedure_at earlier = procedure_among (map (λ (p : ProcDef). p.name) earlier) (least_entry earlier)

abbrev pub item_at : ℕ → Reads ItemDef
item_at procedures = followed (with_number procedures (λ p. p)) (λ p.
    with_byte 3 (λ flag. record { procedure = p; flag = flag }))

-- an action whose name is none of these
abbrev pub action_among : ℕ → List (List ℕ) → Reads ActionDef
action_among procedures names = followed (name_at names) (λ name.
    made_of (λ items. record { name = name; items = items }) (listed_in (λ _. item_at procedures) 1 any_end))

abbrev pub action_at : ℕ → List ActionDef → Reads ActionDef
action_at procedures earlier = action_among procedures (map (λ (a : ActionDef). a.name) earlier)

-- the eight bytes of a head
abbrev pub is_head : List ℕ → Bool
is_head bytes = bytes_eq (head One) bytes || bytes_eq (head Two) bytes

-- the profile that a head says
abbrev pub profile_of : List ℕ → Profile
profile_of bytes = if bytes_eq (head One) bytes then One else Two

abbrev pub head_at : Reads Profile
head_at = made_of profile_of (field 8 is_head)

-- the head, and the lists of a code
abbrev pub code_at : Reads CodeLists
code_at =
    followed head_at (λ profile.
    followed (listed_in variable_at 0 any_end) (λ variables.
    followed (listed_in (λ _. literal_at) 0 any_end) (λ literals.
    followed (listed_in (λ _. text_at) 0 any_end) (λ texts.
    followed (listed_in procedure_at 1 any_end) (λ procedures.
    followed (listed_in (action_at (length procedures)) 1 any_end) (λ actions.
    made_of (λ instrs. record {
      profile = profile;
      variables = variables;
      literals = literals;
      texts = texts;
      procedures = procedures;
      actions = actions;
      instrs = instrs;
    })
    (listed_in (λ _. instr_at variables (length literals) (length texts) (length procedures)) 0 any_end)))))))
