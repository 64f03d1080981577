-- Words of a command that give a value under a key, as `board=a.board`. A key is its bytes with the equals sign. The
-- rules are these tools' own.
use Rattle.std.specs.Prelude.{◌≡◌, ◌≢◌, ℕ, ◌≤◌, List, [], ◌++◌, Bool, ◌==◌, true, false, map, codes, Option, None, Some, if◌then◌else◌}
use Rattle.std.specs.List.{list_all, slice_split, filter_map}
use Rattle.std.specs.Str.{str_to_ascii_uppercase}
use Rattle.std.specs.Str.Parse.{digits_value}
use Rattle.base.specs.Decimals.{is_decimal}
use Rattle.stapl_lexer.specs.ReservedWords.{is_free_name}
use Rattle.command_words.specs.declared.place_run.PlaceRun.{PlaceRun}

-- the highest place that words may name
abbrev pub most_place : ℕ
most_place = 999

-- the word names this file under this key
abbrev pub NamesPath : List ℕ → List ℕ → List ℕ → Type 0
NamesPath key word path = (word ≡ key ++ path) × (path ≢ [])

-- the bytes spell this name, in either case of its letters, and it is not reserved
pub record SpellsFreeName (spelling name : List ℕ) : Type 0 where
  pub spelled : is_free_name spelling ≡ true
  pub upper : name ≡ str_to_ascii_uppercase spelling

-- the word gives this name under this key
pub record NamesFreeName (key word name : List ℕ) : Type 0 where
  pub spelling : List ℕ
  pub keyed : word ≡ key ++ spelling
  pub spells : SpellsFreeName spelling name

-- the parts of a list of names, which a comma (44) separates
abbrev pub parts_between_commas : List ℕ → List (List ℕ)
parts_between_commas spelling = slice_split (λ b. b == 44) spelling

-- the bytes spell these names, joined by commas: at least one, in either case of their letters, and none is reserved
pub record SpellsNames (spelling : List ℕ) (names : List (List ℕ)) : Type 0 where
  pub spelled : list_all is_free_name (parts_between_commas spelling) ≡ true
  pub upper : names ≡ map str_to_ascii_uppercase (parts_between_commas spelling)

-- the word gives these names under this key
pub record NamesList (key word : List ℕ) (names : List (List ℕ)) : Type 0 where
  pub spelling : List ℕ
  pub keyed : word ≡ key ++ spelling
  pub spells : SpellsNames spelling names

-- the bytes spell this number, which lies between these two
pub record SpellsNumber (least most : ℕ) (spelling : List ℕ) (n : ℕ) : Type 0 where
  pub spelled : is_decimal spelling ≡ true
  pub value : n ≡ digits_value 10 spelling
  pub enough : least ≤ n
  pub few : n ≤ most

-- the word names this number under this key
pub record NamesNumber (key : List ℕ) (least most : ℕ) (word : List ℕ) (n : ℕ) : Type 0 where
  pub spelling : List ℕ
  pub keyed : word ≡ key ++ spelling
  pub number : SpellsNumber least most spelling n

-- The bytes spell this run of places, none of which lies above the most: a place, which is a run of one, or its first
-- place, two dots, and its last place, which does not lie below the first.
pub data SpellsRun (most : ℕ) (spelling : List ℕ) (run : PlaceRun) : Type 0 where
  of_one : SpellsNumber 1 most spelling run.first → run.last ≡ run.first → SpellsRun most spelling run
  of_two : (front back : List ℕ) → spelling ≡ front ++ (codes ".." ++ back) → SpellsNumber 1 most front run.first →
      SpellsNumber run.first most back run.last → SpellsRun most spelling run

-- the word names this run of places under this key
pub record NamesRun (key : List ℕ) (most : ℕ) (word : List ℕ) (run : PlaceRun) : Type 0 where
  pub spelling : List ℕ
  pub keyed : word ≡ key ++ spelling
  pub spells : SpellsRun most spelling run

-- the word of a yes and of a no
abbrev pub answer_word : Bool → List ℕ
answer_word true = codes "yes"
answer_word false = codes "no"

-- the word gives this answer under this key
abbrev pub SaysAnswer : List ℕ → List ℕ → Bool → Type 0
SaysAnswer key word answer = word ≡ key ++ answer_word answer

-- the name that bytes spell, if they spell one that is not reserved
abbrev pub name_spelled : List ℕ → Option (List ℕ)
name_spelled bytes = if is_free_name bytes then Some (str_to_ascii_uppercase bytes) else None

-- the names among the parts between commas
abbrev pub names_in : List ℕ → List (List ℕ)
names_in spelling = filter_map name_spelled (parts_between_commas spelling)

-- the names that are given, or none
abbrev pub names_or_none : Option (List (List ℕ)) → List (List ℕ)
names_or_none None = []
names_or_none (Some names) = names
