-- On values under a key: a word has one value at most.
use Rattle.std.proofs.Common.{◌≡◌, ℕ, List, [], ◌∷◌, ◌++◌, length, sym, refl, ap, ◌∙◌, arith, map, subst, Option, None, Some, IfNone, Bool, true, false}
use Rattle.std.proofs.lemmas.Bool.{and_parts}
use Rattle.std.specs.List.{list_all, filter_map}
use Rattle.std.specs.Str.{str_to_ascii_uppercase}
use Rattle.std.specs.Str.Parse.{digits_value}
use Rattle.stapl_lexer.specs.ReservedWords.{is_free_name}
use Rattle.command_words.specs.KeyedWords.{NamesPath, NamesFreeName, parts_between_commas, SpellsNames, NamesList, SpellsNumber, NamesNumber, answer_word, SaysAnswer, name_spelled, names_in}

-- the rest of a word after its key
pub same_rest : (key a b : List ℕ) → key ++ a ≡ key ++ b → a ≡ b
same_rest [] a b e = e
same_rest (k ∷ ks) a b e = same_rest ks a b cc

pub one_path : (key word a b : List ℕ) → NamesPath key word a → NamesPath key word b → a ≡ b
one_path key word a b x y = same_rest key a b (sym x.0 ∙ y.0)

pub one_free_name : (key word a b : List ℕ) → NamesFreeName key word a → NamesFreeName key word b → a ≡ b
one_free_name key word a b x y =
    let same = same_rest key x.spelling y.spelling (sym x.keyed ∙ y.keyed) in
    (x.spells).upper ∙ ap str_to_ascii_uppercase same ∙ sym (y.spells).upper

pub one_number : (key : List ℕ) (least most : ℕ) (word : List ℕ) (a b : ℕ) → NamesNumber key least most word a → NamesNumber key least most word b → a ≡ b
one_number key least most word a b x y =
    let same = same_rest key x.spelling y.spelling (sym x.keyed ∙ y.keyed) in
    (x.number).value ∙ ap (λ (z : List ℕ). digits_value 10 z) same ∙ sym (y.number).value

same_names : {a b : List ℕ} {xs ys : List (List ℕ)} → SpellsNames a xs → SpellsNames b ys → a ≡ b → xs ≡ ys
same_names x y e = x.upper ∙ ap (λ (z : List ℕ). map str_to_ascii_uppercase (parts_between_commas z)) e ∙ sym y.upper

pub one_list : (key word : List ℕ) (a b : List (List ℕ)) → NamesList key word a → NamesList key word b → a ≡ b
one_list key word a b x y = same_names x.spells y.spells (same_rest key x.spelling y.spelling (sym x.keyed ∙ y.keyed))

-- yes is not no
pub same_answer : (a b : Bool) → answer_word a ≡ answer_word b → a ≡ b
same_answer true true e = refl
same_answer false false e = refl
same_answer true false e = let f : ◌≡◌ {A = ℕ} 3 2 = ap (λ (w : List ℕ). length w) e in absurd (omega arith)
same_answer false true e = let f : ◌≡◌ {A = ℕ} 2 3 = ap (λ (w : List ℕ). length w) e in absurd (omega arith)

-- a word has one answer after its key
pub one_answer : (key word : List ℕ) (a b : Bool) → SaysAnswer key word a → SaysAnswer key word b → a ≡ b
one_answer key word a b x y = same_answer a b (same_rest key (answer_word a) (answer_word b) (sym x ∙ y))

-- Where what stands after the key spells nothing, the word gives nothing under it.

pub no_number : (word key rest : List ℕ) (least most : ℕ) (found : Option ℕ) → word ≡ key ++ rest →
    IfNone found ((n : ℕ) → SpellsNumber least most rest n → ⊥) → IfNone found ((n : ℕ) → NamesNumber key least most word n → ⊥)
no_number word key rest least most (Some n) after none = tt
no_number word key rest least most None after none = λ n x.
    none n (subst (λ (z : List ℕ). SpellsNumber least most z n) (same_rest key x.spelling rest (sym x.keyed ∙ after)) x.number)

-- Names that are spelled between commas are those that are read.

names_are : (parts : List (List ℕ)) → list_all is_free_name parts ≡ true → filter_map name_spelled parts ≡ map str_to_ascii_uppercase parts
names_are [] all = refl
names_are (part ∷ rest) all =
    let both = and_parts (is_free_name part) (list_all is_free_name rest) all in
    rw both.0 (ap (λ (l : List (List ℕ)). str_to_ascii_uppercase part ∷ l) (names_are rest both.1))

pub spelled_so : (spelling : List ℕ) → list_all is_free_name (parts_between_commas spelling) ≡ true → SpellsNames spelling (names_in spelling)
spelled_so spelling all = record { spelled = all; upper = names_are (parts_between_commas spelling) all }

pub names_list : (key word spelling : List ℕ) → word ≡ key ++ spelling → list_all is_free_name (parts_between_commas spelling) ≡ true →
    NamesList key word (names_in spelling)
names_list key word spelling keyed all = record { spelling = spelling; keyed = keyed; spells = spelled_so spelling all }
