-- A block has a number exactly if it is in the table.
use Rattle.std.proofs.Common.{◌≡◌, ℕ, List, Bool, false, refl, Option, None, Some, is_some, sym, ap, ◌∙◌, position, slice_get}
use Rattle.std.specs.Map.{lookup, keys_of, values_of}
use Rattle.std.specs.Str.{bytes_eq}
use Rattle.std.proofs.lemmas.Option.{none-some, slice_get-map}
use Rattle.indexmap.proofs.MapLemmas.{some_index, Found-position}
use Rattle.stapl_syntax.specs.declared.names.Declaration.{Declaration}
use Rattle.stapl_syntax.specs.declared.names.Key.{Key}
use Rattle.std.specs.Option.{option_and_then, option_map}
use Rattle.stapl_syntax.specs.declared.names.Variable.{Variable}
use Rattle.stapl_syntax.specs.Names.{Names, block_named, variable_in, label_in, variable_number, key_in, key_eq}
use Rattle.stapl_syntax.specs.Rules.{is_data_block, is_again}
use Rattle.stapl_names.proofs.Keys.{none_from}
use Rattle.checker_rules.specs.Earlier.{passes_in, stands_below, piece_of_block}
use Rattle.checker_rules.specs.Scopes.{variable_in_block}

pub has_number : (names : Names) (name : List ℕ) (number : Option ℕ) (b : Bool) → number ≡ position (bytes_eq name) (keys_of names.blocks) → b ≡ is_some number →
    b ≡ is_some (block_named names name)
has_number names name number b e f = f ∙ ap is_some e ∙ some_index (bytes_eq name) names.blocks

pub no_number : (names : Names) (name : List ℕ) (number : Option ℕ) → number ≡ position (bytes_eq name) (keys_of names.blocks) → number ≡ None →
    false ≡ is_data_block (block_named names name)
no_number names name number e f =
    sym (ap is_data_block (none_from (block_named names name) (sym (some_index (bytes_eq name) names.blocks) ∙ ap is_some (sym e) ∙ ap is_some f)))

-- what is declared again in the open block

pub variable_again : (test : Key → Bool) (inside : Option (List ℕ)) (d : Declaration) (o : Option Declaration) (b : Bool) → b ≡ passes_in test inside d.name → Some d ≡ o →
    b ≡ is_again test (variable_in inside 0 o)
variable_again test inside d o b e at = e ∙ by inside ∙ ap (λ (z : Option Declaration). is_again test (variable_in inside 0 z)) at
  where
    by : (inside : Option (List ℕ)) → passes_in test inside d.name ≡ is_again test (variable_in inside 0 (Some d))
    by None = refl
    by (Some block) = refl

pub no_variable : (test : Key → Bool) (inside : Option (List ℕ)) (o : Option Declaration) → None ≡ o → false ≡ is_again test (variable_in inside 0 o)
no_variable test inside o at = by inside ∙ ap (λ (z : Option Declaration). is_again test (variable_in inside 0 z)) at
  where
    by : (inside : Option (List ℕ)) → false ≡ is_again test (variable_in inside 0 None)
    by None = refl
    by (Some block) = refl

pub label_again : (test : Key → Bool) (inside : Option (List ℕ)) (name : List ℕ) (o : Option (List ℕ)) (b : Bool) → b ≡ passes_in test inside name → o ≡ Some name →
    b ≡ is_again test (label_in inside 0 o)
label_again test inside name o b e at = e ∙ by inside ∙ ap (λ (z : Option (List ℕ)). is_again test (label_in inside 0 z)) (sym at)
  where
    by : (inside : Option (List ℕ)) → passes_in test inside name ≡ is_again test (label_in inside 0 (Some name))
    by None = refl
    by (Some block) = refl

pub no_label : (test : Key → Bool) (inside : Option (List ℕ)) (o : Option (List ℕ)) → o ≡ None → false ≡ is_again test (label_in inside 0 o)
no_label test inside o at = by inside ∙ ap (λ (z : Option (List ℕ)). is_again test (label_in inside 0 z)) (sym at)
  where
    by : (inside : Option (List ℕ)) → false ≡ is_again test (label_in inside 0 None)
    by None = refl
    by (Some block) = refl

-- the value at the place of a key is what a look-up finds
module _ {K V : Type 0} where
  value_at : (es : List (K × V)) (n : ℕ) (e : K × V) → slice_get es n ≡ Some e → slice_get (values_of es) n ≡ Some e.1
  value_at es n e at = slice_get-map (λ (x : K × V). x.1) es n ∙ ap (option_map (λ (x : K × V). x.1)) at

  pub found_at : (test : K → Bool) (es : List (K × V)) (n : ℕ) (e : K × V) → position test (keys_of es) ≡ Some n → slice_get es n ≡ Some e → lookup test es ≡ Some e.1
  found_at test es n e at there = (Found-position test es n at).value ∙ value_at es n e there

  pub not_found : (test : K → Bool) (es : List (K × V)) → position test (keys_of es) ≡ None → lookup test es ≡ None
  not_found test es at = none_from (lookup test es) (sym (some_index test es) ∙ ap is_some at)

pub no_earlier : (names : Names) (name : List ℕ) (number : Option ℕ) (n : ℕ) → number ≡ position (bytes_eq name) (keys_of names.blocks) → number ≡ None →
    false ≡ stands_below piece_of_block n (lookup (bytes_eq name) names.blocks)
no_earlier names name number n e f = ap (stands_below piece_of_block n) (sym (not_found (bytes_eq name) names.blocks (sym e ∙ f)))

-- the variable of the open block
pub own_some : (names : Names) (name : List ℕ) (seen : Option (List ℕ)) (o : Option ℕ) (n : ℕ) (v : Variable) →
    o ≡ option_and_then (λ block. variable_number names block name) seen → o ≡ Some n → slice_get names.variables n ≡ Some (v.key, v) →
    Some v ≡ variable_in_block names seen name
own_some names name None o n v e f there = absurd (none-some n (sym e ∙ f))
own_some names name (Some block) o n v e f there = sym (found_at (key_eq (key_in block name)) names.variables n (v.key, v) (sym e ∙ f) there)

pub own_none : (names : Names) (name : List ℕ) (seen : Option (List ℕ)) (o : Option ℕ) →
    o ≡ option_and_then (λ block. variable_number names block name) seen → o ≡ None → None ≡ variable_in_block names seen name
own_none names name None o e f = refl
own_none names name (Some block) o e f = sym (not_found (key_eq (key_in block name)) names.variables (sym e ∙ f))
