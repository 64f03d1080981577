-- The places of names in the USES of blocks, after one block more.
use Rattle.std.proofs.Common.{◌≡◌, ℕ, ◌+◌, ◌<◌, Bool, true, false, cond, ◌&&◌, List, [], ◌∷◌, ◌++◌, drop, length, get_or, position, unwrap_or, Option, Some, None, is_some, refl, sym, ap, ◌∙◌, true≢false}
use Rattle.std.specs.List.{position_from, position_or_len}
use Rattle.std.specs.Map.{lookup}
use Rattle.std.specs.Option.{option_or, option_and_then}
use Rattle.std.specs.Str.{bytes_eq}
use Rattle.std.proofs.lemmas.List.{at_drop_more}
use Rattle.std.proofs.lemmas.Iterator.Adapters.{position_from-zero}
use Rattle.stapl_syntax.specs.declared.names.Block.{Block}
use Rattle.stapl_syntax.specs.declared.names.Key.{Key}
use Rattle.stapl_syntax.specs.Names.{key_eq, key_in, put_first, firsts_after}
use Rattle.stapl_names.specs.declared.blocks.Blocks.{Blocks}
use Rattle.stapl_names.specs.Tables.{places_from, AreUsed}
use Rattle.stapl_names.proofs.Keys.{name_same, key_same, none_from, or_none, lookup_append, found_after}
use Rattle.stapl_names.proofs.Positions.{place_or_len}

-- a place more
pub place_more : (block : List ℕ) (uses : List (List ℕ)) (place : ℕ) (name : List ℕ) (es new all : List (Key × ℕ)) → place < length uses → name ≡ get_or uses place name
    → firsts_after key_eq es (places_from block place (drop place uses)) ≡ all → new ≡ put_first key_eq es (key_in block name, place)
    → firsts_after key_eq new (places_from block (place + 1) (drop (place + 1) uses)) ≡ all
place_more block uses place name es new all within is so_far puts =
    ap (λ l. firsts_after key_eq l (places_from block (place + 1) (drop (place + 1) uses)))
    (puts ∙ ap (λ n. put_first key_eq es (key_in block n, place)) is)
    ∙ sym (at_drop_more (λ l. firsts_after key_eq es (places_from block place l)) uses place name within)
    ∙ so_far

places_found : (other block name : List ℕ) (b : Bool) → bytes_eq other block ≡ b → (place : ℕ) (uses : List (List ℕ))
    → lookup (key_eq (key_in other name)) (places_from block place uses) ≡ cond b (position_from (bytes_eq name) place uses) None
places_found other block name true is place [] = refl
places_found other block name false is place [] = refl
places_found other block name true is place (x ∷ uses) =
    ap (λ t. cond (t && bytes_eq name x) (Some place) (lookup (key_eq (key_in other name)) (places_from block (place + 1) uses))) is
    ∙ ap (cond (bytes_eq name x) (Some place)) (places_found other block name true is (place + 1) uses)
places_found other block name false is place (x ∷ uses) =
    ap (λ t. cond (t && bytes_eq name x) (Some place) (lookup (key_eq (key_in other name)) (places_from block (place + 1) uses))) is
    ∙ places_found other block name false is (place + 1) uses

module _ (f : Block → Option ℕ) (b : Block) where
  joined : (o : Option Block) (t : Bool) → (t ≡ true → o ≡ None)
      → option_or (option_and_then f o) (cond t (f b) None) ≡ option_and_then f (option_or o (cond t (Some b) None))
  joined None true new = refl
  joined None false new = refl
  joined (Some x) true new = absurd (true≢false (ap is_some (new refl)))
  joined (Some x) false new = sym (or_none (f x))

-- a block more, and its places
pub used_more : (old new : Blocks) (b : Block) → AreUsed old → is_some (lookup (bytes_eq b.name) old.table.entries) ≡ false
    → new.used.entries ≡ firsts_after key_eq old.used.entries (places_from b.name 0 b.uses)
    → new.table.entries ≡ old.table.entries ++ ((b.name, b) ∷ [])
    → AreUsed new
used_more old new b given absent used table = λ block name.
    let f : Block → Option ℕ = λ x. position (bytes_eq name) x.uses in
    ap (lookup (key_eq (key_in block name))) used
    ∙ found_after key_eq key_same (key_in block name) (places_from b.name 0 b.uses) old.used.entries
    ∙ (λ j. option_or (given block name j) (places_found block b.name name (bytes_eq block b.name) refl 0 b.uses j))
    ∙ ap (λ o. option_or (option_and_then f (lookup (bytes_eq block) old.table.entries)) (cond (bytes_eq block b.name) o None))
    (sym (position_from-zero (bytes_eq name) b.uses))
    ∙ joined f b (lookup (bytes_eq block) old.table.entries) (bytes_eq block b.name)
    (λ is. none_from (lookup (bytes_eq block) old.table.entries) (ap (λ n. is_some (lookup (bytes_eq n) old.table.entries)) (name_same block b.name is) ∙ absent))
    ∙ ap (option_and_then f) (sym (lookup_append (bytes_eq block) old.table.entries ((b.name, b) ∷ [])) ∙ sym (ap (lookup (bytes_eq block)) table))

-- the first place of a name in the USES of a block, or the length of those
pub place_of_use : (bs : Blocks) (b : Block) (name : List ℕ) (o : Option ℕ) → AreUsed bs → lookup (bytes_eq b.name) bs.table.entries ≡ Some b
    → o ≡ lookup (key_eq (key_in b.name name)) bs.used.entries → unwrap_or o (length b.uses) ≡ position_or_len (bytes_eq name) b.uses
place_of_use bs b name o used there is =
    place_or_len (bytes_eq name) b.uses o (is ∙ used b.name name ∙ ap (option_and_then (λ x. position (bytes_eq name) x.uses)) there)
