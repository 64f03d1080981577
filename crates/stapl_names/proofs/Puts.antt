-- An entry more in a table.
use Rattle.std.proofs.Common.{◌≡◌, Bool, false, List, [], ◌∷◌, ◌++◌, is_some, sym, ap, ◌∙◌, if◌then◌else◌}
use Rattle.indexmap.specs.IndexMap.{IndexMap, get, insert_entry}
use Rattle.indexmap.proofs.CallerLemmas.{insert_entry-new}
use Rattle.stapl_syntax.specs.Names.{put_first}
use Rattle.stapl_names.proofs.Keys.{none_from}

module _ {K V S : Type 0} (eq : K → K → Bool) (m : IndexMap K V S) (k : K) (v : V) (es : List (K × V)) where
  -- an entry with a new key goes last
  pub goes_last : es ≡ insert_entry eq m.entries k v → is_some (get eq m k) ≡ false → es ≡ m.entries ++ ((k, v) ∷ [])
  goes_last at absent = at ∙ insert_entry-new eq m k v (none_from (get eq m k) absent)

  -- so it is put
  pub put_new : es ≡ insert_entry eq m.entries k v → is_some (get eq m k) ≡ false → es ≡ put_first eq m.entries (k, v)
  put_new at absent = goes_last at absent ∙ sym (ap (λ b. if b then m.entries else m.entries ++ ((k, v) ∷ [])) absent)
