-- The field of a name, as it is read.
use Rattle.std.proofs.Common.{◌≡◌, ◌≤◌, ℕ, Bool, true, false, not, ◌&&◌, if◌then◌else◌, List, [], ◌∷◌, ◌++◌, map, length, take, drop, Ok, Err, ltb, refl, sym, ap, ◌∙◌}
use Rattle.std.specs.List.{list_any}
use Rattle.std.specs.Str.{bytes_eq}
use Rattle.std.proofs.lemmas.Bool.{le-ltb}
use Rattle.std.proofs.lemmas.List.{map-append}
use Rattle.indexmap.specs.IndexSet.{insert_key}
use Rattle.stapl_code.specs.declared.reason.CodeReason.TheVariants.{Field}
use Rattle.code_files.specs.Reading.{fault, field, byte_in}
use Rattle.stapl_code.specs.declared.raw.ProcDef.{ProcDef}
use Rattle.stapl_code.specs.declared.raw.ActionDef.{ActionDef}
use Rattle.code_files.specs.ReadFiles.{is_spelled, name_at, least_entry, procedure_among, procedure_at, action_among, action_at}

module _ (names : List (List ℕ)) where
  abbrev is_new : List ℕ → Bool
  is_new bytes = is_spelled bytes && not (list_any (bytes_eq bytes) names)

  after_length : (bytes : List ℕ) (len : ℕ) (rest : List ℕ) → byte_in 1 33 bytes ≡ Ok (len, rest) → name_at names bytes ≡ field len is_new rest
  after_length bytes len rest read = rw read refl

  -- a name is given
  pub name_given : (bytes : List ℕ) (len : ℕ) (rest front after word : List ℕ) → byte_in 1 33 bytes ≡ Ok (len, rest) → len ≤ length rest → front ≡ take len rest
      → after ≡ drop len rest → word ≡ front → is_spelled front ≡ true → false ≡ list_any (bytes_eq word) names
      → name_at names bytes ≡ Ok (word, after)
  name_given bytes len rest front after word read long front_is after_is word_is spelled new =
      let enough : ltb (length rest) len ≡ false = le-ltb _ _ long in
      let whole : word ≡ take len rest = word_is ∙ front_is in
      let named : is_spelled (take len rest) ≡ true = rw (← front_is) spelled in
      let fresh : list_any (bytes_eq (take len rest)) names ≡ false = rw (← whole) (sym new) in
      rw (whole, after_is) (after_length bytes len rest read ∙ rw (enough, named, fresh) refl)

  -- it is one of the names
  pub name_taken : (bytes : List ℕ) (len : ℕ) (rest front word : List ℕ) → byte_in 1 33 bytes ≡ Ok (len, rest) → len ≤ length rest → front ≡ take len rest
      → word ≡ front → is_spelled front ≡ true → true ≡ list_any (bytes_eq word) names
      → name_at names bytes ≡ Err (fault (length rest) Field)
  name_taken bytes len rest front word read long front_is word_is spelled new =
      let enough : ltb (length rest) len ≡ false = le-ltb _ _ long in
      let whole : word ≡ take len rest = word_is ∙ front_is in
      let named : is_spelled (take len rest) ≡ true = rw (← front_is) spelled in
      let taken : list_any (bytes_eq (take len rest)) names ≡ true = rw (← whole) (sym new) in
      after_length bytes len rest read ∙ rw (enough, named, taken) refl

-- a new name goes last
pub names_next : {A : Type 0} (name_of : A → List ℕ) (names new : List (List ℕ)) (items : List A) (x : A) → names ≡ map name_of items
    → list_any (bytes_eq (name_of x)) names ≡ false → new ≡ insert_key bytes_eq names (name_of x) → new ≡ map name_of (items ++ x ∷ [])
names_next name_of names new items x is none put =
    let last : new ≡ names ++ name_of x ∷ [] = put ∙ ap (λ (b : Bool). if b then names else names ++ name_of x ∷ []) none in
    last ∙ ap (λ (ns : List (List ℕ)). ns ++ name_of x ∷ []) is ∙ sym (map-append name_of items (x ∷ []))

-- procedures and actions are read by the names and the entries of those before them
pub procedure_after : (earlier : List ProcDef) (names : List (List ℕ)) (least : ℕ) (bytes : List ℕ) → names ≡ map (λ (p : ProcDef). p.name) earlier
    → least ≡ least_entry earlier → procedure_among names least bytes ≡ procedure_at earlier bytes
procedure_after earlier names least bytes is least_is =
    ap (λ (ns : List (List ℕ)). procedure_among ns least bytes) is
    ∙ ap (λ (n : ℕ). procedure_among (map (λ (p : ProcDef). p.name) earlier) n bytes) least_is

pub action_after : (procedures : ℕ) (earlier : List ActionDef) (names : List (List ℕ)) (bytes : List ℕ) → names ≡ map (λ (a : ActionDef). a.name) earlier
    → action_among procedures names bytes ≡ action_at procedures earlier bytes
action_after procedures earlier names bytes is = ap (λ (ns : List (List ℕ)). action_among procedures ns bytes) is
