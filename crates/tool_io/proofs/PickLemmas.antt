-- On which files are picked.
use Rattle.std.proofs.Common.{◌≡◌, ◌∙◌, zero, suc, List, ℕ, [], ◌∷◌, ◌++◌, take, refl, sym, ap, append_assoc, Option, None, Some, Result, Ok, Err}
use Rattle.std.proofs.lemmas.List.{append-nil}
use Rattle.tool_io.specs.Files.{then_names, PicksFront, HasPicked}

then_names-twice : (told : Option (List (List ℕ))) (a b : List (List ℕ)) → then_names (then_names told a) b ≡ then_names told (a ++ b)
then_names-twice None a b = refl
then_names-twice (Some xs) a b = ap Some (append_assoc xs a b)

then_names-nothing : (told : Option (List (List ℕ))) → then_names told [] ≡ told
then_names-nothing None = refl
then_names-nothing (Some xs) = ap Some (append-nil xs)

-- no file was picked
pub picks_none : (told : Option (List (List ℕ))) (names : List (List ℕ)) → PicksFront told names told
picks_none told names = record { count = 0; picked = sym (then_names-nothing told) }

-- the first was
pub picks_first : {before after : Option (List (List ℕ))} {name : List ℕ} (names : List (List ℕ)) → after ≡ then_names before (name ∷ []) →
    PicksFront before (name ∷ names) after
picks_first names e = record { count = 1; picked = e }

take_none : (n : ℕ) → take {A = List ℕ} n [] ≡ []
take_none zero = refl
take_none (suc n) = refl

-- it was, or perhaps not after a failure
pub picks_at_most : {T E : Type 0} {before after : Option (List (List ℕ))} {name : List ℕ} (names : List (List ℕ)) (r : Result T E) →
    HasPicked before name after r → PicksFront before (name ∷ names) after
picks_at_most names (Ok x) h = picks_first names h
picks_at_most {before = before} {name = name} names (Err e) h = by h.count h.picked
  where
    by : {after : Option (List (List ℕ))} (n : ℕ) → after ≡ then_names before (take n (name ∷ [])) → PicksFront before (name ∷ names) after
    by zero e = record { count = 0; picked = e }
    by (suc n) e = record { count = 1; picked = e ∙ ap (λ xs. then_names before (name ∷ xs)) (take_none n) }

-- it was, and then a front of the others
pub picks_then : {before mid after : Option (List (List ℕ))} {name : List ℕ} {names : List (List ℕ)} → mid ≡ then_names before (name ∷ []) →
    PicksFront mid names after → PicksFront before (name ∷ names) after
picks_then {before = before} {name = name} {names = names} e h = record {
  count = suc h.count;
  picked = h.picked ∙ ap (λ m. then_names m (take h.count names)) e ∙ then_names-twice before (name ∷ []) (take h.count names);
}

-- it was, whatever came of it
pub picks_as : {T E : Type 0} (before : Option (List (List ℕ))) {after : Option (List (List ℕ))} (name : List ℕ) (r : Result T E) → after ≡ then_names before (name ∷ []) →
    HasPicked before name after r
picks_as before name (Ok x) e = e
picks_as before name (Err x) e = picks_first [] e
