-- On the contents of files that are named, and on what is kept of their store.
use Rattle.std.proofs.Common.{◌≡◌, ◌∙◌, ℕ, List, [], ◌∷◌, map, Option, None, Some, IfSome, refl, ap, sym, subst}
use Rattle.std.specs.Prelude.{Result, Ok, Err, IsErrAnd, IsErrOf}
use Rattle.tool_io.specs.Causes.{HasRisenAt, NoneFalls}
use Rattle.tool_io.specs.declared.outside.Shelf.{Ghosts as ShelfOf}
use Rattle.tool_io.specs.Files.{then_names, PicksFront, HasPicked}
use Rattle.tool_io.proofs.CauseLemmas.{counts_then, rose_after_at}
use Rattle.tool_io.proofs.PickLemmas.{picks_none, picks_at_most, picks_then}
use Rattle.tool_frame.specs.declared.no_answer.NoAnswer.{NoAnswer}
use Rattle.tool_frame.specs.declared.no_answer.NoAnswer.TheVariants.{Read, Write}
use Rattle.tool_frame.specs.Files.{file_named, OfFile, OfFiles, NamesThis, NamesTwo, NamesOne, paths_of, PicksNamed, nothing_picked, files_picked, HasReadCause, KeepsShelf}

-- more that stands of the same contents
pub of_files_as : {names : List (Option (List ℕ)) → Type 0} {told : Option (List (List ℕ × List ℕ))} {P Q : List (Option (List ℕ)) → Type 0} →
    ((contents : List (Option (List ℕ))) → P contents → Q contents) → OfFiles names told P → OfFiles names told Q
of_files_as f o = record { contents = o.contents; read = o.read; holds = f o.contents o.holds }

place_read : (told : Option (List (List ℕ × List ℕ))) (named : List (Option (List ℕ))) (path : List ℕ) (held : Option (List ℕ)) → named ≡ Some path ∷ [] →
    IfSome told (λ files. file_named files (Some path) ≡ held) → IfSome told (λ files. map (file_named files) named ≡ held ∷ [])
place_read None named path held e same = tt
place_read (Some files) named path held e same = ap (map (file_named files)) e ∙ ap (λ (h : Option (List ℕ)). h ∷ []) same

-- what stands of the contents of the one file that is named
pub of_one_file : (told : Option (List (List ℕ × List ℕ))) (IsNamed : List ℕ → Type 0) (path : List ℕ) {P : Option (List ℕ) → Type 0} {Q : List (Option (List ℕ)) → Type 0} →
    ((other : List ℕ) → IsNamed other → other ≡ path) → OfFile told (Some path) P → ((held : Option (List ℕ)) → P held → Q (held ∷ [])) →
    OfFiles (NamesOne IsNamed) told Q
of_one_file told IsNamed path one file f = record {
  contents = file.held ∷ [];
  read = λ named n. place_read told named path file.held (n.alone ∙ ap (λ (p : List ℕ). Some p ∷ []) (one n.path n.is)) (file.read).same;
  holds = f file.held file.holds;
}

-- no file is named
pub of_no_file : (told : Option (List (List ℕ × List ℕ))) (IsNamed : List ℕ → Type 0) {Q : List (Option (List ℕ)) → Type 0} →
    ((path : List ℕ) → IsNamed path → ⊥) → Q [] → OfFiles (NamesOne IsNamed) told Q
of_no_file told IsNamed none q = record { contents = []; read = λ named n. absurd (none n.path n.is); holds = q }

-- ---- picks

-- the same picks, if what is named is named by another rule, too
pub picks_within : {P Q : List (Option (List ℕ)) → Type 0} {before after : Option (List (List ℕ))} → ((named : List (Option (List ℕ))) → P named → Q named) →
    PicksNamed P before after → PicksNamed Q before after
picks_within f (nothing_picked same) = nothing_picked same
picks_within f (files_picked named is front) = files_picked named (f named is) front

-- the one file was picked, or perhaps not after a failure
picks_this : {T E : Type 0} {before after : Option (List (List ℕ))} {path : List ℕ} (r : Result T E) → HasPicked before path after r →
    PicksNamed (NamesThis path) before after
picks_this {path = path} r h = files_picked (Some path ∷ []) refl (picks_at_most [] r h)

-- of two files the first was, and the second was not reached
picks_first_of : {T E : Type 0} {before after : Option (List (List ℕ))} {first second : List ℕ} (r : Result T E) → HasPicked before first after r →
    PicksNamed (NamesTwo first second) before after
picks_first_of {first = first} {second = second} r h = files_picked (Some first ∷ Some second ∷ []) refl (picks_at_most (second ∷ []) r h)

second_front : {mid after : Option (List (List ℕ))} {second : List ℕ} → PicksNamed (NamesThis second) mid after → PicksFront mid (second ∷ []) after
second_front {mid = mid} {second = second} (nothing_picked same) = subst (PicksFront mid (second ∷ [])) (sym same) (picks_none mid (second ∷ []))
second_front {mid = mid} {after = after} (files_picked named is front) = subst (λ (xs : List (Option (List ℕ))). PicksFront mid (paths_of xs) after) is front

-- the first was, and then perhaps the second
picks_both : {before mid after : Option (List (List ℕ))} {first second : List ℕ} → mid ≡ then_names before (first ∷ []) → PicksNamed (NamesThis second) mid after →
    PicksNamed (NamesTwo first second) before after
picks_both {first = first} {second = second} e h = files_picked (Some first ∷ Some second ∷ []) refl (picks_then e (second_front h))

-- ---- what is kept of a store

module _ {S T U : Type 0} {shelf : ShelfOf S} {names : List (Option (List ℕ)) → Type 0} {reached : List ℕ → Type 0} {before after : S} where
  -- after calls that touch no file, with what they answer
  pub shelf_as : {r : Result T NoAnswer} {q : Result U NoAnswer} → (IsErrOf q Read → IsErrOf r Read) → KeepsShelf shelf names reached before after r →
      KeepsShelf shelf names reached before after q
  shelf_as f kept = record { keeps = kept.keeps; later = kept.later; once = kept.once; read = λ failed. kept.read (f failed) }

  -- at the exit of a `?`
  pub shelf_at : (e : NoAnswer) (q : Result U NoAnswer) → IsErrAnd q (λ x. x ≡ e) → KeepsShelf {T = T} shelf names reached before after (Err e) →
      KeepsShelf shelf names reached before after q
  shelf_at e (Ok x) is kept = absurd is
  shelf_at e (Err x) is kept = shelf_as (λ failed. cc) kept

  -- and at that of a write
  pub shelf_unwritten : {r : Result T NoAnswer} (q : Result U NoAnswer) → IsErrAnd q (λ x. x ≡ Write) → KeepsShelf shelf names reached before after r →
      KeepsShelf shelf names reached before after q
  shelf_unwritten (Ok x) is kept = absurd is
  shelf_unwritten (Err x) is kept = shelf_as (λ failed. absurd cc) kept

cause_within : {S : Type 0} {shelf : ShelfOf S} {before after : S} {reached reaches : List ℕ → Type 0} → ((path : List ℕ) → reached path → reaches path) →
    HasReadCause shelf reached before after → HasReadCause shelf reaches before after
cause_within f cause = record { path = cause.path; is_reached = f cause.path cause.is_reached; rose = cause.rose }

module _ {S T : Type 0} {shelf : ShelfOf S} {before after : S} {q : Result T NoAnswer} where
  -- the files that are named and those that are reached are these by other rules, too
  pub shelf_within : {names others : List (Option (List ℕ)) → Type 0} {reached reaches : List ℕ → Type 0} →
      ((named : List (Option (List ℕ))) → names named → others named) → ((path : List ℕ) → reached path → reaches path) →
      KeepsShelf shelf names reached before after q → KeepsShelf shelf others reaches before after q
  shelf_within f g kept = record { keeps = kept.keeps; later = kept.later; once = picks_within f kept.once; read = λ failed. cause_within g (kept.read failed) }

  -- the one file is named
  pub shelf_of_one : (IsNamed : List ℕ → Type 0) (path : List ℕ) → IsNamed path → KeepsShelf shelf (NamesThis path) (λ read. read ≡ path) before after q →
      KeepsShelf shelf (NamesOne IsNamed) IsNamed before after q
  shelf_of_one IsNamed path named kept =
      shelf_within (λ others alone. record { path = path; is = named; alone = alone }) (λ read is. subst IsNamed (sym is) named) kept

  module _ {R E : Type 0} (r : Result R E) where
    -- one file was read, or perhaps not after a failure
    pub shelf_of_read : {path : List ℕ} → HasPicked (shelf.picks before) path (shelf.picks after) r → shelf.told after ≡ shelf.told before →
        NoneFalls shelf.faults shelf.is_last before after → (IsErrOf q Read → HasRisenAt shelf.faults shelf.is_last path before after) →
        KeepsShelf shelf (NamesThis path) (λ read. read ≡ path) before after q
    shelf_of_read {path = path} once keeps later read = record {
      keeps = keeps;
      later = later;
      once = picks_this r once;
      read = λ failed. record { path = path; is_reached = refl; rose = read failed };
    }

    -- of two files the first was, or perhaps not after a failure
    pub shelf_of_first : {first second : List ℕ} {reached : List ℕ → Type 0} → reached first → HasPicked (shelf.picks before) first (shelf.picks after) r →
        shelf.told after ≡ shelf.told before → NoneFalls shelf.faults shelf.is_last before after →
        (IsErrOf q Read → HasRisenAt shelf.faults shelf.is_last first before after) → KeepsShelf shelf (NamesTwo first second) reached before after q
    shelf_of_first {first = first} is once keeps later read = record {
      keeps = keeps;
      later = later;
      once = picks_first_of r once;
      read = λ failed. record { path = first; is_reached = is; rose = read failed };
    }

-- of two files the first was read, and then perhaps the second
pub shelf_of_both : {S T : Type 0} {shelf : ShelfOf S} {before mid after : S} {q : Result T NoAnswer} {first second : List ℕ} {reached : List ℕ → Type 0} → reached second →
    shelf.picks mid ≡ then_names (shelf.picks before) (first ∷ []) → shelf.told mid ≡ shelf.told before → NoneFalls shelf.faults shelf.is_last before mid →
    KeepsShelf shelf (NamesThis second) (λ read. read ≡ second) mid after q → KeepsShelf shelf (NamesTwo first second) reached before after q
shelf_of_both {reached = reached} is once keeps later kept = record {
  keeps = kept.keeps ∙ keeps;
  later = counts_then later kept.later;
  once = picks_both once kept.once;
  read = λ failed.
      let cause = kept.read failed in
      record { path = cause.path; is_reached = subst reached (sym cause.is_reached) is; rose = rose_after_at later cause.rose };
}
