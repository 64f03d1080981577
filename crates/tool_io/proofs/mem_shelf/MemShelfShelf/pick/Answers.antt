use Rattle.std.proofs.Common.{◌≡◌, ◌≤◌, ◌<◌, ◌⊎◌, ◌∙◌, ℕ, Bool, false, List, String, Global, map, string_bytes, length, sym, ap, refl, arith, inl, inr, Some}
use Rattle.std.specs.Prelude.{IsTrue}
use Rattle.std.proofs.lemmas.Bool.{cases_lt, false≢true}
use Rattle.std.proofs.lemmas.Grind.{common_steps}
use Rattle.std.proofs.lemmas.List.{with_items_is}
use Rattle.tool_io.specs.Shelves.{place_of}
use Rattle.tool_io.proofs.CauseLemmas.{counts_start}
use Rattle.tool_io.proofs.PickLemmas.{picks_none}
use Rattle.tool_io.proofs.ShelfLemmas.{length_names, counts_raised, file_of_place}
use Rattle.tool_io.proofs.mem_shelf.MemShelfShelf.pick.Goals as goal

-- the place in the list that was lent
place_in : {names lent : List (String Global)} {place : ℕ} (name : List ℕ) → place ≡ place_of (map string_bytes lent) name → lent ≡ names →
    place ≡ place_of (map string_bytes names) name
place_in name is lent = is ∙ ap (λ (names : List (String Global)). place_of (map string_bytes names) name) lent

-- a name is held if the call has not failed
picked_held : {P : Type 0} {place held : ℕ} {failed : Bool} → (P ⊎ (place ≡ held) → IsTrue failed) → failed ≡ false → place ≤ held → place < held
picked_held {place = place} {held = held} fails passed le =
    elim (cases_lt place held) [ inl h ↦ h | inr h ↦ absurd (false≢true (sym passed ∙ fails (inr (omega arith)))) ]

pub invariant_of-self : goal.invariant_of-self
invariant_of-self c =
    let after = with_items_is c.self.inside.counts c.raise_at.new.counts (c.raise_at.auto.counts ∙ c.deref_mut.ensures.len) in
    record {
      paired = c.self.invariant.paired;
      counted = ap length after ∙ c.raise_at.auto.counts ∙ ap length c.deref_mut.ensures.value ∙ c.self.invariant.counted;
      inside = tt;
    }

pub returns-then-fails-clause-keeps : goal.returns-then-fails-clause-keeps
returns-then-fails-clause-keeps c = rw (← c.self.view_is) refl

pub returns-then-fails-clause-cause : goal.returns-then-fails-clause-cause
returns-then-fails-clause-cause c =
    let at = place_in c.args.name.now c.place_of_name-place.ensures.place c.deref.ensures.value in
    let after = with_items_is c.self.inside.counts c.raise_at.new.counts (c.raise_at.auto.counts ∙ c.deref_mut.ensures.len) in
    rw (← c.self.view_is) (counts_raised (map string_bytes c.self.inside.names.items) c.self.inside.counts.items c.deref_mut.result.now
    c.raise_at.new.counts _ c.args.name.now c.place_of_name-place.result _ (sym at) c.deref_mut.ensures.value after c.raise_at.ensures.kept c.raise_at.ensures.rose)

pub returns-then-fails-clause-exact : goal.returns-then-fails-clause-exact
returns-then-fails-clause-exact c =
    let at = place_in c.args.name.now c.place_of_name-place.ensures.place c.deref.ensures.value in
    let after = with_items_is c.self.inside.counts c.raise_at.new.counts (c.raise_at.auto.counts ∙ c.deref_mut.ensures.len) in
    let why = c.fails.ensures.0 c.if-fails.true in
    rw (← c.self.view_is) (record {
      number = c.saturating_add-self-inside.ensures;
      fails = (λ _. elim why [ inl h ↦ inl (rw c.deref-2.ensures.value at h) | inr h ↦ inr (rw length_names (grind (arith, common_steps, h))) ], λ _. refl);
      fault = rw (after, c.raise_at.ensures.raised, c.deref_mut.ensures.value, at) refl;
      ok = tt;
    })

pub returns-clause-keeps : goal.returns-clause-keeps
returns-clause-keeps c = rw (← c.self.view_is) refl

pub returns-clause-picks : goal.returns-clause-picks
returns-clause-picks c = ap Some (place_in c.args.name.now c.place_of_name-place.ensures.place c.deref.ensures.value)

pub returns-clause-start : goal.returns-clause-start
returns-clause-start c =
    let at = place_in c.args.name.now c.place_of_name-place.ensures.place c.deref.ensures.value in
    let held = picked_held c.fails.ensures.1 c.if-fails.false (omega (arith, c.place_of_name-place.ensures.within)) in
    rw (← c.self.view_is, at) (file_of_place (map string_bytes c.self.inside.names.items) _ c.args.name.now (length_names _ ∙ c.self.invariant.paired)
    (rw (← at, length_names) (omega (arith, held))))

pub returns-clause-cause : goal.returns-clause-cause
returns-clause-cause c = rw (← c.self.view_is) (record { kept = counts_start _ _; failed = tt })

pub returns-clause-exact : goal.returns-clause-exact
returns-clause-exact c =
    let at = place_in c.args.name.now c.place_of_name-place.ensures.place c.deref.ensures.value in
    let listed = c.fails.ensures.1 in
    rw (← c.self.view_is) (record {
      number = c.saturating_add-self-inside.ensures;
      fails = (
        λ e. absurd (false≢true e),
        λ why. sym c.if-fails.false ∙ listed (elim why [
          | inl h ↦ inl (rw c.deref-2.ensures.value h)
          | inr h ↦ inr (omega (arith, at, h, length_names c.self.inside.names.items))
        ]),
      );
      fault = tt;
      ok = rw at refl;
    })

pub returns-then-fails-clause-once : goal.returns-then-fails-clause-once
returns-then-fails-clause-once c = picks_none _ _
