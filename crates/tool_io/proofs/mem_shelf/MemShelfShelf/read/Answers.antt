use Rattle.std.proofs.Common.{◌<◌, ◌∙◌, length, map, string_bytes, sym, ap, refl, arith, rules}
use Rattle.std.proofs.lemmas.List.{with_items_is, length-map}
use Rattle.std.proofs.lemmas.Option.{same_Some}
use Rattle.tool_io.proofs.CauseLemmas.{counts_start}
use Rattle.tool_io.proofs.ShelfLemmas.{counts_raised, held_bytes}
use Rattle.tool_io.proofs.mem_shelf.MemShelfShelf.read.Goals as goal

pub invariant_of-self : goal.invariant_of-self
invariant_of-self c =
    let after = with_items_is c.self.inside.counts c.raise_at.new.counts (c.raise_at.auto.counts ∙ c.deref_mut.ensures.len) in
    record {
      paired = c.self.invariant.paired;
      counted = ap length after ∙ c.raise_at.auto.counts ∙ ap length c.deref_mut.ensures.value ∙ c.self.invariant.counted;
      inside = c.self.invariant.inside;
    }

pub returns-then-contains-clause-keeps : goal.returns-then-contains-clause-keeps
returns-then-contains-clause-keeps c = rw (← c.self.view_is) refl

pub returns-then-contains-clause-same : goal.returns-then-contains-clause-same
returns-then-contains-clause-same c = rw (← c.self.view_is) (λ name is. is)

pub returns-then-contains-clause-cause : goal.returns-then-contains-clause-cause
returns-then-contains-clause-cause c =
    let after = with_items_is c.self.inside.counts c.raise_at.new.counts (c.raise_at.auto.counts ∙ c.deref_mut.ensures.len) in
    rw (← c.self.view_is) (λ name is.
    counts_raised (map string_bytes c.self.inside.names.items) c.self.inside.counts.items c.deref_mut.result.now c.raise_at.new.counts _ name
    c.unwrap-file.result _ (same_Some _ _ (sym is ∙ c.unwrap-file.ensures)) c.deref_mut.ensures.value after c.raise_at.ensures.kept c.raise_at.ensures.rose)

pub returns-then-contains-clause-exact : goal.returns-then-contains-clause-exact
returns-then-contains-clause-exact c =
    let after = with_items_is c.self.inside.counts c.raise_at.new.counts (c.raise_at.auto.counts ∙ c.deref_mut.ensures.len) in
    rw (← c.self.view_is) (λ place is. record {
      number = c.saturating_add-self-inside.ensures;
      fails = (λ _. search rules, λ _. refl);
      fault = rw (after, c.raise_at.ensures.raised, c.deref_mut.ensures.value, same_Some _ _ (sym c.unwrap-file.ensures ∙ is)) refl;
      ok = tt;
      fills = tt;
    })

pub returns-clause-keeps : goal.returns-clause-keeps
returns-clause-keeps c = rw (← c.self.view_is) refl

pub returns-clause-same : goal.returns-clause-same
returns-clause-same c = rw (← c.self.view_is) (λ name is. is)

pub returns-clause-cause : goal.returns-clause-cause
returns-clause-cause c = rw (← c.self.view_is) (λ name is. record { kept = counts_start _ _; failed = tt })

pub returns-clause-bytes : goal.returns-clause-bytes
returns-clause-bytes c =
    let within = rw c.unwrap-file.ensures at c.self.invariant.inside in
    let held : c.unwrap-file.result < length c.self.inside.files.items =
    omega (arith, c.self.invariant.paired, within.0, length-map c.self.inside.files.items (λ f. f.items)) in
    rw (
      ← c.self.view_is,
      c.unwrap-file.ensures,
      held_bytes c.self.inside.files.items c.unwrap-file.result c.index.result.now held c.index.ensures,
      ← c.deref-2.ensures.value,
    ) c.fill-n.ensures.gives

pub returns-clause-exact : goal.returns-clause-exact
returns-clause-exact c =
    let within = rw c.unwrap-file.ensures at c.self.invariant.inside in
    let held : c.unwrap-file.result < length c.self.inside.files.items =
    omega (arith, c.self.invariant.paired, within.0, length-map c.self.inside.files.items (λ f. f.items)) in
    rw (← c.self.view_is) (λ place is. record {
      number = c.saturating_add-self-inside.ensures;
      fails = search rules;
      fault = tt;
      ok = refl;
      fills = rw (
        c.unwrap-file.ensures,
        held_bytes c.self.inside.files.items c.unwrap-file.result c.index.result.now held c.index.ensures,
        ← c.deref-2.ensures.value,
      ) c.fill-n.ensures.count;
    })
