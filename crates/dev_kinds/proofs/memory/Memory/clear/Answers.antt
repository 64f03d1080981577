use Rattle.std.proofs.Common.{false, length, replicate, ap, ◌∙◌}
use Rattle.std.proofs.lemmas.List.{length-replicate}
use Rattle.dev_kinds.specs.Memories.{MemoryStore}
use Rattle.dev_kinds.proofs.MemoryLemmas.{filled_items, filled_store, store_is_fresh}
use Rattle.dev_kinds.proofs.memory.Memory.clear.Goals as goal

pub invariant_of-self : goal.invariant_of-self
invariant_of-self c =
    let m = c.self.inside in
    let f = m.shape in
    let zeros = ap length c.fill_bits.ensures ∙ length-replicate (length m.address) false ∙ c.self.invariant.address_length in
    let words = filled_items m.words f m.address m.buffer c.deref_mut.result.now c.fill_words.new.words f.fill c.self.invariant c.deref_mut.ensures.value
    c.deref_mut.ensures.len c.fill_words.ensures in
    filled_store f m.address c.fill_bits.new.bits m.buffer m.words.items _ f.fill c.self.invariant zeros words

pub returns : goal.returns
returns c =
    let m = c.self.inside in
    let f = m.shape in
    let zeros = c.fill_bits.ensures ∙ ap (λ n. replicate n false) c.self.invariant.address_length in
    let words = filled_items m.words f m.address m.buffer c.deref_mut.result.now c.fill_words.new.words f.fill c.self.invariant c.deref_mut.ensures.value
    c.deref_mut.ensures.len c.fill_words.ensures in
    store_is_fresh f c.args.self.now.shape c.fill_bits.new.bits _ (ap (λ (s : MemoryStore). s.shape) c.self.view_is) zeros words
