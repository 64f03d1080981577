use Rattle.std.proofs.Common.{true}
use Rattle.dev_kinds.proofs.MemoryLemmas.{filled_items, filled_store, erased}
use Rattle.dev_kinds.proofs.memory.Memory.erase.Goals as goal

pub invariant_of-self : goal.invariant_of-self
invariant_of-self c =
    let m = c.self.inside in
    let f = m.shape in
    let words = filled_items m.words f m.address m.buffer c.deref_mut.result.now c.fill_words.new.words true c.self.invariant c.deref_mut.ensures.value c.deref_mut.ensures.len c.fill_words.ensures in
    filled_store f m.address m.address m.buffer m.words.items _ true c.self.invariant c.self.invariant.address_length words

pub returns-then-not-is_busy : goal.returns-then-not-is_busy
returns-then-not-is_busy c =
    let m = c.self.inside in
    let words = filled_items m.words m.shape m.address m.buffer c.deref_mut.result.now c.fill_words.new.words true c.self.invariant c.deref_mut.ensures.value
    c.deref_mut.ensures.len c.fill_words.ensures in
    erased c.args.logic.now (record { shape = m.shape; address = m.address; words = m.words.items; busy = m.busy }) c.args.self.now _ c.lowest.result c.is_busy.result
    c.self.view_is c.lowest.ensures c.if-lowest.true c.is_busy.ensures c.if-not-is_busy.true words
