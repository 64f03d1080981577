use Rattle.std.proofs.Common.{◌≡◌, ◌+◌, length, ap, sym, ◌∙◌, arith}
use Rattle.base.specs.Bits.{number_of}
use Rattle.base.proofs.NumberBits.{length-low_bits}
use Rattle.dev_kinds.specs.Memories.{MemoryStore}
use Rattle.dev_kinds.proofs.MemoryLemmas.{written_store, kept_store, programmed_width}
use Rattle.dev_kinds.proofs.memory.Memory.program.Goals as goal
use Rattle.dev_kinds.proofs.memory.Memory.program.Goals.{then-place-len, else-place-len}

pub invariant_of-self : goal.invariant_of-self
invariant_of-self c =
    let m = c.self.inside in
    let f = m.shape in
    let h = c.self.invariant in
    let address : length c.raise.new.address ≡ 16 = ap length c.raise.ensures ∙ length-low_bits 16 (number_of c.if-place-len.self-inside.address + 1) in
    let buffer : length c.give_bits.new.bits ≡ f.width = ap length c.give_bits.ensures ∙ c.requires ∙ sym (ap (λ (s : MemoryStore). s.shape.width) c.self.view_is) in
    elim c.if-place-len.branch [
      | then-place-len w ↦ rw w.self-inside-is
          (written_store f m.address c.raise.new.address m.buffer c.give_bits.new.bits m.words.items
          c.number_at-place.result w.keep_common.new.bits h address buffer
          (programmed_width f m.address m.buffer m.words.items c.number_at-place.result w.index_mut.result.now
          c.give_bits.new.bits w.keep_common.new.bits h
          (omega arith) w.index_mut.ensures.value buffer w.keep_common.ensures))
      | else-place-len w ↦ rw w.self-inside-is (kept_store f m.address c.raise.new.address m.buffer c.give_bits.new.bits m.words.items h address buffer)
    ]
