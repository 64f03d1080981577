use Rattle.std.proofs.Common.{◌≡◌, ◌+◌, ◌-◌, ◌*◌, sym, ap, ap₂, ◌∙◌, reverse, arith}
use Rattle.bit_list.specs.Ranges.{taken, spliced}
use Rattle.bit_list.proofs.ReversedBits.{turned_round, none_turned}
use Rattle.bit_list.proofs.Bits.reverse_within.Goals as goal

pub overflow_add-high : goal.overflow_add-high
overflow_add-high c = omega (arith, c.loop-left.invariant.0, c.loop-left.invariant.1, c.len-len.ensures.length)

pub overflow_add-low : goal.overflow_add-low
overflow_add-low c = omega (arith, c.loop-left.invariant.0, c.loop-left.invariant.1, c.len-len.ensures.length)

pub loop-left-preserved : goal.loop-left-preserved
loop-left-preserved c =
    let low = c.loop-left.low in let left = c.loop-left.left in let len = c.min-len.result in let before = c.loop-left.self in
    let after : c.set_word-in-loop-left.new.self ≡
    spliced (low + left - len) (reverse (taken low len before)) (spliced low (reverse (taken (low + left - len) len before)) before) =
    c.set_word-in-loop-left.ensures.bits
    ∙ ap₂ (λ p z. spliced (low + left - len) p z) c.reversed_word-first.ensures.bits
    (c.set_word.ensures.bits ∙ ap (λ p. spliced low p before) c.reversed_word-last.ensures.bits) in (
      c.set_word-in-loop-left.ensures.length ∙ c.set_word.ensures.length ∙ c.loop-left.invariant.0,
      omega (arith, c.set_word-in-loop-left.ensures.length, c.set_word.ensures.length, c.loop-left.invariant.1),
      ap (λ z. spliced (low + len) (reverse (taken (low + len) (left - 2 * len) z)) z) after
          ∙ turned_round low left len before (omega arith) c.loop-left.invariant.1
          ∙ c.loop-left.invariant.2,
    )

pub returns-clause-reversed : goal.returns-clause-reversed
returns-clause-reversed c =
    sym (none_turned c.loop-left.low c.loop-left.left c.loop-left.self (omega arith) c.loop-left.invariant.1) ∙ c.loop-left.invariant.2
