use Rattle.std.proofs.Common.{◌≡◌, ◌*◌, reverse, subst, arith}
use Rattle.base.specs.Bits.{low_bits}
use Rattle.bit_list.specs.Words.{word_size}
use Rattle.bit_list.proofs.WordBits.{word_size_is}
use Rattle.bit_list.proofs.ReversedBits.{digit_few, digit_below, digits_left, digit_joined, digit_fits}
use Rattle.bit_list.proofs.words.reversed_whole.Goals as goal

pub overflow_mul-turned : goal.overflow_mul-turned
overflow_mul-turned c =
    let room = digit_fits c.loop.counter c.loop.turned c.loop-test.true c.loop.invariant.1 in record { fits = omega (arith, room) }

pub overflow_add-turned : goal.overflow_add-turned
overflow_add-turned c =
    let room = digit_fits c.loop.counter c.loop.turned c.loop-test.true c.loop.invariant.1 in
    record { fits = omega (arith, room, digit_few c.loop.rest) }

pub loop-preserved : goal.loop-preserved
loop-preserved c =
    let k = c.loop.counter in let i = c.loop.invariant in (
      digits_left k c.loop.rest c.loop.turned c.args.word i.0 i.1 i.2,
      digit_below k c.loop.rest c.loop.turned c.args.word i.0 i.1 i.2,
      digit_joined k c.loop.rest c.loop.turned c.args.word i.0 i.1 i.2,
    )

pub returns : goal.returns
returns c =
    let all : 4 * c.loop.counter ≡ word_size = omega (arith, c.loop-test.false, c.loop.auto.counter-end, word_size_is) in
    subst (λ n. low_bits n c.loop.turned ≡ reverse (low_bits n c.args.word)) all c.loop.invariant.2
