use Rattle.machine_memory.proofs.SpanLemmas.{word_falls, word_rises}
use Rattle.machine_memory.proofs.part_bits.part_word.Goals as goal

pub returns-then-span : goal.returns-then-span
returns-then-span c =
    word_falls c.args.span c.args.at c.args.n c.reversed_word.result c.args.bits.now c.requires.few c.requires.inside c.if-span.true c.reversed_word.ensures.value

pub returns-else-span : goal.returns-else-span
returns-else-span c =
    word_rises c.args.span c.args.at c.args.n c.word.result c.args.bits.now c.requires.few c.requires.inside c.if-span.false c.word.ensures.value
