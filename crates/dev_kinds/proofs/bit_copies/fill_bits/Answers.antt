use Rattle.std.proofs.Common.{length, replicate, ap, ◌∙◌}
use Rattle.std.proofs.lemmas.List.{length-replicate}
use Rattle.bit_list.specs.Ranges.{spliced}
use Rattle.bit_list.proofs.Splices.{spliced_whole}
use Rattle.dev_kinds.proofs.bit_copies.fill_bits.Goals as goal

pub returns : goal.returns
returns c =
    let old = c.args.bits.now in
    let bit = c.args.bit in
    c.fill_range.ensures.bits ∙ ap (λ n. spliced 0 (replicate n bit) old) c.len.ensures.length
    ∙ spliced_whole (replicate (length old) bit) old (length-replicate (length old) bit)
