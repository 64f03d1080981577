use Rattle.std.proofs.Common.{◌∙◌, ap, take, length, false, arith}
use Rattle.std.proofs.lemmas.List.{length-replicate}
use Rattle.board_text.proofs.ConstantLemmas.{enough_bits, copied_bits}
use Rattle.board_text.proofs.register.constant_bits.Goals as goal

pub copy_range-requires-clause-source : goal.copy_range-requires-clause-source
copy_range-requires-clause-source c = omega (arith, enough_bits c.args.digits.now c.args.len c.requires.constant, ap length c.in-Ok.ensures.bits)

pub returns : goal.returns
returns c =
    copied_bits c.args.len c.in-Ok.whole _ c.copy_range.new.self c.copy_range.ensures.copied (ap length c.in_ok-bits.ensures ∙ length-replicate c.args.len false)
    (omega (arith, enough_bits c.args.digits.now c.args.len c.requires.constant, ap length c.in-Ok.ensures.bits))
    ∙ ap (take c.args.len) c.in-Ok.ensures.bits
