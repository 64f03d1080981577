use Rattle.std.proofs.Common.{false, [], ◌∷◌, replicate, ap, ◌∙◌}
use Rattle.dev_kinds.specs.Logic.{Logic}
use Rattle.base.proofs.NumberBits.{low_bits_of_zero}
use Rattle.dev_kinds.proofs.test_logic.TestLogic.blank.Goals as goal

pub returns : goal.returns
returns c =
    rw (c.load_bit.ensures, low_bits_of_zero c.self.inside.desc.ir_len)
    (ap (λ (k : Logic). record k { ir_list = replicate k.desc.ir_len false; dr_list = false ∷ [] })
    (c.self.view_is ∙ c.enter.ensures))
