use Rattle.std.proofs.Common.{◌≡◌, None, subst, w32}
use Rattle.std.specs.Prelude.{ℤ}
use Rattle.std.proofs.lemmas.Int.{to_z-of_z}
use Rattle.stapl_meaning.specs.Values.{Known}
use Rattle.stapl_meaning.specs.Scans.{padding_bits}
use Rattle.machine_memory.specs.Found.{IsGot}
use Rattle.machine_scans.proofs.scanning.take_padding.Goals as goal

pub returns-in-None-clause-is : goal.returns-in-None-clause-is
returns-in-None-clause-is c =
    let variables = c.args.variables.now in
    rw c.in-None.is
    (subst (λ (z : ℤ). IsGot (λ bits g. g ≡ Known c.ones_of.new.target) c.ones_of.result (padding_bits variables None c.args.values.now z))
    (to_z-of_z w32 c.args.asked c.ranges.asked) (c.ones_of.ensures.is variables))
