use Rattle.stapl_codegen.proofs.Accepted.{accepted}
use Rattle.stapl_codegen.proofs.laws.programs_are_accepted.Goals as goal

pub returns : goal.returns
returns c = λ text program is.
    accepted text program is (c.programs_are_typed.ensures text program is) (c.programs_are_shaped.ensures text program is)
    (c.blocks_are_well_named.ensures text program is) (c.texts_of_prints_are_short.ensures text program is)
    (c.literals_have_bits.ensures text program is)
    (c.statements_are_no_longer_than_their_text.ensures text program is)
