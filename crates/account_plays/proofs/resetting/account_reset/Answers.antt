use Rattle.std.proofs.Common.{◌∙◌, rules}
use Rattle.stapl_machine.specs.Machines.{digits_in}
use Rattle.run_cable.specs.RunCables.{cable_of}
use Rattle.account_plays.proofs.FirstLemmas.{resets, first_sums}
use Rattle.account_plays.proofs.resetting.account_reset.Goals as goal

pub returns-clause-reset : goal.returns-clause-reset
returns-clause-reset g c =
    let r = c.in-Ok.ensures.reset in
    resets g.C.Cable c.over-over.result c.reset_chain.new.cable (digits_in c.reset_chain.new.self) r.reset r.open_now.whole_cable
    c.args.cable.now _ c.over-over.ensures.over.cable (search rules) r.open_now.in_reset

pub returns-clause-sums : goal.returns-clause-sums
returns-clause-sums g c =
    let r = c.in-Ok.ensures.reset in
    first_sums g.C.Cable c.over-over.result c.reset_chain.new.cable (digits_in c.reset_chain.new.self) r.reset r.open_now.whole_cable
    c.args.runs.now _ (c.over-over.ensures.runs ∙ c.begin.ensures) (search rules) c.requires.none_lost

pub unreachable-unreachable : goal.unreachable-unreachable
unreachable-unreachable g c = absurd (c.requires.sure (cable_of c.over-over.result) (cable_of c.reset_chain.new.cable) c.in-Err.ensures.cause.failed)
