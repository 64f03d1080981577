use Rattle.std.proofs.Common.{◌≡◌, ◌*◌, ◌+◌, sym, ◌∙◌, rules, arith}
use Rattle.std.proofs.lemmas.Bool.{false≢true}
use Rattle.std.proofs.lemmas.Bool.Decides.{nat_tests}
use Rattle.dev_card.specs.declared.desc.Kind.TheVariants.{Plain, Regs, Flash}
use Rattle.chain_sim.proofs.Racks.{none_yet, rack_counted, three_more, rack_has}
use Rattle.chain_sim.proofs.kinds.is_rack.Goals as goal

pub returns-then-rack : goal.returns-then-rack
returns-then-rack g c = (
  (λ is. absurd (false≢true is)),
  λ rack. let all = rack_counted g.D.Device.kind_of c.args.rack.now rack in absurd (grind (arith, nat_tests, all, c.if-rack.true)),
)

pub loop-p-init : goal.loop-p-init
loop-p-init g c = none_yet g.D.Device.kind_of c.args.rack.now

pub loop-p-preserved : goal.loop-p-preserved
loop-p-preserved g c =
    let f = g.D.Device.kind_of in
    let x = c.index-rack-p.result in
    let y = c.index-rack-p-in-loop-p.result in
    let z = c.index-rack-p-in-loop-p-2.result in
    let plain : f x ≡ Plain = search rules in
    let regs : f y ≡ Regs = search rules in
    let flash : f z ≡ Flash = search rules in
    three_more f c.args.rack.now c.loop-p.p x y z (omega arith) c.index-rack-p.is c.index-rack-p-in-loop-p.is c.index-rack-p-in-loop-p-2.is plain regs flash c.loop-p.invariant

pub returns-then-not-are_of_all_kinds : goal.returns-then-not-are_of_all_kinds
returns-then-not-are_of_all_kinds g c =
    let f = g.D.Device.kind_of in
    let xs = c.args.rack.now in (
      (λ is. absurd (false≢true is)),
      λ rack.
          let plain = rack_has f xs c.loop-p.p (3 * c.loop-p.p) c.index-rack-p.result Plain rack (omega arith) (omega arith) (omega arith) c.index-rack-p.is in
          let regs = rack_has f xs c.loop-p.p (3 * c.loop-p.p + 1) c.index-rack-p-in-loop-p.result Regs rack (omega arith) (omega arith) (omega arith) c.index-rack-p-in-loop-p.is in
          let flash = rack_has f xs c.loop-p.p (3 * c.loop-p.p + 2) c.index-rack-p-in-loop-p-2.result Flash rack (omega arith) (omega arith) (omega arith) c.index-rack-p-in-loop-p-2.is in
          absurd (false≢true (sym c.if-not-are_of_all_kinds.true ∙ c.are_of_all_kinds.ensures.1 (plain, regs, flash))),
    )
