use Rattle.std.proofs.Common.{refl, [], ◌≤◌, subst, sym}
use Rattle.std.proofs.lemmas.Bool.{false≢true}
use Rattle.base.specs.Bits.{low_bits}
use Rattle.dev_card.specs.Clocks.{with_zero}
use Rattle.scan_paths.proofs.CallsInARow.{front_broken}
use Rattle.scan_paths.proofs.Parts.{block_failed}
use Rattle.link_server.proofs.Blocks.{length_of_moves}
use Rattle.link_cable.proofs.CableLemmas.{block_led, led_front, made_nothing_over, unbroken}
use Rattle.link_cable.proofs.link_cable.LinkCableCable.move_block.Goals as goal

pub returns-in_err-tdo-clause-moved : goal.returns-in_err-tdo-clause-moved
returns-in_err-tdo-clause-moved g c =
    block_failed c.from_residual.result c.from_residual.ensures.0
    (front_broken _ _ c.args.self.now _ [] _ (made_nothing_over g.W.Wire c.args.self.now _ refl (unbroken _ _ c.requires.whole) refl
    (led_front g.W.Wire c.args.self.now _ refl (unbroken _ _ c.requires.whole) (with_zero (low_bits c.args.n c.args.tms))
    (subst (λ n. n ≤ 64) (sym (length_of_moves c.args.tms c.args.n)) c.requires.most) refl
    c.in_err-tdo.ensures.moved (λ good. false≢true (c.in_err-tdo.ensures.good good).0))))

pub returns-clause-moved : goal.returns-clause-moved
returns-clause-moved g c =
    block_led g.W.Wire c.args.self.now _ refl (unbroken _ _ c.requires.whole) (with_zero (low_bits c.args.n c.args.tms)) c.in_ok-tdo.tdo refl c.in_ok-tdo.ensures.moved
    (λ good. record { good = (c.in_ok-tdo.ensures.good good).1; unbroken = refl; calm = c.in_ok-tdo.ensures.kept.counts.calm })
