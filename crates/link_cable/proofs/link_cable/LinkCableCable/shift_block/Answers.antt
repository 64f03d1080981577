use Rattle.std.proofs.Common.{refl, [], ◌≤◌, subst, sym}
use Rattle.std.proofs.lemmas.Bool.{false≢true}
use Rattle.dev_card.specs.Blocks.{block_inputs}
use Rattle.scan_paths.proofs.CallsInARow.{front_broken}
use Rattle.scan_paths.proofs.Parts.{block_failed}
use Rattle.link_server.proofs.Blocks.{length_of_block}
use Rattle.link_cable.proofs.CableLemmas.{block_led, led_front, made_nothing_over, unbroken}
use Rattle.link_cable.proofs.link_cable.LinkCableCable.shift_block.Goals as goal

pub returns-in_err-tdo-clause-shifted : goal.returns-in_err-tdo-clause-shifted
returns-in_err-tdo-clause-shifted g c =
    block_failed c.from_residual.result c.from_residual.ensures.0
    (front_broken _ _ c.args.self.now _ [] _ (made_nothing_over g.W.Wire c.args.self.now _ refl (unbroken _ _ c.requires.whole) refl
    (led_front g.W.Wire c.args.self.now _ refl (unbroken _ _ c.requires.whole) (block_inputs c.args.tdi c.args.n c.args.last)
    (subst (λ n. n ≤ 64) (sym (length_of_block c.args.tdi c.args.n c.args.last)) c.requires.most) refl
    c.in_err-tdo.ensures.shifted (λ good. false≢true (c.in_err-tdo.ensures.good good).0))))

pub returns-clause-shifted : goal.returns-clause-shifted
returns-clause-shifted g c =
    block_led g.W.Wire c.args.self.now _ refl (unbroken _ _ c.requires.whole) (block_inputs c.args.tdi c.args.n c.args.last) c.in_ok-tdo.tdo refl c.in_ok-tdo.ensures.shifted
    (λ good. record { good = (c.in_ok-tdo.ensures.good good).1; unbroken = refl; calm = c.in_ok-tdo.ensures.kept.counts.calm })
