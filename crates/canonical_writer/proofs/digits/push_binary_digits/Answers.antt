use Rattle.std.proofs.Common.{◌≡◌, ℕ, Bool, List, ◌-◌, ◌++◌, sym, ap, ◌∙◌, arith}
use Rattle.std.specs.Prelude.{if◌then◌else◌}
use Rattle.canonical_text.specs.PrintedTokens.{binary_digits}
use Rattle.canonical_writer.proofs.DigitLemmas.{binary_more}
use Rattle.canonical_writer.proofs.digits.push_binary_digits.Goals.{then-get, else-get}
use Rattle.canonical_writer.proofs.digits.push_binary_digits.Goals as goal
use Rattle.std.proofs.Common.{take}

pub loop-left-preserved : goal.loop-left-preserved
loop-left-preserved c =
    let digit : c.if-get.digit ≡ (if c.get.result then 49 else 48) =
    elim c.if-get.branch [
      | then-get w ↦ w.digit-is ∙ ap (λ (b : Bool). if b then 49 else 48) (sym w.if-get.true)
      | else-get w ↦ w.digit-is ∙ ap (λ (b : Bool). if b then 49 else 48) (sym w.if-get.false)
    ] in (
      ap (λ (v : List ℕ). v ++ binary_digits (take (c.loop-left.left - 1) c.args.bits.now)) c.in_ok-push.ensures.items
          ∙ binary_more c.loop-left.out.items (c.args.out.now.items ++ binary_digits c.args.bits.now) c.args.bits.now c.loop-left.left (c.loop-left.left - 1)
          c.if-get.digit c.get.result (omega arith) c.loop-left.invariant.0 c.get.ensures digit,
      omega (arith, c.loop-left.invariant.1),
    )
