-- Endings with different codes.
use Rattle.std.proofs.Common.{◌≡◌, ℤ, Bool, true, false, Option, Some, sym, ap, ◌∙◌}
use Rattle.std.specs.Ordering.{int_eq}
use Rattle.std.proofs.lemmas.Bool.{false≢true}
use Rattle.stapl_meaning.specs.declared.events.Ending.{Ending}
use Rattle.stapl_meaning.specs.declared.events.Ending.TheVariants.{Exit}

abbrev pub has_code : ℤ → Option Ending → Bool
has_code n (Some (Exit code)) = int_eq code n
has_code n _ = false

-- one has this code, and the other has not
pub codes_differ : (n : ℤ) (one other : Option Ending) → has_code n one ≡ true → has_code n other ≡ false → one ≡ other → ⊥
codes_differ n one other is not same = false≢true (sym not ∙ (ap (has_code n) (sym same) ∙ is))
