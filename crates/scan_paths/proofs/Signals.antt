-- Clocks among signals, for this crate and those above.
use Rattle.std.proofs.Common.{◌≡◌, List, [], ◌∷◌, ◌++◌, refl, ap}
use Rattle.dev_card.specs.Board.{Clock}
use Rattle.scan_paths.specs.Cables.{Signal, Pulses, Waits, Tunes, pulsed, clocks_in}

pub clocks_in_both : (xs ys : List Signal) → clocks_in (xs ++ ys) ≡ clocks_in xs ++ clocks_in ys
clocks_in_both [] ys = refl
clocks_in_both (Pulses k ∷ xs) ys = ap (λ (z : List Clock). k ∷ z) (clocks_in_both xs ys)
clocks_in_both (Waits n ∷ xs) ys = clocks_in_both xs ys
clocks_in_both (Tunes n ∷ xs) ys = clocks_in_both xs ys

pub clocks_in_pulsed : (clocks : List Clock) → clocks_in (pulsed clocks) ≡ clocks
clocks_in_pulsed [] = refl
clocks_in_pulsed (k ∷ ks) = ap (λ (z : List Clock). k ∷ z) (clocks_in_pulsed ks)
