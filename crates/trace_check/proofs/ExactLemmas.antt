-- A check is Ok exactly if the text is a good trace of the board.
use Rattle.std.proofs.Common.{◌≡◌, ◌↔◌, ℕ, List, Option, Ok, Err, IsTrue, false, refl, ap}
use Rattle.std.specs.Prelude.{Result, IsOk}
use Rattle.std.proofs.lemmas.Bool.{false≢true}
use Rattle.dev_card.specs.Card.{Card}
use Rattle.dev_card.specs.Sound.{SoundCard}
use Rattle.scan_paths.specs.Cables.{whole_if}
use Rattle.chain_sim.specs.Places.{is_chain, AreApart}
use Rattle.chain_sim.proofs.Clocking.{apart_if_whole}
use Rattle.pin_lines.specs.PinLines.{has_bad_line, pins_in}
use Rattle.pin_lines.specs.FirstFaults.{IsFirstBadLine}
use Rattle.pin_lines.specs.Traces.{IsGoodTrace}
use Rattle.pin_lines.proofs.FirstFaults.{not_both_lines, not_both_clocks}
use Rattle.trace_check.specs.declared.trace.TraceRefused.{TraceRefused}
use Rattle.trace_check.specs.declared.trace.TraceRefused.TheVariants.{BadLine, Differs}
use Rattle.trace_check.specs.Clocked.{IsTraced, IsTracedUpTo}

pub ok_exactly : (r : Result ℕ TraceRefused) (cs : List Card) (text : List ℕ) (new : Option (List Card)) →
    ((n : ℕ) → r ≡ Ok n → has_bad_line text ≡ false) → ((n : ℕ) → r ≡ Ok n → IsTraced cs (pins_in text) n new) →
    ((n : ℕ) → r ≡ Err (BadLine n) → IsFirstBadLine text n) → ((i : ℕ) → r ≡ Err (Differs i) → IsTracedUpTo cs (pins_in text) i new) →
    IsOk r ↔ IsGoodTrace cs text
ok_exactly (Ok n) cs text new none ok bad differs = (λ h. record { good = none n refl; agrees = (ok n refl).agrees }, λ g. refl)
ok_exactly (Err (BadLine n)) cs text new none ok bad differs = (λ h. absurd (false≢true h), λ g. absurd (not_both_lines text n (bad n refl) g.good))
ok_exactly (Err (Differs i)) cs text new none ok bad differs =
    (λ h. absurd (false≢true h), λ g. absurd (not_both_clocks cs (pins_in text) i (differs i refl).first g.agrees))

-- the places of a chain differ
pub places_apart : (rack : List (Option SoundCard)) (places : List ℕ) → IsTrue (is_chain rack places) → AreApart places
places_apart rack places h = apart_if_whole rack places (ap whole_if h)
