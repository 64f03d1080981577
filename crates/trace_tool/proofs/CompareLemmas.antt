-- What a comparison of a text with a board comes to.
use Rattle.std.proofs.Common.{◌≡◌, ◌≤◌, ◌++◌, ℕ, false, List, length, map, Option, Some, Ok, sym, subst}
use Rattle.dev_card.specs.declared.desc.Desc.{Desc}
use Rattle.dev_card.specs.Card.{Card}
use Rattle.dev_card.specs.Sound.{SoundCard}
use Rattle.chain_sim.specs.Places.{cards_at}
use Rattle.chain_sim.specs.Rack.{places_of}
use Rattle.chain_sim.specs.Reports.{report_in}
use Rattle.pin_lines.specs.PinLines.{has_bad_line, pins_in}
use Rattle.pin_lines.specs.Traces.{IsGoodTrace}
use Rattle.pin_lines.specs.FirstFaults.{IsFirstBadLine}
use Rattle.trace_check.specs.Clocked.{IsTraced, IsTracedUpTo}
use Rattle.trace_check.specs.Limits.{trace_limit}
use Rattle.trace_tool.specs.declared.status.TraceStatus.TheVariants.{Good, Differs, BadLine}
use Rattle.trace_tool.specs.Texts.{good_line, differs_line, bad_line_text}
use Rattle.trace_tool.specs.Answers.{new_board, TraceAnswer, bad_line, differs, good}
use Rattle.trace_tool.specs.FinalRacks.{HoldsLed, KeepsRack}

module _ (devices : List Desc) (text : List ℕ) where
  pub is_good : (n : ℕ) (new : Option (List Card)) → length text ≤ trace_limit → IsGoodTrace (new_board devices) text →
      IsTraced (new_board devices) (pins_in text) n new → TraceAnswer devices text (good_line n ++ report_in new) (Good n)
  is_good n new short g t =
      subst (λ (o : Option (List Card)). TraceAnswer devices text (good_line n ++ report_in o) (Good n)) (sym t.board) (good n short g.good t.agrees t.count)

  pub is_other : (i : ℕ) (new : Option (List Card)) → length text ≤ trace_limit → has_bad_line text ≡ false →
      IsTracedUpTo (new_board devices) (pins_in text) i new → TraceAnswer devices text (differs_line i) (Differs i)
  is_other i new short none t = differs i short none t.first

  pub is_bad : (n : ℕ) → length text ≤ trace_limit → IsFirstBadLine text n → TraceAnswer devices text (bad_line_text n) (BadLine n)
  is_bad n short first = bad_line n short first

  -- what the rack holds then
  module _ {D Kind : Type 0} {kind_of : D → Kind} {fitted : D → Option SoundCard} {before after : List D} (kinds : map kind_of after ≡ map kind_of before) where
    pub rack_good : (n : ℕ) → IsTraced (new_board devices) (pins_in text) n (cards_at (map fitted after) (places_of devices)) →
        KeepsRack kind_of fitted (HoldsLed devices text) before after (Ok (Good n))
    rack_good n t = record { kinds = kinds; early = λ p. absurd p; leaves = λ p. t.board }

    pub rack_other : (i : ℕ) → IsTracedUpTo (new_board devices) (pins_in text) i (cards_at (map fitted after) (places_of devices)) →
        KeepsRack kind_of fitted (HoldsLed devices text) before after (Ok (Differs i))
    rack_other i t = record { kinds = kinds; early = λ p. absurd p; leaves = λ p. t.board }

    pub rack_bad : (n : ℕ) → cards_at (map fitted after) (places_of devices) ≡ Some (new_board devices) →
        KeepsRack kind_of fitted (HoldsLed devices text) before after (Ok (BadLine n))
    rack_bad n e = record { kinds = kinds; early = λ p. absurd p; leaves = λ p. e }
