-- What two plays have in common, of which one is on a run of devices alone, and the other at its place in a board.
use Rattle.std.specs.Prelude.{◌≡◌, ℕ, false, List, [], ◌∷◌, ◌++◌, take, drop}
use Rattle.dev_card.specs.declared.desc.Desc.{Desc}
use Rattle.dev_card.specs.Card.{Card}
use Rattle.dev_card.specs.FarEnds.{FarEnd, Told}
use Rattle.dev_card.specs.PaddedScan.{descriptions_of}
use Rattle.dev_card.specs.Reports.{report_of}
use Rattle.stapl_meaning.specs.declared.events.Event.{Event}
use Rattle.stapl_meaning.specs.declared.events.Event.TheVariants.{Print, Export, Clock, Usec, Hertz}
use Rattle.stapl_meaning.specs.Deeds.{Chain}
use Rattle.stapl_meaning.specs.Plays.{Run, ending_of}
use Rattle.stapl_meaning.specs.Texts.{events_text, far_report}
use Rattle.padded_plays.specs.QuietPlays.{told_cards}

-- events that are no clocks
abbrev pub without_clocks : List Event → List Event
without_clocks [] = []
without_clocks (Print bytes ∷ es) = Print bytes ∷ without_clocks es
without_clocks (Export key value ∷ es) = Export key value ∷ without_clocks es
without_clocks (Clock tms tdi tdo ∷ es) = without_clocks es
without_clocks (Usec n ∷ es) = Usec n ∷ without_clocks es
without_clocks (Hertz n ∷ es) = Hertz n ∷ without_clocks es

-- The controllers of both chains are in the same state. The cards of the run that stands alone stand in the board,
-- between cards of the devices before and after the run.
pub record IsChainOfRun (before run after : List Desc) (padded alone : Chain) : Type 0 where
  pub same_tap : padded.tap ≡ alone.tap
  pub front : List Card
  pub cards : List Card
  pub back : List Card
  pub board_is : padded.far ≡ Told (front ++ (cards ++ back))
  pub alone_is : alone.far ≡ Told cards
  pub front_is : descriptions_of front ≡ before
  pub cards_are : descriptions_of cards ≡ run
  pub back_is : descriptions_of back ≡ after

-- Both plays have the same events, clocks apart. They stand the same way: ended, or going on from the same place. They
-- have the same state: procedures still to run, records, variables, paddings and stop states.
pub record IsSamePlay (before run after : List Desc) (padded alone : Run) : Type 0 where
  pub same_events : without_clocks padded.events ≡ without_clocks alone.events
  pub same_outcome : padded.outcome ≡ alone.outcome
  pub same_state : padded.state ≡ alone.state
  pub chain : IsChainOfRun before run after padded.chain alone.chain

-- the cards of a run of so many, after so many others
abbrev pub cards_from : ℕ → ℕ → FarEnd → List Card
cards_from before count far = take count (drop before (told_cards far))

-- Both plays have the same text without pins and the same ending. The cards of the run in the board, and their report,
-- are those of the run alone.
pub record IsSameText (before count : ℕ) (padded alone : Run) : Type 0 where
  pub same_text : events_text false [] padded.events ≡ events_text false [] alone.events
  pub same_ending : ending_of padded.outcome ≡ ending_of alone.outcome
  pub same_cards : cards_from before count padded.chain.far ≡ told_cards alone.chain.far
  pub same_report : report_of (cards_from before count padded.chain.far) ≡ far_report alone.chain.far
