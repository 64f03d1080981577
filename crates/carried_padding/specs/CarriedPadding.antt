-- What the play of a program that carries its padding has in common with the play with base padding. That programs may
-- carry it is this profile's.
use Rattle.std.specs.Prelude.{◌≡◌, ◌+◌, ℕ, Bool, List, [], ◌∷◌, Some}
use Rattle.stapl_syntax.specs.Trees.{StmtTree}
use Rattle.dev_card.specs.declared.desc.Desc.{Desc}
use Rattle.dev_card.specs.FarEnds.{Told}
use Rattle.dev_card.specs.Padding.{Neighbours, base_lengths}
use Rattle.stapl_meaning.specs.Scopes.{as_played}
use Rattle.stapl_meaning.specs.Choices.{chosen, choice_of}
use Rattle.stapl_meaning.specs.Plays.{Run, play, ending_of}
use Rattle.stapl_meaning.specs.Texts.{events_text}
use Rattle.padded_plays.specs.PaddedRuns.{fresh_board}
use Rattle.padded_plays.specs.QuietPlays.{no_base}
use Rattle.carried_plays.specs.CarriedPrograms.{padding_number, choice_with}

-- Both plays have the same events, clocks among them, and stand the same way: ended, or going on from the same place.
-- The variables are the same, and so is the board.
pub record AreSamePlays (padded carried : Run) : Type 0 where
  pub same_events : carried.events ≡ padded.events
  pub same_outcome : carried.outcome ≡ padded.outcome
  pub same_variables : carried.state.store ≡ padded.state.store
  pub same_board : carried.chain.far ≡ padded.chain.far

-- Both plays have the same text, with the clocks or without them, and the same ending.
pub record HaveSameText (padded carried : Run) : Type 0 where
  pub same_text : (pins : Bool) → events_text pins [] carried.events ≡ events_text pins [] padded.events
  pub same_ending : ending_of carried.outcome ≡ ending_of padded.outcome

-- Of two programs the second one, played on the whole board without base padding and for five turns more, plays as
-- the first one does with base padding for a run of the board. A choice comes to the same in both, and the last
-- procedure of the second one runs first.
pub record CarriesPaddingOf (devices : List Desc) (run : Neighbours) (program carried : List StmtTree) : Type 0 where
  pub choices : (action : List ℕ) (asked skipped : List (List ℕ)) →
      choice_of (as_played carried) action asked skipped
      ≡ choice_with (padding_number program) (choice_of (as_played program) action asked skipped)
  pub plays : (action : List ℕ) (asked skipped : List (List ℕ)) (procedures : List ℕ) →
      choice_of (as_played program) action asked skipped ≡ chosen procedures → (n : ℕ) →
      AreSamePlays
      (play (as_played program) procedures n (base_lengths devices (Some run)) (Told (fresh_board devices)))
      (play (as_played carried) (padding_number program ∷ procedures) (n + 5) no_base (Told (fresh_board devices)))
