-- A play that differs at a place of a board, because one of its deeds is not quiet at one point.
use Rattle.std.specs.Prelude.{◌≡◌, ℕ, false, List, [], ◌∷◌, ◌++◌, All}
use Rattle.dev_card.specs.declared.desc.Desc.{Desc}
use Rattle.dev_card.specs.Descriptions.{IsGood}
use Rattle.stapl_meaning.specs.Deeds.{Deed, Chain, deeds_chain}
use Rattle.stapl_meaning.specs.Scopes.{Played}
use Rattle.stapl_meaning.specs.Plays.{ending_of}
use Rattle.padded_plays.specs.declared.unquiet.Unquiet.{Unquiet}
use Rattle.padded_plays.specs.Reasons.{IsUnquiet}
use Rattle.padded_plays.specs.QuietPlays.{AreQuietDeeds, loaded_by_deeds, deeds_of_play, first_chain, play_alone, padded_play}

-- the procedure of the action, which is the only one
abbrev pub only_procedure : List ℕ
only_procedure = 0 ∷ []

-- These deeds on a chain, of which one is not quiet for this reason and for no other. All others are quiet.
pub record FailAtOnePoint (k : Chain) (deeds : List Deed) (why : Unquiet) : Type 0 where
  pub front : List Deed
  pub deed : Deed
  pub back : List Deed
  pub whole : deeds ≡ front ++ (deed ∷ back)
  pub before : AreQuietDeeds false k front
  pub fails : IsUnquiet (loaded_by_deeds false k front) (deeds_chain k front) deed why
  pub alone : (other : Unquiet) → IsUnquiet (loaded_by_deeds false k front) (deeds_chain k front) deed other →
      other ≡ why
  pub after : AreQuietDeeds (loaded_by_deeds false k (front ++ (deed ∷ [])))
      (deeds_chain k (front ++ (deed ∷ []))) back

-- The play of a program on a run of devices alone fails at this point alone, and ends otherwise at a place of a board
-- of good devices than it does alone.
pub record IsNeeded (program : Played) (n : ℕ) (before run after : List Desc) (why : Unquiet) : Type 0 where
  pub good : All IsGood (before ++ (run ++ after))
  pub point : FailAtOnePoint (first_chain run) (deeds_of_play program only_procedure n (first_chain run)) why
  pub differs : ending_of (padded_play program only_procedure n before run after).outcome
      ≡ ending_of (play_alone program only_procedure n run).outcome → ⊥
