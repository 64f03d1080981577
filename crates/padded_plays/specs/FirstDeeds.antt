-- The first deed that is not quiet of a play on a run of devices that stands alone: its turn, its piece, and why it is
-- not. Which plays are quiet is this profile's.
use Rattle.std.specs.Prelude.{◌≡◌, ◌≤◌, ℕ, ◌+◌, suc, Bool, false, List, ◌∷◌, ◌++◌}
use Rattle.dev_card.specs.declared.desc.Desc.{Desc}
use Rattle.stapl_meaning.specs.Deeds.{Deed, Chain, deeds_chain}
use Rattle.stapl_meaning.specs.Scopes.{Played}
use Rattle.stapl_meaning.specs.Plays.{Going}
use Rattle.padded_plays.specs.QuietPlays.{AreQuietDeeds, loaded_by_deeds, deeds_of_play, first_chain, play_alone, IsQuietPlay}
use Rattle.padded_plays.specs.declared.unquiet.Unquiet.{Unquiet}
use Rattle.padded_plays.specs.Reasons.{IsReason}

-- The first of these deeds that is not quiet is not for this reason: all before it are quiet.
pub record HasUnquiet (loaded : Bool) (k : Chain) (deeds : List Deed) (why : Unquiet) : Type 0 where
  pub front : List Deed
  pub deed : Deed
  pub back : List Deed
  pub whole : deeds ≡ front ++ (deed ∷ back)
  pub quiet : AreQuietDeeds loaded k front
  pub reason : IsReason (loaded_by_deeds loaded k front) (deeds_chain k front) deed why

-- the first of the deeds of a play, for at most n turns, on these devices alone
abbrev pub HasUnquietDeed : Played → List ℕ → ℕ → List Desc → Unquiet → Type 0
HasUnquietDeed program chosen n run why =
    HasUnquiet false (first_chain run) (deeds_of_play program chosen n (first_chain run)) why

-- The first deed of a play that is not quiet is in this turn, counted from 1, which is that of this piece, and is not
-- quiet for this reason: for a turn less the play is quiet, and goes on at the piece. Turn 0 of piece 0 is what sets
-- the play up. No turn after it is spoken of.
pub data IsFirstUnquiet (program : Played) (chosen : List ℕ) (run : List Desc) : ℕ → ℕ → Unquiet → Type 0 where
  at_the_beginning : (why : Unquiet) → HasUnquietDeed program chosen 0 run why →
      IsFirstUnquiet program chosen run 0 0 why
  in_a_turn : (before place : ℕ) (why : Unquiet) → IsQuietPlay program chosen before run →
      (play_alone program chosen before run).outcome ≡ Going place →
      HasUnquietDeed program chosen (suc before) run why →
      IsFirstUnquiet program chosen run (suc before) (place + 1) why

-- there is one within so many turns
pub record HasFirstUnquiet (program : Played) (chosen : List ℕ) (n : ℕ) (run : List Desc) : Type 0 where
  pub turn : ℕ
  pub piece : ℕ
  pub why : Unquiet
  pub first : IsFirstUnquiet program chosen run turn piece why
  pub within : turn ≤ n

-- two such deeds are the same
pub record AreSameDeed (turn piece : ℕ) (why : Unquiet) (other_turn other_piece : ℕ) (other : Unquiet) : Type 0 where
  pub turns : turn ≡ other_turn
  pub pieces : piece ≡ other_piece
  pub reasons : why ≡ other
