-- What a turn of a play is, by the play for so many turns and that for one turn more.
use Rattle.std.specs.Prelude.{◌≡◌, ℕ, suc, List, [], ◌∷◌, ◌++◌}
use Rattle.stapl_meaning.specs.Plays.{Run, Going}
use Rattle.scan_accounts.specs.MadeTurns.{MadeTurn}

-- The shorter play goes on at the place of the turn, with the controllers in its first state, and the longer one has
-- the events of the turn after those of the shorter one.
pub record IsNextTurn (shorter longer : Run) (t : MadeTurn) : Type 0 where
  pub place : shorter.outcome ≡ Going t.place
  pub from : shorter.chain.tap ≡ t.from
  pub events : longer.events ≡ shorter.events ++ t.events

-- the turns are those of the plays for these numbers of turns, from this number on
abbrev pub AreNextTurns : (ℕ → Run) → List MadeTurn → Type 0
AreNextTurns plays [] = Unit {0}
AreNextTurns plays (t ∷ ts) = IsNextTurn (plays 0) (plays 1) t × AreNextTurns (λ n. plays (suc n)) ts
