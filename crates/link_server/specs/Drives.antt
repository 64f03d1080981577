-- Which bytes and answers lead from what a client's cable held to what it holds. The rules are this profile's.
use Rattle.std.specs.Prelude.{◌≡◌, ◌≤◌, ℕ, Bool, true, false, List, [], ◌++◌, length}
use Rattle.scan_paths.specs.Cables.{Signal}
use Rattle.link_server.specs.Clients.{bytes_of_signals, answers_of}

-- A wire went on from one state to another: these bytes were taken, and these answers were given.
abbrev pub Carrying : Type 0 → Type 1
Carrying W = W → List ℕ → List ℕ → W → Type 0

-- a client's end of a wire: whether one of its calls has failed, and the wire
pub record ClientEnd (W : Type 0) : Type 0 where
  pub is_broken : Bool
  pub wire : W

-- The bytes of exactly these signals went, and the digits of their clocks came. Only if a call has failed, a front of the
-- bytes of at most 64 more signals went after them, and perhaps answers came of which no clock counts.
pub record HasDriven {W : Type 0} (carried : Carrying W) (sleeps : Bool) (old : ClientEnd W) (signals : List Signal)
    (new : ClientEnd W) : Type 0 where
  pub pending : List Signal
  pub few : length pending ≤ 64
  pub more : List ℕ
  pub rest : List ℕ
  pub parts : bytes_of_signals sleeps pending ≡ more ++ rest
  pub uncounted : List ℕ
  pub no_more : new.is_broken ≡ false → more ≡ []
  pub no_uncounted : new.is_broken ≡ false → uncounted ≡ []
  pub went : carried old.wire (bytes_of_signals sleeps signals ++ more) (answers_of signals ++ uncounted) new.wire

-- Nothing leads on after a call has failed.
pub record IsStill {W : Type 0} (old : ClientEnd W) (signals : List Signal) (new : ClientEnd W) : Type 0 where
  pub none : signals ≡ []
  pub same : new ≡ old

-- signals lead from one end to another
pub record Drives {W : Type 0} (carried : Carrying W) (sleeps : Bool) (old : ClientEnd W) (signals : List Signal)
    (new : ClientEnd W) : Type 0 where
  pub whole : old.is_broken ≡ false → HasDriven carried sleeps old signals new
  pub broken : old.is_broken ≡ true → IsStill old signals new
