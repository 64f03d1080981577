-- A play of a code over a watch.
use Rattle.std.specs.Prelude.{◌≡◌, ℕ, Bool, List, length, Option, Some}
use Rattle.dev_card.specs.declared.desc.Kind.{Kind}
use Rattle.dev_card.specs.FarEnds.{FarEnd, Heard}
use Rattle.dev_card.specs.Sound.{SoundCard}
use Rattle.scan_paths.specs.Cables.{whole}
use Rattle.stapl_meaning.specs.declared.events.Ending.{Ending}
use Rattle.stapl_meaning.specs.Plays.{Run, ending_of}
use Rattle.stapl_code.specs.declared.raw.CodeLists.{CodeLists}
use Rattle.stapl_code.specs.Safe.{AllBelow}
use Rattle.stapl_machine.specs.declared.running.Machine.{Machine}
use Rattle.stapl_machine.specs.Machines.{IsPrepared}
use Rattle.written_cable.specs.Signals.{signals_of}
use Rattle.quiet_watch.specs.declared.watch.Watch.{Watch}
use Rattle.quiet_watch.specs.WatchedDevices.{HasFollowed, watch_breakage}

-- A play may begin: the machine is prepared for the code, which has the chosen procedures.
pub record CanBegin (code : CodeLists) (chosen : List ℕ) (machine : Machine) : Type 0 where
  pub prepared : IsPrepared code machine
  pub below : AllBelow (length code.procedures) chosen

-- A play over a watch may begin: the machine is prepared for the code, which has the chosen procedures, and the watch is
-- not broken.
pub record CanWatch {D : Type 0} (fitted : D → Option SoundCard) (kind_of : D → Kind) (code : CodeLists) (chosen : List ℕ) (machine : Machine) (watch : Watch D) : Type 0 where
  pub prepared : IsPrepared code machine
  pub below : AllBelow (length code.procedures) chosen
  pub whole : watch_breakage fitted kind_of watch ≡ whole

-- The play was made over the watch with the answers that it heard there, and ended so.
pub record HasWatchedPlay {D : Type 0} (fitted : D → Option SoundCard) (kind_of : D → Kind) (run : FarEnd → Run)
    (old : Watch D) (ending : Ending) (new : Watch D) : Type 0 where
  pub answers : List Bool
  pub follows : HasFollowed fitted kind_of old (signals_of (run (Heard answers)).events) new
  pub ended : ending_of (run (Heard answers)).outcome ≡ Some ending
