use Rattle.std.proofs.Common.{◌≡◌, drop}
use Rattle.stapl_syntax.specs.Names.{key_eq, firsts_after}
use Rattle.stapl_names.specs.Tables.{places_from}
use Rattle.stapl_names.proofs.blocks.put_uses.Given as goal

abbrev pub invariant-loop-place : goal.invariant-loop-place
invariant-loop-place l =
    firsts_after key_eq l.used.entries (places_from l.own l.place (drop l.place l.uses))
    ≡ firsts_after key_eq l.initial.used.entries (places_from l.own 0 l.uses)
