use Rattle.std.proofs.Common.{◌≡◌, ◌+◌, take}
use Rattle.stapl_code.specs.Files.{action}
use Rattle.stapl_code.specs.Sizes.{bytes_of}
use Rattle.code_ranges.proofs.sizes.take_actions.Given as goal

abbrev pub invariant-loop-action : goal.invariant-loop-action
invariant-loop-action l = l.initial.left ≡ l.left + bytes_of action (take l.action-index l.actions)
