use Rattle.std.proofs.Common.{◌≡◌, ◌++◌, length, take}
use Rattle.std.specs.List.{flat_map}
use Rattle.stapl_code.specs.Fields.{number}
use Rattle.stapl_code.specs.Files.{action}
use Rattle.code_files.proofs.encoding.put_actions.Given as goal

abbrev pub invariant-loop-action : goal.invariant-loop-action
invariant-loop-action l = l.out.items ≡ l.fn.out.items ++ number (length l.actions) ++ flat_map action (take l.action-index l.actions)
