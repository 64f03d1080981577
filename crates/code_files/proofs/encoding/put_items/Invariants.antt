use Rattle.std.proofs.Common.{◌≡◌, ◌++◌, length, take}
use Rattle.std.specs.List.{flat_map}
use Rattle.stapl_code.specs.Fields.{number}
use Rattle.stapl_code.specs.Files.{item}
use Rattle.code_files.proofs.encoding.put_items.Given as goal

abbrev pub invariant-loop-item : goal.invariant-loop-item
invariant-loop-item l = l.out.items ≡ l.fn.out.items ++ number (length l.items) ++ flat_map item (take l.item-index l.items)
