use Rattle.std.proofs.Common.{◌≡◌, ◌≤◌, Some, IfSome, ◌+◌, ◌-◌, [], ◌∷◌, ◌++◌, vec_len}
use Rattle.tool_io.specs.Causes.{NoneFalls}
use Rattle.tool_io.specs.Files.{file_of, then_names}
use Rattle.tool_io.proofs.reading.read_whole.Given as goal

abbrev pub invariant-turns : goal.invariant-turns
invariant-turns g l = record {
  told : g.S.Shelf.told l.shelf ≡ g.S.Shelf.told l.fn.shelf;
  reads : g.S.Shelf.reads l.shelf l.name;
  so_far : IfSome (g.S.Shelf.told l.fn.shelf) (λ files. file_of files l.name ≡ Some (l.whole.items ++ g.S.Shelf.left l.shelf));
  once : g.S.Shelf.picks l.shelf ≡ then_names (g.S.Shelf.picks l.fn.shelf) (l.name ∷ []);
  kept : NoneFalls g.S.Shelf.faults g.S.Shelf.is_last l.fn.shelf l.shelf;
  short : vec_len l.whole ≤ l.most + 1;
}

abbrev pub decreases-turns : goal.decreases-turns
decreases-turns g l = l.most + 1 - vec_len l.whole
