-- On the procedures that are chosen.
use Rattle.std.proofs.Common.{◌≡◌, ℕ, List, [], ◌∷◌, Bool, true, false, Some, if◌then◌else◌, map, subst}
use Rattle.std.specs.Prelude.{All, IfSome}
use Rattle.std.specs.List.{find, filter}
use Rattle.std.proofs.lemmas.List.Elements.{All-head, All-tail}
use Rattle.stapl_code.specs.declared.raw.ProcDef.{ProcDef}
use Rattle.stapl_code.specs.declared.raw.ItemDef.{ItemDef}
use Rattle.stapl_code.specs.declared.raw.ActionDef.{ActionDef}
use Rattle.stapl_code.specs.Ranges.{IsItem, IsAction}
use Rattle.stapl_code.specs.Safe.{AllBelow}
use Rattle.stapl_player.specs.Choices.{runs, running}

-- An action that is found is one of the code.
found_good : (test : ActionDef → Bool) (n : ℕ) (actions : List ActionDef) → All (IsAction n) actions → IfSome (find test actions) (IsAction n)
found_good test n [] are = tt
found_good test n (action ∷ rest) are = by (test action) (found_good test n rest (All-tail (IsAction n) action rest are))
  where
    by : (b : Bool) → IfSome (find test rest) (IsAction n) → IfSome (if b then Some action else find test rest) (IsAction n)
    by true more = All-head (IsAction n) action rest are
    by false more = more

-- Procedures that run are those of items.
running_below : (procedures : List ProcDef) (asked skipped : List (List ℕ)) (n : ℕ) (items : List ItemDef) → All (IsItem n) items → AllBelow n (running procedures asked skipped items)
running_below procedures asked skipped n [] are = tt
running_below procedures asked skipped n (item ∷ items) are =
    by (runs procedures asked skipped item) (running_below procedures asked skipped n items (All-tail (IsItem n) item items are))
  where
    others : List ItemDef
    others = filter (runs procedures asked skipped) items

    by : (b : Bool) → AllBelow n (running procedures asked skipped items) →
        AllBelow n (map (λ item. item.procedure) (if b then item ∷ others else others))
    by true more = ((All-head (IsItem n) item items are).there, more)
    by false more = more

-- The procedures of an action that is found are among those of the code.
pub found_below : (test : ActionDef → Bool) (procedures : List ProcDef) (asked skipped : List (List ℕ)) (n : ℕ) (actions : List ActionDef) (action : ActionDef) →
    All (IsAction n) actions → find test actions ≡ Some action → AllBelow n (running procedures asked skipped action.items)
found_below test procedures asked skipped n actions action are e =
    running_below procedures asked skipped n action.items (subst (λ o. IfSome o (IsAction n)) e (found_good test n actions are)).each
