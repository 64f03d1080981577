-- On the room for operands: what a step leaves has it, and so has what follows.
use Rattle.std.proofs.Common.{◌≡◌, ◌<◌, ◌≤◌, ℕ, suc, ◌+◌, List, [], ◌∷◌, Option, length, drop, get_or, subst, ap, sym, ◌∙◌, arith}
use Rattle.std.specs.Prelude.{vec_capacity}
use Rattle.std.proofs.lemmas.List.{length-reverse}
use Rattle.stapl_meaning.specs.declared.values.Value.{Value}
use Rattle.stapl_meaning.specs.Deeds.{Deed}
use Rattle.stapl_meaning.specs.States.{State}
use Rattle.stapl_code.specs.declared.instr.Instr.{Instr}
use Rattle.stapl_code.specs.declared.raw.CodeLists.{CodeLists}
use Rattle.stapl_code.specs.Depth.{depth_of}
use Rattle.stapl_code.specs.Machine.{Falls, acted}
use Rattle.stapl_code.specs.Safe.{entries_of, constants_of}
use Rattle.stapl_code.specs.Rooms.{count_after, HoldWithin, LeavesAtMost}
use Rattle.stapl_code.proofs.RoomLemmas.{fewer_hold, room_for, hold_after}
use Rattle.stapl_code.proofs.StepCounts.{step_leaves}
use Rattle.machine_memory.specs.declared.memory.Workspace.{Workspace}
use Rattle.machine_memory.specs.declared.effects.Made.{Made}
use Rattle.machine_memory.specs.declared.effects.Made.TheVariants as made
use Rattle.machine_memory.specs.Acts.{state_of, operands_of, step_of, stepped, deeds_told, told_by}
use Rattle.machine_memory.specs.RunRooms.{HasRoom, KeepsRoom, HoldsFrom, IsWithin}
use Rattle.machine_memory.proofs.PrintLemmas.{item_at}

acted_within : (deeds : List Deed) (below : List Value) (s : State) (n : ℕ) → LeavesAtMost (acted deeds below s) n → length below ≤ n
acted_within [] below s n h = h
acted_within (d ∷ deeds) below s n h = h

-- what was made is within what its step leaves
module _ (code : CodeLists) (i : Instr) (to : Option ℕ) (chosen : List ℕ) (work : Workspace) (n : ℕ) where
  count : length (operands_of work) ≡ length work.operands.items
  count = length-reverse work.operands.items

  step_within : (m : Made) → LeavesAtMost (stepped code i to chosen m work) n → IsWithin n m work
  step_within (made.Put v) h = omega (arith, h, count)
  step_within (made.PutTwo v w) h = omega (arith, h, count)
  step_within (made.Popped v) h = omega (arith, h, count)
  step_within made.On h = omega (arith, h, count)
  step_within (made.Acts d) h =
      let few = acted_within (deeds_told (told_by code i work.text.items work.memory) work.memory.variables.items d) (operands_of work) (state_of chosen work) n h in
      omega (arith, few, count)
  step_within (made.Scans job) h = omega (arith, h, count)
  step_within made.Jump h = tt
  step_within (made.Resume place) h = tt
  step_within made.Returned h = tt
  step_within (made.Over ending) h = tt

-- what a step leaves, counted
leaves : (code : CodeLists) (here : ℕ) (i : Instr) (chosen : List ℕ) (old : Workspace) → LeavesAtMost (step_of code here i chosen old) (count_after i (length old.operands.items))
leaves code here i chosen old =
    subst (λ n. LeavesAtMost (step_of code here i chosen old) (count_after i n)) (length-reverse old.operands.items)
    (step_leaves (entries_of code.procedures) (constants_of code) here i (operands_of old) (state_of chosen old))

-- an instruction made this, which has room where the count has
pub made_within : (code : CodeLists) (here : ℕ) (i : Instr) (to : Option ℕ) (chosen : List ℕ) (old work : Workspace) (m : Made) →
    step_of code here i chosen old ≡ stepped code i to chosen m work → IsWithin (count_after i (length old.operands.items)) m work
made_within code here i to chosen old work m e =
    let n = count_after i (length old.operands.items) in
    step_within code i to chosen work n m (subst (λ st. LeavesAtMost st n) e (leaves code here i chosen old))

pub more_within : (a b : ℕ) (m : Made) (work : Workspace) → a ≤ b → IsWithin a m work → IsWithin b m work
more_within a b (made.Put v) work le h = omega (arith, le, h)
more_within a b (made.PutTwo v w) work le h = omega (arith, le, h)
more_within a b (made.Popped v) work le h = omega (arith, le, h)
more_within a b made.On work le h = omega (arith, le, h)
more_within a b (made.Acts d) work le h = omega (arith, le, h)
more_within a b (made.Scans job) work le h = omega (arith, le, h)
more_within a b made.Jump work le h = tt
more_within a b (made.Resume place) work le h = tt
more_within a b made.Returned work le h = tt
more_within a b (made.Over ending) work le h = tt

-- an instruction that was tried went on to the one after it
pub tried_leaves : (code : CodeLists) (here : ℕ) (i : Instr) (chosen : List ℕ) (old new : Workspace) →
    step_of code here i chosen old ≡ Falls (operands_of new) (state_of chosen new) → length new.operands.items ≤ count_after i (length old.operands.items)
tried_leaves code here i chosen old new e =
    let n = count_after i (length old.operands.items) in
    let few : length (operands_of new) ≤ n = subst (λ st. LeavesAtMost st n) e (leaves code here i chosen old) in
    omega (arith, few, length-reverse new.operands.items)

pub same_count : (old new : Workspace) → operands_of new ≡ operands_of old → length new.operands.items ≡ length old.operands.items
same_count old new e = sym (length-reverse new.operands.items) ∙ ap length e ∙ length-reverse old.operands.items

-- the room is kept
pub room_kept : (code : CodeLists) (old new : Workspace) → HasRoom code old → KeepsRoom old new → HasRoom code new
room_kept code old new has keeps = record {
  depth = omega (arith, has.depth, keeps.0);
  within = has.within;
  prints = omega (arith, has.prints, keeps.1);
}

-- a turn that begins with no operand has room
pub none_hold : (code : CodeLists) (i : ℕ) (work : Workspace) → HasRoom code work → work.operands.items ≡ [] → HoldsFrom code i work
none_hold code i work has none = subst (λ (ops : List Value). HoldWithin (depth_of code) (length ops) (drop i code.instrs)) (sym none) (has.within i)

-- instruction i of a code, with operands that have room from there on
module _ (code : CodeLists) (i : ℕ) (x : Instr) (inside : i < length code.instrs) (is : x ≡ get_or code.instrs i x) (old : Workspace) (holds : HoldsFrom code i old) where
  after_it : HoldWithin (depth_of code) (count_after x (length old.operands.items)) (drop (suc i) code.instrs)
  after_it = hold_after (depth_of code) (length old.operands.items) i code.instrs x (item_at code.instrs i x inside is) holds

  -- it has room for what it leaves
  pub count_fits : HasRoom code old → count_after x (length old.operands.items) ≤ vec_capacity old.operands
  count_fits has = omega (arith, has.depth, room_for (depth_of code) (count_after x (length old.operands.items)) (drop (suc i) code.instrs) after_it)

  -- and so has what follows
  pub holds_after : (new : Workspace) → length new.operands.items ≤ count_after x (length old.operands.items) → HoldsFrom code (i + 1) new
  holds_after new few =
      let next : suc i ≡ i + 1 = omega arith in
      fewer_hold (depth_of code) (length new.operands.items) (count_after x (length old.operands.items)) (drop (i + 1) code.instrs) few
      (subst (λ (k : ℕ). HoldWithin (depth_of code) (count_after x (length old.operands.items)) (drop k code.instrs)) next after_it)

-- it changed nothing
pub holds_still : (code : CodeLists) (i : ℕ) (old new : Workspace) → length new.operands.items ≡ length old.operands.items → HoldsFrom code i old → HoldsFrom code i new
holds_still code i old new same holds = subst (λ (n : ℕ). HoldWithin (depth_of code) n (drop i code.instrs)) (sym same) holds
