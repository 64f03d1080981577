-- How many operands are held at once: by the kinds of a code, and in a run of the machine.
use Rattle.std.specs.Prelude.{ℕ, zero, suc, ◌-◌, max, List, [], ◌∷◌, length, drop, Option, Some, None, slice_range}
use Rattle.stapl_meaning.specs.declared.values.Value.{Value}
use Rattle.stapl_meaning.specs.declared.values.Held.{Held}
use Rattle.stapl_meaning.specs.Deeds.{Chain}
use Rattle.stapl_meaning.specs.States.{State}
use Rattle.stapl_meaning.specs.Plays.{start}
use Rattle.stapl_meaning.specs.declared.values.ValueKind.{ValueKind}
use Rattle.stapl_code.specs.declared.raw.VarDef.{VarDef}
use Rattle.stapl_code.specs.declared.raw.ProcDef.{ProcDef}
use Rattle.stapl_code.specs.declared.raw.CodeLists.{CodeLists}
use Rattle.stapl_code.specs.declared.instr.Instr.{Instr}
use Rattle.stapl_code.specs.declared.instr.Instr.TheVariants.{Turn}
use Rattle.stapl_code.specs.Machine.{Constants, step, code_turn, code_beginning}
use Rattle.stapl_code.specs.Ticks.{counted_after, counted_then}
use Rattle.stapl_code.specs.Kinds.{kinds_after}
use Rattle.stapl_code.specs.Valid.{next_entry}

-- goes on with the kinds, where the operands are found
abbrev pub on_kinds : Option (List ValueKind) → (List ValueKind → ℕ) → ℕ
on_kinds None go = 0
on_kinds (Some ks) go = go ks

-- the most operands before and after these instructions, where the first one finds operands of these kinds
abbrev pub deepest : List VarDef → List ValueKind → List Instr → ℕ
deepest variables ks [] = length ks
deepest variables ks (x ∷ rest) = max (length ks) (on_kinds (kinds_after variables x ks) (λ after. deepest variables after rest))

-- the same of the procedures
abbrev pub procedures_depth : List VarDef → List Instr → List ProcDef → ℕ
procedures_depth variables instrs [] = 0
procedures_depth variables instrs (p ∷ ps) =
    max (deepest variables [] (slice_range instrs p.entry (next_entry (length instrs) ps))) (procedures_depth variables instrs ps)

-- the most operands that the prologue or a procedure holds at once
abbrev pub depth_of : CodeLists → ℕ
depth_of code =
    max (deepest code.variables [] (slice_range code.instrs 0 (next_entry (length code.instrs) code.procedures)))
    (procedures_depth code.variables code.instrs code.procedures)

module _ (entries : List ℕ) (constants : Constants) where
  -- the most operands before an instruction of the rest of a turn
  abbrev pub held : ℕ → List Instr → List Value → State → Chain → ℕ
  held total [] ops s k = length ops
  held total (i ∷ rest) ops s k =
      max (length ops) (counted_after k (step entries constants (total - suc (length rest)) i ops s) (held total rest))

  abbrev pub begin_held : ℕ → List Instr → State → Chain → ℕ
  begin_held total (Turn piece ∷ rest) s k = held total rest [] s k
  begin_held total _ s k = 0

  -- the most operands in a turn
  abbrev pub turn_held : List Instr → ℕ → State → Chain → ℕ
  turn_held code place s k = begin_held (length code) (drop place code) s k

  -- the most operands in at most n turns
  abbrev pub run_held : List Instr → ℕ → ℕ → State → Chain → ℕ
  run_held code zero place s k = 0
  run_held code (suc n) place s k =
      max (turn_held code place s k) (counted_then (code_turn entries constants code place s k) (run_held code n))

  -- the most operands in the prologue and in at most n turns of the chosen procedures
  abbrev pub play_held : List Instr → List ℕ → List Held → ℕ → Chain → ℕ
  play_held code chosen variables n k =
      max (held (length code) code [] (start chosen variables) k)
      (counted_then (code_beginning entries constants code chosen variables k) (run_held code n))
