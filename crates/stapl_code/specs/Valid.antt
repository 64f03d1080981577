-- Which codes are valid. The rules are this profile's.
--
-- The instructions before the first entry are the prologue. A procedure's instructions go from its entry to the next
-- entry, or to the end of the code. The rules are these, each with the definition that says it; that entries rise is a
-- range of the fields.
--   The prologue holds only Push, PushBit, Store, SetBits and SetInts (sets_up), and leaves no operand (kinds_kept).
--   A procedure begins with a Turn (procedure_break), and ends with an EndProc, which stands nowhere else
--   (stands_well).
--   An instruction finds operands of its kinds, and variables of the kind that it wants (kinds_after).
--   No operand is left before a Turn, and after a For, a Next, a Call, a Jump, a JumpIfZero, an Exit and an EndProc
--   (kinds_after).
--   A target, that of a For too, is a Turn of the same procedure (is_target).
--   After a For, a Next, a Call, a Jump and an Exit stands a Turn (departs).
--   The last state of a State, both of a Wait, and that of a Stop are stable (rests_well).
--   A procedure begins at an instruction (entry_break).
use Rattle.std.specs.Prelude.{◌≡◌, ℕ, ◌+◌, ◌-◌, ◌&&◌, ◌||◌, not, Bool, true, false, List, [], ◌∷◌, length, Option, Some, None, slice_get, slice_range, nat_lt, nat_le, if◌then◌else◌}
use Rattle.std.specs.List.{list_all}
use Rattle.tap_states.specs.declared.Tap.{Tap}
use Rattle.tap_states.specs.Tap.{is_stable_state}
use Rattle.stapl_meaning.specs.declared.values.ValueKind.{ValueKind}
use Rattle.stapl_code.specs.declared.raw.VarDef.{VarDef}
use Rattle.stapl_code.specs.declared.raw.ProcDef.{ProcDef}
use Rattle.stapl_code.specs.declared.raw.CodeLists.{CodeLists}
use Rattle.stapl_code.specs.declared.instr.Instr.{Instr}
use Rattle.stapl_code.specs.declared.instr.Instr.TheVariants.{Turn, Push, PushBit, Store, SetBits, SetInts, For, Next, Call, Jump, EndProc, Exit, Stop, State as GoThrough, Wait}
use Rattle.stapl_code.specs.Machine.{goes_to}
use Rattle.stapl_code.specs.Kinds.{then_kinds, left_by, kinds_after}

abbrev pub is_turn : Option Instr → Bool
is_turn (Some (Turn piece)) = true
is_turn _ = false

abbrev pub is_end : Instr → Bool
is_end EndProc = true
is_end _ = false

-- an instruction that the prologue may hold
abbrev pub sets_up : Instr → Bool
sets_up (Push z) = true
sets_up (PushBit b) = true
sets_up (Store n) = true
sets_up (SetBits n literal) = true
sets_up (SetInts n values) = true
sets_up _ = false

-- an instruction after which a Turn has to stand
abbrev pub departs : Instr → Bool
departs (For n body) = true
departs (Next n) = true
departs (Call p) = true
departs (Jump to) = true
departs Exit = true
departs _ = false

-- the state is stable, if there is one
abbrev pub is_stable_if : Option Tap → Bool
is_stable_if None = true
is_stable_if (Some t) = is_stable_state t

-- the last one of these states is stable
abbrev pub ends_stable : List Tap → Bool
ends_stable states = is_stable_if (slice_get states (length states - 1))

-- the chain is left in stable states alone
abbrev pub rests_well : Instr → Bool
rests_well (GoThrough states) = ends_stable states
rests_well (Stop register tap) = is_stable_state tap
rests_well (Wait at kind last) = is_stable_state at && is_stable_state last
rests_well _ = true

-- no instruction follows
abbrev pub is_last : List Instr → Bool
is_last [] = true
is_last (x ∷ rest) = false

abbrev pub agree : Bool → Bool → Bool
agree true b = b
agree false b = not b

-- the kinds after an instruction, of which the last one of the prologue must leave none
abbrev pub kinds_kept : Bool → Option (List ValueKind) → Option (List ValueKind)
kinds_kept true ks = then_kinds ks (left_by true)
kinds_kept false ks = ks

-- Instruction i breaks a rule where it does not find its operands, or does not stand well. Otherwise the rest decides.
abbrev pub judged : Option (List ValueKind) → Bool → ℕ → (List ValueKind → Option ℕ) → Option ℕ
judged None well i go = Some i
judged (Some ks) true i go = go ks
judged (Some ks) false i go = Some i

-- the first of two breaks, where the second is after the first
abbrev pub first_of : Option ℕ → Option ℕ → Option ℕ
first_of (Some i) other = Some i
first_of None other = other

-- a procedure, with the number of its first instruction
module _ (entry : ℕ) (procedure : List Instr) where
  -- the target is a Turn of the procedure
  abbrev pub is_target : ℕ → Bool
  is_target to = nat_le entry to && is_turn (slice_get procedure (to - entry))

  abbrev pub leads_to : Option ℕ → Bool
  leads_to None = true
  leads_to (Some to) = is_target to

  abbrev pub leads_well : Instr → Bool
  leads_well x = leads_to (goes_to x)

  -- An instruction stands well where it is a Turn if one has to stand there, it is an EndProc exactly if it is the last
  -- of the procedure, its target is a Turn of the procedure, and it leaves the chain in stable states.
  abbrev pub stands_well : Bool → Instr → Bool → Bool
  stands_well must_turn x last = (not must_turn || is_turn (Some x)) && agree (is_end x) last && leads_well x && rests_well x

module _ (variables : List VarDef) where
  -- the first break of the prologue in its instructions from number i on, where the operands have these kinds
  abbrev pub prologue_break : ℕ → List ValueKind → List Instr → Option ℕ
  prologue_break i ks [] = None
  prologue_break i ks (x ∷ rest) =
      judged (kinds_kept (is_last rest) (kinds_after variables x ks)) (sets_up x) i (λ after. prologue_break (i + 1) after rest)

  -- the first break of a procedure in its instructions from number i on
  abbrev pub rest_break : ℕ → List Instr → ℕ → Bool → List ValueKind → List Instr → Option ℕ
  rest_break entry procedure i must_turn ks [] = None
  rest_break entry procedure i must_turn ks (x ∷ rest) =
      judged (kinds_after variables x ks) (stands_well entry procedure must_turn x (is_last rest)) i
      (λ after. rest_break entry procedure (i + 1) (departs x) after rest)

  -- the first break of a procedure, which begins with a Turn
  abbrev pub procedure_break : ℕ → List Instr → Option ℕ
  procedure_break entry procedure = rest_break entry procedure entry true [] procedure

-- where the first of these procedures begins, or the end of the code
abbrev pub next_entry : ℕ → List ProcDef → ℕ
next_entry total [] = total
next_entry total (p ∷ ps) = p.entry

-- the first break of the procedures
abbrev pub procedures_break : List VarDef → List Instr → List ProcDef → Option ℕ
procedures_break variables instrs [] = None
procedures_break variables instrs (p ∷ ps) =
    first_of (procedure_break variables p.entry (slice_range instrs p.entry (next_entry (length instrs) ps))) (procedures_break variables instrs ps)

-- A procedure that begins where there is no instruction breaks at the last instruction, or at 0 where there is none.
abbrev pub entry_break : ℕ → List ProcDef → Option ℕ
entry_break total procedures = if list_all (λ p. nat_lt p.entry total) procedures then None else Some (total - 1)

-- the number of the first instruction that breaks a rule
abbrev pub first_break : CodeLists → Option ℕ
first_break code =
    first_of (prologue_break code.variables 0 [] (slice_range code.instrs 0 (next_entry (length code.instrs) code.procedures)))
    (first_of (procedures_break code.variables code.instrs code.procedures) (entry_break (length code.instrs) code.procedures))

abbrev pub IsValid : CodeLists → Type 0
IsValid code = first_break code ≡ None
