-- The instructions of which each rule speaks, one by one. The rules are this profile's.
use Rattle.std.specs.Prelude.{◌≡◌, ℕ, List, [], ◌∷◌, ◌++◌, ◌⊎◌}
use Rattle.tap_states.specs.declared.Tap.{Tap}
use Rattle.stapl_code.specs.declared.instr.Instr.{Instr}
use Rattle.stapl_code.specs.declared.instr.Instr.TheVariants.{Turn, Push, PushBit, Store, SetBits, SetInts, For, Next, Call, Jump, JumpIfZero, EndProc, Exit, Stop, State as GoThrough, Wait}

abbrev pub IsTurnInstr : Instr → Type 0
IsTurnInstr (Turn piece) = Unit {0}
IsTurnInstr _ = ⊥

abbrev pub IsEndProc : Instr → Type 0
IsEndProc EndProc = Unit {0}
IsEndProc _ = ⊥

-- the prologue may hold it
abbrev pub SetsUp : Instr → Type 0
SetsUp (Push z) = Unit {0}
SetsUp (PushBit b) = Unit {0}
SetsUp (Store n) = Unit {0}
SetsUp (SetBits n literal) = Unit {0}
SetsUp (SetInts n values) = Unit {0}
SetsUp _ = ⊥

-- no operand is left after it
abbrev pub Empties : Instr → Type 0
Empties (Jump to) = Unit {0}
Empties (JumpIfZero to) = Unit {0}
Empties (For n body) = Unit {0}
Empties (Next n) = Unit {0}
Empties (Call p) = Unit {0}
Empties Exit = Unit {0}
Empties EndProc = Unit {0}
Empties _ = ⊥

-- a Turn follows it
abbrev pub Departs : Instr → Type 0
Departs (Jump to) = Unit {0}
Departs (For n body) = Unit {0}
Departs (Next n) = Unit {0}
Departs (Call p) = Unit {0}
Departs Exit = Unit {0}
Departs _ = ⊥

-- it names this number as its target, or as the place where the body of its loop begins
abbrev pub HasTarget : Instr → ℕ → Type 0
HasTarget (Jump to) target = to ≡ target
HasTarget (JumpIfZero to) target = to ≡ target
HasTarget (For n body) target = body ≡ target
HasTarget _ target = ⊥

-- it brings the chain to this state, which has to be stable: the last state of a State, the state of a Stop, and both
-- states of a Wait
abbrev pub WantsStable : Instr → Tap → Type 0
WantsStable (GoThrough states) t = (before : List Tap) × (states ≡ before ++ (t ∷ []))
WantsStable (Stop register tap) t = tap ≡ t
WantsStable (Wait at kind last) t = (at ≡ t) ⊎ (last ≡ t)
WantsStable _ t = ⊥
