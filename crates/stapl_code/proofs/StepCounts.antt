-- A step leaves no more operands than the table says.
use Rattle.std.proofs.Common.{◌≡◌, ℕ, zero, suc, ◌+◌, ◌≤◌, List, [], ◌∷◌, Option, Some, None, length, arith, refl, ap, subst}
use Rattle.std.specs.Prelude.{slice_get}
use Rattle.stapl_meaning.specs.declared.values.Value.{Value}
use Rattle.stapl_meaning.specs.declared.values.ValueKind.{ValueKind}
use Rattle.stapl_meaning.specs.declared.records.Record.{Record}
use Rattle.stapl_meaning.specs.Deeds.{Deed}
use Rattle.stapl_meaning.specs.States.{State, Did}
use Rattle.stapl_meaning.specs.States as did
use Rattle.stapl_meaning.specs.Values.{Got, Known, Faults, Stuck, then_get}
use Rattle.stapl_code.specs.declared.operators.Operator.{Operator}
use Rattle.stapl_code.specs.declared.instr.Instr.{Instr}
use Rattle.stapl_code.specs.declared.instr.Instr.TheVariants.{Turn, Push, PushBit, Load, LoadAt, CheckIndex, CheckRange, Store, StoreAt, Unary, Binary, ToInt, CopyBits, SetBits, SetInts, For, Next, PushRecord, PopRecord, Call, Jump, JumpIfZero, EndProc, Print, Export, CheckChar, Exit, Scan as Scans, Stop, Pad, State as GoThrough, Wait, Frequency}
use Rattle.stapl_code.specs.Operators.{operator_table, unary_kinds}
use Rattle.stapl_code.specs.Machine.{Constants, Made, Puts, PutsFrom, PutsTwo, Does, puts, does, one, two, unrecorded, kept, slot_of, sides_of, result_of, takes, gives, made, taken_onto, taken, on_taken, acted, lands, on_made, step}
use Rattle.stapl_code.specs.Rooms.{count_after, LeavesAtMost}

-- what is made puts at most n operands on
abbrev PutsAtMost : Got Made → ℕ → Type 0
PutsAtMost (Known (Puts v)) n = 1 ≤ n
PutsAtMost (Known (PutsFrom v s)) n = 1 ≤ n
PutsAtMost (Known (PutsTwo x y)) n = 2 ≤ n
PutsAtMost _ n = Unit {0}

does_none : (g : Got Did) (n : ℕ) → PutsAtMost (does g) n
does_none (Known d) n = tt
does_none (Faults f) n = tt
does_none Stuck n = tt

puts_one : (g : Got Value) → PutsAtMost (puts g) 1
puts_one (Known v) = omega arith
puts_one (Faults f) = tt
puts_one Stuck = tt

one_puts : (vs : List Value) (go : Value → Got Value) → PutsAtMost (one vs go) 1
one_puts [] go = tt
one_puts (v ∷ []) go = puts_one (go v)
one_puts (v ∷ w ∷ vs) go = tt

two_put : (vs : List Value) (go : Value → Value → Got Value) → PutsAtMost (two vs go) 1
two_put [] go = tt
two_put (v ∷ []) go = tt
two_put (v ∷ w ∷ []) go = puts_one (go v w)
two_put (v ∷ w ∷ x ∷ vs) go = tt

record_puts : (top : Got (Value × List Record)) (s : State) → PutsAtMost (unrecorded top s) 1
record_puts (Known both) s = omega arith
record_puts (Faults f) s = tt
record_puts Stuck s = tt

tested_puts : (g : Got Value) (x y : Value) → PutsAtMost (then_get g (λ z. Known (PutsTwo x y))) 2
tested_puts (Known v) x y = omega arith
tested_puts (Faults f) x y = tt
tested_puts Stuck x y = tt

kept_puts : (vs : List Value) (test : Value → Value → Got Value) → PutsAtMost (kept vs test) 2
kept_puts [] test = tt
kept_puts (v ∷ []) test = tt
kept_puts (v ∷ w ∷ []) test = tested_puts (test v w) v w
kept_puts (v ∷ w ∷ x ∷ vs) test = tt

unary_puts : (o : Option ValueKind) (vs : List Value) (go : Value → Got Value) → length vs ≡ length (slot_of o) →
    PutsAtMost (one vs go) (length (slot_of o))
unary_puts None [] go e = tt
unary_puts None (v ∷ vs) go e = absurd (omega (arith, e))
unary_puts (Some kind) vs go e = one_puts vs go

binary_puts : (o : Option Operator) (vs : List Value) (go : Value → Value → Got Value) → length vs ≡ length (sides_of o) →
    PutsAtMost (two vs go) (length (result_of o))
binary_puts None [] go e = tt
binary_puts None (v ∷ vs) go e = absurd (omega (arith, e))
binary_puts (Some operator) vs go e = two_put vs go

abbrev off_count : Option (List Value × List Value) → ℕ
off_count None = 0
off_count (Some both) = length both.0

abbrev left_count : Option (List Value × List Value) → ℕ
left_count None = 0
left_count (Some both) = length both.1

-- operands that are taken off are so many, and no longer among those below
taken_counts : (n : ℕ) (done ops vs below : List Value) → taken_onto n done ops ≡ Some (vs, below) →
    (length vs ≡ n + length done) × (length below + n ≡ length ops)
taken_counts zero done ops vs below e =
    (omega (arith, ap off_count e), omega (arith, ap left_count e))
taken_counts (suc n) done [] vs below e = absurd cc
taken_counts (suc n) done (v ∷ ops) vs below e =
    let t = taken_counts n (v ∷ done) ops vs below e in
    (omega (arith, t.0), omega (arith, t.1))

acted_leaves : (deeds : List Deed) (below : List Value) (s : State) (n : ℕ) → LeavesAtMost (acted deeds below s) (length below + n)
acted_leaves [] below s n = omega arith
acted_leaves (d ∷ deeds) below s n = omega arith

made_leaves : (entries : List ℕ) (to : Option ℕ) (below : List Value) (s : State) (g : Got Made) (n : ℕ) → PutsAtMost g n →
    LeavesAtMost (on_made entries to below s g) (length below + n)
made_leaves entries to below s (Known (Puts v)) n most = omega (arith, most)
made_leaves entries to below s (Known (PutsFrom v t)) n most = omega (arith, most)
made_leaves entries to below s (Known (PutsTwo x y)) n most = omega (arith, most)
made_leaves entries to below s (Known (Does (did.Falls deeds t))) n most = acted_leaves deeds below t n
made_leaves entries to below s (Known (Does (did.Captures scan lands))) n most = omega arith
made_leaves entries to below s (Known (Does (did.Jumps t))) n most = tt
made_leaves entries to below s (Known (Does (did.Resumes place t))) n most = tt
made_leaves entries to below s (Known (Does (did.Returns t))) n most = tt
made_leaves entries to below s (Known (Does (did.Ends ending t))) n most = tt
made_leaves entries to below s (Faults f) n most = tt
made_leaves entries to below s Stuck n most = tt

module _ (entries : List ℕ) (constants : Constants) (here : ℕ) where
  -- an instruction puts on no more than the table says that it gives
  made_puts : (i : Instr) (vs : List Value) (s : State) → length vs ≡ length (takes i) →
      PutsAtMost (made entries constants here i vs s) (length (gives i))
  made_puts (Push z) vs s e = omega arith
  made_puts (PushBit b) vs s e = puts_one _
  made_puts (Load n) vs s e = puts_one _
  made_puts (LoadAt n) vs s e = one_puts vs _
  made_puts (CheckIndex n) vs s e = one_puts vs _
  made_puts (CheckRange n) vs s e = kept_puts vs _
  made_puts (Unary op) vs s e = unary_puts (slice_get unary_kinds op) vs _ e
  made_puts (Binary op) vs s e = binary_puts (slice_get operator_table op) vs _ e
  made_puts (ToInt source) vs s e = puts_one _
  made_puts (PopRecord kind) vs s e = record_puts _ s
  made_puts CheckChar vs s e = one_puts vs _
  made_puts (Turn piece) vs s e = does_none _ 0
  made_puts (Store n) vs s e = does_none _ 0
  made_puts (StoreAt n) vs s e = does_none _ 0
  made_puts (CopyBits dest source) vs s e = does_none _ 0
  made_puts (SetBits n literal) vs s e = does_none _ 0
  made_puts (SetInts n list) vs s e = does_none _ 0
  made_puts (For n body) vs s e = does_none _ 0
  made_puts (Next n) vs s e = does_none _ 0
  made_puts (PushRecord kind) vs s e = does_none _ 0
  made_puts (Call p) vs s e = does_none _ 0
  made_puts (Jump to) vs s e = does_none _ 0
  made_puts (JumpIfZero to) vs s e = does_none _ 0
  made_puts EndProc vs s e = does_none _ 0
  made_puts (Print list) vs s e = does_none _ 0
  made_puts (Export key part) vs s e = does_none _ 0
  made_puts Exit vs s e = does_none _ 0
  made_puts (Scans scan) vs s e = does_none _ 0
  made_puts (Stop register tap) vs s e = does_none _ 0
  made_puts (Pad which source) vs s e = does_none _ 0
  made_puts (GoThrough states) vs s e = does_none _ 0
  made_puts (Wait at kind last) vs s e = does_none _ 0
  made_puts (Frequency stated) vs s e = does_none _ 0

  pub step_leaves : (i : Instr) (ops : List Value) (s : State) →
      LeavesAtMost (step entries constants here i ops s) (count_after i (length ops))
  step_leaves i ops s = by (taken (length (takes i)) ops) refl
    where
      by : (o : Option (List Value × List Value)) → taken (length (takes i)) ops ≡ o →
          LeavesAtMost (on_taken o (λ vs below. on_made entries (lands entries here i) below s (made entries constants here i vs s))) (count_after i (length ops))
      by None e = tt
      by (Some both) e =
          let t = taken_counts (length (takes i)) [] ops both.0 both.1 e in
          let count : length both.1 + length (gives i) ≡ count_after i (length ops) = omega (arith, t.1) in
          let puts = made_puts i both.0 s (omega (arith, t.0)) in
          subst (LeavesAtMost (on_made entries (lands entries here i) both.1 s (made entries constants here i both.0 s))) count
          (made_leaves entries (lands entries here i) both.1 s (made entries constants here i both.0 s) (length (gives i)) puts)
