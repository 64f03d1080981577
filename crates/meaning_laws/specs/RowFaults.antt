-- The faults of a statement without its inner statement, by the table of faults. Source: JESD71, statements. Which
-- faults there are, their limits and their order are this profile's rules. The effect of a statement breaks only if all
-- its parts have values, and each case says so by the values of the parts.
use Rattle.std.specs.Prelude.{◌≡◌, ◌≢◌, ℕ, ℤ, pos, ◌≤◌, ◌<ℤ◌, true, List, [], ◌∷◌, length, Option, Some, None}
use Rattle.stapl_lexer.specs.declared.terminal.Padding.{Padding}
use Rattle.stapl_lexer.specs.declared.terminal.Register.{Register}
use Rattle.stapl_syntax.specs.Kinds.{expr_kind}
use Rattle.stapl_syntax.specs.Trees.{ExprTree, scalar, element, ArrayTree, whole, range, CompareTree, BodyTree, assign_array, assign_range, call, for_loop, next, push, pop, scan, pad, wait_cycles, wait_usec, frequency}
use Rattle.tap_states.specs.Tap.{is_stable_state}
use Rattle.stapl_meaning.specs.declared.events.RunFault.{RunFault}
use Rattle.stapl_meaning.specs.declared.events.RunFault.TheVariants.{LengthMismatch, BadLength, BadCount, ZeroStep, NoRecord, RecordsFull}
use Rattle.stapl_meaning.specs.declared.records.Loop.{Loop}
use Rattle.stapl_meaning.specs.declared.records.Record.{Record}
use Rattle.stapl_meaning.specs.declared.records.Record.TheVariants.{Pushed, Called, Looped}
use Rattle.stapl_meaning.specs.declared.values.Value.{Value}
use Rattle.stapl_meaning.specs.Values.{Known, value_of}
use Rattle.stapl_meaning.specs.Operands.{printed_kind, step_or_one}
use Rattle.stapl_meaning.specs.States.{State}
use Rattle.stapl_meaning.specs.Scopes.{Scope}
use Rattle.stapl_meaning.specs.Turns.{tap_or_idle}
use Rattle.meaning_laws.specs.Limits.{IsOutside}
use Rattle.meaning_laws.specs.ExprFaults.{IsInteger}
use Rattle.meaning_laws.specs.PartFaults.{index_part, scan_arrays, padding_arrays, result_parts, written_parts, PartsAre, PartsBreak, HasBits, IsTooShort, AreThere, OneIsShort}

-- the topmost record is no value, or there is none
pub data HasNoValue : List Record → Type 0 where
  nothing_there : HasNoValue []
  call_on_top : {place : ℕ} {records : List Record} → HasNoValue (Called place ∷ records)
  loop_on_top : {l : Loop} {records : List Record} → HasNoValue (Looped l ∷ records)

-- from the top down only loops of other variables, and then a value, a CALL or nothing
pub data HasNoLoop (variable : ℕ) : List Record → Type 0 where
  nothing_left : HasNoLoop variable []
  value_above : {z : ℤ} {records : List Record} → HasNoLoop variable (Pushed z ∷ records)
  call_above : {place : ℕ} {records : List Record} → HasNoLoop variable (Called place ∷ records)
  other_loop : {l : Loop} {records : List Record} → l.variable ≢ variable → HasNoLoop variable records →
      HasNoLoop variable (Looped l ∷ records)

module _ (scope : Scope) (s : State) where
  -- the value of an expression of this statement is this integer
  abbrev pub Is : ExprTree → ℤ → Type 0
  Is e z = IsInteger scope.look s.store.variables e z

  -- an expression that is left out, or has an integer
  pub data IsIntegerIfGiven : Option ExprTree → Type 0 where
    left_out : IsIntegerIfGiven None
    written_down : {e : ExprTree} (z : ℤ) → Is e z → IsIntegerIfGiven (Some e)

  -- the state of a WAIT is one in which a chain may stay, as it is in each program
  abbrev pub StaysIn : Option ℕ → Type 0
  StaysIn state = is_stable_state (tap_or_idle state) ≡ true

  -- the stack holds as many records as it may
  abbrev pub IsFull : Type 0
  IsFull = 16384 ≤ length s.records

  -- LengthMismatch: an array that is no literal has fewer bits than are asked of it. An assignment asks for those of its
  -- target, a scan for its length, of each of its arrays, and a padding for its length. That length is in its limits.
  pub data HasShortArray : BodyTree → Type 0 where
    assigned_short : {name : List ℕ} {a : ArrayTree} (n : ℕ) → HasBits scope.look s.store.variables (whole name) n →
        IsTooShort scope.look s.store.variables a n → HasShortArray (assign_array name a)
    range_short : {name : List ℕ} {first second : ExprTree} {a : ArrayTree} (n : ℕ) →
        HasBits scope.look s.store.variables (range name first second) n → IsTooShort scope.look s.store.variables a n →
        HasShortArray (assign_range name first second a)
    scan_short : {register : Register} {count : ExprTree} {source : ArrayTree} {target : Option ArrayTree} {compare : Option CompareTree}
        (n : ℕ) (values : List Value) → Is count (pos n) → PartsAre scope.look s.store.variables (result_parts compare) values →
        1 ≤ n → n ≤ 4194304 → OneIsShort scope.look s.store.variables n (scan_arrays source target compare) →
        HasShortArray (scan register count source target compare)
    padding_short : {which : Padding} {count : ExprTree} {a : ArrayTree} (n : ℕ) → Is count (pos n) → n ≤ 65536 →
        IsTooShort scope.look s.store.variables a n → HasShortArray (pad which count (Some a))

  -- BadLength: a length is outside its limits, and all arrays are there. So it comes before LengthMismatch.
  pub data HasBadLength : BodyTree → Type 0 where
    bad_scan : {register : Register} {count : ExprTree} {source : ArrayTree} {target : Option ArrayTree} {compare : Option CompareTree}
        (z : ℤ) (values : List Value) → Is count z → AreThere scope.look s.store.variables (scan_arrays source target compare) →
        PartsAre scope.look s.store.variables (result_parts compare) values → IsOutside (pos 1) (pos 4194304) z →
        HasBadLength (scan register count source target compare)
    bad_padding : {which : Padding} {count : ExprTree} {bits : Option ArrayTree} (z : ℤ) → Is count z →
        AreThere scope.look s.store.variables (padding_arrays bits) → IsOutside (pos 0) (pos 65536) z →
        HasBadLength (pad which count bits)

  -- BadCount: a count of clocks is outside its limits, then one of microseconds; or a frequency is below 1
  pub data HasBadCount : BodyTree → Type 0 where
    bad_cycles : {state last : Option ℕ} {cycles : ExprTree} {usec : Option ExprTree} (n : ℤ) → StaysIn state → Is cycles n →
        IsIntegerIfGiven usec → IsOutside (pos 0) (pos 16777216) n → HasBadCount (wait_cycles state cycles usec last)
    bad_usec : {state last : Option ℕ} {cycles usec : ExprTree} (n : ℕ) (m : ℤ) → StaysIn state → Is cycles (pos n) →
        n ≤ 16777216 → Is usec m → m <ℤ pos 0 → HasBadCount (wait_cycles state cycles (Some usec) last)
    bad_usec_alone : {state last : Option ℕ} {usec : ExprTree} (m : ℤ) → StaysIn state → Is usec m → m <ℤ pos 0 →
        HasBadCount (wait_usec state usec last)
    bad_hertz : {hertz : ExprTree} (n : ℤ) → Is hertz n → n <ℤ pos 1 → HasBadCount (frequency (Some hertz))

  -- ZeroStep: the step of a FOR is 0
  pub data HasZeroStep : BodyTree → Type 0 where
    zero_step : {name : List ℕ} {from to : ExprTree} {step : Option ExprTree} (first limit : ℤ) → Is from first → Is to limit →
        Is (step_or_one step) (pos 0) → HasZeroStep (for_loop name from to step)

  -- NoRecord: NEXT meets no loop of its variable, or POP no value
  pub data LacksRecord : BodyTree → Type 0 where
    no_loop : {name : List ℕ} → HasNoLoop (scope.look.variable name) s.records → LacksRecord (next name)
    no_value : {name : List ℕ} → HasNoValue s.records → LacksRecord (pop (scalar name))
    no_value_for_element : {name : List ℕ} {index : ExprTree} (values : List Value) →
        PartsAre scope.look s.store.variables (index_part name index ∷ []) values → HasNoValue s.records →
        LacksRecord (pop (element name index))

  -- RecordsFull: a record is to be put on the stack, which holds as many as it may. The step of a FOR is not 0, so
  -- ZeroStep comes before RecordsFull.
  pub data LacksRoom : BodyTree → Type 0 where
    full_for : {name : List ℕ} {from to : ExprTree} {step : Option ExprTree} (first limit z : ℤ) → Is from first →
        Is to limit → Is (step_or_one step) z → z ≢ pos 0 → IsFull → LacksRoom (for_loop name from to step)
    full_push : {e : ExprTree} (v : Value) →
        value_of scope.look s.store.variables (printed_kind (expr_kind scope.look.kind e)) e ≡ Known v → IsFull →
        LacksRoom (push e)
    full_call : {name : List ℕ} → IsFull → LacksRoom (call name)

  -- a part of a statement breaks: an expression, an index, a range or the number of a character
  abbrev pub HasBrokenPart : RunFault → BodyTree → Type 0
  HasBrokenPart k b = PartsBreak scope.look s.store.variables (written_parts scope.look b) k

  -- The table: the faults of parts are DivideByZero, IndexOutOfRange, ShiftCount and BadChar. RangeReversed has no row.
  pub data RowBreaks : BodyTree → RunFault → Type 0 where
    of_parts : {b : BodyTree} {k : RunFault} → HasBrokenPart k b → RowBreaks b k
    length_mismatch : {b : BodyTree} → HasShortArray b → RowBreaks b LengthMismatch
    bad_length : {b : BodyTree} → HasBadLength b → RowBreaks b BadLength
    bad_count : {b : BodyTree} → HasBadCount b → RowBreaks b BadCount
    step_zero : {b : BodyTree} → HasZeroStep b → RowBreaks b ZeroStep
    no_record : {b : BodyTree} → LacksRecord b → RowBreaks b NoRecord
    records_full : {b : BodyTree} → LacksRoom b → RowBreaks b RecordsFull
