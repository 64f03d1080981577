-- Turns: the execution of one piece. Source: JESD71, statements. Statements are rows of a table with three columns: the
-- operands, what their values do, and where the statement leads if it does not go on to what follows.
use Rattle.std.specs.Prelude.{◌≡◌, ℕ, ◌+◌, map, Bool, List, [], ◌∷◌, ◌++◌, Option, Some, None, slice_get, slice_index_or}
use Rattle.stapl_syntax.specs.Kinds.{expr_kind}
use Rattle.stapl_syntax.specs.Trees.{ExprTree, number, BodyTree, end_procedure, boolean, boolean_array, integer, integer_array, assign, assign_element, assign_array, assign_range, scalar, element, call, goto, if_then, for_loop, next, push, pop, print, exported_value, exported_array, export, exit, state_list, wait_cycles, wait_usec, frequency, scan, stop, pad, StmtTree}
use Rattle.tap_states.specs.declared.Tap.{Tap}
use Rattle.tap_states.specs.declared.Tap.TheVariants as taps
use Rattle.stapl_meaning.specs.declared.waits.WaitKind.{WaitKind}
use Rattle.stapl_meaning.specs.declared.waits.WaitKind.TheVariants as waits
use Rattle.stapl_meaning.specs.Deeds.{Deed}
use Rattle.stapl_meaning.specs.declared.events.RunFault.{RunFault}
use Rattle.stapl_meaning.specs.declared.events.Ending.{Ending}
use Rattle.stapl_meaning.specs.declared.values.Value.{Value}
use Rattle.stapl_meaning.specs.Values.{Got, Known, Faults, Stuck, These, source_of, of_programs}
use Rattle.stapl_meaning.specs.Scans.{scanned, surrounded, stopped}
use Rattle.stapl_meaning.specs.Operands.{Operand, plain, an_integer, a_boolean, an_index, a_range, bit_number, given_kind, printed_kind, step_or_one, array_operands, given_operands, target_operands, compare_operands, part_operands, values_of}
use Rattle.stapl_meaning.specs.ScanTrees.{scan_parts, given_source}
use Rattle.dev_card.specs.Scans.{BoardScan}
use Rattle.stapl_meaning.specs.States.{State, Did, Falls, Captures, Jumps, Resumes, Returns, Ends, Turned, Leads, Over, Broken, Scanning, NoTurn, with_got, preceded, turn_of_piece, next_chosen, led}
use Rattle.stapl_meaning.specs.Effects.{assigned, element_assigned, IntoWhole, IntoRange, copied, integers_set, jumped, parted, pushed, popped, called, looped, repeated, returned, exited, joined, printed, exported, bits_exported, moved_through, waited, tuned}
use Rattle.stapl_meaning.specs.Scopes.{Scope, Played, scope_at}

-- the states in the order in which the profile lists its reserved words of states
abbrev pub taps_in_order : List Tap
taps_in_order =
    taps.Reset ∷ taps.Idle
    ∷ taps.DrSelect ∷ taps.DrCapture ∷ taps.DrShift ∷ taps.DrExit1 ∷ taps.DrPause ∷ taps.DrExit2 ∷ taps.DrUpdate
    ∷ taps.IrSelect ∷ taps.IrCapture ∷ taps.IrShift ∷ taps.IrExit1 ∷ taps.IrPause ∷ taps.IrExit2 ∷ taps.IrUpdate ∷ []

-- the state of a number; no program has another number
abbrev pub tap_of : ℕ → Tap
tap_of n = slice_index_or taps_in_order n taps.Reset

-- the state of a WAIT, which is IDLE if none is written
abbrev pub tap_or_idle : Option ℕ → Tap
tap_or_idle None = taps.Idle
tap_or_idle (Some n) = tap_of n

-- what a WAIT for clocks counts, with a time or without one
abbrev pub kind_of_wait : Option ExprTree → WaitKind
kind_of_wait None = waits.Cycles
kind_of_wait (Some e) = waits.Both

-- an expression that may be left out, as an operand
abbrev pub integer_given : Option ExprTree → List Operand
integer_given None = []
integer_given (Some e) = an_integer e ∷ []

-- The table. A tree that has no row here stands in no procedure: it has no operands, and finds nothing to do.

-- its operands, in the written order
abbrev pub operands : Scope → BodyTree → List Operand
operands scope (boolean name (Some b)) = a_boolean (number (bit_number b)) ∷ []
operands scope (integer name (Some z)) = an_integer (number z) ∷ []
operands scope (assign name e) = plain (given_kind (scope.look.kind name)) e ∷ []
operands scope (assign_element name index e) =
    an_index (scope.look.variable name) index ∷ plain (given_kind (scope.look.kind name)) e ∷ []
operands scope (assign_array name a) = array_operands scope.look a
operands scope (assign_range name high low a) = a_range (scope.look.variable name) high low ++ array_operands scope.look a
operands scope (if_then e body) = a_boolean e ∷ []
operands scope (for_loop name from to step) = an_integer from ∷ an_integer to ∷ an_integer (step_or_one step) ∷ []
operands scope (push e) = plain (printed_kind (expr_kind scope.look.kind e)) e ∷ []
operands scope (pop (element name index)) = an_index (scope.look.variable name) index ∷ []
operands scope (print parts) = part_operands scope.look parts
operands scope (export key (exported_value e)) = plain (printed_kind (expr_kind scope.look.kind e)) e ∷ []
operands scope (export key (exported_array a)) = array_operands scope.look a
operands scope (exit e) = an_integer e ∷ []
operands scope (scan register count source to compare) =
    an_integer count ∷ (array_operands scope.look source ++ (target_operands scope.look to ++ compare_operands scope.look compare))
operands scope (pad which count bits) = an_integer count ∷ given_operands scope.look bits
operands scope (wait_cycles state cycles usec last) = an_integer cycles ∷ integer_given usec
operands scope (wait_usec state usec last) = an_integer usec ∷ []
operands scope (frequency hertz) = integer_given hertz
operands scope _ = []

-- what their values do
abbrev pub effect : Scope → BodyTree → List Value → State → Got Did
effect scope end_procedure values s = returned values s
effect scope (boolean name (Some b)) values s = assigned (scope.look.variable name) values s
effect scope (boolean_array name size (Some bits)) values s = copied (IntoWhole (scope.look.variable name)) (These bits) values s
effect scope (integer name (Some z)) values s = assigned (scope.look.variable name) values s
effect scope (integer_array name size (Some zs)) values s = integers_set (scope.look.variable name) zs values s
effect scope (assign name e) values s = assigned (scope.look.variable name) values s
effect scope (assign_element name index e) values s = element_assigned (scope.look.variable name) values s
effect scope (assign_array name a) values s = copied (IntoWhole (scope.look.variable name)) (source_of scope.look a) values s
effect scope (assign_range name high low a) values s =
    copied (IntoRange of_programs (scope.look.variable name)) (source_of scope.look a) values s
effect scope (call name) values s = called scope.follow values s
effect scope (goto name) values s = jumped values s
effect scope (if_then e body) values s = parted values s
effect scope (for_loop name from to step) values s = looped (scope.look.variable name) scope.follow values s
effect scope (next name) values s = repeated (scope.look.variable name) values s
effect scope (push e) values s = pushed values s
effect scope (pop (scalar name)) values s =
    popped (given_kind (scope.look.kind name)) (assigned (scope.look.variable name)) values s
effect scope (pop (element name index)) values s =
    popped (given_kind (scope.look.kind name)) (element_assigned (scope.look.variable name)) values s
effect scope (print parts) values s = printed (joined parts values) s
effect scope (export key (exported_value e)) values s = exported key values s
effect scope (export key (exported_array a)) values s = bits_exported key (source_of scope.look a) values s
effect scope (exit e) values s = exited values s
effect scope (scan register count source to compare) values s = scanned (scan_parts scope.look register source to compare) values s
effect scope (stop register state) values s = stopped register (tap_of state) values s
effect scope (pad which count bits) values s = surrounded which (given_source scope.look bits) values s
effect scope (state_list states) values s = moved_through (map tap_of states) values s
effect scope (wait_cycles state cycles usec last) values s =
    waited (kind_of_wait usec) (tap_or_idle state) (tap_or_idle last) values s
effect scope (wait_usec state usec last) values s = waited waits.Usec (tap_or_idle state) (tap_or_idle last) values s
effect scope (frequency hertz) values s = tuned values s
effect scope _ values s = Stuck

-- where it leads if it does not go on to what follows
abbrev pub target : Scope → BodyTree → Option ℕ
target scope (call name) = Some (scope.entry (scope.procedure name))
target scope (goto name) = Some (scope.label name)
target scope (if_then e body) = Some scope.follow
target scope _ = None

-- The rows of a statement, which are carried out one after the other. An IF has its own, which decides whether those of
-- its inner statement follow. A declaration without an initial value has none; one with a value sets the variable each
-- time.
abbrev pub rows : BodyTree → List BodyTree
rows (boolean name None) = []
rows (boolean_array name size None) = []
rows (integer name None) = []
rows (integer_array name size None) = []
rows (if_then e body) = if_then e body ∷ rows body
rows body = body ∷ []

-- the values of the operands of a row are these, and have this effect
pub record HasEffect (scope : Scope) (b : BodyTree) (s : State) (did : Got Did) : Type 0 where
  pub values : List Value
  pub are : values_of scope.look s.store.variables (operands scope b) ≡ Known values
  pub is : effect scope b values s ≡ did

-- The rule, as a relation: what rows do in a state, by cases.
pub data Does (scope : Scope) : List BodyTree → State → Turned → Type 0 where
  -- no row is left
  follows : (s : State) → Does scope [] s (Leads [] scope.follow s)
  -- an operand faults, or what the values do
  operand_faults : (b : BodyTree) (rest : List BodyTree) (s : State) (k : RunFault) →
      values_of scope.look s.store.variables (operands scope b) ≡ Faults k → Does scope (b ∷ rest) s (Broken [] k s)
  effect_faults : (b : BodyTree) (rest : List BodyTree) (s : State) (k : RunFault) → HasEffect scope b s (Faults k) →
      Does scope (b ∷ rest) s (Broken [] k s)
  -- the row is done, and the others follow
  falls : (b : BodyTree) (rest : List BodyTree) (s t : State) (deeds : List Deed) (turned : Turned) →
      HasEffect scope b s (Known (Falls deeds t)) → Does scope rest t turned → Does scope (b ∷ rest) s (preceded deeds turned)
  -- the row scans, and the captured bits decide how the others go on
  scans : (b : BodyTree) (rest : List BodyTree) (s : State) (scan : BoardScan) (lands : List Bool → State) (turned : List Bool → Turned) →
      HasEffect scope b s (Known (Captures scan lands)) → ((bits : List Bool) → Does scope rest (lands bits) (turned bits)) →
      Does scope (b ∷ rest) s (Scanning [] scan turned)
  -- the row is done, and the turn is over
  jumps : (b : BodyTree) (rest : List BodyTree) (s t : State) (place : ℕ) → HasEffect scope b s (Known (Jumps t)) →
      target scope b ≡ Some place → Does scope (b ∷ rest) s (Leads [] place t)
  resumes : (b : BodyTree) (rest : List BodyTree) (s t : State) (place : ℕ) → HasEffect scope b s (Known (Resumes place t)) →
      Does scope (b ∷ rest) s (Leads [] place t)
  returns : (b : BodyTree) (rest : List BodyTree) (s t : State) → HasEffect scope b s (Known (Returns t)) →
      Does scope (b ∷ rest) s (next_chosen scope.entry t t.chosen)
  ends : (b : BodyTree) (rest : List BodyTree) (s t : State) (ending : Ending) → HasEffect scope b s (Known (Ends ending t)) →
      Does scope (b ∷ rest) s (Over [] ending t)

-- a turn of a program at a place
pub record IsTurn (program : Played) (i : ℕ) (s : State) (turned : Turned) : Type 0 where
  pub statement : StmtTree
  pub stands : slice_get program.pieces i ≡ Some statement
  pub done : Turned
  pub does : Does (scope_at program i) (rows statement.body) s done
  pub is : turned ≡ turn_of_piece (i + 1) done

-- The same as a function.

-- a row, and then what follows
abbrev pub carried : Scope → BodyTree → State → (State → Turned) → Turned
carried scope b s go =
    with_got (values_of scope.look s.store.variables (operands scope b)) s
    (λ values. with_got (effect scope b values s) s (λ did. led scope.entry (target scope b) did go))

abbrev pub rows_done : Scope → List BodyTree → State → Turned
rows_done scope [] s = Leads [] scope.follow s
rows_done scope (b ∷ rest) s = carried scope b s (rows_done scope rest)

-- what a statement does in a state
abbrev pub done : Scope → State → BodyTree → Turned
done scope s body = rows_done scope (rows body) s

abbrev pub turn_of : Scope → ℕ → State → Option StmtTree → Turned
turn_of scope piece s None = NoTurn []
turn_of scope piece s (Some st) = turn_of_piece piece (done scope s st.body)

-- the turn at a place
abbrev pub turn : Played → ℕ → State → Turned
turn program i s = turn_of (scope_at program i) (i + 1) s (slice_get program.pieces i)

-- the turn finds something to do
abbrev pub IsFound : Turned → Type 0
IsFound (NoTurn deeds) = ⊥
IsFound (Scanning deeds job rest) = (bits : List Bool) → IsFound (rest bits)
IsFound _ = Unit {0}
