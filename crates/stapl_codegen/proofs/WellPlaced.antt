-- The code of the statements of a procedure breaks no rule.
use Rattle.std.proofs.Common.{◌≡◌, ℕ, Bool, true, false, List, [], ◌∷◌, ◌++◌, Option, Some, None, refl, ap, ◌∙◌}
use Rattle.std.specs.Prelude.{ℤ, pos, int_le, is_some, ◌&&◌, IfSome, if◌then◌else◌, slice_get}
use Rattle.std.specs.List.{list_all, AllByRecursion}
use Rattle.std.proofs.lemmas.Bool.{and_parts}
use Rattle.stapl_lexer.specs.declared.terminal.Padding.{Padding}
use Rattle.stapl_lexer.specs.declared.terminal.Register.{Register}
use Rattle.stapl_syntax.specs.declared.names.Declaration.{Declaration}
use Rattle.stapl_syntax.specs.declared.names.Kind.{Kind}
use Rattle.stapl_syntax.specs.declared.names.Kind.TheVariants.{Int, Either}
use Rattle.stapl_syntax.specs.declared.names.VarKind.{VarKind}
use Rattle.stapl_syntax.specs.declared.names.VarKind.TheVariants as variables
use Rattle.stapl_syntax.specs.Kinds.{expr_kind, is_array, is_int, is_bit, is_bit_array, is_integer, number_kind, scalar_kind, element_kind, indexed_kind, VarKinds, wants_int, suits, if_given, operands_suit}
use Rattle.stapl_syntax.specs.Mentions.{labels_named}
use Rattle.stapl_syntax.specs.Rules.{stops_unstable}
use Rattle.stapl_syntax.specs.Names.{declaration}
use Rattle.stapl_syntax.specs.Statements.{ends_procedure}
use Rattle.stapl_syntax.specs.Trees.{ExprTree, number, ArrayTree, CompareTree, BodyTree, boolean, boolean_array, integer, integer_array, assign, assign_element, assign_array, assign_range, call, goto, if_then, for_loop, next, push, scalar, element, pop, print, exported_value, exported_array, export, exit, scan, stop, pad, state_list, wait_cycles, wait_usec, frequency}
use Rattle.stapl_shapes.specs.Shapes.{is_simple_shape, is_inner_shape}
use Rattle.stapl_meaning.specs.declared.values.ValueKind.{ValueKind}
use Rattle.stapl_meaning.specs.declared.values.ValueKind.TheVariants as kinds
use Rattle.stapl_meaning.specs.Values.{Lookup}
use Rattle.stapl_meaning.specs.Operands.{array_operands, given_operands, target_operands, compare_operands, given_kind, printed_kind, step_or_one, bit_number}
use Rattle.stapl_meaning.specs.Scopes.{Scope}
use Rattle.tap_states.specs.declared.Tap.{Tap}
use Rattle.stapl_meaning.specs.Turns.{tap_or_idle, kind_of_wait, integer_given, rows}
use Rattle.stapl_code.specs.declared.instr.Instr.{Instr}
use Rattle.stapl_code.specs.declared.instr.Instr.TheVariants.{Turn, Store, StoreAt, SetBits, SetInts, For, Next, PushRecord, Jump, JumpIfZero, Export, Wait, Frequency}
use Rattle.stapl_code.specs.declared.raw.VarDef.{VarDef}
use Rattle.stapl_code.specs.Machine.{source_wants, wants}
use Rattle.stapl_code.specs.Kinds.{off, then_kinds, taken_off, variable_kind, element_kind as element_kind_of, is_met, kinds_moved, kinds_after}
use Rattle.stapl_code.specs.Valid.{is_last, is_target, stands_well}
use Rattle.stapl_codegen.specs.Emit.{export_part, source_code, Firsts, last, body_code}
use Rattle.stapl_codegen.proofs.Views.{IsInner, an_end, a_bit, some_bits, an_integer, no_integers, some_integers, a_simple, inner_view}
use Rattle.stapl_codegen.proofs.ArrayKinds as arrays
use Rattle.stapl_codegen.proofs.ArrayKinds.{source_off, source_met, scan_suits, given_off, given_met, scan_off, scan_met, scan_typed}
use Rattle.stapl_codegen.proofs.Stable.{one_stable, last_stable, both_stable}
use Rattle.stapl_codegen.proofs.Sides.{fits, held_kind, item_kind}
use Rattle.stapl_codegen.proofs.WellKinded.{kinds_onto, Agrees, scalar_agrees, element_agrees, bits_agree, integer_agrees, integers_agree, printed_fits, AllTyped, one_typed, parts_typed, range_typed, array_typed, parts_off, Fine, Follows, IsGood, row_fine, pop_fine, rows_last}

-- what is given to a scalar fits the kind that the scalar holds
pub given_fits : (v : Option VarKind) (k : Option Kind) → suits (scalar_kind v) k ≡ true → (fits (given_kind v) k ≡ true) × (held_kind v ≡ Some (given_kind v))
given_fits (Some variables.Integer) k h = (h, refl)
given_fits (Some variables.Boolean) k h = (h, refl)
given_fits (Some variables.IntegerArray) k h = absurd cc
given_fits (Some variables.BooleanArray) k h = absurd cc
given_fits None k h = absurd cc

-- and what is given to an element the kind of the elements
pub item_given : (v : Option VarKind) (k : Option Kind) → suits (element_kind v) k ≡ true → (fits (given_kind v) k ≡ true) × (item_kind v ≡ Some (given_kind v))
item_given (Some variables.IntegerArray) k h = (h, refl)
item_given (Some variables.BooleanArray) k h = (h, refl)
item_given (Some variables.Integer) k h = absurd cc
item_given (Some variables.Boolean) k h = absurd cc
item_given None k h = absurd cc

-- a number that is a bit fits a Boolean
pub bit_fits : (b : Bool) → fits kinds.Bit (expr_kind (λ name. None) (number (bit_number b))) ≡ true
bit_fits false = refl
bit_fits true = refl

pub number_fits : (z : ℤ) → fits kinds.Int (Some (number_kind z)) ≡ true
number_fits z = by (int_le (pos 0) z && int_le z (pos 1))
  where
    by : (b : Bool) → is_int (Some (if b then Either else Int)) ≡ true
    by true = refl
    by false = refl

-- what a POP gives a scalar or an element is of the kind that this holds
pub scalar_popped : (v : Option VarKind) → is_some (scalar_kind v) ≡ true → held_kind v ≡ Some (given_kind v)
scalar_popped (Some variables.Integer) h = refl
scalar_popped (Some variables.Boolean) h = refl
scalar_popped (Some variables.IntegerArray) h = absurd cc
scalar_popped (Some variables.BooleanArray) h = absurd cc
scalar_popped None h = absurd cc

pub item_popped : (v : Option VarKind) (index : Option Kind) → is_some (indexed_kind v index) ≡ true → (is_int index ≡ true) × (item_kind v ≡ Some (given_kind v))
item_popped v index h = by (is_int index) v h
  where
    by : (b : Bool) (v : Option VarKind) → is_some (if b then element_kind v else None) ≡ true → (b ≡ true) × (item_kind v ≡ Some (given_kind v))
    by true (Some variables.IntegerArray) h = (refl, refl)
    by true (Some variables.BooleanArray) h = (refl, refl)
    by true (Some variables.Integer) h = absurd cc
    by true (Some variables.Boolean) h = absurd cc
    by true None h = absurd cc
    by false v h = absurd cc

-- the step of a FOR is an integer, also if none is written
pub step_fits : (kind : VarKinds) (step : Option ExprTree) → if_given (wants_int kind) step ≡ true → fits kinds.Int (expr_kind kind (step_or_one step)) ≡ true
step_fits kind None h = refl
step_fits kind (Some e) h = h

-- an expression that may be left out is an integer if it is there
pub given_typed : (variables : List VarDef) (look : Lookup) (ks : List ValueKind) (o : Option ExprTree) → if_given (wants_int look.kind) o ≡ true → AllTyped variables look ks (integer_given o)
given_typed variables look ks None h = tt
given_typed variables look ks (Some e) h = one_typed variables look ks kinds.Int e h

off_same : (kind : ValueKind) (ks : List ValueKind) → off kind (kind ∷ ks) ≡ Some ks
off_same kinds.Int ks = refl
off_same kinds.Bit ks = refl

-- what instructions find: a value that goes into a scalar of its kind, and variables that they want
module _ (variables : List VarDef) where
  pub store_finds : (n : ℕ) (kind : ValueKind) → variable_kind (slice_get variables n) ≡ Some kind → kinds_after variables (Store n) (kind ∷ []) ≡ Some []
  store_finds n kind found = ap (λ k. then_kinds (taken_off k (kind ∷ [])) Some) found ∙ ap (λ o. then_kinds o Some) (off_same kind [])

  push_finds : (kind : ValueKind) → kinds_after variables (PushRecord kind) (kind ∷ []) ≡ Some []
  push_finds kind = ap (λ o. then_kinds o Some) (off_same kind [])

  export_finds : (key : ℕ) (kind : ValueKind) → kinds_after variables (Export key (export_part kind)) (kind ∷ []) ≡ Some []
  export_finds key kinds.Int = refl
  export_finds key kinds.Bit = refl

  -- the counts of a WAIT, and a frequency
  wait_finds : (at end : Tap) (usec : Option ExprTree) → kinds_after variables (Wait at (kind_of_wait usec) end) (kinds_onto (integer_given usec) (kinds.Int ∷ [])) ≡ Some []
  wait_finds at end None = refl
  wait_finds at end (Some e) = refl

  frequency_finds : (hertz : Option ExprTree) → kinds_after variables (Frequency (is_some hertz)) (kinds_onto (integer_given hertz) []) ≡ Some []
  frequency_finds None = refl
  frequency_finds (Some e) = refl

  pub wanted : (x : Instr) (ks after : List ValueKind) → list_all (is_met variables) (wants x) ≡ true → kinds_moved variables x ks ≡ Some after → kinds_after variables x ks ≡ Some after
  wanted x ks after met moved = ap (λ b. if b then kinds_moved variables x ks else None) met ∙ moved

module _ (variables : List VarDef) (entry : ℕ) (code : List Instr) where
  jump_stands : (to : ℕ) → is_target entry code to ≡ true → stands_well entry code false (Jump to) false ≡ true
  jump_stands to leads = rw leads refl

  loop_stands : (n to : ℕ) → is_target entry code to ≡ true → stands_well entry code false (For n to) false ≡ true
  loop_stands n to leads = rw leads refl

  branch_stands : (to : ℕ) → is_target entry code to ≡ true → stands_well entry code false (JumpIfZero to) false ≡ true
  branch_stands to leads = rw leads refl

  pub turn_stands : (must : Bool) (piece : ℕ) (last : Bool) → last ≡ false → stands_well entry code must (Turn piece) last ≡ true
  turn_stands true piece last some = rw some refl
  turn_stands false piece last some = rw some refl

  module _ (Leads : List ℕ → Type 0) (scope : Scope) (place : ℕ → ℕ) (agrees : Agrees variables scope.look)
      (target : (name : List ℕ) → Leads name → is_target entry code (place (scope.label name)) ≡ true) (onward : is_target entry code (place scope.follow) ≡ true) where
    pub body_last : (first : Firsts) (b : BodyTree) (rest : List Instr) → is_last rest ≡ false → is_last (body_code scope place first b rest) ≡ false
    body_last first b rest some = rows_last scope place first (rows b) rest some

    abbrev Good : Firsts → BodyTree → Type 0
    Good first b = IsGood variables entry code scope place first b

    -- a value goes into an element of its kind
    store_at_finds : (n : ℕ) (kind : ValueKind) → element_kind_of (slice_get variables n) ≡ Some kind → kinds_after variables (StoreAt n) (kind ∷ kinds.Int ∷ []) ≡ Some []
    store_at_finds n kind found =
        ap (λ k. then_kinds (then_kinds (taken_off k (kind ∷ kinds.Int ∷ [])) (taken_off (Some kinds.Int))) Some) found
        ∙ ap (λ o. then_kinds (then_kinds o (taken_off (Some kinds.Int))) Some) (off_same kind (kinds.Int ∷ []))

    abbrev IsDeclared : BodyTree → Type 0
    IsDeclared b = IfSome (declaration b) (λ (d : Declaration). scope.look.kind d.name ≡ Some d.kind)

    array_good : (first : Firsts) (name : List ℕ) (a : ArrayTree) → operands_suit scope.look.kind (assign_array name a) ≡ true → Good first (assign_array name a)
    array_good first name a suit =
        let t = and_parts (is_bit_array (scope.look.kind name)) (is_array scope.look.kind a) suit in
        let copy : Instr = last scope place first (assign_array name a) in
        let met : list_all (is_met variables) (wants copy) ≡ true =
        ap (λ b. b && list_all (is_met variables) (source_wants (source_code scope.look first.literal a)))
        (bits_agree variables scope.look agrees name t.0) ∙ source_met variables scope.look agrees first.literal a t.1 in
        record {
          typed = array_typed variables scope.look agrees [] a t.1;
          finds = wanted variables copy (kinds_onto (array_operands scope.look a) []) [] met (ap (λ o. then_kinds o Some) (source_off variables scope.look first.literal a []));
          stands = refl;
        }

    range_good : (first : Firsts) (name : List ℕ) (high low : ExprTree) (a : ArrayTree) → operands_suit scope.look.kind (assign_range name high low a) ≡ true →
        Good first (assign_range name high low a)
    range_good first name high low a suit =
        let t = and_parts (is_bit_array (scope.look.kind name) && is_int (expr_kind scope.look.kind high) && is_int (expr_kind scope.look.kind low)) (is_array scope.look.kind a) suit in
        let u = and_parts (is_bit_array (scope.look.kind name) && is_int (expr_kind scope.look.kind high)) (is_int (expr_kind scope.look.kind low)) t.0 in
        let v = and_parts (is_bit_array (scope.look.kind name)) (is_int (expr_kind scope.look.kind high)) u.0 in
        let copy : Instr = last scope place first (assign_range name high low a) in
        let met : list_all (is_met variables) (wants copy) ≡ true =
        ap (λ b. b && list_all (is_met variables) (source_wants (source_code scope.look first.literal a)))
        (bits_agree variables scope.look agrees name v.0) ∙ source_met variables scope.look agrees first.literal a t.1 in
        let both : List ValueKind = kinds.Int ∷ kinds.Int ∷ [] in
        record {
          typed = range_typed variables scope.look agrees [] name high low (array_operands scope.look a) v.0 v.1 u.1 (array_typed variables scope.look agrees both a t.1);
          finds = wanted variables copy (kinds_onto (array_operands scope.look a) both) [] met
              (ap (λ o. then_kinds (then_kinds (then_kinds o (taken_off (Some kinds.Int))) (taken_off (Some kinds.Int))) Some) (source_off variables scope.look first.literal a both));
          stands = refl;
        }

    loop_good : (first : Firsts) (name : List ℕ) (from to : ExprTree) (step : Option ExprTree) → operands_suit scope.look.kind (for_loop name from to step) ≡ true →
        Good first (for_loop name from to step)
    loop_good first name from to step suit =
        let kind = scope.look.kind in
        let t = and_parts (is_integer (kind name) && is_int (expr_kind kind from) && is_int (expr_kind kind to)) (if_given (wants_int kind) step) suit in
        let u = and_parts (is_integer (kind name) && is_int (expr_kind kind from)) (is_int (expr_kind kind to)) t.0 in
        let v = and_parts (is_integer (kind name)) (is_int (expr_kind kind from)) u.0 in
        let begin : Instr = For (scope.look.variable name) (place scope.follow) in
        let met = ap (λ b. b && true) (integer_agrees variables scope.look agrees name v.0) in
        record {
          typed = (record { fits = v.1; test = tt }, (record { fits = u.1; test = tt }, (record { fits = step_fits kind step t.1; test = tt }, tt)));
          finds = wanted variables begin (kinds.Int ∷ kinds.Int ∷ kinds.Int ∷ []) [] met refl;
          stands = loop_stands (scope.look.variable name) (place scope.follow) onward;
        }

    export_good : (first : Firsts) (key : List ℕ) (a : ArrayTree) → is_array scope.look.kind a ≡ true → Good first (export key (exported_array a))
    export_good first key a suit =
        let x : Instr = last scope place first (export key (exported_array a)) in
        record {
          typed = array_typed variables scope.look agrees [] a suit;
          finds = wanted variables x (kinds_onto (array_operands scope.look a) []) [] (source_met variables scope.look agrees first.literal a suit)
              (ap (λ o. then_kinds o Some) (source_off variables scope.look first.literal a []));
          stands = refl;
        }

    scan_good : (first : Firsts) (register : Register) (count : ExprTree) (source : ArrayTree) (target : Option ArrayTree) (compare : Option CompareTree) →
        operands_suit scope.look.kind (scan register count source target compare) ≡ true → Good first (scan register count source target compare)
    scan_good first register count source target compare suit =
        let is = scan_suits scope.look.kind register count source target compare suit in
        let x : Instr = last scope place first (scan register count source target compare) in
        let os = array_operands scope.look source ++ (target_operands scope.look target ++ compare_operands scope.look compare) in
        record {
          typed = (record { fits = is.count_is; test = tt }, scan_typed variables scope.look agrees (kinds.Int ∷ []) source target compare count is);
          finds = wanted variables x (kinds_onto os (kinds.Int ∷ [])) [] (scan_met variables scope.look agrees first.literal register source target compare count is)
              (ap (λ o. then_kinds (then_kinds o (taken_off (Some kinds.Int))) Some) (scan_off variables scope.look first.literal register source target compare (kinds.Int ∷ [])));
          stands = refl;
        }

    pad_good : (first : Firsts) (which : Padding) (count : ExprTree) (bits : Option ArrayTree) → operands_suit scope.look.kind (pad which count bits) ≡ true → Good first (pad which count bits)
    pad_good first which count bits suit =
        let t = and_parts (is_int (expr_kind scope.look.kind count)) (if_given (is_array scope.look.kind) bits) suit in
        let x : Instr = last scope place first (pad which count bits) in
        record {
          typed = (record { fits = t.0; test = tt }, arrays.given_typed variables scope.look agrees (kinds.Int ∷ []) bits t.1);
          finds = wanted variables x (kinds_onto (given_operands scope.look bits) (kinds.Int ∷ [])) [] (given_met variables scope.look agrees first.literal bits t.1)
              (ap (λ o. then_kinds (then_kinds o (taken_off (Some kinds.Int))) Some) (given_off variables scope.look first.literal bits (kinds.Int ∷ [])));
          stands = refl;
        }

    -- a statement that may stand after THEN
    simple_fine : (first : Firsts) (b : BodyTree) (rest : List Instr) → is_simple_shape b ≡ true → operands_suit scope.look.kind b ≡ true → stops_unstable b ≡ false →
        AllByRecursion Leads (labels_named b) →
        Follows variables entry code rest → Fine variables entry code false [] (body_code scope place first b rest)
    simple_fine first (assign name e) rest shaped suit stable leads follows =
        let t = given_fits (scope.look.kind name) (expr_kind scope.look.kind e) suit in
        let kind : ValueKind = given_kind (scope.look.kind name) in
        let good : Good first (assign name e) = record {
          typed = one_typed variables scope.look [] kind e t.0;
          finds = store_finds variables (scope.look.variable name) kind (scalar_agrees variables scope.look agrees name kind t.1);
          stands = refl;
        } in
        row_fine variables entry code scope place first (assign name e) rest agrees (λ l. refl) good follows.some (follows.fine false)
    simple_fine first (assign_element name index e) rest shaped suit stable leads follows =
        let are = and_parts (is_int (expr_kind scope.look.kind index)) (suits (element_kind (scope.look.kind name)) (expr_kind scope.look.kind e)) suit in
        let t = item_given (scope.look.kind name) (expr_kind scope.look.kind e) are.1 in
        let kind : ValueKind = given_kind (scope.look.kind name) in
        let found = element_agrees variables scope.look agrees name kind t.1 in
        let good : Good first (assign_element name index e) = record {
          typed = (record { fits = are.0; test = (refl, ap is_some found) }, one_typed variables scope.look (kinds.Int ∷ []) kind e t.0);
          finds = store_at_finds (scope.look.variable name) kind found;
          stands = refl;
        } in
        row_fine variables entry code scope place first (assign_element name index e) rest agrees (λ l. refl) good follows.some (follows.fine false)
    simple_fine first (assign_array name a) rest shaped suit stable leads follows =
        row_fine variables entry code scope place first (assign_array name a) rest agrees (λ l. refl) (array_good first name a suit) follows.some (follows.fine false)
    simple_fine first (assign_range name high low a) rest shaped suit stable leads follows =
        row_fine variables entry code scope place first (assign_range name high low a) rest agrees (λ l. refl) (range_good first name high low a suit) follows.some (follows.fine false)
    simple_fine first (goto name) rest shaped suit stable leads follows =
        let good : Good first (goto name) = record { typed = tt; finds = refl; stands = jump_stands (place (scope.label name)) (target name leads.0) } in
        row_fine variables entry code scope place first (goto name) rest agrees (λ l. refl) good follows.some (follows.fine true)
    simple_fine first (if_then e b) rest shaped suit stable leads follows =
        let suits = and_parts (is_bit (expr_kind scope.look.kind e)) (operands_suit scope.look.kind b) suit in
        let good : Good first (if_then e b) = record { typed = one_typed variables scope.look [] kinds.Bit e suits.0; finds = refl; stands = branch_stands (place scope.follow) onward } in
        row_fine variables entry code scope place first (if_then e b) (body_code scope place first b rest) agrees (λ l. refl) good
        (body_last first b rest follows.some) (simple_fine first b rest shaped suits.1 stable leads follows)
    simple_fine first (call name) rest shaped suit stable leads follows =
        let good : Good first (call name) = record { typed = tt; finds = refl; stands = refl } in
        row_fine variables entry code scope place first (call name) rest agrees (λ l. refl) good follows.some (follows.fine true)
    simple_fine first (for_loop name from to step) rest shaped suit stable leads follows =
        row_fine variables entry code scope place first (for_loop name from to step) rest agrees (λ l. refl) (loop_good first name from to step suit) follows.some (follows.fine true)
    simple_fine first (next name) rest shaped suit stable leads follows =
        let met = ap (λ b. b && true) (integer_agrees variables scope.look agrees name suit) in
        let good : Good first (next name) = record { typed = tt; finds = wanted variables (Next (scope.look.variable name)) [] [] met refl; stands = refl } in
        row_fine variables entry code scope place first (next name) rest agrees (λ l. refl) good follows.some (follows.fine true)
    simple_fine first (push e) rest shaped suit stable leads follows =
        let kind : ValueKind = printed_kind (expr_kind scope.look.kind e) in
        let good : Good first (push e) = record {
          typed = one_typed variables scope.look [] kind e (printed_fits variables scope.look (expr_kind scope.look.kind e) suit);
          finds = push_finds variables kind;
          stands = refl;
        } in
        row_fine variables entry code scope place first (push e) rest agrees (λ l. refl) good follows.some (follows.fine false)
    simple_fine first (pop (scalar name)) rest shaped suit stable leads follows =
        let kind : ValueKind = given_kind (scope.look.kind name) in
        let found = scalar_agrees variables scope.look agrees name kind (scalar_popped (scope.look.kind name) suit) in
        pop_fine variables entry code scope place first (scalar name) kind rest agrees (λ l. refl) tt (store_finds variables (scope.look.variable name) kind found) refl
        follows.some (follows.fine false)
    simple_fine first (pop (element name index)) rest shaped suit stable leads follows =
        let kind : ValueKind = given_kind (scope.look.kind name) in
        let t = item_popped (scope.look.kind name) (expr_kind scope.look.kind index) suit in
        let found = element_agrees variables scope.look agrees name kind t.1 in
        pop_fine variables entry code scope place first (element name index) kind rest agrees (λ l. refl) (record { fits = t.0; test = (refl, ap is_some found) }, tt)
        (store_at_finds (scope.look.variable name) kind found) refl follows.some (follows.fine false)
    simple_fine first (export key (exported_value e)) rest shaped suit stable leads follows =
        let kind : ValueKind = printed_kind (expr_kind scope.look.kind e) in
        let good : Good first (export key (exported_value e)) = record {
          typed = one_typed variables scope.look [] kind e (printed_fits variables scope.look (expr_kind scope.look.kind e) suit);
          finds = export_finds variables first.text kind;
          stands = refl;
        } in
        row_fine variables entry code scope place first (export key (exported_value e)) rest agrees (λ l. refl) good follows.some (follows.fine false)
    simple_fine first (export key (exported_array a)) rest shaped suit stable leads follows =
        row_fine variables entry code scope place first (export key (exported_array a)) rest agrees (λ l. refl) (export_good first key a suit) follows.some (follows.fine false)
    simple_fine first (print list) rest shaped suit stable leads follows =
        let good : Good first (print list) = record {
          typed = parts_typed variables scope.look [] list suit;
          finds = ap (λ o. then_kinds o (λ below. then_kinds (Some below) Some)) (parts_off variables scope.look list first.text []);
          stands = refl;
        } in
        row_fine variables entry code scope place first (print list) rest agrees (λ l. refl) good follows.some (follows.fine false)
    simple_fine first (exit e) rest shaped suit stable leads follows =
        let good : Good first (exit e) = record { typed = one_typed variables scope.look [] kinds.Int e suit; finds = refl; stands = refl } in
        row_fine variables entry code scope place first (exit e) rest agrees (λ l. refl) good follows.some (follows.fine true)
    simple_fine first (scan register count source target compare) rest shaped suit stable leads follows =
        row_fine variables entry code scope place first (scan register count source target compare) rest agrees (λ l. refl)
        (scan_good first register count source target compare suit) follows.some (follows.fine false)
    simple_fine first (stop register state) rest shaped suit stable leads follows =
        let good : Good first (stop register state) = record { typed = tt; finds = refl; stands = one_stable state stable } in
        row_fine variables entry code scope place first (stop register state) rest agrees (λ l. refl) good follows.some (follows.fine false)
    simple_fine first (pad which count bits) rest shaped suit stable leads follows =
        row_fine variables entry code scope place first (pad which count bits) rest agrees (λ l. refl) (pad_good first which count bits suit) follows.some (follows.fine false)
    simple_fine first (state_list states) rest shaped suit stable leads follows =
        let good : Good first (state_list states) = record { typed = tt; finds = refl; stands = last_stable states stable } in
        row_fine variables entry code scope place first (state_list states) rest agrees (λ l. refl) good follows.some (follows.fine false)
    simple_fine first (wait_cycles state cycles usec end) rest shaped suit stable leads follows =
        let suits = and_parts (is_int (expr_kind scope.look.kind cycles)) (if_given (wants_int scope.look.kind) usec) suit in
        let good : Good first (wait_cycles state cycles usec end) = record {
          typed = (record { fits = suits.0; test = tt }, given_typed variables scope.look (kinds.Int ∷ []) usec suits.1);
          finds = wait_finds variables (tap_or_idle state) (tap_or_idle end) usec;
          stands = both_stable state end stable;
        } in
        row_fine variables entry code scope place first (wait_cycles state cycles usec end) rest agrees (λ l. refl) good follows.some (follows.fine false)
    simple_fine first (wait_usec state usec end) rest shaped suit stable leads follows =
        let good : Good first (wait_usec state usec end) = record { typed = one_typed variables scope.look [] kinds.Int usec suit; finds = refl; stands = both_stable state end stable } in
        row_fine variables entry code scope place first (wait_usec state usec end) rest agrees (λ l. refl) good follows.some (follows.fine false)
    simple_fine first (frequency hertz) rest shaped suit stable leads follows =
        let good : Good first (frequency hertz) = record { typed = given_typed variables scope.look [] hertz suit; finds = frequency_finds variables hertz; stands = refl } in
        row_fine variables entry code scope place first (frequency hertz) rest agrees (λ l. refl) good follows.some (follows.fine false)
    simple_fine first _ rest shaped suit stable leads follows = absurd cc

    -- a statement other than ENDPROC
    inner_fine : (first : Firsts) (b : BodyTree) → IsInner b → (rest : List Instr) → operands_suit scope.look.kind b ≡ true → stops_unstable b ≡ false →
        AllByRecursion Leads (labels_named b) → IsDeclared b → ends_procedure b ≡ false →
        Follows variables entry code rest → Fine variables entry code false [] (body_code scope place first b rest)
    inner_fine first _ an_end rest suit stable leads is between follows = absurd cc
    inner_fine first _ (a_bit name None) rest suit stable leads is between follows = follows.fine false
    inner_fine first _ (a_bit name (Some b)) rest suit stable leads is between follows =
        let good : Good first (boolean name (Some b)) = record {
          typed = one_typed variables scope.look [] kinds.Bit (number (bit_number b)) (bit_fits b);
          finds = store_finds variables (scope.look.variable name) kinds.Bit (scalar_agrees variables scope.look agrees name kinds.Bit (ap held_kind is));
          stands = refl;
        } in
        row_fine variables entry code scope place first (boolean name (Some b)) rest agrees (λ l. refl) good follows.some (follows.fine false)
    inner_fine first _ (some_bits name size None) rest suit stable leads is between follows = follows.fine false
    inner_fine first _ (some_bits name size (Some bits)) rest suit stable leads is between follows =
        let set : Instr = SetBits (scope.look.variable name) first.literal in
        let met = ap (λ b. b && true) (bits_agree variables scope.look agrees name (ap is_bit_array is)) in
        let good : Good first (boolean_array name size (Some bits)) = record { typed = tt; finds = wanted variables set [] [] met refl; stands = refl } in
        row_fine variables entry code scope place first (boolean_array name size (Some bits)) rest agrees (λ l. refl) good follows.some (follows.fine false)
    inner_fine first _ (an_integer name None) rest suit stable leads is between follows = follows.fine false
    inner_fine first _ (an_integer name (Some z)) rest suit stable leads is between follows =
        let good : Good first (integer name (Some z)) = record {
          typed = one_typed variables scope.look [] kinds.Int (number z) (number_fits z);
          finds = store_finds variables (scope.look.variable name) kinds.Int (scalar_agrees variables scope.look agrees name kinds.Int (ap held_kind is));
          stands = refl;
        } in
        row_fine variables entry code scope place first (integer name (Some z)) rest agrees (λ l. refl) good follows.some (follows.fine false)
    inner_fine first _ (no_integers name size) rest suit stable leads is between follows = follows.fine false
    inner_fine first _ (some_integers name size zs some) rest suit stable leads is between follows =
        let set : Instr = SetInts (scope.look.variable name) zs in
        let met = ap (λ b. b && true) (integers_agree variables scope.look agrees name is) in
        let good : Good first (integer_array name size (Some zs)) = record { typed = tt; finds = wanted variables set [] [] met refl; stands = refl } in
        row_fine variables entry code scope place first (integer_array name size (Some zs)) rest agrees (λ l. refl) good follows.some (follows.fine false)
    inner_fine first _ (a_simple b shaped) rest suit stable leads is between follows = simple_fine first b rest shaped suit stable leads follows

    pub body_fine : (first : Firsts) (b : BodyTree) (rest : List Instr) → is_inner_shape b ≡ true → operands_suit scope.look.kind b ≡ true → stops_unstable b ≡ false →
        AllByRecursion Leads (labels_named b) → IsDeclared b → ends_procedure b ≡ false →
        Follows variables entry code rest → Fine variables entry code false [] (body_code scope place first b rest)
    body_fine first b rest shaped = inner_fine first b (inner_view b shaped) rest
