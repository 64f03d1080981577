-- What the stack machine does with a code. The machine is this profile's. Places are numbers of instructions, from 0.
use Rattle.std.specs.Prelude.{ℕ, zero, suc, ◌-◌, ◌^◌, Bool, true, false, List, [], ◌∷◌, ◌++◌, length, drop, Option, Some, None, slice_get, slice_index_or}
use Rattle.std.specs.Option.{option_map}
use Rattle.dev_card.specs.Scans.{BoardScan}
use Rattle.stapl_meaning.specs.declared.profiles.Profile.{Profile}
use Rattle.stapl_meaning.specs.declared.waits.WaitKind.{WaitKind}
use Rattle.stapl_meaning.specs.declared.waits.WaitKind.TheVariants as waits
use Rattle.stapl_meaning.specs.Deeds.{Deed, Chain, deeds_events, deeds_chain}
use Rattle.stapl_meaning.specs.Scans as scans
use Rattle.stapl_meaning.specs.Scans.{CellPart, CompareParts, ScanParts, scanned, surrounded, stopped}
use Rattle.stapl_meaning.specs.declared.events.RunFault.{RunFault}
use Rattle.stapl_meaning.specs.declared.values.ValueKind.{ValueKind}
use Rattle.stapl_meaning.specs.declared.values.ValueKind.TheVariants as kinds
use Rattle.stapl_meaning.specs.declared.values.Value.{Value}
use Rattle.stapl_meaning.specs.declared.values.Value.TheVariants as value
use Rattle.stapl_meaning.specs.declared.values.Held.{Held}
use Rattle.stapl_meaning.specs.Values.{Got, Known, Faults, Stuck, then_get, combined, scalar_of, element_of, index_held, range_held, source_integer}
use Rattle.stapl_meaning.specs.Values as values
use Rattle.stapl_meaning.specs.Operands.{character_of}
use Rattle.stapl_meaning.specs.declared.records.Record.{Record}
use Rattle.stapl_meaning.specs.States.{State, Did, Turned, Leads, Over, next_chosen, jumps_to, Happened, Led, Finished, Broke, Lacks, happens, with_events, scanned_on, happened_in_piece}
use Rattle.stapl_meaning.specs.States as did
use Rattle.stapl_meaning.specs.Effects.{assigned, element_assigned, Target, IntoWhole, IntoRange, copied, integers_set, jumped, parted, with_records, pushed, topmost, called, looped, repeated, returned, exited, printed, after_value, after_character, exported, bits_exported, moved_through, waited, tuned}
use Rattle.stapl_meaning.specs.Plays.{Run, Going, goes_on, start}
use Rattle.stapl_code.specs.declared.operators.Operator.{Operator}
use Rattle.stapl_code.specs.declared.instr.PrintPart.{PrintPart}
use Rattle.stapl_code.specs.declared.instr.PrintPart.TheVariants as parts
use Rattle.stapl_code.specs.declared.instr.ExportPart.{ExportPart}
use Rattle.stapl_code.specs.declared.instr.ExportPart.TheVariants as exports
use Rattle.stapl_code.specs.declared.instr.Source.{Source}
use Rattle.stapl_code.specs.declared.instr.Source.TheVariants as sources
use Rattle.stapl_code.specs.declared.instr.Dest.{Dest}
use Rattle.stapl_code.specs.declared.instr.Dest.TheVariants as dests
use Rattle.stapl_code.specs.declared.instr.Cell.{Cell}
use Rattle.stapl_code.specs.declared.instr.Cell.TheVariants as cells
use Rattle.stapl_code.specs.declared.instr.Compare.{Compare}
use Rattle.stapl_code.specs.declared.instr.Scan.{Scan}
use Rattle.stapl_code.specs.declared.instr.Instr.{Instr}
use Rattle.stapl_code.specs.declared.instr.Instr.TheVariants.{Turn, Push, PushBit, Load, LoadAt, CheckIndex, CheckRange, Store, StoreAt, Unary, Binary, ToInt, CopyBits, SetBits, SetInts, For, Next, PushRecord, PopRecord, Call, Jump, JumpIfZero, EndProc, Print, Export, CheckChar, Exit, Scan as Scans, Stop, Pad, State as GoThrough, Wait, Frequency}
use Rattle.stapl_code.specs.Operators.{operator_table, unary_kinds, unary_results}

-- what instructions name by number, and what their ranges mean; no run changes it
pub record Constants : Type 0 where
  pub profile : Profile
  pub texts : List (List ℕ)
  pub literals : List (List Bool)

-- What an instruction makes of the operands that it takes: a value that goes on top, with another state or not, two of
-- them, the second topmost, or what a statement does.
pub data Made : Type 0 where
  Puts : Value → Made
  PutsFrom : Value → State → Made
  PutsTwo : Value → Value → Made
  Does : Did → Made

abbrev pub puts : Got Value → Got Made
puts value = then_get value (λ v. Known (Puts v))

abbrev pub does : Got Did → Got Made
does did = then_get did (λ d. Known (Does d))

-- what is made of one operand, and of two
abbrev pub one : List Value → (Value → Got Value) → Got Made
one (v ∷ []) go = puts (go v)
one _ go = Stuck

abbrev pub two : List Value → (Value → Value → Got Value) → Got Made
two (x ∷ y ∷ []) go = puts (go x y)
two _ go = Stuck

-- a value taken off the records
abbrev pub unrecorded : Got (Value × List Record) → State → Got Made
unrecorded top s = then_get top (λ both. Known (PutsFrom both.0 (with_records s both.1)))

-- two operands that stay if they pass a test
abbrev pub kept : List Value → (Value → Value → Got Value) → Got Made
kept (x ∷ y ∷ []) test = then_get (test x y) (λ z. Known (PutsTwo x y))
kept _ test = Stuck

-- the Boolean of a bit
abbrev pub bit_of : ℕ → Got Value
bit_of zero = Known (value.Bit false)
bit_of (suc zero) = Known (value.Bit true)
bit_of _ = Stuck

-- what the operator of a number makes of two values
abbrev pub operated_by : Option Operator → Value → Value → Got Value
operated_by None x y = Stuck
operated_by (Some operator) x y = combined operator.op x y

abbrev pub operated : ℕ → Value → Value → Got Value
operated n x y = operated_by (slice_get operator_table n) x y

abbrev pub signed_by : Option (Value → Got Value) → Value → Got Value
signed_by None x = Stuck
signed_by (Some result) x = result x

-- The kind of an operand: this one, or that of the scalar of a number, or of an element of the array of a number.
pub data Slot : Type 0 where
  Of : ValueKind → Slot
  OfScalar : ℕ → Slot
  OfElement : ℕ → Slot

-- What a variable has to be: an INTEGER scalar, a BOOLEAN scalar, an array, a BOOLEAN array, or an INTEGER array.
pub data Want : Type 0 where
  AnInteger : ℕ → Want
  ABoolean : ℕ → Want
  AnArray : ℕ → Want
  OfBits : ℕ → Want
  OfInts : ℕ → Want

abbrev pub sides_of : Option Operator → List Slot
sides_of None = []
sides_of (Some operator) = Of operator.sides ∷ Of operator.sides ∷ []

abbrev pub result_of : Option Operator → List Slot
result_of None = []
result_of (Some operator) = Of operator.result ∷ []

abbrev pub slot_of : Option ValueKind → List Slot
slot_of None = []
slot_of (Some kind) = Of kind ∷ []

abbrev pub part_slots : List PrintPart → List Slot
part_slots [] = []
part_slots (parts.Text n ∷ rest) = part_slots rest
part_slots (parts.Int ∷ rest) = Of kinds.Int ∷ part_slots rest
part_slots (parts.Bit ∷ rest) = Of kinds.Bit ∷ part_slots rest
part_slots (parts.Char ∷ rest) = Of kinds.Int ∷ part_slots rest

-- what a source takes, and what it wants
abbrev pub source_slots : Source → List Slot
source_slots (sources.Literal n) = []
source_slots (sources.Whole n) = []
source_slots (sources.Range n) = Of kinds.Int ∷ Of kinds.Int ∷ []
source_slots sources.FromInt = Of kinds.Int ∷ []

abbrev pub source_wants : Source → List Want
source_wants (sources.Literal n) = []
source_wants (sources.Whole n) = OfBits n ∷ []
source_wants (sources.Range n) = OfBits n ∷ []
source_wants sources.FromInt = []

-- what a destination takes in front of those, and what it wants
abbrev pub dest_slots : Dest → List Slot → List Slot
dest_slots (dests.Whole n) slots = slots
dest_slots (dests.Range n) slots = Of kinds.Int ∷ Of kinds.Int ∷ slots

abbrev pub dest_want : Dest → Want
dest_want (dests.Whole n) = OfBits n
dest_want (dests.Range n) = OfBits n

-- what a source or a destination takes that may be left out, and what it wants
abbrev pub given_slots : Option Source → List Slot
given_slots None = []
given_slots (Some source) = source_slots source

abbrev pub given_wants : Option Source → List Want
given_wants None = []
given_wants (Some source) = source_wants source

abbrev pub target_slots : Option Dest → List Slot
target_slots None = []
target_slots (Some dest) = dest_slots dest []

abbrev pub target_wants : Option Dest → List Want
target_wants None = []
target_wants (Some dest) = dest_want dest ∷ []

-- what a comparison takes, and what it wants
abbrev pub cell_slots : Cell → List Slot
cell_slots (cells.Scalar n) = []
cell_slots (cells.Element n) = Of kinds.Int ∷ []

abbrev pub cell_want : Cell → Want
cell_want (cells.Scalar n) = ABoolean n
cell_want (cells.Element n) = OfBits n

abbrev pub compare_slots : Option Compare → List Slot
compare_slots None = []
compare_slots (Some c) = source_slots c.expected ++ (source_slots c.mask ++ cell_slots c.cell)

abbrev pub compare_wants : Option Compare → List Want
compare_wants None = []
compare_wants (Some c) = cell_want c.cell ∷ (source_wants c.expected ++ source_wants c.mask)

-- what a Scan takes after its length, and what it wants
abbrev pub scan_slots : Scan → List Slot
scan_slots scan = source_slots scan.source ++ (target_slots scan.target ++ compare_slots scan.compare)

abbrev pub scan_wants : Scan → List Want
scan_wants scan = source_wants scan.source ++ (target_wants scan.target ++ compare_wants scan.compare)

-- what an Export takes, and what it wants
abbrev pub export_slots : ExportPart → List Slot
export_slots exports.Int = Of kinds.Int ∷ []
export_slots exports.Bit = Of kinds.Bit ∷ []
export_slots (exports.Array source) = source_slots source

abbrev pub export_wants : ExportPart → List Want
export_wants exports.Int = []
export_wants exports.Bit = []
export_wants (exports.Array source) = source_wants source

-- what a Wait takes
abbrev pub wait_slots : WaitKind → List Slot
wait_slots waits.Cycles = Of kinds.Int ∷ []
wait_slots waits.Usec = Of kinds.Int ∷ []
wait_slots waits.Both = Of kinds.Int ∷ Of kinds.Int ∷ []

-- what a Frequency takes, if one is stated
abbrev pub frequency_slots : Bool → List Slot
frequency_slots true = Of kinds.Int ∷ []
frequency_slots false = []

-- where a destination puts bits
abbrev pub target_of : Profile → Dest → Target
target_of profile (dests.Whole n) = IntoWhole n
target_of profile (dests.Range n) = IntoRange profile n

-- The table of instructions.

-- the kinds of the operands that it takes, the topmost last
abbrev pub takes : Instr → List Slot
takes (LoadAt n) = Of kinds.Int ∷ []
takes (CheckIndex n) = Of kinds.Int ∷ []
takes (CheckRange n) = Of kinds.Int ∷ Of kinds.Int ∷ []
takes (Store n) = OfScalar n ∷ []
takes (StoreAt n) = Of kinds.Int ∷ OfElement n ∷ []
takes (Unary op) = slot_of (slice_get unary_kinds op)
takes (Binary op) = sides_of (slice_get operator_table op)
takes (ToInt source) = source_slots source
takes (CopyBits dest source) = dest_slots dest (source_slots source)
takes (For n body) = Of kinds.Int ∷ Of kinds.Int ∷ Of kinds.Int ∷ []
takes (PushRecord kind) = Of kind ∷ []
takes (JumpIfZero to) = Of kinds.Bit ∷ []
takes (Print list) = part_slots list
takes (Export key part) = export_slots part
takes CheckChar = Of kinds.Int ∷ []
takes Exit = Of kinds.Int ∷ []
takes (Scans scan) = Of kinds.Int ∷ scan_slots scan
takes (Pad which source) = Of kinds.Int ∷ given_slots source
takes (Wait at kind last) = wait_slots kind
takes (Frequency stated) = frequency_slots stated
takes _ = []

-- the kinds of those that it gives
abbrev pub gives : Instr → List Slot
gives (Push z) = Of kinds.Int ∷ []
gives (PushBit b) = Of kinds.Bit ∷ []
gives (Load n) = OfScalar n ∷ []
gives (LoadAt n) = OfElement n ∷ []
gives (CheckIndex n) = Of kinds.Int ∷ []
gives (CheckRange n) = Of kinds.Int ∷ Of kinds.Int ∷ []
gives (Unary op) = slot_of (slice_get unary_kinds op)
gives (Binary op) = result_of (slice_get operator_table op)
gives (ToInt source) = Of kinds.Int ∷ []
gives (PopRecord kind) = Of kind ∷ []
gives CheckChar = Of kinds.Int ∷ []
gives _ = []

-- what variables have to be that no operand tells
abbrev pub wants : Instr → List Want
wants (CheckIndex n) = AnArray n ∷ []
wants (CheckRange n) = OfBits n ∷ []
wants (ToInt source) = source_wants source
wants (CopyBits dest source) = dest_want dest ∷ source_wants source
wants (SetBits n literal) = OfBits n ∷ []
wants (SetInts n values) = OfInts n ∷ []
wants (For n body) = AnInteger n ∷ []
wants (Next n) = AnInteger n ∷ []
wants (Export key part) = export_wants part
wants (Scans scan) = scan_wants scan
wants (Pad which source) = given_wants source
wants _ = []

-- its target, which is a turn of the same procedure
abbrev pub goes_to : Instr → Option ℕ
goes_to (For n body) = Some body
goes_to (Jump to) = Some to
goes_to (JumpIfZero to) = Some to
goes_to _ = None

abbrev pub known_text : Option (List ℕ) → Got (List ℕ)
known_text None = Stuck
known_text (Some bytes) = Known bytes

abbrev pub known_literal : Option (List Bool) → Got values.Source
known_literal None = Stuck
known_literal (Some bits) = Known (values.These bits)

-- a source with the bits of its literal
abbrev pub known_source : Constants → Source → Got values.Source
known_source constants (sources.Literal n) = known_literal (slice_get constants.literals n)
known_source constants (sources.Whole n) = Known (values.Whole n)
known_source constants (sources.Range n) = Known (values.Range constants.profile n)
known_source constants sources.FromInt = Known values.OfInt

abbrev pub known_given : Constants → Option Source → Got (Option values.Source)
known_given constants None = Known None
known_given constants (Some source) = then_get (known_source constants source) (λ from. Known (Some from))

-- the parts of a Scan with the bits of its literals
abbrev pub cell_part : Cell → CellPart
cell_part (cells.Scalar n) = scans.ScalarCell n
cell_part (cells.Element n) = scans.ElementCell n

abbrev pub known_compare : Constants → Option Compare → Got (Option CompareParts)
known_compare constants None = Known None
known_compare constants (Some c) =
    then_get (known_source constants c.expected) (λ expected.
    then_get (known_source constants c.mask) (λ mask.
    Known (Some (record { expected = expected; mask = mask; cell = cell_part c.cell }))))

abbrev pub known_scan : Constants → Scan → Got ScanParts
known_scan constants scan =
    then_get (known_source constants scan.source) (λ source.
    then_get (known_compare constants scan.compare) (λ compare.
    Known (record {
      register = scan.register;
      source = source;
      target = option_map (target_of constants.profile) scan.target;
      compare = compare;
    })))

-- what is exported under a key
abbrev pub part_exported : Constants → ExportPart → List ℕ → List Value → State → Got Did
part_exported constants exports.Int key vs s = exported key vs s
part_exported constants exports.Bit key vs s = exported key vs s
part_exported constants (exports.Array source) key vs s =
    then_get (known_source constants source) (λ from. bits_exported key from vs s)

-- where the procedures begin, and the constants
module _ (entries : List ℕ) (constants : Constants) where
  -- the joined bytes of the parts of a Print with these operands
  abbrev pub parts_text : List PrintPart → List Value → Got (List ℕ)
  parts_text [] [] = Known []
  parts_text [] (v ∷ vs) = Stuck
  parts_text (parts.Text n ∷ rest) vs =
      then_get (known_text (slice_get constants.texts n)) (λ bytes. then_get (parts_text rest vs) (λ more. Known (bytes ++ more)))
  parts_text (parts.Int ∷ rest) [] = Stuck
  parts_text (parts.Int ∷ rest) (v ∷ vs) = after_value v (parts_text rest vs)
  parts_text (parts.Bit ∷ rest) [] = Stuck
  parts_text (parts.Bit ∷ rest) (v ∷ vs) = after_value v (parts_text rest vs)
  parts_text (parts.Char ∷ rest) [] = Stuck
  parts_text (parts.Char ∷ rest) (v ∷ vs) = after_character v (parts_text rest vs)

  -- what an instruction that stands here makes of its operands; its effects are those of statements
  abbrev pub made : ℕ → Instr → List Value → State → Got Made
  made here (Turn piece) vs s = does (jumped vs s)
  made here (Push z) vs s = Known (Puts (value.Int z))
  made here (PushBit b) vs s = puts (bit_of b)
  made here (Load n) vs s = puts (scalar_of (slice_get s.store.variables n))
  made here (LoadAt n) vs s = one vs (element_of (slice_get s.store.variables n))
  made here (CheckIndex n) vs s = one vs (index_held (slice_get s.store.variables n))
  made here (CheckRange n) vs s = kept vs (range_held constants.profile (slice_get s.store.variables n))
  made here (Store n) vs s = does (assigned n vs s)
  made here (StoreAt n) vs s = does (element_assigned n vs s)
  made here (Unary op) vs s = one vs (signed_by (slice_get unary_results op))
  made here (Binary op) vs s = two vs (operated op)
  made here (ToInt source) vs s =
      puts (then_get (known_source constants source) (λ from. source_integer s.store.variables from vs))
  made here (CopyBits dest source) vs s =
      does (then_get (known_source constants source) (λ from. copied (target_of constants.profile dest) from vs s))
  made here (SetBits n literal) vs s =
      does (then_get (known_literal (slice_get constants.literals literal)) (λ from. copied (IntoWhole n) from vs s))
  made here (SetInts n list) vs s = does (integers_set n list vs s)
  made here (For n body) vs s = does (looped n body vs s)
  made here (Next n) vs s = does (repeated n vs s)
  made here (PushRecord kind) vs s = does (pushed vs s)
  made here (PopRecord kind) vs s = unrecorded (topmost kind s.records) s
  made here (Call p) vs s = does (called (suc here) vs s)
  made here (Jump to) vs s = does (jumped vs s)
  made here (JumpIfZero to) vs s = does (parted vs s)
  made here EndProc vs s = does (returned vs s)
  made here (Print list) vs s = does (printed (parts_text list vs) s)
  made here (Export key part) vs s =
      does (then_get (known_text (slice_get constants.texts key)) (λ bytes. part_exported constants part bytes vs s))
  made here CheckChar vs s = one vs character_of
  made here Exit vs s = does (exited vs s)
  made here (Scans scan) vs s = does (then_get (known_scan constants scan) (λ parts. scanned parts vs s))
  made here (Stop register tap) vs s = does (stopped register tap vs s)
  made here (Pad which source) vs s =
      does (then_get (known_given constants source) (λ from. surrounded which from vs s))
  made here (GoThrough states) vs s = does (moved_through states vs s)
  made here (Wait at kind last) vs s = does (waited kind at last vs s)
  made here (Frequency stated) vs s = does (tuned vs s)

-- The rule.

-- What one instruction does: on to the one after it, perhaps with deeds, or with a scan whose captured bits decide the
-- state; the end of the turn, which must find no operand left; a fault; or what no valid code meets.
pub data Step : Type 0 where
  Falls : (operands : List Value) (state : State) → Step
  Acts : (deeds : List Deed) (operands : List Value) (state : State) → Step
  Scanned : (scan : BoardScan) (operands : List Value) (lands : List Bool → State) → Step
  Stops : (operands : List Value) (turned : Turned) → Step
  Faulted : (fault : RunFault) (state : State) → Step
  Wrong : Step

-- the topmost n operands in the order in which they were put on, and those below them
abbrev pub taken_onto : ℕ → List Value → List Value → Option (List Value × List Value)
taken_onto zero done ops = Some (done, ops)
taken_onto (suc n) done [] = None
taken_onto (suc n) done (v ∷ ops) = taken_onto n (v ∷ done) ops

abbrev pub taken : ℕ → List Value → Option (List Value × List Value)
taken n ops = taken_onto n [] ops

abbrev pub on_taken : Option (List Value × List Value) → (List Value → List Value → Step) → Step
on_taken None go = Wrong
on_taken (Some both) go = go both.0 both.1

-- on with these deeds, if there are any
abbrev pub acted : List Deed → List Value → State → Step
acted [] below s = Falls below s
acted (d ∷ deeds) below s = Acts (d ∷ deeds) below s

-- a place that no code has
abbrev pub nowhere : ℕ
nowhere = 2 ^ 32 - 1

-- where a procedure begins
abbrev pub entry_of : List ℕ → ℕ → ℕ
entry_of entries p = slice_index_or entries p nowhere

-- where a jump or a call of an instruction leads, which stands here: that of a Turn to itself; a For goes on
abbrev pub lands : List ℕ → ℕ → Instr → Option ℕ
lands entries here (Turn piece) = Some here
lands entries here (For n body) = None
lands entries here (Call p) = Some (entry_of entries p)
lands entries here i = goes_to i

-- what was made, above these operands
abbrev pub on_made : List ℕ → Option ℕ → List Value → State → Got Made → Step
on_made entries to below s (Known (Puts v)) = Falls (v ∷ below) s
on_made entries to below s (Known (PutsFrom v t)) = Falls (v ∷ below) t
on_made entries to below s (Known (PutsTwo x y)) = Falls (y ∷ x ∷ below) s
on_made entries to below s (Known (Does (did.Falls deeds t))) = acted deeds below t
on_made entries to below s (Known (Does (did.Captures scan lands))) = Scanned scan below lands
on_made entries to below s (Known (Does (did.Jumps t))) = Stops below (jumps_to to t)
on_made entries to below s (Known (Does (did.Resumes place t))) = Stops below (Leads [] place t)
on_made entries to below s (Known (Does (did.Returns t))) = Stops below (next_chosen (entry_of entries) t t.chosen)
on_made entries to below s (Known (Does (did.Ends ending t))) = Stops below (Over [] ending t)
on_made entries to below s (Faults k) = Faulted k s
on_made entries to below s Stuck = Wrong

-- the end of a turn, which must find no operand left
abbrev pub at_end : List Value → Happened → Happened
at_end [] h = h
at_end (v ∷ rest) h = Lacks []

-- a step on a chain, and then the rest of the turn
abbrev pub continues : Chain → Step → (List Value → State → Chain → Happened) → Happened
continues k (Falls ops s) go = go ops s k
continues k (Acts deeds ops s) go = with_events (deeds_events k deeds) (go ops s (deeds_chain k deeds))
continues k (Scanned scan ops lands) go = scanned_on k scan (λ bits l. go ops (lands bits) l)
continues k (Stops ops t) go = at_end ops (happens k t)
continues k (Faulted f s) go = Broke [] f s k
continues k Wrong go = Lacks []

-- The first chosen procedure begins where the prologue has come to its end.
abbrev pub begins_chosen : (ℕ → ℕ) → Happened → Happened
begins_chosen entry (Led events place s k) = with_events events (happens k (next_chosen entry s s.chosen))
begins_chosen entry (Finished events ending s k) = Lacks events
begins_chosen entry (Broke events f s k) = Lacks events
begins_chosen entry (Lacks events) = Lacks events

module _ (entries : List ℕ) (constants : Constants) where
  -- one instruction, which stands at a place
  abbrev pub step : ℕ → Instr → List Value → State → Step
  step here i ops s =
      on_taken (taken (length (takes i)) ops) (λ vs below. on_made entries (lands entries here i) below s (made entries constants here i vs s))

  -- The rest of a turn on a chain: these instructions, which are the last ones of so many. A Turn that is met ends it.
  abbrev pub stretch : ℕ → List Instr → List Value → State → Chain → Happened
  stretch total [] ops s k = Lacks []
  stretch total (i ∷ rest) ops s k = continues k (step (total - suc (length rest)) i ops s) (stretch total rest)

  -- a turn, which begins with the first of these instructions
  abbrev pub begins : ℕ → List Instr → State → Chain → Happened
  begins total (Turn piece ∷ rest) s k = happened_in_piece piece (stretch total rest [] s k)
  begins total _ s k = Lacks []

  -- the turn that begins at a place
  abbrev pub code_turn : List Instr → ℕ → State → Chain → Happened
  code_turn code place s k = begins (length code) (drop place code) s k

  -- at most n turns
  abbrev pub code_run : List Instr → ℕ → ℕ → State → Chain → Run
  code_run code zero place s k = record { events = []; outcome = Going place; state = s; chain = k }
  code_run code (suc n) place s k = goes_on (code_turn code place s k) s k (code_run code n)

  -- the prologue of a code, and the beginning of the first chosen procedure
  abbrev pub code_beginning : List Instr → List ℕ → List Held → Chain → Happened
  code_beginning code chosen variables k =
      begins_chosen (entry_of entries) (stretch (length code) code [] (start chosen variables) k)

  -- The prologue and then the chosen procedures, for at most n turns. The prologue falls into the first Turn, and the
  -- first chosen procedure begins.
  abbrev pub code_play : List Instr → List ℕ → List Held → ℕ → Chain → Run
  code_play code chosen variables n k =
      goes_on (code_beginning code chosen variables k) (start chosen variables) k (code_run code n)
