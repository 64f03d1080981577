-- The file of the code of a program is no longer than 64 bytes for each byte of its text, and 64 more.
use Rattle.std.proofs.Common.{◌≡◌, ℕ, ℤ, zero, suc, ◌+◌, ◌*◌, ◌≤◌, Bool, true, false, if◌then◌else◌, List, [], ◌∷◌, ◌++◌, Option, None, Some, length, length-append, map, drop, arith, refl, ap}
use Rattle.std.specs.Prelude.{is_some}
use Rattle.std.specs.List.{sum_by, flat_map, cons_option}
use Rattle.std.specs.Map.{lookup}
use Rattle.std.proofs.lemmas.List.{length-map}
use Rattle.std.proofs.lemmas.List.Elements.{All-head, All-tail}
use Rattle.std.proofs.lemmas.List.Sums.{sum_by-cons, sum_by-append}
use Rattle.tap_states.specs.declared.Tap.{Tap}
use Rattle.stapl_syntax.specs.Trees.{ArrayTree, literal, PartTree, string, value, character, CompareTree, scalar, element, BodyTree, action, procedure, boolean, boolean_array, integer, integer_array, assign_array, assign_range, if_then, print, exported_value, exported_array, export, scan, pad, StmtTree}
use Rattle.stapl_syntax.specs.Names.{numbered_from, numbered, inside_next, key_eq, put_first, firsts_after, declared_from, declared, variable_of}
use Rattle.stapl_shapes.specs.Sizes.{statements_size}
use Rattle.stapl_shapes.specs.Bytes.{literal_bytes, string_bytes, array_bytes, given_bytes, compare_bytes, part_bytes, body_bytes, statement_bytes, statements_bytes}
use Rattle.stapl_meaning.specs.Turns.{rows}
use Rattle.stapl_meaning.specs.Scopes.{data_after, plays, idle, pieces_from, Preset, preset_of, presets_from, Played, as_played}
use Rattle.stapl_meaning.proofs.Blocks.{preset_in}
use Rattle.stapl_code.specs.declared.instr.PrintPart.{PrintPart}
use Rattle.stapl_code.specs.declared.instr.PrintPart.TheVariants as parts
use Rattle.stapl_code.specs.declared.instr.ExportPart.{ExportPart}
use Rattle.stapl_code.specs.declared.instr.ExportPart.TheVariants as exports
use Rattle.stapl_code.specs.declared.instr.Source.{Source}
use Rattle.stapl_code.specs.declared.instr.Source.TheVariants as sources
use Rattle.stapl_code.specs.declared.instr.Dest.{Dest}
use Rattle.stapl_code.specs.declared.instr.Dest.TheVariants as dests
use Rattle.stapl_code.specs.declared.instr.Cell.{Cell}
use Rattle.stapl_code.specs.declared.instr.Cell.TheVariants as cells
use Rattle.stapl_code.specs.declared.instr.Compare.{Compare}
use Rattle.stapl_code.specs.declared.instr.Scan.{Scan}
use Rattle.stapl_code.specs.declared.instr.Instr.{Instr}
use Rattle.stapl_code.specs.declared.instr.Instr.TheVariants.{Turn, Push, PushBit, Load, LoadAt, CheckIndex, CheckRange, Store, StoreAt, Unary, Binary, ToInt, CopyBits, SetBits, SetInts, For, Next, PushRecord, PopRecord, Call, Jump, JumpIfZero, EndProc, Print, Export, CheckChar, Exit, Scan as Scans, Stop, Pad, State as GoThrough, Wait, Frequency}
use Rattle.stapl_code.specs.declared.raw.VarDef.{VarDef}
use Rattle.stapl_code.specs.declared.raw.ProcDef.{ProcDef}
use Rattle.stapl_code.specs.declared.raw.ItemDef.{ItemDef}
use Rattle.stapl_code.specs.declared.raw.ActionDef.{ActionDef}
use Rattle.stapl_code.specs.declared.raw.CodeLists.{CodeLists}
use Rattle.stapl_code.specs.Fields as fields
use Rattle.stapl_code.specs.Instrs as instrs
use Rattle.stapl_code.specs.Files as files
use Rattle.stapl_code.specs.Files.{file}
use Rattle.stapl_codegen.specs.Emit.{part_texts, array_literals, given_literals, compare_literals, row_texts, row_literals, rows_items, preset_items, statements_items, first_items, pieces_items, texts_of, literals_of, start_of, program_code, procedure_def, procedures_from, item_def, action_def, actions_from}
use Rattle.stapl_codegen.specs.Generated.{variable_def, lists_of}
use Rattle.stapl_codegen.specs.Accepted.{IsAccepted}
use Rattle.stapl_codegen.specs.Correct.{Starts, AllStart}
use Rattle.stapl_codegen.proofs.Accepted.{pieces_size, presets_size, all_start}
use Rattle.stapl_codegen.proofs.CodeBytes.{if_there, shown_part_bytes, shown_parts_bytes, instr_bytes, code_bytes, preset_bytes, program_code_fits}
use Rattle.stapl_codegen.proofs.Drafts.{one_row}

-- ---- instructions

source_fits : (s : Source) → length (instrs.source s) ≤ 5
source_fits (sources.Literal n) = omega arith
source_fits (sources.Whole n) = omega arith
source_fits (sources.Range n) = omega arith
source_fits sources.FromInt = omega arith

dest_fits : (d : Dest) → length (instrs.dest d) ≤ 5
dest_fits (dests.Whole n) = omega arith
dest_fits (dests.Range n) = omega arith

cell_fits : (c : Cell) → length (instrs.cell c) ≤ 5
cell_fits (cells.Scalar n) = omega arith
cell_fits (cells.Element n) = omega arith

target_fits : (target : Option Dest) → length (instrs.given instrs.dest target) ≤ if_there 5 target
target_fits None = omega arith
target_fits (Some d) = dest_fits d

given_fits : (bits : Option Source) → length (instrs.given instrs.source bits) ≤ if_there 5 bits
given_fits None = omega arith
given_fits (Some s) = source_fits s

compare_fits : (compare : Option Compare) → length (instrs.given instrs.compare compare) ≤ if_there 15 compare
compare_fits None = omega arith
compare_fits (Some c) =
    omega (
      arith,
      length-append (instrs.source c.expected ++ instrs.source c.mask) (instrs.cell c.cell),
      length-append (instrs.source c.expected) (instrs.source c.mask),
      source_fits c.expected,
      source_fits c.mask,
      cell_fits c.cell,
    )

part_fits : (p : PrintPart) → length (instrs.part p) ≤ shown_part_bytes p
part_fits (parts.Text n) = omega arith
part_fits parts.Int = omega arith
part_fits parts.Bit = omega arith
part_fits parts.Char = omega arith

parts_fit : (ps : List PrintPart) → length (flat_map instrs.part ps) ≤ shown_parts_bytes ps
parts_fit [] = omega arith
parts_fit (p ∷ ps) =
    let own = part_fits p in
    let more = parts_fit ps in
    omega (arith, own, more, length-append (instrs.part p) (flat_map instrs.part ps))

export_fits : (what : ExportPart) → length (instrs.export_part what) ≤ 6
export_fits exports.Int = omega arith
export_fits exports.Bit = omega arith
export_fits (exports.Array s) = let own = source_fits s in omega (arith, own)

integers_length : (zs : List ℤ) → length (flat_map fields.integer zs) ≡ 4 * length zs
integers_length [] = omega arith
integers_length (z ∷ zs) = let more = integers_length zs in omega (arith, more)

states_length : (states : List Tap) → length (flat_map instrs.state states) ≡ length states
states_length [] = refl
states_length (t ∷ ts) = ap suc (states_length ts)

scan_fits : (s : Scan) → length (instrs.scan s) ≤ 7 + if_there 5 s.target + if_there 15 s.compare
scan_fits s =
    let target : List ℕ = instrs.given instrs.dest s.target in
    let compare : List ℕ = instrs.given instrs.compare s.compare in
    omega (
      arith,
      length-append (instrs.source s.source ++ (instrs.scan_flags s ∷ target)) compare,
      length-append (instrs.source s.source) (instrs.scan_flags s ∷ target),
      source_fits s.source,
      target_fits s.target,
      compare_fits s.compare,
    )

instr_fits : (i : Instr) → length (instrs.instr i) ≤ instr_bytes i
instr_fits (Turn piece) = omega arith
instr_fits (Push z) = omega arith
instr_fits (PushBit b) = omega arith
instr_fits (Load n) = omega arith
instr_fits (LoadAt n) = omega arith
instr_fits (CheckIndex n) = omega arith
instr_fits (CheckRange n) = omega arith
instr_fits (Store n) = omega arith
instr_fits (StoreAt n) = omega arith
instr_fits (Unary op) = omega arith
instr_fits (Binary op) = omega arith
instr_fits (ToInt s) = let own = source_fits s in omega (arith, own)
instr_fits (CopyBits d s) = omega (arith, length-append (instrs.dest d) (instrs.source s), dest_fits d, source_fits s)
instr_fits (SetBits n bits) = omega arith
instr_fits (SetInts n values) = omega (arith, integers_length values)
instr_fits (Jump to) = omega arith
instr_fits (JumpIfZero to) = omega arith
instr_fits (For n body) = omega arith
instr_fits (Next n) = omega arith
instr_fits (PushRecord kind) = omega arith
instr_fits (PopRecord kind) = omega arith
instr_fits (Call p) = omega arith
instr_fits EndProc = omega arith
instr_fits (Print list) = let own = parts_fit list in omega (arith, own)
instr_fits CheckChar = omega arith
instr_fits (Export key what) = let own = export_fits what in omega (arith, own)
instr_fits Exit = omega arith
instr_fits (Scans s) = let own = scan_fits s in omega (arith, own)
instr_fits (Stop register t) = omega arith
instr_fits (Pad which bits) = let own = given_fits bits in omega (arith, own)
instr_fits (GoThrough states) = omega (arith, states_length states)
instr_fits (Wait at counts end) = omega arith
instr_fits (Frequency stated) = omega arith

code_fits : (code : List Instr) → length (flat_map instrs.instr code) ≤ code_bytes code
code_fits [] = omega arith
code_fits (i ∷ is) =
    let own = instr_fits i in
    let more = code_fits is in
    omega (arith, own, more, length-append (instrs.instr i) (flat_map instrs.instr is))

-- ---- variables

variables_length : (variables : List VarDef) → length (flat_map files.variable variables) ≡ 5 * length variables
variables_length [] = omega arith
variables_length (v ∷ vs) = let more = variables_length vs in omega (arith, more)

-- a program has no more variables than statements
module _ {K V : Type 0} where
  put_few : (eq : K → K → Bool) (es : List (K × V)) (x : K × V) → length (put_first eq es x) ≤ length es + 1
  put_few eq es x = by (is_some (lookup (eq x.0) es))
    where
      by : (b : Bool) → length (if b then es else es ++ (x ∷ [])) ≤ length es + 1
      by true = omega arith
      by false = omega (arith, length-append es (x ∷ []))

  firsts_few : (eq : K → K → Bool) (xs es : List (K × V)) → length (firsts_after eq es xs) ≤ length es + length xs
  firsts_few eq [] es = omega arith
  firsts_few eq (x ∷ xs) es =
      let more = firsts_few eq xs (put_first eq es x) in
      let own = put_few eq es x in
      omega (arith, more, own)

  cons_few : (o : Option (K × V)) (xs : List (K × V)) → length (cons_option o xs) ≤ length xs + 1
  cons_few None xs = omega arith
  cons_few (Some x) xs = omega arith

  declared_few : (declares : Option (List ℕ) → ℕ → StmtTree → Option (K × V)) (now : Option (List ℕ)) (n : ℕ)
      (sts : List StmtTree) →
      length (declared_from declares now (numbered_from n (map Some sts))) ≤ length sts
  declared_few declares now n [] = omega arith
  declared_few declares now n (st ∷ rest) =
      let after = declared_from declares (inside_next now st.body) (numbered_from (n + 1) (map Some rest)) in
      let own = cons_few (declares now n st) after in
      let more = declared_few declares (inside_next now st.body) (n + 1) rest in
      omega (arith, own, more)

some_bytes : (statements : List StmtTree) → length statements ≤ statements_bytes statements
some_bytes [] = omega arith
some_bytes (st ∷ rest) = let more = some_bytes rest in omega (arith, more, sum_by-cons statement_bytes st rest)

variables_few : (program : List StmtTree) → length (as_played program).names.variables ≤ statements_bytes program
variables_few program =
    let all = declared variable_of (numbered (map Some program)) in
    let few = firsts_few key_eq all [] in
    let each = declared_few variable_of None 1 program in
    let some = some_bytes program in
    omega (arith, few, each, some)

-- ---- procedures and actions

procedures_fit : (place : ℕ → ℕ) (i : ℕ) (sts : List StmtTree) →
    length (flat_map files.procedure (procedures_from place i sts)) ≤ 5 * statements_bytes sts
procedures_fit place i [] = omega arith
procedures_fit place i (st ∷ rest) =
    let more = procedures_fit place (i + 1) rest in
    let all = by st.body (procedures_from place (i + 1) rest) in
    omega (arith, more, all, sum_by-cons statement_bytes st rest)
  where
    by : (b : BodyTree) (others : List ProcDef) →
        length (flat_map files.procedure (procedure_def (place (i + 1)) b others))
        ≤ 5 * body_bytes b + 5 + length (flat_map files.procedure others)
    by (procedure name uses) others =
        let own : ProcDef = record { name = name; entry = place (i + 1) } in
        omega (
          arith,
          length-append (files.procedure own) (flat_map files.procedure others),
          length-append name (fields.number (place (i + 1))),
        )
    by _ others = omega arith

items_length : (items : List ItemDef) → length (flat_map files.item items) ≡ 5 * length items
items_length [] = omega arith
items_length (item ∷ items) = let more = items_length items in omega (arith, more)

actions_fit : (program : Played) (sts : List StmtTree) →
    length (flat_map files.action (actions_from program sts)) ≤ 5 * statements_bytes sts
actions_fit program [] = omega arith
actions_fit program (st ∷ rest) =
    let more = actions_fit program rest in
    let all = by st.body (actions_from program rest) in
    omega (arith, more, all, sum_by-cons statement_bytes st rest)
  where
    by : (b : BodyTree) (others : List ActionDef) →
        length (flat_map files.action (action_def program b others))
        ≤ 5 * body_bytes b + 5 + length (flat_map files.action others)
    by (action name text items) others =
        let defs : List ItemDef = map (item_def program) items in
        let own : ActionDef = record { name = name; items = defs } in
        omega (
          arith,
          length-append (files.action own) (flat_map files.action others),
          length-append name (fields.counted files.item defs),
          items_length defs,
          length-map items (item_def program),
        )
    by _ others = omega arith

-- ---- texts and literals

texts_fit : (texts : List (List ℕ)) → length (flat_map fields.text texts) ≤ 4 * sum_by string_bytes texts
texts_fit [] = omega arith
texts_fit (t ∷ ts) =
    let more = texts_fit ts in
    omega (arith, more, length-append (fields.text t) (flat_map fields.text ts), sum_by-cons string_bytes t ts)

bits_length : (n : ℕ) (bits : List Bool) → length (fields.bytes_of_bits n bits) ≡ n
bits_length zero bits = refl
bits_length (suc n) bits = ap suc (bits_length n (drop 8 bits))

literals_fit : (literals : List (List Bool)) →
    length (flat_map fields.literal literals) ≤ 5 * sum_by literal_bytes literals
literals_fit [] = omega arith
literals_fit (bits ∷ literals) =
    let more = literals_fit literals in
    let own = bits_length (fields.bytes_for (length bits)) bits in
    let all = length-append (fields.literal bits) (flat_map fields.literal literals) in
    omega (arith, more, own, all, sum_by-cons literal_bytes bits literals)

-- the strings and the literals of rows
printed_texts : (list : List PartTree) → sum_by string_bytes (part_texts list) ≤ sum_by part_bytes list
printed_texts [] = omega arith
printed_texts (string bytes ∷ list) =
    let more = printed_texts list in
    omega (arith, more, sum_by-cons string_bytes bytes (part_texts list), sum_by-cons part_bytes (string bytes) list)
printed_texts (value e ∷ list) =
    let more = printed_texts list in
    omega (arith, more, sum_by-cons part_bytes (value e) list)
printed_texts (character e ∷ list) =
    let more = printed_texts list in
    omega (arith, more, sum_by-cons part_bytes (character e) list)

row_strings : (b : BodyTree) → sum_by string_bytes (rows_items row_texts (rows b)) ≤ body_bytes b
row_strings (print list) =
    let own = printed_texts list in
    omega (arith, own, sum_by-append string_bytes (part_texts list) [])
row_strings (export key x) = omega (arith, sum_by-cons string_bytes key [])
row_strings (if_then e b) = row_strings b
row_strings (boolean name None) = omega arith
row_strings (boolean name (Some b)) = omega arith
row_strings (boolean_array name size None) = omega arith
row_strings (boolean_array name size (Some bits)) = omega arith
row_strings (integer name None) = omega arith
row_strings (integer name (Some z)) = omega arith
row_strings (integer_array name size None) = omega arith
row_strings (integer_array name size (Some zs)) = omega arith
row_strings _ = omega arith

array_literal : (a : ArrayTree) → sum_by literal_bytes (array_literals a) ≤ array_bytes a
array_literal (literal bits) = omega (arith, sum_by-cons literal_bytes bits [])
array_literal _ = omega arith

given_literal : (a : Option ArrayTree) → sum_by literal_bytes (given_literals a) ≤ given_bytes a
given_literal None = omega arith
given_literal (Some a) = array_literal a

both_literals : (expected mask : ArrayTree) →
    sum_by literal_bytes (array_literals expected ++ array_literals mask) ≤ array_bytes expected + array_bytes mask
both_literals expected mask =
    let one = array_literal expected in
    let two = array_literal mask in
    omega (arith, one, two, sum_by-append literal_bytes (array_literals expected) (array_literals mask))

compared_literals : (compare : Option CompareTree) →
    sum_by literal_bytes (compare_literals compare) ≤ compare_bytes compare
compared_literals None = omega arith
compared_literals (Some (expected, (mask, scalar name))) = both_literals expected mask
compared_literals (Some (expected, (mask, element name index))) = both_literals expected mask
compared_literals (Some (expected, (mask, _))) = omega arith

-- the literals of a row that is the last one
last_literals : (literals : List (List Bool)) (n : ℕ) → sum_by literal_bytes literals ≤ n →
    sum_by literal_bytes (literals ++ []) ≤ n
last_literals literals n few = omega (arith, few, sum_by-append literal_bytes literals [])

row_bits : (b : BodyTree) → sum_by literal_bytes (rows_items row_literals (rows b)) ≤ body_bytes b
row_bits (boolean_array name size (Some bits)) = omega (arith, sum_by-cons literal_bytes bits [])
row_bits (assign_array name a) = last_literals (array_literals a) (array_bytes a) (array_literal a)
row_bits (assign_range name high low a) = last_literals (array_literals a) (array_bytes a) (array_literal a)
row_bits (export key (exported_value e)) = omega arith
row_bits (export key (exported_array a)) =
    let own = last_literals (array_literals a) (array_bytes a) (array_literal a) in omega (arith, own)
row_bits (scan register count source target compare) =
    let one = array_literal source in
    let two = compared_literals compare in
    let both = sum_by-append literal_bytes (array_literals source) (compare_literals compare) in
    last_literals (array_literals source ++ compare_literals compare) (array_bytes source + compare_bytes compare)
    (omega (arith, one, two, both))
row_bits (pad which count bits) = last_literals (given_literals bits) (given_bytes bits) (given_literal bits)
row_bits (if_then e b) = row_bits b
row_bits (boolean name None) = omega arith
row_bits (boolean name (Some b)) = omega arith
row_bits (boolean_array name size None) = omega arith
row_bits (integer name None) = omega arith
row_bits (integer name (Some z)) = omega arith
row_bits (integer_array name size None) = omega arith
row_bits (integer_array name size (Some zs)) = omega arith
row_bits _ = omega arith

-- what the initial values of DATA blocks hold
abbrev presets_bytes : List (Option Preset) → ℕ
presets_bytes presets = sum_by preset_bytes presets

-- what rows have takes no more than what they hold
module _ {A : Type 0} (of : BodyTree → List A) (m : A → ℕ)
    (row : (b : BodyTree) → sum_by m (rows_items of (rows b)) ≤ body_bytes b) where
  statements_have : (sts : List StmtTree) → sum_by m (statements_items of sts) ≤ statements_bytes sts
  statements_have [] = omega arith
  statements_have (st ∷ rest) =
      let own = row st.body in
      let more = statements_have rest in
      let both = sum_by-append m (rows_items of (rows st.body)) (statements_items of rest) in
      omega (arith, own, more, both, sum_by-cons statement_bytes st rest)

  first_has : (sts : List StmtTree) → sum_by m (first_items of sts) + statements_bytes (drop 1 sts) ≤ statements_bytes sts
  first_has [] = omega arith
  first_has (st ∷ rest) = let own = row st.body in omega (arith, own, sum_by-cons statement_bytes st rest)

  preset_has : (o : Option Preset) → Starts o → sum_by m (preset_items of o) ≤ preset_bytes o
  preset_has None starts = omega arith
  preset_has (Some preset) starts =
      let b : BodyTree = preset.body in
      let one = ap (λ (bs : List BodyTree). sum_by m (rows_items of bs)) (one_row b starts) in
      omega (arith, row b, one, sum_by-append m (of b) [])

  pieces_have : (presets : List (Option Preset)) (sts : List StmtTree) → AllStart presets → sum_by m (pieces_items of presets sts) ≤ presets_bytes presets + statements_bytes sts
  pieces_have [] sts starts = let all = statements_have sts in omega (arith, all)
  pieces_have (o ∷ os) sts starts =
      let own = first_has sts in
      let one = preset_has o (All-head Starts o os starts) in
      let more = pieces_have os (drop 1 sts) (All-tail Starts o os starts) in
      omega (
        arith,
        own,
        one,
        more,
        sum_by-append m (first_items of sts) (preset_items of o ++ pieces_items of os (drop 1 sts)),
        sum_by-append m (preset_items of o) (pieces_items of os (drop 1 sts)),
        sum_by-cons preset_bytes o os,
      )

-- ---- programs

-- what plays takes no more bytes than the program
pieces_few : (now : Option (List ℕ)) (rest : List StmtTree) →
    statements_bytes (pieces_from now rest) ≤ statements_bytes rest
pieces_few now [] = omega arith
pieces_few now (st ∷ rest) =
    let more = pieces_few (data_after now st.body) rest in
    let own = by (plays now st.body) in
    omega (
      arith,
      more,
      own,
      sum_by-cons statement_bytes st rest,
      sum_by-cons statement_bytes (if plays now st.body then st else idle) (pieces_from (data_after now st.body) rest),
    )
  where
    by : (b : Bool) → statement_bytes (if b then st else idle) ≤ statement_bytes st
    by true = omega arith
    by false = omega arith

presets_few : (now : Option (List ℕ)) (rest : List StmtTree) →
    presets_bytes (presets_from now rest) ≤ statements_bytes rest
presets_few now [] = omega arith
presets_few now (st ∷ rest) =
    let more = presets_few (data_after now st.body) rest in
    let own = by (preset_of now st.body) refl in
    omega (
      arith,
      more,
      own,
      sum_by-cons statement_bytes st rest,
      sum_by-cons preset_bytes (preset_of now st.body) (presets_from (data_after now st.body) rest),
    )
  where
    by : (o : Option Preset) → preset_of now st.body ≡ o → preset_bytes o ≤ statement_bytes st
    by None e = omega arith
    by (Some preset) e = omega (arith, ap body_bytes (preset_in now st.body preset e).is)

-- ---- files

file_length : (code : CodeLists) →
    length (file code)
    ≡ 32 + length (flat_map files.variable code.variables) + length (flat_map fields.literal code.literals)
    + length (flat_map fields.text code.texts) + length (flat_map files.procedure code.procedures)
    + length (flat_map files.action code.actions) + length (flat_map instrs.instr code.instrs)
unfolding file
file_length code =
    let literals : List ℕ = fields.counted fields.literal code.literals in
    let texts : List ℕ = fields.counted fields.text code.texts in
    let procedures : List ℕ = fields.counted files.procedure code.procedures in
    let actions : List ℕ = fields.counted files.action code.actions in
    let to_variables : List ℕ = flat_map files.variable code.variables in
    let to_literals : List ℕ = to_variables ++ literals in
    let to_texts : List ℕ = to_literals ++ texts in
    let to_procedures : List ℕ = to_texts ++ procedures in
    let to_actions : List ℕ = to_procedures ++ actions in
    omega (
      arith,
      length-append to_variables literals,
      length-append to_literals texts,
      length-append to_texts procedures,
      length-append to_procedures actions,
      length-append to_actions (fields.counted instrs.instr code.instrs),
    )

pub file_is_short : (text : List ℕ) (program : List StmtTree) → IsAccepted (as_played program) →
    statements_size program ≤ length text → statements_bytes program ≤ length text →
    length (file (lists_of (as_played program))) ≤ 64 * length text + 64
file_is_short text program accepted size bytes =
    let played : Played = as_played program in
    let code : CodeLists = lists_of played in
    let variables = variables_few program in
    let literals = pieces_have row_literals literal_bytes row_bits played.presets played.pieces (all_start played accepted.typed) in
    let texts = statements_have row_texts string_bytes row_strings played.pieces in
    let procedures = procedures_fit (start_of played) 0 played.pieces in
    let actions = actions_fit played played.pieces in
    let instructions = code_fits (program_code played) in
    let own = program_code_fits played (start_of played) accepted in
    let sizes = pieces_size None program in
    let preset_sizes = presets_size None program in
    let pieces = pieces_few None program in
    let presets = presets_few None program in
    omega (
      arith,
      file_length code,
      variables_length code.variables,
      length-map played.names.variables variable_def,
      variables,
      literals_fit (literals_of played),
      literals,
      texts_fit (texts_of played),
      texts,
      procedures,
      actions,
      instructions,
      own,
      sizes,
      preset_sizes,
      pieces,
      presets,
      size,
      bytes,
    )
