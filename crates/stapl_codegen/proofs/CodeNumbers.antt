-- The numbers of the code of a program have four bytes each.
use Rattle.std.proofs.Common.{ℕ, zero, suc, ℤ, pos, negsuc, ◌+◌, ◌-◌, ◌^◌, ◌<◌, ◌≤◌, Bool, true, false, cond, if◌then◌else◌, List, [], ◌∷◌, length, take, drop, map, Option, None, Some, subst, arith}
use Rattle.std.specs.Prelude.{All, IfSome, nat_abs, slice_get}
use Rattle.std.specs.Int.{w32}
use Rattle.std.specs.Int.RustNames.{FitsSigned}
use Rattle.std.proofs.lemmas.List.{length-take}
use Rattle.std.proofs.lemmas.List.Elements.{All-head, All-tail}
use Rattle.std.proofs.Math.Facts.{sfits_to_z}
use Rattle.std.proofs.Math.Pow.{pow_mono}
use Rattle.base.specs.Bits.{number_of}
use Rattle.base.proofs.NumberBits.{number_of-below}
use Rattle.bit_list.specs.Integers.{int_of}
use Rattle.stapl_syntax.specs.declared.names.Key.{Key}
use Rattle.stapl_syntax.specs.declared.names.Variable.{Variable}
use Rattle.stapl_syntax.specs.declared.names.VarKind.{VarKind}
use Rattle.stapl_syntax.specs.declared.names.VarKind.TheVariants as variables
use Rattle.stapl_syntax.specs.Statements.{is_outer}
use Rattle.stapl_syntax.specs.Programs.{IsProgram}
use Rattle.stapl_syntax.specs.Trees.{ExprTree, number, scalar, element, unary, binary, abs, int, ArrayTree, literal, whole, range, of_int, BodyTree, procedure, boolean, boolean_array, integer, integer_array, goto, if_then, for_loop, pop, exported_value, exported_array, export, StmtTree}
use Rattle.stapl_meaning.specs.declared.values.ValueKind.{ValueKind}
use Rattle.stapl_meaning.specs.declared.values.ValueKind.TheVariants as kinds
use Rattle.stapl_meaning.specs.Values.{Lookup, unary_side, sides}
use Rattle.stapl_meaning.specs.Operands.{Test, Plain, Character, Index, Range, Operand}
use Rattle.stapl_meaning.specs.Scopes.{Preset, Scope, Played, as_played, scope_at, preset_scope}
use Rattle.stapl_meaning.specs.Turns.{operands, rows}
use Rattle.stapl_meaning.specs.Typed.{HasSize, IsSized}
use Rattle.stapl_code.specs.declared.instr.Instr.{Instr}
use Rattle.stapl_code.specs.declared.instr.Instr.TheVariants.{Turn}
use Rattle.stapl_code.specs.declared.raw.ProcDef.{ProcDef}
use Rattle.stapl_code.specs.declared.raw.VarDef.{VarDef}
use Rattle.stapl_code.specs.Instrs.{FitsInstr}
use Rattle.stapl_code.specs.Files.{IsFitting}
use Rattle.stapl_code.specs.Machine.{nowhere}
use Rattle.stapl_codegen.specs.Emit.{literal_code, expr_code, int_code, test_code, operands_code, Firsts, last, between, after_row, row_code, rows_code, firsts_at, preset_firsts, preset_code, presets_code, piece_code, pieces_code, total_of, start_in, start_of, program_code, procedure_def, procedures_from, procedures_of}
use Rattle.stapl_codegen.specs.Accepted.{IsAccepted}
use Rattle.stapl_codegen.specs.Correct.{Starts, AllStart}
use Rattle.stapl_codegen.specs.Generated.{variable_def, lists_of}
use Rattle.stapl_codegen.proofs.Accepted.{all_start, pieces_all, presets_all}
use Rattle.stapl_codegen.proofs.Drafts.{one_row}
use Rattle.stapl_codegen.proofs.Ranges.{Each, each_all}
use Rattle.stapl_codegen.proofs.SignedNumbers.{HasSmall, ArrayHasSmall, OperandsSmall, ValuesSmall, RowSmall, program_small}
use Rattle.stapl_codegen.proofs.Sizes.{code_length}

-- ---- instructions

abbrev CodeFits : List Instr → Type 0
CodeFits code = Each FitsInstr code

-- an integer of at most 32 bits
bits_small : (bits : List Bool) → FitsSigned w32 (int_of (take 32 bits))
bits_small bits = sfits_to_z {w = w32} (record { fits = below })
  where
    few : length (take 32 bits) ≤ 32
    few = omega (arith, length-take 32 bits)

    below : number_of (take 32 bits) < 2 ^ 32
    below = let own = number_of-below (take 32 bits) in let more = pow_mono few in omega (arith, own, more)

literal_fits : (kind : ValueKind) (z : ℤ) → FitsSigned w32 z → FitsInstr (literal_code kind z)
literal_fits kinds.Int z small = small
literal_fits kinds.Bit (pos zero) small = tt
literal_fits kinds.Bit (pos (suc zero)) small = tt
literal_fits kinds.Bit (pos (suc (suc n))) small = tt
literal_fits kinds.Bit (negsuc n) small = tt

test_fits : (test : Test) (rest : List Instr) → CodeFits rest → CodeFits (test_code test rest)
test_fits Plain rest more = more
test_fits Character rest more = (tt, more)
test_fits (Index n) rest more = (tt, more)
test_fits (Range n) rest more = (tt, more)

module _ (look : Lookup) where
  mutual
    expr_fits : (kind : ValueKind) (e : ExprTree) (rest : List Instr) → HasSmall e → CodeFits rest → CodeFits (expr_code look kind e rest)
    expr_fits kind (number z) rest small more = (literal_fits kind z small, more)
    expr_fits kind (scalar name) rest small more = (tt, more)
    expr_fits kind (element name index) rest small more = expr_fits kinds.Int index _ small (tt, more)
    expr_fits kind (unary op e) rest small more = expr_fits (unary_side op) e _ small (tt, more)
    expr_fits kind (binary op a b) rest small more =
        expr_fits (sides look op a b) a _ small.0 (expr_fits (sides look op a b) b _ small.1 (tt, more))
    expr_fits kind (abs e) rest small more = expr_fits kinds.Int e _ small (tt, more)
    expr_fits kind (int a) rest small more = int_fits a rest small more

    int_fits : (a : ArrayTree) (rest : List Instr) → ArrayHasSmall a → CodeFits rest → CodeFits (int_code look a rest)
    int_fits (literal bits) rest small more = (bits_small bits, more)
    int_fits (whole name) rest small more = (tt, more)
    int_fits (range name high low) rest small more = expr_fits kinds.Int high _ small.0 (expr_fits kinds.Int low _ small.1 (tt, more))
    int_fits (of_int e) rest small more = expr_fits kinds.Int e _ small (tt, more)

  operands_fit : (os : List Operand) (rest : List Instr) → OperandsSmall os → CodeFits rest → CodeFits (operands_code look os rest)
  operands_fit [] rest small more = more
  operands_fit (o ∷ os) rest small more = expr_fits o.kind o.expr _ small.0 (test_fits o.test _ (operands_fit os rest small.1 more))

-- ---- rows

module _ (scope : Scope) (place : ℕ → ℕ) (near : (i : ℕ) → place i < 2 ^ 32) where
  pop_fits : (first : Firsts) (e : ExprTree) → FitsInstr (last scope place first (pop e))
  pop_fits first (number z) = tt
  pop_fits first (scalar name) = tt
  pop_fits first (element name index) = tt
  pop_fits first (unary op e) = tt
  pop_fits first (binary op a b) = tt
  pop_fits first (abs e) = tt
  pop_fits first (int a) = tt

  last_fits : (first : Firsts) (b : BodyTree) → ValuesSmall b → FitsInstr (last scope place first b)
  last_fits first (boolean name None) small = tt
  last_fits first (boolean name (Some b)) small = tt
  last_fits first (boolean_array name size None) small = tt
  last_fits first (boolean_array name size (Some bits)) small = tt
  last_fits first (integer name None) small = tt
  last_fits first (integer name (Some z)) small = tt
  last_fits first (integer_array name size None) small = tt
  last_fits first (integer_array name size (Some zs)) small = small
  last_fits first (goto name) small = near (scope.label name)
  last_fits first (if_then e b) small = near scope.follow
  last_fits first (for_loop name from to step) small = near scope.follow
  last_fits first (pop e) small = pop_fits first e
  last_fits first (export key (exported_value e)) small = tt
  last_fits first (export key (exported_array a)) small = tt
  last_fits first _ small = tt

  between_fits : (b : BodyTree) (rest : List Instr) → CodeFits rest → CodeFits (between scope b rest)
  between_fits (pop (scalar name)) rest more = (tt, more)
  between_fits (pop (element name index)) rest more = (tt, more)
  between_fits (pop (number z)) rest more = more
  between_fits (pop (unary op e)) rest more = more
  between_fits (pop (binary op a b)) rest more = more
  between_fits (pop (abs e)) rest more = more
  between_fits (pop (int a)) rest more = more
  between_fits _ rest more = more

  row_fits : (first : Firsts) (b : BodyTree) (rest : List Instr) → RowSmall b → CodeFits rest → CodeFits (row_code scope place first b rest)
  row_fits first b rest small more = operands_fit scope.look (operands scope b) _ (small.all scope) (between_fits b _ (last_fits first b small.values, more))

  rows_fit : (first : Firsts) (bs : List BodyTree) (rest : List Instr) → Each RowSmall bs → CodeFits rest → CodeFits (rows_code scope place first bs rest)
  rows_fit first [] rest small more = more
  rows_fit first (b ∷ bs) rest small more = row_fits first b _ small.0 (rows_fit (after_row first b) bs rest small.1 more)

-- ---- pieces and initial values

abbrev AreSmallRows : BodyTree → Type 0
AreSmallRows b = Each RowSmall (rows b)

module _ (program : Played) (place : ℕ → ℕ) (near : (i : ℕ) → place i < 2 ^ 32) where
  piece_fits : (i : ℕ) (st : StmtTree) (rest : List Instr) → AreSmallRows st.body → CodeFits rest → CodeFits (piece_code program place i st rest)
  piece_fits i st rest small more = by (is_outer st.body)
    where
      own : List Instr
      own = rows_code (scope_at program i) place (firsts_at program i) (rows st.body) rest

      by : (outer : Bool) → CodeFits (cond outer rest (Turn (i + 1) ∷ own))
      by true = more
      by false = (tt, rows_fit (scope_at program i) place near (firsts_at program i) (rows st.body) rest small more)

  pieces_fit : (i : ℕ) (sts : List StmtTree) → All (λ (st : StmtTree). AreSmallRows st.body) sts → CodeFits (pieces_code program place i sts)
  pieces_fit i [] small = tt
  pieces_fit i (st ∷ rest) small =
      piece_fits i st (pieces_code program place (i + 1) rest) (All-head (λ (st : StmtTree). AreSmallRows st.body) st rest small)
      (pieces_fit (i + 1) rest (All-tail (λ (st : StmtTree). AreSmallRows st.body) st rest small))

  abbrev OfPreset : Option Preset → Type 0
  OfPreset o = IfSome o (λ (preset : Preset). AreSmallRows preset.body)

  preset_fits : (i : ℕ) (o : Option Preset) (rest : List Instr) → Starts o → OfPreset o → CodeFits rest → CodeFits (preset_code program place i o rest)
  preset_fits i None rest starts small more = more
  preset_fits i (Some preset) rest starts small more =
      row_fits (preset_scope program preset) place near (preset_firsts program i) preset.body rest (subst (Each RowSmall) (one_row preset.body starts) small).0 more

  presets_fit : (i : ℕ) (presets : List (Option Preset)) (rest : List Instr) → AllStart presets → All OfPreset presets → CodeFits rest → CodeFits (presets_code program place i presets rest)
  presets_fit i [] rest starts small more = more
  presets_fit i (o ∷ os) rest starts small more =
      preset_fits i o _ (All-head Starts o os starts) (All-head OfPreset o os small)
      (presets_fit (i + 1) os rest (All-tail Starts o os starts) (All-tail OfPreset o os small) more)

-- ---- procedures and variables

-- where pieces begin has four bytes
start_near : (program : Played) → IsAccepted program → (i : ℕ) → start_of program i < 2 ^ 32
start_near program accepted i = by (slice_get program.pieces i)
  where
    by : (o : Option StmtTree) → start_in program i o < 2 ^ 32
    by None = omega arith
    by (Some st) = case (is_outer st.body)
      where
        case : (outer : Bool) → (if outer then nowhere else total_of program - length (pieces_code program (λ j. j) i (drop i program.pieces))) < 2 ^ 32
        case true = omega arith
        case false = let size = code_length program (λ j. j) accepted in omega (arith, size)

entries_near : (place : ℕ → ℕ) → ((i : ℕ) → place i < 2 ^ 32) → (i : ℕ) (sts : List StmtTree) → Each (λ (p : ProcDef). p.entry < 2 ^ 32) (procedures_from place i sts)
entries_near place near i [] = tt
entries_near place near i (st ∷ rest) = by st.body (procedures_from place (i + 1) rest) (entries_near place near (i + 1) rest)
  where
    by : (b : BodyTree) (others : List ProcDef) → Each (λ (p : ProcDef). p.entry < 2 ^ 32) others → Each (λ (p : ProcDef). p.entry < 2 ^ 32) (procedure_def (place (i + 1)) b others)
    by (procedure name uses) others more = (near (i + 1), more)
    by _ others more = more

variable_small : (v : Key × Variable) → IsSized v → (variable_def v).size < 2 ^ 32
variable_small v sized = by v.1.kind (nat_abs v.1.size) sized.fits
  where
    by : (k : VarKind) (n : ℕ) → HasSize k n → n < 2 ^ 32
    by variables.Integer n fits = omega (arith, fits)
    by variables.Boolean n fits = omega (arith, fits)
    by variables.IntegerArray n fits = omega (arith, fits)
    by variables.BooleanArray n fits = omega (arith, fits)

variables_small : (vs : List (Key × Variable)) → All IsSized vs → Each (λ (v : VarDef). v.size < 2 ^ 32) (map variable_def vs)
variables_small [] all = tt
variables_small (v ∷ vs) all = (variable_small v (All-head IsSized v vs all), variables_small vs (All-tail IsSized v vs all))

-- ---- codes

pub code_fits : (text : List ℕ) (program : List StmtTree) → IsProgram text program → IsAccepted (as_played program) → IsFitting (lists_of (as_played program))
code_fits text program is accepted =
    let played : Played = as_played program in
    let place : ℕ → ℕ = start_of played in
    let near = start_near played accepted in
    let small = program_small text program is in
    let pieces : List Instr = pieces_code played place 0 played.pieces in
    let fit : CodeFits (program_code played) =
    presets_fit played place near 0 played.presets pieces (all_start played accepted.typed) (presets_all AreSmallRows None program small)
    (pieces_fit played place near 0 played.pieces (pieces_all AreSmallRows (record { all = λ scope. tt; values = tt }, tt) None program small)) in
    record {
      sizes = each_all (λ (v : VarDef). v.size < 2 ^ 32) (map variable_def played.names.variables) (variables_small played.names.variables accepted.typed.sized.each);
      entries = each_all (λ (p : ProcDef). p.entry < 2 ^ 32) (procedures_of played) (entries_near place near 0 played.pieces);
      numbers = each_all FitsInstr (program_code played) fit;
    }
