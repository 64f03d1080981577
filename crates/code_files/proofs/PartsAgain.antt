-- The parts of an instruction that were written are read again.
use Rattle.std.proofs.Common.{◌≡◌, ◌≤◌, ◌<◌, ◌^◌, ◌+◌, ℕ, ℤ, Bool, true, false, List, [], ◌∷◌, ◌++◌, length, All, Option, Some, None, Result, Ok, refl, ap, ◌∙◌, append_assoc, arith}
use Rattle.std.specs.Int.{w32, cast_signed, cast_unsigned}
use Rattle.std.specs.Int.RustNames.{FitsSigned}
use Rattle.std.specs.List.{AllByRecursion}
use Rattle.std.proofs.lemmas.Int.{to_z-of_z}
use Rattle.std.proofs.lemmas.List.Elements.{recursion_from_All}
use Rattle.std.proofs.Math.Facts.{Fits-of_z}
use Rattle.tap_states.specs.Tap.{tap_number}
use Rattle.stapl_code.specs.Ranges.{IsPart, IsSource, IsExport, IsDest, IsGiven, IsCell, IsCompare, IsScan}
use Rattle.code_files.specs.declared.fault.Fault.{Fault}
use Rattle.stapl_code.specs.Fields.{number, integer, counted}
use Rattle.stapl_code.specs.Instrs.{source, dest, cell, part, export_part, register_number, padding_number, kind_number, wait_number, flag_number, if_given, given, compare, scan_flags, scan}
use Rattle.code_files.specs.Reading.{◌>>=◌, listed_in, any_end}
use Rattle.code_files.specs.ReadInstrs.{Reads, made_of, followed, register_at, padding_at, kind_at, wait_at, flag_at, state_at, integer_at, given_at, part_at, source_at, dest_at, cell_at, export_part_at, compare_at, scan_parts_at, scan_at}
use Rattle.code_files.proofs.FieldsAgain.{with_number_again, tagged_again, AllAfter, listed_again}
use Rattle.tap_states.specs.declared.Tap.{Tap}
use Rattle.tap_states.specs.declared.Tap.TheVariants as taps
use Rattle.stapl_lexer.specs.declared.terminal.Register.{Register}
use Rattle.stapl_lexer.specs.declared.terminal.Register.TheVariants as registers
use Rattle.stapl_lexer.specs.declared.terminal.Padding.{Padding}
use Rattle.stapl_lexer.specs.declared.terminal.Padding.TheVariants as paddings
use Rattle.stapl_meaning.specs.declared.values.ValueKind.{ValueKind}
use Rattle.stapl_meaning.specs.declared.values.ValueKind.TheVariants as kinds
use Rattle.stapl_meaning.specs.declared.waits.WaitKind.{WaitKind}
use Rattle.stapl_meaning.specs.declared.waits.WaitKind.TheVariants as waits
use Rattle.stapl_code.specs.declared.instr.PrintPart.{PrintPart}
use Rattle.stapl_code.specs.declared.instr.PrintPart.TheVariants as parts
use Rattle.stapl_code.specs.declared.instr.ExportPart.{ExportPart}
use Rattle.stapl_code.specs.declared.instr.ExportPart.TheVariants as exports
use Rattle.stapl_code.specs.declared.instr.Source.{Source}
use Rattle.stapl_code.specs.declared.instr.Source.TheVariants as sources
use Rattle.stapl_code.specs.declared.instr.Dest.{Dest}
use Rattle.stapl_code.specs.declared.instr.Dest.TheVariants as dests
use Rattle.stapl_code.specs.declared.instr.Cell.{Cell}
use Rattle.stapl_code.specs.declared.instr.Cell.TheVariants as cells
use Rattle.stapl_code.specs.declared.instr.Compare.{Compare}
use Rattle.stapl_code.specs.declared.instr.Scan.{Scan}

pub made_again : {A B : Type 0} (made : A → B) (reads : Reads A) (bytes : List ℕ) (x : A) (rest : List ℕ) → reads bytes ≡ Ok (x, rest) → made_of made reads bytes ≡ Ok (made x, rest)
made_again {A} made reads bytes x rest h = ap (λ (r : Result (A × List ℕ) Fault). r >>= λ y. Ok (made y.0, y.1)) h

pub followed_again : {A B : Type 0} (first : Reads A) (second : A → Reads B) (bytes : List ℕ) (x : A) (rest : List ℕ) → first bytes ≡ Ok (x, rest) → followed first second bytes ≡ second x rest
followed_again {A} first second bytes x rest h = ap (λ (r : Result (A × List ℕ) Fault). r >>= λ y. second y.0 y.1) h

all_after : {A : Type 0} (P : A → Type 0) (earlier xs : List A) → AllByRecursion P xs → AllAfter (λ _. P) earlier xs
all_after P earlier [] all = tt
all_after P earlier (x ∷ xs) all = (all.0, all_after P (earlier ++ x ∷ []) xs all.1)

-- items that do not depend on those before them
pub each_again : {A : Type 0} (item : Reads A) (spell : A → List ℕ) (P : A → Type 0) → ((x : A) (rest : List ℕ) → P x → item (spell x ++ rest) ≡ Ok (x, rest))
    → (low end : ℕ) (xs : List A) (rest : List ℕ) → end ≤ 2 ^ 32 → low ≤ length xs → length xs < end → All P xs
    → listed_in (λ _. item) low end (counted spell xs ++ rest) ≡ Ok (xs, rest)
each_again item spell P again low end xs rest wide least most all =
    listed_again (λ _. item) spell (λ _. P) (λ _. again) low end xs rest wide least most (all_after P [] xs (recursion_from_All P xs all))

pub integer_again : (z : ℤ) (rest : List ℕ) → FitsSigned w32 z → integer_at (integer z ++ rest) ≡ Ok (z, rest)
integer_again z rest fits =
    with_number_again any_end (cast_signed w32) (cast_unsigned w32 z) rest (omega arith) (Fits-of_z fits).fits ∙ ap (λ (y : ℤ). Ok (y, rest)) (to_z-of_z w32 z fits)

pub register_again : (register : Register) (rest : List ℕ) → register_at (register_number register ∷ rest) ≡ Ok (register, rest)
register_again registers.Data rest = tagged_again 0 _ 0 rest refl
register_again registers.Instruction rest = tagged_again 0 _ 1 rest refl

pub padding_again : (which : Padding) (rest : List ℕ) → padding_at (padding_number which ∷ rest) ≡ Ok (which, rest)
padding_again paddings.PreData rest = tagged_again 0 _ 0 rest refl
padding_again paddings.PostData rest = tagged_again 0 _ 1 rest refl
padding_again paddings.PreInstruction rest = tagged_again 0 _ 2 rest refl
padding_again paddings.PostInstruction rest = tagged_again 0 _ 3 rest refl

pub kind_again : (kind : ValueKind) (rest : List ℕ) → kind_at (kind_number kind ∷ rest) ≡ Ok (kind, rest)
kind_again kinds.Int rest = tagged_again 0 _ 0 rest refl
kind_again kinds.Bit rest = tagged_again 0 _ 1 rest refl

pub wait_again : (counts : WaitKind) (rest : List ℕ) → wait_at (wait_number counts ∷ rest) ≡ Ok (counts, rest)
wait_again waits.Cycles rest = tagged_again 1 _ 1 rest refl
wait_again waits.Usec rest = tagged_again 1 _ 2 rest refl
wait_again waits.Both rest = tagged_again 1 _ 3 rest refl

pub flag_again : (stated : Bool) (rest : List ℕ) → flag_at (flag_number stated ∷ rest) ≡ Ok (stated, rest)
flag_again false rest = tagged_again 0 _ 0 rest refl
flag_again true rest = tagged_again 0 _ 1 rest refl

pub state_again : (t : Tap) (rest : List ℕ) → state_at (tap_number t ∷ rest) ≡ Ok (t, rest)
state_again taps.Reset rest = tagged_again 0 _ 0 rest refl
state_again taps.Idle rest = tagged_again 0 _ 1 rest refl
state_again taps.DrSelect rest = tagged_again 0 _ 2 rest refl
state_again taps.DrCapture rest = tagged_again 0 _ 3 rest refl
state_again taps.DrShift rest = tagged_again 0 _ 4 rest refl
state_again taps.DrExit1 rest = tagged_again 0 _ 5 rest refl
state_again taps.DrPause rest = tagged_again 0 _ 6 rest refl
state_again taps.DrExit2 rest = tagged_again 0 _ 7 rest refl
state_again taps.DrUpdate rest = tagged_again 0 _ 8 rest refl
state_again taps.IrSelect rest = tagged_again 0 _ 9 rest refl
state_again taps.IrCapture rest = tagged_again 0 _ 10 rest refl
state_again taps.IrShift rest = tagged_again 0 _ 11 rest refl
state_again taps.IrExit1 rest = tagged_again 0 _ 12 rest refl
state_again taps.IrPause rest = tagged_again 0 _ 13 rest refl
state_again taps.IrExit2 rest = tagged_again 0 _ 14 rest refl
state_again taps.IrUpdate rest = tagged_again 0 _ 15 rest refl

pub part_again : (n : ℕ) (p : PrintPart) (rest : List ℕ) → n ≤ 2 ^ 32 → IsPart n p → part_at n (part p ++ rest) ≡ Ok (p, rest)
part_again n (parts.Text m) rest few h = tagged_again 0 _ 0 (number m ++ rest) refl ∙ with_number_again n parts.Text m rest few h
part_again n parts.Int rest few h = tagged_again 0 _ 1 rest refl
part_again n parts.Bit rest few h = tagged_again 0 _ 2 rest refl
part_again n parts.Char rest few h = tagged_again 0 _ 3 rest refl

pub source_again : (v l : ℕ) (s : Source) (rest : List ℕ) → v ≤ 2 ^ 32 → l ≤ 2 ^ 32 → IsSource v l s → source_at v l (source s ++ rest) ≡ Ok (s, rest)
source_again v l (sources.Literal n) rest wv wl h = tagged_again 0 _ 0 (number n ++ rest) refl ∙ with_number_again l sources.Literal n rest wl h
source_again v l (sources.Whole n) rest wv wl h = tagged_again 0 _ 1 (number n ++ rest) refl ∙ with_number_again v sources.Whole n rest wv h
source_again v l (sources.Range n) rest wv wl h = tagged_again 0 _ 2 (number n ++ rest) refl ∙ with_number_again v sources.Range n rest wv h
source_again v l sources.FromInt rest wv wl h = tagged_again 0 _ 3 rest refl

pub dest_again : (v : ℕ) (d : Dest) (rest : List ℕ) → v ≤ 2 ^ 32 → IsDest v d → dest_at v (dest d ++ rest) ≡ Ok (d, rest)
dest_again v (dests.Whole n) rest wv h = tagged_again 1 _ 1 (number n ++ rest) refl ∙ with_number_again v dests.Whole n rest wv h
dest_again v (dests.Range n) rest wv h = tagged_again 1 _ 2 (number n ++ rest) refl ∙ with_number_again v dests.Range n rest wv h

cell_again : (v : ℕ) (x : Cell) (rest : List ℕ) → v ≤ 2 ^ 32 → IsCell v x → cell_at v (cell x ++ rest) ≡ Ok (x, rest)
cell_again v (cells.Scalar n) rest wv h = tagged_again 0 _ 0 (number n ++ rest) refl ∙ with_number_again v cells.Scalar n rest wv h
cell_again v (cells.Element n) rest wv h = tagged_again 0 _ 1 (number n ++ rest) refl ∙ with_number_again v cells.Element n rest wv h

pub export_again : (v l : ℕ) (x : ExportPart) (rest : List ℕ) → v ≤ 2 ^ 32 → l ≤ 2 ^ 32 → IsExport v l x → export_part_at v l (export_part x ++ rest) ≡ Ok (x, rest)
export_again v l exports.Int rest wv wl h = tagged_again 0 _ 0 rest refl
export_again v l exports.Bit rest wv wl h = tagged_again 0 _ 1 rest refl
export_again v l (exports.Array s) rest wv wl h =
    tagged_again 0 _ 2 (source s ++ rest) refl ∙ made_again exports.Array (source_at v l) (source s ++ rest) s rest (source_again v l s rest wv wl h)

pub given_source_again : (v l : ℕ) (bits : Option Source) (rest : List ℕ) → v ≤ 2 ^ 32 → l ≤ 2 ^ 32 → IsGiven (IsSource v l) bits
    → given_at (source_at v l) (if_given 1 bits ∷ given source bits ++ rest) ≡ Ok (bits, rest)
given_source_again v l None rest wv wl h = tagged_again 0 _ 0 rest refl
given_source_again v l (Some s) rest wv wl h =
    tagged_again 0 _ 1 (source s ++ rest) refl ∙ made_again Some (source_at v l) (source s ++ rest) s rest (source_again v l s rest wv wl h)

compare_again : (v l : ℕ) (c : Compare) (rest : List ℕ) → v ≤ 2 ^ 32 → l ≤ 2 ^ 32 → IsCompare v l c → compare_at v l (compare c ++ rest) ≡ Ok (c, rest)
compare_again v l c rest wv wl h =
    let regrouped : compare c ++ rest ≡ source c.expected ++ (source c.mask ++ (cell c.cell ++ rest)) = simp append_assoc in
    ap (compare_at v l) regrouped
    ∙ followed_again (source_at v l) _ (source c.expected ++ (source c.mask ++ (cell c.cell ++ rest))) c.expected _
    (source_again v l c.expected (source c.mask ++ (cell c.cell ++ rest)) wv wl h.expected)
    ∙ followed_again (source_at v l) _ (source c.mask ++ (cell c.cell ++ rest)) c.mask _ (source_again v l c.mask (cell c.cell ++ rest) wv wl h.mask)
    ∙ made_again (λ x. record { expected = c.expected; mask = c.mask; cell = x }) (cell_at v) (cell c.cell ++ rest) c.cell rest (cell_again v c.cell rest wv h.cell)

scan_parts_again : (v l : ℕ) (register : Register) (bits : Source) (target : Option Dest) (compared : Option Compare) (rest : List ℕ) → v ≤ 2 ^ 32 → l ≤ 2 ^ 32
    → IsGiven (IsDest v) target → IsGiven (IsCompare v l) compared
    → scan_parts_at v l register bits ((if_given 1 target + if_given 2 compared) ∷ (given dest target ++ (given compare compared ++ rest)))
    ≡ Ok (record { register = register; source = bits; target = target; compare = compared }, rest)
scan_parts_again v l register bits None None rest wv wl h g = tagged_again 0 _ 0 rest refl
scan_parts_again v l register bits (Some d) None rest wv wl h g =
    tagged_again 0 _ 1 (dest d ++ rest) refl
    ∙ made_again (λ target. record { register = register; source = bits; target = Some target; compare = None }) (dest_at v) (dest d ++ rest) d rest (dest_again v d rest wv h)
scan_parts_again v l register bits None (Some c) rest wv wl h g =
    tagged_again 0 _ 2 (compare c ++ rest) refl
    ∙ made_again (λ compare. record { register = register; source = bits; target = None; compare = Some compare }) (compare_at v l) (compare c ++ rest) c rest (compare_again v l c rest wv wl g)
scan_parts_again v l register bits (Some d) (Some c) rest wv wl h g =
    tagged_again 0 _ 3 (dest d ++ (compare c ++ rest)) refl
    ∙ followed_again (dest_at v) _ (dest d ++ (compare c ++ rest)) d (compare c ++ rest) (dest_again v d (compare c ++ rest) wv h)
    ∙ made_again (λ compare. record { register = register; source = bits; target = Some d; compare = Some compare }) (compare_at v l) (compare c ++ rest) c rest (compare_again v l c rest wv wl g)

pub scan_again : (v l : ℕ) (s : Scan) (rest : List ℕ) → v ≤ 2 ^ 32 → l ≤ 2 ^ 32 → IsScan v l s → scan_at v l (scan s ++ rest) ≡ Ok (s, rest)
scan_again v l s rest wv wl h =
    let parts = scan_flags s ∷ (given dest s.target ++ (given compare s.compare ++ rest)) in
    let regrouped : scan s ++ rest ≡ register_number s.register ∷ (source s.source ++ parts) = simp append_assoc in
    ap (scan_at v l) regrouped
    ∙ followed_again register_at _ (register_number s.register ∷ (source s.source ++ parts)) s.register (source s.source ++ parts) (register_again s.register (source s.source ++ parts))
    ∙ followed_again (source_at v l) _ (source s.source ++ parts) s.source parts (source_again v l s.source parts wv wl h.source)
    ∙ scan_parts_again v l s.register s.source s.target s.compare rest wv wl h.target h.compare
