-- Instructions that take integers alone.
use Rattle.std.proofs.Common.{◌≡◌, ℕ, zero, suc, ◌+◌, ◌-◌, ◌≤◌, Bool, true, false, List, [], ◌∷◌, ◌++◌, Option, Some, None, length, replicate, arith, refl, sym, ap, ◌∙◌}
use Rattle.stapl_meaning.specs.declared.waits.WaitKind.{WaitKind}
use Rattle.stapl_meaning.specs.declared.waits.WaitKind.TheVariants as waits
use Rattle.stapl_meaning.specs.declared.values.ValueKind.{ValueKind}
use Rattle.stapl_meaning.specs.declared.values.ValueKind.TheVariants as kinds
use Rattle.stapl_code.specs.declared.raw.VarDef.{VarDef}
use Rattle.base.specs.declared.item_list.ItemList.{ItemList}
use Rattle.stapl_code.specs.declared.instr.PrintPart.{PrintPart}
use Rattle.stapl_code.specs.declared.instr.ExportPart.{ExportPart}
use Rattle.stapl_code.specs.declared.instr.ExportPart.TheVariants as exports
use Rattle.stapl_code.specs.declared.instr.Source.{Source}
use Rattle.stapl_code.specs.declared.instr.Source.TheVariants as sources
use Rattle.stapl_code.specs.declared.instr.Dest.{Dest}
use Rattle.stapl_code.specs.declared.instr.Dest.TheVariants as dests
use Rattle.stapl_code.specs.declared.instr.Cell.{Cell}
use Rattle.stapl_code.specs.declared.instr.Cell.TheVariants as cells
use Rattle.stapl_code.specs.declared.instr.Compare.{Compare}
use Rattle.stapl_code.specs.declared.instr.Scan.{Scan}
use Rattle.stapl_code.specs.declared.instr.Instr.{Instr}
use Rattle.stapl_code.specs.declared.instr.Instr.TheVariants.{Store, StoreAt, Unary, Binary, ToInt, CopyBits, PushRecord, JumpIfZero, Print, Export, Scan as Scans, Pad, Wait, Frequency}
use Rattle.stapl_code.specs.Machine.{Slot, Of, source_slots, dest_slots, given_slots, target_slots, cell_slots, compare_slots, scan_slots, export_slots, wait_slots, frequency_slots, takes}
use Rattle.stapl_code.specs.Kinds.{then_kinds, taken_off, all_off}

-- these are integers
abbrev Integers : List Slot → Type 0
Integers [] = Unit {0}
Integers (Of kinds.Int ∷ slots) = Integers slots
Integers _ = ⊥

are_integers : (slots : List Slot) → Integers slots → slots ≡ replicate (length slots) (Of kinds.Int)
are_integers [] all = refl
are_integers (Of kinds.Int ∷ slots) all = ap (λ l. Of kinds.Int ∷ l) (are_integers slots all)
are_integers (_ ∷ slots) all = absurd all

both_integers : (first second : List Slot) → Integers first → Integers second → Integers (first ++ second)
both_integers [] second all more = more
both_integers (Of kinds.Int ∷ first) second all more = both_integers first second all more
both_integers (_ ∷ first) second all more = absurd all

source_integers : (source : Source) → Integers (source_slots source)
source_integers (sources.Literal n) = tt
source_integers (sources.Whole n) = tt
source_integers (sources.Range n) = tt
source_integers sources.FromInt = tt

dest_integers : (dest : Dest) (slots : List Slot) → Integers slots → Integers (dest_slots dest slots)
dest_integers (dests.Whole n) slots all = all
dest_integers (dests.Range n) slots all = all

given_integers : (source : Option Source) → Integers (given_slots source)
given_integers None = tt
given_integers (Some source) = source_integers source

target_integers : (target : Option Dest) → Integers (target_slots target)
target_integers None = tt
target_integers (Some dest) = dest_integers dest [] tt

cell_integers : (cell : Cell) → Integers (cell_slots cell)
cell_integers (cells.Scalar n) = tt
cell_integers (cells.Element n) = tt

compare_integers : (compare : Option Compare) → Integers (compare_slots compare)
compare_integers None = tt
compare_integers (Some c) =
    both_integers (source_slots c.expected) (source_slots c.mask ++ cell_slots c.cell) (source_integers c.expected)
    (both_integers (source_slots c.mask) (cell_slots c.cell) (source_integers c.mask) (cell_integers c.cell))

scan_integers : (scan : Scan) → Integers (scan_slots scan)
scan_integers scan =
    both_integers (source_slots scan.source) (target_slots scan.target ++ compare_slots scan.compare) (source_integers scan.source)
    (both_integers (target_slots scan.target) (compare_slots scan.compare) (target_integers scan.target) (compare_integers scan.compare))

wait_integers : (kind : WaitKind) → Integers (wait_slots kind)
wait_integers waits.Cycles = tt
wait_integers waits.Usec = tt
wait_integers waits.Both = tt

frequency_integers : (stated : Bool) → Integers (frequency_slots stated)
frequency_integers true = tt
frequency_integers false = tt

export_taken : (part : ExportPart) → (part ≡ exports.Bit → ⊥) → Integers (export_slots part)
export_taken exports.Int other = tt
export_taken exports.Bit other = absurd (other refl)
export_taken (exports.Array source) other = source_integers source

-- what no Boolean is exported from takes integers alone
pub export_integers : (part : ExportPart) → (part ≡ exports.Bit → ⊥) →
    export_slots part ≡ replicate (length (export_slots part)) (Of kinds.Int)
export_integers part other = are_integers (export_slots part) (export_taken part other)

-- an instruction that is none of these
module _
    (i : Instr) (store : (n : ℕ) → i ≡ Store n → ⊥) (store_at : (n : ℕ) → i ≡ StoreAt n → ⊥)
    (unary : (op : ℕ) → i ≡ Unary op → ⊥) (binary : (op : ℕ) → i ≡ Binary op → ⊥)
    (push_record : (kind : ValueKind) → i ≡ PushRecord kind → ⊥) (jump : (to : ℕ) → i ≡ JumpIfZero to → ⊥)
    (print : (list : ItemList PrintPart) → i ≡ Print list → ⊥) (export : (key : ℕ) (part : ExportPart) → i ≡ Export key part → ⊥)
  where
    taken : (j : Instr) → i ≡ j → Integers (takes j)
    taken (Store n) is = absurd (store n is)
    taken (StoreAt n) is = absurd (store_at n is)
    taken (Unary op) is = absurd (unary op is)
    taken (Binary op) is = absurd (binary op is)
    taken (PushRecord kind) is = absurd (push_record kind is)
    taken (JumpIfZero to) is = absurd (jump to is)
    taken (Print list) is = absurd (print list is)
    taken (Export key part) is = absurd (export key part is)
    taken (ToInt source) is = source_integers source
    taken (CopyBits dest source) is = dest_integers dest (source_slots source) (source_integers source)
    taken (Scans scan) is = scan_integers scan
    taken (Pad which source) is = given_integers source
    taken (Wait at kind last) is = wait_integers kind
    taken (Frequency stated) is = frequency_integers stated
    taken _ is = tt

    -- takes integers alone
    pub takes_integers : takes i ≡ replicate (length (takes i)) (Of kinds.Int)
    takes_integers = are_integers (takes i) (taken i refl)

module _ (variables : List VarDef) (ks : List ValueKind) where
  abbrev off_so_many : ℕ → Option (List ValueKind)
  off_so_many n = all_off variables (replicate n (Of kinds.Int)) ks

  one_more : (i : ℕ) → off_so_many (i + 1) ≡ then_kinds (off_so_many i) (taken_off (Some kinds.Int))
  one_more i = let next : i + 1 ≡ suc i = omega arith in ap off_so_many next

  -- another integer is taken off
  pub off_more : (i : ℕ) (left : List ValueKind) (o : Option (List ValueKind)) → off_so_many i ≡ Some left →
      taken_off (Some kinds.Int) left ≡ o → off_so_many (i + 1) ≡ o
  off_more i left o before e = one_more i ∙ ap (λ p. then_kinds p (taken_off (Some kinds.Int))) before ∙ e

  none_more : (some more : ℕ) → off_so_many some ≡ None → off_so_many (some + more) ≡ None
  none_more some zero e = let same : some + zero ≡ some = omega arith in ap off_so_many same ∙ e
  none_more some (suc more) e =
      let next : some + suc more ≡ some + more + 1 = omega arith in
      ap off_so_many next ∙ one_more (some + more) ∙ ap (λ p. then_kinds p (taken_off (Some kinds.Int))) (none_more some more e)

  -- where some are not there, neither are more
  pub off_none : (some n : ℕ) → some ≤ n → off_so_many some ≡ None → off_so_many n ≡ None
  off_none some n less e =
      let whole : some + (n - some) ≡ n = omega (arith, less) in ap off_so_many (sym whole) ∙ none_more some (n - some) e
