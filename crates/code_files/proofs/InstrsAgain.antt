-- An instruction that was written is read again.
use Rattle.std.proofs.Common.{◌≡◌, ◌≤◌, ◌<◌, ◌^◌, ◌+◌, ℕ, List, ◌∷◌, ◌++◌, length, Ok, refl, ap, ◌∙◌, append_assoc, arith}
use Rattle.std.specs.Prelude.{slice_get}
use Rattle.std.specs.Int.{w32}
use Rattle.std.specs.Int.RustNames.{FitsSigned}
use Rattle.tap_states.specs.Tap.{tap_number}
use Rattle.stapl_code.specs.Ranges.{IsPart, IsInstr, size_of}
use Rattle.stapl_code.specs.Fields.{number, integer, counted}
use Rattle.stapl_code.specs.Instrs.{source, dest, part, export_part, register_number, kind_number, wait_number, flag_number, if_given, given, scan, padding, state, instr, IsCountableInstr, FitsInstr}
use Rattle.code_files.specs.Reading.{listed_in, any_end}
use Rattle.code_files.specs.ReadInstrs.{with_number, row, register_at, padding_at, kind_at, wait_at, flag_at, state_at, integer_at, given_at, part_at, source_at, dest_at, export_part_at, scan_at, instr_table, instr_at}
use Rattle.code_files.proofs.FieldsAgain.{with_number_from_again, with_number_again, with_byte_again, tagged_again}
use Rattle.code_files.proofs.PartsAgain.{made_again, followed_again, each_again, integer_again, register_again, padding_again, kind_again, wait_again, flag_again, state_again, part_again, source_again, dest_again, export_again, given_source_again, scan_again}
use Rattle.stapl_code.specs.declared.instr.Instr.{Instr}
use Rattle.stapl_code.specs.declared.instr.Instr.TheVariants.{Turn, Push, PushBit, Load, LoadAt, CheckIndex, CheckRange, Store, StoreAt, Unary, Binary, ToInt, CopyBits, SetBits, SetInts, For, Next, PushRecord, PopRecord, Call, Jump, JumpIfZero, EndProc, Print, Export, CheckChar, Exit, Scan as Scans, Stop, Pad, State as GoThrough, Wait, Frequency}
use Rattle.stapl_code.specs.declared.raw.VarDef.{VarDef}

-- the lists of a code are short enough that their items are named by four bytes
pub record AreFew (variables : List VarDef) (literals texts procedures : ℕ) : Type 0 where
  pub few_variables : length variables ≤ 2 ^ 32
  pub few_literals : literals ≤ 2 ^ 32
  pub few_texts : texts ≤ 2 ^ 32
  pub few_procedures : procedures ≤ 2 ^ 32
  pub few_sizes : (n : ℕ) → size_of (slice_get variables n) < 2 ^ 32

module _ (variables : List VarDef) (literals texts procedures : ℕ) (few : AreFew variables literals texts procedures) where
  pub instr_again : (x : Instr) (rest : List ℕ) → IsInstr variables literals texts procedures x → IsCountableInstr x → FitsInstr x
      → instr_at variables literals texts procedures (instr x ++ rest) ≡ Ok (x, rest)
  instr_again (Turn n) rest h counted_few fits = tagged_again 1 _ 1 (number n ++ rest) refl ∙ with_number_from_again 1 100001 Turn n rest (omega arith) h.0 (omega arith)
  instr_again (Push z) rest h counted_few fits = tagged_again 1 _ 2 (integer z ++ rest) refl ∙ made_again Push integer_at (integer z ++ rest) z rest (integer_again z rest fits)
  instr_again (PushBit b) rest h counted_few fits = tagged_again 1 _ 3 (b ∷ rest) refl ∙ with_byte_again 2 PushBit b rest (omega arith)
  instr_again (Load n) rest h counted_few fits = tagged_again 1 _ 4 (number n ++ rest) refl ∙ with_number_again (length variables) Load n rest few.few_variables h
  instr_again (LoadAt n) rest h counted_few fits = tagged_again 1 _ 5 (number n ++ rest) refl ∙ with_number_again (length variables) LoadAt n rest few.few_variables h
  instr_again (CheckIndex n) rest h counted_few fits = tagged_again 1 _ 6 (number n ++ rest) refl ∙ with_number_again (length variables) CheckIndex n rest few.few_variables h
  instr_again (CheckRange n) rest h counted_few fits = tagged_again 1 _ 7 (number n ++ rest) refl ∙ with_number_again (length variables) CheckRange n rest few.few_variables h
  instr_again (Store n) rest h counted_few fits = tagged_again 1 _ 8 (number n ++ rest) refl ∙ with_number_again (length variables) Store n rest few.few_variables h
  instr_again (StoreAt n) rest h counted_few fits = tagged_again 1 _ 9 (number n ++ rest) refl ∙ with_number_again (length variables) StoreAt n rest few.few_variables h
  instr_again (Unary op) rest h counted_few fits = tagged_again 1 _ 10 (op ∷ rest) refl ∙ with_byte_again 4 Unary op rest h
  instr_again (Binary op) rest h counted_few fits = tagged_again 1 _ 11 (op ∷ rest) refl ∙ with_byte_again 23 Binary op rest h
  instr_again (ToInt s) rest h counted_few fits = tagged_again 1 _ 12 (source s ++ rest) refl ∙ made_again ToInt (source_at (length variables) literals)
      (source s ++ rest) s rest (source_again (length variables) literals s rest few.few_variables few.few_literals h)
  instr_again (CopyBits d s) rest h counted_few fits =
      let regrouped : dest d ++ source s ++ rest ≡ dest d ++ (source s ++ rest) = append_assoc (dest d) (source s) rest in
      tagged_again 1 _ 13 (dest d ++ source s ++ rest) refl ∙ ap (row (slice_get (instr_table variables literals texts procedures) 12)) regrouped
      ∙ followed_again (dest_at (length variables)) _ (dest d ++ (source s ++ rest)) d (source s ++ rest) (dest_again (length variables) d (source s ++ rest) few.few_variables h.0)
      ∙ made_again (CopyBits d) (source_at (length variables) literals) (source s ++ rest) s rest (source_again (length variables) literals s rest few.few_variables few.few_literals h.1)
  instr_again (SetBits n literal) rest h counted_few fits =
      tagged_again 1 _ 14 (number n ++ (number literal ++ rest)) refl
      ∙ followed_again (with_number (length variables) (λ n. n)) _ (number n ++ (number literal ++ rest)) n (number literal ++ rest)
      (with_number_again (length variables) (λ n. n) n (number literal ++ rest) few.few_variables h.0)
      ∙ with_number_again literals (SetBits n) literal rest few.few_literals h.1
  instr_again (SetInts n values) rest h counted_few fits =
      let end = size_of (slice_get variables n) + 1 in
      tagged_again 1 _ 15 (number n ++ (counted integer values ++ rest)) refl
      ∙ followed_again (with_number (length variables) (λ n. n)) _ (number n ++ (counted integer values ++ rest)) n (counted integer values ++ rest)
      (with_number_again (length variables) (λ n. n) n (counted integer values ++ rest) few.few_variables h.0)
      ∙ made_again (SetInts n) (listed_in (λ _. integer_at) 1 end) (counted integer values ++ rest) values rest
      (each_again integer_at integer (FitsSigned w32) integer_again 1 end values rest (omega (arith, few.few_sizes n)) h.1 (omega (arith, h.2)) fits)
  instr_again (Jump to) rest h counted_few fits = tagged_again 1 _ 16 (number to ++ rest) refl ∙ with_number_again any_end Jump to rest (omega arith) fits
  instr_again (JumpIfZero to) rest h counted_few fits = tagged_again 1 _ 17 (number to ++ rest) refl ∙ with_number_again any_end JumpIfZero to rest (omega arith) fits
  instr_again (For n body) rest h counted_few fits =
      tagged_again 1 _ 18 (number n ++ (number body ++ rest)) refl
      ∙ followed_again (with_number (length variables) (λ n. n)) _ (number n ++ (number body ++ rest)) n (number body ++ rest)
      (with_number_again (length variables) (λ n. n) n (number body ++ rest) few.few_variables h)
      ∙ with_number_again any_end (For n) body rest (omega arith) fits
  instr_again (Next n) rest h counted_few fits = tagged_again 1 _ 19 (number n ++ rest) refl ∙ with_number_again (length variables) Next n rest few.few_variables h
  instr_again (PushRecord kind) rest h counted_few fits = tagged_again 1 _ 20 (kind_number kind ∷ rest) refl ∙ made_again PushRecord kind_at (kind_number kind ∷ rest) kind rest (kind_again kind rest)
  instr_again (PopRecord kind) rest h counted_few fits = tagged_again 1 _ 21 (kind_number kind ∷ rest) refl ∙ made_again PopRecord kind_at (kind_number kind ∷ rest) kind rest (kind_again kind rest)
  instr_again (Call n) rest h counted_few fits = tagged_again 1 _ 22 (number n ++ rest) refl ∙ with_number_again procedures Call n rest few.few_procedures h
  instr_again EndProc rest h counted_few fits = tagged_again 1 _ 23 rest refl
  instr_again (Print list) rest h counted_few fits =
      tagged_again 1 _ 24 (counted part list ++ rest) refl
      ∙ made_again Print (listed_in (λ _. part_at texts) 1 any_end) (counted part list ++ rest) list rest
      (each_again (part_at texts) part (IsPart texts) (λ p r. part_again texts p r few.few_texts) 1 any_end list rest (omega arith) h.0 counted_few h.1)
  instr_again CheckChar rest h counted_few fits = tagged_again 1 _ 25 rest refl
  instr_again (Export key what) rest h counted_few fits =
      tagged_again 1 _ 26 (number key ++ (export_part what ++ rest)) refl
      ∙ followed_again (with_number texts (λ n. n)) _ (number key ++ (export_part what ++ rest)) key (export_part what ++ rest)
      (with_number_again texts (λ n. n) key (export_part what ++ rest) few.few_texts h.0)
      ∙ made_again (Export key) (export_part_at (length variables) literals) (export_part what ++ rest) what rest
      (export_again (length variables) literals what rest few.few_variables few.few_literals h.1)
  instr_again Exit rest h counted_few fits = tagged_again 1 _ 27 rest refl
  instr_again (Scans s) rest h counted_few fits = tagged_again 1 _ 28 (scan s ++ rest) refl ∙ made_again Scans (scan_at (length variables) literals)
      (scan s ++ rest) s rest (scan_again (length variables) literals s rest few.few_variables few.few_literals h)
  instr_again (Stop register t) rest h counted_few fits =
      tagged_again 1 _ 29 (register_number register ∷ tap_number t ∷ rest) refl
      ∙ followed_again register_at _ (register_number register ∷ tap_number t ∷ rest) register (tap_number t ∷ rest) (register_again register (tap_number t ∷ rest))
      ∙ made_again (Stop register) state_at (tap_number t ∷ rest) t rest (state_again t rest)
  instr_again (Pad which bits) rest h counted_few fits =
      tagged_again 1 _ 30 (padding which bits ++ rest) refl
      ∙ followed_again padding_at _ (padding which bits ++ rest) which (if_given 1 bits ∷ given source bits ++ rest) (padding_again which (if_given 1 bits ∷ given source bits ++ rest))
      ∙ made_again (Pad which) (given_at (source_at (length variables) literals)) (if_given 1 bits ∷ given source bits ++ rest) bits rest
      (given_source_again (length variables) literals bits rest few.few_variables few.few_literals h)
  instr_again (GoThrough states) rest h counted_few fits =
      tagged_again 1 _ 31 (counted state states ++ rest) refl
      ∙ made_again GoThrough (listed_in (λ _. state_at) 1 any_end) (counted state states ++ rest) states rest
      (each_again state_at state (λ _. Unit {0}) (λ t r _. state_again t r) 1 any_end states rest (omega arith) h counted_few (λ k d lt. tt))
  instr_again (Wait at counts last) rest h counted_few fits =
      tagged_again 1 _ 32 (tap_number at ∷ wait_number counts ∷ tap_number last ∷ rest) refl
      ∙ followed_again state_at _ (tap_number at ∷ wait_number counts ∷ tap_number last ∷ rest) at (wait_number counts ∷ tap_number last ∷ rest)
      (state_again at (wait_number counts ∷ tap_number last ∷ rest))
      ∙ followed_again wait_at _ (wait_number counts ∷ tap_number last ∷ rest) counts (tap_number last ∷ rest) (wait_again counts (tap_number last ∷ rest))
      ∙ made_again (Wait at counts) state_at (tap_number last ∷ rest) last rest (state_again last rest)
  instr_again (Frequency stated) rest h counted_few fits = tagged_again 1 _ 33 (flag_number stated ∷ rest) refl ∙ made_again Frequency flag_at
      (flag_number stated ∷ rest) stated rest (flag_again stated rest)
