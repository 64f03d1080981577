-- Whether what a line says is inside its limits.
use Rattle.std.proofs.Common.{◌≡◌, ◌≤◌, ◌+◌, ◌/◌, ◌%◌, ◌^◌, ℕ, Bool, true, false, List, length, drop, refl, Option, inl, inr}
use Rattle.std.specs.Prelude.{not}
use Rattle.std.proofs.lemmas.Bool.{cases_eq, false≢true}
use Rattle.bit_list.specs.Digits.{bits_of_hex}
use Rattle.dev_card.specs.declared.desc.FlashDesc.{FlashDesc}
use Rattle.dev_card.specs.declared.desc.Desc.{Desc}
use Rattle.dev_card.specs.Descriptions.{IsOpcode, opcodes_of}
use Rattle.board_text.specs.Contents.{DeviceLine, RegisterLine}
use Rattle.board_text.specs.Limits.{IsMemoryInRange, IsOdd, HasGoodNumbers, IsDeviceInRange, IsConstant, HasGoodLength, IsRegisterInRange}
use Rattle.board_text.proofs.Decisions.{IsDecided, both_or_not, below_or_not, at_most_or_not, for_some_or_not, all_or_not}

-- a fact that is made of others, and gives them back
same_answer : {P Q : Type 0} → (P → Q) → (Q → P) → IsDecided P → IsDecided Q
same_answer f g (inl p) = inl (f p)
same_answer f g (inr n) = inr (λ q. n (g q))

pub opcode_or_not : (ir_len op : ℕ) → IsDecided (IsOpcode ir_len op)
opcode_or_not ir_len op = below_or_not (op + 1) (2 ^ ir_len)

within_or_not : (low n high : ℕ) → IsDecided ((low ≤ n) × (n ≤ high))
within_or_not low n high = both_or_not (at_most_or_not low n) (at_most_or_not n high)

memory_or_not : (f : FlashDesc) (fill : ℕ) → IsDecided (IsMemoryInRange f fill)
memory_or_not f fill = same_answer
    (λ h. record {
      good = record { some_words = h.0.0.0; most_words = h.0.0.1; some_width = h.0.1.0; most_width = h.0.1.1; most_busy = h.1.0 };
      bit = h.1.1;
    })
    (λ r. let g = r.good in (((g.some_words, g.most_words), (g.some_width, g.most_width)), (g.most_busy, r.bit)))
    (both_or_not (both_or_not (within_or_not 1 f.words 4096) (within_or_not 1 f.width 4096)) (both_or_not (at_most_or_not f.busy 1000000) (at_most_or_not fill 1)))

numbers_or_not : (l : DeviceLine) → IsDecided (HasGoodNumbers l)
numbers_or_not l = same_answer
    (λ h. record { shortest = h.0.0; longest = h.0.1; identity = h.1.0; memory = h.1.1 })
    (λ r. ((r.shortest, r.longest), (r.identity, r.memory)))
    (both_or_not (within_or_not 2 l.description.ir_len 64)
    (both_or_not (for_some_or_not l.description.id IsOdd (λ id. cases_eq (id.value % 2) 1))
    (for_some_or_not l.description.flash (λ (f : FlashDesc). IsMemoryInRange f l.fill) (λ f. memory_or_not f l.fill))))

pub device_in_range_or_not : (l : DeviceLine) → IsDecided (IsDeviceInRange l)
device_in_range_or_not l = same_answer
    (λ h. record { numbers = h.0; opcodes = h.1 })
    (λ r. (r.numbers, r.opcodes))
    (both_or_not (numbers_or_not l) (all_or_not (IsOpcode l.description.ir_len) (opcode_or_not l.description.ir_len) (opcodes_of l.description)))

true_or_not : (b : Bool) → IsDecided (b ≡ true)
true_or_not true = inl refl
true_or_not false = inr (λ e. false≢true e)

constant_or_not : (len : ℕ) (digits : List ℕ) → IsDecided (IsConstant len digits)
constant_or_not len digits = same_answer
    (λ h. record { whole = h.0; spare = h.1 })
    (λ r. (r.whole, r.spare))
    (both_or_not (cases_eq (length digits) ((len + 3) / 4)) (all_or_not (λ (b : Bool). not b ≡ true) (λ b. true_or_not (not b)) (drop len (bits_of_hex digits))))

pub good_length_or_not : (l : RegisterLine) → IsDecided (HasGoodLength l)
good_length_or_not l = same_answer
    (λ h. record { some = h.0.0; limit = h.0.1; constant = h.1 })
    (λ r. ((r.some, r.limit), r.constant))
    (both_or_not (within_or_not 1 l.description.len 65536) (for_some_or_not l.digits (IsConstant l.description.len) (constant_or_not l.description.len)))

pub register_in_range_or_not : (owner : Option Desc) (l : RegisterLine) → IsDecided (IsRegisterInRange owner l)
register_in_range_or_not owner l = same_answer
    (λ h. record { numbers = h.0; opcode = h.1 })
    (λ r. (r.numbers, r.opcode))
    (both_or_not (good_length_or_not l) (for_some_or_not owner (λ (d : Desc). IsOpcode d.ir_len l.description.op) (λ d. opcode_or_not d.ir_len l.description.op)))
