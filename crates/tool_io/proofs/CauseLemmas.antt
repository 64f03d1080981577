-- On counts of faults over several calls.
use Rattle.std.proofs.Common.{ℕ, ◌+◌, ◌-◌, ◌^◌, ◌≤◌, ◌⊎◌, inl, inr, List, Result, Ok, Err, arith}
use Rattle.std.proofs.lemmas.Bool.{cases_lt}
use Rattle.tool_io.specs.Causes.{CountRose, CountKept, CountCause, CountsKept, CountRoseAt, CountsCause, IsSaturated, raised_count}
use Rattle.tool_io.proofs.BytesLemmas.{on_err}

-- One count.

-- no call was made
pub kept_start : (now : ℕ) (last : Type 0) → CountKept now now last last
kept_start now last = record { later = omega arith; stays = λ h. h }

-- one call after another
pub kept_then : {a b c : ℕ} {last_a last_b last_c : Type 0} → CountKept a b last_a last_b → CountKept b c last_b last_c → CountKept a c last_a last_c
kept_then first second = record { later = omega arith; stays = λ h. second.stays (first.stays h) }

-- a count that rose after the first call
pub rose_after : {a b c : ℕ} {last_a last_b last_c : Type 0} → CountKept a b last_a last_b → CountRose b c last_c → CountRose a c last_c
rose_after first second = record { risen = elim second.risen [ inl h ↦ inl (omega arith) | inr h ↦ inr h ] }

-- the cause of any answer, where the count rose
pub cause_of_rose : {T E : Type 0} {a b : ℕ} {last_a last_b : Type 0} (result : Result T E) →
    CountKept a b last_a last_b → CountRose a b last_b → CountCause a b last_a last_b result
cause_of_rose result kept rose = record { kept = kept; failed = on_err result rose }

-- A count that is a sum, which stands at its last value where one part does.

pub sum_kept : {a b c d : ℕ} {last_a last_b last_c last_d : Type 0} → CountKept a b last_a last_b → CountKept c d last_c last_d →
    CountKept (a + c) (b + d) (last_a ⊎ last_c) (last_b ⊎ last_d)
sum_kept left right = record {
  later = omega arith;
  stays = λ h. elim h [ inl l ↦ inl (left.stays l) | inr r ↦ inr (right.stays r) ];
}

pub sum_rose_left : {a b c d : ℕ} {last_b last_c last_d : Type 0} → CountRose a b last_b → CountKept c d last_c last_d →
    CountRose (a + c) (b + d) (last_b ⊎ last_d)
sum_rose_left left right = record { risen = elim left.risen [ inl h ↦ inl (omega arith) | inr h ↦ inr (inl h) ] }

pub sum_rose_right : {a b c d : ℕ} {last_a last_b last_d : Type 0} → CountKept a b last_a last_b → CountRose c d last_d →
    CountRose (a + c) (b + d) (last_b ⊎ last_d)
sum_rose_right left right = record { risen = elim right.risen [ inl h ↦ inl (omega arith) | inr h ↦ inr (inr h) ] }

-- Counts of all names.

pub counts_start : (now : List ℕ → ℕ) (last : List ℕ → Type 0) → CountsKept now now last last
counts_start now last = record { later = λ name. omega arith; stays = λ name h. h }

pub counts_then : {a b c : List ℕ → ℕ} {last_a last_b last_c : List ℕ → Type 0} →
    CountsKept a b last_a last_b → CountsKept b c last_b last_c → CountsKept a c last_a last_c
counts_then first second = record {
  later = λ name. omega (arith, first.later name, second.later name);
  stays = λ name h. second.stays name (first.stays name h);
}

pub rose_after_at : {a b c : List ℕ → ℕ} {last_a last_b last_c : List ℕ → Type 0} {name : List ℕ} →
    CountsKept a b last_a last_b → CountRoseAt b c last_c name → CountRoseAt a c last_c name
rose_after_at {name = name} first second = record {
  risen = elim second.risen [ inl h ↦ inl (omega (arith, first.later name)) | inr h ↦ inr h ];
}

pub rose_before_at : {a b c : List ℕ → ℕ} {last_b last_c : List ℕ → Type 0} {name : List ℕ} →
    CountRoseAt a b last_b name → CountsKept b c last_b last_c → CountRoseAt a c last_c name
rose_before_at {name = name} first second = record {
  risen = elim first.risen [ inl h ↦ inl (omega (arith, second.later name)) | inr h ↦ inr (second.stays name h) ];
}

-- where the last of the calls fails
pub cause_after_at : {T E : Type 0} {a b c : List ℕ → ℕ} {last_a last_b last_c : List ℕ → Type 0} {name : List ℕ} {result : Result T E} →
    CountsKept a b last_a last_b → CountsCause b c last_b last_c name result → CountsCause a c last_a last_c name result
cause_after_at {result = Ok x} first second = record { kept = counts_then first second.kept; failed = tt }
cause_after_at {result = Err e} first second = record { kept = counts_then first second.kept; failed = rose_after_at first second.failed }

-- the cause of any answer, where the count of the name rose
pub cause_of_rose_at : {T E : Type 0} {a b : List ℕ → ℕ} {last_a last_b : List ℕ → Type 0} {name : List ℕ} (result : Result T E) →
    CountsKept a b last_a last_b → CountRoseAt a b last_b name → CountsCause a b last_a last_b name result
cause_of_rose_at result kept rose = record { kept = kept; failed = on_err result rose }

-- Counts of 64 bits.

pub saturated_kept : (count : ℕ) → count ≤ 2 ^ 64 - 1 → CountKept count (raised_count count) (IsSaturated count) (IsSaturated (raised_count count))
saturated_kept count bound = record { later = omega arith; stays = λ h. omega arith }

pub saturated_rose : (count : ℕ) → CountRose count (raised_count count) (IsSaturated (raised_count count))
saturated_rose count = record { risen = elim (cases_lt count (2 ^ 64 - 1)) [ inl h ↦ inl (omega arith) | inr h ↦ inr (omega arith) ] }
