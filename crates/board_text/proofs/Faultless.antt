-- The devices of faultless lines: which facts hold of them, line by line.
use Rattle.std.proofs.Common.{◌≡◌, ◌≢◌, ◌<◌, ◌≤◌, ◌+◌, ◌-◌, ◌++◌, ℕ, suc, List, [], ◌∷◌, length, take, get_or, refl, sym, ap, subst, ◌∙◌, Option, Some, None, All, arith, inl, inr, slice_get}
use Rattle.std.specs.Prelude.{AllPairs, option_and_then}
use Rattle.std.specs.List.{Any}
use Rattle.std.proofs.Math.Seq.{take-suc, take-length}
use Rattle.std.proofs.lemmas.Bool.{cases_lt}
use Rattle.std.proofs.lemmas.List.{length-append, length-take-le, get_or-take, get_or_default, get_or_append_left, nil_from_length, take-append-le}
use Rattle.std.proofs.lemmas.List.Elements.{All-push}
use Rattle.std.proofs.lemmas.List.Quantifiers.{all_pairs_push}
use Rattle.std.proofs.lemmas.Option.{slice_get_within, slice_get-get_or, get_or_from_slice_get}
use Rattle.std.proofs.Math.Seq.{get_or-append_seam}
use Rattle.dev_card.specs.Board.{most_devices}
use Rattle.dev_card.specs.declared.desc.Kind.{Kind}
use Rattle.dev_card.specs.declared.desc.Kind.TheVariants as kinds
use Rattle.dev_card.specs.declared.desc.Desc.{Desc}
use Rattle.board_text.specs.Boards.{regs_only, open_device, HasName, AwaitsRegister}
use Rattle.board_text.proofs.GoodDevices.{IsBegun, HasRegisters}
use Rattle.board_text.proofs.ReasonLemmas.{owner_and}

-- facts of the devices of faultless lines
pub record AreBegun (ds : List Desc) : Type 0 where
  pub begun : All IsBegun ds
  -- each but the last has its registers
  pub whole : All HasRegisters (take (length ds - 1) ds)
  pub few : length ds ≤ most_devices
  pub names_apart : AllPairs (λ (a b : Desc). a.name ≢ b.name) ds

-- the last device, to which a register belongs
pub record IsLast (ds : List Desc) (d : Desc) : Type 0 where
  pub some : 0 < length ds
  pub kind : d.kind ≡ kinds.Regs
  pub split : ds ≡ take (length ds - 1) ds ++ d ∷ []

regs_at : (k : Kind) (x d : Desc) → x.kind ≡ k → regs_only k x ≡ Some d → (x ≡ d) × (d.kind ≡ kinds.Regs)
regs_at kinds.Plain x d k_is e = absurd cc
regs_at kinds.Flash x d k_is e = absurd cc
regs_at kinds.Regs x d k_is e = let same : x ≡ d = cc in (same, sym (ap (λ (y : Desc). y.kind) same) ∙ k_is)

last_at : (o : Option Desc) (d : Desc) → option_and_then (λ (x : Desc). regs_only x.kind x) o ≡ Some d → (o ≡ Some d) × (d.kind ≡ kinds.Regs)
last_at None d e = absurd cc
last_at (Some x) d e = let r = regs_at x.kind x d refl e in (ap (λ (y : Desc). Some y) r.0, r.1)

pub last_device : (ds : List Desc) (d : Desc) → open_device ds ≡ Some d → IsLast ds d
last_device ds d e =
    let at = last_at (slice_get ds (length ds - 1)) d e in
    let last : slice_get ds (length ds - 1) ≡ Some d = at.0 in
    let lt : length ds - 1 < length ds = slice_get_within ds (length ds - 1) d last in
    let all : suc (length ds - 1) ≡ length ds = omega arith in
    record {
      some = omega arith;
      kind = at.1;
      split = sym (take-length ds) ∙ ap (λ (k : ℕ). take k ds) (sym all) ∙ take-suc ds (length ds - 1) d lt
          ∙ ap (λ (x : Desc). take (length ds - 1) ds ++ x ∷ []) (get_or_from_slice_get ds (length ds - 1) d d last);
    }

regs_here : (k : Kind) (x : Desc) → k ≡ kinds.Regs → regs_only k x ≡ Some x
regs_here kinds.Plain x e = absurd cc
regs_here kinds.Regs x e = refl
regs_here kinds.Flash x e = absurd cc

pub open_last : (ds : List Desc) (k : ℕ) (e : Desc) → k < length ds → length ds ≤ k + 1 → (get_or ds k e).kind ≡ kinds.Regs → open_device ds ≡ Some (get_or ds k e)
open_last ds k e lt last kind_is =
    let place : length ds - 1 ≡ k = omega arith in
    ap (λ (i : ℕ). option_and_then (λ (x : Desc). regs_only x.kind x) (slice_get ds i)) place
    ∙ ap (option_and_then (λ (x : Desc). regs_only x.kind x)) (slice_get-get_or ds k e lt) ∙ regs_here (get_or ds k e).kind (get_or ds k e) kind_is

-- where the last device awaits no register, each has its registers
pub all_whole : (ds : List Desc) → All HasRegisters (take (length ds - 1) ds) → (AwaitsRegister ds → ⊥) → All HasRegisters ds
all_whole ds whole none k e lt = elim (cases_lt k (length ds - 1)) [
  | inl front ↦ let inside : k < length (take (length ds - 1) ds) = omega (arith, length-take-le (length ds - 1) ds (omega arith)) in
      subst HasRegisters (get_or-take (length ds - 1) ds k e front) (whole k e inside)
  | inr last ↦ (λ kind_is. elim (cases_lt 0 (length (get_or ds k e).registers)) [
    | inl some ↦ some
    | inr nil ↦
        absurd (none (owner_and (open_device ds) (λ (d : Desc). d.registers ≡ []) (get_or ds k e) (open_last ds k e lt (omega arith) kind_is)
        (nil_from_length (get_or ds k e).registers (omega arith))))
  ])
]

fresh_name : (ds : List Desc) (d : Desc) → (Any (HasName d.name) ds → ⊥) → (k : ℕ) (e : Desc) → k < length ds → (get_or ds k e).name ≢ d.name
fresh_name ds d fresh k e lt same = fresh (k, get_or ds k e, lt, get_or_default ds k (get_or ds k e) e lt, same)

-- the devices before the last one
pub take_front : (front : List Desc) (x : Desc) → take (length (front ++ x ∷ []) - 1) (front ++ x ∷ []) ≡ front
take_front front x =
    let place : length (front ++ x ∷ []) - 1 ≡ length front = omega (arith, length-append front (x ∷ [])) in
    ap (λ (k : ℕ). take k (front ++ x ∷ [])) place ∙ take-append-le (length front) front (x ∷ []) (omega arith) ∙ take-length front

-- one more device
pub more_devices : (ds : List Desc) (d : Desc) → AreBegun ds → IsBegun d → (AwaitsRegister ds → ⊥) → (Any (HasName d.name) ds → ⊥) → length ds < most_devices → AreBegun (ds ++ d ∷ [])
more_devices ds d old begun none fresh few =
    let len : length (ds ++ d ∷ []) ≡ length ds + 1 = length-append ds (d ∷ []) in
    record {
      begun = All-push IsBegun ds d old.begun begun;
      whole = subst (All HasRegisters) (sym (take_front ds d)) (all_whole ds old.whole none);
      few = omega arith;
      names_apart = all_pairs_push (λ (a b : Desc). a.name ≢ b.name) ds d old.names_apart (fresh_name ds d fresh);
    }

-- one more register of the last device
pub more_of_last : (front : List Desc) (d e : Desc) → AreBegun (front ++ d ∷ []) → IsBegun e → d.name ≡ e.name → AreBegun (front ++ e ∷ [])
more_of_last front d e old begun same =
    let dlen : length (front ++ d ∷ []) ≡ length front + 1 = length-append front (d ∷ []) in
    let elen : length (front ++ e ∷ []) ≡ length front + 1 = length-append front (e ∷ []) in
    let kept : (k : ℕ) (x : Desc) → k < length front → get_or (front ++ d ∷ []) k x ≡ get_or front k x = λ k x lt. get_or_append_left front (d ∷ []) x k lt in
    let last : (x : Desc) → get_or (front ++ d ∷ []) (length front) x ≡ d = λ x. get_or-append_seam front d [] x in
    record {
      begun = All-push IsBegun front e (λ k x lt. subst IsBegun (kept k x lt) (old.begun k x (omega arith))) begun;
      whole = subst (All HasRegisters) (sym (take_front front e)) (subst (All HasRegisters) (take_front front d) old.whole);
      few = omega (arith, old.few);
      names_apart = all_pairs_push (λ (a b : Desc). a.name ≢ b.name) front e
          (λ i j x lt inside. subst (λ (b : Desc). (get_or front i x).name ≢ b.name) (kept j x inside)
          (subst (λ (a : Desc). a.name ≢ (get_or (front ++ d ∷ []) j x).name) (kept i x (omega arith)) (old.names_apart i j x lt (omega arith))))
          (λ k x lt equal. old.names_apart k (length front) x lt (omega arith) (ap (λ (a : Desc). a.name) (kept k x lt) ∙ equal ∙ sym same ∙ sym (ap (λ (a : Desc). a.name) (last x))));
    }
