-- What leads from a cable to one over the same is as the meaning of a cable must be.
use Rattle.std.proofs.Common.{◌≡◌, ◌≤◌, ◌+◌, ℕ, Bool, false, List, [], ◌∷◌, ◌++◌, length, Option, None, Some, refl, sym, ap, subst, ◌∙◌, arith}
use Rattle.std.proofs.lemmas.List.{length-append}
use Rattle.scan_paths.specs.Cables.{Signal, Pulses, Waits, Tunes, Breakage, whole}
use Rattle.tap_states.specs.Tap.{next_of}
use Rattle.scan_accounts.specs.ShiftRuns.{ShiftRun, shifting}
use Rattle.scan_accounts.specs.Rooms.{bits_of, FitIn}
use Rattle.run_cable.specs.declared.run_cable.RunCable.{RunCable}
use Rattle.run_cable.specs.HeardRuns.{Heard, grown, last_run, all_runs, shifted_on, heard_clock, heard_signal, heard_all}
use Rattle.run_cable.specs.KeptRuns.{Kept, Room, IsKnown, Hears, HearsIfRoom}
use Rattle.run_cable.specs.RunCables.{cable_of, runs_of, LeadsRuns}

pub heard_both : (h : Heard) (front back : List Signal) → heard_all h (front ++ back) ≡ heard_all (heard_all h front) back
heard_both h [] back = refl
heard_both h (signal ∷ front) back = heard_both (heard_signal h signal) front back

-- ---- what is heard before needs no more room

pub bits_joined : (xs ys : List ShiftRun) → bits_of (xs ++ ys) ≡ bits_of xs + bits_of ys
bits_joined [] ys = let e : bits_of [] ≡ 0 = refl in omega (arith, e)
bits_joined (x ∷ xs) ys = let e : bits_of (xs ++ ys) ≡ bits_of xs + bits_of ys = bits_joined xs ys in omega (arith, e)

pub bits_grown : (ir : Bool) (ins outs : List Bool) (going : Option ShiftRun) →
    bits_of (grown ir ins outs going ∷ []) ≡ bits_of (last_run going) + length ins
bits_grown ir ins outs None = omega arith
bits_grown ir ins outs (Some run) = let e : length (run.bits_in ++ ins) ≡ length run.bits_in + length ins = length-append run.bits_in ins in omega (arith, e)

-- as many bits together, and as many runs, or more
record NeedsMore (h g : Heard) : Type 0 where
  bits : bits_of (all_runs h) ≤ bits_of (all_runs g)
  runs : length (all_runs h) ≤ length (all_runs g)

needs_same : (h : Heard) → NeedsMore h h
needs_same h = record { bits = omega arith; runs = omega arith }

grown_needs : (ir : Bool) (ins outs : List Bool) (ended : List ShiftRun) (going : Option ShiftRun) →
    (bits_of (ended ++ last_run going) ≤ bits_of (ended ++ grown ir ins outs going ∷ []))
    × (length (ended ++ last_run going) ≤ length (ended ++ grown ir ins outs going ∷ []))
grown_needs ir ins outs ended going =
    let a : bits_of (ended ++ last_run going) ≡ bits_of ended + bits_of (last_run going) = bits_joined ended (last_run going) in
    let b : bits_of (ended ++ grown ir ins outs going ∷ []) ≡ bits_of ended + bits_of (grown ir ins outs going ∷ []) =
    bits_joined ended (grown ir ins outs going ∷ []) in
    let e : bits_of (grown ir ins outs going ∷ []) ≡ bits_of (last_run going) + length ins = bits_grown ir ins outs going in
    let c : length (ended ++ last_run going) ≡ length ended + length (last_run going) = length-append ended (last_run going) in
    let d : length (ended ++ grown ir ins outs going ∷ []) ≡ length ended + 1 = length-append ended (grown ir ins outs going ∷ []) in
    (omega (arith, a, b, e), omega (arith, c, d, one going))
  where
    one : (o : Option ShiftRun) → length (last_run o) ≤ 1
    one None = omega arith
    one (Some run) = omega arith

pub closed_same : (rs : List ShiftRun) → rs ++ [] ≡ rs
closed_same [] = refl
closed_same (r ∷ rs) = ap (λ z. r ∷ z) (closed_same rs)

shifted_needs : (now next : Option Bool) (b c : Bool) (h : Heard) → NeedsMore h (shifted_on now next b c h)
shifted_needs None next b c h = needs_same h
shifted_needs (Some ir) (Some on) b c h =
    let more = grown_needs ir (b ∷ []) (c ∷ []) h.ended h.going in record { bits = more.0; runs = more.1 }
shifted_needs (Some ir) None b c h =
    let more = grown_needs ir (b ∷ []) (c ∷ []) h.ended h.going in
    let whole_runs : List ShiftRun = h.ended ++ grown ir (b ∷ []) (c ∷ []) h.going ∷ [] in
    record {
      bits = subst (λ rs. bits_of (all_runs h) ≤ bits_of rs) (sym (closed_same whole_runs)) more.0;
      runs = subst (λ rs. length (all_runs h) ≤ length rs) (sym (closed_same whole_runs)) more.1;
    }

signal_needs : (h : Heard) (signal : Signal) → NeedsMore h (heard_signal h signal)
signal_needs h (Waits n) = record { bits = omega arith; runs = omega arith }
signal_needs h (Tunes n) = needs_same h
signal_needs h (Pulses k) =
    let more = shifted_needs (shifting h.tap) (shifting (next_of h.tap k.tms)) k.tdi k.tdo h in record { bits = more.bits; runs = more.runs }

all_needs : (h : Heard) (signals : List Signal) → NeedsMore h (heard_all h signals)
all_needs h [] = needs_same h
all_needs h (signal ∷ signals) =
    let first = signal_needs h signal in let rest = all_needs (heard_signal h signal) signals in
    record { bits = omega (arith, first.bits, rest.bits); runs = omega (arith, first.runs, rest.runs) }

pub fit_before : (bits runs : ℕ) (h : Heard) (signals : List Signal) → FitIn bits runs (all_runs (heard_all h signals)) → FitIn bits runs (all_runs h)
fit_before bits runs h signals fit =
    let more = all_needs h signals in record { together = omega (arith, more.bits, fit.together); few = omega (arith, more.runs, fit.few) }

-- ---- what is heard in two parts

pub hears_both : (old mid new : Kept) (front back : List Signal) → Hears old front mid → Hears mid back new → Hears old (front ++ back) new
hears_both old mid new front back p q = record {
  room = q.room ∙ p.room;
  known = λ e.
      (let last : IsKnown mid (heard_all mid.heard back) new = q.known e in
      let first : IsKnown old (heard_all old.heard front) mid = p.known last.none_lost in
      record {
        none_lost = first.none_lost;
        heard = last.heard ∙ ap (λ h. heard_all h back) first.heard ∙ sym (heard_both old.heard front back);
      });
}

pub fits_both : (old mid new : Kept) (front back : List Signal) → Hears old front mid → HearsIfRoom old front mid → HearsIfRoom mid back new →
    HearsIfRoom old (front ++ back) new
fits_both old mid new front back p fits_front fits_back none_lost fit =
    let both_fit : FitIn old.room.bits old.room.runs (all_runs (heard_all (heard_all old.heard front) back)) =
    subst (λ h. FitIn old.room.bits old.room.runs (all_runs h)) (heard_both old.heard front back) fit in
    let kept : mid.lost ≡ false =
    fits_front none_lost (fit_before old.room.bits old.room.runs (heard_all old.heard front) back both_fit) in
    let same : mid.heard ≡ heard_all old.heard front = (p.known kept).heard in
    fits_back kept
    (subst (λ (r : Room). FitIn r.bits r.runs (all_runs (heard_all mid.heard back))) (sym p.room)
    (subst (λ h. FitIn old.room.bits old.room.runs (all_runs (heard_all h back))) (sym same) both_fit))

module _ {C : Type 0} (makes : C → List Signal → C → Type 0) (breakage : C → Breakage) where
  pub nothing_leads : (c : RunCable C) → makes (cable_of c) [] (cable_of c) → LeadsRuns makes breakage c [] c
  nothing_leads c none = record {
    same_cable = refl;
    same_runs = refl;
    made = none;
    heard = record { room = refl; known = λ e. record { none_lost = e; heard = refl } };
    was_whole = λ e. e;
    fits = λ e none_lost fit. none_lost;
  }

  pub both_lead : (a b c : RunCable C) (front back : List Signal) →
      (makes (cable_of a) front (cable_of b) → makes (cable_of b) back (cable_of c) → makes (cable_of a) (front ++ back) (cable_of c)) →
      LeadsRuns makes breakage a front b → LeadsRuns makes breakage b back c → LeadsRuns makes breakage a (front ++ back) c
  both_lead a b c front back both p q = record {
    same_cable = q.same_cable ∙ p.same_cable;
    same_runs = q.same_runs ∙ p.same_runs;
    made = both p.made q.made;
    heard = hears_both (runs_of a) (runs_of b) (runs_of c) front back p.heard q.heard;
    was_whole = λ e. p.was_whole (q.was_whole e);
    fits = λ e. fits_both (runs_of a) (runs_of b) (runs_of c) front back p.heard (p.fits (q.was_whole e)) (q.fits e);
  }
