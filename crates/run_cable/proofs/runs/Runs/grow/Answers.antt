use Rattle.std.proofs.Common.{◌≡◌, ◌≤◌, ◌<◌, ◌-◌, ap, ap₂, sym, subst, ◌∙◌, arith, Some, None, ◌+◌, ◌++◌, ◌∷◌, [], List, Option, map, length, false, true}
use Rattle.std.specs.Prelude.{All, vec_capacity}
use Rattle.std.specs.Option.{option_map}
use Rattle.base.specs.Bits.{low_bits}
use Rattle.base.proofs.NumberBits.{length-low_bits}
use Rattle.scan_accounts.specs.ShiftRuns.{ShiftRun}
use Rattle.scan_accounts.specs.Rooms.{bits_of, FitIn}
use Rattle.run_cable.specs.HeardRuns.{Heard, grown, grown_by, all_runs}
use Rattle.run_cable.specs.KeptRuns.{Kept, Room, run_at, LiesBelow}
use Rattle.run_cable.proofs.KeptLemmas.{same_runs, grown_going, grown_anew, grown_used, too_many, ends_on, ends_anew}
use Rattle.run_cable.proofs.runs.Runs.grow.Goals.{in-Some, in-None}
use Rattle.run_cable.proofs.runs.Runs.grow.Goals as goal

-- the runs that are over, and the one that goes on, in the lists that were written
ended_now : (c : goal.After-self-3-1) → map (run_at c.set_word.new.self c.set_word-2.new.self) c.self.inside.ended.items
    ≡ map (run_at c.self.inside.bits_in c.self.inside.bits_out) c.self.inside.ended.items
ended_now c =
    let r = c.self.inside in
    let fits_in : r.free ≤ length r.bits_in = c.self.invariant.inside in
    let fits_out : r.free ≤ length r.bits_out = omega (arith, fits_in, c.self.invariant.as_many) in
    ap₂ (λ x y. map (run_at x y) r.ended.items) c.set_word.ensures.bits c.set_word-2.ensures.bits
    ∙ same_runs r.free (low_bits c.args.n c.args.tdi) (low_bits c.args.n c.args.tdo) r.bits_in r.bits_out fits_in fits_out r.ended.items c.self.invariant.below

going_now : (c : goal.After-self-3-1) → run_at c.set_word.new.self c.set_word-2.new.self c.match-self.at
    ≡ grown c.args.ir (low_bits c.args.n c.args.tdi) (low_bits c.args.n c.args.tdo) (option_map (run_at c.self.inside.bits_in c.self.inside.bits_out) c.self.inside.going)
going_now c =
    let r = c.self.inside in let n = c.args.n in let ir = c.args.ir in
    let w = low_bits n c.args.tdi in let v = low_bits n c.args.tdo in
    let fits_in : r.free ≤ length r.bits_in = c.self.invariant.inside in
    let fits_out : r.free ≤ length r.bits_out = omega (arith, fits_in, c.self.invariant.as_many) in
    ap₂ (λ x y. run_at x y c.match-self.at) c.set_word.ensures.bits c.set_word-2.ensures.bits
    ∙ (elim c.match-self.branch [
      | in-Some b ↦ grown_going r.free w v r.bits_in r.bits_out fits_in fits_out ir n r.going b.in-Some.at c.match-self.at b.in-Some.is c.self.invariant.ends b.at-is
          (length-low_bits n c.args.tdi) (length-low_bits n c.args.tdo)
      | in-None b ↦ grown_anew r.free w v r.bits_in r.bits_out fits_in fits_out ir n r.going c.match-self.at b.in-None.is b.at-is
          (length-low_bits n c.args.tdi) (length-low_bits n c.args.tdo)
    ])

pub returns-clause-grown : goal.returns-clause-grown
returns-clause-grown c =
    let r = c.self.inside in let w = low_bits c.args.n c.args.tdi in let v = low_bits c.args.n c.args.tdo in
    record {
      room = ap (λ n. let x : Room = record { bits = n; runs = vec_capacity r.ended } in x) c.set_word.ensures.length ∙ ap (λ (k : Kept). k.room) c.self.view_is;
      known = λ e. record {
        none_lost = ap (λ (k : Kept). k.lost) (sym c.self.view_is) ∙ e;
        heard = ap₂ (λ (es : List ShiftRun) (g : ShiftRun). let h : Heard = record { tap = r.tap; ended = es; going = Some g; clocks = r.clocks; usec = r.usec; ir_scans = r.ir_scans; dr_scans = r.dr_scans } in h) (ended_now c) (going_now c)
            ∙ ap (λ (k : Kept). grown_by c.args.ir w v k.heard) c.self.view_is;
      };
    }

pub returns-then-n-len-clause-fits : goal.returns-then-n-len-clause-fits
returns-then-n-len-clause-fits c = λ none fit.
    let r = c.self.inside in let n = c.args.n in
    let w = low_bits n c.args.tdi in let v = low_bits n c.args.tdo in
    let same = subst (λ (k : Kept). FitIn k.room.bits k.room.runs (all_runs (grown_by c.args.ir w v k.heard))) (sym c.self.view_is) fit in
    let over : length r.bits_in - r.free < n = subst (λ m. m - r.free < n) c.len.ensures.length c.if-n-len.true in
    absurd (too_many c.args.ir n r.free (length r.bits_in) (vec_capacity r.ended) w v (map (run_at r.bits_in r.bits_out) r.ended.items)
    (option_map (run_at r.bits_in r.bits_out) r.going) (length-low_bits n c.args.tdi) c.self.invariant.used over c.self.invariant.inside same)

pub invariant_of-self-2 : goal.invariant_of-self-2
invariant_of-self-2 c =
    let r = c.self.inside in let n = c.args.n in let inv = c.self.invariant in
    let w = low_bits n c.args.tdi in let v = low_bits n c.args.tdo in
    let same_in = c.set_word.ensures.length in let same_out = c.set_word-2.ensures.length in
    record {
      inside = omega (arith, same_in, c.if-n-len.false, c.len.ensures.length, inv.inside);
      as_many = same_out ∙ inv.as_many ∙ sym same_in;
      below = λ k d h. (let below = inv.below k d h in omega (arith, below));
      ends = elim c.match-self.branch [
        | in-Some b ↦ ends_on c.args.ir r.free n r.going b.in-Some.at c.match-self.at b.in-Some.is inv.ends b.at-is
        | in-None b ↦ ends_anew c.args.ir r.free n c.match-self.at b.at-is
      ];
      used = ap₂ (λ (es : List ShiftRun) (g : ShiftRun). bits_of (es ++ g ∷ [])) (ended_now c) (going_now c)
          ∙ grown_used c.args.ir n r.free w v (map (run_at r.bits_in r.bits_out) r.ended.items) (option_map (run_at r.bits_in r.bits_out) r.going)
          (length-low_bits n c.args.tdi) inv.used;
      few_clocks = inv.few_clocks;
      few_usec = inv.few_usec;
      few_ir = inv.few_ir;
      few_dr = inv.few_dr;
    }
