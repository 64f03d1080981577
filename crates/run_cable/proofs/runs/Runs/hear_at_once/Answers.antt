use Rattle.std.proofs.Common.{◌≡◌, ap, sym, subst, ◌∙◌, ◌+◌, false}
use Rattle.base.specs.Bits.{low_bits}
use Rattle.base.proofs.NumberBits.{length-low_bits}
use Rattle.scan_accounts.specs.Rooms.{FitIn}
use Rattle.scan_accounts.specs.AccountTexts.{counted}
use Rattle.run_cable.specs.HeardRuns.{Heard}
use Rattle.run_cable.specs.KeptRuns.{Kept}
use Rattle.run_cable.proofs.HeardLemmas.{stills_heard, still_runs}
use Rattle.run_cable.proofs.runs.Runs.hear_at_once.Goals as goal

pub returns-clause-heard : goal.returns-clause-heard
returns-clause-heard c =
    let old = c.args.self.now in let mid = c.grow_shifting.new.self in let new = c.pass.new.self in let n = c.args.n in
    let at : c.self.inside.tap ≡ old.heard.tap = ap (λ k. k.heard.tap) c.self.view_is in
    record {
      room = ap (λ (k : Kept). k.room) c.pass.ensures ∙ c.grow_shifting.ensures.grown.room;
      known = λ e.
          (let first = c.grow_shifting.ensures.grown.known (sym (ap (λ (k : Kept). k.lost) c.pass.ensures) ∙ e) in
          record {
            none_lost = first.none_lost;
            heard = stills_heard old.heard mid.heard new.heard (low_bits n c.args.tdi) (low_bits n c.args.tdo) n c.requires.some c.requires.stays
                (length-low_bits n c.args.tdi) (length-low_bits n c.args.tdo) first.heard
                (ap (λ (k : Kept). k.heard) c.pass.ensures ∙ ap (λ t. let h : Heard = record mid.heard { tap = t; clocks = counted (mid.heard.clocks + n) } in h) at);
          });
    }

pub returns-clause-fits : goal.returns-clause-fits
returns-clause-fits c = λ none fit.
    let old = c.args.self.now in let n = c.args.n in
    let runs = still_runs old.heard (low_bits n c.args.tdi) (low_bits n c.args.tdo) c.requires.stays (length-low_bits n c.args.tdi ∙ sym (length-low_bits n c.args.tdo)) in
    ap (λ (k : Kept). k.lost) c.pass.ensures
    ∙ c.grow_shifting.ensures.fits none (subst (λ rs. FitIn old.room.bits old.room.runs rs) runs fit)
