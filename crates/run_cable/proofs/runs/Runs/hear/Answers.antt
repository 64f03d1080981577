use Rattle.std.proofs.Common.{◌≡◌, ap, sym, subst, ◌∙◌, ◌+◌, false}
use Rattle.tap_states.specs.Tap.{next_of}
use Rattle.scan_accounts.specs.ShiftRuns.{shifting}
use Rattle.scan_accounts.specs.Rooms.{FitIn}
use Rattle.run_cable.specs.HeardRuns.{Heard, all_runs, shifted_on}
use Rattle.run_cable.specs.KeptRuns.{Kept, Room}
use Rattle.run_cable.proofs.HeardLemmas.{one_heard}
use Rattle.run_cable.proofs.runs.Runs.hear.Goals as goal

pub returns-clause-heard : goal.returns-clause-heard
returns-clause-heard c =
    let old = c.args.self.now in let mid = c.shift.new.self in let new = c.pass.new.self in
    let to = c.next-next.ensures ∙ ap (λ k. next_of k.heard.tap c.args.tms) c.self.view_is in
    record {
      room = ap (λ (k : Kept). k.room) c.pass.ensures ∙ c.shift.ensures.shifted.room;
      known = λ e.
          (let first = c.shift.ensures.shifted.known (sym (ap (λ (k : Kept). k.lost) c.pass.ensures) ∙ e) in
          record {
            none_lost = first.none_lost;
            heard = one_heard old.heard mid.heard new.heard (record { tms = c.args.tms; tdi = c.args.tdi; tdo = c.args.tdo }) c.next-next.result to
                first.heard (ap (λ (k : Kept). k.heard) c.pass.ensures);
          });
    }

pub returns-clause-fits : goal.returns-clause-fits
returns-clause-fits c = λ none fit.
    let old = c.args.self.now in
    let to = c.next-next.ensures ∙ ap (λ k. next_of k.heard.tap c.args.tms) c.self.view_is in
    ap (λ (k : Kept). k.lost) c.pass.ensures
    ∙ c.shift.ensures.fits none
    (subst (λ t. FitIn old.room.bits old.room.runs (all_runs (shifted_on (shifting old.heard.tap) (shifting t) c.args.tdi c.args.tdo old.heard))) (sym to) fit)
