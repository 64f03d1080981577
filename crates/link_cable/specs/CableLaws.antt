-- What leads from a cable to one over the same wire is as the meaning of a cable must be.
use Rattle.std.proofs.Common.{ℕ, Bool, false, List, [], ◌++◌, Option, refl, ◌∙◌}
use Rattle.scan_paths.specs.Cables.{Signal}
use Rattle.link_server.specs.Drives.{Carrying}
use Rattle.link_server.specs.DriveLaws.{NoneCarried, BothCarried, nothing_driven, driven_both}
use Rattle.link_cable.specs.declared.link_cable.LinkCable.{LinkCable}
use Rattle.link_cable.specs.Wires.{WireState}
use Rattle.link_cable.specs.LinkCables.{end_of, StaysGood, Leads}

module _ {W : Type 0} (told : W → Option WireState) (carried : Carrying W) (is_steady : W → Bool) (faults : W → ℕ)
    (is_last : W → Type 0) where
  pub nothing_leads : NoneCarried carried → (c : LinkCable W) → Leads told carried is_steady faults is_last c [] c
  nothing_leads none c = record {
    same_wire = refl;
    drives = nothing_driven carried false none (end_of c);
    stays = λ e good. record { good = good; unbroken = e; calm = record { same = refl; last = λ l. l } };
  }

  pub both_lead : BothCarried carried → (a b c : LinkCable W) (front back : List Signal) →
      Leads told carried is_steady faults is_last a front b → Leads told carried is_steady faults is_last b back c →
      Leads told carried is_steady faults is_last a (front ++ back) c
  both_lead both a b c front back p q = record {
    same_wire = q.same_wire ∙ p.same_wire;
    drives = driven_both carried false both (end_of a) (end_of b) (end_of c) front back p.drives q.drives;
    stays = λ e good.
        let first : StaysGood told carried is_steady faults is_last a b = p.stays e good in
        let next : StaysGood told carried is_steady faults is_last b c = q.stays first.unbroken first.good in
        record {
          good = next.good;
          unbroken = next.unbroken;
          calm = record { same = next.calm.same ∙ first.calm.same; last = λ l. first.calm.last (next.calm.last l) };
        };
  }
