-- A scan by its plan.
use Rattle.std.proofs.Common.{◌≡◌, ℕ, Bool, List, take, ap, ◌∙◌}
use Rattle.stapl_lexer.specs.declared.terminal.Register.{Register}
use Rattle.tap_states.specs.declared.Tap.{Tap}
use Rattle.dev_card.specs.Scans.{BoardScan}
use Rattle.scan_paths.specs.declared.pads.BasePads.{BasePads}
use Rattle.scan_paths.specs.declared.pads.Pads.{Pads}
use Rattle.scan_paths.specs.Scans.{lengths_of}
use Rattle.scan_paths.specs.Scans as paths
use Rattle.stapl_meaning.specs.Deeds.{based}
use Rattle.stapl_meaning.specs.States.{ScanSettings}
use Rattle.stapl_meaning.specs.Scans.{is_instruction, scan_of}
use Rattle.machine_memory.specs.PadSettings.{settings_seen}

-- A scan by its plan is the scan by its settings, with the base padding of the plan. Its bits are the lowest ones of a
-- longer list.
pub same_scan : (base : BasePads) (register : Register) (settings : ScanSettings) (all data_bits : List Bool) (ir : Bool) (n : ℕ) (stop : Tap) (pads : Pads) →
    ir ≡ is_instruction register → take n all ≡ data_bits → stop ≡ settings.stop → settings_seen pads settings.stop ≡ settings →
    paths.scan_of (record { ir = ir; len = n; stop = stop; base = base }) all pads ≡ based (lengths_of base) (scan_of register settings data_bits)
same_scan base register settings all data_bits ir n stop pads is_ir own is_stop is_pads =
    let made : Bool → ScanSettings → List Bool → BoardScan =
    λ ir s list. based (lengths_of base) (record { ir = ir; paddings = record { base_pre = 0; pre = s.pre; post = s.post; base_post = 0 }; bits = list; stop = s.stop }) in
    ap (λ x. made x (settings_seen pads stop) (take n all)) is_ir
    ∙ ap (λ x. made (is_instruction register) (settings_seen pads x) (take n all)) is_stop
    ∙ ap (λ x. made (is_instruction register) x (take n all)) is_pads
    ∙ ap (λ x. made (is_instruction register) settings x) own
