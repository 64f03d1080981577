-- What calls over a wire keep. All ghost members of the wire are one argument, `W.Wire`.
use Rattle.std.specs.Prelude.{◌+◌, ◌⊎◌, ℕ, Result}
use Rattle.tool_io.specs.Causes.{IsSaturated}
use Rattle.link_cable.specs.declared.wire.Wire.{Ghosts as WireOf}
use Rattle.link_cable.specs.Wires.{WireKept}

-- The wire is ready after calls, and a count of faults was kept: the wire's and one that the caller keeps of answers that
-- are no digits.
abbrev pub KeepsWire : {W T E : Type 0} → WireOf W → W → ℕ → W → ℕ → Result T E → Type 0
KeepsWire wire old faults new faults_now result =
    WireKept (wire.is_ready new) (wire.faults old + faults) (wire.faults new + faults_now)
    (wire.is_last old ⊎ IsSaturated faults) (wire.is_last new ⊎ IsSaturated faults_now) result
