use Rattle.std.proofs.Common.{refl}
use Rattle.scan_paths.specs.Cables.{Waits}
use Rattle.link_cable.proofs.CableLemmas.{silent, unbroken}
use Rattle.link_cable.proofs.link_cable.LinkCableCable.usec.Goals as goal

pub returns-clause-signalled : goal.returns-clause-signalled
returns-clause-signalled g c = silent g.W.Wire g.met.W.Wire.none_carried c.args.self.now (Waits c.args.n) (unbroken _ _ c.requires) refl refl
