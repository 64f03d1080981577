use Rattle.std.proofs.Common.{◌≡◌, drop, map}
use Rattle.board_text.specs.Shapes.{fits}
use Rattle.board_text.proofs.shapes.fits.Given as goal

abbrev pub invariant-loop-i : goal.invariant-loop-i
invariant-loop-i l = fits (drop l.i l.places) (drop l.i (map (λ w. w.now) l.words)) ≡ fits l.places (map (λ w. w.now) l.words)
