-- On calls of a paper.
use Rattle.std.proofs.Common.{◌≡◌, ℕ, false, List, [], refl, Result, Ok, Err}
use Rattle.std.specs.Prelude.{IsErr}
use Rattle.tool_io.proofs.CauseLemmas.{kept_start}
use Rattle.written_cable.specs.declared.paper.Paper.{Ghosts as PaperOf}
use Rattle.written_cable.specs.Papers.{PutsOnPaper, PutsOnPaperFront}
use Rattle.written_cable.specs.OnPaper.{HasPutOn}
use Rattle.written_cable.specs.PaperLaws.{puts_nothing}

module _ {O : Type 0} (paper : PaperOf O) where
  -- nothing is put
  pub paper_still : (a : O) → paper.failed a ≡ false → PutsOnPaper paper.shown paper.failed paper.faults paper.is_last a [] a
  paper_still a whole = record { put = puts_nothing paper.shown a; same = refl; whole = whole; kept = kept_start _ _ }

  -- a call that failed, by its result
  pub paper_failed : {T E : Type 0} {a b : O} {bytes : List ℕ} (r : Result T E) → IsErr r →
      PutsOnPaperFront paper.shown paper.failed paper.faults paper.is_last a bytes b → HasPutOn paper a bytes b r
  paper_failed (Ok x) is front = absurd cc
  paper_failed (Err e) is front = front
