-- Records that ENDPROC drops. Source: JESD71, CALL and ENDPROC.
use Rattle.std.specs.Prelude.{ℤ, List, [], ◌∷◌}
use Rattle.stapl_meaning.specs.declared.records.Loop.{Loop}
use Rattle.stapl_meaning.specs.declared.records.Record.{Record}
use Rattle.stapl_meaning.specs.declared.records.Record.TheVariants.{Pushed, Looped}

-- none of these records is of a CALL
pub data HasNoCall : List Record → Type 0 where
  none : HasNoCall []
  value : {z : ℤ} {records : List Record} → HasNoCall records → HasNoCall (Pushed z ∷ records)
  loop : {l : Loop} {records : List Record} → HasNoCall records → HasNoCall (Looped l ∷ records)
