-- The faults of whole statements and of turns. Source: JESD71, IF. An IF and its inner statement are one turn: the
-- condition comes first, and the inner statement only if it is 1.
use Rattle.std.specs.Prelude.{◌≡◌, ◌+◌, ℕ, Bool, true, List, [], Some, slice_get}
use Rattle.stapl_syntax.specs.Trees.{ExprTree, BodyTree, if_then, StmtTree}
use Rattle.stapl_meaning.specs.Deeds.{Deed}
use Rattle.stapl_meaning.specs.declared.events.RunFault.{RunFault}
use Rattle.stapl_meaning.specs.declared.events.Ending.TheVariants.{Exit, Fault, Spent}
use Rattle.stapl_meaning.specs.declared.values.ValueKind.TheVariants as kinds
use Rattle.stapl_meaning.specs.declared.values.Value.TheVariants.{Bit}
use Rattle.stapl_meaning.specs.Values.{Known, value_of}
use Rattle.stapl_meaning.specs.States.{State, Turned, Leads, Over, Broken, Scanning, NoTurn}
use Rattle.stapl_meaning.specs.Scopes.{Scope, Played, scope_at}
use Rattle.stapl_meaning.specs.Turns.{turn}
use Rattle.meaning_laws.specs.RowFaults.{HasBrokenPart, RowBreaks}

-- what of a statement is carried out: itself, and the inner statement of an IF whose condition is 1
pub data IsCarriedOut (scope : Scope) (s : State) : (statement reached : BodyTree) → Type 0 where
  itself : {b : BodyTree} → IsCarriedOut scope s b b
  inner : {e : ExprTree} {b reached : BodyTree} → value_of scope.look s.store.variables kinds.Bit e ≡ Known (Bit true) →
      IsCarriedOut scope s b reached → IsCarriedOut scope s (if_then e b) reached

-- the turn at a place comes to a statement of which this holds, its own one or an inner one
pub record Reaches (program : Played) (i : ℕ) (s : State) (Holds : Scope → State → BodyTree → Type 0) : Type 0 where
  pub statement : StmtTree
  pub stands : slice_get program.pieces i ≡ Some statement
  pub row : BodyTree
  pub reached : IsCarriedOut (scope_at program i) s statement.body row
  pub holds : Holds (scope_at program i) s row

-- the turn at a place breaks with a fault, by the table
abbrev pub TurnBreaks : Played → ℕ → State → RunFault → Type 0
TurnBreaks program i s k = Reaches program i s (λ scope s b. RowBreaks scope s b k)

-- it comes to a part that breaks with a fault
abbrev pub ReachesBrokenPart : Played → ℕ → State → RunFault → Type 0
ReachesBrokenPart program i s k = Reaches program i s (λ scope s b. HasBrokenPart scope s k b)

-- the turn at a place ends with a fault of its piece: nothing was done, and the state is as it was
abbrev pub EndsWithFault : Played → ℕ → State → RunFault → Type 0
EndsWithFault program i s k = turn program i s ≡ Over [] (Fault k (i + 1)) s

-- A turn that ends with a fault of a piece ends by the table: it breaks with that fault, the piece is its own, nothing
-- was done before it, and the state is as it was.
pub record EndsByTable (program : Played) (i : ℕ) (s : State) (deeds : List Deed) (k : RunFault) (piece : ℕ) (t : State) : Type 0 where
  pub breaks : TurnBreaks program i s k
  pub nothing_done : deeds ≡ []
  pub its_piece : piece ≡ i + 1
  pub as_it_was : t ≡ s

-- no fault ends the turn, whatever its scans capture
abbrev pub NeverFaults : Turned → Type 0
NeverFaults (Leads deeds place s) = Unit {0}
NeverFaults (Over deeds (Exit z) s) = Unit {0}
NeverFaults (Over deeds Spent s) = Unit {0}
NeverFaults (Over deeds (Fault k piece) s) = ⊥
NeverFaults (Broken deeds k s) = ⊥
NeverFaults (Scanning deeds scan rest) = (bits : List Bool) → NeverFaults (rest bits)
NeverFaults (NoTurn deeds) = Unit {0}
