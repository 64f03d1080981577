-- What a function returned, against what reading gives.
use Rattle.std.specs.Prelude.{◌≡◌, Option, Some, None, Result, Ok, Err}
use Rattle.stapl_grammar.specs.declared.refused.Refused.{Refused}
use Rattle.stapl_grammar.specs.declared.refused.Refused.TheVariants.{Memory, Syntax}

-- nothing is read, unless memory ran out
abbrev pub Fails : {Y : Type 0} → Refused → Option Y → Type 0
Fails Memory read = Unit {0}
Fails Syntax read = read ≡ None

-- what was returned, seen by view, is what reading gives, unless memory ran out
abbrev pub Gives : {X Y : Type 0} → (X → Y) → Result X Refused → Option Y → Type 0
Gives view (Ok x) read = read ≡ Some (view x)
Gives view (Err e) read = Fails e read
