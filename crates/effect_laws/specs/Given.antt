-- What is given to a turn: its statement, the values of expressions, and room for a record.
use Rattle.std.specs.Prelude.{◌≡◌, ◌≢◌, ◌<◌, ℕ, ℤ, Bool, List, length, Option, Some, slice_get}
use Rattle.stapl_syntax.specs.declared.names.Kind.TheVariants.{Bool as Bit}
use Rattle.stapl_syntax.specs.Kinds.{expr_kind}
use Rattle.stapl_syntax.specs.Trees.{ExprTree, BodyTree}
use Rattle.stapl_meaning.specs.declared.values.ValueKind.TheVariants as kinds
use Rattle.stapl_meaning.specs.declared.values.Value.{Value}
use Rattle.stapl_meaning.specs.declared.values.Value.TheVariants.{Int}
use Rattle.stapl_meaning.specs.declared.values.Value.TheVariants as values
use Rattle.stapl_meaning.specs.declared.values.Held.{Held}
use Rattle.stapl_meaning.specs.Values.{Known, Lookup, value_of}
use Rattle.stapl_meaning.specs.States.{State}
use Rattle.stapl_meaning.specs.Scopes.{Played, scope_at}

-- this statement stands at a place, with a label or without one
abbrev pub StandsAt : Played → ℕ → BodyTree → Type 0
StandsAt program i body = (label : Option (List ℕ)) × (slice_get program.pieces i ≡ Some (record { label = label; body = body }))

-- the number of the variable that a name stands for at a place
abbrev pub number_at : Played → ℕ → List ℕ → ℕ
number_at program i name = (scope_at program i).look.variable name

-- an expression at a place has this value: a bit if it is one, and else an integer, as a literal is
pub data HasValue (look : Lookup) (s : State) (e : ExprTree) (v : Value) : Type 0 where
  bit : expr_kind look.kind e ≡ Some Bit → value_of look s.store.variables kinds.Bit e ≡ Known v → HasValue look s e v
  integer : expr_kind look.kind e ≢ Some Bit → value_of look s.store.variables kinds.Int e ≡ Known v → HasValue look s e v

-- an expression has this value where an integer is wanted
abbrev pub HasInteger : Lookup → State → ExprTree → ℤ → Type 0
HasInteger look s e z = value_of look s.store.variables kinds.Int e ≡ Known (Int z)

-- an expression has this value where a bit is wanted
abbrev pub HasBit : Lookup → State → ExprTree → Bool → Type 0
HasBit look s e b = value_of look s.store.variables kinds.Bit e ≡ Known (values.Bit b)

-- the records have room for one more: there are at most 16384 (this profile)
abbrev pub HasRoom : State → Type 0
HasRoom s = length s.records < 16384

-- the variable of a number holds this
abbrev pub Holds : State → ℕ → Held → Type 0
Holds s n h = slice_get s.store.variables n ≡ Some h
