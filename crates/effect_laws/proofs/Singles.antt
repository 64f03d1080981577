-- The turn of a statement of one row, by its values and by what they do.
use Rattle.std.proofs.Common.{◌≡◌, ℕ, ◌+◌, true, List, [], ◌∷◌, length, Option, Some, ap, ◌∙◌, if◌then◌else◌}
use Rattle.std.specs.Prelude.{nat_lt}
use Rattle.std.proofs.lemmas.Bool.{lt-ltb}
use Rattle.stapl_syntax.specs.Trees.{ExprTree, BodyTree}
use Rattle.stapl_meaning.specs.declared.events.RunFault.TheVariants.{RecordsFull}
use Rattle.stapl_meaning.specs.declared.values.ValueKind.{ValueKind}
use Rattle.stapl_meaning.specs.declared.values.Value.{Value}
use Rattle.stapl_meaning.specs.declared.values.Held.{Held}
use Rattle.stapl_meaning.specs.Values.{Got, Known, Faults, then_get, Lookup, value_of}
use Rattle.stapl_meaning.specs.Operands.{Operand, plain, Plain, tested, operand_value, values_after, values_of}
use Rattle.stapl_meaning.specs.States.{State, Did, Turned, with_got, turn_of_piece, led}
use Rattle.stapl_meaning.specs.Effects.{with_room}
use Rattle.stapl_meaning.specs.Scopes.{Scope, Played, scope_at}
use Rattle.stapl_meaning.specs.Turns.{operands, effect, target, rows, carried, rows_done, turn_of, turn}
use Rattle.effect_laws.specs.Given.{StandsAt, HasRoom}

pub plain_known : (look : Lookup) (variables : List Held) (before : Option Value) (kind : ValueKind) (e : ExprTree) (v : Value) →
    value_of look variables kind e ≡ Known v → operand_value look variables before (plain kind e) ≡ Known v
plain_known look variables before kind e v is = ap (λ g. then_get g (tested look variables Plain before)) is

pub next_known : (look : Lookup) (variables : List Held) (before : Option Value) (o : Operand) (os : List Operand) (v : Value) (vs : List Value) →
    operand_value look variables before o ≡ Known v → values_after look variables (Some v) os ≡ Known vs →
    values_after look variables before (o ∷ os) ≡ Known (v ∷ vs)
next_known look variables before o os v vs first rest =
    ap (λ g. then_get g (λ w. then_get (values_after look variables (Some w) os) (λ ws. Known (w ∷ ws)))) first
    ∙ ap (λ g. then_get g (λ ws. Known (v ∷ ws))) rest

-- a record for which there is room
pub roomy : (s : State) (did : Got Did) → HasRoom s → with_room s did ≡ did
roomy s did less =
    let e : nat_lt (length s.records) 16384 ≡ true = lt-ltb (length s.records) 16384 less in ap (λ c. if c then did else Faults RecordsFull) e

-- a row whose values are known, and what they do
pub row_known : (scope : Scope) (b : BodyTree) (s : State) (go : State → Turned) (values : List Value) (did : Did) →
    values_of scope.look s.store.variables (operands scope b) ≡ Known values → effect scope b values s ≡ Known did →
    carried scope b s go ≡ led scope.entry (target scope b) did go
row_known scope b s go values did are is =
    ap (λ g. with_got g s (λ vs. with_got (effect scope b vs s) s (λ d. led scope.entry (target scope b) d go))) are
    ∙ ap (λ g. with_got g s (λ d. led scope.entry (target scope b) d go)) is

pub one_row : (program : Played) (i : ℕ) (s : State) (b : BodyTree) (values : List Value) (did : Did) → StandsAt program i b → rows b ≡ b ∷ [] →
    values_of (scope_at program i).look s.store.variables (operands (scope_at program i) b) ≡ Known values →
    effect (scope_at program i) b values s ≡ Known did →
    turn program i s ≡
    turn_of_piece (i + 1) (led (scope_at program i).entry (target (scope_at program i) b) did (rows_done (scope_at program i) []))
one_row program i s b values did stands one are is =
    let scope : Scope = scope_at program i in
    ap (turn_of scope (i + 1) s) stands.1
    ∙ ap (λ bs. turn_of_piece (i + 1) (rows_done scope bs s)) one
    ∙ ap (turn_of_piece (i + 1)) (row_known scope b s (rows_done scope []) values did are is)
