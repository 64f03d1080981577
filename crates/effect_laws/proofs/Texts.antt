-- What PRINT and EXPORT write
use Rattle.std.proofs.Common.{◌≡◌, ◌≤◌, ℕ, ◌+◌, pos, Bool, true, false, List, [], ◌∷◌, ◌++◌, Option, Some, None, refl, ap, ◌∙◌, arith, nat_abs}
use Rattle.std.specs.Prelude.{nat_lt}
use Rattle.std.proofs.lemmas.Bool.{lt-ltb}
use Rattle.stapl_syntax.specs.Kinds.{expr_kind}
use Rattle.stapl_syntax.specs.Trees.{ExprTree, PartTree, value, whole, print, export, exported_value, exported_array}
use Rattle.stapl_meaning.specs.declared.events.Event.TheVariants.{Print, Export}
use Rattle.stapl_meaning.specs.declared.events.ExportValue.{ExportValue}
use Rattle.stapl_meaning.specs.declared.events.ExportValue.TheVariants as exports
use Rattle.stapl_meaning.specs.declared.events.RunFault.TheVariants.{BadChar}
use Rattle.stapl_meaning.specs.declared.values.Value.{Value}
use Rattle.stapl_meaning.specs.declared.values.Value.TheVariants.{Int, Bit}
use Rattle.stapl_meaning.specs.declared.values.Held.TheVariants as held
use Rattle.stapl_meaning.specs.Deeds.{Says}
use Rattle.stapl_meaning.specs.Values.{Known, then_get, passed, bits_held, integer_of, Lookup}
use Rattle.stapl_meaning.specs.Operands.{plain, a_character, Character, tested, character_of, printed_kind, part_operands, values_after}
use Rattle.stapl_meaning.specs.States.{State, Falls, Leads}
use Rattle.stapl_meaning.specs.Effects.{shown, after_value, joined, printed, export_of}
use Rattle.stapl_meaning.specs.Scopes.{Played, scope_at}
use Rattle.stapl_meaning.specs.Turns.{turn}
use Rattle.effect_laws.specs.Given.{StandsAt, HasValue, Holds, number_at}
use Rattle.effect_laws.specs.Texts.{Gives, nothing, text, number, one, zero_digit, byte, IsExported, integer, one_bit, zero_bit}
use Rattle.effect_laws.proofs.Singles.{next_known, one_row}
use Rattle.effect_laws.proofs.Stacks.{printed_known, pushed_value}

byte_known : (n : ℕ) → n ≤ 255 → character_of (Int (pos n)) ≡ Known (Int (pos n))
byte_known n most = let e : nat_lt n 256 ≡ true = lt-ltb n 256 (omega (arith, most)) in ap (λ c. passed c BadChar (Int (pos n))) e

module _ (look : Lookup) (s : State) where
  -- the values of the parts, and what they give joined
  abbrev Joins : List PartTree → List ℕ → Option Value → Type 0
  Joins parts bytes before = (vs : List Value) × (values_after look s.store.variables before (part_operands look parts) ≡ Known vs) × (joined parts vs ≡ Known bytes)

  joins_value : (e : ExprTree) (v : Value) (parts : List PartTree) (rest : List ℕ) (before : Option Value) → HasValue look s e v →
      Joins parts rest (Some v) → Joins (value e ∷ parts) (shown v ++ rest) before
  joins_value e v parts rest before is more = (
    v ∷ more.0,
    next_known look s.store.variables before (plain (printed_kind (expr_kind look.kind e)) e) (part_operands look parts) v more.0 (printed_known look s before e v is) more.1,
    ap (after_value v) more.2,
  )

  joins : (parts : List PartTree) (bytes : List ℕ) → Gives look s parts bytes → (before : Option Value) → Joins parts bytes before
  joins _ _ nothing before = ([], refl, refl)
  joins _ _ (text {bytes = bytes} {parts = parts} {rest = rest} more) before =
      let found : Joins parts rest before = joins parts rest more before in
      (found.0, found.1, ap (λ g. then_get g (λ after. Known (bytes ++ after))) found.2)
  joins _ _ (number {e = e} {z = z} {parts = parts} {rest = rest} is more) before = joins_value e (Int z) parts rest before is (joins parts rest more (Some (Int z)))
  joins _ _ (one {e = e} {parts = parts} {rest = rest} is more) before = joins_value e (Bit true) parts rest before is (joins parts rest more (Some (Bit true)))
  joins _ _ (zero_digit {e = e} {parts = parts} {rest = rest} is more) before =
      joins_value e (Bit false) parts rest before is (joins parts rest more (Some (Bit false)))
  joins _ _ (byte {e = e} {n = n} {parts = parts} {rest = rest} is most more) before =
      let found : Joins parts rest (Some (Int (pos n))) = joins parts rest more (Some (Int (pos n))) in (
        Int (pos n) ∷ found.0,
        next_known look s.store.variables before (a_character e) (part_operands look parts) (Int (pos n)) found.0
            (ap (λ g. then_get g (tested look s.store.variables Character before)) is ∙ byte_known n most) found.1,
        ap (λ g. then_get g (λ w. then_get (integer_of w) (λ z. then_get (joined parts found.0) (λ after. Known (nat_abs z ∷ after))))) (byte_known n most)
            ∙ ap (λ g. then_get g (λ after. Known (n ∷ after))) found.2,
      )

pub prints : (program : Played) (i : ℕ) (s : State) (parts : List PartTree) (bytes : List ℕ) → StandsAt program i (print parts) →
    Gives (scope_at program i).look s parts bytes → turn program i s ≡ Leads (Says (Print bytes) ∷ []) (i + 1) s
prints program i s parts bytes stands gives =
    let found : Joins (scope_at program i).look s parts bytes None = joins (scope_at program i).look s parts bytes gives None in
    one_row program i s (print parts) found.0 (Falls (Says (Print bytes) ∷ []) s) stands refl found.1 (ap (λ g. printed g s) found.2)

export_is : (v : Value) (x : ExportValue) → IsExported v x → export_of v ≡ x
export_is _ _ integer = refl
export_is _ _ one_bit = refl
export_is _ _ zero_bit = refl

pub exports_value : (program : Played) (i : ℕ) (s : State) (key : List ℕ) (e : ExprTree) (v : Value) (x : ExportValue) →
    StandsAt program i (export key (exported_value e)) → HasValue (scope_at program i).look s e v → IsExported v x →
    turn program i s ≡ Leads (Says (Export key x) ∷ []) (i + 1) s
exports_value program i s key e v x stands is exported =
    one_row program i s (export key (exported_value e)) (v ∷ []) (Falls (Says (Export key x) ∷ []) s) stands refl
    (pushed_value (scope_at program i).look s e v is) (ap (λ y. Known (Falls (Says (Export key y) ∷ []) s)) (export_is v x exported))

pub exports_array : (program : Played) (i : ℕ) (s : State) (key name : List ℕ) (bits : List Bool) →
    StandsAt program i (export key (exported_array (whole name))) → Holds s (number_at program i name) (held.Bits bits) →
    turn program i s ≡ Leads (Says (Export key (exports.Array bits)) ∷ []) (i + 1) s
exports_array program i s key name bits stands there =
    one_row program i s (export key (exported_array (whole name))) [] (Falls (Says (Export key (exports.Array bits)) ∷ []) s) stands refl refl
    (ap (λ o. then_get (bits_held o) (λ found. Known (Falls (Says (Export key (exports.Array found)) ∷ []) s))) there)
