-- What WAIT and FREQUENCY do
use Rattle.std.proofs.Common.{◌≡◌, ◌≤◌, ℕ, suc, ◌+◌, ℤ, pos, true, List, [], ◌∷◌, Option, Some, None, refl, sym, ap, ◌∙◌, arith, if◌then◌else◌}
use Rattle.std.specs.Prelude.{nat_lt, int_le, int_lt}
use Rattle.std.proofs.lemmas.Bool.{lt-ltb}
use Rattle.std.proofs.lemmas.Int.{ints}
use Rattle.stapl_syntax.specs.Trees.{ExprTree, wait_cycles, wait_usec, frequency}
use Rattle.tap_states.specs.declared.Tap.{Tap}
use Rattle.tap_states.specs.Tap.{is_stable_state}
use Rattle.stapl_meaning.specs.declared.events.Event.TheVariants.{Usec, Hertz}
use Rattle.stapl_meaning.specs.declared.events.RunFault.TheVariants.{BadCount}
use Rattle.stapl_meaning.specs.declared.waits.WaitKind.{WaitKind}
use Rattle.stapl_meaning.specs.declared.waits.WaitKind.TheVariants as waits
use Rattle.stapl_meaning.specs.declared.values.ValueKind.TheVariants as kinds
use Rattle.stapl_meaning.specs.declared.values.Value.{Value}
use Rattle.stapl_meaning.specs.declared.values.Value.TheVariants.{Int}
use Rattle.stapl_meaning.specs.Deeds.{Deed, Says, Goes, Stays}
use Rattle.stapl_meaning.specs.Values.{Known, Stuck, then_get, passed, Lookup}
use Rattle.stapl_meaning.specs.Operands.{an_integer, values_after, values_of}
use Rattle.stapl_meaning.specs.States.{State, Falls, Leads}
use Rattle.stapl_meaning.specs.Effects.{cycles_of, usec_of, hertz_of, waited_for, waited}
use Rattle.stapl_meaning.specs.Scopes.{Played, scope_at}
use Rattle.stapl_meaning.specs.Turns.{tap_or_idle, turn}
use Rattle.effect_laws.specs.Given.{StandsAt, HasInteger}
use Rattle.effect_laws.specs.Chains.{reset, idle, dr_pause, ir_pause, StaysIn, named, left_out}
use Rattle.effect_laws.proofs.Singles.{plain_known, next_known, one_row}

tap_is : (o : Option ℕ) (tap : Tap) → StaysIn o tap → tap_or_idle o ≡ tap
tap_is _ _ (named reset) = refl
tap_is _ _ (named idle) = refl
tap_is _ _ (named dr_pause) = refl
tap_is _ _ (named ir_pause) = refl
tap_is _ _ left_out = refl

stable : (o : Option ℕ) (tap : Tap) → StaysIn o tap → is_stable_state tap ≡ true
stable _ _ (named reset) = refl
stable _ _ (named idle) = refl
stable _ _ (named dr_pause) = refl
stable _ _ (named ir_pause) = refl
stable _ _ left_out = refl

cycles_known : (n : ℕ) → n ≤ 16777216 → cycles_of (pos n) ≡ Known n
cycles_known n most =
    let e : nat_lt n 16777217 ≡ true = lt-ltb n 16777217 (omega (arith, most)) in ap (λ c. passed c BadCount n) e

usec_known : (n : ℕ) → usec_of (pos n) ≡ Known n
usec_known n = let e : true ≡ int_le (pos 0) (pos n) = omega (arith, ints) in ap (λ c. passed c BadCount n) (sym e)

hertz_known : (n : ℕ) → hertz_of (pos (suc n)) ≡ Known (suc n)
hertz_known n = let e : true ≡ int_lt (pos 0) (pos (suc n)) = omega (arith, ints) in ap (λ c. passed c BadCount (suc n)) (sym e)

waits_so : (kind : WaitKind) (first second : Option ℕ) (at last : Tap) (vs : List Value) (s : State) (deeds : List Deed) → StaysIn first at → StaysIn second last →
    waited_for kind at last vs ≡ Known deeds → waited kind (tap_or_idle first) (tap_or_idle second) vs s ≡ Known (Falls deeds s)
waits_so kind first second at last vs s deeds is_first is_second e =
    ap (λ tap. waited kind tap (tap_or_idle second) vs s) (tap_is first at is_first)
    ∙ ap (λ tap. waited kind at tap vs s) (tap_is second last is_second)
    ∙ ap (λ c. if c then then_get (waited_for kind at last vs) (λ ds. Known (Falls ds s)) else Stuck) (stable first at is_first)
    ∙ ap (λ g. then_get g (λ ds. Known (Falls ds s))) e

module _ (look : Lookup) (s : State) where
  one_known : (before : Option Value) (e : ExprTree) (z : ℤ) → HasInteger look s e z →
      values_after look s.store.variables before (an_integer e ∷ []) ≡ Known (Int z ∷ [])
  one_known before e z is =
      next_known look s.store.variables before (an_integer e) [] (Int z) [] (plain_known look s.store.variables before kinds.Int e (Int z) is) refl

  two_known : (e f : ExprTree) (y z : ℤ) → HasInteger look s e y → HasInteger look s f z →
      values_of look s.store.variables (an_integer e ∷ an_integer f ∷ []) ≡ Known (Int y ∷ Int z ∷ [])
  two_known e f y z is_e is_f =
      next_known look s.store.variables None (an_integer e) (an_integer f ∷ []) (Int y) (Int z ∷ [])
      (plain_known look s.store.variables None kinds.Int e (Int y) is_e) (one_known (Some (Int y)) f z is_f)

pub waits_clocks : (program : Played) (i n : ℕ) (s : State) (first second : Option ℕ) (at last : Tap) (cycles : ExprTree) →
    StandsAt program i (wait_cycles first cycles None second) → StaysIn first at → StaysIn second last →
    HasInteger (scope_at program i).look s cycles (pos n) → n ≤ 16777216 →
    turn program i s ≡ Leads (Goes at ∷ Stays n ∷ Goes last ∷ []) (i + 1) s
waits_clocks program i n s first second at last cycles stands is_first is_second is most =
    one_row program i s (wait_cycles first cycles None second) (Int (pos n) ∷ []) (Falls (Goes at ∷ Stays n ∷ Goes last ∷ []) s) stands refl
    (one_known (scope_at program i).look s None cycles (pos n) is)
    (waits_so waits.Cycles first second at last (Int (pos n) ∷ []) s (Goes at ∷ Stays n ∷ Goes last ∷ []) is_first is_second
    (ap (λ g. then_get g (λ c. Known (Goes at ∷ Stays c ∷ Goes last ∷ []))) (cycles_known n most)))

pub waits_both : (program : Played) (i n m : ℕ) (s : State) (first second : Option ℕ) (at last : Tap) (cycles usec : ExprTree) →
    StandsAt program i (wait_cycles first cycles (Some usec) second) → StaysIn first at → StaysIn second last →
    HasInteger (scope_at program i).look s cycles (pos n) → n ≤ 16777216 → HasInteger (scope_at program i).look s usec (pos m) →
    turn program i s ≡ Leads (Goes at ∷ Stays n ∷ Says (Usec m) ∷ Goes last ∷ []) (i + 1) s
waits_both program i n m s first second at last cycles usec stands is_first is_second is most is_usec =
    one_row program i s (wait_cycles first cycles (Some usec) second) (Int (pos n) ∷ Int (pos m) ∷ [])
    (Falls (Goes at ∷ Stays n ∷ Says (Usec m) ∷ Goes last ∷ []) s) stands refl
    (two_known (scope_at program i).look s cycles usec (pos n) (pos m) is is_usec)
    (waits_so waits.Both first second at last (Int (pos n) ∷ Int (pos m) ∷ []) s (Goes at ∷ Stays n ∷ Says (Usec m) ∷ Goes last ∷ []) is_first is_second
    (ap (λ g. then_get g (λ c. then_get (usec_of (pos m)) (λ u. Known (Goes at ∷ Stays c ∷ Says (Usec u) ∷ Goes last ∷ [])))) (cycles_known n most)
    ∙ ap (λ g. then_get g (λ u. Known (Goes at ∷ Stays n ∷ Says (Usec u) ∷ Goes last ∷ []))) (usec_known m)))

pub waits_usec : (program : Played) (i m : ℕ) (s : State) (first second : Option ℕ) (at last : Tap) (usec : ExprTree) →
    StandsAt program i (wait_usec first usec second) → StaysIn first at → StaysIn second last →
    HasInteger (scope_at program i).look s usec (pos m) →
    turn program i s ≡ Leads (Goes at ∷ Says (Usec m) ∷ Goes last ∷ []) (i + 1) s
waits_usec program i m s first second at last usec stands is_first is_second is =
    one_row program i s (wait_usec first usec second) (Int (pos m) ∷ []) (Falls (Goes at ∷ Says (Usec m) ∷ Goes last ∷ []) s) stands refl
    (one_known (scope_at program i).look s None usec (pos m) is)
    (waits_so waits.Usec first second at last (Int (pos m) ∷ []) s (Goes at ∷ Says (Usec m) ∷ Goes last ∷ []) is_first is_second
    (ap (λ g. then_get g (λ u. Known (Goes at ∷ Says (Usec u) ∷ Goes last ∷ []))) (usec_known m)))

pub says_hertz : (program : Played) (i n : ℕ) (s : State) (hertz : ExprTree) → StandsAt program i (frequency (Some hertz)) →
    HasInteger (scope_at program i).look s hertz (pos (suc n)) → turn program i s ≡ Leads (Says (Hertz (suc n)) ∷ []) (i + 1) s
says_hertz program i n s hertz stands is =
    one_row program i s (frequency (Some hertz)) (Int (pos (suc n)) ∷ []) (Falls (Says (Hertz (suc n)) ∷ []) s) stands refl
    (one_known (scope_at program i).look s None hertz (pos (suc n)) is)
    (ap (λ g. then_get g (λ h. Known (Falls (Says (Hertz h) ∷ []) s))) (hertz_known n))

pub says_none : (program : Played) (i : ℕ) (s : State) → StandsAt program i (frequency None) → turn program i s ≡ Leads (Says (Hertz 0) ∷ []) (i + 1) s
says_none program i s stands = one_row program i s (frequency None) [] (Falls (Says (Hertz 0) ∷ []) s) stands refl refl refl
