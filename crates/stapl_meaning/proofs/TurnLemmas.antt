-- A statement does one thing: what it does as a relation is what it does as a function.
use Rattle.std.proofs.Common.{◌≡◌, ℕ, ◌+◌, List, [], ◌∷◌, Option, Some, None, refl, sym, ap, subst, ◌∙◌, slice_get}
use Rattle.stapl_syntax.specs.Trees.{BodyTree, StmtTree}
use Rattle.stapl_meaning.specs.Deeds.{Deed}
use Rattle.stapl_meaning.specs.declared.values.Value.{Value}
use Rattle.stapl_meaning.specs.Values.{Got, Known, Faults, Stuck}
use Rattle.stapl_meaning.specs.Operands.{values_of}
use Rattle.stapl_meaning.specs.States.{State, Did, Falls, Jumps, Resumes, Returns, Ends, Captures, Turned, Leads, Over, Broken, Scanning, NoTurn, with_got, preceded, turn_of_piece, next_chosen, jumps_to, led}
use Rattle.stapl_meaning.specs.Scopes.{Scope, Played, scope_at}
use Rattle.stapl_meaning.specs.Turns.{operands, effect, target, rows, HasEffect, Does, follows, operand_faults, effect_faults, falls, scans, jumps, resumes, returns, ends, IsTurn, carried, rows_done, done, turn_of, turn, IsFound}

found_preceded : (deeds : List Deed) (t : Turned) → IsFound t → IsFound (preceded deeds t)
found_preceded deeds (Leads es place s) h = tt
found_preceded deeds (Over es ending s) h = tt
found_preceded deeds (Broken es k s) h = tt
found_preceded deeds (Scanning es job rest) h = h
found_preceded deeds (NoTurn es) h = absurd h

found_after : (deeds : List Deed) (t : Turned) → IsFound (preceded deeds t) → IsFound t
found_after deeds (Leads es place s) h = tt
found_after deeds (Over es ending s) h = tt
found_after deeds (Broken es k s) h = tt
found_after deeds (Scanning es job rest) h = h
found_after deeds (NoTurn es) h = absurd h

pub found_of_piece : (piece : ℕ) (t : Turned) → IsFound t → IsFound (turn_of_piece piece t)
found_of_piece piece (Leads es place s) h = tt
found_of_piece piece (Over es ending s) h = tt
found_of_piece piece (Broken es k s) h = tt
found_of_piece piece (Scanning es job rest) h = λ bits. found_of_piece piece (rest bits) (h bits)
found_of_piece piece (NoTurn es) h = absurd h

found_in_piece : (piece : ℕ) (t : Turned) → IsFound (turn_of_piece piece t) → IsFound t
found_in_piece piece (Leads es place s) h = tt
found_in_piece piece (Over es ending s) h = tt
found_in_piece piece (Broken es k s) h = tt
found_in_piece piece (Scanning es job rest) h = λ bits. found_in_piece piece (rest bits) (h bits)
found_in_piece piece (NoTurn es) h = absurd h

found_chosen : (entry : ℕ → ℕ) (s : State) (chosen : List ℕ) → IsFound (next_chosen entry s chosen)
found_chosen entry s [] = tt
found_chosen entry s (p ∷ ps) = tt

module _ (scope : Scope) where
  -- what follows the values of a row
  abbrev after : BodyTree → State → (State → Turned) → List Value → Turned
  after b s go values = with_got (effect scope b values s) s (λ did. led scope.entry (target scope b) did go)

  has_effect : (b : BodyTree) (s : State) (did : Got Did) (go : State → Turned) → HasEffect scope b s did →
      carried scope b s go ≡ with_got did s (λ did. led scope.entry (target scope b) did go)
  has_effect b s did go has =
      ap (λ g. with_got g s (after b s go)) has.are
      ∙ ap (λ g. with_got g s (λ did. led scope.entry (target scope b) did go)) has.is

  does_done : (bs : List BodyTree) (s : State) (turned : Turned) → Does scope bs s turned → rows_done scope bs s ≡ turned
  does_done _ _ _ (follows s) = refl
  does_done _ _ _ (operand_faults b rest s k e) = ap (λ g. with_got g s (after b s (rows_done scope rest))) e
  does_done _ _ _ (effect_faults b rest s k has) = has_effect b s (Faults k) (rows_done scope rest) has
  does_done _ _ _ (falls b rest s t deeds turned has more) =
      has_effect b s (Known (Falls deeds t)) (rows_done scope rest) has ∙ ap (preceded deeds) (does_done rest t turned more)
  does_done _ _ _ (scans b rest s job lands turned has more) =
      has_effect b s (Known (Captures job lands)) (rows_done scope rest) has
      ∙ (λ j. Scanning [] job (λ bits. does_done rest (lands bits) (turned bits) (more bits) j))
  does_done _ _ _ (jumps b rest s t place has e) =
      has_effect b s (Known (Jumps t)) (rows_done scope rest) has ∙ ap (λ o. jumps_to o t) e
  does_done _ _ _ (resumes b rest s t place has) = has_effect b s (Known (Resumes place t)) (rows_done scope rest) has
  does_done _ _ _ (returns b rest s t has) = has_effect b s (Known (Returns t)) (rows_done scope rest) has
  does_done _ _ _ (ends b rest s t ending has) = has_effect b s (Known (Ends ending t)) (rows_done scope rest) has

  -- the other rows do what the function gives
  abbrev OthersDo : List BodyTree → Type 0
  OthersDo rest = (t : State) → IsFound (rows_done scope rest t) → Does scope rest t (rows_done scope rest t)

  module _ (b : BodyTree) (rest : List BodyTree) (s : State) (others : OthersDo rest) where
    with_target : (values : List Value) (t : State) (to : Option ℕ) → values_of scope.look s.store.variables (operands scope b) ≡ Known values →
        effect scope b values s ≡ Known (Jumps t) → target scope b ≡ to → IsFound (jumps_to to t) → Does scope (b ∷ rest) s (jumps_to to t)
    with_target values t None p q e found = absurd found
    with_target values t (Some place) p q e found = jumps b rest s t place (record { values = values; are = p; is = q }) e

    with_effect : (values : List Value) (g : Got Did) → values_of scope.look s.store.variables (operands scope b) ≡ Known values → effect scope b values s ≡ g →
        IsFound (with_got g s (λ did. led scope.entry (target scope b) did (rows_done scope rest))) →
        Does scope (b ∷ rest) s (with_got g s (λ did. led scope.entry (target scope b) did (rows_done scope rest)))
    with_effect values (Known (Falls deeds t)) p q found =
        falls b rest s t deeds (rows_done scope rest t) (record { values = values; are = p; is = q }) (others t (found_after deeds (rows_done scope rest t) found))
    with_effect values (Known (Captures job lands)) p q found =
        scans b rest s job lands (λ bits. rows_done scope rest (lands bits)) (record { values = values; are = p; is = q })
        (λ bits. others (lands bits) (found bits))
    with_effect values (Known (Jumps t)) p q found = with_target values t (target scope b) p q refl found
    with_effect values (Known (Resumes place t)) p q found = resumes b rest s t place (record { values = values; are = p; is = q })
    with_effect values (Known (Returns t)) p q found = returns b rest s t (record { values = values; are = p; is = q })
    with_effect values (Known (Ends ending t)) p q found = ends b rest s t ending (record { values = values; are = p; is = q })
    with_effect values (Faults k) p q found = effect_faults b rest s k (record { values = values; are = p; is = q })
    with_effect values Stuck p q found = absurd found

    with_values : (g : Got (List Value)) → values_of scope.look s.store.variables (operands scope b) ≡ g →
        IsFound (with_got g s (after b s (rows_done scope rest))) → Does scope (b ∷ rest) s (with_got g s (after b s (rows_done scope rest)))
    with_values (Known values) p found = with_effect values (effect scope b values s) p refl found
    with_values (Faults k) p found = operand_faults b rest s k p
    with_values Stuck p found = absurd found

  done_does : (bs : List BodyTree) (s : State) → IsFound (rows_done scope bs s) → Does scope bs s (rows_done scope bs s)
  done_does [] s found = follows s
  done_does (b ∷ rest) s found = with_values b rest s (done_does rest) (values_of scope.look s.store.variables (operands scope b)) refl found

  is_found : (bs : List BodyTree) (s : State) (turned : Turned) → Does scope bs s turned → IsFound turned
  is_found _ _ _ (follows s) = tt
  is_found _ _ _ (operand_faults b rest s k e) = tt
  is_found _ _ _ (effect_faults b rest s k has) = tt
  is_found _ _ _ (falls b rest s t deeds turned has more) = found_preceded deeds turned (is_found rest t turned more)
  is_found _ _ _ (scans b rest s job lands turned has more) = λ bits. is_found rest (lands bits) (turned bits) (more bits)
  is_found _ _ _ (jumps b rest s t place has e) = tt
  is_found _ _ _ (resumes b rest s t place has) = tt
  is_found _ _ _ (returns b rest s t has) = found_chosen scope.entry t t.chosen
  is_found _ _ _ (ends b rest s t ending has) = tt

-- a turn of a program is what the function gives, where it finds something to do
pub turn_is : (program : Played) (i : ℕ) (s : State) (turned : Turned) → IsTurn program i s turned → (turn program i s ≡ turned) × IsFound turned
turn_is program i s turned at =
    let scope = scope_at program i in
    let bs = rows at.statement.body in (
      ap (turn_of scope (i + 1) s) at.stands ∙ ap (turn_of_piece (i + 1)) (does_done scope bs s at.done at.does) ∙ sym at.is,
      subst IsFound (sym at.is) (found_of_piece (i + 1) at.done (is_found scope bs s at.done at.does)),
    )

pub is_turn : (program : Played) (i : ℕ) (s : State) → IsFound (turn program i s) → IsTurn program i s (turn program i s)
is_turn program i s found = at_statement (slice_get program.pieces i) refl found
  where
    at_statement : (o : Option StmtTree) → slice_get program.pieces i ≡ o → IsFound (turn_of (scope_at program i) (i + 1) s o) → IsTurn program i s (turn_of (scope_at program i) (i + 1) s o)
    at_statement None e found = absurd found
    at_statement (Some st) e found =
        let scope = scope_at program i in
        let does = done_does scope (rows st.body) s (found_in_piece (i + 1) (done scope s st.body) found) in
        record { statement = st; stands = e; done = done scope s st.body; does = does; is = refl }

pub one_turn : (program : Played) (i : ℕ) (s : State) (a b : Turned) → IsTurn program i s a → IsTurn program i s b → a ≡ b
one_turn program i s a b p q = sym (turn_is program i s a p).0 ∙ (turn_is program i s b q).0
