-- What holds of each state of a statement holds of the states of its rows, and of its turn.
use Rattle.std.proofs.Common.{◌≡◌, ℕ, ◌+◌, Bool, List, [], ◌∷◌, Option, Some, None, subst, sym, slice_get}
use Rattle.stapl_syntax.specs.Trees.{BodyTree, StmtTree}
use Rattle.stapl_meaning.specs.Deeds.{Deed}
use Rattle.stapl_meaning.specs.declared.values.Value.{Value}
use Rattle.stapl_meaning.specs.Values.{Got, Known, Faults, Stuck, then_get}
use Rattle.stapl_meaning.specs.Operands.{values_of}
use Rattle.stapl_meaning.specs.States.{State, Did, Falls, Captures, Jumps, Resumes, Returns, Ends, Turned, Leads, Over, Broken, Scanning, NoTurn, with_got, preceded, turn_of_piece, next_chosen, jumps_to, led}
use Rattle.stapl_meaning.specs.Scopes.{Scope, Played, scope_at}
use Rattle.stapl_meaning.specs.Turns.{operands, effect, target, rows, rows_done, done, turn_of, turn}
use Rattle.effect_laws.specs.Kept.{HoldsAfter}

-- it holds of each state of what is done; whichever procedure is next where one has ended
abbrev pub InDid : (State → Type 0) → Did → Type 0
InDid Q (Falls deeds t) = Q t
InDid Q (Captures scan lands) = (bits : List Bool) → Q (lands bits)
InDid Q (Jumps t) = Q t
InDid Q (Resumes place t) = Q t
InDid Q (Returns t) = (chosen : List ℕ) → Q (record t { chosen = chosen })
InDid Q (Ends ending t) = Q t

-- something holds of the value that is got, if it is one
abbrev pub Has : {A : Type 0} → (A → Type 0) → Got A → Type 0
Has P (Known x) = P x
Has P (Faults k) = Unit {0}
Has P Stuck = Unit {0}

pub then_has : {A B : Type 0} (P : A → Type 0) (R : B → Type 0) (g : Got A) (go : A → Got B) → Has P g →
    ((x : A) → P x → Has R (go x)) → Has R (then_get g go)
then_has P R (Known x) go p q = q x p
then_has P R (Faults k) go p q = tt
then_has P R Stuck go p q = tt

pub any_has : {A B : Type 0} (R : B → Type 0) (g : Got A) (go : A → Got B) → ((x : A) → Has R (go x)) → Has R (then_get g go)
any_has R (Known x) go q = q x
any_has R (Faults k) go q = tt
any_has R Stuck go q = tt

module _ (Q : State → Type 0) where
  in_preceded : (deeds : List Deed) (t : Turned) → HoldsAfter Q t → HoldsAfter Q (preceded deeds t)
  in_preceded deeds (Leads ds place t) h = h
  in_preceded deeds (Over ds ending t) h = h
  in_preceded deeds (Broken ds k t) h = h
  in_preceded deeds (Scanning ds scan rest) h = h
  in_preceded deeds (NoTurn ds) h = tt

  in_piece : (piece : ℕ) (t : Turned) → HoldsAfter Q t → HoldsAfter Q (turn_of_piece piece t)
  in_piece piece (Leads ds place t) h = h
  in_piece piece (Over ds ending t) h = h
  in_piece piece (Broken ds k t) h = h
  in_piece piece (Scanning ds scan rest) h = λ bits. in_piece piece (rest bits) (h bits)
  in_piece piece (NoTurn ds) h = tt

  in_jump : (to : Option ℕ) (t : State) → Q t → HoldsAfter Q (jumps_to to t)
  in_jump None t h = tt
  in_jump (Some place) t h = h

  in_next : (entry : ℕ → ℕ) (t : State) (chosen : List ℕ) → ((cs : List ℕ) → Q (record t { chosen = cs })) → HoldsAfter Q (next_chosen entry t chosen)
  in_next entry t [] h = h []
  in_next entry t (p ∷ ps) h = h ps

  module _ (scope : Scope) where
    abbrev pub RowKeeps : BodyTree → Type 0
    RowKeeps b = (values : List Value) (t : State) → Q t → Has (InDid Q) (effect scope b values t)

    abbrev pub RowsKeep : List BodyTree → Type 0
    RowsKeep [] = Unit {0}
    RowsKeep (b ∷ bs) = RowKeeps b × RowsKeep bs

    in_led : (to : Option ℕ) (s : State) (g : Got Did) (go : State → Turned) → Q s → Has (InDid Q) g → ((t : State) → Q t → HoldsAfter Q (go t)) →
        HoldsAfter Q (with_got g s (λ did. led scope.entry to did go))
    in_led to s (Known (Falls deeds t)) go q h more = in_preceded deeds (go t) (more t h)
    in_led to s (Known (Captures scan lands)) go q h more = λ bits. more (lands bits) (h bits)
    in_led to s (Known (Jumps t)) go q h more = in_jump to t h
    in_led to s (Known (Resumes place t)) go q h more = h
    in_led to s (Known (Returns t)) go q h more = in_next scope.entry t t.chosen h
    in_led to s (Known (Ends ending t)) go q h more = h
    in_led to s (Faults k) go q h more = q
    in_led to s Stuck go q h more = tt

    in_row : (b : BodyTree) (s : State) (g : Got (List Value)) (go : State → Turned) → Q s → RowKeeps b → ((t : State) → Q t → HoldsAfter Q (go t)) →
        HoldsAfter Q (with_got g s (λ values. with_got (effect scope b values s) s (λ did. led scope.entry (target scope b) did go)))
    in_row b s (Known values) go q keeps more = in_led (target scope b) s (effect scope b values s) go q (keeps values s q) more
    in_row b s (Faults k) go q keeps more = q
    in_row b s Stuck go q keeps more = tt

    in_rows : (bs : List BodyTree) (s : State) → Q s → RowsKeep bs → HoldsAfter Q (rows_done scope bs s)
    in_rows [] s q h = q
    in_rows (b ∷ bs) s q h =
        in_row b s (values_of scope.look s.store.variables (operands scope b)) (rows_done scope bs) q h.0 (λ t r. in_rows bs t r h.1)

  pub in_turn : (program : Played) (i : ℕ) (s : State) (st : StmtTree) → slice_get program.pieces i ≡ Some st → Q s →
      RowsKeep (scope_at program i) (rows st.body) → HoldsAfter Q (turn program i s)
  in_turn program i s st stands q h =
      subst (λ o. HoldsAfter Q (turn_of (scope_at program i) (i + 1) s o)) (sym stands)
      (in_piece (i + 1) (done (scope_at program i) s st.body) (in_rows (scope_at program i) (rows st.body) s q h))
