-- What the search for the first break does to kinds is what the rules say of them. The search has the topmost kind
-- first, and the rules have it last.
use Rattle.std.proofs.Common.{◌≡◌, ◌≢◌, ℕ, zero, suc, ◌<◌, ◌⊎◌, inl, inr, Bool, true, false, List, [], ◌∷◌, ◌++◌, reverse, Option, Some, None, length, Contains, arith, refl, sym, ap, subst, ◌∙◌, append_assoc, append-nil}
use Rattle.std.specs.Prelude.{◌==◌, slice_get, slice_index_or, is_some, if◌then◌else◌}
use Rattle.std.specs.List.{list_all}
use Rattle.std.proofs.lemmas.Bool.{and_parts}
use Rattle.std.proofs.lemmas.Bool.Decides.{nat_tests}
use Rattle.std.proofs.lemmas.List.{reverse-reverse}
use Rattle.std.proofs.lemmas.Grind.{reverse_onto}
use Rattle.stapl_meaning.specs.declared.values.ValueKind.{ValueKind}
use Rattle.stapl_meaning.specs.declared.values.ValueKind.TheVariants.{Int, Bit}
use Rattle.stapl_code.specs.declared.raw.VarDef.{VarDef}
use Rattle.stapl_code.specs.declared.instr.Instr.{Instr}
use Rattle.stapl_code.specs.Machine.{Slot, Of, OfScalar, OfElement, Want, AnInteger, ABoolean, AnArray, OfBits, OfInts, takes, gives, wants}
use Rattle.stapl_code.specs.Kinds.{off, then_kinds, scalar_kind, variable_kind, item_kind, element_kind, is_of_kind, put_on, taken_off, left_by, clears, slot_kind, is_met, all_off, all_on, kinds_moved, kinds_after}
use Rattle.stapl_code.proofs.KindCounts.{then_some, met_and_after}
use Rattle.code_rules.specs.KindMoves.{scalar_number, array_number, IsVariableOf, IsOfSlot, AreOfSlots, HasWanted, MovesKinds}
use Rattle.code_rules.proofs.InstructionTests.{Agrees, refused, denied, one_false}

off_is : (k : ValueKind) (ks below : List ValueKind) → off k ks ≡ Some below → ks ≡ k ∷ below
off_is k [] below e = absurd cc
off_is Int (Int ∷ ks) below e = cc
off_is Bit (Bit ∷ ks) below e = cc
off_is Int (Bit ∷ ks) below e = absurd cc
off_is Bit (Int ∷ ks) below e = absurd cc

off_top : (k : ValueKind) (ks : List ValueKind) → off k (k ∷ ks) ≡ Some ks
off_top Int ks = refl
off_top Bit ks = refl

-- the kinds of scalars, and of elements
scalar_by : (kind : ℕ) (a b : Bool) → (kind == 0) ≡ a → (kind == 1) ≡ b → (k : ValueKind) →
    (if a then Some Int else (if b then Some Bit else None)) ≡ Some k → kind ≡ scalar_number k
scalar_by kind true b ea eb Int e = grind (arith, nat_tests)
scalar_by kind true b ea eb Bit e = absurd cc
scalar_by kind false true ea eb Int e = absurd cc
scalar_by kind false true ea eb Bit e = grind (arith, nat_tests)
scalar_by kind false false ea eb k e = absurd cc

scalar_yes : (kind : ℕ) (k : ValueKind) → scalar_kind kind ≡ Some k → kind ≡ scalar_number k
scalar_yes kind k e = scalar_by kind (kind == 0) (kind == 1) refl refl k e

scalar_is : (kind : ℕ) (k : ValueKind) → kind ≡ scalar_number k → scalar_kind kind ≡ Some k
scalar_is kind Int e = ap scalar_kind e
scalar_is kind Bit e = ap scalar_kind e

item_by : (kind : ℕ) (a b : Bool) → (kind == 2) ≡ a → (kind == 3) ≡ b → (k : ValueKind) →
    (if a then Some Int else (if b then Some Bit else None)) ≡ Some k → kind ≡ array_number k
item_by kind true b ea eb Int e = grind (arith, nat_tests)
item_by kind true b ea eb Bit e = absurd cc
item_by kind false true ea eb Int e = absurd cc
item_by kind false true ea eb Bit e = grind (arith, nat_tests)
item_by kind false false ea eb k e = absurd cc

item_yes : (kind : ℕ) (k : ValueKind) → item_kind kind ≡ Some k → kind ≡ array_number k
item_yes kind k e = item_by kind (kind == 2) (kind == 3) refl refl k e

item_is : (kind : ℕ) (k : ValueKind) → kind ≡ array_number k → item_kind kind ≡ Some k
item_is kind Int e = ap item_kind e
item_is kind Bit e = ap item_kind e

-- all items of a list pass a test, or one does not
module _ {A : Type 0} (p : A → Bool) where
  found_more : (w : A) (ws : List A) → ((v : A) × Contains ws v × (p v ≡ false)) → (v : A) × Contains (w ∷ ws) v × (p v ≡ false)
  found_more w ws r = (r.0, (suc r.1.0, omega (arith, r.1.1), r.1.2), r.2)

  pub find_false : (ws : List A) → list_all p ws ≡ false → (w : A) × Contains ws w × (p w ≡ false)
  find_false [] e = absurd cc
  find_false (w ∷ ws) e =
      elim (one_false (p w) (list_all p ws) e) [ inl a ↦ (w, (0, omega arith, refl), a) | inr b ↦ found_more w ws (find_false ws b) ]

  pub holds_in : (ws : List A) (k : ℕ) (w : A) → list_all p ws ≡ true → k < length ws → slice_index_or ws k w ≡ w → p w ≡ true
  holds_in [] k w e h at = absurd (omega arith)
  holds_in (v ∷ ws) zero w e h at = ap p (sym at) ∙ (and_parts (p v) (list_all p ws) e).0
  holds_in (v ∷ ws) (suc k) w e h at = holds_in ws k w (and_parts (p v) (list_all p ws) e).1 (omega arith) at

module _ (variables : List VarDef) where
  variable_yes : (n : ℕ) (o : Option VarDef) → slice_get variables n ≡ o → (k : ValueKind) → variable_kind o ≡ Some k →
      IsVariableOf variables (scalar_number k) n
  variable_yes n None at k e = absurd cc
  variable_yes n (Some v) at k e = record { variable = v; there = at; kind_is = scalar_yes v.kind k e }

  element_yes : (n : ℕ) (o : Option VarDef) → slice_get variables n ≡ o → (k : ValueKind) → element_kind o ≡ Some k →
      IsVariableOf variables (array_number k) n
  element_yes n None at k e = absurd cc
  element_yes n (Some v) at k e = record { variable = v; there = at; kind_is = item_yes v.kind k e }

  slot_yes : (slot : Slot) (k : ValueKind) → slot_kind variables slot ≡ Some k → IsOfSlot variables slot k
  slot_yes (Of j) k e = cc
  slot_yes (OfScalar n) k e = variable_yes n (slice_get variables n) refl k e
  slot_yes (OfElement n) k e = element_yes n (slice_get variables n) refl k e

  slot_is : (slot : Slot) (k : ValueKind) → IsOfSlot variables slot k → slot_kind variables slot ≡ Some k
  slot_is (Of j) k h = ap Some h
  slot_is (OfScalar n) k h = ap variable_kind h.there ∙ scalar_is h.variable.kind k h.kind_is
  slot_is (OfElement n) k h = ap element_kind h.there ∙ item_is h.variable.kind k h.kind_is

  kind_by : (kind n : ℕ) (o : Option VarDef) → slice_get variables n ≡ o → Agrees (IsVariableOf variables kind n) (is_of_kind kind o)
  kind_by kind n None at = refused (λ h. let there = h.there in cc)
  kind_by kind n (Some v) at = record {
    yes = λ e. record { variable = v; there = at; kind_is = grind (arith, nat_tests) };
    is = λ h. let there = h.there in let same : h.variable ≡ v = cc in let kind_is : v.kind ≡ kind = ap (λ w. w.kind) (sym same) ∙ h.kind_is in
        grind (arith, nat_tests);
  }

  kind_agrees : (kind n : ℕ) → Agrees (IsVariableOf variables kind n) (is_of_kind kind (slice_get variables n))
  kind_agrees kind n = kind_by kind n (slice_get variables n) refl

  array_by : (n : ℕ) (o : Option ValueKind) → element_kind (slice_get variables n) ≡ o → is_some o ≡ true → IsVariableOf variables 2 n ⊎ IsVariableOf variables 3 n
  array_by n None at e = absurd cc
  array_by n (Some Int) at e = inl (element_yes n (slice_get variables n) refl Int at)
  array_by n (Some Bit) at e = inr (element_yes n (slice_get variables n) refl Bit at)

  array_is : (n : ℕ) → IsVariableOf variables 2 n ⊎ IsVariableOf variables 3 n → is_some (element_kind (slice_get variables n)) ≡ true
  array_is n (inl h) = ap is_some (slot_is (OfElement n) Int h)
  array_is n (inr h) = ap is_some (slot_is (OfElement n) Bit h)

  want_agrees : (want : Want) → Agrees (HasWanted variables want) (is_met variables want)
  want_agrees (AnInteger n) = kind_agrees 0 n
  want_agrees (ABoolean n) = kind_agrees 1 n
  want_agrees (AnArray n) = record { yes = λ e. array_by n (element_kind (slice_get variables n)) refl e; is = λ h. array_is n h }
  want_agrees (OfBits n) = kind_agrees 3 n
  want_agrees (OfInts n) = kind_agrees 2 n

  -- kinds that are taken off, and kinds that are put on
  off_some : (o : Option ValueKind) (ks below : List ValueKind) → taken_off o ks ≡ Some below → (k : ValueKind) × (o ≡ Some k) × (ks ≡ k ∷ below)
  off_some None ks below e = absurd cc
  off_some (Some k) ks below e = (k, refl, off_is k ks below e)

  on_some : (o : Option ValueKind) (ks above : List ValueKind) → put_on o ks ≡ Some above → (k : ValueKind) × (o ≡ Some k) × (above ≡ k ∷ ks)
  on_some None ks above e = absurd cc
  on_some (Some k) ks above e = (k, refl, cc)

  one_before : (k : ValueKind) (front back : List ValueKind) → reverse (k ∷ front) ++ back ≡ reverse front ++ (k ∷ back)
  one_before k front back = ap (λ l. l ++ back) (reverse_onto front k []) ∙ append_assoc (reverse front) (k ∷ []) back

  off_all : (slots : List Slot) (ks below : List ValueKind) → all_off variables slots ks ≡ Some below →
      (taken : List ValueKind) × AreOfSlots variables slots taken × (reverse ks ≡ reverse below ++ taken)
  off_all [] ks below e = let same : ks ≡ below = cc in ([], tt, ap reverse same ∙ sym (append-nil (reverse below)))
  off_all (slot ∷ slots) ks below e =
      let t = then_some (all_off variables slots ks) (taken_off (slot_kind variables slot)) below e in
      let top = off_some (slot_kind variables slot) t.0 below t.2 in
      let r = off_all slots ks t.0 t.1 in
      (top.0 ∷ r.0, (slot_yes slot top.0 top.1, r.1), r.2 ∙ ap (λ l. reverse l ++ r.0) top.2 ∙ one_before top.0 below r.0)

  all_are_off : (slots : List Slot) (taken : List ValueKind) → AreOfSlots variables slots taken → (ks below : List ValueKind) →
      reverse ks ≡ reverse below ++ taken → all_off variables slots ks ≡ Some below
  all_are_off [] [] h ks below e = ap Some (sym (reverse-reverse ks) ∙ ap reverse (e ∙ append-nil (reverse below)) ∙ reverse-reverse below)
  all_are_off [] (k ∷ taken) h ks below e = absurd h
  all_are_off (slot ∷ slots) [] h ks below e = absurd h
  all_are_off (slot ∷ slots) (k ∷ taken) h ks below e =
      let rest = all_are_off slots taken h.1 ks (k ∷ below) (e ∙ sym (one_before k below taken)) in
      ap (λ o. then_kinds o (taken_off (slot_kind variables slot))) rest ∙ ap (λ o. taken_off o (k ∷ below)) (slot_is slot k h.0) ∙ off_top k below

  on_all : (slots : List Slot) (ks after : List ValueKind) → all_on variables slots ks ≡ Some after →
      (given : List ValueKind) × AreOfSlots variables slots given × (reverse after ≡ reverse ks ++ given)
  on_all [] ks after e = let same : after ≡ ks = cc in ([], tt, ap reverse same ∙ sym (append-nil (reverse ks)))
  on_all (slot ∷ slots) ks after e =
      let t = then_some (put_on (slot_kind variables slot) ks) (all_on variables slots) after e in
      let top = on_some (slot_kind variables slot) ks t.0 t.1 in
      let r = on_all slots t.0 after t.2 in
      (top.0 ∷ r.0, (slot_yes slot top.0 top.1, r.1), r.2 ∙ ap (λ l. reverse l ++ r.0) top.2 ∙ one_before top.0 ks r.0)

  all_are_on : (slots : List Slot) (given : List ValueKind) → AreOfSlots variables slots given → (ks after : List ValueKind) →
      reverse after ≡ reverse ks ++ given → all_on variables slots ks ≡ Some after
  all_are_on [] [] h ks after e = ap Some (sym (sym (reverse-reverse after) ∙ ap reverse (e ∙ append-nil (reverse ks)) ∙ reverse-reverse ks))
  all_are_on [] (k ∷ given) h ks after e = absurd h
  all_are_on (slot ∷ slots) [] h ks after e = absurd h
  all_are_on (slot ∷ slots) (k ∷ given) h ks after e =
      let rest = all_are_on slots given h.1 (k ∷ ks) after (e ∙ sym (one_before k ks given)) in
      ap (λ o. then_kinds (put_on o ks) (all_on variables slots)) (slot_is slot k h.0) ∙ rest

  -- the kinds that are left below, if an instruction moves kinds
  pub record IsMoved (x : Instr) (ks after : List ValueKind) : Type 0 where
    pub below : List ValueKind
    pub takes_off : all_off variables (takes x) ks ≡ Some below
    pub puts_on : all_on variables (gives x) below ≡ Some after

  pub moves_kinds : (x : Instr) (ks after : List ValueKind) → IsMoved x ks after → MovesKinds variables x (reverse ks) (reverse after)
  moves_kinds x ks after m =
      let t = off_all (takes x) ks m.below m.takes_off in
      let g = on_all (gives x) m.below after m.puts_on in
      record { others = reverse m.below; taken = t.0; given = g.0; takes_them = t.1; gives_them = g.1; kinds_are = t.2; after_are = g.2 }

  pub kinds_are_moved : (x : Instr) (ks after : List ValueKind) → MovesKinds variables x (reverse ks) after → IsMoved x ks (reverse after)
  kinds_are_moved x ks after m =
      let again : reverse (reverse m.others) ≡ m.others = reverse-reverse m.others in
      record {
        below = reverse m.others;
        takes_off = all_are_off (takes x) m.taken m.takes_them ks (reverse m.others) (m.kinds_are ∙ ap (λ l. l ++ m.taken) (sym again));
        puts_on = all_are_on (gives x) m.given m.gives_them (reverse m.others) (reverse after)
            (reverse-reverse after ∙ m.after_are ∙ ap (λ l. l ++ m.given) (sym again));
      }

  moved_once : (x : Instr) (ks after other : List ValueKind) → IsMoved x ks after → IsMoved x ks other → after ≡ other
  moved_once x ks after other m n =
      let ms = m.takes_off in
      let ns = n.takes_off in
      let same : m.below ≡ n.below = cc in
      let mp = m.puts_on in
      let np = ap (all_on variables (gives x)) same ∙ n.puts_on in
      cc

  -- an instruction moves kinds in one way
  pub moves_once : (x : Instr) (kinds after other : List ValueKind) → MovesKinds variables x kinds after → MovesKinds variables x kinds other → after ≡ other
  moves_once x kinds after other m n =
      let back : kinds ≡ reverse (reverse kinds) = sym (reverse-reverse kinds) in
      let m' = kinds_are_moved x (reverse kinds) after (subst (λ l. MovesKinds variables x l after) back m) in
      let n' = kinds_are_moved x (reverse kinds) other (subst (λ l. MovesKinds variables x l other) back n) in
      sym (reverse-reverse after) ∙ ap reverse (moved_once x (reverse kinds) (reverse after) (reverse other) m' n') ∙ reverse-reverse other

  left_is : (clear : Bool) (below left : List ValueKind) → left_by clear below ≡ Some left → (below ≡ left) × (clear ≡ true → below ≡ [])
  left_is true [] left e = (cc, λ f. refl)
  left_is true (k ∷ below) left e = absurd cc
  left_is false below left e = (cc, λ f. absurd cc)

  -- what the kinds after an instruction say
  pub record FindsAll (x : Instr) (ks after : List ValueKind) : Type 0 where
    pub met : (want : Want) → Contains (wants x) want → HasWanted variables want
    pub moved : IsMoved x ks after
    pub emptied : clears x ≡ true → moved.below ≡ []

  pub finds_all : (x : Instr) (ks after : List ValueKind) → kinds_after variables x ks ≡ Some after → FindsAll x ks after
  finds_all x ks after e =
      let both = met_and_after variables x ks after e in
      let beyond : List ValueKind → Option (List ValueKind) = λ ks. then_kinds (left_by (clears x) ks) (all_on variables (gives x)) in
      let t = then_some (all_off variables (takes x) ks) beyond after both.1 in
      let u = then_some (left_by (clears x) t.0) (all_on variables (gives x)) after t.2 in
      let left = left_is (clears x) t.0 u.0 u.1 in
      record {
        met = λ want in_wants. (want_agrees want).yes (holds_in (is_met variables) (wants x) in_wants.0 want both.0 in_wants.1 in_wants.2);
        moved = record { below = t.0; takes_off = t.1; puts_on = ap (all_on variables (gives x)) left.0 ∙ u.2 };
        emptied = left.1;
      }

  -- why there are no kinds after an instruction: a variable is of another kind, operands are missing, or one is left
  pub data LacksKinds (x : Instr) (ks : List ValueKind) : Type 0 where
    lacks_variable : (want : Want) → Contains (wants x) want → (HasWanted variables want → ⊥) → LacksKinds x ks
    lacks_operand : ((after : List ValueKind) → IsMoved x ks after → ⊥) → LacksKinds x ks
    leaves_operand : (below : List ValueKind) → clears x ≡ true → all_off variables (takes x) ks ≡ Some below → below ≢ [] → LacksKinds x ks

  lacks_by : (x : Instr) (ks below : List ValueKind) (clear : Bool) → clears x ≡ clear → all_off variables (takes x) ks ≡ Some below →
      then_kinds (left_by clear below) (all_on variables (gives x)) ≡ None → LacksKinds x ks
  lacks_by x ks [] true c at e = lacks_operand (λ after m.
      let off = m.takes_off in
      let same : ◌≡◌ {A = List ValueKind} m.below [] = cc in
      let on = ap (all_on variables (gives x)) (sym same) ∙ m.puts_on in
      cc)
  lacks_by x ks (k ∷ below) true c at e = leaves_operand (k ∷ below) c at (λ f. cc)
  lacks_by x ks below false c at e = lacks_operand (λ after m.
      let off = m.takes_off in
      let same : m.below ≡ below = cc in
      let on = ap (all_on variables (gives x)) (sym same) ∙ m.puts_on in
      cc)

  lacks_moves : (x : Instr) (ks : List ValueKind) (o : Option (List ValueKind)) → all_off variables (takes x) ks ≡ o →
      then_kinds o (λ below. then_kinds (left_by (clears x) below) (all_on variables (gives x))) ≡ None → LacksKinds x ks
  lacks_moves x ks None at e = lacks_operand (λ after m. let off = m.takes_off in cc)
  lacks_moves x ks (Some below) at e = lacks_by x ks below (clears x) refl at e

  lacks_met : (x : Instr) (ks : List ValueKind) (met : Bool) → list_all (is_met variables) (wants x) ≡ met →
      (if met then kinds_moved variables x ks else None) ≡ None → LacksKinds x ks
  lacks_met x ks true m e = lacks_moves x ks (all_off variables (takes x) ks) refl e
  lacks_met x ks false m e =
      let w = find_false (is_met variables) (wants x) m in lacks_variable w.0 w.1 (denied (want_agrees w.0) w.2)

  pub lacks : (x : Instr) (ks : List ValueKind) → kinds_after variables x ks ≡ None → LacksKinds x ks
  lacks x ks e = lacks_met x ks (list_all (is_met variables) (wants x)) refl e
