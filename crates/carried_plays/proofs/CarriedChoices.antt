-- The choices of the program that carries its padding, and the whole law.
use Rattle.std.proofs.Common.{◌≡◌, ℕ, ◌+◌, ◌&&◌, Bool, true, false, cond, if◌then◌else◌, List, [], ◌∷◌, ◌++◌, map, All, Option, Some, None, refl, sym, ap, subst, ◌∙◌, arith}
use Rattle.std.proofs.lemmas.Bool.{true≢false, or_parts}
use Rattle.std.proofs.lemmas.List.Elements.{All-head, All-tail}
use Rattle.std.specs.List.{filter}
use Rattle.std.specs.Str.{bytes_eq}
use Rattle.stapl_syntax.specs.Trees.{ItemTree, BodyTree, action, StmtTree}
use Rattle.stapl_syntax.specs.Programs.{IsProgram}
use Rattle.stapl_syntax.specs.Rules.{is_action}
use Rattle.dev_card.specs.Padding.{BaseLengths}
use Rattle.stapl_meaning.specs.Choices.{item_runs, item_procedure, procedures_run, are_choices, Choice, no_action, bad_choice, chosen, items_before, items_from, choice_among, choice_of}
use Rattle.stapl_syntax.specs.declared.statement.ItemChoice.TheVariants.{Optional, Recommended}
use Rattle.stapl_meaning.specs.Scopes.{Played, as_played, procedures_in, procedure_number}
use Rattle.stapl_meaning.specs.Typed.{NamesProcedure, NamesProcedures, IsTyped}
use Rattle.carried_plays.specs.CarriedPrograms.{padding_procedure, body_with_item, with_item, IsEnd, carried_with, choice_with}
use Rattle.carried_plays.specs.PadNames.{IsFree}
use Rattle.carried_plays.specs.OwnPaddings.{sets_padding, has_own_padding}
use Rattle.carried_plays.specs.CarriedRuns.{AreShort, CarriesPadding}
use Rattle.carried_plays.proofs.CarriedTurns.{AreBelow}
use Rattle.carried_plays.proofs.CarriedPieces.{EachBody, NotNamed, IsApart, procedures_join, no_procedures, new_number}
use Rattle.carried_plays.proofs.CarriedSteps.{IsCarried, same_number}
use Rattle.carried_plays.proofs.BlockNames.{IsUnknown, free_is_unknown}
use Rattle.carried_plays.proofs.GivenValues.{given}
use Rattle.carried_plays.proofs.WholePlays.{AreOthers, plays_same}
use Rattle.carried_plays.proofs.CarriedNames.{EndsWell, is_carried, are_others, bare_pieces}
use Rattle.carried_plays.proofs.ProgramEnds.{program_ends_well}

-- the items of an action, with the new one first
abbrev with_first : List ℕ → Option (List ItemTree) → Option (List ItemTree)
with_first name None = None
with_first name (Some items) = Some ((name, None) ∷ items)

module _ (name : List ℕ) where
  first_if : (t : Bool) (items : List ItemTree) (x y : Option (List ItemTree)) → x ≡ with_first name y
      → cond t (Some ((name, None) ∷ items)) x ≡ with_first name (cond t (Some items) y)
  first_if true items x y e = refl
  first_if false items x y e = e

  first_before : (b : BodyTree) (sought : List ℕ) (x y : Option (List ItemTree)) → x ≡ with_first name y
      → items_before (body_with_item name b) sought x ≡ with_first name (items_before b sought y)
  first_before (action own text items) sought x y e = first_if (bytes_eq sought own) items x y e
  first_before _ sought x y e = e

  no_items : (b : BodyTree) (sought : List ℕ) (x : Option (List ItemTree)) → is_action b ≡ false → items_before b sought x ≡ x
  no_items (action own text items) sought x e = absurd (true≢false e)
  no_items _ sought x e = refl

  none_apart : (tail : List StmtTree) (sought : List ℕ) → EachBody IsApart tail → items_from tail sought ≡ None
  none_apart [] sought h = refl
  none_apart (x ∷ tail) sought h = no_items x.body sought (items_from tail sought) h.0.no_action ∙ none_apart tail sought h.1

  items_same : (base : BaseLengths) (front tail end : List StmtTree) (sought : List ℕ) → EachBody IsApart tail → EachBody IsApart end
      → items_from (map (with_item name) front ++ (padding_procedure name base ++ end)) sought ≡ with_first name (items_from (front ++ tail) sought)
  items_same base [] tail end sought h k = none_apart end sought k ∙ sym (ap (with_first name) (none_apart tail sought h))
  items_same base (x ∷ front) tail end sought h k =
      first_before x.body sought (items_from (map (with_item name) front ++ (padding_procedure name base ++ end)) sought) (items_from (front ++ tail) sought)
      (items_same base front tail end sought h k)

-- ---- what items name

module _ (program : Played) where
  abbrev AreNamed : Option (List ItemTree) → Type 0
  AreNamed None = Unit {0}
  AreNamed (Some items) = All (NamesProcedure program) items

  named_if : (t : Bool) (items : List ItemTree) (o : Option (List ItemTree)) → All (NamesProcedure program) items → AreNamed o → AreNamed (cond t (Some items) o)
  named_if true items o h k = h
  named_if false items o h k = k

  named_before : (b : BodyTree) (sought : List ℕ) (o : Option (List ItemTree)) → NamesProcedures program b → AreNamed o → AreNamed (items_before b sought o)
  named_before (action own text items) sought o h k = named_if (bytes_eq sought own) items o h k
  named_before _ sought o h k = k

  items_named : (xs : List StmtTree) (sought : List ℕ) → All (λ (st : StmtTree). NamesProcedures program st.body) xs → AreNamed (items_from xs sought)
  items_named [] sought h = tt
  items_named (x ∷ xs) sought h =
      named_before x.body sought (items_from xs sought) (All-head (λ (st : StmtTree). NamesProcedures program st.body) x xs h)
      (items_named xs sought (All-tail (λ (st : StmtTree). NamesProcedures program st.body) x xs h))

  below_if : (t : Bool) (item : ItemTree) (items : List ItemTree) → NamesProcedure program item → AreBelow (procedures_in program.pieces) (map (item_procedure program) items)
      → AreBelow (procedures_in program.pieces) (map (item_procedure program) (cond t (item ∷ items) items))
  below_if true item items h k = (h, k)
  below_if false item items h k = k

  below_items : (items : List ItemTree) (test : ItemTree → Bool) → All (NamesProcedure program) items
      → AreBelow (procedures_in program.pieces) (map (item_procedure program) (filter test items))
  below_items [] test h = tt
  below_items (item ∷ items) test h =
      below_if (test item) item (filter test items) (All-head (NamesProcedure program) item items h) (below_items items test (All-tail (NamesProcedure program) item items h))

  -- a choice is of procedures of the program
  abbrev IsKnownChoice : Choice → Type 0
  IsKnownChoice no_action = Unit {0}
  IsKnownChoice bad_choice = Unit {0}
  IsKnownChoice (chosen ps) = AreBelow (procedures_in program.pieces) ps

  known_if : (t : Bool) (ps : List ℕ) → AreBelow (procedures_in program.pieces) ps → IsKnownChoice (if t then chosen ps else bad_choice)
  known_if true ps h = h
  known_if false ps h = tt

  known_among : (o : Option (List ItemTree)) (asked skipped : List (List ℕ)) → AreNamed o → IsKnownChoice (choice_among program o asked skipped)
  known_among None asked skipped h = tt
  known_among (Some items) asked skipped h =
      known_if (are_choices Optional items asked && are_choices Recommended items skipped) (procedures_run program asked skipped items) (below_items items (item_runs asked skipped) h)

pub known_choice : (program : Played) → IsTyped program → (sought : List ℕ) (asked skipped : List (List ℕ)) (procedures : List ℕ)
    → choice_of program sought asked skipped ≡ chosen procedures → AreBelow (procedures_in program.pieces) procedures
known_choice program typed sought asked skipped procedures e =
    subst (IsKnownChoice program) e
    (known_among program (items_from program.pieces sought) asked skipped (items_named program program.pieces sought typed.items))

-- ---- the choices of both programs

choice_if : (t : Bool) (n : ℕ) (xs ys : List ℕ) → xs ≡ n ∷ ys → (if t then chosen xs else bad_choice) ≡ choice_with n (if t then chosen ys else bad_choice)
choice_if true n xs ys e = ap chosen e
choice_if false n xs ys e = refl

module _ (name : List ℕ) (base : BaseLengths) (old new : Played) (h : IsCarried name base old new) (typed : IsTyped old) (bare : EachBody (λ b. sets_padding b ≡ false) old.pieces)
    (unnamed : EachBody (NotNamed name) h.front) where
  last_number : procedure_number new.pieces name ≡ procedures_in old.pieces
  last_number =
      let more : procedures_in old.pieces ≡ procedures_in h.front + procedures_in h.tail = ap procedures_in h.old_is ∙ procedures_join name h.front h.tail in
      let none : procedures_in h.tail ≡ 0 = no_procedures name h.tail h.apart in
      let rest : List StmtTree = drop_first (padding_procedure name base) ++ h.end in
      ap (λ (ps : List StmtTree). procedure_number ps name) h.new_is ∙ new_number name h.front rest unnamed ∙ join (procedures_in h.front) (procedures_in h.tail) (procedures_in old.pieces) more none
    where
      drop_first : List StmtTree → List StmtTree
      drop_first [] = []
      drop_first (x ∷ xs) = xs

      join : (x y z : ℕ) → z ≡ x + y → y ≡ 0 → x ≡ z
      join x y z e f = omega arith

  same_if : (t : Bool) (item : ItemTree) (items : List ItemTree) → NamesProcedure old item → map (item_procedure new) items ≡ map (item_procedure old) items
      → map (item_procedure new) (cond t (item ∷ items) items) ≡ map (item_procedure old) (cond t (item ∷ items) items)
  same_if true item items k e = ap (λ p. p ∷ map (item_procedure new) items) (same_number name base old new h typed bare item.0 k) ∙ ap (λ t. item_procedure old item ∷ t) e
  same_if false item items k e = e

  same_procedures : (items : List ItemTree) (test : ItemTree → Bool) → All (NamesProcedure old) items
      → map (item_procedure new) (filter test items) ≡ map (item_procedure old) (filter test items)
  same_procedures [] test k = refl
  same_procedures (item ∷ items) test k =
      same_if (test item) item (filter test items) (All-head (NamesProcedure old) item items k) (same_procedures items test (All-tail (NamesProcedure old) item items k))

  among_same : (o : Option (List ItemTree)) (asked skipped : List (List ℕ)) → AreNamed old o
      → choice_among new (with_first name o) asked skipped ≡ choice_with (procedures_in old.pieces) (choice_among old o asked skipped)
  among_same None asked skipped k = refl
  among_same (Some items) asked skipped k =
      choice_if (are_choices Optional items asked && are_choices Recommended items skipped) (procedures_in old.pieces)
      (procedures_run new asked skipped ((name, None) ∷ items)) (procedures_run old asked skipped items)
      (ap (λ p. p ∷ procedures_run new asked skipped items) last_number ∙ ap (λ t. procedures_in old.pieces ∷ t) (same_procedures items (item_runs asked skipped) k))

  pub choices_same : (sought : List ℕ) (asked skipped : List (List ℕ))
      → choice_of new sought asked skipped ≡ choice_with (procedures_in old.pieces) (choice_of old sought asked skipped)
  choices_same sought asked skipped =
      let items : items_from new.pieces sought ≡ with_first name (items_from old.pieces sought) =
      ap (λ (ps : List StmtTree). items_from ps sought) h.new_is ∙ items_same name base h.front h.tail h.end sought h.apart h.end_apart
      ∙ ap (λ (ps : List StmtTree). with_first name (items_from ps sought)) (sym h.old_is) in
      ap (λ o. choice_among new o asked skipped) items
      ∙ among_same (items_from old.pieces sought) asked skipped (items_named old old.pieces sought typed.items)

-- ---- the whole

each_bare : (xs : List StmtTree) → has_own_padding xs ≡ false → EachBody (λ b. sets_padding b ≡ false) xs
each_bare [] e = tt
each_bare (x ∷ xs) e = let p = or_parts (sets_padding x.body) (has_own_padding xs) e in (p.0, each_bare xs p.1)

front_part : (P : BodyTree → Type 0) (xs ys : List StmtTree) → EachBody P (xs ++ ys) → EachBody P xs
front_part P [] ys h = tt
front_part P (x ∷ xs) ys h = (h.0, front_part P xs ys h.1)

pub carries : (text : List ℕ) (end program : List StmtTree) (name : List ℕ) (base : BaseLengths) → IsTyped (as_played program) → IsProgram text program → has_own_padding program ≡ false
    → IsFree name program → IsEnd end → AreShort base → CarriesPadding name base end program
carries text end program name base typed is bare free closes short =
    let old : Played = as_played program in
    let new : Played = as_played (carried_with name base end program) in
    let ends : EndsWell program = program_ends_well text program is in
    let unknown : IsUnknown name program = free_is_unknown name program free in
    let h : IsCarried name base old new = is_carried name base end program ends closes unknown in
    let b : EachBody (λ b. sets_padding b ≡ false) old.pieces = bare_pieces program (each_bare program bare) in
    let others : AreOthers name (given old.presets) = are_others name base end program ends closes unknown in
    record {
      choices = choices_same name base old new h typed b (front_part (NotNamed name) h.front h.tail h.fresh);
      plays = λ sought asked skipped procedures e n far live.
          plays_same name base old new h typed b others short.ir_pre short.ir_post short.dr_pre short.dr_post procedures n
          (known_choice old typed sought asked skipped procedures e) far live;
    }
