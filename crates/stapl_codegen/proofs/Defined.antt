-- The procedures and actions of the code of an accepted program are in their ranges.
use Rattle.std.proofs.Common.{◌≡◌, ◌≢◌, ℕ, zero, suc, ◌+◌, ◌<◌, ◌≤◌, List, [], ◌∷◌, length, map, get_or, arith, refl, sym, ap, subst, ◌∙◌, Option, None, Some}
use Rattle.std.specs.Prelude.{All}
use Rattle.std.specs.List.{AllPairs}
use Rattle.std.proofs.lemmas.List.{length-map, get_or-map}
use Rattle.std.proofs.lemmas.List.Elements.{All-nil, All-cons, All-head, All-tail}
use Rattle.stapl_syntax.specs.Trees.{ItemTree, BodyTree, action, procedure, StmtTree}
use Rattle.stapl_syntax.specs.declared.statement.ItemChoice.{ItemChoice}
use Rattle.stapl_syntax.specs.declared.statement.ItemChoice.TheVariants as choices
use Rattle.stapl_syntax.specs.Contents.{IsFreeName, IsWellNamed}
use Rattle.stapl_meaning.specs.Scopes.{Played, procedures_in}
use Rattle.stapl_meaning.specs.Typed.{procedure_name, procedure_names, action_name, action_names, NamesProcedure, NamesProcedures, IsTyped}
use Rattle.stapl_code.specs.declared.raw.ProcDef.{ProcDef}
use Rattle.stapl_code.specs.declared.raw.ActionDef.{ActionDef}
use Rattle.stapl_code.specs.Ranges.{AreProcedures, IsItem, IsAction, AreActions}
use Rattle.stapl_codegen.specs.Emit.{start_of, procedure_def, procedures_from, procedures_of, choice_flag, item_def, action_def, actions_from, actions_of}
use Rattle.stapl_codegen.proofs.Ranges.{Each}
use Rattle.stapl_codegen.proofs.Whole.{Rising}

-- ---- procedures

names_same : (place : ℕ → ℕ) (i : ℕ) (sts : List StmtTree) → map (λ (p : ProcDef). p.name) (procedures_from place i sts) ≡ procedure_names sts
names_same place i [] = refl
names_same place i (st ∷ rest) = by st.body (names_same place (i + 1) rest)
  where
    by : (b : BodyTree) → map (λ (p : ProcDef). p.name) (procedures_from place (i + 1) rest) ≡ procedure_names rest →
        map (λ (p : ProcDef). p.name) (procedure_def (place (i + 1)) b (procedures_from place (i + 1) rest)) ≡ procedure_name b (procedure_names rest)
    by (procedure name uses) more = ap (λ l. name ∷ l) more
    by _ more = more

pub count_same : (place : ℕ → ℕ) (i : ℕ) (sts : List StmtTree) → length (procedures_from place i sts) ≡ procedures_in sts
count_same place i [] = refl
count_same place i (st ∷ rest) = by st.body (count_same place (i + 1) rest)
  where
    by : (b : BodyTree) → length (procedures_from place (i + 1) rest) ≡ procedures_in rest →
        length (procedure_def (place (i + 1)) b (procedures_from place (i + 1) rest)) ≡ procedures_in (record { label = st.label; body = b } ∷ rest)
    by (procedure name uses) more = ap suc more
    by _ more = more

procedures_named : (place : ℕ → ℕ) (i : ℕ) (sts : List StmtTree) → All (λ (st : StmtTree). IsWellNamed st.body) sts → All (λ (p : ProcDef). IsFreeName p.name) (procedures_from place i sts)
procedures_named place i [] named = All-nil (λ (p : ProcDef). IsFreeName p.name)
procedures_named place i (st ∷ rest) named =
    by st.body (All-head (λ (st : StmtTree). IsWellNamed st.body) st rest named) (procedures_named place (i + 1) rest (All-tail (λ (st : StmtTree). IsWellNamed st.body) st rest named))
  where
    by : (b : BodyTree) → IsWellNamed b → All (λ (p : ProcDef). IsFreeName p.name) (procedures_from place (i + 1) rest) →
        All (λ (p : ProcDef). IsFreeName p.name) (procedure_def (place (i + 1)) b (procedures_from place (i + 1) rest))
    by (procedure name uses) free more =
        All-cons (λ (p : ProcDef). IsFreeName p.name) (record { name = name; entry = place (i + 1) }) (procedures_from place (i + 1) rest) free more
    by _ free more = more

each_at : (P : ProcDef → Type 0) (ps : List ProcDef) (k : ℕ) (d : ProcDef) → Each P ps → k < length ps → P (get_or ps k d)
each_at P [] k d each below = absurd (omega (arith, below))
each_at P (p ∷ ps) zero d each below = each.0
each_at P (p ∷ ps) (suc k) d each below = each_at P ps k d each.1 (omega (arith, below))

rising_at : (ps : List ProcDef) (i j : ℕ) (d : ProcDef) → Rising ps → i < j → j < length ps → (get_or ps i d).entry < (get_or ps j d).entry
rising_at [] i j d rise before below = absurd (omega (arith, below))
rising_at (p ∷ ps) zero zero d rise before below = absurd (omega (arith, before))
rising_at (p ∷ ps) zero (suc j) d rise before below = each_at (λ (q : ProcDef). p.entry < q.entry) ps j d rise.0 (omega (arith, below))
rising_at (p ∷ ps) (suc i) zero d rise before below = absurd (omega (arith, before))
rising_at (p ∷ ps) (suc i) (suc j) d rise before below = rising_at ps i j d rise.1 (omega (arith, before)) (omega (arith, below))

-- the names of two items differ if those in the list of names do
apart_at : {A : Type 0} (name : A → List ℕ) (xs : List A) → AllPairs (λ a b. a ≢ b) (map name xs) → AllPairs (λ x y. name x ≢ name y) xs
apart_at name xs apart i j d before below same =
    let long = length-map xs name in
    apart i j (name d) before (omega (arith, below, long))
    (get_or-map name xs i d (name d) (omega (arith, before, below)) ∙ same ∙ sym (get_or-map name xs j d (name d) below))

-- ---- actions

action_names_same : (program : Played) (sts : List StmtTree) → map (λ (a : ActionDef). a.name) (actions_from program sts) ≡ action_names sts
action_names_same program [] = refl
action_names_same program (st ∷ rest) = by st.body (action_names_same program rest)
  where
    by : (b : BodyTree) → map (λ (a : ActionDef). a.name) (actions_from program rest) ≡ action_names rest →
        map (λ (a : ActionDef). a.name) (action_def program b (actions_from program rest)) ≡ action_name b (action_names rest)
    by (action name text items) more = ap (λ l. name ∷ l) more
    by _ more = more

flag_in_range : (choice : Option ItemChoice) → choice_flag choice ≤ 2
flag_in_range None = omega arith
flag_in_range (Some choices.Optional) = omega arith
flag_in_range (Some choices.Recommended) = omega arith

items_in_range : (program : Played) (items : List ItemTree) → All (NamesProcedure program) items → All (IsItem (procedures_in program.pieces)) (map (item_def program) items)
items_in_range program [] there = All-nil (IsItem (procedures_in program.pieces))
items_in_range program (item ∷ items) there =
    All-cons (IsItem (procedures_in program.pieces)) (item_def program item) (map (item_def program) items)
    (record { there = All-head (NamesProcedure program) item items there; flag = flag_in_range item.1 })
    (items_in_range program items (All-tail (NamesProcedure program) item items there))

actions_each : (program : Played) (sts : List StmtTree) → All (λ (st : StmtTree). IsWellNamed st.body) sts → All (λ (st : StmtTree). NamesProcedures program st.body) sts →
    All (IsAction (procedures_in program.pieces)) (actions_from program sts)
actions_each program [] named there = All-nil (IsAction (procedures_in program.pieces))
actions_each program (st ∷ rest) named there =
    by st.body (All-head (λ (st : StmtTree). IsWellNamed st.body) st rest named) (All-head (λ (st : StmtTree). NamesProcedures program st.body) st rest there)
    (actions_each program rest (All-tail (λ (st : StmtTree). IsWellNamed st.body) st rest named) (All-tail (λ (st : StmtTree). NamesProcedures program st.body) st rest there))
  where
    by : (b : BodyTree) → IsWellNamed b → NamesProcedures program b → All (IsAction (procedures_in program.pieces)) (actions_from program rest) →
        All (IsAction (procedures_in program.pieces)) (action_def program b (actions_from program rest))
    by (action name text items) named there more =
        let def : ActionDef = record { name = name; items = map (item_def program) items } in
        let long = length-map items (item_def program) in
        All-cons (IsAction (procedures_in program.pieces)) def (actions_from program rest)
        (record { named = named.0; some = omega (arith, named.1, long); each = items_in_range program items there }) more
    by _ named there more = more

-- an action names a procedure, so there is one
some_item : (program : Played) (items : List ItemTree) → 1 ≤ length items → All (NamesProcedure program) items → 1 ≤ procedures_in program.pieces
some_item program [] some there = absurd (omega (arith, some))
some_item program (item ∷ items) some there = let below = All-head (NamesProcedure program) item items there in omega (arith, below)

some_procedure : (program : Played) (sts : List StmtTree) → All (λ (st : StmtTree). IsWellNamed st.body) sts → All (λ (st : StmtTree). NamesProcedures program st.body) sts →
    1 ≤ length (action_names sts) → 1 ≤ procedures_in program.pieces
some_procedure program [] named there some = absurd (omega (arith, some))
some_procedure program (st ∷ rest) named there some =
    by st.body (All-head (λ (st : StmtTree). IsWellNamed st.body) st rest named) (All-head (λ (st : StmtTree). NamesProcedures program st.body) st rest there) some
    (some_procedure program rest (All-tail (λ (st : StmtTree). IsWellNamed st.body) st rest named) (All-tail (λ (st : StmtTree). NamesProcedures program st.body) st rest there))
  where
    by : (b : BodyTree) → IsWellNamed b → NamesProcedures program b → 1 ≤ length (action_name b (action_names rest)) → (1 ≤ length (action_names rest) → 1 ≤ procedures_in program.pieces) →
        1 ≤ procedures_in program.pieces
    by (action name text items) named there some more = some_item program items named.1 there
    by _ named there some more = more some

module _ (program : Played) (typed : IsTyped program) (named : All (λ (st : StmtTree). IsWellNamed st.body) program.pieces) where
  pub procedures_are : Rising (procedures_of program) → AreProcedures (procedures_of program)
  procedures_are rise =
      let ps : List ProcDef = procedures_of program in
      let some = some_procedure program program.pieces named typed.items typed.some_action in
      let many : length ps ≡ procedures_in program.pieces = count_same (start_of program) 0 program.pieces in
      let apart = apart_at (λ (p : ProcDef). p.name) ps (subst (AllPairs (λ a b. a ≢ b)) (sym (names_same (start_of program) 0 program.pieces)) typed.procedures_apart) in
      record {
        some = omega (arith, some, many);
        named = procedures_named (start_of program) 0 program.pieces named;
        in_order = λ i j d before below. (apart i j d before below, rising_at ps i j d rise before below);
      }

  pub actions_are : AreActions (length (procedures_of program)) (actions_of program)
  actions_are =
      let many : length (procedures_of program) ≡ procedures_in program.pieces = count_same (start_of program) 0 program.pieces in
      let names = ap length (action_names_same program program.pieces) in
      let long = length-map (actions_of program) (λ (a : ActionDef). a.name) in
      let some = typed.some_action in
      subst (λ (n : ℕ). AreActions n (actions_of program)) (sym many) (record {
        some = omega (arith, some, names, long);
        each = actions_each program program.pieces named typed.items;
        names_apart = apart_at (λ (a : ActionDef). a.name) (actions_of program)
            (subst (AllPairs (λ a b. a ≢ b)) (sym (action_names_same program program.pieces)) typed.actions_apart);
      })
