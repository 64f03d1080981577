-- The choice in the code of a program is the choice in the program.
use Rattle.std.proofs.Common.{◌≡◌, ◌<◌, ℕ, suc, ◌+◌, List, [], ◌∷◌, map, arith, refl, sym, ap, ◌∙◌, Bool, true, false, ◌==◌, ◌&&◌, ◌||◌, not, Option, None, Some, if◌then◌else◌}
use Rattle.std.specs.Prelude.{All, slice_get}
use Rattle.std.specs.List.{find, filter, list_any}
use Rattle.std.specs.Option.{option_map_or}
use Rattle.std.specs.Str.{bytes_eq}
use Rattle.std.proofs.lemmas.List.Elements.{All-head, All-tail}
use Rattle.std.proofs.lemmas.Slice.Eq.{bytes_eq-Decides}
use Rattle.stapl_syntax.specs.declared.statement.ItemChoice.{ItemChoice}
use Rattle.stapl_syntax.specs.declared.statement.ItemChoice.TheVariants.{Optional, Recommended}
use Rattle.stapl_syntax.specs.Trees.{ItemTree, BodyTree, action, procedure, StmtTree}
use Rattle.stapl_syntax.specs.Programs.{IsProgram}
use Rattle.stapl_meaning.specs.Choices.{Choice, is_one_of, runs_by, item_runs, item_procedure, procedures_run, is_choice, are_choices, bad_choice, chosen, items_before, items_from, choice_among, choice_of}
use Rattle.stapl_meaning.specs.Scopes.{Played, as_played, procedures_in, procedure_before, procedure_number}
use Rattle.stapl_meaning.specs.Typed.{NamesProcedure, NamesProcedures, IsTyped}
use Rattle.stapl_code.specs.declared.raw.ProcDef.{ProcDef}
use Rattle.stapl_code.specs.declared.raw.ItemDef.{ItemDef}
use Rattle.stapl_code.specs.declared.raw.ActionDef.{ActionDef}
use Rattle.stapl_code.specs.declared.raw.CodeLists.{CodeLists}
use Rattle.stapl_codegen.specs.Emit.{start_of, procedure_def, procedures_from, procedures_of, choice_flag, item_def, action_def, actions_from}
use Rattle.stapl_codegen.specs.Generated.{IsCodeOf}
use Rattle.stapl_player.specs.Choices.{optional, recommended, bears, bears_one, runs, running, are_offered, choice_in, code_choice}
use Rattle.play_words.specs.declared.requests.PlayRequest.{PlayRequest}

-- The procedure of the number of a name bears that name.

abbrev bears_at : List ProcDef → List ℕ → ℕ → Bool
bears_at procedures name number = option_map_or (λ (p : ProcDef). bytes_eq name p.name) (slice_get procedures number) false

named_at : (place : ℕ → ℕ) (i : ℕ) (sts : List StmtTree) (own name : List ℕ) → procedure_number sts own < procedures_in sts →
    bears_at (procedures_from place i sts) name (procedure_number sts own) ≡ bytes_eq name own
named_at place i [] own name below = absurd (omega (arith, below))
named_at place i (st ∷ rest) own name below = by st.body below (named_at place (i + 1) rest own name)
  where
    by : (b : BodyTree) → procedure_before b own (procedure_number rest own) < procedures_in (record { label = st.label; body = b } ∷ rest) →
        (procedure_number rest own < procedures_in rest → bears_at (procedures_from place (i + 1) rest) name (procedure_number rest own) ≡ bytes_eq name own) →
        bears_at (procedure_def (place (i + 1)) b (procedures_from place (i + 1) rest)) name (procedure_before b own (procedure_number rest own)) ≡ bytes_eq name own
    by (procedure p uses) below more = here (bytes_eq own p) refl below
      where
        here : (same : Bool) → bytes_eq own p ≡ same → (if same then 0 else suc (procedure_number rest own)) < suc (procedures_in rest) →
            bears_at (record { name = p; entry = place (i + 1) } ∷ procedures_from place (i + 1) rest) name (if same then 0 else suc (procedure_number rest own)) ≡ bytes_eq name own
        here true e below = ap (bytes_eq name) (sym ((bytes_eq-Decides own p).0 e))
        here false e below = more (omega (arith, below))
    by _ below more = more below

bears_same : (program : Played) (name : List ℕ) (item : ItemTree) → NamesProcedure program item → bears (procedures_of program) name (item_def program item) ≡ bytes_eq name item.0
bears_same program name item there = named_at (start_of program) 0 program.pieces item.0 name there

bears_one_same : (program : Played) (item : ItemTree) → NamesProcedure program item → (names : List (List ℕ)) →
    bears_one (procedures_of program) names (item_def program item) ≡ is_one_of names item.0
bears_one_same program item there [] = refl
bears_one_same program item there (name ∷ names) = λ j. bears_same program name item there j || bears_one_same program item there names j

-- The same items run.

and_true : (b : Bool) → (b && true) ≡ b
and_true true = refl
and_true false = refl

runs_same : (program : Played) (asked skipped : List (List ℕ)) (item : ItemTree) → NamesProcedure program item →
    runs (procedures_of program) asked skipped (item_def program item) ≡ item_runs asked skipped item
runs_same program asked skipped item there = by item.1
  where
    asked_one : bears_one (procedures_of program) asked (item_def program item) ≡ is_one_of asked item.0
    asked_one = bears_one_same program item there asked

    skipped_one : bears_one (procedures_of program) skipped (item_def program item) ≡ is_one_of skipped item.0
    skipped_one = bears_one_same program item there skipped

    by : (choice : Option ItemChoice) →
        ((not (choice_flag choice == optional) || bears_one (procedures_of program) asked (item_def program item))
        && (not (choice_flag choice == recommended) || not (bears_one (procedures_of program) skipped (item_def program item)))) ≡ runs_by choice item.0 asked skipped
    by None = refl
    by (Some Optional) = and_true (bears_one (procedures_of program) asked (item_def program item)) ∙ asked_one
    by (Some Recommended) = λ j. not (skipped_one j)

kept : {A B : Type 0} (f : A → B) (b : Bool) (x : A) (xs : List A) → map f (if b then x ∷ xs else xs) ≡ (if b then f x ∷ map f xs else map f xs)
kept f true x xs = refl
kept f false x xs = refl

running_same : (program : Played) (asked skipped : List (List ℕ)) (items : List ItemTree) → All (NamesProcedure program) items →
    running (procedures_of program) asked skipped (map (item_def program) items) ≡ procedures_run program asked skipped items
running_same program asked skipped [] there = refl
running_same program asked skipped (item ∷ items) there =
    let more : running (procedures_of program) asked skipped (map (item_def program) items) ≡ procedures_run program asked skipped items =
    running_same program asked skipped items (All-tail (NamesProcedure program) item items there) in
    let here : runs (procedures_of program) asked skipped (item_def program item) ≡ item_runs asked skipped item =
    runs_same program asked skipped item (All-head (NamesProcedure program) item items there) in
    let number : ℕ = item_procedure program item in
    kept (λ (d : ItemDef). d.procedure) (runs (procedures_of program) asked skipped (item_def program item)) (item_def program item)
    (filter (runs (procedures_of program) asked skipped) (map (item_def program) items))
    ∙ (λ j. if here j then number ∷ more j else more j)
    ∙ sym (kept (item_procedure program) (item_runs asked skipped item) item (filter (item_runs asked skipped) items))

-- The same names may be chosen.

-- the flag of a choice
abbrev flag_of : ItemChoice → ℕ
flag_of Optional = optional
flag_of Recommended = recommended

flag_same : (choice : ItemChoice) (own : Option ItemChoice) → (choice_flag own == flag_of choice) ≡ is_choice choice own
flag_same Optional None = refl
flag_same Optional (Some Optional) = refl
flag_same Optional (Some Recommended) = refl
flag_same Recommended None = refl
flag_same Recommended (Some Optional) = refl
flag_same Recommended (Some Recommended) = refl

one_same : (program : Played) (choice : ItemChoice) (name : List ℕ) (items : List ItemTree) → All (NamesProcedure program) items →
    list_any (λ (item : ItemDef). (item.flag == flag_of choice) && bears (procedures_of program) name item) (map (item_def program) items)
    ≡ list_any (λ (item : ItemTree). is_choice choice item.1 && bytes_eq name item.0) items
one_same program choice name [] there = refl
one_same program choice name (item ∷ items) there =
    let flag : (choice_flag item.1 == flag_of choice) ≡ is_choice choice item.1 = flag_same choice item.1 in
    let own : bears (procedures_of program) name (item_def program item) ≡ bytes_eq name item.0 =
    bears_same program name item (All-head (NamesProcedure program) item items there) in
    let more : list_any (λ (item : ItemDef). (item.flag == flag_of choice) && bears (procedures_of program) name item) (map (item_def program) items)
    ≡ list_any (λ (item : ItemTree). is_choice choice item.1 && bytes_eq name item.0) items =
    one_same program choice name items (All-tail (NamesProcedure program) item items there) in
    λ j. (flag j && own j) || more j

offered_same : (program : Played) (choice : ItemChoice) (items : List ItemTree) → All (NamesProcedure program) items → (names : List (List ℕ)) →
    are_offered (procedures_of program) (flag_of choice) (map (item_def program) items) names ≡ are_choices choice items names
offered_same program choice items there [] = refl
offered_same program choice items there (name ∷ names) = λ j. one_same program choice name items there j && offered_same program choice items there names j

-- So the choice is the same: in the items of an action, and in the action of a name.

items_same : (program : Played) (asked skipped : List (List ℕ)) (name : List ℕ) (items : List ItemTree) → All (NamesProcedure program) items →
    choice_in (procedures_of program) (Some (record { name = name; items = map (item_def program) items })) asked skipped ≡ choice_among program (Some items) asked skipped
items_same program asked skipped name items there =
    let optionals : are_offered (procedures_of program) optional (map (item_def program) items) asked ≡ are_choices Optional items asked =
    offered_same program Optional items there asked in
    let recommendeds : are_offered (procedures_of program) recommended (map (item_def program) items) skipped ≡ are_choices Recommended items skipped =
    offered_same program Recommended items there skipped in
    let run : running (procedures_of program) asked skipped (map (item_def program) items) ≡ procedures_run program asked skipped items =
    running_same program asked skipped items there in
    λ j. if optionals j && recommendeds j then chosen (run j) else bad_choice

actions_same : (program : Played) (asked skipped : List (List ℕ)) (name : List ℕ) (sts : List StmtTree) → All (λ (st : StmtTree). NamesProcedures program st.body) sts →
    choice_in (procedures_of program) (find (λ (a : ActionDef). bytes_eq name a.name) (actions_from program sts)) asked skipped
    ≡ choice_among program (items_from sts name) asked skipped
actions_same program asked skipped name [] there = refl
actions_same program asked skipped name (st ∷ rest) there =
    by st.body (All-head (λ (st : StmtTree). NamesProcedures program st.body) st rest there)
    (actions_same program asked skipped name rest (All-tail (λ (st : StmtTree). NamesProcedures program st.body) st rest there))
  where
    by : (b : BodyTree) → NamesProcedures program b →
        choice_in (procedures_of program) (find (λ (a : ActionDef). bytes_eq name a.name) (actions_from program rest)) asked skipped
        ≡ choice_among program (items_from rest name) asked skipped →
        choice_in (procedures_of program) (find (λ (a : ActionDef). bytes_eq name a.name) (action_def program b (actions_from program rest))) asked skipped
        ≡ choice_among program (items_before b name (items_from rest name)) asked skipped
    by (action own text items) named more = found (bytes_eq name own)
      where
        found : (same : Bool) →
            choice_in (procedures_of program)
            (if same then Some (record { name = own; items = map (item_def program) items }) else find (λ (a : ActionDef). bytes_eq name a.name) (actions_from program rest)) asked skipped
            ≡ choice_among program (if same then Some items else items_from rest name) asked skipped
        found true = items_same program asked skipped own items named
        found false = more
    by _ named more = more

pub same_choice : {program : Played} {code : CodeLists} (name : List ℕ) (asked skipped : List (List ℕ)) → IsTyped program → IsCodeOf program code →
    code_choice code name asked skipped ≡ choice_of program name asked skipped
same_choice {program = program} name asked skipped typed is =
    ap (λ (lists : CodeLists). code_choice lists name asked skipped) is.lists ∙ actions_same program asked skipped name program.pieces typed.items

-- What the choice in the code of a program comes to, it comes to in the program.
pub choice_in_program : {bytes : List ℕ} {program : List StmtTree} {code : CodeLists} {choice : Choice} (request : PlayRequest) →
    ((text : List ℕ) (statements : List StmtTree) → IsProgram text statements → IsTyped (as_played statements)) → IsProgram bytes program →
    IsCodeOf (as_played program) code → code_choice code request.action request.todo request.skip ≡ choice →
    choice_of (as_played program) request.action request.todo request.skip ≡ choice
choice_in_program {bytes = bytes} {program = program} request typed is code e =
    sym (same_choice request.action request.todo request.skip (typed bytes program is) code) ∙ e
