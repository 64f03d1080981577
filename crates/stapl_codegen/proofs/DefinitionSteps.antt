-- A definition more of a code.
use Rattle.std.proofs.Common.{◌≡◌, ℕ, zero, suc, ◌+◌, List, [], ◌∷◌, ◌++◌, map, drop, slice_get, Some, arith, refl, sym, ap, ◌∙◌, append_assoc}
use Rattle.std.specs.List.{range_with_len}
use Rattle.stapl_syntax.specs.Trees.{BodyTree, action, procedure, StmtTree}
use Rattle.stapl_meaning.specs.Scopes.{Played}
use Rattle.stapl_code.specs.declared.raw.ProcDef.{ProcDef}
use Rattle.stapl_code.specs.declared.raw.ActionDef.{ActionDef}
use Rattle.stapl_codegen.specs.Emit.{procedure_def, procedures_from, action_def, actions_from}
use Rattle.std.proofs.lemmas.List.{drop_more}
use Rattle.std.proofs.lemmas.Option.{get_or_from_slice_get, slice_get_within}
use Rattle.stapl_syntax.specs.declared.names.Key.{Key}
use Rattle.stapl_syntax.specs.declared.names.Variable.{Variable}
use Rattle.stapl_code.specs.declared.raw.VarDef.{VarDef}
use Rattle.stapl_codegen.specs.Generated.{variable_def}

pub range_more : (a n : ℕ) → range_with_len a (n + 1) ≡ range_with_len a n ++ (a + n) ∷ []
range_more a n = let next : n + 1 ≡ suc n = omega arith in ap (range_with_len a) next ∙ by a n
  where
    by : (a n : ℕ) → range_with_len a (suc n) ≡ range_with_len a n ++ (a + n) ∷ []
    by a zero = let same : a ≡ a + 0 = omega arith in ap (λ k. k ∷ []) same
    by a (suc n) =
        let same : a + 1 + n ≡ a + suc n = omega arith in
        ap (λ l. a ∷ l) (by (a + 1) n) ∙ ap (λ k. a ∷ range_with_len (a + 1) n ++ k ∷ []) same

-- a list, and what is left of all, after one more
pub one_more : {A : Type 0} (old more rest all new : List A) → new ≡ old ++ more → old ++ (more ++ rest) ≡ all → new ++ rest ≡ all
one_more old more rest all new after so_far = ap (λ l. l ++ rest) after ∙ append_assoc old more rest ∙ so_far

procedure_first : (entry : ℕ) (b : BodyTree) (others : List ProcDef) → procedure_def entry b others ≡ procedure_def entry b [] ++ others
procedure_first entry (procedure name uses) others = refl
procedure_first entry _ others = refl

pub procedures_more : (place : ℕ → ℕ) (i : ℕ) (st : StmtTree) (rest all : List StmtTree) (old new done : List ProcDef) → all ≡ st ∷ rest →
    new ≡ old ++ procedure_def (place (i + 1)) st.body [] → old ++ procedures_from place i all ≡ done → new ++ procedures_from place (i + 1) rest ≡ done
procedures_more place i st rest all old new done is after so_far =
    one_more old (procedure_def (place (i + 1)) st.body []) (procedures_from place (i + 1) rest) done new after
    (ap (λ l. old ++ l) (sym (procedure_first (place (i + 1)) st.body (procedures_from place (i + 1) rest)))
    ∙ sym (ap (λ l. old ++ procedures_from place i l) is) ∙ so_far)

action_first : (program : Played) (b : BodyTree) (others : List ActionDef) → action_def program b others ≡ action_def program b [] ++ others
action_first program (action name text items) others = refl
action_first program _ others = refl

pub actions_more : (program : Played) (st : StmtTree) (rest all : List StmtTree) (old new done : List ActionDef) → all ≡ st ∷ rest →
    new ≡ old ++ action_def program st.body [] → old ++ actions_from program all ≡ done → new ++ actions_from program rest ≡ done
actions_more program st rest all old new done is after so_far =
    one_more old (action_def program st.body []) (actions_from program rest) done new after
    (ap (λ l. old ++ l) (sym (action_first program st.body (actions_from program rest))) ∙ sym (ap (λ l. old ++ actions_from program l) is) ∙ so_far)

-- a variable more
pub variables_more : (vs : List (Key × Variable)) (i : ℕ) (v : Key × Variable) (defs defs' : List VarDef) (def : VarDef) (all : List VarDef) →
    defs ++ map variable_def (drop i vs) ≡ all → slice_get vs i ≡ Some v → def ≡ variable_def v → defs' ≡ defs ++ def ∷ [] → defs' ++ map variable_def (drop (i + 1) vs) ≡ all
variables_more vs i v defs defs' def all so_far at is more =
    let rest : List (Key × Variable) = drop (i + 1) vs in
    let here : drop i vs ≡ v ∷ rest = drop_more vs i v (slice_get_within vs i v at) ∙ ap (λ x. x ∷ rest) (get_or_from_slice_get vs i v v at) in
    ap (λ l. l ++ map variable_def rest) (more ∙ ap (λ d. defs ++ d ∷ []) is)
    ∙ append_assoc defs (variable_def v ∷ []) (map variable_def rest)
    ∙ ap (λ l. defs ++ map variable_def l) (sym here)
    ∙ so_far
