-- A block that is open at a place was begun by a PROCEDURE in front of it, and no ENDPROC stands between them.
use Rattle.std.proofs.Common.{◌≡◌, ◌≢◌, ℕ, zero, suc, ◌+◌, ◌<◌, ◌≤◌, ◌⊎◌, inl, inr, true, false, List, [], ◌∷◌, length, take, map, get_or, slice_get, Option, Some, None, refl, sym, ap, subst, ◌∙◌, arith}
use Rattle.std.specs.Prelude.{All}
use Rattle.std.specs.List.{AllPairs}
use Rattle.std.proofs.lemmas.List.Elements.{All-head, All-tail}
use Rattle.std.proofs.lemmas.Option.{same_Some, none-some}
use Rattle.stapl_syntax.specs.Trees.{BodyTree, procedure, data_block, end_procedure, end_data, StmtTree}
use Rattle.stapl_syntax.specs.Statements.{ends_procedure}
use Rattle.stapl_syntax.specs.Names.{numbered_from, inside_next, inside_from}
use Rattle.stapl_meaning.specs.Scopes.{plays, block_at}
use Rattle.stapl_meaning.specs.Typed.{procedure_name, procedure_names}
use Rattle.stapl_meaning.proofs.Ordered.{IsNoData, is_no_data}

-- the statement is no part of a DATA block
abbrev Plays : StmtTree → Type 0
Plays st = plays None st.body ≡ true

-- the statement is the PROCEDURE of this name
abbrev pub IsProcedure : List ℕ → BodyTree → Type 0
IsProcedure block (procedure name uses) = name ≡ block
IsProcedure block _ = ⊥

-- no ENDPROC stands from one place on before another
abbrev pub NoneEnds : List StmtTree → ℕ → ℕ → Type 0
NoneEnds sts from to = (k : ℕ) (st : StmtTree) → from ≤ k → k < to → slice_get sts k ≡ Some st → ends_procedure st.body ≡ false

pub record IsOpened (sts : List StmtTree) (to : ℕ) (block : List ℕ) : Type 0 where
  pub at : ℕ
  pub below : at < to
  pub head : StmtTree
  pub stands : slice_get sts at ≡ Some head
  pub begins : IsProcedure block head.body
  pub none : NoneEnds sts (suc at) to

-- the block was open before, and is still, or it is opened
abbrev IsOpen : Option (List ℕ) → List StmtTree → ℕ → List ℕ → Type 0
IsOpen now sts to block = ((now ≡ Some block) × NoneEnds sts 0 to) ⊎ IsOpened sts to block

none_before : (st : StmtTree) (rest : List StmtTree) (to : ℕ) → ends_procedure st.body ≡ false → NoneEnds rest 0 to → NoneEnds (st ∷ rest) 0 (suc to)
none_before st rest to ends none = λ k s from below at. by k s below at
  where
    by : (k : ℕ) (s : StmtTree) → k < suc to → slice_get (st ∷ rest) k ≡ Some s → ends_procedure s.body ≡ false
    by zero s below at = ap (λ (x : StmtTree). ends_procedure x.body) (sym (same_Some st s at)) ∙ ends
    by (suc k) s below at = none k s (omega arith) (omega (arith, below)) at

none_after : (st : StmtTree) (rest : List StmtTree) (from to : ℕ) → NoneEnds rest from to → NoneEnds (st ∷ rest) (suc from) (suc to)
none_after st rest from to none = λ k s above below at. by k s above below at
  where
    by : (k : ℕ) (s : StmtTree) → suc from ≤ k → k < suc to → slice_get (st ∷ rest) k ≡ Some s → ends_procedure s.body ≡ false
    by zero s above below at = absurd (omega (arith, above))
    by (suc k) s above below at = none k s (omega (arith, above)) (omega (arith, below)) at

one_more : (now : Option (List ℕ)) (st : StmtTree) (rest : List StmtTree) (to : ℕ) (block : List ℕ) → IsNoData st.body →
    IsOpen (inside_next now st.body) rest to block → IsOpen now (st ∷ rest) (suc to) block
one_more now st rest to block plain (inr opened) =
    inr (record {
      at = suc opened.at;
      below = omega (arith, opened.below);
      head = opened.head;
      stands = opened.stands;
      begins = opened.begins;
      none = none_after st rest (suc opened.at) to opened.none;
    })
one_more now st rest to block plain (inl (is, none)) = by st.body refl plain is
  where
    here : (b : BodyTree) → st.body ≡ b → IsProcedure block b → IsOpen now (st ∷ rest) (suc to) block
    here b same begins =
        inr (record {
          at = 0;
          below = omega arith;
          head = st;
          stands = refl;
          begins = subst (IsProcedure block) (sym same) begins;
          none = none_after st rest 0 to none;
        })

    still : (b : BodyTree) → st.body ≡ b → ends_procedure b ≡ false → now ≡ Some block → IsOpen now (st ∷ rest) (suc to) block
    still b same ends within = inl (within, none_before st rest to (ap ends_procedure same ∙ ends) none)

    by : (b : BodyTree) → st.body ≡ b → IsNoData b → inside_next now b ≡ Some block → IsOpen now (st ∷ rest) (suc to) block
    by (procedure name uses) same plain within = here (procedure name uses) same (same_Some name block within)
    by (data_block name) same plain within = absurd plain
    by end_procedure same plain within = absurd (none-some block within)
    by end_data same plain within = absurd (none-some block within)
    by b same plain within = still b same refl within

opened_from : (now : Option (List ℕ)) (n : ℕ) (sts : List StmtTree) (to : ℕ) (block : List ℕ) → All Plays sts →
    inside_from now (numbered_from n (take to (map Some sts))) ≡ Some block → IsOpen now sts to block
opened_from now n sts zero block play within = inl (within, λ k st from below at. absurd (omega (arith, below)))
opened_from now n [] (suc to) block play within = inl (within, λ k st from below at. absurd (none-some st at))
opened_from now n (st ∷ rest) (suc to) block play within =
    one_more now st rest to block (is_no_data st.body (All-head Plays st rest play))
    (opened_from (inside_next now st.body) (n + 1) rest to block (All-tail Plays st rest play) within)

pub opened : (program : List StmtTree) (i : ℕ) (block : List ℕ) → All Plays program → block_at program i ≡ Some block → IsOpened program i block
opened program i block play within = by (opened_from None 1 program i block play within)
  where
    by : IsOpen None program i block → IsOpened program i block
    by (inl (is, none)) = absurd (none-some block is)
    by (inr is) = is

-- a PROCEDURE stands once, if the names of procedures differ

pub record IsAmong (name : List ℕ) (names : List (List ℕ)) : Type 0 where
  pub place : ℕ
  pub below : place < length names
  pub is : get_or names place name ≡ name

among_more : (b : BodyTree) (name : List ℕ) (names : List (List ℕ)) → IsAmong name names → IsAmong name (procedure_name b names)
among_more (procedure p uses) name names among = record { place = suc among.place; below = omega (arith, among.below); is = among.is }
among_more _ name names among = among

among_here : (b : BodyTree) (name : List ℕ) (names : List (List ℕ)) → IsProcedure name b → IsAmong name (procedure_name b names)
among_here (procedure p uses) name names is = record { place = 0; below = omega arith; is = is }
among_here _ name names is = absurd is

among : (sts : List StmtTree) (i : ℕ) (st : StmtTree) (name : List ℕ) → slice_get sts i ≡ Some st → IsProcedure name st.body → IsAmong name (procedure_names sts)
among [] i st name at is = absurd (none-some st at)
among (x ∷ rest) zero st name at is =
    among_here x.body name (procedure_names rest) (subst (λ (s : StmtTree). IsProcedure name s.body) (sym (same_Some x st at)) is)
among (x ∷ rest) (suc i) st name at is = among_more x.body name (procedure_names rest) (among rest i st name at is)

-- names that differ, but for the first one
apart_more : (b : BodyTree) (names : List (List ℕ)) → AllPairs (λ a b. a ≢ b) (procedure_name b names) → AllPairs (λ a b. a ≢ b) names
apart_more (procedure p uses) names apart = λ i j d before below. apart (suc i) (suc j) d (omega (arith, before)) (omega (arith, below))
apart_more _ names apart = apart

not_again : (b : BodyTree) (name : List ℕ) (names : List (List ℕ)) → AllPairs (λ a b. a ≢ b) (procedure_name b names) → IsProcedure name b → IsAmong name names → ⊥
not_again (procedure p uses) name names apart is more =
    apart 0 (suc more.place) name (omega arith) (omega (arith, more.below)) (is ∙ sym more.is)
not_again _ name names apart is more = is

pub once : (sts : List StmtTree) (i j : ℕ) (a b : StmtTree) (name : List ℕ) → AllPairs (λ a b. a ≢ b) (procedure_names sts) →
    slice_get sts i ≡ Some a → IsProcedure name a.body → slice_get sts j ≡ Some b → IsProcedure name b.body → i ≡ j
once [] i j a b name apart at is at' is' = absurd (none-some a at)
once (x ∷ rest) zero zero a b name apart at is at' is' = refl
once (x ∷ rest) zero (suc j) a b name apart at is at' is' =
    absurd (not_again x.body name (procedure_names rest) apart (subst (λ (s : StmtTree). IsProcedure name s.body) (sym (same_Some x a at)) is) (among rest j b name at' is'))
once (x ∷ rest) (suc i) zero a b name apart at is at' is' =
    absurd (not_again x.body name (procedure_names rest) apart (subst (λ (s : StmtTree). IsProcedure name s.body) (sym (same_Some x b at')) is') (among rest i a name at is))
once (x ∷ rest) (suc i) (suc j) a b name apart at is at' is' =
    ap suc (once rest i j a b name (apart_more x.body (procedure_names rest) apart) at is at' is')
