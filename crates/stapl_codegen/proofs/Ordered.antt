-- The parts of a program in order: statements outside procedures, and procedures.
use Rattle.std.proofs.Common.{◌≡◌, Bool, true, false, not, List, [], ◌∷◌, ◌++◌, refl, ap, ◌∙◌, subst}
use Rattle.stapl_syntax.specs.Trees.{BodyTree, end_procedure, StmtTree}
use Rattle.stapl_syntax.specs.Statements.{is_outer, begins_procedure, ends_procedure}
use Rattle.stapl_meaning.specs.Typed.{IsOrdered}
use Rattle.stapl_codegen.specs.Correct.{falls, StandsInProcedure, IsClosed}

clash : (b : Bool) → b ≡ true → b ≡ false → ⊥
clash true e f = absurd cc
clash false e f = absurd cc

-- each statement of a procedure but ENDPROC stands before another one

goes_on : (sts : List StmtTree) → IsOrdered true sts → StandsInProcedure sts
goes_on [] ordered = absurd cc
goes_on (st ∷ rest) ordered = ordered.0

falls_open : (b : BodyTree) → falls b ≡ true → ends_procedure b ≡ false
falls_open end_procedure h = absurd cc
falls_open _ h = refl

pub closed : (inside : Bool) (sts : List StmtTree) → IsOrdered inside sts → IsClosed sts
closed inside [] ordered = tt
closed false (st ∷ rest) ordered =
    ((λ inner f. absurd (clash (is_outer st.body) ordered.0 inner)), closed (begins_procedure st.body) rest ordered.1)
closed true (st ∷ rest) ordered =
    ((λ inner f. goes_on rest (subst (λ (b : Bool). IsOrdered (not b) rest) (falls_open st.body f) ordered.1)), closed (not (ends_procedure st.body)) rest ordered.1)

-- the statements of a procedure: ENDPROC is the last one
abbrev pub AreOwn : List StmtTree → Type 0
AreOwn [] = ⊥
AreOwn (st ∷ []) = (is_outer st.body ≡ false) × (st.body ≡ end_procedure)
AreOwn (st ∷ next ∷ rest) = (is_outer st.body ≡ false) × (ends_procedure st.body ≡ false) × AreOwn (next ∷ rest)

-- a part of a program: a statement outside procedures, and what stands in the procedure that it begins
pub record Part : Type 0 where
  pub head : StmtTree
  pub own : List StmtTree

abbrev pub IsOwnOf : Bool → List StmtTree → Type 0
IsOwnOf true own = AreOwn own
IsOwnOf false own = own ≡ []

pub record IsPart (part : Part) : Type 0 where
  pub outer : is_outer part.head.body ≡ true
  pub own : IsOwnOf (begins_procedure part.head.body) part.own

abbrev pub ArePartsOf : List Part → Type 0
ArePartsOf [] = Unit {0}
ArePartsOf (p ∷ ps) = IsPart p × ArePartsOf ps

abbrev pub statements_in : List Part → List StmtTree
statements_in [] = []
statements_in (p ∷ ps) = p.head ∷ p.own ++ statements_in ps

-- statements are cut into parts, perhaps after those of a procedure
pub record IsCut (inside : Bool) (sts : List StmtTree) : Type 0 where
  pub own : List StmtTree
  pub parts : List Part
  pub is : sts ≡ own ++ statements_in parts
  pub own_is : IsOwnOf inside own
  pub are : ArePartsOf parts

end_is : (b : BodyTree) → ends_procedure b ≡ true → b ≡ end_procedure
end_is end_procedure h = refl
end_is _ h = absurd cc

own_more : (st : StmtTree) (own : List StmtTree) → is_outer st.body ≡ false → ends_procedure st.body ≡ false → AreOwn own → AreOwn (st ∷ own)
own_more st [] inner more are = absurd are
own_more st (next ∷ rest) inner more are = (inner, more, are)

pub cut : (inside : Bool) (sts : List StmtTree) → IsOrdered inside sts → IsCut inside sts
cut false [] ordered = record { own = []; parts = []; is = refl; own_is = refl; are = tt }
cut true [] ordered = absurd cc
cut false (st ∷ rest) ordered =
    let more = cut (begins_procedure st.body) rest ordered.1 in
    record {
      own = [];
      parts = record { head = st; own = more.own } ∷ more.parts;
      is = ap (λ l. st ∷ l) more.is;
      own_is = refl;
      are = (record { outer = ordered.0; own = more.own_is }, more.are);
    }
cut true (st ∷ rest) ordered = by (ends_procedure st.body) refl (cut (not (ends_procedure st.body)) rest ordered.1)
  where
    by : (b : Bool) → ends_procedure st.body ≡ b → IsCut (not (ends_procedure st.body)) rest → IsCut true (st ∷ rest)
    by true e more =
        let none : IsOwnOf false more.own = subst (λ (t : Bool). IsOwnOf (not t) more.own) e more.own_is in
        record {
          own = st ∷ [];
          parts = more.parts;
          is = ap (λ l. st ∷ l) (more.is ∙ ap (λ l. l ++ statements_in more.parts) none);
          own_is = (ordered.0, end_is st.body e);
          are = more.are;
        }
    by false e more = record {
      own = st ∷ more.own;
      parts = more.parts;
      is = ap (λ l. st ∷ l) more.is;
      own_is = own_more st more.own ordered.0 e (subst (λ (t : Bool). IsOwnOf (not t) more.own) e more.own_is);
      are = more.are;
    }
