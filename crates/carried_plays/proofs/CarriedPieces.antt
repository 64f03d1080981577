-- The pieces of a program that carries its padding: each statement of a procedure stands at its old place, in its old
-- block, and finds its old labels and procedures; the new procedure is the last one.
use Rattle.std.proofs.Common.{◌≡◌, ℕ, zero, suc, ◌+◌, ◌-◌, ◌<◌, Bool, true, false, cond, List, [], ◌∷◌, ◌++◌, length, map, take, Option, Some, None, slice_get, refl, sym, ap, ◌∙◌, arith}
use Rattle.std.proofs.lemmas.Bool.{true≢false}
use Rattle.std.proofs.lemmas.Option.{same_Some, none-some}
use Rattle.std.proofs.lemmas.Slice.Eq.{bytes_eq-Decides}
use Rattle.std.specs.List.{AllByRecursion}
use Rattle.std.specs.Map.{lookup}
use Rattle.std.specs.Option.{option_map_or}
use Rattle.std.specs.Str.{bytes_eq}
use Rattle.stapl_syntax.specs.declared.names.Key.{Key}
use Rattle.stapl_syntax.specs.Trees.{BodyTree, action, procedure, data_block, end_data, end_procedure, StmtTree}
use Rattle.stapl_syntax.specs.Statements.{is_outer, begins_procedure}
use Rattle.stapl_syntax.specs.Rules.{is_action}
use Rattle.stapl_syntax.specs.Names.{Names, numbered_from, inside_next, inside_from, key_in, key_eq}
use Rattle.stapl_meaning.specs.Scopes.{block_at, label_from, procedures_in, procedure_before, procedure_number, entry_from}
use Rattle.canonical_text.specs.Examples.{bare_statement}
use Rattle.carried_plays.specs.CarriedPrograms.{body_with_item, with_item}

-- a fact holds of the body of each statement
abbrev pub EachBody : (BodyTree → Type 0) → List StmtTree → Type 0
EachBody P xs = AllByRecursion (λ (st : StmtTree). P st.body) xs

-- it begins no block of this name
abbrev pub NotNamed : List ℕ → BodyTree → Type 0
NotNamed name (procedure p uses) = bytes_eq name p ≡ false
NotNamed name (data_block p) = bytes_eq name p ≡ false
NotNamed name _ = Unit {0}

-- it stands outside procedures, begins none, and is no action
pub record IsApart (b : BodyTree) : Type 0 where
  pub outer : is_outer b ≡ true
  pub no_procedure : begins_procedure b ≡ false
  pub no_action : is_action b ≡ false

module _ (name : List ℕ) where
  inner_stays : (b : BodyTree) → is_outer b ≡ false → body_with_item name b ≡ b
  inner_stays (action own text items) e = absurd (true≢false e)
  inner_stays _ e = refl

  begins_stays : (b : BodyTree) → begins_procedure (body_with_item name b) ≡ begins_procedure b
  begins_stays (action own text items) = refl
  begins_stays _ = refl

  inside_stays : (now : Option (List ℕ)) (b : BodyTree) → inside_next now (body_with_item name b) ≡ inside_next now b
  inside_stays now (action own text items) = refl
  inside_stays now _ = refl

  before_stays : (b : BodyTree) (sought : List ℕ) (others : ℕ) → procedure_before (body_with_item name b) sought others ≡ procedure_before b sought others
  before_stays (action own text items) sought others = refl
  before_stays _ sought others = refl

  none_inner : (tail : List StmtTree) (i : ℕ) (st : StmtTree) → EachBody IsApart tail → slice_get tail i ≡ Some st → is_outer st.body ≡ false → ⊥
  none_inner [] i st h e f = none-some st e
  none_inner (x ∷ tail) zero st h e f = true≢false (sym h.0.outer ∙ ap (λ (s : StmtTree). is_outer s.body) (same_Some x st e) ∙ f)
  none_inner (x ∷ tail) (suc i) st h e f = none_inner tail i st h.1 e f

  -- the statement of a procedure at a place
  pub piece_kept : (front tail rest : List StmtTree) (i : ℕ) (st : StmtTree) → EachBody IsApart tail → slice_get (front ++ tail) i ≡ Some st → is_outer st.body ≡ false
      → slice_get (map (with_item name) front ++ rest) i ≡ Some st
  piece_kept [] tail rest i st h e f = absurd (none_inner tail i st h e f)
  piece_kept (x ∷ front) tail rest zero st h e f =
      ap (λ (s : StmtTree). Some (with_item name s)) (same_Some x st e) ∙ ap (λ b. Some (record st { body = b })) (inner_stays st.body f)
  piece_kept (x ∷ front) tail rest (suc i) st h e f = piece_kept front tail rest i st h e f

  -- the block that is open there
  inside_kept : (front tail rest : List StmtTree) (i : ℕ) (st : StmtTree) (n : ℕ) (now : Option (List ℕ)) → EachBody IsApart tail → slice_get (front ++ tail) i ≡ Some st → is_outer st.body ≡ false
      → inside_from now (numbered_from n (take i (map Some (map (with_item name) front ++ rest)))) ≡ inside_from now (numbered_from n (take i (map Some (front ++ tail))))
  inside_kept [] tail rest i st n now h e f = absurd (none_inner tail i st h e f)
  inside_kept (x ∷ front) tail rest zero st n now h e f = refl
  inside_kept (x ∷ front) tail rest (suc i) st n now h e f =
      ap (λ o. inside_from o (numbered_from (n + 1) (take i (map Some (map (with_item name) front ++ rest))))) (inside_stays now x.body)
      ∙ inside_kept front tail rest i st (n + 1) (inside_next now x.body) h e f

  pub block_kept : (front tail rest : List StmtTree) (i : ℕ) (st : StmtTree) → EachBody IsApart tail → slice_get (front ++ tail) i ≡ Some st → is_outer st.body ≡ false
      → block_at (map (with_item name) front ++ rest) i ≡ block_at (front ++ tail) i
  block_kept front tail rest i st h e f = inside_kept front tail rest i st 1 None h e f

  -- no block of the new name is open in the old program
  abbrev pub IsOther : Option (List ℕ) → Type 0
  IsOther None = Unit {0}
  IsOther (Some own) = bytes_eq name own ≡ false

  other_after : (now : Option (List ℕ)) (b : BodyTree) → NotNamed name b → IsOther now → IsOther (inside_next now b)
  other_after now (procedure p uses) h o = h
  other_after now (data_block p) h o = h
  other_after now end_procedure h o = tt
  other_after now end_data h o = tt
  other_after now _ h o = o

  other_from : (xs : List StmtTree) (i n : ℕ) (now : Option (List ℕ)) → EachBody (NotNamed name) xs → IsOther now → IsOther (inside_from now (numbered_from n (take i (map Some xs))))
  other_from xs zero n now h o = o
  other_from [] (suc i) n now h o = o
  other_from (x ∷ xs) (suc i) n now h o = other_from xs i (n + 1) (inside_next now x.body) h.1 (other_after now x.body h.0 o)

  pub other_block : (xs : List StmtTree) (i : ℕ) → EachBody (NotNamed name) xs → IsOther (block_at xs i)
  other_block xs i h = other_from xs i 1 None h tt

  -- procedures and their entries
  joined_if : (b : Bool) (n m k : ℕ) → n ≡ m + k → cond b (suc n) n ≡ cond b (suc m) m + k
  joined_if true n m k e = omega arith
  joined_if false n m k e = e

  pub procedures_join : (xs ys : List StmtTree) → procedures_in (xs ++ ys) ≡ procedures_in xs + procedures_in ys
  procedures_join [] ys = omega arith
  procedures_join (x ∷ xs) ys = joined_if (begins_procedure x.body) (procedures_in (xs ++ ys)) (procedures_in xs) (procedures_in ys) (procedures_join xs ys)

  pub no_procedures : (tail : List StmtTree) → EachBody IsApart tail → procedures_in tail ≡ 0
  no_procedures [] h = refl
  no_procedures (x ∷ tail) h = ap (λ b. cond b (suc (procedures_in tail)) (procedures_in tail)) h.0.no_procedure ∙ no_procedures tail h.1

  none_below : (tail : List StmtTree) (p : ℕ) → EachBody IsApart tail → p < procedures_in tail → ⊥
  none_below tail p h lt = let e = no_procedures tail h in absurd (omega (arith, e, lt))

  first_entry : (b : Bool) (n m k : ℕ) → 0 < cond b (suc k) k → (0 < k → n ≡ m) → cond b 0 n ≡ cond b 0 m
  first_entry true n m k lt f = refl
  first_entry false n m k lt f = f lt

  later_entry : (b : Bool) (p n m n1 m1 k : ℕ) → suc p < cond b (suc k) k → (p < k → n ≡ m) → (suc p < k → n1 ≡ m1) → cond b n n1 ≡ cond b m m1
  later_entry true p n m n1 m1 k lt f g = f (omega arith)
  later_entry false p n m n1 m1 k lt f g = g lt

  pub entries_kept : (front tail rest : List StmtTree) (p : ℕ) → EachBody IsApart tail → p < procedures_in (front ++ tail)
      → entry_from (map (with_item name) front ++ rest) p ≡ entry_from (front ++ tail) p
  entries_kept [] tail rest p h lt = absurd (none_below tail p h lt)
  entries_kept (x ∷ front) tail rest zero h lt =
      let new : List StmtTree = map (with_item name) front ++ rest in
      let old : List StmtTree = front ++ tail in
      ap (λ b. suc (cond b 0 (entry_from new 0))) (begins_stays x.body)
      ∙ ap suc (first_entry (begins_procedure x.body) (entry_from new 0) (entry_from old 0) (procedures_in old) lt (λ l. entries_kept front tail rest 0 h l))
  entries_kept (x ∷ front) tail rest (suc p) h lt =
      let new : List StmtTree = map (with_item name) front ++ rest in
      let old : List StmtTree = front ++ tail in
      ap (λ b. suc (cond b (entry_from new p) (entry_from new (suc p)))) (begins_stays x.body)
      ∙ ap suc (later_entry (begins_procedure x.body) p (entry_from new p) (entry_from old p) (entry_from new (suc p)) (entry_from old (suc p)) (procedures_in old) lt
      (λ l. entries_kept front tail rest p h l) (λ l. entries_kept front tail rest (suc p) h l))

  number_if : (t : Bool) (n m k : ℕ) → cond t 0 (suc m) < suc k → (m < k → n ≡ m) → cond t 0 (suc n) ≡ cond t 0 (suc m)
  number_if true n m k lt f = refl
  number_if false n m k lt f = ap suc (f (omega arith))

  number_by : (b : BodyTree) (sought : List ℕ) (n m k : ℕ) → procedure_before b sought m < cond (begins_procedure b) (suc k) k → (m < k → n ≡ m)
      → procedure_before b sought n ≡ procedure_before b sought m
  number_by (procedure p uses) sought n m k lt f = number_if (bytes_eq sought p) n m k lt f
  number_by _ sought n m k lt f = f lt

  pub number_kept : (front tail rest : List StmtTree) (sought : List ℕ) → EachBody IsApart tail → procedure_number (front ++ tail) sought < procedures_in (front ++ tail)
      → procedure_number (map (with_item name) front ++ rest) sought ≡ procedure_number (front ++ tail) sought
  number_kept [] tail rest sought h lt = absurd (none_below tail (procedure_number tail sought) h lt)
  number_kept (x ∷ front) tail rest sought h lt =
      let new : List StmtTree = map (with_item name) front ++ rest in
      let old : List StmtTree = front ++ tail in
      before_stays x.body sought (procedure_number new sought)
      ∙ number_by x.body sought (procedure_number new sought) (procedure_number old sought) (procedures_in old) lt (λ l. number_kept front tail rest sought h l)

  -- the new procedure
  same_name : (sought : List ℕ) → bytes_eq sought sought ≡ true
  same_name sought = (bytes_eq-Decides sought sought).1 refl

  one_more : (b : BodyTree) (n k : ℕ) → NotNamed name b → n ≡ k → procedure_before b name n ≡ cond (begins_procedure b) (suc k) k
  one_more (procedure p uses) n k h e = ap (λ t. cond t 0 (suc n)) h ∙ ap suc e
  one_more _ n k h e = e

  pub new_number : (front rest : List StmtTree) → EachBody (NotNamed name) front
      → procedure_number (map (with_item name) front ++ (bare_statement (procedure name None) ∷ rest)) name ≡ procedures_in front
  new_number [] rest h = ap (λ t. cond t 0 (suc (procedure_number rest name))) (same_name name)
  new_number (x ∷ front) rest h =
      let new : List StmtTree = map (with_item name) front ++ (bare_statement (procedure name None) ∷ rest) in
      before_stays x.body name (procedure_number new name) ∙ one_more x.body (procedure_number new name) (procedures_in front) h.0 (new_number front rest h.1)

  entry_by : (b : Bool) (x : StmtTree) (rest : List StmtTree) (k n : ℕ) → begins_procedure x.body ≡ b → entry_from rest k ≡ n → entry_from (x ∷ rest) (cond b (suc k) k) ≡ suc n
  entry_by true x rest k n e f = ap (λ t. suc (cond t (entry_from rest k) (entry_from rest (suc k)))) e ∙ ap suc f
  entry_by false x rest zero n e f = ap (λ t. suc (cond t 0 (entry_from rest 0))) e ∙ ap suc f
  entry_by false x rest (suc k) n e f = ap (λ t. suc (cond t (entry_from rest k) (entry_from rest (suc k)))) e ∙ ap suc f

  pub new_entry : (front rest : List StmtTree)
      → entry_from (map (with_item name) front ++ (bare_statement (procedure name None) ∷ rest)) (procedures_in front) ≡ length front + 1
  new_entry [] rest = refl
  new_entry (x ∷ front) rest =
      let new : List StmtTree = map (with_item name) front ++ (bare_statement (procedure name None) ∷ rest) in
      let more : suc (length front + 1) ≡ suc (length front) + 1 = omega arith in
      entry_by (begins_procedure x.body) (with_item name x) new (procedures_in front) (length front + 1) (begins_stays x.body) (new_entry front rest) ∙ more

  -- the pieces after those of the program
  pub after_front : (front ys : List StmtTree) (i k : ℕ) → i ≡ length front + k → slice_get (map (with_item name) front ++ ys) i ≡ slice_get ys k
  after_front [] ys i k e = let f : i ≡ k = omega arith in ap (slice_get ys) f
  after_front (x ∷ front) ys zero k e = absurd (omega arith)
  after_front (x ∷ front) ys (suc i) k e = after_front front ys i k (omega arith)

-- labels that are found
label_found : (o : Option ℕ) (f : ℕ → ℕ) (n m : ℕ) → option_map_or f o n < n → option_map_or f o m ≡ option_map_or f o n
label_found None f n m lt = absurd (omega arith)
label_found (Some k) f n m lt = refl

pub label_kept : (old new : Names) (n m : ℕ) (block sought : List ℕ) → new.labels ≡ old.labels → label_from old n (Some block) sought < n
    → label_from new m (Some block) sought ≡ label_from old n (Some block) sought
label_kept old new n m block sought e lt =
    ap (λ (ls : List (Key × ℕ)). option_map_or (λ piece. piece - 1) (lookup (key_eq (key_in block sought)) ls) m) e
    ∙ label_found (lookup (key_eq (key_in block sought)) old.labels) (λ piece. piece - 1) n m lt
