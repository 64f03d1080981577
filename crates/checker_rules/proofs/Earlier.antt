-- An earlier piece declares a name exactly if the entry of that name in the table of all pieces has a lower number.
use Rattle.std.proofs.Common.{◌≡◌, ℕ, zero, suc, ◌+◌, ◌≤◌, Bool, true, false, cond, List, [], ◌∷◌, take, Option, Some, None, is_some, refl, sym, ap, ◌∙◌, arith, nat_lt}
use Rattle.std.specs.List.{cons_option}
use Rattle.std.specs.Map.{lookup}
use Rattle.std.specs.Option.{option_map_or}
use Rattle.std.specs.Str.{bytes_eq}
use Rattle.std.proofs.lemmas.Bool.{lt-ltb, le-ltb}
use Rattle.stapl_syntax.specs.declared.names.Declaration.{Declaration}
use Rattle.stapl_syntax.specs.declared.names.Key.{Key}
use Rattle.stapl_syntax.specs.Trees.{BodyTree, procedure, data_block, action, StmtTree}
use Rattle.stapl_syntax.specs.Names.{Numbered, numbered_from, numbered, inside_next, declaration, block_of, block_of_body, action_of, action_of_body, variable_of, variable_in, label_of, label_in, declared_from, declared, firsts, key_eq, names_of}
use Rattle.stapl_syntax.specs.Rules.{declared_in}
use Rattle.stapl_names.proofs.Keys.{name_same, key_same, found_after}
use Rattle.checker_rules.specs.Earlier.{stands_below, piece_of_block, piece_of_variable, own_number, declared_below}

module _ {K V : Type 0} where
  module _ (declares : Option (List ℕ) → ℕ → StmtTree → Option (K × V)) (number : V → ℕ)
      (numbers : (now : Option (List ℕ)) (n : ℕ) (st : StmtTree) (e : K × V) → declares now n st ≡ Some e → number e.1 ≡ n) (test : K → Bool) where
    Stands : Option (List ℕ) → List Numbered → ℕ → Bool
    Stands now statements m = stands_below number m (lookup test (declared_from declares now statements))

    -- nothing that is declared from number n on has a number below n
    none_below : (read : List (Option StmtTree)) (now : Option (List ℕ)) (n m : ℕ) → m ≤ n →
        stands_below number m (lookup test (declared_from declares now (numbered_from n read))) ≡ false
    none_below [] now n m le = refl
    none_below (None ∷ read) now n m le = none_below read now (n + 1) m (omega (arith, le))
    none_below (Some st ∷ read) now n m le = by (none_below read (inside_next now st.body) (n + 1) m (omega (arith, le))) (declares now n st) refl
      where
        hit : stands_below number m (lookup test (declared_from declares (inside_next now st.body) (numbered_from (n + 1) read))) ≡ false →
            (e : K × V) → declares now n st ≡ Some e → (b : Bool) →
            stands_below number m (cond b (Some e.1) (lookup test (declared_from declares (inside_next now st.body) (numbered_from (n + 1) read)))) ≡ false
        hit given e is true = ap (λ k. nat_lt k m) (numbers now n st e is) ∙ le-ltb n m le
        hit given e is false = given

        by : stands_below number m (lookup test (declared_from declares (inside_next now st.body) (numbered_from (n + 1) read))) ≡ false →
            (o : Option (K × V)) → declares now n st ≡ o →
            stands_below number m (lookup test (cons_option o (declared_from declares (inside_next now st.body) (numbered_from (n + 1) read)))) ≡ false
        by given None e = given
        by given (Some x) e = hit given x e (test x.0)

    -- a piece before the one with this number declares it
    stands_earlier : (read : List (Option StmtTree)) (i : ℕ) (now : Option (List ℕ)) (n : ℕ) →
        stands_below number (n + i) (lookup test (declared_from declares now (numbered_from n read)))
        ≡ is_some (lookup test (declared_from declares now (numbered_from n (take i read))))
    stands_earlier read zero now n = none_below read now n (n + 0) (omega arith)
    stands_earlier [] (suc i) now n = refl
    stands_earlier (None ∷ read) (suc i) now n =
        let e : n + suc i ≡ n + 1 + i = omega arith in
        ap (λ m. stands_below number m (lookup test (declared_from declares now (numbered_from (n + 1) read)))) e ∙ stands_earlier read i now (n + 1)
    stands_earlier (Some st ∷ read) (suc i) now n = by (stands_earlier read i (inside_next now st.body) (n + 1)) (declares now n st) refl
      where
        All : List (K × V)
        All = declared_from declares (inside_next now st.body) (numbered_from (n + 1) read)

        rest : stands_below number (n + 1 + i) (lookup test (declared_from declares (inside_next now st.body) (numbered_from (n + 1) read)))
            ≡ is_some (lookup test (declared_from declares (inside_next now st.body) (numbered_from (n + 1) (take i read)))) →
            stands_below number (n + suc i) (lookup test (declared_from declares (inside_next now st.body) (numbered_from (n + 1) read)))
            ≡ is_some (lookup test (declared_from declares (inside_next now st.body) (numbered_from (n + 1) (take i read))))
        rest given =
            let e : n + suc i ≡ n + 1 + i = omega arith in
            ap (λ m. stands_below number m (lookup test (declared_from declares (inside_next now st.body) (numbered_from (n + 1) read)))) e ∙ given

        hit : stands_below number (n + 1 + i) (lookup test (declared_from declares (inside_next now st.body) (numbered_from (n + 1) read)))
            ≡ is_some (lookup test (declared_from declares (inside_next now st.body) (numbered_from (n + 1) (take i read)))) →
            (e : K × V) → declares now n st ≡ Some e → (b : Bool) →
            stands_below number (n + suc i) (cond b (Some e.1) (lookup test (declared_from declares (inside_next now st.body) (numbered_from (n + 1) read))))
            ≡ is_some (cond b (Some e.1) (lookup test (declared_from declares (inside_next now st.body) (numbered_from (n + 1) (take i read)))))
        hit given e is true = ap (λ k. nat_lt k (n + suc i)) (numbers now n st e is) ∙ lt-ltb n (n + suc i) (omega arith)
        hit given e is false = rest given

        by : stands_below number (n + 1 + i) (lookup test (declared_from declares (inside_next now st.body) (numbered_from (n + 1) read)))
            ≡ is_some (lookup test (declared_from declares (inside_next now st.body) (numbered_from (n + 1) (take i read)))) →
            (o : Option (K × V)) → declares now n st ≡ o →
            stands_below number (n + suc i) (lookup test (cons_option o (declared_from declares (inside_next now st.body) (numbered_from (n + 1) read))))
            ≡ is_some (lookup test (cons_option o (declared_from declares (inside_next now st.body) (numbered_from (n + 1) (take i read)))))
        by given None e = rest given
        by given (Some x) e = hit given x e (test x.0)

-- the number of what a piece declares is the piece's
numbered_as : {K V : Type 0} (number : V → ℕ) (o : Option (K × V)) (n : ℕ) (e : K × V) → option_map_or (λ x. number x.1) o n ≡ n → o ≡ Some e → number e.1 ≡ n
numbered_as number o n e same h = sym (ap (λ p. option_map_or (λ x. number x.1) p n) h) ∙ same

block_number : (n : ℕ) (b : BodyTree) → option_map_or (λ x. piece_of_block x.1) (block_of_body n b) n ≡ n
block_number n (procedure name uses) = refl
block_number n (data_block name) = refl
block_number n _ = refl

abbrev second : {A : Type 0} → A × ℕ → ℕ
second e = e.1

action_number : (n : ℕ) (b : BodyTree) → option_map_or second (action_of_body n b) n ≡ n
action_number n (action name text items) = refl
action_number n _ = refl

variable_number : (now : Option (List ℕ)) (n : ℕ) (d : Option Declaration) → option_map_or (λ x. piece_of_variable x.1) (variable_in now n d) n ≡ n
variable_number (Some block) n (Some d) = refl
variable_number (Some block) n None = refl
variable_number None n d = refl

label_number : (now : Option (List ℕ)) (n : ℕ) (label : Option (List ℕ)) → option_map_or second (label_in now n label) n ≡ n
label_number (Some block) n (Some name) = refl
label_number (Some block) n None = refl
label_number None n label = refl

-- what a table of first declarations says of earlier pieces
module _ {K V : Type 0} (eq : K → K → Bool) (same : (x y : K) → eq x y ≡ true → x ≡ y) (declares : Option (List ℕ) → ℕ → StmtTree → Option (K × V)) (number : V → ℕ)
    (numbers : (now : Option (List ℕ)) (n : ℕ) (st : StmtTree) (e : K × V) → declares now n st ≡ Some e → number e.1 ≡ n) where
  earlier_by : (read : List (Option StmtTree)) (i : ℕ) (k : K) →
      stands_below number (1 + i) (lookup (eq k) (firsts eq (declared declares (numbered read))))
      ≡ is_some (lookup (eq k) (firsts eq (declared declares (numbered (take i read)))))
  earlier_by read i k =
      ap (stands_below number (1 + i)) (found_after eq same k (declared declares (numbered read)) [])
      ∙ stands_earlier declares number numbers (eq k) read i None 1
      ∙ sym (ap is_some (found_after eq same k (declared declares (numbered (take i read))) []))

module _ (read : List (Option StmtTree)) (i : ℕ) where
  abbrev Same : {K V : Type 0} → (K → K → Bool) → (V → ℕ) → (Option (List ℕ) → ℕ → StmtTree → Option (K × V)) → K → Type 0
  Same eq number declares k =
      stands_below number (1 + i) (lookup (eq k) (firsts eq (declared declares (numbered read))))
      ≡ is_some (lookup (eq k) (firsts eq (declared declares (numbered (take i read)))))

  blocks_same : (k : List ℕ) → Same bytes_eq piece_of_block block_of k
  blocks_same = earlier_by bytes_eq name_same block_of piece_of_block (λ now n st e h. numbered_as piece_of_block (block_of_body n st.body) n e (block_number n st.body) h) read i

  actions_same : (k : List ℕ) → Same bytes_eq own_number action_of k
  actions_same = earlier_by bytes_eq name_same action_of own_number (λ now n st e h. numbered_as own_number (action_of_body n st.body) n e (action_number n st.body) h) read i

  variables_same : (k : Key) → Same key_eq piece_of_variable variable_of k
  variables_same =
      earlier_by key_eq key_same variable_of piece_of_variable
      (λ now n st e h. numbered_as piece_of_variable (variable_in now n (declaration st.body)) n e (variable_number now n (declaration st.body)) h) read i

  labels_same : (k : Key) → Same key_eq own_number label_of k
  labels_same = earlier_by key_eq key_same label_of own_number (λ now n st e h. numbered_as own_number (label_in now n st.label) n e (label_number now n st.label) h) read i

  -- what the tables of all pieces say of the pieces below a number is what these declare
  pub declared_same : declared_below (names_of (numbered read)) (1 + i) ≡ declared_in (names_of (numbered (take i read)))
  declared_same = λ j. record {
    block = λ k. blocks_same k j;
    action = λ k. actions_same k j;
    variable = λ k. variables_same k j;
    label = λ k. labels_same k j;
  }
