-- What holds of the names of all statements: their number, and that each has the key of its value.
use Rattle.std.proofs.Common.{◌≡◌, ℕ, ◌+◌, ◌<◌, ◌≤◌, ◌^◌, Bool, true, false, List, [], ◌∷◌, ◌++◌, map, length, Option, Some, None, is_some, refl, ap, arith, length-append, All, IfSome, if◌then◌else◌}
use Rattle.std.specs.List.{cons_option}
use Rattle.std.specs.Map.{lookup}
use Rattle.std.specs.Str.{bytes_eq}
use Rattle.std.proofs.lemmas.List.{length-map}
use Rattle.std.proofs.lemmas.List.Elements.{All-nil, All-cons, All-push, All-head, All-tail, All-same}
use Rattle.stapl_syntax.specs.declared.names.Declaration.{Declaration}
use Rattle.stapl_syntax.specs.declared.statement.Stmt.{Stmt}
use Rattle.stapl_syntax.specs.Trees.{BodyTree, procedure, data_block, StmtTree, stmt_tree}
use Rattle.stapl_syntax.specs.Names.{Numbered, with_numbers, inside_next, key_eq, put_first, firsts, firsts_after, declared, declared_from, declaration, block_of, block_of_body, variable_of, variable_in, names_of}
use Rattle.stapl_names.specs.declared.tables.Tables.{Tables}
use Rattle.stapl_names.specs.Tables.{AreUsed, AreSpelled, BearsName, BearsKey, AreFinished, names_in}

-- statements with their numbers are no more than the statements
pub numbered_few : (ns : List ℕ) (sts : List StmtTree) → length (with_numbers ns sts) ≤ length sts
numbered_few [] sts = omega arith
numbered_few (n ∷ ns) [] = omega arith
numbered_few (n ∷ ns) (st ∷ sts) = omega (arith, numbered_few ns sts)

module _ {K V : Type 0} where
  module _ (eq : K → K → Bool) where
    put_length : (es : List (K × V)) (x : K × V) → length (put_first eq es x) ≤ length es + 1
    put_length es x = by (is_some (lookup (eq x.0) es))
      where
        by : (b : Bool) → length (if b then es else es ++ (x ∷ [])) ≤ length es + 1
        by true = omega arith
        by false = let e : length (es ++ (x ∷ [])) ≡ length es + 1 = length-append es (x ∷ []) in omega (arith, e)

    firsts_length : (xs es : List (K × V)) → length (firsts_after eq es xs) ≤ length es + length xs
    firsts_length [] es = omega arith
    firsts_length (x ∷ xs) es =
        let a = firsts_length xs (put_first eq es x) in
        let b = put_length es x in
        omega (arith, a, b)

  cons_length : (o : Option (K × V)) (xs : List (K × V)) → length (cons_option o xs) ≤ length xs + 1
  cons_length None xs = omega arith
  cons_length (Some x) xs = omega arith

  module _ (declares : Option (List ℕ) → ℕ → StmtTree → Option (K × V)) where
    declared_length : (sts : List Numbered) (now : Option (List ℕ)) → length (declared_from declares now sts) ≤ length sts
    declared_length [] now = omega arith
    declared_length (s ∷ rest) now =
        let a = cons_length (declares now s.piece s.statement) (declared_from declares (inside_next now s.statement.body) rest) in
        let b = declared_length rest (inside_next now s.statement.body) in
        omega (arith, a, b)

    -- a table has at most one entry for each statement
    table_length : (eq : K → K → Bool) (sts : List Numbered) → length (firsts eq (declared declares sts)) ≤ length sts
    table_length eq sts =
        let a = firsts_length eq (declared declares sts) [] in
        let b = declared_length sts None in
        omega (arith, a, b)

  module _ (P : K × V → Type 0) where
    all_put : (eq : K → K → Bool) (es : List (K × V)) (x : K × V) → All P es → P x → All P (put_first eq es x)
    all_put eq es x ps p = by (is_some (lookup (eq x.0) es))
      where
        by : (b : Bool) → All P (if b then es else es ++ (x ∷ []))
        by true = ps
        by false = All-push P es x ps p

    all_firsts : (eq : K → K → Bool) (xs es : List (K × V)) → All P es → All P xs → All P (firsts_after eq es xs)
    all_firsts eq [] es ps qs = ps
    all_firsts eq (x ∷ xs) es ps qs = all_firsts eq xs (put_first eq es x) (all_put eq es x ps (All-head P x xs qs)) (All-tail P x xs qs)

    all_cons : (o : Option (K × V)) (xs : List (K × V)) → IfSome o P → All P xs → All P (cons_option o xs)
    all_cons None xs p ps = ps
    all_cons (Some x) xs p ps = All-cons P x xs p ps

    module _ (declares : Option (List ℕ) → ℕ → StmtTree → Option (K × V)) (each : (now : Option (List ℕ)) (n : ℕ) (st : StmtTree) → IfSome (declares now n st) P) where
      all_declared : (sts : List Numbered) (now : Option (List ℕ)) → All P (declared_from declares now sts)
      all_declared [] now = All-nil P
      all_declared (s ∷ rest) now =
          all_cons (declares now s.piece s.statement) (declared_from declares (inside_next now s.statement.body) rest) (each now s.piece s.statement)
          (all_declared rest (inside_next now s.statement.body))

      -- what holds of each entry that a statement declares holds of all in a table
      table_all : (eq : K → K → Bool) (sts : List Numbered) → All P (firsts eq (declared declares sts))
      table_all eq sts = all_firsts eq (declared declares sts) [] (All-nil P) (all_declared sts None)

block_named_so : (now : Option (List ℕ)) (n : ℕ) (st : StmtTree) → IfSome (block_of now n st) BearsName
block_named_so now n st = by st.body
  where
    by : (body : BodyTree) → IfSome (block_of_body n body) BearsName
    by (procedure name uses) = refl
    by (data_block name) = refl
    by _ = tt

variable_keyed_so : (now : Option (List ℕ)) (n : ℕ) (st : StmtTree) → IfSome (variable_of now n st) BearsKey
variable_keyed_so now n st = by now (declaration st.body)
  where
    by : (now : Option (List ℕ)) (d : Option Declaration) → IfSome (variable_in now n d) BearsKey
    by (Some block) (Some d) = refl
    by (Some block) None = tt
    by None d = tt

-- the tables of all names are finished
pub tables_finished : (t : Tables) (ns : List ℕ) (sts : List Stmt) → AreUsed t.blocks → AreSpelled t.variables →
    names_in t ≡ names_of (with_numbers ns (map stmt_tree sts)) → length sts < 2 ^ 32 → AreFinished t
tables_finished t ns sts used spelled are few =
    let all : List Numbered = with_numbers ns (map stmt_tree sts) in
    let same : length (map stmt_tree sts) ≡ length sts = length-map sts stmt_tree in
    let n = numbered_few ns (map stmt_tree sts) in
    let blocks = ap (λ names. names.blocks) are in
    let variables = ap (λ names. names.variables) are in
    let b = table_length block_of bytes_eq all in
    let v = table_length variable_of key_eq all in
    record {
      few_blocks = rw blocks (omega (arith, b, n, same, few));
      few_variables = rw variables (omega (arith, v, n, same, few));
      blocks = All-same BearsName _ _ blocks (table_all BearsName block_of block_named_so bytes_eq all);
      variables = All-same BearsKey _ _ variables (table_all BearsKey variable_of variable_keyed_so key_eq all);
      used = used;
      spelled = spelled;
    }
