-- A statement more in the tables, and the end.
use Rattle.std.proofs.Common.{◌≡◌, ℕ, ◌+◌, ◌<◌, ◌≤◌, Bool, List, [], ◌∷◌, map, drop, length, get_or, Option, Some, None, refl, sym, ◌∙◌, subst, arith}
use Rattle.std.specs.List.{cons_option}
use Rattle.std.specs.Str.{bytes_eq}
use Rattle.std.proofs.lemmas.List.{at_drop_more, at_drop_all}
use Rattle.stapl_syntax.specs.declared.statement.Stmt.{Stmt}
use Rattle.stapl_syntax.specs.Trees.{StmtTree, stmt_tree}
use Rattle.stapl_syntax.specs.Names.{Numbered, with_numbers, inside_next, key_eq, put_option, firsts, firsts_after, declared, declared_from, block_of, action_of, variable_of, label_of, names_of}
use Rattle.stapl_names.specs.declared.tables.Tables.{Tables}
use Rattle.stapl_names.specs.Tables.{AreUsed, AreSpelled, PutsNames, names_in}

-- the tables, this block being open, so far that these statements are left of all
pub record AreUnderWay (t : Tables) (inside : Option (List ℕ)) (left all : List Numbered) : Type 0 where
  pub blocks : firsts_after bytes_eq t.blocks.table.entries (declared_from block_of inside left) ≡ firsts bytes_eq (declared block_of all)
  pub actions : firsts_after bytes_eq t.actions.entries (declared_from action_of inside left) ≡ firsts bytes_eq (declared action_of all)
  pub variables : firsts_after key_eq t.variables.table.entries (declared_from variable_of inside left) ≡ firsts key_eq (declared variable_of all)
  pub labels : firsts_after key_eq t.labels.entries (declared_from label_of inside left) ≡ firsts key_eq (declared label_of all)
  pub used : AreUsed t.blocks
  pub spelled : AreSpelled t.variables

-- the statements from a place on
abbrev pub left_from : List ℕ → List Stmt → ℕ → List Numbered
left_from ns sts i = with_numbers (drop i ns) (map stmt_tree (drop i sts))

left_more : (ns : List ℕ) (sts : List Stmt) (i d : ℕ) (st : Stmt) → i < length ns → i < length sts → st ≡ get_or sts i st
    → left_from ns sts i ≡ record { piece = get_or ns i d; statement = stmt_tree st } ∷ left_from ns sts (i + 1)
left_more ns sts i d st in_ns in_sts is =
    at_drop_more (λ l. with_numbers l (map stmt_tree (drop i sts))) ns i d in_ns
    ∙ at_drop_more (λ l. with_numbers (get_or ns i d ∷ drop (i + 1) ns) (map stmt_tree l)) sts i st in_sts
    ∙ (λ j. record { piece = get_or ns i d; statement = stmt_tree (sym is j) } ∷ left_from ns sts (i + 1))

module _ {K V : Type 0} (eq : K → K → Bool) (declares : Option (List ℕ) → ℕ → StmtTree → Option (K × V)) where
  put_next : (es : List (K × V)) (o : Option (K × V)) (xs : List (K × V)) → firsts_after eq es (cons_option o xs) ≡ firsts_after eq (put_option eq es o) xs
  put_next es None xs = refl
  put_next es (Some x) xs = refl

  one_more : (inside then : Option (List ℕ)) (s : Numbered) (rest : List Numbered) (es new all : List (K × V)) → then ≡ inside_next inside s.statement.body
      → firsts_after eq es (declared_from declares inside (s ∷ rest)) ≡ all → new ≡ put_option eq es (declares inside s.piece s.statement)
      → firsts_after eq new (declared_from declares then rest) ≡ all
  one_more inside then s rest es new all goes so_far puts =
      (λ j. firsts_after eq (puts j) (declared_from declares (goes j) rest))
      ∙ sym (put_next es (declares inside s.piece s.statement) (declared_from declares (inside_next inside s.statement.body) rest))
      ∙ so_far

statement_more : (old new : Tables) (inside then : Option (List ℕ)) (s : Numbered) (rest all : List Numbered) → then ≡ inside_next inside s.statement.body
    → AreUnderWay old inside (s ∷ rest) all → PutsNames inside s.piece s.statement old new → AreUnderWay new then rest all
statement_more old new inside then s rest all goes so_far puts = record {
  blocks = one_more bytes_eq block_of inside then s rest _ _ _ goes so_far.blocks puts.blocks;
  actions = one_more bytes_eq action_of inside then s rest _ _ _ goes so_far.actions puts.actions;
  variables = one_more key_eq variable_of inside then s rest _ _ _ goes so_far.variables puts.variables;
  labels = one_more key_eq label_of inside then s rest _ _ _ goes so_far.labels puts.labels;
  used = puts.used;
  spelled = puts.spelled;
}

-- a statement more
pub under_way_more : (ns : List ℕ) (sts : List Stmt) (i d : ℕ) (st : Stmt) (old new : Tables) (inside then : Option (List ℕ)) (all : List Numbered)
    → length ns ≡ length sts → i < length sts → st ≡ get_or sts i st → then ≡ inside_next inside (stmt_tree st).body
    → AreUnderWay old inside (left_from ns sts i) all → PutsNames inside (get_or ns i d) (stmt_tree st) old new
    → AreUnderWay new then (left_from ns sts (i + 1)) all
under_way_more ns sts i d st old new inside then all alike within is goes so_far puts =
    statement_more old new inside then (record { piece = get_or ns i d; statement = stmt_tree st }) (left_from ns sts (i + 1)) all goes
    (subst (λ left. AreUnderWay old inside left all) (left_more ns sts i d st (omega (arith, alike, within)) within is) so_far) puts

-- no statement is left
none_left : (ns : List ℕ) (sts : List Stmt) (i : ℕ) → length ns ≡ length sts → length sts ≤ i → left_from ns sts i ≡ []
none_left ns sts i alike above =
    at_drop_all (λ l. with_numbers l (map stmt_tree (drop i sts))) ns i (omega (arith, alike, above))

-- all names are in the tables
pub names_done : (ns : List ℕ) (sts : List Stmt) (i : ℕ) (t : Tables) (inside : Option (List ℕ)) (all : List Numbered) → length ns ≡ length sts → length sts ≤ i
    → AreUnderWay t inside (left_from ns sts i) all → names_in t ≡ names_of all
names_done ns sts i t inside all alike above so_far =
    let done = subst (λ left. AreUnderWay t inside left all) (none_left ns sts i alike above) so_far in
    λ j. record { blocks = done.blocks j; actions = done.actions j; variables = done.variables j; labels = done.labels j }
