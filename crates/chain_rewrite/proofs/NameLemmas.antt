-- The names of the blocks of a program, and the name of the new one.
use Rattle.std.proofs.Common.{◌≡◌, ℕ, ◌+◌, ◌<◌, ◌≤◌, ◌||◌, Bool, true, false, cond, List, length, drop, get_or, refl, sym, ap, ◌∙◌, arith}
use Rattle.std.specs.List.{list_any}
use Rattle.std.specs.Str.{bytes_eq, str_to_ascii_uppercase}
use Rattle.std.proofs.lemmas.Bool.{and_parts, true≢false}
use Rattle.std.proofs.lemmas.List.{drop_all}
use Rattle.std.proofs.lemmas.Slice.Eq.{bytes_eq-Decides}
use Rattle.stapl_lexer.specs.Names.{is_name}
use Rattle.stapl_lexer.specs.ReservedWords.{is_free_name}
use Rattle.stapl_syntax.specs.declared.statement.Stmt.{Stmt}
use Rattle.stapl_syntax.specs.Trees.{StmtTree, body_tree, stmt_tree, trees}
use Rattle.stapl_print.proofs.LineLemmas.{next_of}
use Rattle.carried_plays.specs.PadNames.{pad_name, begins_block, has_block, IsPadNumber}
use Rattle.carried_plays.proofs.PrintedNames.{pad_name_is_printed}
use Rattle.chain_rewrite.specs.NewNames.{IsNewName}

-- ---- how the name is spelled

pub is_spelled : (n : ℕ) (bytes : List ℕ) → n ≤ 100000 → bytes ≡ pad_name n → is_name bytes ≡ true
is_spelled n bytes few e =
    let printed = and_parts (is_free_name (pad_name n)) (bytes_eq (str_to_ascii_uppercase (pad_name n)) (pad_name n)) (pad_name_is_printed n few) in
    ap is_name e ∙ (and_parts (is_name (pad_name n)) _ printed.0).0

pub in_upper_case : (n : ℕ) (bytes : List ℕ) → n ≤ 100000 → bytes ≡ pad_name n → str_to_ascii_uppercase bytes ≡ pad_name n
in_upper_case n bytes few e =
    let printed = and_parts (is_free_name (pad_name n)) (bytes_eq (str_to_ascii_uppercase (pad_name n)) (pad_name n)) (pad_name_is_printed n few) in
    ap str_to_ascii_uppercase e ∙ (bytes_eq-Decides (str_to_ascii_uppercase (pad_name n)) (pad_name n)).0 printed.1

-- ---- the names of the blocks

-- among these names, or begun by what is left
abbrev pub are_left : List (List ℕ) → List StmtTree → List ℕ → Bool
are_left names rest name = list_any (bytes_eq name) names || has_block rest name

bytes_turned : (a b : List ℕ) → bytes_eq a b ≡ bytes_eq b a
bytes_turned a b = by (bytes_eq a b) (bytes_eq b a) refl refl
  where
    by : (s t : Bool) → bytes_eq a b ≡ s → bytes_eq b a ≡ t → s ≡ t
    by true true e f = refl
    by false false e f = refl
    by true false e f = absurd (true≢false (sym ((bytes_eq-Decides b a).1 (sym ((bytes_eq-Decides a b).0 e))) ∙ f))
    by false true e f = absurd (true≢false (sym ((bytes_eq-Decides a b).1 (sym ((bytes_eq-Decides b a).0 f))) ∙ e))

last_or : (own known : Bool) → cond own true known ≡ (known || own)
last_or true true = refl
last_or true false = refl
last_or false true = refl
last_or false false = refl

-- a name is put to those that are known
pub put_known : (own name : List ℕ) (known new begins : Bool) → new ≡ cond (bytes_eq own name) true known → begins ≡ bytes_eq name own → new ≡ (known || begins)
put_known own name known new begins e f = e ∙ ap (λ (b : Bool). cond b true known) (bytes_turned own name ∙ sym f) ∙ last_or begins known

-- none is put
pub none_put : (known begins : Bool) → begins ≡ false → known ≡ (known || begins)
none_put true begins e = refl
none_put false begins e = sym e

or_moved : (a b c : Bool) → ((a || b) || c) ≡ (a || (b || c))
or_moved true b c = refl
or_moved false b c = refl

-- the next statement is gone through
pub one_more : (old new : List (List ℕ)) (name : List ℕ) (i : ℕ) (xs : List Stmt) (x : Stmt) → i < length xs → x ≡ get_or xs i x →
    list_any (bytes_eq name) new ≡ (list_any (bytes_eq name) old || begins_block name (body_tree x.body)) →
    are_left new (drop (i + 1) (trees xs)) name ≡ are_left old (drop i (trees xs)) name
one_more old new name i xs x below is put =
    let rest : List StmtTree = drop (i + 1) (trees xs) in
    ap (λ (b : Bool). b || has_block rest name) put
    ∙ or_moved (list_any (bytes_eq name) old) (begins_block name (body_tree x.body)) (has_block rest name)
    ∙ ap (λ (l : List StmtTree). are_left old l name) (sym (next_of stmt_tree i xs x below is))

or_none : (b : Bool) → (b || false) ≡ b
or_none true = refl
or_none false = refl

-- nothing is left
pub all_there : (names : List (List ℕ)) (name : List ℕ) (i : ℕ) (sts : List StmtTree) → length sts ≤ i → are_left names (drop i sts) name ≡ has_block sts name →
    list_any (bytes_eq name) names ≡ has_block sts name
all_there names name i sts few e =
    sym (or_none (list_any (bytes_eq name) names))
    ∙ ap (λ (l : List StmtTree). are_left names l name) (sym (drop_all i sts few)) ∙ e

-- ---- the number

pub free_here : (program : List StmtTree) (name : List ℕ) (n : ℕ) → name ≡ pad_name n → has_block program name ≡ false →
    ((m : ℕ) → m < n → has_block program (pad_name m) ≡ true) → IsNewName program name
free_here program name n same free taken = record {
  number = n;
  named = record { free = sym (ap (has_block program) same) ∙ free; least = taken };
  same = same;
}

-- one number was not taken
pub one_is_free : (program : List StmtTree) (count : ℕ) → ((m : ℕ) → m < count → has_block program (pad_name m) ≡ true) →
    (n : ℕ) × (n ≤ length program) × IsPadNumber program n → length program < count → ⊥
one_is_free program count taken found less = true≢false (sym (taken found.0 (omega (arith, found.1, less))) ∙ found.2.free)
