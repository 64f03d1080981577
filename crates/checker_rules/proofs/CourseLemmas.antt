-- What is kept of the statements before a piece, and one statement more.
use Rattle.std.proofs.Common.{◌≡◌, ◌+◌, ℕ, Bool, true, false, not, ◌&&◌, ◌||◌, List, [], ◌∷◌, ◌++◌, Option, None, Some, is_some, refl, sym, ap, ◌∙◌, arith, position, IfSome, sum_by, cond, true≢false}
use Rattle.std.specs.Map.{keys_of}
use Rattle.std.specs.Str.{bytes_eq}
use Rattle.std.proofs.Math.Bool.{or-false}
use Rattle.std.proofs.lemmas.List.Folds.{list_any-append}
use Rattle.std.proofs.lemmas.List.Sums.{sum_by-append, sum_by-cons}
use Rattle.indexmap.proofs.MapLemmas.{some_index}
use Rattle.stapl_syntax.specs.Trees.{BodyTree}
use Rattle.stapl_syntax.specs.Names.{Names, Numbered, inside_next, inside_from, inside_after, block_named}
use Rattle.stapl_syntax.specs.Rules as rules
use Rattle.stapl_syntax.specs.Rules.{is_action, is_block, is_crc, any_body, in_data_block, place_after, boolean_elements, integer_elements}
use Rattle.stapl_names.specs.Tables.{block_name}
use Rattle.checker_rules.specs.declared.course.Course.{Course}
use Rattle.checker_rules.specs.Counts.{totals_after}
use Rattle.checker_rules.specs.Scopes.{named}
use Rattle.checker_rules.specs.Courses.{place_next, GoesOn, IsCourse}

-- a block that is in the table has a number there
pub begins : (names : Names) (name : List ℕ) (number : Option ℕ) → is_some (block_named names name) ≡ true → number ≡ position (bytes_eq name) (keys_of names.blocks) →
    IfSome number (λ n. block_name names n ≡ Some name) → named names number ≡ Some name
begins names name None stands e at =
    let gone : false ≡ is_some (position (bytes_eq name) (keys_of names.blocks)) = ap is_some e in
    absurd (true≢false (sym (gone ∙ some_index (bytes_eq name) names.blocks ∙ stands)))
begins names name (Some n) stands e at = at

-- one statement more

inside_more : (now : Option (List ℕ)) (before : List Numbered) (s : Numbered) →
    inside_from now (before ++ s ∷ []) ≡ inside_next (inside_from now before) s.statement.body
inside_more now [] s = refl
inside_more now (r ∷ before) s = inside_more (inside_next now r.statement.body) before s

any_more : (test : BodyTree → Bool) (before : List Numbered) (s : Numbered) → any_body test (before ++ s ∷ []) ≡ (any_body test before || test s.statement.body)
any_more test before s =
    list_any-append (λ (r : Numbered). test r.statement.body) before (s ∷ []) ∙ ap (λ (z : Bool). any_body test before || z) (or-false (test s.statement.body))

sum_more : (count : BodyTree → ℕ) (before : List Numbered) (s : Numbered) →
    sum_by (λ (r : Numbered). count r.statement.body) (before ++ s ∷ []) ≡ sum_by (λ (r : Numbered). count r.statement.body) before + count s.statement.body
sum_more count before s =
    sum_by-append (λ (r : Numbered). count r.statement.body) before (s ∷ [])
    ∙ ap (λ (n : ℕ). sum_by (λ (r : Numbered). count r.statement.body) before + n) (one ∙ omega arith)
  where
    one : sum_by (λ (r : Numbered). count r.statement.body) (s ∷ []) ≡ count s.statement.body + 0
    one = sum_by-cons (λ (r : Numbered). count r.statement.body) s []

place_more : (names : Names) (before : List Numbered) (s : Numbered) →
    place_next names (inside_next (inside_after before) s.statement.body) (place_after names before) s.statement.body ≡ place_after names (before ++ s ∷ [])
place_more names before s = λ j. record {
  in_procedure = is_some (sym (inside_more None before s) j) && not (in_data_block names (sym (inside_more None before s) j));
  in_data = in_data_block names (sym (inside_more None before s) j);
  after_action = sym (any_more is_action before s) j;
  after_block = sym (any_more is_block before s) j;
  after_crc = sym (any_more is_crc before s) j;
}

totals_more : (before : List Numbered) (s : Numbered) → totals_after (rules.totals_of before) s.statement.body ≡ rules.totals_of (before ++ s ∷ [])
totals_more before s = λ j. record {
  booleans = sym (sum_more boolean_elements before s) j;
  integers = sym (sum_more integer_elements before s) j;
}

pub course_more : (names : Names) (before : List Numbered) (n : ℕ) (s : Numbered) (old new : Course) → IsCourse names before n old → GoesOn names s.statement.body old new →
    IsCourse names (before ++ s ∷ []) (n + 1) new
course_more names before n s old new is goes =
    let b = is.booleans in
    let c = is.integers in
    let d = goes.booleans in
    let e = goes.integers in
    record {
      inside = goes.inside ∙ ap (λ (z : Option (List ℕ)). inside_next z s.statement.body) is.inside ∙ sym (inside_more None before s);
      within = goes.within;
      place = goes.place ∙ (λ j. place_next names (inside_next (is.inside j) s.statement.body) (is.place j) s.statement.body) ∙ place_more names before s;
      totals = goes.totals ∙ ap (λ (t : rules.Totals). totals_after t s.statement.body) is.totals ∙ totals_more before s;
      booleans = omega (arith, b, d);
      integers = omega (arith, c, e);
    }

-- a chain of tests

pub skip : {A : Type 0} (b : Bool) (x y r : A) → b ≡ false → r ≡ y → r ≡ cond b x y
skip true x y r e f = absurd cc
skip false x y r e f = f
