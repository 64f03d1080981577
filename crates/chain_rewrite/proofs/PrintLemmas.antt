-- Statements that are printed after a text.
use Rattle.std.proofs.Common.{◌≡◌, ℕ, ◌<◌, ◌≤◌, List, [], ◌∷◌, ◌++◌, length, drop, Result, Ok, Err, IfOk, OnOk, Vec, Global, refl, sym, ap, subst, ◌∙◌, append-nil, arith}
use Rattle.std.specs.Prelude.{IsErrOf}
use Rattle.std.proofs.lemmas.List.{length-append, drop_all}
use Rattle.stapl_lexer.specs.Pieces.{text_limit}
use Rattle.stapl_syntax.specs.Trees.{StmtTree}
use Rattle.canonical_text.specs.CanonicalText.{line, lines, checked, checked_from}
use Rattle.stapl_print.specs.Lines.{with_lines}
use Rattle.stapl_print.specs.declared.printing.PrintRefused.{PrintRefused}
use Rattle.stapl_print.specs.declared.printing.PrintRefused.TheVariants as refusals
use Rattle.stapl_print.proofs.LineLemmas.{one_line}
use Rattle.chain_rewrite.specs.Printing.{PrintsAfter}

-- the three clauses of the call that prints
pub prints : (text : List ℕ) (sts : List StmtTree) (r : Result (Vec ℕ Global) PrintRefused) → IfOk r (λ longer. longer.items ≡ with_lines text sts) →
    OnOk r (length (with_lines text sts) ≤ text_limit) → (IsErrOf r refusals.TooLarge → text_limit < length (with_lines text sts)) → PrintsAfter text sts r
prints text sts (Ok longer) same small large = (same, omega (arith, ap length same, small))
prints text sts (Err refusals.TooLarge) same small large = large refl
prints text sts (Err refusals.Memory) same small large = tt

next_line : (text : List ℕ) (st : StmtTree) (rest : List StmtTree) → with_lines (text ++ line (checked text st)) rest ≡ with_lines text (st ∷ rest)
next_line text st rest = one_line text (text ++ line (checked text st)) (with_lines text (st ∷ rest)) st (st ∷ rest) rest refl refl refl

-- lines after lines
pub more_lines : (text : List ℕ) (a b : List StmtTree) → with_lines (with_lines text a) b ≡ with_lines text (a ++ b)
more_lines text [] b = ap (λ (t : List ℕ). with_lines t b) (append-nil text)
more_lines text (st ∷ a) b =
    ap (λ (t : List ℕ). with_lines t b) (sym (next_line text st a)) ∙ more_lines (text ++ line (checked text st)) a b ∙ next_line text st (a ++ b)

-- the same text in the end
pub prints_same : (text other : List ℕ) (a b : List StmtTree) (r : Result (Vec ℕ Global) PrintRefused) → with_lines text a ≡ with_lines other b → PrintsAfter text a r →
    PrintsAfter other b r
prints_same text other a b (Ok longer) e p = (p.0 ∙ e, p.1)
prints_same text other a b (Err refusals.TooLarge) e p = subst (λ (t : List ℕ). text_limit < length t) e p
prints_same text other a b (Err refusals.Memory) e p = tt

-- some statements were printed, and others after them
pub prints_then : (text longer : List ℕ) (a b : List StmtTree) (r : Result (Vec ℕ Global) PrintRefused) → longer ≡ with_lines text a → PrintsAfter longer b r →
    PrintsAfter text (a ++ b) r
prints_then text longer a b r same p = prints_same longer text b (a ++ b) r (ap (λ (t : List ℕ). with_lines t b) same ∙ more_lines text a b) p

-- some could not be printed
pub prints_failed : (text : List ℕ) (a b : List StmtTree) (e : PrintRefused) → PrintsAfter text a (Err e) → PrintsAfter text (a ++ b) (Err e)
prints_failed text a b refusals.TooLarge p =
    let more = ap length (more_lines text a b) in
    let long = length-append (with_lines text a) (lines (checked_from (with_lines text a) b)) in
    omega (arith, p, more, long)
prints_failed text a b refusals.Memory p = tt

-- ---- one statement after the other, of which these are left

pub one_put : (text longer more : List ℕ) (all left rest : List StmtTree) (st : StmtTree) → left ≡ st ∷ rest → with_lines longer left ≡ with_lines text all →
    more ≡ with_lines longer (st ∷ []) → with_lines more rest ≡ with_lines text all
one_put text longer more all left rest st next so_far put =
    ap (λ (t : List ℕ). with_lines t rest) put ∙ more_lines longer (st ∷ []) rest ∙ ap (with_lines longer) (sym next) ∙ so_far

pub one_failed : (text longer : List ℕ) (all left rest : List StmtTree) (st : StmtTree) (e : PrintRefused) → left ≡ st ∷ rest → with_lines longer left ≡ with_lines text all →
    PrintsAfter longer (st ∷ []) (Err e) → PrintsAfter text all (Err e)
one_failed text longer all left rest st e next so_far p =
    prints_same longer text (st ∷ rest) all (Err e) (ap (with_lines longer) (sym next) ∙ so_far) (prints_failed longer (st ∷ []) rest e p)

pub all_put : (text longer : List ℕ) (all : List StmtTree) (i : ℕ) → length all ≤ i → with_lines longer (drop i all) ≡ with_lines text all → longer ≡ with_lines text all
all_put text longer all i few so_far = sym (append-nil longer) ∙ ap (with_lines longer) (sym (drop_all i all few)) ∙ so_far

pub too_large_from : (text : List ℕ) (sts : List StmtTree) (e : PrintRefused) → e ≡ refusals.TooLarge → PrintsAfter text sts (Err e) → text_limit < length (with_lines text sts)
too_large_from text sts e is p = subst (λ (x : PrintRefused). PrintsAfter text sts (Err x)) is p
