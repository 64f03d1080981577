-- Lines that are written one after the other.
use Rattle.std.proofs.Common.{◌≡◌, ℕ, ◌+◌, ◌<◌, ◌≤◌, zero, suc, List, [], ◌∷◌, ◌++◌, length, map, drop, get_or, Result, Ok, Err, IfOk, Vec, Global, refl, sym, ap, subst, ◌∙◌}
use Rattle.std.proofs.Common.{append_assoc, arith, add-one, OnOk}
use Rattle.std.proofs.lemmas.List.{length-append}
use Rattle.std.proofs.lemmas.List.Concat.{flat_map-cons}
use Rattle.std.specs.List.{AllByRecursion}
use Rattle.stapl_lexer.specs.Pieces.{text_limit}
use Rattle.stapl_syntax.specs.Trees.{StmtTree}
use Rattle.stapl_syntax.specs.Programs.{IsProgram}
use Rattle.canonical_text.specs.CanonicalText.{line, lines, checked, checked_from, checked_statements, canonical_text, HasStatements}
use Rattle.canonical_text.specs.Printable.{CanBePrinted}
use Rattle.canonical_text.proofs.Programs.{canonical_program, canonical_read}
use Rattle.stapl_print.specs.Lines.{with_lines}

drop_at : {A B : Type 0} (f : A → B) (i : ℕ) (xs : List A) (d : A) → i < length xs → drop i (map f xs) ≡ f (get_or xs i d) ∷ drop (suc i) (map f xs)
drop_at f zero [] d below = absurd (omega (arith, below))
drop_at f zero (x ∷ xs) d below = refl
drop_at f (suc i) [] d below = absurd (omega (arith, below))
drop_at f (suc i) (x ∷ xs) d below = drop_at f i xs d (omega (arith, below))

-- the next item, and those after it
pub next_of : {A B : Type 0} (f : A → B) (i : ℕ) (xs : List A) (x : A) → i < length xs → x ≡ get_or xs i x → drop i (map f xs) ≡ f x ∷ drop (i + 1) (map f xs)
next_of f i xs x below is =
    drop_at f i xs x below ∙ ap (λ y. f y ∷ drop (suc i) (map f xs)) (sym is) ∙ ap (λ (k : ℕ). f x ∷ drop k (map f xs)) (sym (add-one i))

-- a line is written, and what is left gives the whole
pub one_line : (before new whole : List ℕ) (st : StmtTree) (left rest : List StmtTree) → left ≡ st ∷ rest → before ++ lines (checked_from before left) ≡ whole →
    new ≡ before ++ line (checked before st) → new ++ lines (checked_from new rest) ≡ whole
one_line before new whole st left rest e so_far put =
    ap (λ (v : List ℕ). v ++ lines (checked_from v rest)) put
    ∙ append_assoc before (line (checked before st)) (lines (checked_from (before ++ line (checked before st)) rest))
    ∙ ap (λ (v : List ℕ). before ++ v) (sym (flat_map-cons line (checked before st) (checked_from (before ++ line (checked before st)) rest)))
    ∙ ap (λ (v : List StmtTree). before ++ lines (checked_from before v)) (sym e) ∙ so_far

-- a front that is too large
pub front_large : (before whole : List ℕ) (rest : List StmtTree) → before ++ lines (checked_from before rest) ≡ whole → text_limit < length before → text_limit < length whole
front_large before whole rest e lt = omega (arith, lt, ap length e, length-append before (lines (checked_from before rest)))

-- the canonical text of a program is a program
pub program_printed : (bytes : List ℕ) (sts own : List StmtTree) {E : Type 0} (result : Result (Vec ℕ Global) E) → own ≡ sts → IsProgram bytes sts →
    IfOk result (λ t. t.items ≡ canonical_text own) → OnOk result (length (canonical_text own) ≤ text_limit) → IfOk result (λ t. IsProgram t.items (checked_statements sts))
program_printed bytes sts own (Ok t) same is text small =
    subst (λ (v : List ℕ). IsProgram v (checked_statements sts)) (sym (text ∙ ap canonical_text same))
    (canonical_program bytes sts is (subst (λ (v : List StmtTree). length (canonical_text v) ≤ text_limit) same small))
program_printed bytes sts own (Err e) same is text small = tt

-- the lines of statements after nothing are read back as these
pub read_back : (text : List ℕ) (sts : List StmtTree) {E : Type 0} (result : Result (Vec ℕ Global) E) → text ≡ [] → AllByRecursion CanBePrinted sts →
    IfOk result (λ t. t.items ≡ with_lines text sts) → IfOk result (λ t. HasStatements t.items (checked_statements sts))
read_back text sts (Ok t) none can same =
    subst (λ (v : List ℕ). HasStatements v (checked_statements sts)) (sym (same ∙ ap (λ (v : List ℕ). with_lines v sts) none)) (canonical_read sts can)
read_back text sts (Err e) none can same = tt
