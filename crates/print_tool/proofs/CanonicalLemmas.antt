-- What is printed is the same program, and is printed again as it is.
use Rattle.std.proofs.Common.{◌≡◌, ◌↔◌, ◌≤◌, ◌-◌, ℕ, zero, suc, List, [], ◌∷◌, map, length, slice_get, Option, None, Some, IfSome, refl, sym, ap, ◌∙◌, subst, arith}
use Rattle.std.specs.Option.{option_map_or}
use Rattle.std.specs.List.{AllByRecursion}
use Rattle.std.proofs.lemmas.Option.{same_Some}
use Rattle.stapl_lexer.specs.Pieces.{text_limit}
use Rattle.stapl_syntax.specs.Trees.{BodyTree, crc, StmtTree}
use Rattle.stapl_syntax.specs.Programs.{IsProgram}
use Rattle.stapl_syntax.specs.Statements.{IsLabelled}
use Rattle.stapl_syntax.specs.Symbols.{Symbol}
use Rattle.stapl_checker.proofs.UniqueLemmas.{one_program}
use Rattle.canonical_text.specs.CanonicalText.{canonical_text, checked_statements, plain}
use Rattle.canonical_text.specs.Printable.{CanBePrinted}
use Rattle.canonical_text.proofs.CheckWords.{good_check_word}
use Rattle.canonical_text.proofs.Programs.{canonical_program, plain_checked, program_printable}
use Rattle.canonical_text.proofs.Twice.{printed_twice, equal_texts}
use Rattle.program_reports.specs.declared.checking.CheckWords.{CheckWords}
use Rattle.program_reports.specs.Checks.{word_of, HasCheckWords, holds_none, holds_one}
use Rattle.print_tool.specs.declared.status.PrintStatus.{PrintStatus}
use Rattle.print_tool.specs.declared.status.PrintStatus.TheVariants.{Done}
use Rattle.std.specs.Prelude.{IsSomeAnd}
use Rattle.tool_frame.proofs.AnswerLemmas.{IsWithin}
use Rattle.print_tool.specs.Answers.{TextAnswer, refused, too_large, printed, HeldAnswer, WordsAnswer, usage, asked}
use Rattle.print_tool.specs.Canonical.{IsCanonicalOf, PromisedAnswer}
use Rattle.print_tool.proofs.OneAnswer.{one_text_answer}

-- ---- the check word

abbrev stmt_of : Option (List ℕ) → BodyTree → StmtTree
stmt_of label body = record { label = label; body = body }

abbrev check_tree : ℕ → StmtTree
check_tree n = record { label = None; body = crc n }

bare_check : (s : List Symbol) (label : Option (List ℕ)) (n : ℕ) → IsLabelled s label (crc n) → label ≡ None
bare_check s None n is = refl
bare_check s (Some v) n is = absurd (let f = is.2 in cc)

-- a CRC that can be printed has no label
check_statement_is : (st : StmtTree) (n : ℕ) → CanBePrinted st → word_of st.body ≡ Some n → st ≡ check_tree n
check_statement_is st n can e = by st.label st.body can.means e
  where
    by : (label : Option (List ℕ)) (body : BodyTree) → IsLabelled can.writing label body → word_of body ≡ Some n → stmt_of label body ≡ check_tree n
    by label (crc m) is e = λ j. record { label = bare_check can.writing label m is j; body = crc (same_Some m n e j) }
    by label _ is e = absurd cc

printable_at : (sts : List StmtTree) (i : ℕ) → AllByRecursion CanBePrinted sts → IfSome (slice_get sts i) CanBePrinted
printable_at [] i all = tt
printable_at (st ∷ sts) zero all = all.0
printable_at (st ∷ sts) (suc i) all = printable_at sts i all.1

last_check : (last : Option StmtTree) (n : ℕ) → IfSome last CanBePrinted → option_map_or (λ st. word_of st.body) last None ≡ Some n →
    last ≡ Some (check_tree n)
last_check None n can e = absurd cc
last_check (Some st) n can e = ap Some (check_statement_is st n can e)

-- `check` says that the check word of a printed text is good
pub check_is_good : (text : List ℕ) (sts : List StmtTree) → IsProgram text sts → length (canonical_text sts) ≤ text_limit → (words : Option CheckWords) →
    HasCheckWords (canonical_text sts) (checked_statements sts) words → IfSome words (λ w. w.stored ≡ w.computed)
check_is_good text sts program small words (holds_none none) = tt
check_is_good text sts program small words (holds_one stored word e last) =
    let own = checked_statements sts in
    let here = canonical_program text sts program small in
    good_check_word sts last.pieces last.piece stored word last.after (program_printable text sts program) last.cut last.last
    (last_check (slice_get own (length own - 1)) stored (printable_at own (length own - 1) (program_printable (canonical_text sts) own here)) e) last.tokens

-- ---- the same program

program_canonical : (bytes : List ℕ) (program : List StmtTree) → IsProgram bytes program → length (canonical_text program) ≤ text_limit →
    IsCanonicalOf bytes (canonical_text program)
program_canonical bytes program is small = record {
  program = program;
  is = is;
  own = checked_statements program;
  printed = canonical_program bytes program is small;
  same = plain_checked [] program;
  again = printed_twice program;
  good = check_is_good bytes program is small;
}

-- what is printed is canonical
pub printed_is_canonical : (bytes text : List ℕ) (status : PrintStatus) → TextAnswer bytes text status → status ≡ Done → IsCanonicalOf bytes text
printed_is_canonical bytes text status (refused piece line reason fault) e = absurd cc
printed_is_canonical bytes text status (too_large program is large) e = absurd cc
printed_is_canonical bytes text status (printed program is small) e = program_canonical bytes program is small

held_canonical : (held : Option (List ℕ)) (text : List ℕ) (status : PrintStatus) → HeldAnswer held text status → status ≡ Done →
    IsSomeAnd held (λ bytes. IsCanonicalOf bytes text)
held_canonical None text status a e = a
held_canonical (Some bytes) text status a e = printed_is_canonical bytes text status a e

words_canonical : (held : Option (List ℕ)) (words : List (List ℕ)) {text : List ℕ} {status : PrintStatus} → WordsAnswer held words text status → status ≡ Done →
    IsSomeAnd held (λ bytes. IsCanonicalOf bytes text)
words_canonical held words (usage n u) e = absurd cc
words_canonical held words (asked path text status named a) e = held_canonical held text status a e

-- what the words are answered, with what stands of it
pub promised : (held : Option (List ℕ)) (words : List (List ℕ)) → IsWithin (WordsAnswer held words) (PromisedAnswer held words)
promised held words = record { to = λ text status a. record { answer = a; same = words_canonical held words a } }

again_done : (text : List ℕ) (own : List StmtTree) → IsProgram text own → canonical_text own ≡ text → TextAnswer text text Done
again_done text own is e =
    subst (λ (t : List ℕ). TextAnswer text t Done) e (printed own is (omega (arith, is.short, ap length e)))

-- and is printed again as it is
pub printed_again : (bytes text again : List ℕ) (status : PrintStatus) → TextAnswer bytes text Done → TextAnswer text again status → (again ≡ text) × (status ≡ Done)
printed_again bytes text again status first second =
    let canonical = printed_is_canonical bytes text Done first refl in
    one_text_answer text again text status Done second (again_done text canonical.own canonical.printed canonical.again)

-- ---- equal programs

-- the canonical text of a program that is printed
record IsPrinted (bytes text : List ℕ) (program : List StmtTree) : Type 0 where
  small : length (canonical_text program) ≤ text_limit
  text_is : text ≡ canonical_text program

of_printed : (bytes text : List ℕ) (status : PrintStatus) (program : List StmtTree) → TextAnswer bytes text status → status ≡ Done → IsProgram bytes program → IsPrinted bytes text program
of_printed bytes text status program (refused piece line reason fault) e is = absurd cc
of_printed bytes text status program (too_large own here large) e is = absurd cc
of_printed bytes text status program (printed own here small) e is =
    subst (IsPrinted bytes text) (one_program bytes own program here is) (record { small = small; text_is = refl })

pub same_printed : (a b text other : List ℕ) (program same : List StmtTree) → TextAnswer a text Done → TextAnswer b other Done → IsProgram a program → IsProgram b same →
    (text ≡ other) ↔ (map plain program ≡ map plain same)
same_printed a b text other program same x y is here =
    let p = of_printed a text Done program x refl is in
    let q = of_printed b other Done same y refl here in
    let both = equal_texts a b program same is here p.small q.small in
    ((λ e. both.0 (sym p.text_is ∙ e ∙ q.text_is)), (λ e. p.text_is ∙ both.1 e ∙ sym q.text_is))
