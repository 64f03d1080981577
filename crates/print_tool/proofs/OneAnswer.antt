-- The words and the contents of their file have at most one answer.
use Rattle.std.proofs.Common.{◌≡◌, ◌≤◌, ◌<◌, ℕ, List, length, Option, None, Some, refl, ap, arith}
use Rattle.stapl_lexer.specs.declared.reason.Reason.{Reason}
use Rattle.stapl_lexer.specs.Pieces.{text_limit}
use Rattle.stapl_syntax.specs.Trees.{StmtTree}
use Rattle.stapl_checker.proofs.UniqueLemmas.{one_first_fault, no_fault, one_program}
use Rattle.canonical_text.specs.CanonicalText.{canonical_text}
use Rattle.named_files.specs.Texts.{refusal_line, usage_line}
use Rattle.print_tool.specs.declared.status.PrintStatus.{PrintStatus}
use Rattle.print_tool.specs.declared.status.PrintStatus.TheVariants.{Done, Refused, Usage}
use Rattle.print_tool.specs.Answers.{TextAnswer, refused, too_large, printed, HeldAnswer, WordsAnswer, usage, asked}
use Rattle.print_tool.proofs.WordLemmas.{one_usage, refused_names_none}

-- the text and the status of an answer
record Said : Type 0 where
  text : List ℕ
  status : PrintStatus

abbrev said : List ℕ → PrintStatus → Said
said text status = record { text = text; status = status }

abbrev said_refused : ℕ → ℕ → Reason → Said
said_refused piece line reason = said (refusal_line piece line reason) (Refused piece reason)

one_length : (a b : List StmtTree) → a ≡ b → length (canonical_text a) ≤ text_limit → text_limit < length (canonical_text b) → ⊥
one_length a b e small large = omega (arith, small, large, ap (λ (v : List StmtTree). length (canonical_text v)) e)

one_text : (bytes a b : List ℕ) (s t : PrintStatus) → TextAnswer bytes a s → TextAnswer bytes b t → said a s ≡ said b t
one_text bytes a b s t (refused p l r x) (refused q m u y) =
    let same = one_first_fault bytes p l q m r u x y in λ j. said_refused (same.0 j) (same.1 j) (same.2 j)
one_text bytes a b s t (refused p l r x) (too_large program y large) = absurd (no_fault program y x)
one_text bytes a b s t (refused p l r x) (printed program y small) = absurd (no_fault program y x)
one_text bytes a b s t (too_large program y large) (refused p l r x) = absurd (no_fault program y x)
one_text bytes a b s t (too_large program x large) (too_large other y more) = refl
one_text bytes a b s t (too_large program x large) (printed other y small) = absurd (one_length other program (one_program bytes other program y x) small large)
one_text bytes a b s t (printed program y small) (refused p l r x) = absurd (no_fault program y x)
one_text bytes a b s t (printed program x small) (too_large other y large) = absurd (one_length program other (one_program bytes program other x y) small large)
one_text bytes a b s t (printed program x small) (printed other y few) = ap (λ (v : List StmtTree). said (canonical_text v) Done) (one_program bytes program other x y)

pub one_text_answer : (bytes a b : List ℕ) (s t : PrintStatus) → TextAnswer bytes a s → TextAnswer bytes b t → (a ≡ b) × (s ≡ t)
one_text_answer bytes a b s t x y = let same = one_text bytes a b s t x y in (ap (λ (z : Said). z.text) same, ap (λ (z : Said). z.status) same)

one_held : (held : Option (List ℕ)) (a b : List ℕ) (s t : PrintStatus) → HeldAnswer held a s → HeldAnswer held b t → said a s ≡ said b t
one_held None a b s t x y = absurd x
one_held (Some bytes) a b s t x y = one_text bytes a b s t x y

one_said : (held : Option (List ℕ)) (words : List (List ℕ)) (a b : List ℕ) (s t : PrintStatus) → WordsAnswer held words a s → WordsAnswer held words b t → said a s ≡ said b t
one_said held words a b s t (usage n x) (usage m y) = ap (λ (k : ℕ). said (usage_line k) (Usage k)) (one_usage words n m x y)
one_said held words a b s t (usage n x) (asked path v r named y) = absurd (refused_names_none words n path x named)
one_said held words a b s t (asked path v r named y) (usage n x) = absurd (refused_names_none words n path x named)
one_said held words a b s t (asked path v r named x) (asked other w q is y) = one_held held v w r q x y

pub one_answer : (held : Option (List ℕ)) (words : List (List ℕ)) (a b : List ℕ) (s t : PrintStatus) → WordsAnswer held words a s → WordsAnswer held words b t →
    (a ≡ b) × (s ≡ t)
one_answer held words a b s t x y = let same = one_said held words a b s t x y in (ap (λ (z : Said). z.text) same, ap (λ (z : Said). z.status) same)
