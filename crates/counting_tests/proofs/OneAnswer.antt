-- The words and the contents of their file have at most one answer.
use Rattle.std.proofs.Common.{◌≡◌, ℕ, List, Option, refl, ap}
use Rattle.named_files.specs.Texts.{board_refusal_line}
use Rattle.named_files.proofs.BoardLemmas.{one_held, one_fault, board_or_fault}
use Rattle.counting_tests.specs.declared.status.CountStatus.{CountStatus}
use Rattle.counting_tests.specs.declared.status.CountStatus.TheVariants.{Refused}
use Rattle.counting_tests.specs.Answers.{count_line, HeldAnswer, counted, refused, WordsAnswer, usage, asked}

one_held_answer : (held : Option (List ℕ)) (a b : List ℕ) (s t : CountStatus) → HeldAnswer held a s → HeldAnswer held b t → (a ≡ b) × (s ≡ t)
one_held_answer held a b s t (counted xs x) (counted ys y) = (ap count_line (one_held held xs ys x y), refl)
one_held_answer held a b s t (counted xs x) (refused n r f) = absurd (board_or_fault held xs n r x f)
one_held_answer held a b s t (refused n r f) (counted xs x) = absurd (board_or_fault held xs n r x f)
one_held_answer held a b s t (refused m q x) (refused n r y) =
    let same = one_fault held m n q r x y in ((λ j. board_refusal_line (same.0 j) (same.1 j)), (λ j. Refused (same.0 j) (same.1 j)))

pub one_answer : (held : Option (List ℕ)) (words : List (List ℕ)) (a b : List ℕ) (s t : CountStatus) → WordsAnswer held words a s → WordsAnswer held words b t →
    (a ≡ b) × (s ≡ t)
one_answer held words a b s t (usage none) (usage other) = (refl, refl)
one_answer held words a b s t (usage none) (asked path v r named y) = absurd (none path named)
one_answer held words a b s t (asked path v r named x) (usage none) = absurd (none path named)
one_answer held words a b s t (asked path v r named x) (asked other w q is y) = one_held_answer held a b s t x y
