-- On the words of the program.
use Rattle.std.proofs.Common.{◌≡◌, ℕ, List, [], ◌∷◌, codes, ◌⊎◌, inr}
use Rattle.command_words.proofs.ValueLemmas.{one_path}
use Rattle.command_words.proofs.FoundOrNot.{path_or_not}
use Rattle.counting_tests.specs.Words.{NamesBoard, NamesNone}

pub one_named : (words : List (List ℕ)) (a b : List ℕ) → NamesBoard words a → NamesBoard words b → a ≡ b
one_named [] a b x y = absurd x
one_named (word ∷ []) a b x y = one_path (codes "board=") word a b x y
one_named (word ∷ other ∷ rest) a b x y = absurd x

pub named_or_none : (words : List (List ℕ)) → ((path : List ℕ) × NamesBoard words path) ⊎ NamesNone words
named_or_none [] = inr (λ path named. named)
named_or_none (word ∷ []) = path_or_not (codes "board=") word
named_or_none (word ∷ other ∷ rest) = inr (λ path named. named)
