-- A choice comes to one thing, and a board has a run of devices or lacks it.
use Rattle.std.proofs.Common.{◌≡◌, ℕ, List, Bool, true, false}
use Rattle.stapl_meaning.specs.Choices.{Choice, no_action, bad_choice, chosen}

pub none_or_bad : {choice : Choice} → choice ≡ no_action → choice ≡ bad_choice → ⊥
none_or_bad e f = cc

pub none_or_chosen : {choice : Choice} {procedures : List ℕ} → choice ≡ no_action → choice ≡ chosen procedures → ⊥
none_or_chosen e f = cc

pub bad_or_chosen : {choice : Choice} {procedures : List ℕ} → choice ≡ bad_choice → choice ≡ chosen procedures → ⊥
bad_or_chosen e f = cc

pub one_choice : {choice : Choice} {a b : List ℕ} → choice ≡ chosen a → choice ≡ chosen b → a ≡ b
one_choice e f = cc

pub has_or_lacks : {placed : Bool} → placed ≡ true → placed ≡ false → ⊥
has_or_lacks e f = cc
