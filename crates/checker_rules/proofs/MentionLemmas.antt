-- What is wrong with names that stand one after the other.
use Rattle.std.proofs.Common.{◌≡◌, ℕ, List, [], ◌∷◌, ◌++◌, map, refl, sym, ap, ◌∙◌}
use Rattle.std.specs.List.{fold, flat_map}
use Rattle.std.proofs.Math.Bool.{or-false, or_assoc}
use Rattle.std.proofs.lemmas.List.Folds.{list_any-append}
use Rattle.stapl_syntax.specs.declared.statement.PrintPart.{PrintPart}
use Rattle.stapl_syntax.specs.Trees.{part_tree}
use Rattle.stapl_syntax.specs.Mentions.{NameList, part_variables}
use Rattle.stapl_syntax.specs.Rules.{Known, is_absent, is_hidden}
use Rattle.checker_rules.specs.declared.mentions.NameFaults.{NameFaults}
use Rattle.checker_rules.specs.Mentioned.{no_faults, faults_of, joined, faults_in, parts_joined}

pub faults_none : (known : Known) → faults_in known [] ≡ no_faults
unfolding faults_in
faults_none known = refl

pub faults_one : (known : Known) (v : List ℕ) → faults_in known (v ∷ []) ≡ faults_of (known.found v)
unfolding faults_in
faults_one known v = λ j. record {
  undefined = or-false (is_absent (known.found v)) j;
  hidden = or-false (is_hidden (known.found v)) j;
}

pub faults_more : (known : Known) (v : List ℕ) (names : NameList) →
    faults_in known (v ∷ names) ≡ joined (faults_of (known.found v)) (faults_in known names)
unfolding faults_in joined
faults_more known v names = refl

pub faults_joined : (known : Known) (a b : NameList) →
    faults_in known (a ++ b) ≡ joined (faults_in known a) (faults_in known b)
unfolding faults_in joined
faults_joined known a b = λ j. record {
  undefined = list_any-append (λ name. is_absent (known.found name)) a b j;
  hidden = list_any-append (λ name. is_hidden (known.found name)) a b j;
}

joined_nothing : (a : NameFaults) → joined a no_faults ≡ a
unfolding joined
joined_nothing a = λ j. record { undefined = or-false a.undefined j; hidden = or-false a.hidden j }

pub joined_assoc : (a b c : NameFaults) → joined (joined a b) c ≡ joined a (joined b c)
unfolding joined
joined_assoc a b c = λ j. record {
  undefined = or_assoc a.undefined b.undefined c.undefined j;
  hidden = or_assoc a.hidden b.hidden c.hidden j;
}

nothing_joined : (a : NameFaults) → joined no_faults a ≡ a
unfolding joined
nothing_joined a = refl

-- the variables of the parts of PRINT
abbrev parts_variables : List PrintPart → NameList
parts_variables parts = flat_map part_variables (map part_tree parts)

parts_after : (known : Known) (before : NameFaults) (parts : List PrintPart) →
    fold (parts_joined known) before parts ≡ joined before (faults_in known (parts_variables parts))
parts_after known before [] = sym (ap (joined before) (faults_none known) ∙ joined_nothing before)
parts_after known before (p ∷ parts) =
    let first = faults_in known (part_variables (part_tree p)) in
    let rest = parts_variables parts in
    parts_after known (joined before first) parts ∙ joined_assoc before first (faults_in known rest)
    ∙ ap (joined before) (sym (faults_joined known (part_variables (part_tree p)) rest))

pub faults_of_parts : (known : Known) (parts : List PrintPart) →
    fold (parts_joined known) no_faults parts ≡ faults_in known (parts_variables parts)
faults_of_parts known parts =
    parts_after known no_faults parts
    ∙ nothing_joined (faults_in known (parts_variables parts))

-- the names of a statement, part by part
pub ruleset joined_names = (faults_none, faults_one, faults_more, faults_joined, joined_assoc, faults_of_parts)
