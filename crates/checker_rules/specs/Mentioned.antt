-- What is wrong with the names that a statement mentions, as one walk over the statement finds it.
use Rattle.std.specs.Prelude.{ℕ, List, Bool, false, not, ◌||◌, Option, is_none}
use Rattle.std.specs.List.{list_any}
use Rattle.stapl_syntax.specs.declared.names.Found.{Found}
use Rattle.stapl_syntax.specs.declared.statement.PrintPart.{PrintPart}
use Rattle.stapl_syntax.specs.Trees.{part_tree}
use Rattle.stapl_syntax.specs.Mentions.{NameList, part_variables, given_variables}
use Rattle.stapl_syntax.specs.Rules.{Known, is_absent, is_hidden, is_data_block}
use Rattle.checker_rules.specs.declared.mentions.NameFaults.{NameFaults}

-- no DATA block has this name
abbrev pub is_no_data : Known → List ℕ → Bool
is_no_data known name = not (is_data_block (known.block name))

-- no block has it
abbrev pub is_no_block : Known → List ℕ → Bool
is_no_block known name = is_none (known.block name)

-- the procedure has no label of this name
abbrev pub is_no_label : Known → List ℕ → Bool
is_no_label known name = not (known.label name)

-- no fault
abbrev pub no_faults : NameFaults
no_faults = record { undefined = false; hidden = false }

-- the faults of one name of a variable, by what it stands for
abbrev pub faults_of : Found → NameFaults
faults_of found = record { undefined = is_absent found; hidden = is_hidden found }

-- these faults and those
unfoldable pub joined : NameFaults → NameFaults → NameFaults
joined a b = record { undefined = a.undefined || b.undefined; hidden = a.hidden || b.hidden }

-- the faults of names of variables
unfoldable pub faults_in : Known → NameList → NameFaults
faults_in known names = record {
  undefined = list_any (λ name. is_absent (known.found name)) names;
  hidden = list_any (λ name. is_hidden (known.found name)) names;
}

-- those of the variables of what may be missing
abbrev pub given_faults : {A : Type 0} → Known → (A → NameList) → Option A → NameFaults
given_faults known names x = faults_in known (given_variables names x)

-- these faults and those of a part of PRINT
abbrev pub parts_joined : Known → NameFaults → PrintPart → NameFaults
parts_joined known before part = joined before (faults_in known (part_variables (part_tree part)))
