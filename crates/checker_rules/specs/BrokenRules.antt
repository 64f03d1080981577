-- Which rule a statement breaks, by its smallest reason.
use Rattle.std.specs.Prelude.{List, [], ◌∷◌, not, Option, None, Some, if◌then◌else◌, find}
use Rattle.stapl_lexer.specs.declared.reason.Reason.{Reason}
use Rattle.stapl_lexer.specs.declared.reason.Reason.TheVariants as reasons
use Rattle.stapl_syntax.specs.Trees.{BodyTree, StmtTree}
use Rattle.stapl_syntax.specs.Rules.{Known, Totals, is_well_kinded, stops_unstable, passes_a_limit, Facts, breaks}

-- the reasons that speak of statements, the smallest first
abbrev pub rule_reasons : List Reason
rule_reasons =
    reasons.Order ∷ reasons.Duplicate ∷ reasons.Undefined ∷ reasons.NotVisible ∷ reasons.TypeMismatch ∷ reasons.NotStable ∷ reasons.SizeLimit ∷ []

-- the smallest reason of a statement by these facts
abbrev pub rule_broken : Facts → StmtTree → Option Reason
rule_broken facts st = find (breaks facts st) rule_reasons

-- the smallest of the last three: of kinds, stop states and sizes
abbrev pub operands_broken : Known → Totals → BodyTree → Option Reason
operands_broken known before body =
    if not (is_well_kinded known body) then Some reasons.TypeMismatch
    else if stops_unstable body then Some reasons.NotStable
    else if passes_a_limit before body then Some reasons.SizeLimit else None
