-- What the checker answers of a text.
use Rattle.std.specs.Prelude.{ℕ, List, map}
use Rattle.stapl_syntax.specs.Trees.{stmt_tree}
use Rattle.stapl_syntax.specs.Programs.{IsProgram, FirstFault}
use Rattle.stapl_checker.specs.declared.checking.CheckRefused.{CheckRefused}
use Rattle.stapl_checker.specs.declared.checking.CheckRefused.TheVariants as refusals
use Rattle.stapl_checker.specs.declared.checking.Verdict.{Verdict}
use Rattle.stapl_checker.specs.declared.checking.Verdict.TheVariants as verdicts

-- what the checker finds of a text that is not too long
abbrev pub IsVerdict : List ℕ → Verdict → Type 0
IsVerdict text (verdicts.Program statements) = IsProgram text (map stmt_tree statements.items)
IsVerdict text (verdicts.Fault piece line reason) = FirstFault text piece line reason

-- What a refusal says of a text: it is its first fault, or there was no memory.
abbrev pub IsCause : List ℕ → CheckRefused → Type 0
IsCause text (refusals.Refused piece line reason) = FirstFault text piece line reason
IsCause text refusals.Memory = Unit {0}
