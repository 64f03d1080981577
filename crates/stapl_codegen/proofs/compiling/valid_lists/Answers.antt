use Rattle.std.proofs.Common.{sym, subst}
use Rattle.stapl_syntax.specs.Trees.{trees}
use Rattle.stapl_code.specs.Ranges.{IsInRange}
use Rattle.stapl_code.specs.Valid.{IsValid}
use Rattle.stapl_codegen.specs.Generated.{IsCodeOf}
use Rattle.stapl_meaning.specs.Scopes.{as_played}
use Rattle.stapl_codegen.proofs.compiling.valid_lists.Goals as goal

pub returns-clause-code : goal.returns-clause-code
returns-clause-code c =
    subst (IsCodeOf (as_played (trees c.args.program.now))) (sym c.in_ok-lists.ensures) (c.accepted_code_is_valid.ensures.code (as_played (trees c.args.program.now)) c.requires)

pub returns-clause-in_range : goal.returns-clause-in_range
returns-clause-in_range c = subst IsInRange (sym c.in_ok-lists.ensures) (c.accepted_code_is_valid.ensures.in_range (as_played (trees c.args.program.now)) c.requires)

pub returns-clause-valid : goal.returns-clause-valid
returns-clause-valid c = subst IsValid (sym c.in_ok-lists.ensures) (c.accepted_code_is_valid.ensures.valid (as_played (trees c.args.program.now)) c.requires)
