use Rattle.std.proofs.Common.{sym, ◌∙◌}
use Rattle.stapl_syntax.specs.Names.{key_eq}
use Rattle.stapl_names.proofs.Puts.{goes_last, put_new}
use Rattle.stapl_names.proofs.Spelled.{spelled_more}
use Rattle.stapl_names.proofs.variables.Variables.put.Goals as goal

pub returns-in_ok-insert-clause-table : goal.returns-in_ok-insert-clause-table
returns-in_ok-insert-clause-table c =
    put_new key_eq c.args.self.now.table c.args.variable.key c.args.variable _ c.in_ok-insert.ensures.entries
    (sym c.contains_key.ensures ∙ c.if-not-contains_key.true)

pub returns-in_ok-insert-clause-spelled : goal.returns-in_ok-insert-clause-spelled
returns-in_ok-insert-clause-spelled c =
    spelled_more c.args.self.now (record { table = c.insert.new.self; spelled = c.spell.new.spelled }) c.args.variable c.len-number.result c.requires
    c.len-number.ensures.len c.in_ok-spell.ensures
    (goes_last key_eq c.args.self.now.table c.args.variable.key c.args.variable _ c.in_ok-insert.ensures.entries
    (sym c.contains_key.ensures ∙ c.if-not-contains_key.true))
