use Rattle.std.proofs.Common.{rules, sym, ◌∙◌}
use Rattle.command_words.proofs.ValueLemmas.{names_list}
use Rattle.command_words.proofs.keyed.names_under.Goals as goal

pub returns-in-Some-clause-some : goal.returns-in-Some-clause-some
returns-in-Some-clause-some c =
    names_list c.args.key.now c.args.word.now c.in-Some.spelling.now (search rules) (sym c.spells_names.ensures ∙ c.if-spells_names.true)
