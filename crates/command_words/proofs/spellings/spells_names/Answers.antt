use Rattle.std.proofs.Common.{rules, lit<}
use Rattle.std.proofs.lemmas.Iterator.Search.{all_from_yields_List}
use Rattle.std.proofs.lemmas.Iterator.Splits.{YieldsList-from_str_split}
use Rattle.stapl_lexer.specs.ReservedWords.{is_free_name}
use Rattle.command_words.proofs.spellings.spells_names.Goals as goal

pub returns : goal.returns
returns c =
    all_from_yields_List is_free_name _ _ _ c.all.ensures.ran
    (YieldsList-from_str_split 44 c.args.spelling.now (lit< tt) c.split.ensures.text c.split.ensures.has_more c.split.ensures.pattern)
    (λ part r q k. search rules)
