use Rattle.std.proofs.Common.{rules, lit<}
use Rattle.std.proofs.lemmas.Iterator.{items_from_collect}
use Rattle.std.proofs.lemmas.Iterator.Consumers.{YieldsList-from_filter_map}
use Rattle.std.proofs.lemmas.Iterator.Splits.{YieldsList-from_str_split}
use Rattle.command_words.specs.KeyedWords.{name_spelled}
use Rattle.command_words.proofs.given.names_in.Goals as goal

pub returns : goal.returns
returns c =
    items_from_collect {s = c.filter_map.result} _ c.collect.ensures.ran
    (YieldsList-from_filter_map {s = c.filter_map.result} _ name_spelled
    (YieldsList-from_str_split 44 c.args.spelling.now (lit< tt) (cc) (cc) (cc))
    c.filter_map.ensures.closure (λ part r q k. search rules))
