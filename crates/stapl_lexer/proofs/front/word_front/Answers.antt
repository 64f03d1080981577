use Rattle.std.proofs.Common.{◌∙◌, sym}
use Rattle.stapl_lexer.proofs.FrontLemmas.{plain_word, dollar_word}
use Rattle.stapl_lexer.proofs.front.word_front.Goals as goal

pub returns-then-has_dollar : goal.returns-then-has_dollar
returns-then-has_dollar c =
    dollar_word c.args.bytes.now c.name_len-n.result c.requires.letter c.name_len-n.ensures (sym c.has_dollar.ensures ∙ c.if-has_dollar.true)

pub returns-else-has_dollar : goal.returns-else-has_dollar
returns-else-has_dollar c =
    plain_word c.args.bytes.now c.name_len-n.result c.requires.letter c.name_len-n.ensures (sym c.has_dollar.ensures ∙ c.if-has_dollar.false)
