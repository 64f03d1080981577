use Rattle.std.proofs.Common.{◌∙◌, ◌+◌, ◌<◌, ap, arith}
use Rattle.stapl_lexer.specs.PieceTokens.{kind_at}
use Rattle.stapl_lexer.proofs.LexemeLemmas.{range_first, before_limit, next_begins, next_large}
use Rattle.stapl_lexer.proofs.reading.next_lexeme.Goals as goal

pub returns-clause-some : goal.returns-clause-some
returns-clause-some c =
    let text = c.args.text.now in
    let lt : c.args.at + c.blank_len.result < c.args.limit =
    before_limit text c.args.at c.args.limit c.blank_len.result c.requires.ordered c.requires.within c.blank_len.ensures.within c.if-start-limit.false in
    next_begins text c.args.is_crc c.args.at c.args.limit c.blank_len.result c.kind_at-kind.result c.front_of-front.result c.placed.result.token c.placed.result.good
    lt c.requires.within c.blank_len.ensures.blank
    (c.kind_at-kind.ensures ∙ ap (kind_at c.args.is_crc) (range_first text (c.args.at + c.blank_len.result) c.args.limit lt))
    c.front_of-front.ensures
    (record { kind_is = c.placed.ensures.kind; start_is = c.placed.ensures.start; end_is = c.placed.ensures.end; value_is = c.placed.ensures.value; terminal_is = c.placed.ensures.terminal })
    c.placed.ensures.good

pub returns-clause-large : goal.returns-clause-large
returns-clause-large c =
    let text = c.args.text.now in
    let lt : c.args.at + c.blank_len.result < c.args.limit =
    before_limit text c.args.at c.args.limit c.blank_len.result c.requires.ordered c.requires.within c.blank_len.ensures.within c.if-start-limit.false in
    c.placed.ensures.large
    ∙ next_large text c.args.limit c.kind_at-kind.result c.front_of-front.result c.placed.result.token (c.args.at + c.blank_len.result) (omega arith) c.requires.within
    c.front_of-front.ensures
    (record { kind_is = c.placed.ensures.kind; start_is = c.placed.ensures.start; end_is = c.placed.ensures.end; value_is = c.placed.ensures.value; terminal_is = c.placed.ensures.terminal })
