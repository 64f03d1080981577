use Rattle.std.proofs.Common.{◌∙◌, sym, arith}
use Rattle.stapl_lexer.proofs.SpellingLemmas.{word_by_length, no_word_of_length}
use Rattle.stapl_lexer.proofs.spelling.word_terminal.Goals as goal

pub returns-in-2 : goal.returns-in-2
returns-in-2 c = c.word_in.ensures ∙ sym (word_by_length c.args.own.now 2 c.in-2.is)

pub returns-in-3 : goal.returns-in-3
returns-in-3 c = c.word_in-in-3.ensures ∙ sym (word_by_length c.args.own.now 3 c.in-3.is)

pub returns-in-4 : goal.returns-in-4
returns-in-4 c = c.word_in-in-4.ensures ∙ sym (word_by_length c.args.own.now 4 c.in-4.is)

pub returns-in-5 : goal.returns-in-5
returns-in-5 c = c.word_in-in-5.ensures ∙ sym (word_by_length c.args.own.now 5 c.in-5.is)

pub returns-in-6 : goal.returns-in-6
returns-in-6 c = c.word_in-in-6.ensures ∙ sym (word_by_length c.args.own.now 6 c.in-6.is)

pub returns-in-7 : goal.returns-in-7
returns-in-7 c = c.word_in-in-7.ensures ∙ sym (word_by_length c.args.own.now 7 c.in-7.is)

pub returns-in-8 : goal.returns-in-8
returns-in-8 c = c.word_in-in-8.ensures ∙ sym (word_by_length c.args.own.now 8 c.in-8.is)

pub returns-in-9 : goal.returns-in-9
returns-in-9 c = c.word_in-in-9.ensures ∙ sym (word_by_length c.args.own.now 9 c.in-9.is)

pub returns-in-11 : goal.returns-in-11
returns-in-11 c = c.word_in-in-11.ensures ∙ sym (word_by_length c.args.own.now 11 c.in-11.is)

pub returns-in_default : goal.returns-in_default
returns-in_default c =
    let o = c.in_default in
    sym (no_word_of_length c.args.own.now
    (omega arith, (omega arith, (omega arith, (omega arith, (omega arith, (omega arith, (omega arith, (omega arith, (omega arith, tt))))))))))
