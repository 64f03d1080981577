use Rattle.std.proofs.Common.{◌∙◌, ap, sym, arith}
use Rattle.stapl_lexer.specs.Marks.{mark_terminal}
use Rattle.stapl_lexer.proofs.SpellingLemmas.{one_byte, mark_by_length, no_mark_of_length}
use Rattle.stapl_lexer.proofs.spelling.mark_terminal.Goals as goal

pub returns-in-1 : goal.returns-in-1
returns-in-1 c = c.single_mark.ensures ∙ ap mark_terminal (one_byte c.args.own.now c.in-1.is)

pub returns-in-2 : goal.returns-in-2
returns-in-2 c = c.mark_in.ensures ∙ sym (mark_by_length c.args.own.now 2 c.in-2.is)

pub returns-in_default : goal.returns-in_default
returns-in_default c = sym (no_mark_of_length c.args.own.now (omega arith, (omega arith, tt)))
