use Rattle.std.proofs.Common.{◌≡◌, drop}
use Rattle.std.specs.Str.{bytes_eq}
use Rattle.stapl_lexer.specs.Terminals.{terminal_in}
use Rattle.stapl_lexer.proofs.SpellingLemmas.{rows_in}
use Rattle.stapl_lexer.proofs.spelling.mark_in.Given as goal

abbrev pub invariant-loop-mark : goal.invariant-loop-mark
invariant-loop-mark l =
    terminal_in (λ mark. bytes_eq mark l.own) (rows_in l.marks)
    ≡ terminal_in (λ mark. bytes_eq mark l.own) (rows_in (drop l.mark-index l.marks))
