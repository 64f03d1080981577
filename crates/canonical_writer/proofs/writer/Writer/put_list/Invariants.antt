use Rattle.std.proofs.Common.{◌≡◌, drop}
use Rattle.stapl_syntax.specs.Parts.{comma}
use Rattle.canonical_text.specs.PrintedTokens.{Seen}
use Rattle.canonical_text.specs.PrintedStatements.{separated_tokens}
use Rattle.canonical_writer.specs.Written.{written}
use Rattle.canonical_writer.proofs.WriterLemmas.{left_tokens}
use Rattle.canonical_writer.proofs.writer.Writer.put_list.Given as goal

-- what is left to write, after what is written, gives the whole
abbrev pub invariant-loop-i : goal.invariant-loop-i
invariant-loop-i g l =
    written l.self (left_tokens g.T.ListItem.tokens (Seen comma) l.i (drop l.i l.items))
    ≡ written l.fn.self (separated_tokens g.T.ListItem.tokens (Seen comma) l.items)
