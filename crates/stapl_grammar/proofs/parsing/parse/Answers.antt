use Rattle.std.proofs.Common.{ap, Err}
use Rattle.stapl_grammar.proofs.ParsingLemmas.{parsed_ok, parsed_because, refused_by_tokens}
use Rattle.stapl_grammar.proofs.parsing.parse.Goals as goal

pub returns-in-Ok-clause-ok : goal.returns-in-Ok-clause-ok
returns-in-Ok-clause-ok c =
    parsed_ok c.args.text.now c.args.piece.now c.in-Ok.tokens.items c.parse_tokens.result c.in-Ok.ensures.ok (rw c.deref.ensures.value at c.parse_tokens.ensures)

pub returns-in-Ok-clause-because : goal.returns-in-Ok-clause-because
returns-in-Ok-clause-because c =
    parsed_because c.args.text.now c.args.piece.now c.in-Ok.tokens.items c.parse_tokens.result c.in-Ok.ensures.ok (rw c.deref.ensures.value at c.parse_tokens.ensures)

pub returns-in-Err-Because-clause-because : goal.returns-in-Err-Because-clause-because
returns-in-Err-Because-clause-because c =
    λ reason e. refused_by_tokens c.args.text.now c.args.piece.now _ c.in-Err-Because.reason reason e c.in-Err-Because.reason-is
    (c.in-Err-Because.ensures.because c.in-Err-Because.reason (ap Err c.in-Err-Because.field-0-is))
