use Rattle.stapl_lexer.proofs.ReasonLemmas.{bad_byte_first, open_string_first, compressed_first}
use Rattle.stapl_lexer.proofs.byte_fault.reason_of_bytes.Goals as goal

pub returns-then-faults-clause-some : goal.returns-then-faults-clause-some
returns-then-faults-clause-some c =
    bad_byte_first c.args.text.now c.args.piece.now c.byte_faults-faults.result.foreign c.byte_faults-faults.result.unclosed c.byte_faults-faults.result.compressed
    c.byte_faults-faults.ensures c.if-not-piece.false c.if-faults.true

pub returns-then-faults-2-clause-some : goal.returns-then-faults-2-clause-some
returns-then-faults-2-clause-some c =
    open_string_first c.args.text.now c.args.piece.now c.byte_faults-faults.result.foreign c.byte_faults-faults.result.unclosed c.byte_faults-faults.result.compressed
    c.byte_faults-faults.ensures c.if-not-piece.false c.if-faults.false c.if-faults-2.true

pub returns-then-faults-3-clause-some : goal.returns-then-faults-3-clause-some
returns-then-faults-3-clause-some c =
    compressed_first c.args.text.now c.args.piece.now c.byte_faults-faults.result.foreign c.byte_faults-faults.result.unclosed c.byte_faults-faults.result.compressed
    c.byte_faults-faults.ensures c.if-not-piece.false c.if-faults.false c.if-faults-2.false c.if-faults-3.true
