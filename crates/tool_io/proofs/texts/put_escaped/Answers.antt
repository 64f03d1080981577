use Rattle.tool_io.proofs.PutLemmas.{put_failed, puts_item, puts_item_front}
use Rattle.tool_io.specs.Texts.{escaped_byte}
use Rattle.tool_io.proofs.texts.put_escaped.Goals as goal

pub returns-in_err-put_escaped_byte : goal.returns-in_err-put_escaped_byte
returns-in_err-put_escaped_byte g c =
    put_failed c.from_residual.result c.from_residual.ensures.0
    (puts_item_front escaped_byte c.args.text.now c.loop-byte.byte-index 0 c.loop-byte-test.true c.loop-byte.invariant
    c.in_err-put_escaped_byte.ensures)

pub loop-byte-preserved : goal.loop-byte-preserved
loop-byte-preserved g c =
    puts_item escaped_byte c.args.text.now c.loop-byte.byte-index 0 c.loop-byte-test.true c.loop-byte.invariant c.in_ok-put_escaped_byte.ensures
