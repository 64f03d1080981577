use Rattle.canonical_text.specs.Spacing.{leans_on, leans_back, is_function, is_left_round}
use Rattle.canonical_writer.proofs.WriterLemmas.{on_ok, text_put}
use Rattle.canonical_writer.proofs.writer.Writer.put_text.Goals as goal

pub returns : goal.returns
unfolding leans_on leans_back is_function is_left_round
returns c =
    on_ok c.put_bytes-2.result
    (text_put c.args.bytes.now c.args.self.now c.put.new.self c.put_bytes.new.self c.put_bytes-2.new.self c.in_ok-put.ensures c.in_ok-put_bytes.ensures)
    c.put_bytes-2.ensures
