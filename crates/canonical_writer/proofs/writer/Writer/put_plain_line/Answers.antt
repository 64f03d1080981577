use Rattle.stapl_syntax.specs.Trees.{stmt_tree}
use Rattle.canonical_writer.proofs.WriterLemmas.{on_ok, line_put}
use Rattle.canonical_writer.proofs.writer.Writer.put_plain_line.Goals as goal

pub returns : goal.returns
returns c =
    on_ok c.put_bytes.result
    (line_put c.args.self.now.bytes (stmt_tree c.args.statement.now) c.begin_line.new.self c.put_label.new.self c.put_body.new.self c.put_bytes.new.self
    c.begin_line.ensures c.in_ok-put_label.ensures c.in_ok-put_body.ensures)
    c.put_bytes.ensures
