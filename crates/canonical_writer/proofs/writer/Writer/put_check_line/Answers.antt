use Rattle.std.proofs.Common.{ℕ, ap, ◌∙◌}
use Rattle.std.specs.Box.{box_value}
use Rattle.std.specs.Option.{option_map}
use Rattle.stapl_lexer.specs.Crc.{check_word}
use Rattle.stapl_syntax.specs.Trees.{crc}
use Rattle.canonical_text.specs.PrintedStatements.{body_tokens}
use Rattle.canonical_writer.specs.Written.{written, check_statement}
use Rattle.canonical_writer.proofs.WriterLemmas.{on_ok, line_put}
use Rattle.canonical_writer.proofs.writer.Writer.put_check_line.Goals as goal

pub returns : goal.returns
returns c =
    let word = c.crc_of-word.ensures ∙ ap check_word c.bytes.ensures in
    on_ok c.put_bytes.result
    (line_put c.args.self.now.bytes (check_statement (option_map box_value c.args.label.now) c.args.self.now.bytes)
    c.begin_line.new.self c.put_label.new.self c.put_crc.new.self c.put_bytes.new.self c.begin_line.ensures c.in_ok-put_label.ensures
    (c.in_ok-put_crc.ensures ∙ ap (λ (n : ℕ). written c.put_label.new.self (body_tokens (crc n))) word))
    c.put_bytes.ensures
