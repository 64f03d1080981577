use Rattle.std.proofs.Common.{◌∙◌, sym, map, string_bytes, Global}
use Rattle.tool_frame.proofs.CommandLemmas.{read_code, write_code}
use Rattle.tool_frame.proofs.command.run_program.Goals as goal

pub returns-clause-ended : goal.returns-clause-ended
returns-clause-ended g c = record { outcome = c.run_command.result; ran = c.run_command.ensures.ran; code_is = c.exit_code.ensures }

pub returns-clause-read : goal.returns-clause-read
returns-clause-read g c = λ e.
    c.run_command.ensures.shelf.read
    (read_code g.T.Tool.exit_code_of (g.met.T.Tool.answers_are_no_faults (map (string_bytes {Z = Global}) c.args.words.now)) c.run_command.result c.run_command.ensures.ran
    (sym c.exit_code.ensures ∙ e))

pub returns-clause-write : goal.returns-clause-write
returns-clause-write g c = λ e.
    c.run_command.ensures.sink.write
    (write_code g.T.Tool.exit_code_of (g.met.T.Tool.answers_are_no_faults (map (string_bytes {Z = Global}) c.args.words.now)) c.run_command.result c.run_command.ensures.ran
    (sym c.exit_code.ensures ∙ e))
