use Rattle.std.proofs.Common.{pos, ap, ◌++◌, ◌∙◌}
use Rattle.std.specs.List.{flat_map}
use Rattle.tool_io.specs.Texts.{word_line}
use Rattle.tool_io.proofs.PutLemmas.{puts_same, front_same}
use Rattle.stapl_meaning.specs.declared.events.Ending.TheVariants as endings
use Rattle.stapl_meaning.specs.Texts.{ending_line}
use Rattle.play_words.specs.declared.status.Status.TheVariants.{Done}
use Rattle.tool_frame.proofs.AnswerLemmas.{says_failed}
use Rattle.why_tool.specs.Texts.{fault_told}
use Rattle.why_tool.proofs.OutcomeLemmas.{part_said, part_front, part_failed, fault_after}
use Rattle.why_tool.proofs.outcomes.tell_fault.Goals as goal

pub returns-in_err-show_piece_of : goal.returns-in_err-show_piece_of
returns-in_err-show_piece_of g c = λ known e.
    part_failed _ _ _ _ _ (fault_told c.args.fault c.args.piece) (Done (pos 0)) _ c.from_residual-in_err-show_piece_of.result
    (fault_after known c.args.fault c.args.piece _ e) c.from_residual-in_err-show_piece_of.ensures.1 c.in_err-show_piece_of.ensures

pub returns-in_err-put_told : goal.returns-in_err-put_told
returns-in_err-put_told g c = λ known e.
    let same = ap (λ lines. ending_line (endings.Fault c.args.fault c.args.piece) ++ flat_map word_line lines) (rw c.deref.ensures.value c.in_ok-said.ensures) in
    says_failed _ _ _ _ _ c.from_residual-in_err-put_told.result c.from_residual-in_err-put_told.ensures.1
    (part_front (fault_told c.args.fault c.args.piece) (Done (pos 0)) (fault_after known c.args.fault c.args.piece _ e) c.in_ok-show_piece_of.ensures
    (front_same same c.in_err-put_told.ensures))

pub returns : goal.returns
returns g c = λ known e.
    let same = ap (λ lines. ending_line (endings.Fault c.args.fault c.args.piece) ++ flat_map word_line lines) (rw c.deref.ensures.value c.in_ok-said.ensures) in
    part_said (fault_told c.args.fault c.args.piece) (Done (pos 0)) (fault_after known c.args.fault c.args.piece _ e) c.in_ok-show_piece_of.ensures
    (puts_same same c.in_ok-put_told.ensures)
