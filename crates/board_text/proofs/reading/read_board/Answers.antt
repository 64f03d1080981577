use Rattle.std.proofs.Common.{◌≡◌, ◌+◌, ap, sym, subst, arith, Err}
use Rattle.std.proofs.lemmas.List.{take_rest}
use Rattle.board_text.specs.declared.reason.BoardReason.TheVariants as reasons
use Rattle.board_text.specs.declared.reading.LineRefused.{LineRefused}
use Rattle.board_text.specs.Boards.{HasReason, IsSmallest, IsUnfinished}
use Rattle.board_text.proofs.ReasonLemmas.{refuted}
use Rattle.board_text.proofs.BoardLemmas.{line_read, fault_read, board_read, end_read, begun_so_far, narrow_so_far, good_at_end}
use Rattle.board_text.proofs.reading.read_board.Goals as goal

pub read_line-requires : goal.read_line-requires
read_line-requires c = narrow_so_far c.args.text.now c.lines.at c.lines.count c.lines.devices.items c.lines.invariant

pub returns-in-Err-Reason-clause-fault : goal.returns-in-Err-Reason-clause-fault
returns-in-Err-Reason-clause-fault c = λ line reason e.
    let found = c.in-Err-Reason.ensures.fault c.in-Err-Reason.reason (ap (λ (x : LineRefused). Err x) c.in-Err-Reason.field-0-is) in
    let place : c.lines.count + 1 ≡ line = cc in
    let same : c.in-Err-Reason.reason ≡ reason = cc (c.in-Err-Reason.reason-is) in
    fault_read c.args.text.now _ c.lines.at c.lines.count c.lines.devices.items c.first_line-len.result.0.now c.first_line-len.result.1 line reason (omega arith)
    (take_rest c.args.text.now c.lines.at) c.lines.invariant c.first_line-len.ensures.line (sym place) found.0
    (subst (IsSmallest (HasReason c.lines.devices.items c.first_line-len.result.0.now)) same found.1)

pub lines-preserved : goal.lines-preserved
lines-preserved c =
    line_read c.args.text.now _ c.lines.at c.lines.count c.lines.devices.items c.read_line.new.devices.items c.first_line-len.result.0.now c.first_line-len.result.1
    (take_rest c.args.text.now c.lines.at) c.lines.invariant c.first_line-len.ensures.some c.first_line-len.ensures.within c.first_line-len.ensures.line
    c.in-Ok.ensures.read

pub returns-then-is_unfinished-clause-fault : goal.returns-then-is_unfinished-clause-fault
returns-then-is_unfinished-clause-fault c = λ line reason e.
    let place : c.lines.count + 1 ≡ line = cc in
    let same : reasons.Empty ≡ reason = cc in
    end_read c.args.text.now c.lines.at c.lines.count line c.lines.devices.items reason (omega arith) c.lines.invariant c.lines-test.false
    (subst IsUnfinished c.deref.ensures.value (c.is_unfinished.ensures.0 c.if-is_unfinished.true)) (sym place) (sym same)

pub returns-clause-board : goal.returns-clause-board
returns-clause-board c =
    board_read c.args.text.now c.lines.at c.lines.count c.lines.devices.items (omega arith) c.lines.invariant c.lines-test.false
    (λ h. refuted c.is_unfinished.result c.is_unfinished.ensures.1 c.if-is_unfinished.false (subst IsUnfinished (sym c.deref.ensures.value) h))

pub returns-clause-good : goal.returns-clause-good
returns-clause-good c =
    good_at_end c.lines.devices.items (begun_so_far c.args.text.now c.lines.at c.lines.count c.lines.devices.items c.lines.invariant)
    (λ h. refuted c.is_unfinished.result c.is_unfinished.ensures.1 c.if-is_unfinished.false (subst IsUnfinished (sym c.deref.ensures.value) h))

pub returns-clause-few : goal.returns-clause-few
returns-clause-few c = let all = begun_so_far c.args.text.now c.lines.at c.lines.count c.lines.devices.items c.lines.invariant in all.few

pub returns-clause-names_apart : goal.returns-clause-names_apart
returns-clause-names_apart c = let all = begun_so_far c.args.text.now c.lines.at c.lines.count c.lines.devices.items c.lines.invariant in all.names_apart
