use Rattle.std.proofs.Common.{Err, refl, ap, ◌∙◌}
use Rattle.tool_frame.proofs.AnswerLemmas.{says_failed, said_text, said_front}
use Rattle.trace_tool.specs.declared.status.TraceStatus.TheVariants.{Good, Differs, BadLine}
use Rattle.trace_tool.specs.Answers.{new_board}
use Rattle.trace_tool.proofs.RackLemmas.{led_described}
use Rattle.trace_tool.proofs.CompareLemmas.{is_good, is_other, is_bad, rack_good}
use Rattle.pin_lines.specs.PinLines.{pins_in}
use Rattle.trace_tool.proofs.comparing.compare.Goals as goal

pub put_good-requires-clause-board : goal.put_good-requires-clause-board
put_good-requires-clause-board g c =
    let ok = rw (c.deref.ensures.value ∙ c.in_ok-places.ensures.places) at c.in-Ok.ensures.ok in
    let t = ok c.in-Ok.n refl (new_board c.args.devices.now) c.in_ok-places.ensures.cards in
    rw (c.deref-in-Ok.ensures.value, c.deref-in-Ok-2.ensures.value ∙ c.in_ok-places.ensures.places)
    (led_described _ c.args.devices.now (pins_in c.args.text.now) t.board)

pub returns-in_err-put_good-in-Ok-clause-says : goal.returns-in_err-put_good-in-Ok-clause-says
returns-in_err-put_good-in-Ok-clause-says g c =
    let same = c.deref.ensures.value ∙ c.in_ok-places.ensures.places in
    let ok = rw same at c.in-Ok.ensures.ok in
    let exactly = rw same at c.in-Ok.ensures.exactly in
    let board = c.in_ok-places.ensures.cards in
    says_failed _ _ _ _ _ c.from_residual-in_err-put_good-in-Ok.result c.from_residual-in_err-put_good-in-Ok.ensures.1
    (said_front _ (Good _)
    (is_good c.args.devices.now c.args.text.now c.in-Ok.n _ c.requires.few ((exactly (new_board c.args.devices.now) board).0 refl)
    (ok c.in-Ok.n refl (new_board c.args.devices.now) board))
    (rw (c.deref-in-Ok.ensures.value, c.deref-in-Ok-2.ensures.value ∙ c.in_ok-places.ensures.places) at c.in_err-put_good-in-Ok.ensures))

pub returns-in-Ok-clause-says : goal.returns-in-Ok-clause-says
returns-in-Ok-clause-says g c =
    let same = c.deref.ensures.value ∙ c.in_ok-places.ensures.places in
    let ok = rw same at c.in-Ok.ensures.ok in
    let exactly = rw same at c.in-Ok.ensures.exactly in
    let board = c.in_ok-places.ensures.cards in
    said_text _
    (is_good c.args.devices.now c.args.text.now c.in-Ok.n _ c.requires.few ((exactly (new_board c.args.devices.now) board).0 refl)
    (ok c.in-Ok.n refl (new_board c.args.devices.now) board))
    (rw (c.deref-in-Ok.ensures.value, c.deref-in-Ok-2.ensures.value ∙ c.in_ok-places.ensures.places) at c.in_ok-put_good-in-Ok.ensures)

pub returns-in-Ok-clause-rack : goal.returns-in-Ok-clause-rack
returns-in-Ok-clause-rack g c =
    let ok = rw (c.deref.ensures.value ∙ c.in_ok-places.ensures.places) at c.in-Ok.ensures.ok in
    rack_good c.args.devices.now c.args.text.now (c.in-Ok.ensures.kinds ∙ c.in_ok-places.ensures.kinds) c.in-Ok.n
    (ok c.in-Ok.n refl (new_board c.args.devices.now) c.in_ok-places.ensures.cards)

pub returns-in_err-put_differs-in-Err-Differs-clause-says : goal.returns-in_err-put_differs-in-Err-Differs-clause-says
returns-in_err-put_differs-in-Err-Differs-clause-says g c =
    let i = c.in-Err-Differs.i in
    let is = ap Err c.in-Err-Differs.field-0-is in
    let differs = rw (c.deref.ensures.value ∙ c.in_ok-places.ensures.places) at c.in-Err-Differs.ensures.differs in
    says_failed _ _ _ _ _ c.from_residual-in_err-put_differs-in-Err-Differs.result c.from_residual-in_err-put_differs-in-Err-Differs.ensures.1
    (said_front _ (Differs _)
    (is_other c.args.devices.now c.args.text.now i _ c.requires.few (c.in-Err-Differs.ensures.decided_first i is)
    (differs i is (new_board c.args.devices.now) c.in_ok-places.ensures.cards))
    c.in_err-put_differs-in-Err-Differs.ensures)

pub returns-in-Err-Differs-clause-says : goal.returns-in-Err-Differs-clause-says
returns-in-Err-Differs-clause-says g c =
    let i = c.in-Err-Differs.i in
    let is = ap Err c.in-Err-Differs.field-0-is in
    let differs = rw (c.deref.ensures.value ∙ c.in_ok-places.ensures.places) at c.in-Err-Differs.ensures.differs in
    said_text _
    (is_other c.args.devices.now c.args.text.now i _ c.requires.few (c.in-Err-Differs.ensures.decided_first i is)
    (differs i is (new_board c.args.devices.now) c.in_ok-places.ensures.cards))
    c.in_ok-put_differs-in-Err-Differs.ensures

pub returns-in_err-put_bad_line-in-Err-BadLine-clause-says : goal.returns-in_err-put_bad_line-in-Err-BadLine-clause-says
returns-in_err-put_bad_line-in-Err-BadLine-clause-says g c =
    let n = c.in-Err-BadLine.n in
    says_failed _ _ _ _ _ c.from_residual-in_err-put_bad_line-in-Err-BadLine.result c.from_residual-in_err-put_bad_line-in-Err-BadLine.ensures.1
    (said_front _ (BadLine _)
    (is_bad c.args.devices.now c.args.text.now n c.requires.few (c.in-Err-BadLine.ensures.bad_line n (ap Err c.in-Err-BadLine.field-0-is)))
    c.in_err-put_bad_line-in-Err-BadLine.ensures)

pub returns-clause-says : goal.returns-clause-says
returns-clause-says g c =
    let n = c.in-Err-BadLine.n in
    said_text _
    (is_bad c.args.devices.now c.args.text.now n c.requires.few (c.in-Err-BadLine.ensures.bad_line n (ap Err c.in-Err-BadLine.field-0-is)))
    c.in_ok-put_bad_line-in-Err-BadLine.ensures
