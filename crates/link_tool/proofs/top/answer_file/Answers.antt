use Rattle.std.proofs.Common.{◌∙◌, rules}
use Rattle.tool_io.proofs.PickLemmas.{picks_as}
use Rattle.link_tool.specs.Answers.{new_board}
use Rattle.link_tool.proofs.FileLemmas.{no_room, not_picked, of_session}
use Rattle.tool_frame.proofs.FileLemmas.{shelf_of_read}
use Rattle.link_tool.proofs.top.answer_file.Goals as goal

pub returns-in_err-places-clause-answers : goal.returns-in_err-places-clause-answers
returns-in_err-places-clause-answers g c =
    no_room _ _ c.args.devices.now g.S.Shelf c.args.shelf.now (g.S.Shelf.told c.args.shelf.now) c.args.path.now (g.K.Sink.written c.args.out.now) c.args.rack.now.items c.fit_board.new.rack.items
    c.from_residual.result c.from_residual.ensures.1 c.fit_board.ensures.kinds

pub returns-in-Ok-clause-answers : goal.returns-in-Ok-clause-answers
returns-in-Ok-clause-answers g c =
    of_session _ _ c.args.devices.now g.S.Shelf c.serve_to.new.shelf (g.S.Shelf.told c.args.shelf.now) (c.serve_to.ensures.keeps ∙ c.pick.ensures.keeps) (g.S.Shelf.left c.pick.new.self) c.args.path.now (g.K.Sink.written c.args.out.now) _
    c.args.rack.now.items c.serve_to.new.rack.items c.serve_to.result (c.serve_to.ensures.kinds ∙ c.fit_board.ensures.kinds) c.in-Ok.ensures.start
    (rw (c.deref.ensures.value ∙ c.in_ok-places.ensures.places, c.pick.ensures.keeps) at (c.serve_to.ensures.served (new_board c.args.devices.now)
    (rw (c.deref.ensures.value ∙ c.in_ok-places.ensures.places) c.in_ok-places.ensures.cards)))

pub returns-clause-answers : goal.returns-clause-answers
returns-clause-answers g c =
    not_picked _ _ c.args.devices.now g.S.Shelf c.pick.new.self c.in-Err.ensures.none (g.S.Shelf.told c.args.shelf.now) c.args.path.now (g.K.Sink.written c.args.out.now) c.args.rack.now.items c.fit_board.new.rack.items
    c.fit_board.ensures.kinds

pub returns-in-Ok-clause-shelf : goal.returns-in-Ok-clause-shelf
returns-in-Ok-clause-shelf g c =
    shelf_of_read c.pick.result (picks_as _ _ c.pick.result (c.serve_to.ensures.unpicked ∙ c.in-Ok.ensures.once)) (search rules) (search rules) (search rules)

pub returns-clause-shelf : goal.returns-clause-shelf
returns-clause-shelf g c = shelf_of_read c.pick.result c.pick.ensures.once (search rules) (search rules) (search rules)
