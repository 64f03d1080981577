use Rattle.std.proofs.Common.{map, string_bytes, Global}
use Rattle.named_files.specs.Named.{files_named}
use Rattle.named_files.specs.Words.{IsRequest}
use Rattle.named_files.proofs.ContentLemmas.{shelf_asked}
use Rattle.link_tool.specs.Answers.{link_key}
use Rattle.link_tool.proofs.AnswerLemmas.{words_of_request, words_refused}
use Rattle.link_tool.proofs.top.run.Goals as goal

pub returns-in-Ok-clause-answers : goal.returns-in-Ok-clause-answers
returns-in-Ok-clause-answers g c =
    words_of_request _ _ g.S.Shelf c.args.shelf.now c.answer_request.new.shelf (g.K.Sink.written c.args.out.now) _ c.args.rack.now.items c.answer_request.new.rack.items (g.S.Shelf.told c.args.shelf.now)
    (files_named c.in-Ok.named) c.answer_request.result c.in-Ok.ensures.request c.answer_request.ensures.answers

pub returns-in-Err-clause-answers : goal.returns-in-Err-clause-answers
returns-in-Err-clause-answers g c =
    words_refused _ _ g.S.Shelf c.args.shelf.now c.args.shelf.now (g.K.Sink.written c.args.out.now) c.args.rack.now.items (g.S.Shelf.told c.args.shelf.now) c.in-Err.n c.in-Err.ensures.usage

pub returns-in-Ok-clause-shelf : goal.returns-in-Ok-clause-shelf
returns-in-Ok-clause-shelf g c =
    shelf_asked (IsRequest link_key (map (string_bytes {Z = Global}) c.args.words.now)) c.in-Ok.ensures.request c.answer_request.ensures.shelf
