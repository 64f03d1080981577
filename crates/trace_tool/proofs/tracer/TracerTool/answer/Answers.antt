use Rattle.std.proofs.Common.{ℕ, List, map, string_bytes, Global}
use Rattle.named_files.specs.Texts.{usage_line}
use Rattle.named_files.specs.Words.{IsRequest}
use Rattle.named_files.specs.Named.{files_named}
use Rattle.named_files.proofs.WordLemmas.{no_usage}
use Rattle.named_files.proofs.ContentLemmas.{of_both_files, of_no_request, shelf_asked}
use Rattle.tool_frame.proofs.AnswerLemmas.{says_failed, said_text, said_front}
use Rattle.trace_tool.specs.declared.status.TraceStatus.TheVariants.{Usage}
use Rattle.trace_tool.specs.Answers.{trace_key, usage}
use Rattle.trace_tool.proofs.RackLemmas.{rack_failed, rack_same}
use Rattle.trace_tool.proofs.RequestLemmas.{words_of_request}
use Rattle.trace_tool.proofs.tracer.TracerTool.answer.Goals as goal

pub returns-in-Ok-clause-answers : goal.returns-in-Ok-clause-answers
returns-in-Ok-clause-answers g c =
    let words : List (List ℕ) = map (string_bytes {Z = Global}) c.args.words.now in
    of_both_files (IsRequest trace_key words) (g.S.Shelf.told c.args.shelf.now) (λ contents a. record { says = a.says; left = a.left })
    (words_of_request g.K.Sink _ _ _ _ _ _ (g.S.Shelf.told c.args.shelf.now) (files_named c.in-Ok.named) c.answer_request.result c.in-Ok.ensures.request
    c.answer_request.ensures.answers)

pub returns-in_err-put_usage-in-Err-clause-answers : goal.returns-in_err-put_usage-in-Err-clause-answers
returns-in_err-put_usage-in-Err-clause-answers g c =
    let words : List (List ℕ) = map (string_bytes {Z = Global}) c.args.words.now in
    of_both_files (IsRequest trace_key words) (g.S.Shelf.told c.args.shelf.now) (λ contents a. a)
    (of_no_request trace_key (g.S.Shelf.told c.args.shelf.now) (λ named asks. no_usage trace_key _ named c.in-Err.n asks c.in-Err.ensures.usage) (λ contents. record {
      says = says_failed _ _ _ _ _ c.from_residual.result c.from_residual.ensures.1
          (said_front (usage_line c.in-Err.n) (Usage c.in-Err.n) (usage c.in-Err.n c.in-Err.ensures.usage) c.in_err-put_usage-in-Err.ensures);
      left = rack_failed c.from_residual.result c.from_residual.ensures.1;
    }))

pub returns-in_ok-put_usage-in-Err-clause-answers : goal.returns-in_ok-put_usage-in-Err-clause-answers
returns-in_ok-put_usage-in-Err-clause-answers g c =
    let words : List (List ℕ) = map (string_bytes {Z = Global}) c.args.words.now in
    of_both_files (IsRequest trace_key words) (g.S.Shelf.told c.args.shelf.now) (λ contents a. a)
    (of_no_request trace_key (g.S.Shelf.told c.args.shelf.now) (λ named asks. no_usage trace_key _ named c.in-Err.n asks c.in-Err.ensures.usage) (λ contents. record {
      says = said_text (usage_line c.in-Err.n) (usage c.in-Err.n c.in-Err.ensures.usage) c.in_ok-put_usage-in-Err.ensures;
      left = rack_same (Usage c.in-Err.n) (λ p. p);
    }))

pub returns-in-Ok-clause-shelf : goal.returns-in-Ok-clause-shelf
returns-in-Ok-clause-shelf g c =
    shelf_asked (IsRequest trace_key (map (string_bytes {Z = Global}) c.args.words.now)) c.in-Ok.ensures.request c.answer_request.ensures.shelf
