use Rattle.std.proofs.Common.{ℕ, List, map, string_bytes, Global, refl, sym, subst}
use Rattle.tool_frame.proofs.AnswerLemmas.{says_within}
use Rattle.play_words.specs.Words.{IsUsage, IsWordsRefused}
use Rattle.play_words.proofs.OneRequest.{no_usage}
use Rattle.play_tool.proofs.RequestLemmas.{of_request, of_no_request, of_any_words, usage_is}
use Rattle.why_tool.specs.Whys.{word_refused, asked}
use Rattle.why_tool.proofs.FileLemmas.{files_within, no_files, reads_within}
use Rattle.why_tool.proofs.whys.tell_command.Goals as goal

pub returns-in-Ok-clause-says : goal.returns-in-Ok-clause-says
returns-in-Ok-clause-says g c =
    of_request (g.S.Shelf.told c.args.shelf.now) c.in-Ok.ensures.request c.tell_request.ensures.says (λ contents says.
    says_within _ _ _ _ _ c.tell_request.result (record {
      to = λ said ending a. asked c.in-Ok.request c.in-Ok.ensures.request
          ((reads_within (λ path u. record {
            is_reached = record { request = c.in-Ok.request; asked = c.in-Ok.ensures.request; reached = u.is_reached };
            rose = u.rose;
          }) (record { to = λ said ending a. a })).to said ending a);
    }) (λ none. none) says)

pub returns-in-Err-Usage-clause-says : goal.returns-in-Err-Usage-clause-says
returns-in-Err-Usage-clause-says g c =
    let words : List (List ℕ) = map (string_bytes {Z = Global}) c.args.words.now in
    let refused : IsUsage words c.in-Err-Usage.n = subst (IsWordsRefused words) c.in-Err-Usage.field-0-is c.in-Err-Usage.ensures.refused in
    of_no_request (g.S.Shelf.told c.args.shelf.now) (λ request asks. no_usage asks refused) (λ contents.
    says_within _ _ _ _ _ c.tell_words.result (record { to = λ said ending a. word_refused _ (usage_is (sym c.in-Err-Usage.n-is) refused) a }) (λ none. none) c.tell_words.ensures)

pub returns-in-Err-Memory-clause-says : goal.returns-in-Err-Memory-clause-says
returns-in-Err-Memory-clause-says g c = of_any_words (g.S.Shelf.told c.args.shelf.now) (map (string_bytes {Z = Global}) c.args.words.now) (λ contents. (refl, refl))

pub returns-in-Ok-clause-files : goal.returns-in-Ok-clause-files
returns-in-Ok-clause-files g c =
    files_within (λ named are. record { request = c.in-Ok.request; asked = c.in-Ok.ensures.request; are = are }) c.tell_request.ensures.files

pub returns-in-Err-Usage-clause-files : goal.returns-in-Err-Usage-clause-files
returns-in-Err-Usage-clause-files g c = no_files g.S.Shelf _ c.args.shelf.now

pub returns-in-Err-Memory-clause-files : goal.returns-in-Err-Memory-clause-files
returns-in-Err-Memory-clause-files g c = no_files g.S.Shelf _ c.args.shelf.now
