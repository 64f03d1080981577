-- A program that is written plays as the program of the file does at the run.
use Rattle.std.proofs.Common.{◌≡◌, ◌≤◌, ℕ, List, All, length, Option, None, Some, false, refl}
use Rattle.stapl_syntax.specs.Trees.{StmtTree}
use Rattle.stapl_syntax.specs.Programs.{IsProgram}
use Rattle.dev_card.specs.declared.desc.Desc.{Desc}
use Rattle.dev_card.specs.Board.{most_devices}
use Rattle.dev_card.specs.Descriptions.{IsGood}
use Rattle.dev_card.specs.Padding.{Neighbours, base_lengths}
use Rattle.board_text.specs.Boards.{IsBoard, CanBeFitted}
use Rattle.command_words.specs.declared.place_run.PlaceRun.{PlaceRun}
use Rattle.carried_plays.specs.CarriedTexts.{IsCarriedText, IsTooLarge}
use Rattle.carried_plays.specs.OwnPaddings.{has_own_padding}
use Rattle.carried_padding.specs.CarriedPadding.{CarriesPaddingOf}
use Rattle.rewrite_tool.specs.declared.status.RewriteStatus.{RewriteStatus}
use Rattle.rewrite_tool.specs.declared.status.RewriteStatus.TheVariants.{Done, Usage}
use Rattle.tool_frame.proofs.AnswerLemmas.{IsWithin}
use Rattle.named_files.specs.Boards.{HasBoard}
use Rattle.named_files.specs.Contents.{Contents}
use Rattle.named_files.specs.Texts.{usage_line}
use Rattle.rewrite_tool.specs.Words.{Request, IsRequest, IsUsage}
use Rattle.rewrite_tool.specs.Answers.{ProgramAnswer, refused, bad_place, own_padding, too_large, rewritten, FileAnswer, RequestAnswer, board_refused, board_read, WordsAnswer, usage, asked}
use Rattle.rewrite_tool.specs.PlayedAlike.{IsPlayedAlike, PlaysAlike, PromisedAnswer}

-- the text of a program that carries its padding is a program
abbrev pub AreAccepted : Type 0
AreAccepted = (text new : List ℕ) (program : List StmtTree) (devices : List Desc) (run : Neighbours) → IsProgram text program → All IsGood devices →
    length devices ≤ most_devices → IsCarriedText (base_lengths devices (Some run)) program new → (IsTooLarge (base_lengths devices (Some run)) program → ⊥) →
    (own : List StmtTree) × IsProgram new own

-- and it plays as the program does with base padding
abbrev pub PlayAlike : Type 0
PlayAlike = (text new : List ℕ) (program own : List StmtTree) (devices : List Desc) (run : Neighbours) → IsProgram text program → has_own_padding program ≡ false →
    All IsGood devices → length devices ≤ most_devices → IsCarriedText (base_lengths devices (Some run)) program new → IsProgram new own →
    CarriesPaddingOf devices run program own

pub played_alike : AreAccepted → PlayAlike → (devices : List Desc) (run : PlaceRun) (bytes text : List ℕ) (status : RewriteStatus) → CanBeFitted devices →
    ProgramAnswer devices run bytes text status → status ≡ Done → IsPlayedAlike devices run bytes text
played_alike accepted plays devices run bytes text status fits (refused piece line reason fault) e = absurd cc
played_alike accepted plays devices run bytes text status fits (bad_place program is lacks) e = absurd cc
played_alike accepted plays devices run bytes text status fits (own_padding program piece is has first) e = absurd cc
played_alike accepted plays devices run bytes text status fits (too_large program is has large) e = absurd cc
played_alike accepted plays devices run bytes text status fits (rewritten program new is has x) e =
    let here : Neighbours = record { first = run.first; last = run.last } in
    let own = accepted bytes text program devices here is fits.good fits.most x.carried x.small in
    record {
      program = program;
      is = is;
      own = own.0;
      new = own.1;
      alike = plays bytes text program own.0 devices here is x.plain fits.good fits.most x.carried own.1;
    }

-- each board can be fitted
abbrev pub AreFitted : Type 0
AreFitted = (text : List ℕ) (devices : List Desc) → IsBoard text devices → CanBeFitted devices

fitted : AreFitted → (held : Option (List ℕ)) (devices : List Desc) → HasBoard held devices → CanBeFitted devices
fitted fits None devices has = absurd has
fitted fits (Some text) devices has = fits text devices has

-- the bytes of a file that is held, and what stands of the text that is written of them
record FilePlaysAlike (devices : List Desc) (run : PlaceRun) (held : Option (List ℕ)) (text : List ℕ) : Type 0 where
  bytes : List ℕ
  is : held ≡ Some bytes
  alike : IsPlayedAlike devices run bytes text

file_alike : AreAccepted → PlayAlike → (devices : List Desc) (run : PlaceRun) (held : Option (List ℕ)) (text : List ℕ) (status : RewriteStatus) →
    CanBeFitted devices → FileAnswer devices run held text status → status ≡ Done → FilePlaysAlike devices run held text
file_alike accepted plays devices run None text status fits a e = absurd a
file_alike accepted plays devices run (Some bytes) text status fits a e =
    record { bytes = bytes; is = refl; alike = played_alike accepted plays devices run bytes text status fits a e }

request_alike : AreAccepted → PlayAlike → AreFitted → (words : List (List ℕ)) (request : Request) (contents : Contents) {text : List ℕ} {status : RewriteStatus} →
    IsRequest words request → RequestAnswer request contents text status → status ≡ Done → PlaysAlike words contents text
request_alike accepted plays fits words request contents asks (board_refused line reason fault) e = absurd cc
request_alike accepted plays fits words request contents asks (board_read devices text status has a) e =
    let file = file_alike accepted plays devices request.run contents.file text status (fitted fits contents.board devices has) a e in
    record { request = request; asked = asks; devices = devices; board = has; bytes = file.bytes; held = file.is; alike = file.alike }

words_alike : AreAccepted → PlayAlike → AreFitted → (words : List (List ℕ)) (contents : Contents) {text : List ℕ} {status : RewriteStatus} →
    WordsAnswer words (λ request. contents) text status → status ≡ Done → PlaysAlike words contents text
words_alike accepted plays fits words contents (usage n u) e = absurd cc
words_alike accepted plays fits words contents (asked request text status asks a) e = request_alike accepted plays fits words request contents asks a e

-- what the words are answered, with what stands of it
pub promised : AreAccepted → PlayAlike → AreFitted → (words : List (List ℕ)) (contents : Contents) →
    IsWithin (WordsAnswer words (λ request. contents)) (PromisedAnswer words contents)
promised accepted plays fits words contents = record { to = λ text status a. record { answer = a; alike = words_alike accepted plays fits words contents a } }

-- and the same of words that are refused
pub promised_usage : (words : List (List ℕ)) (contents : Contents) (n : ℕ) → IsUsage words n → PromisedAnswer words contents (usage_line n) (Usage n)
promised_usage words contents n u = record { answer = usage n u; alike = λ e. absurd cc }
