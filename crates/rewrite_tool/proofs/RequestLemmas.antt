-- On answers to requests: the board comes first, and the program after it.
use Rattle.std.proofs.Common.{◌≡◌, ℕ, List, Option, Some, Result, Ok, Err, refl, sym, subst}
use Rattle.std.specs.Prelude.{IsErrAnd}
use Rattle.tool_io.specs.declared.lines.Lines.{Lines}
use Rattle.tool_io.specs.declared.outside.Sink.{Ghosts as SinkOf}
use Rattle.tool_io.specs.Lines.{IsSilent, Puts, PutsBroken}
use Rattle.dev_card.specs.declared.desc.Desc.{Desc}
use Rattle.board_text.specs.declared.reason.BoardReason.{BoardReason}
use Rattle.tool_frame.specs.declared.no_answer.NoAnswer.{NoAnswer}
use Rattle.tool_frame.specs.declared.no_answer.NoAnswer.TheVariants.{Read, Write, Memory}
use Rattle.tool_frame.specs.Answers.{Says}
use Rattle.tool_frame.proofs.AnswerLemmas.{IsWithin, says_within, says_failed, says_no_memory, said_text, said_front}
use Rattle.tool_frame.specs.Files.{OfFile}
use Rattle.named_files.specs.Boards.{HasBoard, ReadsBoard, ReadsBoardFault}
use Rattle.named_files.specs.Texts.{board_refusal_line}
use Rattle.named_files.specs.Words.{FileNames}
use Rattle.named_files.specs.Contents.{Contents, contents_in, OfContents, OfAsked}
use Rattle.named_files.proofs.ContentLemmas.{both, of_any_contents, of_board, of_both, of_asked, of_none_asked}
use Rattle.rewrite_tool.specs.declared.status.RewriteStatus.{RewriteStatus}
use Rattle.rewrite_tool.specs.declared.status.RewriteStatus.TheVariants.{BoardRefused}
use Rattle.rewrite_tool.specs.Words.{Request, IsRequest, Asks}
use Rattle.rewrite_tool.specs.Answers.{FileAnswer, RequestAnswer, board_refused, board_read, WordsAnswer, usage, asked, Answer}
use Rattle.rewrite_tool.specs.PlayedAlike.{PromisedAnswer}
use Rattle.rewrite_tool.proofs.WordLemmas.{one_asked}
use Rattle.rewrite_tool.proofs.PlayedAlike.{AreAccepted, PlayAlike, AreFitted, promised}

-- ---- the board is right

file_within : (request : Request) (devices : List Desc) (board program : Option (List ℕ)) → HasBoard board devices →
    IsWithin (FileAnswer devices request.run program) (RequestAnswer request (both board program))
file_within request devices board program is = record { to = λ text status a. board_read devices text status is a }

-- ---- what was read

-- words that are no request
pub of_no_request : (told : Option (List (List ℕ × List ℕ))) {words : List (List ℕ)} {Q : Contents → Type 0} → ((request : Request) → IsRequest words request → ⊥) →
    ((contents : Contents) → Q contents) → OfAsked (Asks words) told Q
of_no_request told {words = words} none f = of_none_asked (Asks words) told (λ named asks. none (record { files = named; run = asks.0 }) asks.1) f

in_told : (files : List (List ℕ × List ℕ)) (words : List (List ℕ)) (contents : Contents) {text : List ℕ} {status : RewriteStatus} →
    ((named : FileNames) → Asks words named → contents_in files named ≡ contents) →
    WordsAnswer words (λ request. contents) text status → Answer words files text status
in_told files words contents read (usage n u) = usage n u
in_told files words contents read (asked request text status asks a) =
    asked request text status asks (subst (λ (c : Contents). RequestAnswer request c text status) (sym (read request.files (request.run, asks))) a)

-- With a store that tells its files, the answer for the contents that were read is that for its files.
pub told_answer : (files : List (List ℕ × List ℕ)) (words : List (List ℕ)) (contents : Contents) →
    ((named : FileNames) → Asks words named → contents_in files named ≡ contents) →
    IsWithin (WordsAnswer words (λ request. contents)) (Answer words files)
told_answer files words contents read = record { to = λ text status a. in_told files words contents read a }

-- ---- what is answered to a request, and to words

abbrev pub RequestSays : {K : Type 0} → SinkOf K → Option (List (List ℕ × List ℕ)) → Request → Lines K → Lines K → Result RewriteStatus NoAnswer → Type 0
RequestSays sink told request old new r = OfContents told request.files (λ contents. Says sink (RequestAnswer request contents) (IsSilent old new) old new r)

-- the board is right
pub request_of_file : {K : Type 0} (sink : SinkOf K) (old new : Lines K) (told : Option (List (List ℕ × List ℕ))) (request : Request)
    (r : Result RewriteStatus NoAnswer) (devices : List Desc) → ReadsBoard told request.files.board devices →
    OfFile told (Some request.files.file) (λ held. Says sink (FileAnswer devices request.run held) (IsSilent old new) old new r) →
    RequestSays sink told request old new r
request_of_file sink old new told request r devices reads o =
    of_both told request.files reads.held reads.read o (λ program.
    says_within sink _ _ old new r (file_within request devices reads.held program reads.holds) (λ u. u))

-- the words are this request, and a program that is written plays alike
pub words_of_request : AreAccepted → PlayAlike → AreFitted → {K : Type 0} (sink : SinkOf K) (old new : Lines K) (told : Option (List (List ℕ × List ℕ))) {words : List (List ℕ)}
    (request : Request) (r : Result RewriteStatus NoAnswer) → IsRequest words request → RequestSays sink told request old new r →
    OfAsked (Asks words) told (λ contents. Says sink (PromisedAnswer words contents) (IsSilent old new) old new r)
words_of_request accepted plays fits sink old new told {words = words} request r asks o =
    of_asked (Asks words) (one_asked words) told (request.run, asks) o (λ contents.
    says_within sink _ _ old new r (record { to = λ text status a. (promised accepted plays fits words contents).to text status (asked request text status asks a) }) (λ u. u))

-- the board is refused
module _ {K : Type 0} {sink : SinkOf K} {old new : Lines K} (told : Option (List (List ℕ × List ℕ))) (request : Request) (line : ℕ) (reason : BoardReason)
    (reads : ReadsBoardFault told request.files.board line reason) where
  pub board_failed : (r : Result RewriteStatus NoAnswer) → IsErrAnd r (λ e. e ≡ Write) → PutsBroken sink old (board_refusal_line line reason) new →
      RequestSays sink told request old new r
  board_failed r is front = of_board told request.files reads.held reads.read (λ program.
      says_failed sink (RequestAnswer request (both reads.held program)) _ old new r is
      (said_front (board_refusal_line line reason) (BoardRefused line reason) (board_refused line reason reads.holds) front))

  pub board_is_refused : Puts sink old (board_refusal_line line reason) new → RequestSays sink told request old new (Ok (BoardRefused line reason))
  board_is_refused put = of_board told request.files reads.held reads.read (λ program.
      said_text (board_refusal_line line reason) (board_refused line reason reads.holds) put)

-- it could not be read, or there was no memory
pub no_board : {K : Type 0} (sink : SinkOf K) (lines : Lines K) (told : Option (List (List ℕ × List ℕ))) (request : Request) →
    RequestSays sink told request lines lines (Err Read)
no_board sink lines told request = of_any_contents told request.files (λ contents. (refl, refl))

pub no_board_memory : {K : Type 0} (sink : SinkOf K) (lines : Lines K) (told : Option (List (List ℕ × List ℕ))) (request : Request)
    (r : Result RewriteStatus NoAnswer) → IsErrAnd r (λ e. e ≡ Memory) → RequestSays sink told request lines lines r
no_board_memory sink lines told request r is = of_any_contents told request.files (λ contents. says_no_memory sink _ _ lines lines r is (refl, refl))
