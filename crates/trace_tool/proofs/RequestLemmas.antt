-- On answers to requests: the board comes first, and the trace after it.
use Rattle.std.proofs.Common.{◌≡◌, ◌<◌, ℕ, List, [], ◌∷◌, length, Option, None, Some, Result, Ok, Err, IfSome, IsSomeAnd, refl, sym, ap, subst}
use Rattle.std.specs.Prelude.{IsErrAnd}
use Rattle.tool_io.specs.declared.lines.Lines.{Lines}
use Rattle.tool_io.specs.Files.{file_of}
use Rattle.tool_io.specs.declared.outside.Sink.{Ghosts as SinkOf}
use Rattle.tool_io.specs.Lines.{Puts, PutsBroken}
use Rattle.dev_card.specs.declared.desc.Desc.{Desc}
use Rattle.dev_card.specs.Sound.{SoundCard}
use Rattle.board_text.specs.declared.reason.BoardReason.{BoardReason}
use Rattle.tool_frame.specs.declared.no_answer.NoAnswer.{NoAnswer}
use Rattle.tool_frame.specs.declared.no_answer.NoAnswer.TheVariants.{Read, Write, Memory}
use Rattle.tool_frame.specs.Answers.{Says}
use Rattle.tool_frame.proofs.AnswerLemmas.{IsWithin, says_within, says_failed, said_text, said_front}
use Rattle.tool_frame.specs.Files.{OfFile, OfFiles}
use Rattle.tool_frame.specs.Frame.{SaysAndLeaves}
use Rattle.named_files.specs.Boards.{HasBoard, ReadsBoard, ReadsBoardFault}
use Rattle.named_files.specs.Texts.{board_refusal_line}
use Rattle.named_files.proofs.BoardLemmas.{of_file_as, of_any_file, of_whole_file, of_long_file}
use Rattle.named_files.specs.Words.{FileNames, IsRequest}
use Rattle.named_files.specs.Contents.{Contents, both_of, contents_in, OfContents, NamesBoth, OfWords}
use Rattle.named_files.proofs.ContentLemmas.{both, of_any_contents, of_board, of_both, of_request}
use Rattle.trace_check.specs.Limits.{trace_limit}
use Rattle.trace_tool.specs.declared.status.TraceStatus.{TraceStatus}
use Rattle.trace_tool.specs.declared.status.TraceStatus.TheVariants.{TooLong, BoardRefused}
use Rattle.trace_tool.specs.Texts.{too_long_line}
use Rattle.trace_tool.specs.Answers.{trace_key, TraceAnswer, too_long, FileAnswer, RequestAnswer, board_refused, board_read, WordsAnswer, usage, asked}
use Rattle.trace_tool.specs.FinalRacks.{HoldsLed, HeldLed, RequestHoldsLed, WordsHoldLed, KeepsRack, LeavesRack}
use Rattle.trace_tool.proofs.RackLemmas.{rack_as, rack_compared, rack_failed, rack_same, rack_unread}

answers_as : {K D Kind : Type 0} (sink : SinkOf K) (kind_of : D → Kind) (fitted : D → Option SoundCard) {A B : List ℕ → TraceStatus → Type 0}
    {F G : TraceStatus → List (Option SoundCard) → Type 0} {old new : Lines K} {olds news : List D} (r : Result TraceStatus NoAnswer) → IsWithin A B →
    ((status : TraceStatus) (rack : List (Option SoundCard)) → F status rack → G status rack) →
    SaysAndLeaves sink A (LeavesRack kind_of fitted F) old new olds news r → SaysAndLeaves sink B (LeavesRack kind_of fitted G) old new olds news r
answers_as sink kind_of fitted {old = old} {new = new} r within final a = record {
  says = says_within sink _ _ old new r within (λ same. same) a.says;
  left = rack_as r final a.left;
}

-- ---- the trace in a file

held_answer : (devices : List Desc) (bytes : List ℕ) → IsWithin (TraceAnswer devices bytes) (FileAnswer devices (Some bytes))
held_answer devices bytes = record { to = λ text status a. record { bytes = bytes; held = refl; answer = a } }

long_file : (devices : List Desc) (file : Option (List ℕ)) → IsSomeAnd file (λ bytes. trace_limit < length bytes) → FileAnswer devices file too_long_line TooLong
long_file devices None long = absurd long
long_file devices (Some bytes) long = record { bytes = bytes; held = refl; answer = too_long long }

-- what is answered
abbrev pub FileSays : {K D Kind : Type 0} → SinkOf K → (D → Kind) → (D → Option SoundCard) → Option (List (List ℕ × List ℕ)) → List ℕ → List Desc →
    Lines K → Lines K → List D → List D → Result TraceStatus NoAnswer → Type 0
FileSays sink kind_of fitted told path devices old new olds news r = OfFile told (Some path) (λ held.
    SaysAndLeaves sink (FileAnswer devices held) (LeavesRack kind_of fitted (HeldLed devices held)) old new olds news r)

-- the file was read whole
pub whole_file : {K D Kind : Type 0} (sink : SinkOf K) (kind_of : D → Kind) (fitted : D → Option SoundCard) (old new : Lines K) (olds news : List D)
    (told : Option (List (List ℕ × List ℕ))) (path : List ℕ) (devices : List Desc) (bytes : List ℕ) (r : Result TraceStatus NoAnswer) →
    IfSome told (λ files. file_of files path ≡ Some bytes) → Says sink (TraceAnswer devices bytes) ⊥ old new r →
    KeepsRack kind_of fitted (HoldsLed devices bytes) olds news r → FileSays sink kind_of fitted told path devices old new olds news r
whole_file sink kind_of fitted old new olds news told path devices bytes r whole says rack =
    of_whole_file told path bytes whole (record {
      says = says_within sink _ _ old new r (held_answer devices bytes) (λ (z : ⊥). absurd z) says;
      left = rack_as r (λ status (rest : List (Option SoundCard)) f. f) (rack_compared sink _ old new r says rack);
    })

-- it is too long
pub long_failed : {K D Kind : Type 0} (sink : SinkOf K) (kind_of : D → Kind) (fitted : D → Option SoundCard) (old new : Lines K) (items : List D)
    (told : Option (List (List ℕ × List ℕ))) (path : List ℕ) (devices : List Desc) (r : Result TraceStatus NoAnswer) →
    IfSome told (λ files. IsSomeAnd (file_of files path) (λ bytes. trace_limit < length bytes)) → IsErrAnd r (λ x. x ≡ Write) →
    PutsBroken sink old too_long_line new → FileSays sink kind_of fitted told path devices old new items items r
long_failed sink kind_of fitted old new items told path devices r long is front =
    of_file_as (λ held l. record {
      says = says_failed sink (FileAnswer devices held) _ old new r is (said_front _ _ (long_file devices held l) front);
      left = rack_failed r is;
    })
    (of_long_file told path trace_limit long)

pub long_refused : {K D Kind : Type 0} (sink : SinkOf K) (kind_of : D → Kind) (fitted : D → Option SoundCard) (old new : Lines K) (items : List D)
    (told : Option (List (List ℕ × List ℕ))) (path : List ℕ) (devices : List Desc) →
    IfSome told (λ files. IsSomeAnd (file_of files path) (λ bytes. trace_limit < length bytes)) →
    Puts sink old too_long_line new → FileSays sink kind_of fitted told path devices old new items items (Ok TooLong)
long_refused sink kind_of fitted old new items told path devices long put =
    of_file_as (λ held l. record { says = said_text _ (long_file devices held l) put; left = rack_same TooLong (λ p. p) }) (of_long_file told path trace_limit long)

-- it could not be read, or there was no room for it
pub not_read : {K D Kind : Type 0} {sink : SinkOf K} {kind_of : D → Kind} {fitted : D → Option SoundCard} {lines : Lines K} {items : List D}
    (told : Option (List (List ℕ × List ℕ))) (path : List ℕ) (devices : List Desc) → FileSays sink kind_of fitted told path devices lines lines items items (Err Read)
not_read told path devices = of_any_file told (Some path) (λ held. record { says = (refl, refl); left = rack_unread Read })

pub no_room : {K D Kind : Type 0} {sink : SinkOf K} {kind_of : D → Kind} {fitted : D → Option SoundCard} {lines : Lines K} {items : List D}
    (told : Option (List (List ℕ × List ℕ))) (path : List ℕ) (devices : List Desc) → FileSays sink kind_of fitted told path devices lines lines items items (Err Memory)
no_room told path devices = of_any_file told (Some path) (λ held. record { says = (refl, refl); left = rack_unread Memory })

-- ---- the board is right

file_within : (devices : List Desc) (board trace : Option (List ℕ)) → HasBoard board devices →
    IsWithin (FileAnswer devices trace) (RequestAnswer (both board trace))
file_within devices board trace is = record { to = λ text status a. board_read devices text status is a }

-- ---- told files

in_told : (files : List (List ℕ × List ℕ)) (words : List (List ℕ)) (contents : Contents) {text : List ℕ} {status : TraceStatus} →
    ((named : FileNames) → IsRequest trace_key words named → contents_in files named ≡ contents) →
    WordsAnswer words (λ named. contents) text status → WordsAnswer words (contents_in files) text status
in_told files words contents read (usage n u) = usage n u
in_told files words contents read (asked named text status asks a) =
    asked named text status asks (subst (λ (c : Contents). RequestAnswer c text status) (sym (read named asks)) a)

-- With a store that tells its files, the answer for the contents that were read is that for its files.
pub told_answer : (files : List (List ℕ × List ℕ)) (words : List (List ℕ)) {text : List ℕ} {status : TraceStatus} →
    OfFiles (NamesBoth (IsRequest trace_key words)) (Some files) (λ contents. WordsAnswer words (λ named. both_of contents) text status) →
    WordsAnswer words (contents_in files) text status
told_answer files words o =
    in_told files words (both_of o.contents)
    (λ named asks. ap both_of (o.read (Some named.board ∷ Some named.file ∷ []) (record { files = named; asked = asks; both = refl }))) o.holds

-- ---- what is answered to a request, and to words

abbrev pub RequestSays : {K D Kind : Type 0} → SinkOf K → (D → Kind) → (D → Option SoundCard) → Option (List (List ℕ × List ℕ)) → FileNames →
    Lines K → Lines K → List D → List D → Result TraceStatus NoAnswer → Type 0
RequestSays sink kind_of fitted told named old new olds news r = OfContents told named (λ contents.
    SaysAndLeaves sink (RequestAnswer contents) (LeavesRack kind_of fitted (RequestHoldsLed contents)) old new olds news r)

abbrev pub WordsSay : {K D Kind : Type 0} → SinkOf K → (D → Kind) → (D → Option SoundCard) → Option (List (List ℕ × List ℕ)) → List (List ℕ) →
    Lines K → Lines K → List D → List D → Result TraceStatus NoAnswer → Type 0
WordsSay sink kind_of fitted told words old new olds news r = OfWords trace_key told words (λ contents.
    SaysAndLeaves sink (WordsAnswer words (λ named. contents)) (LeavesRack kind_of fitted (WordsHoldLed words contents)) old new olds news r)

-- the board is right
pub request_of_file : {K D Kind : Type 0} (sink : SinkOf K) (kind_of : D → Kind) (fitted : D → Option SoundCard) (old new : Lines K) (olds news : List D)
    (told : Option (List (List ℕ × List ℕ))) (named : FileNames) (r : Result TraceStatus NoAnswer) (devices : List Desc) → ReadsBoard told named.board devices →
    FileSays sink kind_of fitted told named.file devices old new olds news r → RequestSays sink kind_of fitted told named old new olds news r
request_of_file sink kind_of fitted old new olds news told named r devices reads o =
    of_both told named reads.held reads.read o (λ trace a.
    answers_as sink kind_of fitted r (file_within devices reads.held trace reads.holds)
    (λ status rack final. record { devices = devices; board = reads.holds; final = final }) a)

-- the words are this request
pub words_of_request : {K D Kind : Type 0} (sink : SinkOf K) (kind_of : D → Kind) (fitted : D → Option SoundCard) (old new : Lines K) (olds news : List D)
    (told : Option (List (List ℕ × List ℕ))) {words : List (List ℕ)} (named : FileNames) (r : Result TraceStatus NoAnswer) → IsRequest trace_key words named →
    RequestSays sink kind_of fitted told named old new olds news r → WordsSay sink kind_of fitted told words old new olds news r
words_of_request sink kind_of fitted old new olds news told named r asks o =
    of_request told asks o (λ contents.
    answers_as sink kind_of fitted r (record { to = λ text status a. asked named text status asks a })
    (λ status rack final. record { named = named; asked = asks; final = final }))

-- the board is refused
module _ {K D Kind : Type 0} {sink : SinkOf K} {kind_of : D → Kind} {fitted : D → Option SoundCard} {old new : Lines K} {items : List D}
    (told : Option (List (List ℕ × List ℕ))) (named : FileNames) (line : ℕ) (reason : BoardReason)
    (reads : ReadsBoardFault told named.board line reason) where
  pub board_failed : (r : Result TraceStatus NoAnswer) → IsErrAnd r (λ e. e ≡ Write) → PutsBroken sink old (board_refusal_line line reason) new →
      RequestSays sink kind_of fitted told named old new items items r
  board_failed r is front = of_board told named reads.held reads.read (λ trace. record {
    says = says_failed sink (RequestAnswer (both reads.held trace)) _ old new r is
        (said_front (board_refusal_line line reason) (BoardRefused line reason) (board_refused line reason reads.holds) front);
    left = rack_failed r is;
  })

  pub board_is_refused : Puts sink old (board_refusal_line line reason) new → RequestSays sink kind_of fitted told named old new items items (Ok (BoardRefused line reason))
  board_is_refused put = of_board told named reads.held reads.read (λ trace. record {
    says = said_text (board_refusal_line line reason) (board_refused line reason reads.holds) put;
    left = rack_same (BoardRefused line reason) (λ p. p);
  })

-- it could not be read, or there was no memory
pub no_board : {K D Kind : Type 0} {sink : SinkOf K} {kind_of : D → Kind} {fitted : D → Option SoundCard} {lines : Lines K} {items : List D}
    (told : Option (List (List ℕ × List ℕ))) (named : FileNames) → RequestSays sink kind_of fitted told named lines lines items items (Err Read)
no_board told named = of_any_contents told named (λ contents. record { says = (refl, refl); left = rack_unread Read })

pub no_board_memory : {K D Kind : Type 0} {sink : SinkOf K} {kind_of : D → Kind} {fitted : D → Option SoundCard} {lines : Lines K} {items : List D}
    (told : Option (List (List ℕ × List ℕ))) (named : FileNames) (r : Result TraceStatus NoAnswer) → IsErrAnd r (λ e. e ≡ Memory) →
    RequestSays sink kind_of fitted told named lines lines items items r
no_board_memory told named (Ok status) is = absurd is
no_board_memory told named (Err e) is = rw is (of_any_contents told named (λ contents. record { says = (refl, refl); left = rack_unread Memory }))
