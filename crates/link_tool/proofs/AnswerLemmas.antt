-- On answers to requests and to words: there is at most one, and always one.
use Rattle.std.proofs.Common.{◌≡◌, ◌∙◌, ◌⊎◌, inl, inr, ℕ, List, [], map, Option, None, Some, Result, Ok, Err, refl, sym, ap, subst}
use Rattle.std.specs.Prelude.{IsErrAnd, IsSome}
use Rattle.std.proofs.lemmas.Bool.{false≢true}
use Rattle.tool_io.specs.Causes.{HasRisenAt}
use Rattle.tool_io.specs.declared.outside.Shelf.{Ghosts as ShelfOf}
use Rattle.tool_io.proofs.BytesLemmas.{then_bytes-nothing}
use Rattle.dev_card.specs.declared.desc.Desc.{Desc}
use Rattle.dev_card.specs.Sound.{SoundCard}
use Rattle.board_text.specs.declared.reason.BoardReason.{BoardReason}
use Rattle.board_text.specs.Boards.{IsBoard, IsFirstFault}
use Rattle.tool_frame.specs.declared.no_answer.NoAnswer.{NoAnswer}
use Rattle.tool_frame.specs.declared.no_answer.NoAnswer.TheVariants.{Read, Write, Memory}
use Rattle.tool_frame.proofs.AnswerLemmas.{IsWithin, wrote_within, front_within_written}
use Rattle.named_files.specs.Boards.{ReadsBoard, ReadsBoardFault}
use Rattle.named_files.proofs.BoardLemmas.{one_held, one_fault, board_or_fault}
use Rattle.named_files.specs.Words.{FileNames, IsRequest, IsUsage}
use Rattle.named_files.specs.Contents.{Contents, contents_in, OfContents, OfWords}
use Rattle.named_files.proofs.WordLemmas.{one_request, one_usage, no_usage}
use Rattle.named_files.proofs.ContentLemmas.{both, of_any_contents, of_board, of_both, of_request, of_no_request}
use Rattle.link_tool.specs.declared.status.LinkStatus.{LinkStatus}
use Rattle.link_tool.specs.declared.status.LinkStatus.TheVariants.{BoardRefused, Usage}
use Rattle.link_tool.specs.Statuses.{IsFault, IsOfSession}
use Rattle.link_tool.specs.Sessions.{session_answers}
use Rattle.link_tool.specs.Answers.{link_key, new_board, FileAnswer, RequestAnswer, board_refused, board_read, WordsAnswer, usage, asked, Answer, RequestDue, before_session, in_session, WordsDue}
use Rattle.link_tool.specs.FinalRacks.{RequestHoldsLeft, WordsHoldLeft, KeepsRack}
use Rattle.link_tool.specs.Written.{HasAnswered, Answers}
use Rattle.link_tool.proofs.EndLemmas.{one_end, some_end, end_is_no_fault}
use Rattle.link_tool.proofs.FileLemmas.{rack_kept, nothing_due, FileSays}

-- ---- one answer

-- two texts and two statuses are the same
abbrev pub AreSame : List ℕ → LinkStatus → List ℕ → LinkStatus → Type 0
AreSame a s b t = (a ≡ b) × (s ≡ t)

one_file : (devices : List Desc) (file : Option (List ℕ)) (a b : List ℕ) (s t : LinkStatus) → FileAnswer devices file a s → FileAnswer devices file b t → AreSame a s b t
one_file devices None a b s t x y = absurd x
one_file devices (Some bytes) a b s t x y = (x.text_is ∙ sym y.text_is, one_end bytes s t x.ends y.ends)

refused_same : {m n : ℕ} {r s : BoardReason} → (m ≡ n) × (r ≡ s) → AreSame [] (BoardRefused m r) [] (BoardRefused n s)
refused_same {n = n} {r = r} e = (refl, ap (λ k. BoardRefused k r) e.0 ∙ ap (BoardRefused n) e.1)

one_asked : (contents : Contents) (a b : List ℕ) (s t : LinkStatus) → RequestAnswer contents a s → RequestAnswer contents b t → AreSame a s b t
one_asked contents a b s t (board_refused m r x) (board_refused n q y) = refused_same (one_fault contents.board m n r q x y)
one_asked contents a b s t (board_refused m r x) (board_read devices text status y z) =
    absurd (board_or_fault contents.board devices m r y x)
one_asked contents a b s t (board_read devices text status x z) (board_refused n q y) =
    absurd (board_or_fault contents.board devices n q x y)
one_asked contents a b s t (board_read devices text status x z) (board_read others text2 status2 y w) =
    one_file others contents.file a b s t
    (subst (λ (ds : List Desc). FileAnswer ds contents.file a s) (one_held contents.board devices others x y) z) w

pub one_words : (words : List (List ℕ)) (files : List (List ℕ × List ℕ)) (a b : List ℕ) (s t : LinkStatus) → Answer words files a s → Answer words files b t → AreSame a s b t
one_words words files a b s t (usage n x) (usage m y) = (refl, ap Usage (one_usage link_key words n m x y))
one_words words files a b s t (usage n x) (asked named text status y z) = absurd (no_usage link_key words named n y x)
one_words words files a b s t (asked named text status x z) (usage m y) = absurd (no_usage link_key words named m x y)
one_words words files a b s t (asked named text status x z) (asked other text2 status2 y w) =
    one_asked (contents_in files other) a b s t
    (subst (λ (n : FileNames). RequestAnswer (contents_in files n) a s) (one_request link_key words named other x y) z) w

-- ---- always an answer

-- each text is a board, or has a first fault
abbrev pub AreBoards : Type 0
AreBoards = (text : List ℕ) → ((devices : List Desc) × IsBoard text devices) ⊎ ((line : ℕ) × (reason : BoardReason) × IsFirstFault text line reason)

abbrev HasAnswer : (List ℕ → LinkStatus → Type 0) → Type 0
HasAnswer A = (text : List ℕ) × (status : LinkStatus) × A text status

held_request : (board bytes : List ℕ) → ((devices : List Desc) × IsBoard board devices) ⊎ ((line : ℕ) × (reason : BoardReason) × IsFirstFault board line reason) →
    HasAnswer (RequestAnswer (both (Some board) (Some bytes)))
held_request board bytes (inr fault) = ([], BoardRefused fault.0 fault.1, board_refused fault.0 fault.1 fault.2)
held_request board bytes (inl devices) =
    let end = some_end bytes in
    let text : List ℕ = session_answers (new_board devices.0) bytes in
    (text, end.0, board_read devices.0 text end.0 devices.1 (record { text_is = refl; ends = end.1 }))

pub every_request : AreBoards → (contents : Contents) → IsSome contents.board → IsSome contents.file → HasAnswer (RequestAnswer contents)
every_request boards contents = by contents.board contents.file
  where
    by : (board file : Option (List ℕ)) → IsSome board → IsSome file → HasAnswer (RequestAnswer (both board file))
    by None file b t = absurd (false≢true b)
    by (Some board) None b t = absurd (false≢true t)
    by (Some board) (Some bytes) b t = held_request board bytes (boards board)

-- ---- the status of a fault

file_status : (devices : List Desc) (held : Option (List ℕ)) (text : List ℕ) (status : LinkStatus) → FileAnswer devices held text status → IsFault status → ⊥
file_status devices None text status a p = a
file_status devices (Some bytes) text status a p = end_is_no_fault a.ends p

request_status : (contents : Contents) (text : List ℕ) (status : LinkStatus) → RequestAnswer contents text status → IsFault status → ⊥
request_status contents text status (board_refused m r x) p = p
request_status contents text status (board_read devices text2 status2 x a) p = file_status devices contents.file text status a p

pub answer_status : {words : List (List ℕ)} {contents_of : FileNames → Contents} {text : List ℕ} {status : LinkStatus} → WordsAnswer words contents_of text status →
    IsFault status → ⊥
answer_status (usage n u) p = p
answer_status {contents_of = contents_of} (asked named text status asks a) p = request_status (contents_of named) text status a p

-- ---- told files

in_told : (files : List (List ℕ × List ℕ)) (words : List (List ℕ)) (contents : Contents) {text : List ℕ} {status : LinkStatus} →
    ((named : FileNames) → IsRequest link_key words named → contents_in files named ≡ contents) →
    WordsAnswer words (λ named. contents) text status → WordsAnswer words (contents_in files) text status
in_told files words contents read (usage n u) = usage n u
in_told files words contents read (asked named text status asks a) =
    asked named text status asks (subst (λ (c : Contents). RequestAnswer c text status) (sym (read named asks)) a)

pub told_answer : (words : List (List ℕ)) (files : List (List ℕ × List ℕ)) (text : List ℕ) (status : LinkStatus) →
    OfWords link_key (Some files) words (λ contents. WordsAnswer words (λ named. contents) text status) → Answer words files text status
told_answer words files text status o = in_told files words o.contents o.read o.holds

-- ---- answers under another name

-- each due text of the one relation is one of the other
abbrev IsDueWithin : (List ℕ → Type 0) → (List ℕ → Type 0) → Type 0
IsDueWithin P Q = (text : List ℕ) → P text → Q text

answered_as : {A B : List ℕ → LinkStatus → Type 0} {P Q : List ℕ → Type 0} (before after : Option (List ℕ)) (r : Result LinkStatus NoAnswer) → IsWithin A B → IsDueWithin P Q →
    HasAnswered A P before after r → HasAnswered B Q before after r
answered_as before after (Ok status) within due h = wrote_within within h
answered_as before after (Err Read) within due h = record { text = h.text; is_due = due h.text h.is_due; written = h.written }
answered_as before after (Err Write) within due h = front_within_written within h
answered_as before after (Err Memory) within due h = h

module _ {D Kind : Type 0} {kind_of : D → Kind} {fitted : D → Option SoundCard} where
  rack_as : {F G : List (Option SoundCard) → Type 0} {before after : List D} (r : Result LinkStatus NoAnswer) → ((rack : List (Option SoundCard)) → F rack → G rack) →
      KeepsRack kind_of fitted F before after r → KeepsRack kind_of fitted G before after r
  rack_as {after = after} (Ok status) f k = record { kinds = k.kinds; early = k.early; leaves = λ p. f (map fitted after) (k.leaves p) }
  rack_as (Err e) f k = record { kinds = k.kinds; early = tt; leaves = tt }

  -- no board was fitted
  rack_same : {F : List (Option SoundCard) → Type 0} {items : List D} (status : LinkStatus) → (IsOfSession status → ⊥) → KeepsRack kind_of fitted F items items (Ok status)
  rack_same status never = record { kinds = refl; early = λ p. refl; leaves = λ p. absurd (never p) }

  answers_as : {A B : List ℕ → LinkStatus → Type 0} {P Q : List ℕ → Type 0} {F G : List (Option SoundCard) → Type 0} {before after : Option (List ℕ)} {olds news : List D}
      (r : Result LinkStatus NoAnswer) → IsWithin A B → IsDueWithin P Q → ((rack : List (Option SoundCard)) → F rack → G rack) →
      Answers kind_of fitted A P F before after olds news r → Answers kind_of fitted B Q G before after olds news r
  answers_as r within due final a = record { written = answered_as _ _ r within due a.written; rack = rack_as r final a.rack }

-- ---- what is answered to a request

module _ {D Kind S : Type 0} (kind_of : D → Kind) (fitted : D → Option SoundCard) (shelf : ShelfOf S) (files files_now : S) where
  abbrev pub RequestSays : Option (List (List ℕ × List ℕ)) → FileNames → Option (List ℕ) → Option (List ℕ) → List D → List D → Result LinkStatus NoAnswer → Type 0
  RequestSays told named before after olds news r = OfContents told named (λ contents.
      Answers kind_of fitted (RequestAnswer contents) (RequestDue shelf files files_now named contents) (RequestHoldsLeft contents) before after olds news r)

  -- the board is right
  pub request_of_file : (before after : Option (List ℕ)) (olds news : List D) (told : Option (List (List ℕ × List ℕ))) (named : FileNames) (r : Result LinkStatus NoAnswer)
      (devices : List Desc) → ReadsBoard told named.board devices → FileSays kind_of fitted devices shelf files_now told named.file before after olds news r →
      RequestSays told named before after olds news r
  request_of_file before after olds news told named r devices reads o =
      of_both told named reads.held reads.read o (λ file a.
      answers_as r (record { to = λ text status x. board_read devices text status reads.holds x }) (λ text x. in_session devices reads.holds x)
      (λ rack final. record { devices = devices; board = reads.holds; final = final }) a)

  -- it is refused
  pub board_is_refused : (before : Option (List ℕ)) (items : List D) (told : Option (List (List ℕ × List ℕ))) (named : FileNames) (line : ℕ) (reason : BoardReason) →
      ReadsBoardFault told named.board line reason → RequestSays told named before before items items (Ok (BoardRefused line reason))
  board_is_refused before items told named line reason reads = of_board told named reads.held reads.read (λ file. record {
    written = record { text = []; answer = board_refused line reason reads.holds; written = sym (then_bytes-nothing before) };
    rack = rack_same (BoardRefused line reason) (λ p. p);
  })

  -- it could not be read, or there was no memory
  pub no_board : (before : Option (List ℕ)) (items : List D) (told : Option (List (List ℕ × List ℕ))) (named : FileNames) → HasRisenAt shelf.faults shelf.is_last named.board files files_now →
      RequestSays told named before before items items (Err Read)
  no_board before items told named rose = of_any_contents told named (λ contents. record { written = nothing_due before (before_session rose refl); rack = rack_kept Read refl })

  pub no_board_memory : (before : Option (List ℕ)) (items : List D) (told : Option (List (List ℕ × List ℕ))) (named : FileNames) (r : Result LinkStatus NoAnswer) →
      IsErrAnd r (λ e. e ≡ Memory) → RequestSays told named before before items items r
  no_board_memory before items told named (Ok status) is = absurd is
  no_board_memory before items told named (Err e) is = rw is (of_any_contents told named (λ contents. record { written = refl; rack = rack_kept Memory refl }))

  -- ---- and to words

  abbrev pub WordsSay : Option (List (List ℕ × List ℕ)) → List (List ℕ) → Option (List ℕ) → Option (List ℕ) → List D → List D → Result LinkStatus NoAnswer → Type 0
  WordsSay told words before after olds news r = OfWords link_key told words (λ contents.
      Answers kind_of fitted (WordsAnswer words (λ named. contents)) (WordsDue shelf files files_now words contents) (WordsHoldLeft words contents) before after olds news r)

  pub words_of_request : (before after : Option (List ℕ)) (olds news : List D) (told : Option (List (List ℕ × List ℕ))) {words : List (List ℕ)} (named : FileNames)
      (r : Result LinkStatus NoAnswer) → IsRequest link_key words named → RequestSays told named before after olds news r → WordsSay told words before after olds news r
  words_of_request before after olds news told named r asks o =
      of_request told asks o (λ contents.
      answers_as r (record { to = λ text status a. asked named text status asks a }) (λ text x. record { named = named; asked = asks; due = x })
      (λ rack final. record { named = named; asked = asks; final = final }))

  pub words_refused : (before : Option (List ℕ)) (items : List D) (told : Option (List (List ℕ × List ℕ))) {words : List (List ℕ)} (n : ℕ) → IsUsage link_key words n →
      WordsSay told words before before items items (Ok (Usage n))
  words_refused before items told {words = words} n u =
      of_no_request link_key told (λ named asks. no_usage link_key words named n asks u) (λ contents. record {
        written = record { text = []; answer = usage n u; written = sym (then_bytes-nothing before) };
        rack = rack_same (Usage n) (λ p. p);
      })
