-- On the contents of the files of a request, and on what is kept of their store: the board comes first, and what is
-- played after it.
use Rattle.std.proofs.Common.{◌≡◌, ◌∙◌, ◌⊎◌, inl, inr, ℕ, List, [], ◌∷◌, map, Option, None, Some, IfSome, refl, sym, ap, subst}
use Rattle.std.specs.Prelude.{Result, IsErrOf}
use Rattle.tool_io.specs.Causes.{HasRisenAt, NoneFalls}
use Rattle.tool_io.specs.Files.{then_names, HasPicked}
use Rattle.dev_card.specs.declared.desc.Desc.{Desc}
use Rattle.dev_card.specs.Sound.{SoundCard}
use Rattle.tool_io.specs.declared.outside.Shelf.{Ghosts as ShelfOf}
use Rattle.tool_frame.specs.declared.no_answer.NoAnswer.{NoAnswer}
use Rattle.tool_frame.specs.declared.no_answer.NoAnswer.TheVariants.{Read}
use Rattle.tool_frame.specs.Files.{file_named, AreRead, OfFile, OfFiles, NamesThis, NamesTwo, KeepsShelf}
use Rattle.tool_frame.proofs.FileLemmas.{shelf_within, shelf_of_first, shelf_of_both}
use Rattle.tool_frame.proofs.AnswerLemmas.{IsWithin}
use Rattle.named_files.specs.Boards.{HasBoard, ReadsBoard}
use Rattle.play_words.specs.declared.requests.FilePlay.{FilePlay}
use Rattle.play_words.specs.declared.requests.Request.{Request}
use Rattle.play_words.specs.Words.{files_of, IsRequest, IsUsage}
use Rattle.play_words.proofs.OneRequest.{one_request, no_usage}
use Rattle.play_words.proofs.EveryWords.{request_or_usage}
use Rattle.play_words.specs.declared.status.Status.{Status}
use Rattle.play_tool.specs.Answers.{RequestAnswer, WordsAnswer, usage, asked, contents_in}
use Rattle.play_tool.specs.FinalRacks.{RequestHoldsFinal, WordsHoldFinal}
use Rattle.play_tool.specs.ReadContents.{ArePlayFiles, AreFilesOf, NamesFiles, OfWords, HoldsBoard, IsPlayFile, board_reached, source_reached, IsReached, IsReachedBy}

-- What was read.

-- what stands of all contents of files that are named
pub of_any_files : (told : Option (List (List ℕ × List ℕ))) (these : List (Option (List ℕ))) {P : List (Option (List ℕ)) → Type 0} →
    ((contents : List (Option (List ℕ))) → P contents) → OfFiles (λ named. named ≡ these) told P
of_any_files None these f = record { contents = []; read = λ named e. tt; holds = f [] }
of_any_files (Some files) these f = record { contents = map (file_named files) these; read = λ named e. ap (map (file_named files)) e; holds = f (map (file_named files) these) }

-- what stands of the contents of one file
pub of_one_named : (told : Option (List (List ℕ × List ℕ))) (path : List ℕ) {P : Option (List ℕ) → Type 0} {Q : List (Option (List ℕ)) → Type 0} → OfFile told (Some path) P →
    ((held : Option (List ℕ)) → P held → Q (held ∷ [])) → OfFiles (λ named. named ≡ Some path ∷ []) told Q
of_one_named None path o f = record { contents = o.held ∷ []; read = λ named e. tt; holds = f o.held o.holds }
of_one_named (Some files) path o f = record {
  contents = o.held ∷ [];
  read = λ named e. ap (map (file_named files)) e ∙ ap (λ (h : Option (List ℕ)). h ∷ []) (o.read).same;
  holds = f o.held o.holds;
}

-- the board was read, and it does not matter what else
pub of_board : (told : Option (List (List ℕ × List ℕ))) (play : FilePlay) (held : Option (List ℕ)) {P : List (Option (List ℕ)) → Type 0} → AreRead told (Some play.board) held →
    ((source : Option (List ℕ)) → P (held ∷ source ∷ [])) → OfFiles (ArePlayFiles play) told P
of_board None play held b f = record { contents = held ∷ None ∷ []; read = λ named e. tt; holds = f None }
of_board (Some files) play held b f =
    let source : Option (List ℕ) = file_named files (Some play.source) in
    record {
      contents = held ∷ source ∷ [];
      read = λ named e. ap (map (file_named files)) e ∙ ap (λ (h : Option (List ℕ)). h ∷ source ∷ []) b.same;
      holds = f source;
    }

-- the board was read, and after it what is played
pub of_both : (told : Option (List (List ℕ × List ℕ))) (play : FilePlay) (held : Option (List ℕ)) {P : Option (List ℕ) → Type 0} {Q : List (Option (List ℕ)) → Type 0} →
    AreRead told (Some play.board) held → OfFile told (Some play.source) P → ((source : Option (List ℕ)) → P source → Q (held ∷ source ∷ [])) → OfFiles (ArePlayFiles play) told Q
of_both None play held b o f = record { contents = held ∷ o.held ∷ []; read = λ named e. tt; holds = f o.held o.holds }
of_both (Some files) play held b o f = record {
  contents = held ∷ o.held ∷ [];
  read = λ named e.
      ap (map (file_named files)) e ∙ ap (λ (h : Option (List ℕ)). h ∷ file_named files (Some play.source) ∷ []) b.same
      ∙ ap (λ (s : Option (List ℕ)). held ∷ s ∷ []) (o.read).same;
  holds = f o.held o.holds;
}

-- The words are this request.
pub of_request : (told : Option (List (List ℕ × List ℕ))) {words : List (List ℕ)} {request : Request} {P Q : List (Option (List ℕ)) → Type 0} → IsRequest words request →
    OfFiles (AreFilesOf request) told P → ((contents : List (Option (List ℕ))) → P contents → Q contents) → OfWords told words Q
of_request told asks o f = record {
  contents = o.contents;
  read = λ named n. o.read named (n.are ∙ ap files_of (one_request n.asked asks));
  holds = f o.contents o.holds;
}

-- words that are no request
pub of_no_request : (told : Option (List (List ℕ × List ℕ))) {words : List (List ℕ)} {Q : List (Option (List ℕ)) → Type 0} → ((request : Request) → IsRequest words request → ⊥) →
    ((contents : List (Option (List ℕ))) → Q contents) → OfWords told words Q
of_no_request told none f = record { contents = []; read = λ named n. absurd (none n.request n.asked); holds = f [] }

-- what stands of all contents, whatever the words are
pub of_any_words : (told : Option (List (List ℕ × List ℕ))) (words : List (List ℕ)) {Q : List (Option (List ℕ)) → Type 0} → ((contents : List (Option (List ℕ))) → Q contents) →
    OfWords told words Q
of_any_words told words {Q = Q} f = by (request_or_usage words)
  where
    by : ((request : Request) × IsRequest words request) ⊎ ((n : ℕ) × IsUsage words n) → OfWords told words Q
    by (inl asks) = of_request told asks.1 (of_any_files told (files_of asks.0) f) (λ contents q. q)
    by (inr unread) = of_no_request told (λ request asks. no_usage asks unread.1) f

in_told : (files : List (List ℕ × List ℕ)) (words : List (List ℕ)) (contents : List (Option (List ℕ))) {text : List ℕ} {status : Status} →
    ((named : List (Option (List ℕ))) → NamesFiles words named → map (file_named files) named ≡ contents) →
    WordsAnswer words (λ request. contents) text status → WordsAnswer words (contents_in files) text status
in_told files words contents read (usage n u) = usage n u
in_told files words contents read (asked request text status asks a) =
    asked request text status asks
    (subst (λ (c : List (Option (List ℕ))). RequestAnswer request c text status) (sym (read (files_of request) (record { request = request; asked = asks; are = refl }))) a)

-- With a store that tells its files, the answer for the contents that were read is that for its files.
pub told_answer : (files : List (List ℕ × List ℕ)) (words : List (List ℕ)) (contents : List (Option (List ℕ))) →
    ((named : List (Option (List ℕ))) → NamesFiles words named → map (file_named files) named ≡ contents) →
    IsWithin (WordsAnswer words (λ request. contents)) (WordsAnswer words (contents_in files))
told_answer files words contents read = record { to = λ text status a. in_told files words contents read a }

-- the rack holds what the play leaves which the words ask for
pub words_final : {words : List (List ℕ)} {request : Request} (contents : List (Option (List ℕ))) → IsRequest words request → (rack : List (Option SoundCard)) →
    RequestHoldsFinal request contents rack → WordsHoldFinal words contents rack
words_final {request = request} contents asks rack final = record { request = request; asked = asks; final = final }

-- What is kept of the store.

-- the board that was read is the one that the store holds
holds_board : (path : List ℕ) (devices : List Desc) (told : Option (List (List ℕ × List ℕ))) → ReadsBoard told path devices → IfSome told (HoldsBoard path)
holds_board path devices None reads = tt
holds_board path devices (Some files) reads = record {
  devices = devices;
  board = subst (λ (h : Option (List ℕ)). HasBoard h devices) (sym (reads.read).same) reads.holds;
}

-- what is kept of the store if the board was read, and it is no board, or perhaps not read after a failure
module _ {S T R E : Type 0} {shelf : ShelfOf S} {before after : S} {q : Result T NoAnswer} (r : Result R E) where
  pub shelf_of_board : (play : FilePlay) {board : List ℕ} → board ≡ play.board → HasPicked (shelf.picks before) board (shelf.picks after) r →
      shelf.told after ≡ shelf.told before → NoneFalls shelf.faults shelf.is_last before after →
      (IsErrOf q Read → HasRisenAt shelf.faults shelf.is_last board before after) →
      KeepsShelf shelf (ArePlayFiles play) (IsPlayFile (shelf.told before) play) before after q
  shelf_of_board play b once keeps later read =
      subst (λ (path : List ℕ). KeepsShelf shelf (NamesTwo path play.source) (IsPlayFile (shelf.told before) play) before after q) b
      (shelf_of_first r (board_reached b) once keeps later read)

-- and if it is right, and after it what is played was perhaps read
pub shelf_of_play : {S T : Type 0} {shelf : ShelfOf S} {before mid after : S} {q : Result T NoAnswer} (play : FilePlay) {devices : List Desc} {board source : List ℕ} →
    board ≡ play.board → source ≡ play.source → ReadsBoard (shelf.told before) board devices → shelf.picks mid ≡ then_names (shelf.picks before) (board ∷ []) →
    shelf.told mid ≡ shelf.told before → NoneFalls shelf.faults shelf.is_last before mid → KeepsShelf shelf (NamesThis source) (λ read. read ≡ source) mid after q →
    KeepsShelf shelf (ArePlayFiles play) (IsPlayFile (shelf.told before) play) before after q
shelf_of_play {shelf = shelf} {before = before} {after = after} {q = q} play {devices = devices} {board = board} b s reads once keeps later kept =
    let told : Option (List (List ℕ × List ℕ)) = shelf.told before in
    let held : IfSome told (HoldsBoard play.board) = subst (λ (p : List ℕ). IfSome told (HoldsBoard p)) b (holds_board board devices told reads) in
    subst (λ (path : List ℕ). KeepsShelf shelf (NamesTwo path play.source) (IsPlayFile told play) before after q) b
    (subst (λ (path : List ℕ). KeepsShelf shelf (NamesTwo board path) (IsPlayFile told play) before after q) s
    (shelf_of_both (source_reached s held) once keeps later kept))

-- the files of the request are those of the words
pub shelf_of_words : {S T : Type 0} {shelf : ShelfOf S} {before after : S} {q : Result T NoAnswer} {told : Option (List (List ℕ × List ℕ))} {words : List (List ℕ)}
    {request : Request} → IsRequest words request → KeepsShelf shelf (AreFilesOf request) (IsReached told request) before after q →
    KeepsShelf shelf (NamesFiles words) (IsReachedBy told words) before after q
shelf_of_words {request = request} asks kept =
    shelf_within (λ named are. record { request = request; asked = asks; are = are }) (λ path reached. record { request = request; asked = asks; reached = reached })
    kept

-- A usage number, by an equal one.
pub usage_is : {words : List (List ℕ)} {n m : ℕ} → n ≡ m → IsUsage words n → IsUsage words m
usage_is {words = words} e u = subst (IsUsage words) e u
