-- On what is said of files.
use Rattle.std.proofs.Common.{◌≡◌, ◌<◌, ℕ, pos, List, [], ◌∷◌, length, Option, None, Some, Result, Ok, Err, refl, sym, subst, inl}
use Rattle.std.specs.Prelude.{IsSomeAnd, IfSome}
use Rattle.tool_io.specs.declared.lines.Lines.{Lines}
use Rattle.tool_io.specs.declared.outside.Sink.{Ghosts as SinkOf}
use Rattle.tool_frame.specs.declared.no_answer.NoAnswer.{NoAnswer}
use Rattle.tool_io.specs.Causes.{HasRisenAt, NoneFalls}
use Rattle.tool_io.specs.Files.{file_of, then_names, PicksFront}
use Rattle.tool_io.specs.declared.outside.Shelf.{Ghosts as ShelfOf}
use Rattle.tool_io.proofs.PickLemmas.{picks_at_most}
use Rattle.tool_io.proofs.CauseLemmas.{counts_start}
use Rattle.tool_frame.specs.Files.{NamesThis, NamesTwo, nothing_picked, files_picked, KeepsShelf}
use Rattle.tool_frame.proofs.FileLemmas.{picks_within, shelf_of_both}
use Rattle.tool_frame.specs.Answers.{Says}
use Rattle.tool_frame.proofs.AnswerLemmas.{IsWithin, says_within}
use Rattle.stapl_lexer.specs.declared.reason.Reason.TheVariants as program_reasons
use Rattle.stapl_lexer.specs.Pieces.{text_limit}
use Rattle.stapl_syntax.specs.Trees.{StmtTree}
use Rattle.stapl_syntax.specs.Programs.{is_too_long}
use Rattle.dev_card.specs.declared.desc.Desc.{Desc}
use Rattle.board_text.specs.declared.reason.BoardReason.{BoardReason}
use Rattle.board_text.specs.declared.reason.BoardReason.TheVariants as board_reasons
use Rattle.board_text.specs.Boards.{most_bytes, IsBoard, IsFirstFault}
use Rattle.named_files.specs.Boards.{HasBoard}
use Rattle.play_words.specs.declared.requests.PlayRequest.{PlayRequest}
use Rattle.play_words.specs.declared.status.Status.{Status}
use Rattle.play_words.specs.declared.status.Status.TheVariants.{Done, BoardRefused}
use Rattle.named_files.specs.Texts.{board_refusal_line}
use Rattle.play_tool.specs.declared.sources.Source.{Source}
use Rattle.play_tool.specs.ReadContents.{HoldsBoard}
use Rattle.play_tool.specs.Answers.{TextAnswer, HeldAnswer, PlayAnswer, board_refused}
use Rattle.tool_questions.specs.BoardLines as boards
use Rattle.tool_questions.specs.Pieces as pieces
use Rattle.why_tool.specs.Told.{Known, Shows}
use Rattle.why_tool.specs.Whys.{Explains, IsUnread, IsUnreadTold, Reads, cannot, did, known_at, KeepsFiles}
use Rattle.why_tool.proofs.TextLemmas.{refused_shown}

-- more that stands of the bytes that were read, and files that could not be read in a longer time
pub reads_within : {u v : List ℕ → Type 0} {A B : List ℕ → Status → Type 0} → ((path : List ℕ) → u path → v path) → IsWithin A B → IsWithin (Reads u A) (Reads v B)
reads_within {u = u} {v = v} {A = A} {B = B} later w = record { to = by }
  where
    by : (said : List ℕ) (ending : Status) → Reads u A said ending → Reads v B said ending
    by said ending (cannot path rose t) = cannot path (later path rose) t
    by said ending (did a) = did (w.to said ending a)

-- what the command does with the bytes is said
pub did_say : {u : List ℕ → Type 0} {A : List ℕ → Status → Type 0} → IsWithin A (Reads u A)
did_say = record { to = λ said ending a. did a }

-- that a file which is reached cannot be read is said
pub cannot_say : {S : Type 0} {shelf : ShelfOf S} {reached : List ℕ → Type 0} {before after : S} {A : List ℕ → Status → Type 0} (path : List ℕ) →
    reached path → HasRisenAt shelf.faults shelf.is_last path before after → IsWithin (IsUnreadTold path) (Reads (IsUnread shelf reached before after) A)
cannot_say path is rose = record { to = λ said ending t. cannot path (record { is_reached = is; rose = rose }) t }

-- the bytes that were read of a board are those that the store holds
pub holds_board : (told : Option (List (List ℕ × List ℕ))) (path bytes : List ℕ) (devices : List Desc) →
    IfSome told (λ files. file_of files path ≡ Some bytes) → IsBoard bytes devices → IfSome told (HoldsBoard path)
holds_board None path bytes devices e is = tt
holds_board (Some files) path bytes devices e is = record {
  devices = devices;
  board = subst (λ (h : Option (List ℕ)). HasBoard h devices) (sym e) is;
}

-- A text is too long to be a program.
long_shown : (said : List ℕ) (text : List ℕ) → text_limit < length text → (status : Status) → pieces.IsLongAnswer said status → Shows (pieces.PieceAnswer text 0) said
long_shown said text more status a = record { status = status; answer = pieces.long more a }

long_ends : (said : List ℕ) (status : Status) → pieces.IsLongAnswer said status → status ≡ Done (pos 0)
long_ends said status pieces.too_long = refl

pub long_program : (u : List ℕ → Type 0) (answers : List ℕ → List StmtTree → List ℕ → Status → Type 0) (known : Option (List ℕ) → Known) →
    ((text : List ℕ) → (known (Some text)).program ≡ Some text) → {K : Type 0} (sink : SinkOf K) (old new : Lines K) (r : Result Status NoAnswer)
    (held : Option (List ℕ)) → IsSomeAnd held (λ text. text_limit < length text) → Says sink pieces.IsLongAnswer ⊥ old new r →
    Says sink (Reads u (Explains (HeldAnswer (λ text. TextAnswer (answers text) text) held) (known held))) ⊥ old new r
long_program u answers known is sink old new r None more says = absurd more
long_program u answers known is sink old new r (Some text) more says =
    says_within sink pieces.IsLongAnswer _ old new r (record { to = by }) (λ none. none) says
  where
    by : (said : List ℕ) (ending : Status) → pieces.IsLongAnswer said ending → Reads u (Explains (TextAnswer (answers text) text) (known (Some text))) said ending
    by said ending a = rw (long_ends said ending a) (did (refused_shown (answers text) text (known (Some text)) (is text) (is_too_long more) said (long_shown said text more ending a)))

-- What is shown of the line at which a board is refused explains that.
pub board_shown : (source : Source) (request : PlayRequest) (board : List ℕ) (held : Option (List ℕ)) {line : ℕ} {reason : BoardReason} → IsFirstFault board line reason →
    (said : List ℕ) → Shows (boards.LineAnswer board line) said → Explains (PlayAnswer source request (Some board) held) (known_at source (Some board) held) said (Done (pos 0))
board_shown source request board held {line = line} {reason = reason} fault said shows = record {
  status = BoardRefused line reason;
  has = record { text = board_refusal_line line reason; answer = board_refused line reason fault };
  tells = record { told = shows; done = refl };
}

-- the same fault, by an equal number of its line
pub line_at : {text : List ℕ} {m n : ℕ} {reason : BoardReason} → m ≡ n → IsFirstFault text m reason → IsFirstFault text n reason
line_at {text = text} {reason = reason} e fault = subst (λ (k : ℕ). IsFirstFault text k reason) e fault

-- A text is too long to be a board.
long_board_shown : (said : List ℕ) (text : List ℕ) → most_bytes < length text → (status : Status) → boards.IsLongBoardAnswer said status → Shows (boards.LineAnswer text 0) said
long_board_shown said text more status a = record { status = status; answer = boards.long more a }

long_board_ends : (said : List ℕ) (status : Status) → boards.IsLongBoardAnswer said status → status ≡ Done (pos 0)
long_board_ends said status boards.too_long = refl

pub long_board : (u : List ℕ → Type 0) (source : Source) (request : PlayRequest) (held : Option (List ℕ)) {K : Type 0} (sink : SinkOf K) (old new : Lines K)
    (r : Result Status NoAnswer) (board : Option (List ℕ)) → IsSomeAnd board (λ text. most_bytes < length text) → Says sink boards.IsLongBoardAnswer ⊥ old new r →
    Says sink (Reads u (Explains (PlayAnswer source request board held) (known_at source board held))) ⊥ old new r
long_board u source request held sink old new r None more says = absurd more
long_board u source request held sink old new r (Some text) more says =
    says_within sink boards.IsLongBoardAnswer _ old new r (record { to = by }) (λ none. none) says
  where
    too_long : IsFirstFault text 0 board_reasons.TooLong
    too_long = inl (record { long = more; line_is = refl; reason_is = refl })

    by : (said : List ℕ) (ending : Status) → boards.IsLongBoardAnswer said ending →
        Reads u (Explains (PlayAnswer source request (Some text) held) (known_at source (Some text) held)) said ending
    by said ending a = rw (long_board_ends said ending a) (did (board_shown source request text held too_long said (long_board_shown said text more ending a)))

-- Which files were picked.

-- one file, or perhaps none
pub files_of_read : {S : Type 0} (shelf : ShelfOf S) (before after : S) (path : List ℕ) → PicksFront (shelf.picks before) (path ∷ []) (shelf.picks after) →
    shelf.told after ≡ shelf.told before → NoneFalls shelf.faults shelf.is_last before after → KeepsFiles shelf (NamesThis path) before after
files_of_read shelf before after path once keeps later = record { keeps = keeps; later = later; once = files_picked (Some path ∷ []) refl once }

-- the first of two, or perhaps none
pub files_of_first : {S : Type 0} (shelf : ShelfOf S) (before after : S) (first second : List ℕ) → PicksFront (shelf.picks before) (first ∷ []) (shelf.picks after) →
    shelf.told after ≡ shelf.told before → NoneFalls shelf.faults shelf.is_last before after → KeepsFiles shelf (NamesTwo first second) before after
files_of_first shelf before after first second once keeps later =
    let failed : Result (Unit {0}) (Unit {0}) = Err tt in
    record { keeps = keeps; later = later; once = files_picked (Some first ∷ Some second ∷ []) refl (picks_at_most (second ∷ []) failed once) }

-- those that others name
pub files_within : {S : Type 0} {shelf : ShelfOf S} {before after : S} {P Q : List (Option (List ℕ)) → Type 0} → ((named : List (Option (List ℕ))) → P named → Q named) →
    KeepsFiles shelf P before after → KeepsFiles shelf Q before after
files_within f kept = record { keeps = kept.keeps; later = kept.later; once = picks_within f kept.once }

-- no file
pub no_files : {S : Type 0} (shelf : ShelfOf S) (names : List (Option (List ℕ)) → Type 0) (at : S) → KeepsFiles shelf names at at
no_files shelf names at = record { keeps = refl; later = counts_start _ _; once = nothing_picked refl }

-- the first of two, and then perhaps the second
pub files_of_both : {S : Type 0} (shelf : ShelfOf S) (before mid after : S) (first second : List ℕ) → shelf.picks mid ≡ then_names (shelf.picks before) (first ∷ []) →
    shelf.told mid ≡ shelf.told before → NoneFalls shelf.faults shelf.is_last before mid → KeepsFiles shelf (NamesThis second) mid after →
    KeepsFiles shelf (NamesTwo first second) before after
files_of_both shelf before mid after first second once keeps later kept =
    let done : Result (Unit {0}) NoAnswer = Ok tt in
    let picked : KeepsShelf shelf (NamesThis second) (λ read. read ≡ second) mid after done =
    record { keeps = kept.keeps; later = kept.later; once = kept.once; read = λ failed. absurd cc } in
    let both : KeepsShelf shelf (NamesTwo first second) (λ read. Unit {0}) before after done =
    shelf_of_both tt once keeps later picked in
    record { keeps = both.keeps; later = both.later; once = both.once }
