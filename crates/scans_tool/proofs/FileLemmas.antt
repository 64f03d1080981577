-- On the files of a play: what was read of them, and what is kept of their store.
use Rattle.std.proofs.Common.{◌∙◌, ◌⊎◌, inl, inr, ℕ, List, [], Option, ap}
use Rattle.std.specs.Prelude.{Result}
use Rattle.tool_io.specs.declared.outside.Shelf.{Ghosts as ShelfOf}
use Rattle.tool_frame.specs.declared.no_answer.NoAnswer.{NoAnswer}
use Rattle.tool_frame.specs.Files.{OfFiles, KeepsShelf}
use Rattle.tool_frame.proofs.FileLemmas.{shelf_within}
use Rattle.play_words.specs.declared.requests.FilePlay.{FilePlay}
use Rattle.play_words.specs.Words.{play_files}
use Rattle.play_tool.specs.ReadContents.{ArePlayFiles, IsPlayFile}
use Rattle.play_tool.proofs.RequestLemmas.{of_any_files}
use Rattle.scans_tool.specs.Words.{AskFor, HasUsage, NamesFiles, IsReachedBy}
use Rattle.scans_tool.proofs.WordLemmas.{one_asked, not_both, asked_or_refused}

-- The words ask for this play.
pub of_play : (told : Option (List (List ℕ × List ℕ))) {words : List (List ℕ)} (play : FilePlay) {P Q : List (Option (List ℕ)) → Type 0} → AskFor words play →
    OfFiles (ArePlayFiles play) told P → ((contents : List (Option (List ℕ))) → P contents → Q contents) → OfFiles (NamesFiles words) told Q
of_play told {words = words} play asks o f = record {
  contents = o.contents;
  read = λ named n. o.read named (n.are ∙ ap play_files (one_asked words n.play play n.asked asks));
  holds = f o.contents o.holds;
}

-- words that are refused
pub of_refused : (told : Option (List (List ℕ × List ℕ))) (words : List (List ℕ)) (n : ℕ) {Q : List (Option (List ℕ)) → Type 0} → HasUsage words n →
    ((contents : List (Option (List ℕ))) → Q contents) → OfFiles (NamesFiles words) told Q
of_refused told words n refused f =
    record { contents = []; read = λ named m. absurd (not_both words n m.play refused m.asked); holds = f [] }

-- what stands of all contents, whatever the words are
pub of_all_words : (told : Option (List (List ℕ × List ℕ))) (words : List (List ℕ)) {Q : List (Option (List ℕ)) → Type 0} → ((contents : List (Option (List ℕ))) → Q contents) →
    OfFiles (NamesFiles words) told Q
of_all_words told words {Q = Q} f = by (asked_or_refused words)
  where
    by : ((play : FilePlay) × AskFor words play) ⊎ ((n : ℕ) × HasUsage words n) → OfFiles (NamesFiles words) told Q
    by (inl asks) = of_play told asks.0 asks.1 (of_any_files told (play_files asks.0) f) (λ contents q. q)
    by (inr unread) = of_refused told words unread.0 unread.1 f

-- the files of the play are those of the words
pub shelf_of_words : {S T : Type 0} {shelf : ShelfOf S} {before after : S} {q : Result T NoAnswer} {told : Option (List (List ℕ × List ℕ))} {words : List (List ℕ)}
    (play : FilePlay) → AskFor words play → KeepsShelf shelf (ArePlayFiles play) (IsPlayFile told play) before after q →
    KeepsShelf shelf (NamesFiles words) (IsReachedBy told words) before after q
shelf_of_words play asks kept =
    shelf_within (λ named are. record { play = play; asked = asks; are = are }) (λ path reached. record { play = play; asked = asks; reached = reached }) kept
