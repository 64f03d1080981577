-- What is answered to the bytes of a link in a file.
use Rattle.std.proofs.Common.{◌≡◌, ◌∙◌, ℕ, List, [], map, Option, None, Some, Result, Ok, Err, IfSome, refl, sym, ap, subst}
use Rattle.std.specs.Prelude.{IsErrAnd}
use Rattle.tool_io.specs.Files.{file_of}
use Rattle.tool_io.specs.Bytes.{then_bytes, MovesFront}
use Rattle.tool_io.specs.declared.outside.Shelf.{Ghosts as ShelfOf}
use Rattle.tool_io.proofs.BytesLemmas.{then_bytes-nothing}
use Rattle.dev_card.specs.declared.desc.Desc.{Desc}
use Rattle.dev_card.specs.Card.{Card}
use Rattle.dev_card.specs.Sound.{SoundCard}
use Rattle.chain_sim.specs.Places.{cards_at}
use Rattle.chain_sim.specs.Rack.{places_of}
use Rattle.tool_frame.specs.declared.no_answer.NoAnswer.{NoAnswer}
use Rattle.tool_frame.specs.declared.no_answer.NoAnswer.TheVariants.{Read, Write, Memory}
use Rattle.tool_frame.specs.Files.{OfFile}
use Rattle.named_files.proofs.BoardLemmas.{of_any_file, of_whole_file}
use Rattle.link_tool.specs.declared.status.LinkStatus.{LinkStatus}
use Rattle.link_tool.specs.Sessions.{session_answers, IsReadUpTo}
use Rattle.link_tool.specs.Pieces.{IsSession, HasServed}
use Rattle.link_tool.specs.Answers.{new_board, FileAnswer, FileDue, not_opened, up_to}
use Rattle.link_tool.specs.FinalRacks.{HoldsLeft, HeldLeft, KeepsRack}
use Rattle.link_tool.specs.Written.{WroteDue, HasAnswered, Answers}
use Rattle.link_tool.proofs.EndLemmas.{some_end, end_is_late}

-- no answer: what is left of the rack
pub rack_kept : {D Kind : Type 0} {kind_of : D → Kind} {fitted : D → Option SoundCard} {final : List (Option SoundCard) → Type 0} {before after : List D} (e : NoAnswer) →
    map kind_of after ≡ map kind_of before → KeepsRack kind_of fitted final before after (Err e)
rack_kept e kinds = record { kinds = kinds; early = tt; leaves = tt }

-- nothing is written before the session
pub nothing_due : {due : List ℕ → Type 0} (told : Option (List ℕ)) → due [] → WroteDue due told told
nothing_due told is = record { text = []; is_due = is; written = sym (then_bytes-nothing told) }

module _ {D Kind S : Type 0} (kind_of : D → Kind) (fitted : D → Option SoundCard) (devices : List Desc) (shelf : ShelfOf S) (files_now : S) where
  abbrev pub FileSays : Option (List (List ℕ × List ℕ)) → List ℕ → Option (List ℕ) → Option (List ℕ) → List D → List D → Result LinkStatus NoAnswer → Type 0
  FileSays told path before after olds news r = OfFile told (Some path) (λ held.
      Answers kind_of fitted (FileAnswer devices held) (FileDue shelf files_now devices held) (HeldLeft devices held) before after olds news r)

  -- there was no memory
  pub no_room : (told : Option (List (List ℕ × List ℕ))) (path : List ℕ) (before : Option (List ℕ)) (olds news : List D) (r : Result LinkStatus NoAnswer) →
      IsErrAnd r (λ e. e ≡ Memory) → map kind_of news ≡ map kind_of olds → FileSays told path before before olds news r
  no_room told path before olds news (Ok status) is kinds = absurd is
  no_room told path before olds news (Err e) is kinds = rw is (of_any_file told (Some path) (λ held. record { written = refl; rack = rack_kept Memory kinds }))

  -- the file was not picked
  pub not_picked : ((name : List ℕ) → shelf.reads files_now name → ⊥) → (told : Option (List (List ℕ × List ℕ))) (path : List ℕ) (before : Option (List ℕ)) (olds news : List D) → map kind_of news ≡ map kind_of olds →
      FileSays told path before before olds news (Err Read)
  not_picked none told path before olds news kinds = of_any_file told (Some path) (λ held. record {
    written = nothing_due before (not_opened none refl);
    rack = rack_kept Read kinds;
  })

  -- what a session comes to
  session_written : (told : Option (List (List ℕ × List ℕ))) → shelf.told files_now ≡ told → (bytes : List ℕ) (before after : Option (List ℕ)) (now : Option (List Card)) (r : Result LinkStatus NoAnswer) →
      IsSession told (shelf.left files_now) (new_board devices) bytes (λ text. after ≡ then_bytes before text) (λ text. MovesFront before text after) now r →
      HasAnswered (FileAnswer devices (Some bytes)) (FileDue shelf files_now devices (Some bytes)) before after r
  session_written told keeps bytes before after now (Ok status) s =
      record { text = session_answers (new_board devices) bytes; answer = record { text_is = refl; ends = s.ends }; written = s.wrote }
  session_written told keeps bytes before after now (Err Read) s = record {
    text = _;
    is_due = up_to bytes s.front refl (subst (λ (o : Option (List (List ℕ × List ℕ))). IsReadUpTo o (shelf.left files_now) bytes s.front) (sym keeps) s.read) refl;
    written = s.wrote;
  }
  session_written told keeps bytes before after now (Err Write) s =
      let end = some_end bytes in
      record { text = session_answers (new_board devices) bytes; status = end.0; answer = record { text_is = refl; ends = end.1 }; front = s }
  session_written told keeps bytes before after now (Err Memory) s = absurd s

  session_rack : (told : Option (List (List ℕ × List ℕ))) (bytes : List ℕ) (before after : Option (List ℕ)) (olds news : List D) (r : Result LinkStatus NoAnswer) → map kind_of news ≡ map kind_of olds →
      IsSession told (shelf.left files_now) (new_board devices) bytes (λ text. after ≡ then_bytes before text) (λ text. MovesFront before text after) (cards_at (map fitted news) (places_of devices)) r → KeepsRack kind_of fitted (HoldsLeft devices bytes) olds news r
  session_rack told bytes before after olds news (Ok status) kinds s = record { kinds = kinds; early = λ p. absurd (end_is_late s.ends p); leaves = λ p. s.leaves }
  session_rack told bytes before after olds news (Err e) kinds s = rack_kept e kinds

  pub of_session : (told : Option (List (List ℕ × List ℕ))) → shelf.told files_now ≡ told → (left path : List ℕ) (before after : Option (List ℕ)) (olds news : List D) (r : Result LinkStatus NoAnswer) →
      map kind_of news ≡ map kind_of olds → IfSome told (λ files. file_of files path ≡ Some left) →
      HasServed told left (shelf.left files_now) (new_board devices) (λ text. after ≡ then_bytes before text) (λ text. MovesFront before text after) (cards_at (map fitted news) (places_of devices)) r → FileSays told path before after olds news r
  of_session told keeps left path before after olds news r kinds starts h = of_whole_file told path h.bytes (by told starts h.read) (record {
    written = session_written told keeps h.bytes before after (cards_at (map fitted news) (places_of devices)) r h.does;
    rack = session_rack told h.bytes before after olds news r kinds h.does;
  })
    where
      by : (told : Option (List (List ℕ × List ℕ))) → IfSome told (λ files. file_of files path ≡ Some left) → IfSome told (λ files. left ≡ h.bytes) →
          IfSome told (λ files. file_of files path ≡ Some h.bytes)
      by None s e = tt
      by (Some files) s e = s ∙ ap (λ xs. Some xs) e
