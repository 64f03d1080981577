-- What the rack holds after a play. The rules are this tool's own.
use Rattle.std.specs.Prelude.{◌≡◌, ℕ, List, Option, Some, Result, Ok, Err, IsErrOf, IsSomeAnd, true}
use Rattle.stapl_syntax.specs.Trees.{StmtTree}
use Rattle.stapl_syntax.specs.Programs.{IsProgram}
use Rattle.stapl_meaning.specs.Choices.{choice_of, chosen}
use Rattle.stapl_meaning.specs.Scopes.{as_played}
use Rattle.dev_card.specs.declared.desc.Desc.{Desc}
use Rattle.dev_card.specs.Sound.{SoundCard}
use Rattle.stapl_code.specs.declared.raw.CodeLists.{CodeLists}
use Rattle.code_files.specs.CodeFaults.{IsFileOf}
use Rattle.chain_sim.specs.Rack.{places_of}
use Rattle.tool_frame.specs.declared.no_answer.NoAnswer.{NoAnswer}
use Rattle.tool_frame.specs.declared.no_answer.NoAnswer.TheVariants.{Read, Write}
use Rattle.tool_frame.specs.Files.{first_of, second_of}
use Rattle.named_files.specs.Boards.{HasBoard}
use Rattle.soak_texts.specs.Boards.{soak_board}
use Rattle.soak_texts.specs.Soak.{soak_program}
use Rattle.play_words.specs.declared.requests.PlayRequest.{PlayRequest}
use Rattle.play_words.specs.declared.requests.Request.{Request}
use Rattle.play_words.specs.declared.requests.Request.TheVariants as requests
use Rattle.play_words.specs.Words.{plays, IsRequest}
use Rattle.play_words.specs.declared.status.Status.{Status}
use Rattle.code_plays.specs.Racks.{AreLeft, CodeHoldsFinal, KeepsRack}
use Rattle.play_tool.specs.declared.sources.Source.{Source}
use Rattle.play_tool.specs.declared.sources.Source.TheVariants.{Program, Code}
use Rattle.play_tool.specs.Answers.{play_on, soak_request}

-- The devices of a board, at their places in the rack, are as the play leaves them that a request asks for.
pub record HoldsFinal (request : PlayRequest) (devices : List Desc) (program : List StmtTree) (rack : List (Option SoundCard)) : Type 0 where
  pub procedures : List ℕ
  pub choice : choice_of (as_played program) request.action request.todo request.skip ≡ chosen procedures
  pub left : AreLeft rack (places_of devices) devices (play_on (as_played program) request devices procedures).chain.far

-- the same of a text that is a program
pub record TextHoldsFinal (request : PlayRequest) (devices : List Desc) (bytes : List ℕ) (rack : List (Option SoundCard)) : Type 0 where
  pub program : List StmtTree
  pub is : IsProgram bytes program
  pub final : HoldsFinal request devices program rack

-- the same of bytes that are the file of a code
pub record FileOfCodeHoldsFinal (request : PlayRequest) (devices : List Desc) (bytes : List ℕ) (rack : List (Option SoundCard)) : Type 0 where
  pub code : CodeLists
  pub is : IsFileOf bytes code
  pub final : CodeHoldsFinal code request devices rack

-- the same of what is read after the board
abbrev pub SourceHoldsFinal : Source → PlayRequest → List Desc → List ℕ → List (Option SoundCard) → Type 0
SourceHoldsFinal Program request devices = TextHoldsFinal request devices
SourceHoldsFinal Code request devices = FileOfCodeHoldsFinal request devices

-- the same of a file, where it is held
abbrev pub HeldFinal : (List ℕ → List (Option SoundCard) → Type 0) → Option (List ℕ) → List (Option SoundCard) → Type 0
HeldFinal final held rack = IsSomeAnd held (λ bytes. final bytes rack)

-- the same of a play, by the contents of the file of its board and of the file of what is played
pub record PlayHoldsFinal (source : Source) (request : PlayRequest) (board held : Option (List ℕ)) (rack : List (Option SoundCard)) : Type 0 where
  pub devices : List Desc
  pub is_board : HasBoard board devices
  pub final : HeldFinal (SourceHoldsFinal source request devices) held rack

-- the same of the play of a soak, on the board that is made from its number
abbrev pub SoakHoldsFinal : ℕ → List (Option SoundCard) → Type 0
SoakHoldsFinal seed = PlayHoldsFinal Program (soak_request seed) (Some (soak_board seed)) (Some (soak_program seed))

-- the same of a request, with these contents of its files
abbrev pub RequestHoldsFinal : Request → List (Option (List ℕ)) → List (Option SoundCard) → Type 0
RequestHoldsFinal (requests.Play play) contents = PlayHoldsFinal Program play.request (first_of contents) (second_of contents)
RequestHoldsFinal (requests.Run play) contents = PlayHoldsFinal Code play.request (first_of contents) (second_of contents)
RequestHoldsFinal (requests.Check path) contents = λ rack. ⊥
RequestHoldsFinal (requests.List path) contents = λ rack. ⊥
RequestHoldsFinal (requests.Compile path) contents = λ rack. ⊥
RequestHoldsFinal (requests.Soak seed) contents = SoakHoldsFinal seed

-- The same of words: the rack holds the board that the play leaves which they ask for.
pub record WordsHoldFinal (words : List (List ℕ)) (contents : List (Option (List ℕ))) (rack : List (Option SoundCard)) : Type 0 where
  pub request : Request
  pub asked : IsRequest words request
  pub final : RequestHoldsFinal request contents rack

-- the request asks for a play
abbrev pub IsPlaying : Request → Type 0
IsPlaying request = plays request ≡ true

-- the words ask for a play
pub record AskForPlay (words : List (List ℕ)) : Type 0 where
  pub request : Request
  pub asked : IsRequest words request
  pub playing : IsPlaying request

-- What a call that answers leaves of the rack, and after a read fault it is as it was.
pub record LeavesRack {D Kind : Type 0} (kind_of : D → Kind) (fitted : D → Option SoundCard) (playing : Type 0) (final : List (Option SoundCard) → Type 0)
    (before after : List D) (result : Result Status NoAnswer) : Type 0 where
  pub rack : KeepsRack kind_of fitted playing final before after result
  pub unread : IsErrOf result Read → after ≡ before

-- a write fault after an answer
pub left_at_write_fault : {D Kind : Type 0} {kind_of : D → Kind} {fitted : D → Option SoundCard} {playing : Type 0} {final : List (Option SoundCard) → Type 0}
    {before after : List D} {status : Status} → LeavesRack kind_of fitted playing final before after (Ok status) →
    LeavesRack kind_of fitted playing final before after (Err Write)
left_at_write_fault left = record {
  rack = record { kinds = left.rack.kinds; early = tt; leaves = λ p. tt; other = left.rack.other };
  unread = λ e. absurd cc;
}
