-- What the rack holds after a play, where the board, the program and the chosen procedures are known.
use Rattle.std.proofs.Common.{◌≡◌, ℕ, List, Option, Some, subst}
use Rattle.stapl_syntax.specs.Trees.{StmtTree}
use Rattle.stapl_syntax.specs.Programs.{IsProgram}
use Rattle.stapl_checker.proofs.UniqueLemmas.{one_program}
use Rattle.stapl_meaning.specs.Choices.{choice_of, chosen}
use Rattle.stapl_meaning.specs.Scopes.{as_played}
use Rattle.stapl_code.specs.declared.raw.CodeLists.{CodeLists}
use Rattle.code_files.specs.CodeFaults.{IsFileOf}
use Rattle.stapl_player.specs.Choices.{code_choice}
use Rattle.dev_card.specs.declared.desc.Desc.{Desc}
use Rattle.dev_card.specs.Sound.{SoundCard}
use Rattle.chain_sim.specs.Rack.{places_of}
use Rattle.named_files.specs.Boards.{HasBoard}
use Rattle.named_files.proofs.BoardLemmas.{one_held}
use Rattle.play_words.specs.declared.requests.PlayRequest.{PlayRequest}
use Rattle.play_words.specs.declared.requests.Request.{Request}
use Rattle.play_words.specs.Words.{IsRequest}
use Rattle.play_words.proofs.OneRequest.{one_request}
use Rattle.code_plays.specs.Plays.{code_play_on}
use Rattle.code_plays.specs.Racks.{AreLeft, CodeHoldsFinal}
use Rattle.play_tool.specs.declared.sources.Source.{Source}
use Rattle.play_tool.specs.declared.sources.Source.TheVariants.{Program}
use Rattle.play_tool.specs.Answers.{play_on}
use Rattle.play_tool.specs.FinalRacks.{HoldsFinal, TextHoldsFinal, FileOfCodeHoldsFinal, SourceHoldsFinal, HeldFinal, PlayHoldsFinal, RequestHoldsFinal, WordsHoldFinal}
use Rattle.play_tool.proofs.CodeLemmas.{same_code}
use Rattle.play_tool.proofs.OneChoice.{one_choice}

module _ {rack : List (Option SoundCard)} where
  pub final_of_words : {words : List (List ℕ)} {contents : List (Option (List ℕ))} {request : Request} → IsRequest words request → WordsHoldFinal words contents rack →
      RequestHoldsFinal request contents rack
  final_of_words {contents = contents} asks w = subst (λ (r : Request). RequestHoldsFinal r contents rack) (one_request w.asked asks) w.final

  pub final_of_board : {source : Source} {request : PlayRequest} {board held : Option (List ℕ)} (devices : List Desc) → HasBoard board devices →
      PlayHoldsFinal source request board held rack → HeldFinal (SourceHoldsFinal source request devices) held rack
  final_of_board {source = source} {request = request} {board = board} {held = held} devices is p =
      subst (λ (ds : List Desc). HeldFinal (SourceHoldsFinal source request ds) held rack) (one_held board p.devices devices p.is_board is) p.final

  pub final_of_bytes : {request : PlayRequest} {devices : List Desc} {held : Option (List ℕ)} (bytes : List ℕ) → held ≡ Some bytes →
      HeldFinal (SourceHoldsFinal Program request devices) held rack → TextHoldsFinal request devices bytes rack
  final_of_bytes {request = request} {devices = devices} bytes e h = subst (λ (o : Option (List ℕ)). HeldFinal (SourceHoldsFinal Program request devices) o rack) e h

  pub final_of_program : {request : PlayRequest} {devices : List Desc} {bytes : List ℕ} (program : List StmtTree) → IsProgram bytes program →
      TextHoldsFinal request devices bytes rack → HoldsFinal request devices program rack
  final_of_program {request = request} {devices = devices} {bytes = bytes} program is t =
      subst (λ (p : List StmtTree). HoldsFinal request devices p rack) (one_program bytes t.program program t.is is) t.final

  pub left_of_chosen : {request : PlayRequest} {devices : List Desc} {program : List StmtTree} (procedures : List ℕ) →
      choice_of (as_played program) request.action request.todo request.skip ≡ chosen procedures → HoldsFinal request devices program rack →
      AreLeft rack (places_of devices) devices (play_on (as_played program) request devices procedures).chain.far
  left_of_chosen {request = request} {devices = devices} {program = program} procedures e h =
      subst (λ (ps : List ℕ). AreLeft rack (places_of devices) devices (play_on (as_played program) request devices ps).chain.far) (one_choice h.choice e) h.left

  -- the same of a code
  pub final_of_code : {request : PlayRequest} {devices : List Desc} {bytes : List ℕ} (code : CodeLists) → IsFileOf bytes code →
      FileOfCodeHoldsFinal request devices bytes rack → CodeHoldsFinal code request devices rack
  final_of_code {request = request} {devices = devices} {bytes = bytes} code is h =
      subst (λ (c : CodeLists). CodeHoldsFinal c request devices rack) (same_code bytes h.code code h.is is) h.final

  pub left_of_code : {request : PlayRequest} {devices : List Desc} {code : CodeLists} (procedures : List ℕ) →
      code_choice code request.action request.todo request.skip ≡ chosen procedures → CodeHoldsFinal code request devices rack →
      AreLeft rack (places_of devices) devices (code_play_on code request devices procedures).chain.far
  left_of_code {request = request} {devices = devices} {code = code} procedures e h =
      subst (λ (ps : List ℕ). AreLeft rack (places_of devices) devices (code_play_on code request devices ps).chain.far) (one_choice h.choice e) h.left
