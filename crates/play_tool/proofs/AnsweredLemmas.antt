-- Each request whose files are held has an answer, whatever they hold.
use Rattle.std.proofs.Common.{◌≡◌, ◌⊎◌, ◌&&◌, ◌≤◌, ◌<◌, ◌+◌, ◌*◌, ◌++◌, ℕ, pos, Bool, true, false, List, length, codes, All, Option, None, Some, if◌then◌else◌, refl, subst, inl, inr, arith, map}
use Rattle.std.specs.List.{find}
use Rattle.std.specs.Str.{bytes_eq}
use Rattle.stapl_lexer.specs.Pieces.{text_limit}
use Rattle.stapl_lexer.specs.declared.reason.Reason.{Reason}
use Rattle.stapl_syntax.specs.Trees.{StmtTree}
use Rattle.stapl_syntax.specs.Programs.{IsProgram, FirstFault}
use Rattle.stapl_meaning.specs.Choices.{Choice, no_action, bad_choice, chosen}
use Rattle.stapl_meaning.specs.Plays.{chain_reset}
use Rattle.stapl_meaning.specs.Scopes.{Played, as_played}
use Rattle.stapl_meaning.specs.Typed.{IsTyped}
use Rattle.stapl_code.specs.declared.raw.ProcDef.{ProcDef}
use Rattle.stapl_code.specs.declared.raw.ActionDef.{ActionDef}
use Rattle.stapl_code.specs.declared.raw.CodeLists.{CodeLists}
use Rattle.stapl_code.specs.Files.{file, most_bytes, IsFitting}
use Rattle.stapl_code.specs.Ranges.{IsInRange}
use Rattle.stapl_code.specs.Safe.{AllBelow, NeverStuck}
use Rattle.stapl_code.specs.Valid.{IsValid}
use Rattle.stapl_code.specs.declared.reason.CodeReason.{CodeReason}
use Rattle.code_files.specs.CodeFaults.{IsFileOf, IsCodeFault}
use Rattle.stapl_codegen.specs.Accepted.{IsAccepted}
use Rattle.stapl_codegen.specs.Generated.{lists_of, IsCodeOf}
use Rattle.machine_memory.specs.Zeros.{zeros_of_code}
use Rattle.stapl_player.specs.Choices.{are_offered, optional, recommended, running, choice_in, code_choice}
use Rattle.stapl_player.proofs.ChoiceLemmas.{found_below}
use Rattle.dev_card.specs.declared.desc.Desc.{Desc}
use Rattle.dev_card.specs.Card.{fresh}
use Rattle.dev_card.specs.FarEnds.{Told}
use Rattle.board_text.specs.declared.reason.BoardReason.{BoardReason}
use Rattle.board_text.specs.Boards.{IsBoard, IsFirstFault}
use Rattle.program_reports.specs.Checks.{IsCheckText}
use Rattle.program_reports.specs.Listings.{list_text}
use Rattle.named_files.specs.Texts.{refusal_line, board_refusal_line}
use Rattle.play_words.specs.declared.requests.PlayRequest.{PlayRequest}
use Rattle.play_words.specs.declared.requests.Request.{Request}
use Rattle.play_words.specs.declared.requests.Request.TheVariants as requests
use Rattle.play_words.specs.declared.status.Status.{Status}
use Rattle.play_words.specs.declared.status.Status.TheVariants as statuses
use Rattle.code_plays.specs.Plays.{done_with, has_place, asked_text, Plays, played, bad_place, code_play_on, PlaysCode, base_at}
use Rattle.code_plays.specs.Plays as answers
use Rattle.code_plays.specs.CodePlays.{HasEnding}
use Rattle.code_plays.proofs.CodeLemmas.{zeros_of_code_fit}
use Rattle.code_plays.proofs.PlayLemmas.{has_ending}
use Rattle.play_tool.specs.Texts.{code_refusal_line}
use Rattle.play_tool.specs.declared.sources.Source.TheVariants.{Program, Code}
use Rattle.play_tool.specs.declared.programs.Work.TheVariants.{Check, List as Lists, Compile}
use Rattle.play_tool.specs.Answers.{PlaysAction, Compiles, Works, TextAnswer, refused, accepted, CodeAnswer, code_refused, code_accepted, SourceAnswer, HeldAnswer, BoardAnswer, board_refused, board_read, PlayAnswer, soak_request, soak_head, RequestAnswer}
use Rattle.play_tool.specs.Held.{IsHeld, AreHeld}
use Rattle.play_tool.proofs.AnswerLemmas.{held_of_bytes}
use Rattle.play_tool.proofs.ProgramLemmas.{code_to_program, compiled_file}

-- some text and status is an answer
abbrev pub HasAnswer : (List ℕ → Status → Type 0) → Type 0
HasAnswer A = (text : List ℕ) × (status : Status) × A text status

-- The procedures that are chosen are those of the code.
chosen_below : (procedures : List ProcDef) (asked skipped : List (List ℕ)) (n : ℕ) (found : Option ActionDef) (chosen_now : List ℕ) →
    ((action : ActionDef) → found ≡ Some action → AllBelow n (running procedures asked skipped action.items)) →
    choice_in procedures found asked skipped ≡ chosen chosen_now → AllBelow n chosen_now
chosen_below procedures asked skipped n None chosen_now below e = absurd cc
chosen_below procedures asked skipped n (Some action) chosen_now below e =
    by (are_offered procedures optional action.items asked && are_offered procedures recommended action.items skipped) e
  where
    by : (b : Bool) → (if b then chosen (running procedures asked skipped action.items) else bad_choice) ≡ chosen chosen_now → AllBelow n chosen_now
    by true f = let same : running procedures asked skipped action.items ≡ chosen_now = cc in subst (AllBelow n) same (below action refl)
    by false f = absurd cc

-- the play of a valid code in range
module _ (never : NeverStuck) (code : CodeLists) (ranges : IsInRange code) (valid : IsValid code) (request : PlayRequest) (devices : List Desc) where
  -- the play of the procedures that are chosen ends, or its turns are spent
  pub comes_to_an_end : (procedures : List ℕ) → code_choice code request.action request.todo request.skip ≡ chosen procedures → HasEnding (code_play_on code request devices procedures)
  comes_to_an_end procedures e =
      has_ending (code_play_on code request devices procedures)
      (never code ranges valid procedures
      (chosen_below code.procedures request.todo request.skip (length code.procedures) (find (λ (a : ActionDef). bytes_eq request.action a.name) code.actions) procedures
      (λ found is. found_below (λ (a : ActionDef). bytes_eq request.action a.name) code.procedures request.todo request.skip (length code.procedures) code.actions found ranges.actions.each is) e)
      (zeros_of_code code) (zeros_of_code_fit code ranges) request.turns (chain_reset (base_at devices request.place) (Told (map fresh devices))) refl)

  play_answered : (choice : Choice) (placed : Bool) → ((procedures : List ℕ) → choice ≡ chosen procedures → HasEnding (code_play_on code request devices procedures)) →
      HasAnswer (Plays choice placed (code_play_on code request devices) request)
  play_answered no_action placed ends = (codes "R action\n", statuses.NoAction, answers.no_action refl)
  play_answered bad_choice placed ends = (codes "R choice\n", statuses.BadChoice, answers.bad_choice refl)
  play_answered (chosen procedures) false ends = (codes "R place\n", statuses.BadPlace, bad_place procedures refl refl)
  play_answered (chosen procedures) true ends =
      let h = ends procedures refl in
      let run = code_play_on code request devices procedures in
      (asked_text request run.events run.chain.far h.ending, done_with h.ending, played procedures h.ending refl refl h.comes)

  pub code_answered : HasAnswer (PlaysCode code request devices)
  code_answered = play_answered (code_choice code request.action request.todo request.skip) (has_place request.place devices) comes_to_an_end

-- what is known of boards, programs and their codes
pub record Known : Type 0 where
  pub boards : (text : List ℕ) → ((devices : List Desc) × IsBoard text devices) ⊎ ((line : ℕ) × (reason : BoardReason) × IsFirstFault text line reason)
  pub programs : (text : List ℕ) → ((statements : List StmtTree) × IsProgram text statements) ⊎ ((piece : ℕ) × (line : ℕ) × (reason : Reason) × FirstFault text piece line reason)
  pub files : (bytes : List ℕ) → All (λ b. b < 256) bytes → ((code : CodeLists) × IsFileOf bytes code) ⊎ ((offset : ℕ) × ((reason : CodeReason) × IsCodeFault bytes offset reason))
  pub checks : (text : List ℕ) (program : List StmtTree) → IsProgram text program → (check : List ℕ) × IsCheckText text program check
  pub typed : (text : List ℕ) (program : List StmtTree) → IsProgram text program → IsTyped (as_played program)
  pub taken : (text : List ℕ) (program : List StmtTree) → IsProgram text program → IsAccepted (as_played program)
  pub in_range : (program : Played) → IsAccepted program → IsInRange (lists_of program)
  pub valid : (program : Played) → IsAccepted program → IsValid (lists_of program)
  pub code : (program : Played) → IsAccepted program → IsCodeOf program (lists_of program)
  pub short : (text : List ℕ) (program : List StmtTree) → IsProgram text program → length (file (lists_of (as_played program))) ≤ 64 * length text + 64
  pub fits : (text : List ℕ) (program : List StmtTree) → IsProgram text program → IsFitting (lists_of (as_played program))
  pub never : NeverStuck

-- the text of a program is not too long, and so neither is the file of its code
short_file : (text : List ℕ) (program : List StmtTree) → IsProgram text program → length (file (lists_of (as_played program))) ≤ 64 * length text + 64 →
    length (file (lists_of (as_played program))) ≤ most_bytes
short_file text program is few = let small : length text ≤ text_limit = is.short in omega (arith, few, small)

module _ (known : Known) where
  program_answered : (request : PlayRequest) (devices : List Desc) (bytes : List ℕ) (program : List StmtTree) → IsProgram bytes program → HasAnswer (PlaysAction request devices program)
  program_answered request devices bytes program is =
      let took = known.taken bytes program is in
      let code = lists_of (as_played program) in
      let c = code_answered known.never code (known.in_range (as_played program) took) (known.valid (as_played program) took) request devices in
      (c.0, c.1, (code_to_program program code request devices (known.typed bytes program is) (known.code (as_played program) took)).to c.0 c.1 c.2)

  compile_answered : (bytes : List ℕ) (program : List StmtTree) → IsProgram bytes program → HasAnswer (Compiles program)
  compile_answered bytes program is =
      let code = lists_of (as_played program) in
      let took = known.taken bytes program is in (
        file code,
        statuses.Done (pos 0),
        compiled_file (known.code (as_played program) took) (record {
          file = refl;
          has = record {
            in_range = known.in_range (as_played program) took;
            fitting = known.fits bytes program is;
            short = record { most = short_file bytes program is (known.short bytes program is) };
          };
          valid = known.valid (as_played program) took;
        }),
      )

  text_answered : (answers : List StmtTree → List ℕ → Status → Type 0) (bytes : List ℕ) → ((program : List StmtTree) → IsProgram bytes program → HasAnswer (answers program)) →
      HasAnswer (TextAnswer answers bytes)
  text_answered answers bytes answered = by (known.programs bytes)
    where
      by : ((statements : List StmtTree) × IsProgram bytes statements) ⊎ ((piece : ℕ) × (line : ℕ) × (reason : Reason) × FirstFault bytes piece line reason) →
          HasAnswer (TextAnswer answers bytes)
      by (inl (program, is)) = let a = answered program is in (a.0, a.1, accepted program a.0 a.1 is a.2)
      by (inr (piece, line, reason, fault)) = (refusal_line piece line reason, statuses.Refused piece reason, refused piece line reason fault)

  file_answered : (request : PlayRequest) (devices : List Desc) (bytes : List ℕ) → All (λ b. b < 256) bytes → HasAnswer (CodeAnswer request devices bytes)
  file_answered request devices bytes are = by (known.files bytes are)
    where
      by : ((code : CodeLists) × IsFileOf bytes code) ⊎ ((offset : ℕ) × ((reason : CodeReason) × IsCodeFault bytes offset reason)) → HasAnswer (CodeAnswer request devices bytes)
      by (inl (code, is)) = let c = code_answered known.never code is.has.in_range is.valid request devices in (c.0, c.1, code_accepted code c.0 c.1 is c.2)
      by (inr (offset, (reason, fault))) = (code_refusal_line offset reason, statuses.CodeRefused offset reason, code_refused offset reason fault)

  -- the same of a file that is held
  held_answered : (answers : List ℕ → List ℕ → Status → Type 0) (held : Option (List ℕ)) (is : IsHeld held) → HasAnswer (answers is.bytes) → HasAnswer (HeldAnswer answers held)
  held_answered answers held is a = (a.0, a.1, (held_of_bytes answers held is.bytes is.there).to a.0 a.1 a.2)

  -- and of a board that is held
  board_answered : (answers : List Desc → List ℕ → Status → Type 0) (held : Option (List ℕ)) (is : IsHeld held) → ((devices : List Desc) → HasAnswer (answers devices)) →
      HasAnswer (BoardAnswer held answers)
  board_answered answers held is answered = by (known.boards is.bytes)
    where
      by : ((devices : List Desc) × IsBoard is.bytes devices) ⊎ ((line : ℕ) × (reason : BoardReason) × IsFirstFault is.bytes line reason) → HasAnswer (BoardAnswer held answers)
      by (inl (devices, board)) = let a = answered devices in (a.0, a.1, board_read devices a.0 a.1 (rw is.there board) a.2)
      by (inr (line, reason, fault)) = (board_refusal_line line reason, statuses.BoardRefused line reason, board_refused line reason (rw is.there fault))

  play_answer : (request : PlayRequest) (board held : Option (List ℕ)) → IsHeld board → IsHeld held → HasAnswer (PlayAnswer Program request board held)
  play_answer request board held on is =
      board_answered _ board on (λ devices. held_answered (SourceAnswer Program request devices) held is
      (text_answered (PlaysAction request devices) is.bytes (λ program p. program_answered request devices is.bytes program p)))

  run_answer : (request : PlayRequest) (board held : Option (List ℕ)) → IsHeld board → (is : IsHeld held) → All (λ b. b < 256) is.bytes → HasAnswer (PlayAnswer Code request board held)
  run_answer request board held on is are =
      board_answered _ board on (λ devices. held_answered (SourceAnswer Code request devices) held is (file_answered request devices is.bytes are))

  pub request_answered : (request : Request) (contents : List (Option (List ℕ))) → AreHeld request contents → HasAnswer (RequestAnswer request contents)
  request_answered (requests.Play play) contents held = play_answer play.request _ _ held.board held.source
  request_answered (requests.Run play) contents held = run_answer play.request _ _ held.board held.source held.are_bytes
  request_answered (requests.Check path) contents held =
      held_answered (λ bytes. TextAnswer (Works Check bytes) bytes) _ held
      (text_answered (Works Check held.bytes) held.bytes (λ program is. let c = known.checks held.bytes program is in (c.0, statuses.Done (pos 0), record { said = c.1; done = refl })))
  request_answered (requests.List path) contents held =
      held_answered (λ bytes. TextAnswer (Works Lists bytes) bytes) _ held
      (text_answered (Works Lists held.bytes) held.bytes (λ program is. (list_text program, statuses.Done (pos 0), record { said = refl; done = refl })))
  request_answered (requests.Compile path) contents held =
      held_answered (λ bytes. TextAnswer (Works Compile bytes) bytes) _ held
      (text_answered (Works Compile held.bytes) held.bytes (compile_answered held.bytes))
  request_answered (requests.Soak seed) contents held =
      let a = play_answer (soak_request seed) _ _ (record { bytes = _; there = refl }) (record { bytes = _; there = refl }) in
      (soak_head seed ++ a.0, a.1, record { rest = a.0; text_is = refl; play = a.2 })
