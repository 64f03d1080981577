-- The account of a play, in terms of its code. The rules are this profile's.
use Rattle.std.specs.Prelude.{◌≡◌, ◌≤◌, ◌<◌, ◌^◌, ◌⊎◌, ◌+◌, ℕ, Bool, true, false, List, [], ◌++◌, length, map, Option, Some, Result, Ok, Err}
use Rattle.tap_states.specs.declared.Tap.TheVariants.{Reset}
use Rattle.tool_io.specs.declared.lines.Lines.{Lines}
use Rattle.tool_io.specs.declared.outside.Failed.{Failed}
use Rattle.tool_io.specs.declared.outside.Sink.{Ghosts as SinkOf}
use Rattle.tool_io.specs.Lines.{Puts, PutsFront}
use Rattle.tool_frame.specs.Answers.{Said, SaidFront}
use Rattle.dev_card.specs.declared.desc.Desc.{Desc}
use Rattle.dev_card.specs.Card.{Card, fresh}
use Rattle.dev_card.specs.Board.{board_after}
use Rattle.dev_card.specs.FarEnds.{Told}
use Rattle.dev_card.specs.Padding.{BaseLengths}
use Rattle.stapl_lexer.specs.declared.piece.Piece.{Piece}
use Rattle.stapl_lexer.specs.Pieces.{IsCut}
use Rattle.stapl_syntax.specs.Trees.{StmtTree}
use Rattle.stapl_meaning.specs.declared.events.Ending.{Ending}
use Rattle.stapl_meaning.specs.Deeds.{Chain}
use Rattle.stapl_meaning.specs.Plays.{Run, ending_of, reset_inputs, chain_reset}
use Rattle.stapl_meaning.specs.Scopes.{as_played}
use Rattle.stapl_meaning.specs.Texts.{events_text, ending_line}
use Rattle.stapl_code.specs.declared.raw.CodeLists.{CodeLists}
use Rattle.stapl_codegen.specs.Generated.{IsCodeOf}
use Rattle.stapl_machine.specs.Machines.{play_of}
use Rattle.scan_accounts.specs.MadeTurns.{MadeTurn, made_play, clocks_among, usec_among}
use Rattle.scan_accounts.specs.Accounts.{Account, passages, scans_among}
use Rattle.scan_accounts.specs.AccountTexts.{account_line, turn_lines}
use Rattle.scan_accounts.specs.Rooms.{turn_bits, turn_runs}
use Rattle.account_lines.specs.declared.lines.Sums.{Sums}
use Rattle.account_lines.specs.declared.lines.TurnPlace.{TurnPlace}
use Rattle.run_cable.specs.KeptRuns.{Kept}
use Rattle.account_plays.specs.declared.running.Over.{Over}
use Rattle.account_plays.specs.AccountedTurns.{HasRoomFor, SumsGoOn}
use Rattle.account_plays.specs.AccountedRuns.{turns_text, turns_scans, AreNextCodeTurns, AreTold, HaveRoom, HasStopped}
use Rattle.code_plays.specs.CodePlays.{HasEnding}
use Rattle.std.specs.List.{flat_map}

-- the chain after the first clocks of a play on the fresh board of devices
abbrev pub first_chain : BaseLengths → List Desc → Chain
first_chain base devices = chain_reset base (Told (map fresh devices))

-- the play of chosen procedures of a code from there on, for at most n turns
abbrev pub plays_at : CodeLists → List ℕ → BaseLengths → List Desc → ℕ → Run
plays_at code chosen base devices n = play_of code chosen n (first_chain base devices)

-- a cable tells the board of devices after the first clocks of a play
abbrev pub HasFirstBoard : Option (List Card) → List Desc → Type 0
HasFirstBoard board devices = board ≡ Some (board_after (map fresh devices) reset_inputs)

-- A code can be played with an account: each turn of each play is told, and there is room for its runs and for those of
-- what comes before the turns.
pub record CanAccount (code : CodeLists) (table : List TurnPlace) (chosen : List ℕ) (base : BaseLengths) (devices : List Desc)
    (runs : Kept) : Type 0 where
  pub countable : length code.instrs < 2 ^ 32
  pub told : AreTold code table (plays_at code chosen base devices)
  pub room : HaveRoom code table runs (plays_at code chosen base devices)
  pub first_room : HasRoomFor runs Reset (plays_at code chosen base devices 0).events

-- These are the sums of so many turns, as they were kept, each at most the largest one that is written.
pub record AreSums (turns : ℕ) (runs : Kept) (sums : Sums) : Type 0 where
  pub turns_are : sums.turns ≡ turns
  pub clocks_are : sums.clocks ≡ runs.heard.clocks
  pub usec_are : sums.usec ≡ runs.heard.usec
  pub ir_are : sums.ir_scans ≡ runs.heard.ir_scans
  pub dr_are : sums.dr_scans ≡ runs.heard.dr_scans
  pub few_clocks : sums.clocks < 2 ^ 63
  pub few_usec : sums.usec < 2 ^ 63
  pub few_ir : sums.ir_scans < 2 ^ 63
  pub few_dr : sums.dr_scans < 2 ^ 63

-- Nothing was heard yet, nothing is lost, and there is room for the runs of each turn of a program whose statements list at
-- most so many states.
pub record AreFirstRuns (base : BaseLengths) (states : ℕ) (runs : Kept) : Type 0 where
  pub none_lost : runs.lost ≡ false
  pub bits : turn_bits base states ≤ runs.room.bits
  pub runs_enough : turn_runs states ≤ runs.room.runs
  pub clocks : runs.heard.clocks ≡ 0
  pub usec : runs.heard.usec ≡ 0
  pub ir_scans : runs.heard.ir_scans ≡ 0
  pub dr_scans : runs.heard.dr_scans ≡ 0

module _ (code : CodeLists) (table : List TurnPlace) (chosen : List ℕ) (base : BaseLengths) (devices : List Desc) where
  -- the text of what comes before the turns, and of turns
  abbrev pub turns_put : List MadeTurn → List ℕ
  turns_put turns = events_text false [] (plays_at code chosen base devices 0).events ++ turns_text table base turns

  -- the account of turns, with the first clocks
  abbrev pub account_in_turns : ℕ → List MadeTurn → Account
  account_in_turns most turns = record {
    turns = length turns;
    clocks = 5 + length (clocks_among (plays_at code chosen base devices most).events);
    usec = usec_among (plays_at code chosen base devices most).events;
    ir_scans = turns_scans table true turns;
    dr_scans = turns_scans table false turns;
  }

  -- these are turns of the plays of the code, at most so many
  pub record AreCodeTurns (most : ℕ) (turns : List MadeTurn) : Type 0 where
    pub are : AreNextCodeTurns code table (plays_at code chosen base devices) turns
    pub few : length turns ≤ most

  -- these are all turns of the play of at most so many
  pub record AreAllTurns (most : ℕ) (turns : List MadeTurn) : Type 0 where
    pub first : AreCodeTurns most turns
    pub whole : (length turns ≡ most) ⊎ HasStopped (plays_at code chosen base devices (length turns))

  -- All turns of the play were played, and their text was put; the sums went on by those of the play without its first
  -- clocks, or with so many clocks more.
  pub record PlaysTurns {K : Type 0} (sink : SinkOf K) (most before : ℕ) (old : Lines K) (runs : Kept) (over : Over)
      (new : Lines K) (new_runs : Kept) : Type 0 where
    pub turns : List MadeTurn
    pub all : AreAllTurns most turns
    pub put : Puts sink old (turns_put turns) new
    pub counted : length turns ≡ over.turns
    pub ended : ending_of (plays_at code chosen base devices most).outcome ≡ over.ending
    pub sums : SumsGoOn runs (before + length (clocks_among (plays_at code chosen base devices most).events))
        (usec_among (plays_at code chosen base devices most).events) (turns_scans table true turns)
        (turns_scans table false turns) new_runs

  -- A front of the text of some first turns was put.
  pub record PutsTurnsFront {K : Type 0} (sink : SinkOf K) (most : ℕ) (old new : Lines K) : Type 0 where
    pub turns : List MadeTurn
    pub first : AreCodeTurns most turns
    pub put : PutsFront sink old (turns_put turns) new

  -- what a call does that plays the turns, by its result
  abbrev pub HasPlayedTurns : {K : Type 0} → SinkOf K → ℕ → ℕ → Lines K → Kept → Result Over Failed → Lines K → Kept → Type 0
  HasPlayedTurns sink most before old runs (Ok over) new new_runs = PlaysTurns sink most before old runs over new new_runs
  HasPlayedTurns sink most before old runs (Err failed) new new_runs = PutsTurnsFront sink most old new

  -- The text is that of a play of the code with its account, of at most so many turns, and this is its ending.
  pub record IsCodeAccount (most : ℕ) (text : List ℕ) (ending : Ending) : Type 0 where
    pub turns : List MadeTurn
    pub all : AreAllTurns most turns
    pub ended : ending_of (plays_at code chosen base devices most).outcome ≡ Some ending
    pub says : text ≡ turns_put turns ++ account_line (account_in_turns most turns) ++ ending_line ending

  -- what a call does that puts it, by its result: it was put, or a front of it
  abbrev pub PutsAccount : {K : Type 0} → SinkOf K → ℕ → Lines K → Lines K → Result Ending Failed → Type 0
  PutsAccount sink most old new (Ok ending) = Said sink (IsCodeAccount most) old new ending
  PutsAccount sink most old new (Err failed) =
      SaidFront sink (IsCodeAccount most) old new ⊎ PutsTurnsFront sink most old new

-- What the turns of plays of a code tell of the program that it was made of.
pub record TellsProgram (bytes : List ℕ) (program : List StmtTree) (code : CodeLists) (table : List TurnPlace) (chosen : List ℕ)
    (base : BaseLengths) (devices : List Desc) : Type 0 where
  pub pieces : List Piece
  pub cut : IsCut bytes pieces
  pub of_program : IsCodeOf (as_played program) code
  pub come_to_ends : (n : ℕ) → HasEnding (plays_at code chosen base devices n)
  pub turns_are : (n : ℕ) (turns : List MadeTurn) → AreAllTurns code table chosen base devices n turns →
      turns ≡ (made_play (as_played program) chosen n base (Told (map fresh devices))).turns
  pub texts_are : (n : ℕ) (turns : List MadeTurn) → AreAllTurns code table chosen base devices n turns →
      turns_text table base turns ≡ flat_map (turn_lines (record { text = bytes; pieces = pieces }) base)
      (made_play (as_played program) chosen n base (Told (map fresh devices))).turns
  pub scans_are : (n : ℕ) (turns : List MadeTurn) (ir : Bool) → AreAllTurns code table chosen base devices n turns →
      turns_scans table ir turns ≡ scans_among ir (passages (made_play (as_played program) chosen n base (Told (map fresh devices))))
