-- The turns of a code over a cable that tells the fresh board of devices.
use Rattle.std.proofs.Common.{◌≡◌, ◌∙◌, ◌⊎◌, ◌+◌, ℕ, Bool, true, false, List, [], ◌++◌, length, Option, Result, Ok, Err, sym, ap, subst, arith, min}
use Rattle.std.specs.Prelude.{All}
use Rattle.tap_states.specs.declared.Tap.TheVariants.{Reset}
use Rattle.tool_io.specs.declared.lines.Lines.{Lines}
use Rattle.tool_io.specs.declared.outside.Failed.{Failed}
use Rattle.tool_io.specs.declared.outside.Sink.{Ghosts as SinkOf}
use Rattle.tool_io.specs.Lines.{Puts, PutsFront}
use Rattle.dev_card.specs.declared.desc.Desc.{Desc}
use Rattle.dev_card.specs.Card.{Card}
use Rattle.dev_card.specs.Board.{tdos}
use Rattle.dev_card.specs.FarEnds.{far_end}
use Rattle.dev_card.specs.Padding.{BaseLengths}
use Rattle.scan_paths.specs.declared.cable.Cable.{Ghosts as CableOf}
use Rattle.scan_paths.specs.Cables.{clocks_in}
use Rattle.stapl_meaning.specs.declared.events.Event.{Event}
use Rattle.stapl_meaning.specs.declared.values.Held.{Held}
use Rattle.stapl_meaning.specs.Deeds.{Chain}
use Rattle.stapl_meaning.specs.Plays.{Run, ending_of}
use Rattle.stapl_meaning.specs.Texts.{events_text}
use Rattle.stapl_code.specs.declared.raw.CodeLists.{CodeLists}
use Rattle.machine_memory.specs.Zeros.{zeros_of_code}
use Rattle.written_cable.specs.Signals.{signals_of}
use Rattle.stapl_machine.specs.Runs.{play_from}
use Rattle.scan_accounts.specs.MadeTurns.{MadeTurn, clocks_among, usec_among}
use Rattle.scan_accounts.specs.AccountTexts.{most_counted}
use Rattle.scan_accounts.specs.Rooms.{FitIn}
use Rattle.scan_accounts.specs.ShiftRuns.{shift_runs}
use Rattle.account_lines.specs.declared.lines.TurnPlace.{TurnPlace}
use Rattle.run_cable.specs.KeptRuns.{Kept, Room}
use Rattle.account_plays.specs.declared.running.Over.{Over}
use Rattle.account_plays.specs.AccountTurns.{chain_heard}
use Rattle.account_plays.specs.AccountedTurns.{SumsGoOn}
use Rattle.account_plays.specs.AccountedRuns.{turns_text, turns_scans, AreNextCodeTurns, AreTold, HaveRoom, HasStopped, TurnsAreTold, TurnsFindRoom, PlayedRun, PlayedRunFront}
use Rattle.accounted_plays.specs.CodeAccounts.{first_chain, plays_at, HasFirstBoard, CanAccount, PlaysTurns, PutsTurnsFront, HasPlayedTurns}

module _ {C K : Type 0} (cable : CableOf C) (sink : SinkOf K) (code : CodeLists) (table : List TurnPlace) (chosen : List ℕ) (base : BaseLengths) (devices : List Desc)
    (variables : List Held) (zeros : variables ≡ zeros_of_code code) (old : C) (board : HasFirstBoard (cable.board old) devices) where
  abbrev runs_from : ℕ → Chain → Run
  runs_from n k = play_from code chosen variables n k

  abbrev heard : List Event → List Bool → ℕ → Run
  heard events more n = runs_from n (chain_heard cable base Reset old events more)

  -- what answers the clocks is the board, whatever is heard
  chain_is : (events : List Event) (more : List Bool) → chain_heard cable base Reset old events more ≡ first_chain base devices
  chain_is events more =
      ap (λ (o : Option (List Card)). let k : Chain = record { tap = Reset; base = base; far = far_end o (tdos (clocks_in (signals_of events)) ++ more) } in k) board

  -- what holds of the plays on the fresh board holds of those that are heard, and the other way round
  moved : (P : (ℕ → Run) → Type 0) (events : List Event) (more : List Bool) → P (plays_at code chosen base devices) → P (heard events more)
  moved P events more p =
      subst (λ (k : Chain). P (λ n. play_from code chosen variables n k)) (sym (chain_is events more))
      (subst (λ (vs : List Held). P (λ n. play_from code chosen vs n (first_chain base devices))) (sym zeros) p)

  back : (P : (ℕ → Run) → Type 0) (events : List Event) (more : List Bool) → P (heard events more) → P (plays_at code chosen base devices)
  back P events more p =
      subst (λ (vs : List Held). P (λ n. play_from code chosen vs n (first_chain base devices))) zeros
      (subst (λ (k : Chain). P (λ n. play_from code chosen variables n k)) (chain_is events more) p)

  pub all_told : (runs : Kept) → CanAccount code table chosen base devices runs → TurnsAreTold cable code table base runs_from Reset old
  all_told runs can = λ events more. moved (AreTold code table) events more can.told

  pub all_fit : (runs : Kept) → CanAccount code table chosen base devices runs → TurnsFindRoom cable code table base runs_from Reset old runs
  all_fit runs can = λ events more. moved (HaveRoom code table runs) events more can.room

  module _ (runs : Kept) (out : Lines K) (most : ℕ) where
    pub turns_played : (over : Over) (new : C) (new_runs : Kept) (new_out : Lines K) →
        PlayedRun cable sink code table base runs_from Reset old runs out most over new new_runs new_out →
        PlaysTurns code table chosen base devices sink most 0 out runs over new_out new_runs
    turns_played over new new_runs new_out p =
        let first : p.first ≡ (plays_at code chosen base devices 0).events = back (λ rs. p.first ≡ (rs 0).events) p.events [] (sym (p.first_is [])) in
        let gives : p.events ≡ (plays_at code chosen base devices most).events = back (λ rs. p.events ≡ (rs most).events) p.events [] (sym (p.gives [])) in
        let n : ℕ = length (clocks_among (plays_at code chosen base devices most).events) in let none : n ≡ 0 + n = omega arith in
        record {
          turns = p.turns;
          all = record {
            first = record { are = back (λ rs. AreNextCodeTurns code table rs p.turns) p.events [] (p.are []); few = p.few };
            whole = back (λ rs. (length p.turns ≡ most) ⊎ HasStopped (rs (length p.turns))) p.events [] (p.whole []);
          };
          put = subst (λ (es : List Event). Puts sink out (events_text false [] es ++ turns_text table base p.turns) new_out) first p.put;
          counted = p.counted;
          ended = back (λ rs. ending_of (rs most).outcome ≡ over.ending) p.events [] (p.ended []);
          sums = subst (λ (m : ℕ). SumsGoOn runs m (usec_among (plays_at code chosen base devices most).events) (turns_scans table true p.turns)
              (turns_scans table false p.turns) new_runs) none
              (subst (λ (es : List Event). SumsGoOn runs (length (clocks_among es)) (usec_among es) (turns_scans table true p.turns)
              (turns_scans table false p.turns) new_runs) gives p.sums);
        }

    pub turns_torn : (new_out : Lines K) → PlayedRunFront cable sink code table base runs_from Reset old runs out most new_out →
        PutsTurnsFront code table chosen base devices sink most out new_out
    turns_torn new_out p = record {
      turns = p.turns [];
      first = record { are = back (λ rs. AreNextCodeTurns code table rs (p.turns [])) p.events [] (p.are []); few = p.few [] };
      put = back (λ rs. PutsFront sink out (events_text false [] (rs 0).events ++ turns_text table base (p.turns [])) new_out) p.events [] (p.put []);
    }

-- the sums of the first clocks, and then more
counts_then : (most a b c m n : ℕ) → min b most ≡ min (a + m) most → min c most ≡ min (b + (0 + n)) most → min c most ≡ min (a + (m + n)) most
counts_then most a b c m n e f = omega (arith, e, f)

count_then : (most a b c n : ℕ) → min b most ≡ min (a + 0) most → min c most ≡ min (b + n) most → min c most ≡ min (a + n) most
count_then most a b c n e f = omega (arith, e, f)

sums_then : {a b c : Kept} (n usec ir dr m : ℕ) → SumsGoOn a m 0 0 0 b → SumsGoOn b (0 + n) usec ir dr c → SumsGoOn a (m + n) usec ir dr c
sums_then {a = a} {b = b} {c = c} n usec ir dr m first second = record {
  none_lost = second.none_lost;
  same_room = second.same_room ∙ first.same_room;
  more_clocks = counts_then most_counted a.heard.clocks b.heard.clocks c.heard.clocks m n first.more_clocks second.more_clocks;
  more_usec = count_then most_counted a.heard.usec b.heard.usec c.heard.usec usec first.more_usec second.more_usec;
  more_ir = count_then most_counted a.heard.ir_scans b.heard.ir_scans c.heard.ir_scans ir first.more_ir second.more_ir;
  more_dr = count_then most_counted a.heard.dr_scans b.heard.dr_scans c.heard.dr_scans dr first.more_dr second.more_dr;
}

module _ {K : Type 0} (sink : SinkOf K) (code : CodeLists) (table : List TurnPlace) (chosen : List ℕ) (base : BaseLengths) (devices : List Desc) where
  pub after_first : (runs mid new_runs : Kept) (old new : Lines K) (most : ℕ) (r : Result Over Failed) → SumsGoOn runs 5 0 0 0 mid →
      HasPlayedTurns code table chosen base devices sink most 0 old mid r new new_runs → HasPlayedTurns code table chosen base devices sink most 5 old runs r new new_runs
  after_first runs mid new_runs old new most (Ok over) first p =
      record { turns = p.turns; all = p.all; put = p.put; counted = p.counted; ended = p.ended; sums = sums_then _ _ _ _ 5 first p.sums }
  after_first runs mid new_runs old new most (Err failed) first p = p

-- in the same room
pub can_after : {code : CodeLists} {table : List TurnPlace} {chosen : List ℕ} {base : BaseLengths} {devices : List Desc} {old new : Kept} → new.room ≡ old.room →
    CanAccount code table chosen base devices old → CanAccount code table chosen base devices new
can_after {code = code} {table = table} {chosen = chosen} {base = base} {devices = devices} e can = record {
  countable = can.countable;
  told = can.told;
  room = subst (λ (r : Room). (turns : List MadeTurn) → AreNextCodeTurns code table (plays_at code chosen base devices) turns →
      All (λ (t : MadeTurn). FitIn r.bits r.runs (shift_runs t.from (clocks_among t.events))) turns) (sym e) can.room;
  first_room = subst (λ (r : Room). FitIn r.bits r.runs (shift_runs Reset (clocks_among (plays_at code chosen base devices 0).events))) (sym e) can.first_room;
}
