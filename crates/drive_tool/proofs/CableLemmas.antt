-- A play over a cable to a peer, in words of the peer.
use Rattle.std.proofs.Common.{◌≡◌, not, ℕ, Bool, true, false, List, [], ◌++◌, Some, Result, Ok, Err, refl, sym, ap, subst, ◌∙◌, inl, inr, arith}
use Rattle.std.proofs.lemmas.List.{append-nil}
use Rattle.tool_io.specs.declared.lines.Lines.{Lines}
use Rattle.tool_io.specs.declared.outside.Sink.{Ghosts as SinkOf}
use Rattle.tool_io.specs.Causes.{HasRisen, NeverFalls}
use Rattle.tool_io.specs.Lines.{IsWhole, SinkNeverFalls, SinkHasRisen}
use Rattle.tool_io.specs.Lines as io
use Rattle.dev_card.specs.Board.{Clock, tdos}
use Rattle.dev_card.specs.FarEnds.{FarEnd, Heard}
use Rattle.scan_paths.specs.declared.cable.Cable.{Ghosts as CableOf}
use Rattle.scan_paths.specs.Cables.{Signal, whole, whole_if, cable_faults, IsCableLast}
use Rattle.stapl_meaning.specs.declared.events.Event.{Event}
use Rattle.stapl_meaning.specs.declared.events.Ending.{Ending}
use Rattle.stapl_meaning.specs.Plays.{Run, ending_of}
use Rattle.stapl_meaning.specs.Texts.{events_text}
use Rattle.stapl_machine.specs.declared.running.Machine.{Machine}
use Rattle.stapl_player.specs.Plays.{HasPlayed, HasPlayedFront}
use Rattle.written_cable.specs.declared.trouble.Trouble.{Trouble}
use Rattle.written_cable.specs.declared.trouble.Trouble.TheVariants.{CableFault, WriteFault}
use Rattle.written_cable.specs.Papers.{Puts, shown_of}
use Rattle.written_cable.specs.PaperLaws.{puts_back}
use Rattle.written_cable.specs.Ports.{IfFault}
use Rattle.written_cable.specs.Signals.{signals_of}
use Rattle.link_server.specs.Clients.{bytes_of_signals, answers_of}
use Rattle.link_server.specs.Drives.{HasDriven}
use Rattle.drive_cable.specs.declared.drive_cable.DriveCable.{DriveCable}
use Rattle.drive_cable.specs.declared.peer.Peer.{Ghosts as PeerOf}
use Rattle.drive_cable.specs.Peers.{PeerCarried}
use Rattle.drive_cable.specs.DriveCables.{IsOverSame, peer_of, end_of, Leads, no_board, drive_breakage, drive_count, IsCountLast, no_faults, IsNever}
use Rattle.drive_tool.specs.Driven.{heard_at}
use Rattle.drive_tool.specs.declared.preparing.Ready.{Ready}
use Rattle.drive_tool.specs.Steps.{ready_play}
use Rattle.drive_tool.specs.PeerPlays.{PlaysAtCable, IsPlayed, IsPlayedInPart, PlaysAtPeer}

-- a cable that is whole is not broken
is_whole : (t : Bool) → whole_if (not t) ≡ whole → t ≡ false
is_whole true e = absurd cc
is_whole false e = refl

-- the counts of a cable are those of its peer
pub peer_rose : {P : Type 0} (peer : PeerOf P) (old new : DriveCable P) →
    HasRisen (cable_faults (drive_count peer.faults) no_faults) (IsCableLast (IsCountLast peer.is_last) IsNever) old new →
    HasRisen peer.faults peer.is_last (peer_of old) (peer_of new)
peer_rose peer old new rose = record {
  risen = elim rose.risen [ inl more ↦ inl (omega (arith, more)) | inr last ↦ elim last [ inl l ↦ inr l | inr never ↦ absurd never ] ];
}

pub peer_kept : {P : Type 0} (peer : PeerOf P) (old new : DriveCable P) →
    NeverFalls (cable_faults (drive_count peer.faults) no_faults) (IsCableLast (IsCountLast peer.is_last) IsNever) old new →
    NeverFalls peer.faults peer.is_last (peer_of old) (peer_of new)
peer_kept peer old new kept = record {
  later = omega (arith, kept.later);
  stays = λ l. elim (kept.stays (inl l)) [ inl x ↦ x | inr never ↦ absurd never ];
}

fault_as : {A B : Type 0} (L : Type 0) (trouble : Trouble) → (A → B) → IfFault trouble A L → IfFault trouble B L
fault_as L CableFault f fault = f fault
fault_as L WriteFault f fault = fault

module _ {P K : Type 0} (peer : PeerOf P) (sink : SinkOf K) (pins : Bool) (run : FarEnd → Run) (count : FarEnd → ℕ) (old new : DriveCable P)
    (out new_out : Lines K) (steps now : ℕ) where
  -- the bytes of signals that a whole cable made
  carried_whole : (signals : List Signal) → whole_if (not old.is_broken) ≡ whole → whole_if (not new.is_broken) ≡ whole →
      Leads peer.sent peer.left old signals new →
      PeerCarried peer.sent peer.left (peer_of old) (bytes_of_signals old.sleeps signals) (answers_of signals) (peer_of new)
  carried_whole signals e f l =
      let h : HasDriven (PeerCarried peer.sent peer.left) old.sleeps (end_of old) signals (end_of new) = l.drives.whole (is_whole old.is_broken e) in
      subst (λ v. PeerCarried peer.sent peer.left (peer_of old) v (answers_of signals) (peer_of new))
      (ap (λ m. bytes_of_signals old.sleeps signals ++ m) (h.no_more (is_whole new.is_broken f)) ∙ append-nil (bytes_of_signals old.sleeps signals))
      (subst (λ v. PeerCarried peer.sent peer.left (peer_of old) (bytes_of_signals old.sleeps signals ++ h.more) v (peer_of new))
      (ap (λ m. answers_of signals ++ m) (h.no_uncounted (is_whole new.is_broken f)) ∙ append-nil (answers_of signals)) h.went)

  -- a play to its ending
  pub at_peer : (ending : Ending) (machine : Machine) → HasPlayed no_board (Leads peer.sent peer.left) (shown_of sink.written) pins run count old out steps ending new new_out now machine →
      whole_if (not old.is_broken) ≡ whole → whole_if (not new.is_broken) ≡ whole → io.IsOverSame out new_out → IsWhole new_out → SinkNeverFalls sink out new_out →
      IsPlayed peer sink old.sleeps pins run (peer_of old) out ending (peer_of new) new_out
  at_peer ending machine p e f same whole_out kept =
      let runs : (more : List Bool) → (run (heard_at p.events more)).events ≡ p.events =
      λ more. subst (λ (ks : List Clock). (run (Heard (tdos ks ++ more))).events ≡ p.events) (sym p.clocks_are) (p.runs more) in
      record {
        events = p.events;
        runs = runs;
        ended = λ more. subst (λ (ks : List Clock). ending_of (run (Heard (tdos ks ++ more))).outcome ≡ Some ending) (sym p.clocks_are) (p.ended more);
        carried = carried_whole (signals_of p.events) e f p.made;
        put = puts_back sink out new_out (events_text pins [] p.events) same whole_out kept
            (subst (λ (es : List Event). Puts (shown_of sink.written) out (events_text pins [] es) new_out) (p.runs []) (p.put []));
      }

  -- a play that was broken off
  pub part_at_peer : (trouble : Trouble) → HasPlayedFront no_board (Leads peer.sent peer.left) (shown_of sink.written) pins run count old out steps new new_out now →
      whole_if (not old.is_broken) ≡ whole → io.IsOverSame out new_out → SinkNeverFalls sink out new_out →
      IfFault trouble (HasRisen (cable_faults (drive_count peer.faults) no_faults) (IsCableLast (IsCountLast peer.is_last) IsNever) old new) (SinkHasRisen sink out new_out) →
      IsPlayedInPart peer sink old.sleeps pins run (peer_of old) out trouble (peer_of new) new_out
  part_at_peer trouble p e same kept fault =
      let h : HasDriven (PeerCarried peer.sent peer.left) old.sleeps (end_of old) (signals_of p.events) (end_of new) = p.made.drives.whole (is_whole old.is_broken e) in
      record {
        events = p.events;
        rest = p.rest;
        runs = λ more. subst (λ (ks : List Clock). (run (Heard (tdos ks ++ more))).events ≡ p.events ++ p.rest more) (sym p.clocks_are) (p.runs more);
        pending = h.pending;
        few = h.few;
        more_bytes = h.more;
        unsent = h.rest;
        parts = h.parts;
        uncounted = h.uncounted;
        carried = h.went;
        front = p.driven;
        same_sink = same;
        kept = kept;
        cause = fault_as (SinkHasRisen sink out new_out) trouble (peer_rose peer old new) fault;
      }

-- ---- by the result

abbrev pub cable_over : {P : Type 0} → PeerOf P → CableOf (DriveCable P)
cable_over peer = record {
  board = no_board;
  made = Leads peer.sent peer.left;
  line_faults = drive_count peer.faults;
  is_line_last = IsCountLast peer.is_last;
  pin_faults = no_faults;
  is_pin_last = IsNever;
  breakage = drive_breakage;
}

module _ {P K : Type 0} (peer : PeerOf P) (sink : SinkOf K) (ready : Ready) (old new : DriveCable P) (out new_out : Lines K) (before : drive_breakage old ≡ whole) where
  pub plays_at_peer : (r : Result Ending Trouble) → PlaysAtCable (cable_over peer) sink ready old out r new new_out →
      PlaysAtPeer peer sink old.sleeps ready.pins (ready_play ready) (peer_of old) out r (peer_of new) new_out
  plays_at_peer (Ok ending) p =
      at_peer peer sink ready.pins (ready_play ready) _ old new out new_out p.steps p.now ending p.machine p.played before p.kept.whole_cable p.kept.same_paper p.kept.whole_paper p.kept.paper_kept
  plays_at_peer (Err trouble) p =
      part_at_peer peer sink ready.pins (ready_play ready) _ old new out new_out p.steps p.now trouble p.played before p.kept.same_paper p.kept.paper_kept p.kept.fault

  pub keeps_peer : (r : Result Ending Trouble) → PlaysAtCable (cable_over peer) sink ready old out r new new_out → NeverFalls peer.faults peer.is_last (peer_of old) (peer_of new)
  keeps_peer r p = peer_kept peer old new p.kept.cable_kept

  -- the cable stands over the same peer
  pub same_peer : (r : Result Ending Trouble) → PlaysAtCable (cable_over peer) sink ready old out r new new_out → IsOverSame old new
  same_peer (Ok ending) p = p.played.made.same_peer
  same_peer (Err trouble) p = p.played.made.same_peer
