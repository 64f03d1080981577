-- A session at a peer, from before the wire is opened on.
use Rattle.std.proofs.Common.{◌≡◌, ◌≤◌, ℕ, Bool, List, [], ◌++◌, length, codes, Option, None, Some, Result, Ok, Err, refl, sym, ap, subst, ◌∙◌, append_assoc, arith}
use Rattle.std.specs.Prelude.{IsErr, IfSome, IfNone}
use Rattle.std.proofs.lemmas.List.{append-nil, length-append}
use Rattle.tool_io.specs.declared.lines.Lines.{Lines}
use Rattle.tool_io.specs.declared.outside.Sink.{Ghosts as SinkOf}
use Rattle.tool_io.specs.Causes.{HasRisen, NeverFalls, HasCause}
use Rattle.tool_io.specs.Lines.{sink_of, SinkNeverFalls, SinkHasRisen}
use Rattle.tool_io.proofs.BytesLemmas.{then_bytes-nothing}
use Rattle.tool_io.proofs.CauseLemmas.{kept_then, rose_after, cause_of_rose}
use Rattle.dev_card.specs.FarEnds.{FarEnd}
use Rattle.stapl_meaning.specs.declared.events.Ending.{Ending}
use Rattle.stapl_meaning.specs.Plays.{Run}
use Rattle.drive_cable.specs.declared.peer.Peer.{Ghosts as PeerOf}
use Rattle.drive_cable.specs.Peers.{PeerCarried}
use Rattle.drive_cable.specs.PeerLaws.{both_carried}
use Rattle.drive_cable.specs.PeerCalls.{BrokeOff}
use Rattle.drive_tool.specs.declared.status.DriveStatus.{DriveStatus}
use Rattle.drive_tool.specs.Statuses.{done_with}
use Rattle.drive_tool.specs.Driven.{Session, IsDrivenInPart, IsCutOff, not_opened, cut_in_part, cut_before_quit}
use Rattle.drive_tool.specs.Plans.{drive}
use Rattle.drive_tool.specs.Answers.{Outside, outside, HasHad, DoesPlan, KeepsPeer}
use Rattle.drive_tool.specs.PeerPlays.{HasReached, IsDrivenToQuit, with_quit, WritesAtPeer}

module _ {P K : Type 0} (peer : PeerOf P) (sink : SinkOf K) where
  abbrev Carries : P → List ℕ → List ℕ → P → Type 0
  Carries = PeerCarried peer.sent peer.left

  -- what was had after the wire was opened
  had_after : {p0 p1 : P} {out : K} {new : Outside P K} {A : Session → Type 0} → Carries p0 [] [] p1 → HasHad peer sink (outside p1 out) new A →
      HasHad peer sink (outside p0 out) new A
  had_after {p0 = p0} {p1 = p1} {new = new} opened h = record {
    session = h.session;
    is = h.is;
    carried = both_carried peer.sent peer.left p0 p1 new.peer [] h.session.sent [] h.session.received opened h.carried;
    wrote = h.wrote;
  }

  pub does_after : {p0 p1 : P} (out : K) (new : Outside P K) {E : Type 0} (sleeps pins : Bool) (plays : FarEnd → Run) (r : Result (Option DriveStatus) E) → Carries p0 [] [] p1 →
      DoesPlan peer sink (outside p1 out) new sleeps (drive pins plays) r → DoesPlan peer sink (outside p0 out) new sleeps (drive pins plays) r
  does_after out new sleeps pins plays (Ok (Some status)) opened h = record { ending = h.ending; status_is = h.status_is; had = had_after opened h.had }
  does_after out new sleeps pins plays (Ok None) opened h = had_after opened h
  does_after out new sleeps pins plays (Err e) opened h = had_after opened h

  pub keeps_after : {a b c : P} {E : Type 0} (r : Result (Option DriveStatus) E) → NeverFalls peer.faults peer.is_last a b → KeepsPeer peer b c r → KeepsPeer peer a c r
  keeps_after r kept k = record { later = kept_then kept k.later; wire = λ e. rose_after kept (k.wire e) }

  -- the wire could not be opened
  pub had_nothing : {p0 p1 : P} {out : K} (sleeps pins : Bool) (plays : FarEnd → Run) → Carries p0 [] [] p1 → HasHad peer sink (outside p0 out) (outside p1 out) (IsCutOff sleeps pins plays)
  had_nothing {out = out} sleeps pins plays opened = record {
    session = record { sent = []; received = []; text = [] };
    is = not_opened;
    carried = opened;
    wrote = sym (then_bytes-nothing (sink.written out));
  }

  -- no failure of the wire
  pub keeps_failed : {a b : P} {E : Type 0} (r : Result (Option DriveStatus) E) → IsErr r → NeverFalls peer.faults peer.is_last a b → KeepsPeer peer a b r
  keeps_failed (Ok x) is kept = absurd cc
  keeps_failed (Err e) is kept = record { later = kept; wire = λ e. absurd cc }

  pub keeps_end : {a b c : P} {E : Type 0} (o : Option DriveStatus) → NeverFalls peer.faults peer.is_last a b → NeverFalls peer.faults peer.is_last b c →
      IfNone o (HasRisen peer.faults peer.is_last b c) → KeepsPeer {E = E} peer a c (Ok o)
  keeps_end (Some status) first second rose = record { later = kept_then first second; wire = λ e. absurd cc }
  keeps_end None first second rose = record { later = kept_then first second; wire = λ e. rose_after first rose }

at_most_one : (front rest : List ℕ) → codes "Q" ≡ front ++ rest → length rest ≤ 1
at_most_one front rest e = omega (arith, ap length e, length-append front rest)

module _ {P K : Type 0} (peer : PeerOf P) (sink : SinkOf K) (sleeps pins : Bool) (plays : FarEnd → Run) {p1 p2 : P} {l0 l1 : Lines K} where
  -- what has reached the sink
  had_of : {A : Session → Type 0} → HasReached peer sink p1 l0 A p2 l1 → HasHad peer sink (outside p1 (sink_of l0)) (outside p2 (sink_of l1)) A
  had_of h = record { session = h.session; is = h.is; carried = h.carried; wrote = h.wrote }

  -- the wire failed in the play
  pub had_cut : HasReached peer sink p1 l0 (IsDrivenInPart sleeps pins plays) p2 l1 → HasHad peer sink (outside p1 (sink_of l0)) (outside p2 (sink_of l1)) (IsCutOff sleeps pins plays)
  had_cut h = record { session = h.session; is = cut_in_part h.session h.is; carried = h.carried; wrote = h.wrote }

  -- the Q was sent, or it could not be
  pub had_end : (E : Type 0) (p3 : P) {ending : Ending} (o : Option DriveStatus) → HasReached peer sink p1 l0 (IsDrivenToQuit sleeps pins plays ending) p2 l1 →
      IfSome o (λ status. status ≡ done_with ending) → IfSome o (λ status. PeerCarried peer.sent peer.left p2 (codes "Q") [] p3) → IfNone o (BrokeOff peer p2 (codes "Q") p3) →
      DoesPlan peer sink (outside p1 (sink_of l0)) (outside p3 (sink_of l1)) {E = E} sleeps (drive pins plays) (Ok o)
  had_end E p3 {ending = ending} (Some status) h is quit broke = record {
    ending = ending;
    status_is = is;
    had = record {
      session = with_quit h.session;
      is = h.is;
      carried = subst (λ v. PeerCarried peer.sent peer.left p1 (h.session.sent ++ codes "Q") v p3) (append-nil h.session.received)
          (both_carried peer.sent peer.left p1 p2 p3 h.session.sent (codes "Q") h.session.received [] h.carried quit);
      wrote = h.wrote;
    };
  }
  had_end E p3 {ending = ending} None h is quit broke =
      let session : Session = record { sent = h.session.sent ++ broke.part.front; received = h.session.received ++ broke.answers; text = h.session.text } in
      record {
        session = session;
        is = cut_before_quit session ending broke.part.rest (at_most_one broke.part.front broke.part.rest broke.part.parts) (record {
          whole = with_quit h.session;
          driven = h.is;
          uncounted = broke.answers;
          went = ap (λ v. h.session.sent ++ v) broke.part.parts ∙ sym (append_assoc h.session.sent broke.part.front broke.part.rest);
          came = refl;
          wrote = sym (append-nil h.session.text);
        });
        carried = both_carried peer.sent peer.left p1 p2 p3 h.session.sent broke.part.front h.session.received broke.answers h.carried broke.part.carried;
        wrote = h.wrote;
      }

  -- the text could not be written
  pub had_torn : {E F : Type 0} (e : F) → WritesAtPeer peer sink sleeps pins plays p1 l0 (Err e) p2 l1 → (r : Result (Option DriveStatus) E) → IsErr r →
      DoesPlan peer sink (outside p1 (sink_of l0)) (outside p2 (sink_of l1)) sleeps (drive pins plays) r
  had_torn e h (Ok x) is = absurd cc
  had_torn e h (Err f) is = had_of h.0

-- the sink's count
pub sink_torn : {K T E : Type 0} (sink : SinkOf K) (l0 l1 : Lines K) (r : Result T E) → SinkNeverFalls sink l0 l1 → SinkHasRisen sink l0 l1 → HasCause sink.faults sink.is_last (sink_of l0) (sink_of l1) r
sink_torn sink l0 l1 r kept rose = cause_of_rose r kept rose

pub sink_kept : {K T E : Type 0} (sink : SinkOf K) (l0 l1 : Lines K) (x : T) → SinkNeverFalls sink l0 l1 → HasCause {E = E} sink.faults sink.is_last (sink_of l0) (sink_of l1) (Ok x)
sink_kept sink l0 l1 x kept = record { kept = kept; failed = tt }
