-- A play over a peer whose text is written.
use Rattle.std.proofs.Common.{◌≡◌, ℕ, Bool, List, [], ◌++◌, codes, Option, Result, Ok, Err, refl, sym, ap, ◌∙◌, append_assoc}
use Rattle.std.specs.Prelude.{IsErr}
use Rattle.std.proofs.lemmas.List.{append-nil}
use Rattle.tool_io.specs.declared.lines.Lines.{Lines}
use Rattle.tool_io.specs.declared.outside.Sink.{Ghosts as SinkOf}
use Rattle.tool_io.specs.Bytes.{then_bytes}
use Rattle.tool_io.specs.Lines.{gathered, taken, IsWhole, IsOverSame, Puts, PutsFront, PutsBroken, SinkNeverFalls, SinkHasRisen}
use Rattle.tool_io.proofs.BytesLemmas.{then_bytes-twice}
use Rattle.tool_io.proofs.CauseLemmas.{kept_then}
use Rattle.tool_io.proofs.PutLemmas.{put_then, then_front, puts_end, front_end, all_written, front_written}
use Rattle.dev_card.specs.FarEnds.{FarEnd}
use Rattle.stapl_meaning.specs.declared.events.Ending.{Ending}
use Rattle.stapl_meaning.specs.Plays.{Run}
use Rattle.stapl_meaning.specs.Texts.{events_text, ending_line}
use Rattle.written_cable.specs.declared.trouble.Trouble.{Trouble}
use Rattle.written_cable.specs.Papers as papers
use Rattle.written_cable.specs.Papers.{Begins, shown_of}
use Rattle.written_cable.specs.Signals.{signals_of}
use Rattle.link_server.specs.Clients.{bytes_of_signals, answers_of}
use Rattle.drive_cable.specs.declared.peer.Peer.{Ghosts as PeerOf}
use Rattle.drive_tool.specs.Driven.{IsDrivenInPart, IsDrivenBut, IsUnwritten, unwritten_in_part, unwritten_end}
use Rattle.drive_tool.specs.PeerPlays.{IsPlayed, IsPlayedInPart, IsPutInPart, HasReached, IsDrivenToQuit, WritesAtPeer}

-- ---- a front of some bytes was put, and perhaps what waits was written

-- nothing more
pub rest_left : {K : Type 0} (sink : SinkOf K) {a b : Lines K} {bytes : List ℕ} → papers.PutsFront (shown_of sink.written) a bytes b → IsPutInPart sink a bytes b
rest_left sink p = record { front = p.front; rest = p.rest; parts = p.parts; went = p.went }

parts_more : (all front more now rest waits : List ℕ) → all ≡ front ++ (waits ++ more) → waits ≡ now ++ rest → all ≡ (front ++ now) ++ (rest ++ more)
parts_more all front more now rest waits e f =
    e ∙ ap (λ v. front ++ (v ++ more)) f ∙ ap (λ v. front ++ v) (append_assoc now rest more) ∙ sym (append_assoc front now (rest ++ more))

module _ {K : Type 0} (sink : SinkOf K) {a b c : Lines K} {bytes : List ℕ} where
  -- a front of what waits was written
  pub rest_front : (now rest : List ℕ) → gathered b ++ [] ≡ now ++ rest → taken sink c ≡ then_bytes (taken sink b) now → IsWhole b →
      papers.PutsFront (shown_of sink.written) a bytes b → IsPutInPart sink a bytes c
  rest_front now rest e went whole p =
      let waits : Begins p.rest (gathered b) = p.waits whole in
      record {
        front = p.front ++ now;
        rest = rest ++ waits.more;
        parts = parts_more (gathered a ++ bytes) p.front waits.more now rest (gathered b) (p.parts ∙ ap (λ v. p.front ++ v) waits.is) (sym (append-nil (gathered b)) ∙ e);
        went = went ∙ ap (λ v. then_bytes v now) p.went ∙ then_bytes-twice _ p.front now;
      }

-- ---- sessions

module _ {P K : Type 0} (peer : PeerOf P) (sink : SinkOf K) (sleeps pins : Bool) (plays : FarEnd → Run) {old new : P} {out : Lines K} (empty : gathered out ≡ []) where
  -- a play to its ending, of which a front of the text is written
  reached : {ending : Ending} {mid done : Lines K} (p : IsPlayed peer sink sleeps pins plays old out ending new mid) (text unwritten : List ℕ) →
      events_text pins [] p.events ++ ending_line ending ≡ text ++ unwritten → taken sink done ≡ then_bytes (taken sink out) text →
      IsOverSame out done → SinkNeverFalls sink out done →
      HasReached peer sink old out (λ session. IsDrivenBut sleeps pins plays (codes "Q") unwritten session ending) new done
  reached {ending = ending} p text unwritten e wrote same kept = record {
    session = record { sent = bytes_of_signals sleeps (signals_of p.events); received = answers_of (signals_of p.events); text = text };
    is = record {
      whole = record {
        sent = bytes_of_signals sleeps (signals_of p.events) ++ codes "Q";
        received = answers_of (signals_of p.events);
        text = events_text pins [] p.events ++ ending_line ending;
      };
      driven = record { events = p.events; runs = p.runs; ended = p.ended; went = refl; came = refl; wrote = refl };
      uncounted = [];
      went = refl;
      came = sym (append-nil (answers_of (signals_of p.events)));
      wrote = e;
    };
    carried = p.carried;
    wrote = wrote;
    same_sink = same;
    kept = kept;
  }

  -- its whole text is written
  pub reached_end : {ending : Ending} {mid put done : Lines K} (p : IsPlayed peer sink sleeps pins plays old out ending new mid) →
      Puts sink mid (ending_line ending) put → Puts sink put [] done → gathered done ≡ [] →
      HasReached peer sink old out (IsDrivenToQuit sleeps pins plays ending) new done
  reached_end {ending = ending} p q r none =
      let all = puts_end (put_then p.put q) r in
      record {
        session = record {
          sent = bytes_of_signals sleeps (signals_of p.events);
          received = answers_of (signals_of p.events);
          text = events_text pins [] p.events ++ ending_line ending;
        };
        is = record { events = p.events; runs = p.runs; ended = p.ended; went = refl; came = refl; wrote = refl };
        carried = p.carried;
        wrote = all_written empty all none;
        same_sink = all.same_sink;
        kept = all.kept;
      }

  -- a front of its text is written
  reached_front : {ending : Ending} {mid done : Lines K} (p : IsPlayed peer sink sleeps pins plays old out ending new mid) →
      PutsFront sink out (events_text pins [] p.events ++ ending_line ending) done →
      HasReached peer sink old out (IsUnwritten sleeps pins plays) new done × SinkHasRisen sink out done
  reached_front {ending = ending} {done = done} p f =
      let moved = front_written empty f in
      let h = reached {done = done} p moved.moves.front moved.rest moved.moves.parts moved.moves.written f.same_sink f.kept in (
        record {
          session = h.session;
          is = unwritten_end h.session ending moved.rest h.is;
          carried = h.carried;
          wrote = h.wrote;
          same_sink = h.same_sink;
          kept = h.kept;
        },
        f.rose,
      )

  -- the line of its ending could not be put, or what waited could not be written
  pub reached_no_ending : {ending : Ending} {E : Type 0} {mid done : Lines K} (p : IsPlayed peer sink sleeps pins plays old out ending new mid) → PutsBroken sink mid (ending_line ending) done →
      (r : Result (Option Ending) E) → IsErr r → WritesAtPeer peer sink sleeps pins plays old out r new done
  reached_no_ending p b (Ok x) is = absurd cc
  reached_no_ending p b (Err e) is = reached_front p (then_front p.put b.put)

  pub reached_unfinished : {ending : Ending} {E : Type 0} {mid put done : Lines K} (p : IsPlayed peer sink sleeps pins plays old out ending new mid) → Puts sink mid (ending_line ending) put →
      PutsBroken sink put [] done → (r : Result (Option Ending) E) → IsErr r → WritesAtPeer peer sink sleeps pins plays old out r new done
  reached_unfinished p q b (Ok x) is = absurd cc
  reached_unfinished p q b (Err e) is = reached_front p (front_end (put_then p.put q) b).put

  -- a play in part, of whose text a front is written
  pub reached_part : {trouble : Trouble} {mid done : Lines K} (p : IsPlayedInPart peer sink sleeps pins plays old out trouble new mid) →
      IsPutInPart sink out (events_text pins [] p.events) done → IsOverSame mid done → SinkNeverFalls sink mid done →
      HasReached peer sink old out (IsDrivenInPart sleeps pins plays) new done
  reached_part p f same kept = record {
    session = record {
      sent = bytes_of_signals sleeps (signals_of p.events) ++ p.more_bytes;
      received = answers_of (signals_of p.events) ++ p.uncounted;
      text = f.front;
    };
    is = record {
      events = p.events;
      rest = p.rest;
      runs = p.runs;
      pending = p.pending;
      few = p.few;
      more_bytes = p.more_bytes;
      unsent = p.unsent;
      parts = p.parts;
      uncounted = p.uncounted;
      went = refl;
      came = refl;
      unwritten = f.rest;
      wrote = ap (λ (v : List ℕ). v ++ events_text pins [] p.events) (sym empty) ∙ f.parts;
    };
    carried = p.carried;
    wrote = f.went;
    same_sink = same ∙ p.same_sink;
    kept = kept_then p.kept kept;
  }

  pub torn : {done : Lines K} → HasReached peer sink old out (IsDrivenInPart sleeps pins plays) new done → HasReached peer sink old out (IsUnwritten sleeps pins plays) new done
  torn h = record {
    session = h.session;
    is = unwritten_in_part h.session h.is;
    carried = h.carried;
    wrote = h.wrote;
    same_sink = h.same_sink;
    kept = h.kept;
  }

  -- and a call on the lines failed then, or before
  pub reached_torn : {E : Type 0} {trouble : Trouble} {mid done : Lines K} (p : IsPlayedInPart peer sink sleeps pins plays old out trouble new mid) →
      IsPutInPart sink out (events_text pins [] p.events) done → IsOverSame mid done → SinkNeverFalls sink mid done → SinkHasRisen sink out done →
      (r : Result (Option Ending) E) → IsErr r → WritesAtPeer peer sink sleeps pins plays old out r new done
  reached_torn p f same kept rose (Ok x) is = absurd cc
  reached_torn p f same kept rose (Err e) is = (torn (reached_part p f same kept), rose)
