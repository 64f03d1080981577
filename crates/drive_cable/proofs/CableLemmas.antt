-- The calls of a cable over a peer: what was carried is what it has driven.
use Rattle.std.proofs.Common.{◌≡◌, ◌≤◌, not, ℕ, Bool, true, false, List, [], ◌∷◌, length, refl, sym, ap, subst, ◌∙◌, inl, arith}
use Rattle.std.proofs.lemmas.Bool.{false≢true}
use Rattle.std.proofs.lemmas.List.{append-nil, length-map}
use Rattle.std.proofs.lemmas.Option.{none-some}
use Rattle.dev_card.specs.Board.{Input, clock_with, tdos}
use Rattle.scan_paths.specs.Cables.{Signal, Pulses, Waits, Tunes, pulsed, whole, whole_if, IsClocked, IsClockedOrNot, IsSignalled, IsSignalledOrNot, HasBrokenOff, HasShifted, HasMadeFront}
use Rattle.scan_paths.proofs.Signals.{clocks_in_pulsed}
use Rattle.link_server.specs.Runs.{digit_of}
use Rattle.link_server.specs.Clients.{bytes_of_input, bytes_of_inputs, bytes_of_wait, bytes_of_signals, answers_of}
use Rattle.link_server.specs.Drives.{HasDriven}
use Rattle.link_server.specs.DriveLaws.{driven, driven_front, bytes_pulsed, unanswered, bytes_unanswered}
use Rattle.drive_cable.specs.declared.drive_cable.DriveCable.{DriveCable}
use Rattle.drive_cable.specs.declared.peer.Peer.{Ghosts as PeerOf}
use Rattle.drive_cable.specs.Peers.{PeerCarried, digits_of}
use Rattle.drive_cable.specs.PeerCalls.{BrokeOff, BlockCarried}
use Rattle.drive_cable.specs.PeerLaws.{none_carried}
use Rattle.drive_cable.specs.DriveCables.{IsOverSame, peer_of, end_of, Leads, no_board}

-- a cable that is whole is not broken
is_whole : (t : Bool) → whole_if (not t) ≡ whole → t ≡ false
is_whole true e = absurd cc
is_whole false e = refl

-- the cable before and after a call: it was whole, and stands over the same peer
pub record Keeps {P : Type 0} (old new : DriveCable P) : Type 0 where
  pub before : whole_if (not old.is_broken) ≡ whole
  pub same_peer : IsOverSame old new
  pub same_sleeps : new.sleeps ≡ old.sleeps

module _ {P : Type 0} (peer : PeerOf P) (old new : DriveCable P) (k : Keeps old new) where
  abbrev Carries : List ℕ → List ℕ → Type 0
  Carries bytes answers = PeerCarried peer.sent peer.left (peer_of old) bytes answers (peer_of new)

  abbrev Made : List Signal → Type 0
  Made signals = Leads peer.sent peer.left old signals new

  leads_by : (signals : List Signal) → HasDriven (PeerCarried peer.sent peer.left) old.sleeps (end_of old) signals (end_of new) → Made signals
  leads_by signals h = record {
    same_peer = k.same_peer;
    same_sleeps = k.same_sleeps;
    drives = record {
      whole = λ e. h;
      broken = λ e. absurd (false≢true (sym (is_whole old.is_broken k.before) ∙ e));
    };
  }

  -- signals that were driven whole
  made_whole : (signals : List Signal) → Carries (bytes_of_signals old.sleeps signals) (answers_of signals) → Made signals
  made_whole signals h =
      leads_by signals (driven (PeerCarried peer.sent peer.left) old.sleeps (end_of old) (end_of new) signals h)

  -- signals of which a front of the bytes was sent, and then a call failed
  made_front : (signals : List Signal) → length signals ≤ 64 → new.is_broken ≡ true →
      BrokeOff peer (peer_of old) (bytes_of_signals old.sleeps signals) (peer_of new) → Made []
  made_front signals few broken h = leads_by [] (driven_front (PeerCarried peer.sent peer.left) old.sleeps (end_of old) (end_of new) signals
      h.part.front h.part.rest h.answers few broken h.part.parts h.part.carried)

  -- a clock
  pub clocked : (tms tdi tdo : Bool) → Carries (bytes_of_input (record { tms = tms; tdi = tdi })) (digit_of tdo ∷ []) →
      IsClocked no_board (Leads peer.sent peer.left) old new tms tdi tdo
  clocked tms tdi tdo h = record {
    made = made_whole (Pulses (record { tms = tms; tdi = tdi; tdo = tdo }) ∷ []) h;
    seen = λ cs e. absurd (none-some cs e);
    cards = refl;
  }

  nothing_made : (inputs : List Input) → length inputs ≤ 64 → new.is_broken ≡ true →
      BrokeOff peer (peer_of old) (bytes_of_inputs inputs) (peer_of new) → HasBrokenOff no_board (Leads peer.sent peer.left) old new []
  nothing_made inputs few broken h = record {
    clocks = [];
    made = made_front (pulsed (unanswered inputs))
        (subst (λ n. n ≤ 64) (sym (length-map (unanswered inputs) Pulses ∙ length-map inputs (λ i. clock_with i false))) few) broken
        (subst (λ v. BrokeOff peer (peer_of old) v (peer_of new))
        (sym (bytes_unanswered old.sleeps inputs)) h);
    went_in = refl;
    seen = λ cs e. absurd (none-some cs e);
    cards = λ cs after e. absurd (none-some cs e);
    untold = λ e. refl;
  }

  pub not_clocked : (tms tdi : Bool) → new.is_broken ≡ true →
      BrokeOff peer (peer_of old) (bytes_of_input (record { tms = tms; tdi = tdi })) (peer_of new) →
      IsClockedOrNot no_board (Leads peer.sent peer.left) old new tms tdi
  not_clocked tms tdi broken h = inl (nothing_made (record { tms = tms; tdi = tdi } ∷ []) (omega arith) broken h)

  -- a block
  pub shifted : (inputs : List Input) (tdo : ℕ) → BlockCarried peer (peer_of old) inputs tdo (peer_of new) →
      HasShifted no_board (Leads peer.sent peer.left) old new inputs tdo
  shifted inputs tdo h = record {
    clocks = h.clocks;
    made = record {
      made = made_whole (pulsed h.clocks)
          (subst (λ v. Carries v (answers_of (pulsed h.clocks))) (sym (bytes_pulsed old.sleeps h.clocks ∙ ap (λ is. bytes_of_inputs is) h.went_in))
          (subst (λ ks. Carries (bytes_of_inputs inputs) (digits_of (tdos ks))) (sym (clocks_in_pulsed h.clocks)) h.carried));
      went_in = h.went_in;
      seen = λ cs e. absurd (none-some cs e);
      cards = refl;
    };
    bits = h.bits;
  }

  pub not_shifted : (inputs : List Input) → length inputs ≤ 64 → new.is_broken ≡ true →
      BrokeOff peer (peer_of old) (bytes_of_inputs inputs) (peer_of new) → HasMadeFront no_board (Leads peer.sent peer.left) old new inputs
  not_shifted inputs few broken h = record {
    front = [];
    rest = inputs;
    parts = refl;
    made = nothing_made inputs few broken h;
  }

  -- a wait, and a frequency
  bytes_waited : (sleeps : Bool) (n : ℕ) → old.sleeps ≡ sleeps → bytes_of_wait sleeps n ≡ bytes_of_signals old.sleeps (Waits n ∷ [])
  bytes_waited sleeps n e = ap (λ s. bytes_of_wait s n) (sym e) ∙ sym (append-nil (bytes_of_wait old.sleeps n))

  pub waited : (sleeps : Bool) → old.sleeps ≡ sleeps → (n : ℕ) → Carries (bytes_of_wait sleeps n) [] →
      IsSignalled no_board (Leads peer.sent peer.left) old new (Waits n)
  waited sleeps e n h = record {
    made = made_whole (Waits n ∷ []) (subst (λ v. Carries v []) (bytes_waited sleeps n e) h);
    cards = refl;
  }

  pub not_waited : (sleeps : Bool) → old.sleeps ≡ sleeps → (n : ℕ) → new.is_broken ≡ true →
      BrokeOff peer (peer_of old) (bytes_of_wait sleeps n) (peer_of new) →
      IsSignalledOrNot no_board (Leads peer.sent peer.left) old new (Waits n)
  not_waited sleeps e n broken h = record {
    made = inl (made_front (Waits n ∷ []) (omega arith) broken
        (subst (λ v. BrokeOff peer (peer_of old) v (peer_of new)) (bytes_waited sleeps n e) h));
    cards = refl;
  }

  pub tuned : (n : ℕ) → Carries [] [] → IsSignalled no_board (Leads peer.sent peer.left) old new (Tunes n)
  tuned n h = record { made = made_whole (Tunes n ∷ []) h; cards = refl }

pub nothing_carried : {P : Type 0} (peer : PeerOf P) (p : P) → PeerCarried peer.sent peer.left p [] [] p
nothing_carried peer p = none_carried peer.sent peer.left p
