-- Calls over a peer, one after another.
use Rattle.std.proofs.Common.{◌≡◌, ℕ, List, [], ◌++◌, map, take, refl, sym, ap, subst, ◌∙◌, append_assoc, Bool, Result, Ok, Err}
use Rattle.std.specs.Prelude.{IsErr}
use Rattle.std.proofs.lemmas.List.{append-nil, map-append}
use Rattle.link_server.specs.Runs.{digit_of}
use Rattle.drive_cable.specs.declared.peer.Peer.{Ghosts as PeerOf}
use Rattle.drive_cable.specs.Peers.{digits_of, PeerCarried, FrontCarried, HasReceived}
use Rattle.drive_cable.specs.PeerLaws.{none_carried, both_carried}
use Rattle.drive_cable.specs.PeerCalls.{BrokeOff, HasCarried}

-- Of these bytes a front was sent, and this rest is still to be sent.
pub record SentUpTo {P : Type 0} (peer : PeerOf P) (old : P) (bytes rest : List ℕ) (new : P) : Type 0 where
  pub front : List ℕ
  pub parts : bytes ≡ front ++ rest
  pub carried : PeerCarried peer.sent peer.left old front [] new

module _ {P : Type 0} (peer : PeerOf P) where
  abbrev Carries : P → List ℕ → List ℕ → P → Type 0
  Carries = PeerCarried peer.sent peer.left

  with_bytes : {a b : P} {xs ys ts : List ℕ} → xs ≡ ys → Carries a xs ts b → Carries a ys ts b
  with_bytes {a = a} {b = b} {ts = ts} e h = subst (λ v. Carries a v ts b) e h

  with_answers : {a b : P} {xs ts bs : List ℕ} → ts ≡ bs → Carries a xs ts b → Carries a xs bs b
  with_answers {a = a} {b = b} {xs = xs} e h = subst (λ v. Carries a xs v b) e h

  broke_with : {a b : P} {xs ys : List ℕ} → xs ≡ ys → BrokeOff peer a xs b → BrokeOff peer a ys b
  broke_with {a = a} {b = b} e h = subst (λ v. BrokeOff peer a v b) e h

  pub both : {a b c : P} {xs ys ts bs : List ℕ} → Carries a xs ts b → Carries b ys bs c → Carries a (xs ++ ys) (ts ++ bs) c
  both {a = a} {b = b} {c = c} {xs = xs} {ys = ys} {ts = ts} {bs = bs} h g =
      both_carried peer.sent peer.left a b c xs ys ts bs h g

  -- at the exit of a `?`
  pub failed : {T E : Type 0} {a b : P} {xs : List ℕ} (ts : List ℕ) (r : Result T E) → IsErr r → BrokeOff peer a xs b → HasCarried peer a xs ts b r
  failed ts (Ok x) is h = absurd cc
  failed ts (Err e) is h = h

  -- nothing more was carried
  pub still : {a b c : P} {xs ts : List ℕ} → Carries a xs ts b → Carries b [] [] c → Carries a xs ts c
  still {xs = xs} {ts = ts} h g = with_bytes (append-nil xs) (with_answers (append-nil ts) (both h g))

  -- all bytes are a front of them
  pub broke_after : {a b : P} {xs ts : List ℕ} → Carries a xs ts b → BrokeOff peer a xs b
  broke_after {xs = xs} {ts = ts} h = record {
    answers = ts;
    part = record { front = xs; rest = []; parts = sym (append-nil xs); carried = h };
  }

  -- more bytes that were to be sent after
  pub broke_longer : {a b : P} {xs : List ℕ} (ys : List ℕ) → BrokeOff peer a xs b → BrokeOff peer a (xs ++ ys) b
  broke_longer ys h = record {
    answers = h.answers;
    part = record {
      front = h.part.front;
      rest = h.part.rest ++ ys;
      parts = ap (λ v. v ++ ys) h.part.parts ∙ append_assoc h.part.front h.part.rest ys;
      carried = h.part.carried;
    };
  }

  -- calls, and then some that broke off
  pub then_broke : {a b c : P} {xs ys ts : List ℕ} → Carries a xs ts b → BrokeOff peer b ys c → BrokeOff peer a (xs ++ ys) c
  then_broke {xs = xs} {ts = ts} h g = record {
    answers = ts ++ g.answers;
    part = record {
      front = xs ++ g.part.front;
      rest = g.part.rest;
      parts = ap (λ v. xs ++ v) g.part.parts ∙ sym (append_assoc xs g.part.front g.part.rest);
      carried = both h g.part.carried;
    };
  }

  -- a last call that carries nothing
  pub still_or_failed : {T E : Type 0} {a b c : P} {xs ts : List ℕ} (r : Result T E) → Carries a xs ts b → Carries b [] [] c → HasCarried peer a xs ts c r
  still_or_failed (Ok x) h g = still h g
  still_or_failed (Err e) h g = broke_after (still h g)

  -- bytes, and then the call that receives
  pub then_received : {T E : Type 0} {a b : P} {xs : List ℕ} (c : P) (ts : List ℕ) (r : Result T E) → Carries a xs [] b → HasCarried peer b [] ts c r → HasCarried peer a xs ts c r
  then_received {xs = xs} c ts (Ok x) h g = with_bytes (append-nil xs) (both h g)
  then_received {xs = xs} c ts (Err e) h g = broke_with (append-nil xs) (then_broke h g)

  -- bits, and then the call that receives more
  pub received_more : {T E : Type 0} {a b : P} (c : P) (bits more all : List Bool) (n : ℕ) (r : Result T E) → HasReceived peer.sent peer.left a bits n b →
      HasCarried peer b [] (digits_of more) c r → all ≡ take n bits ++ more → HasCarried peer a [] (digits_of all) c r
  received_more c bits more all n (Ok x) h g e =
      with_answers (sym (ap (λ v. map digit_of v) e ∙ map-append digit_of (take n bits) more)) (both h.carried g)
  received_more c bits more all n (Err x) h g e = then_broke h.carried g

  -- bytes that are sent in parts
  pub sent_none : (a : P) (bytes : List ℕ) → SentUpTo peer a bytes bytes a
  sent_none a bytes = record { front = []; parts = refl; carried = none_carried peer.sent peer.left a }

  pub sent_more : {a b c : P} {bytes rest : List ℕ} (xs ys : List ℕ) → SentUpTo peer a bytes rest b → rest ≡ xs ++ ys → Carries b xs [] c →
      SentUpTo peer a bytes ys c
  sent_more xs ys h e g = record {
    front = h.front ++ xs;
    parts = h.parts ∙ ap (λ v. h.front ++ v) e ∙ sym (append_assoc h.front xs ys);
    carried = both h.carried g;
  }

  pub sent_whole : {a b : P} {bytes : List ℕ} → SentUpTo peer a bytes [] b → Carries a bytes [] b
  sent_whole h = with_bytes (sym (h.parts ∙ append-nil h.front)) h.carried

  pub sent_broke : {a b c : P} {bytes rest : List ℕ} (xs ys : List ℕ) → SentUpTo peer a bytes rest b → rest ≡ xs ++ ys → BrokeOff peer b xs c →
      BrokeOff peer a bytes c
  sent_broke xs ys h e g = broke_with (sym (h.parts ∙ ap (λ v. h.front ++ v) e)) (then_broke h.carried (broke_longer ys g))

  pub sent_front : {a b c : P} {bytes rest : List ℕ} → SentUpTo peer a bytes rest b → FrontCarried peer.sent peer.left b rest [] c →
      BrokeOff peer a bytes c
  sent_front h g = broke_with (sym h.parts) (then_broke h.carried (record { answers = []; part = g }))
