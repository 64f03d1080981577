-- The words ask for one play over one wire, or they have one first word that is not as stated.
use Rattle.std.proofs.Common.{◌≡◌, ◌∙◌, ◌<◌, ◌+◌, ◌-◌, ◌⊎◌, inl, inr, ℕ, zero, suc, Bool, false, List, length, drop, codes, slice_get, Option, None, Some, IsSomeAnd, refl, sym, ap, subst, arith}
use Rattle.std.proofs.lemmas.Bool.{cases_lt}
use Rattle.command_words.specs.KeyedWords.{NamesPath, SaysAnswer}
use Rattle.command_words.proofs.FoundOrNot.{IsFoundOrNot, answer_or_not}
use Rattle.command_words.proofs.ValueLemmas.{one_answer}
use Rattle.named_files.specs.Words.{NamesAt}
use Rattle.named_files.proofs.WordLemmas.{one_named, found_at}
use Rattle.play_words.specs.declared.requests.FilePlay.{FilePlay}
use Rattle.play_words.specs.declared.requests.Request.{Request}
use Rattle.play_words.specs.declared.requests.Request.TheVariants as requests
use Rattle.play_words.specs.declared.mode.Mode.TheVariants as modes
use Rattle.play_words.specs.Words.{mode_of, IsRequest, IsUsage}
use Rattle.play_words.proofs.OneRequest.{one_request, one_usage, no_usage}
use Rattle.play_words.proofs.EveryWords.{request_or_usage}
use Rattle.drive_tool.specs.Words.{WireNames, AskWaits, waits_said, waits_unsaid, NamesWire, play_words, AsksForReport, HasNoReport, AskForPlay, HasPlayUsage, not_read, reports, AskToDrive, HasUsage, no_send, no_receive, no_play}
use Rattle.drive_tool.proofs.WordLemmas.{no_report_more, no_report_ever, report_first, report_in_play, usage_less, asks_for_play}

-- ---- one

one_says : (key : List ℕ) (word : Option (List ℕ)) (a b : Bool) → IsSomeAnd word (λ w. SaysAnswer key w a) → IsSomeAnd word (λ w. SaysAnswer key w b) → a ≡ b
one_says key None a b x y = absurd x
one_says key (Some word) a b x y = one_answer key word a b x y

record SameWaits (a b : Bool) (n m : ℕ) : Type 0 where
  pub sleeps : a ≡ b
  pub count : n ≡ m

one_waits : {words : List (List ℕ)} {a b : Bool} {n m : ℕ} → AskWaits words a n → AskWaits words b m → SameWaits a b n m
one_waits {words = words} (waits_said a x) (waits_said b y) = record { sleeps = one_says (codes "sleep=") (slice_get words 2) a b x y; count = refl }
one_waits (waits_said a x) (waits_unsaid none) = absurd (none a x)
one_waits (waits_unsaid none) (waits_said b y) = absurd (none b y)
one_waits (waits_unsaid none) (waits_unsaid other) = record { sleeps = refl; count = refl }

wire_is : (a b : WireNames) → a.send ≡ b.send → a.receive ≡ b.receive → a.sleeps ≡ b.sleeps → a ≡ b
wire_is a b e f g =
    ap (λ (x : List ℕ). record { send = x; receive = a.receive; sleeps = a.sleeps }) e
    ∙ ap (λ (x : List ℕ). record { send = b.send; receive = x; sleeps = a.sleeps }) f
    ∙ ap (λ (x : Bool). record { send = b.send; receive = b.receive; sleeps = x }) g

one_wire : {words : List (List ℕ)} {a b : WireNames} {n m : ℕ} → NamesWire words a n → NamesWire words b m → (a ≡ b) × (n ≡ m)
one_wire {words = words} {a = a} {b = b} x y =
    let w = one_waits x.waits y.waits in
    (wire_is a b (one_named (codes "send=") words 0 a.send b.send x.sends y.sends) (one_named (codes "receive=") words 1 a.receive b.receive x.receives y.receives) w.sleeps, w.count)

same_play : (a b : FilePlay) → requests.Play a ≡ requests.Play b → a ≡ b
same_play a b e = cc

pub one_asked : (words : List (List ℕ)) (v w : WireNames) (a b : FilePlay) → AskToDrive words v a → AskToDrive words w b → (v ≡ w) × (a ≡ b)
one_asked words v w a b x y =
    let e = one_wire x.named y.named in
    (e.0, same_play a b (one_request x.asked.asked (subst (λ (n : ℕ). IsRequest (play_words (drop n words)) (requests.Play b)) (sym e.1) y.asked.asked)))

one_play_usage : {words : List (List ℕ)} {n m : ℕ} → HasPlayUsage words n → HasPlayUsage words m → n ≡ m
one_play_usage (not_read n u none) (not_read m v other) = let same : n + 1 ≡ m + 1 = one_usage u v in omega (arith, same)
one_play_usage (not_read n u none) (reports place asks first before) = absurd (none place (before n u) asks)
one_play_usage (reports place asks first before) (not_read n u none) = absurd (none place (before n u) asks)
one_play_usage (reports p x none before) (reports q y other later) = elim (cases_lt p q) [
  | inl less ↦ absurd (other p less x)
  | inr le ↦ elim (cases_lt q p) [ inl less ↦ absurd (none q less y) | inr ge ↦ omega (arith, le, ge) ]
]

play_or_usage_not_both : {words : List (List ℕ)} {n : ℕ} {play : FilePlay} → HasPlayUsage words n → AskForPlay words play → ⊥
play_or_usage_not_both (not_read n u none) asks = no_usage asks.asked u
play_or_usage_not_both {words = words} (reports place x first before) asks = no_report_ever words (place + 1) asks.no_report place (omega arith) x

pub one_refused : (words : List (List ℕ)) (n m : ℕ) → HasUsage words n → HasUsage words m → n ≡ m
one_refused words n m (no_send none) (no_send other) = refl
one_refused words n m (no_send none) (no_receive send is other) = absurd (none send is)
one_refused words n m (no_send none) (no_play wire count k named u) = absurd (none wire.send named.sends)
one_refused words n m (no_receive send is none) (no_send other) = absurd (other send is)
one_refused words n m (no_receive send is none) (no_receive send2 is2 other) = refl
one_refused words n m (no_receive send is none) (no_play wire count k named u) = absurd (none wire.receive named.receives)
one_refused words n m (no_play wire count k named u) (no_send other) = absurd (other wire.send named.sends)
one_refused words n m (no_play wire count k named u) (no_receive send is other) = absurd (other wire.receive named.receives)
one_refused words n m (no_play wire count k named u) (no_play wires counts l names v) =
    let e = (one_wire named names).1 in
    let same = one_play_usage u (subst (λ (c : ℕ). HasPlayUsage (drop c words) l) (sym e) v) in
    ap (λ (c : ℕ). c + k) e ∙ ap (λ (z : ℕ). counts + z) same

pub not_both : (words : List (List ℕ)) (n : ℕ) (wire : WireNames) (play : FilePlay) → HasUsage words n → AskToDrive words wire play → ⊥
not_both words n wire play (no_send none) asks = none wire.send asks.named.sends
not_both words n wire play (no_receive send is none) asks = none wire.receive asks.named.receives
not_both words n wire play (no_play wires count k named u) asks =
    play_or_usage_not_both u (subst (λ (c : ℕ). AskForPlay (drop c words) play) (one_wire asks.named named).1 asks.asked)

-- ---- always one

said_or_not : (key : List ℕ) (word : Option (List ℕ)) → IsFoundOrNot (λ answer. IsSomeAnd word (λ w. SaysAnswer key w answer))
said_or_not key None = inr (λ answer h. h)
said_or_not key (Some word) = answer_or_not key word

-- the first n words have a first report, or none
first_report : (words : List (List ℕ)) (n : ℕ) → ((place : ℕ) × (place < n) × AsksForReport words place × HasNoReport words place) ⊎ HasNoReport words n
first_report words zero = inr (λ place before asks. absurd (omega (arith, before)))
first_report words (suc n) = by (first_report words n) (said_or_not (codes "report=") (slice_get words n))
  where
    by : ((place : ℕ) × (place < n) × AsksForReport words place × HasNoReport words place) ⊎ HasNoReport words n →
        IsFoundOrNot (λ answer. IsSomeAnd (slice_get words n) (λ w. SaysAnswer (codes "report=") w answer)) →
        ((place : ℕ) × (place < suc n) × AsksForReport words place × HasNoReport words place) ⊎ HasNoReport words (suc n)
    by (inl (place, before, asks, none)) found = inl (place, omega (arith, before), asks, none)
    by (inr none) (inl found) = inl (n, omega arith, found, none)
    by (inr none) (inr never) = let e : suc n ≡ n + 1 = omega arith in inr (no_report_more words n (suc n) e none never)

asked_play : {words : List (List ℕ)} (request : Request) → IsRequest (play_words words) request → (play : FilePlay) × IsRequest (play_words words) (requests.Play play)
asked_play (requests.Play play) asks = (play, asks)
asked_play request asks = let e : mode_of request ≡ modes.Play = asks_for_play asks in absurd cc

play_or_usage : (words : List (List ℕ)) → ((play : FilePlay) × AskForPlay words play) ⊎ ((n : ℕ) × HasPlayUsage words n)
play_or_usage words = by (request_or_usage (play_words words))
  where
    by_report : (request : Request) → IsRequest (play_words words) request →
        ((place : ℕ) × (place < length words) × AsksForReport words place × HasNoReport words place) ⊎ HasNoReport words (length words) →
        ((play : FilePlay) × AskForPlay words play) ⊎ ((n : ℕ) × HasPlayUsage words n)
    by_report request asks (inl (place, within, reported, none)) = inr (place + 1, report_in_play place reported none asks)
    by_report request asks (inr none) = let p = asked_play request asks in inl (p.0, record { asked = p.1; no_report = none })

    by_usage : (n : ℕ) → IsUsage (play_words words) (n + 1) → ((place : ℕ) × (place < n) × AsksForReport words place × HasNoReport words place) ⊎ HasNoReport words n →
        (n : ℕ) × HasPlayUsage words n
    by_usage n u (inl (place, before, reported, none)) = (place + 1, report_first n place reported none u before)
    by_usage n u (inr none) = (n, not_read n u none)

    by : ((request : Request) × IsRequest (play_words words) request) ⊎ ((n : ℕ) × IsUsage (play_words words) n) →
        ((play : FilePlay) × AskForPlay words play) ⊎ ((n : ℕ) × HasPlayUsage words n)
    by (inl asks) = by_report asks.0 asks.1 (first_report words (length words))
    by (inr unread) = inr (by_usage (unread.0 - 1) (usage_less unread.0 unread.1) (first_report words (unread.0 - 1)))

some_waits : (words : List (List ℕ)) → (sleeps : Bool) × (count : ℕ) × AskWaits words sleeps count
some_waits words = by (said_or_not (codes "sleep=") (slice_get words 2))
  where
    by : IsFoundOrNot (λ answer. IsSomeAnd (slice_get words 2) (λ w. SaysAnswer (codes "sleep=") w answer)) → (sleeps : Bool) × (count : ℕ) × AskWaits words sleeps count
    by (inl found) = (found.0, 3, waits_said found.0 found.1)
    by (inr none) = (false, 2, waits_unsaid none)

-- the words ask for a play over a wire, or one of them is refused
abbrev pub IsAskedOrRefused : List (List ℕ) → Type 0
IsAskedOrRefused words = ((wire : WireNames) × (play : FilePlay) × AskToDrive words wire play) ⊎ ((n : ℕ) × HasUsage words n)

pub asked_or_refused : (words : List (List ℕ)) → IsAskedOrRefused words
asked_or_refused words = by_send (found_at (codes "send=") (slice_get words 0))
  where
    by_play : (wire : WireNames) (count : ℕ) → NamesWire words wire count →
        ((play : FilePlay) × AskForPlay (drop count words) play) ⊎ ((n : ℕ) × HasPlayUsage (drop count words) n) → IsAskedOrRefused words
    by_play wire count named (inl (play, asks)) = inl (wire, play, record { count = count; named = named; asked = asks })
    by_play wire count named (inr (n, u)) = inr (count + n, no_play wire count n named u)

    by_receive : (send : List ℕ) → NamesAt (codes "send=") words 0 send → IsFoundOrNot (λ path. IsSomeAnd (slice_get words 1) (λ w. NamesPath (codes "receive=") w path)) → IsAskedOrRefused words
    by_receive send is (inr none) = inr (2, no_receive send is none)
    by_receive send is (inl receive) =
        let w = some_waits words in
        by_play (record { send = send; receive = receive.0; sleeps = w.0 }) w.1 (record { sends = is; receives = receive.1; waits = w.2 }) (play_or_usage (drop w.1 words))

    by_send : IsFoundOrNot (λ path. IsSomeAnd (slice_get words 0) (λ w. NamesPath (codes "send=") w path)) → IsAskedOrRefused words
    by_send (inr none) = inr (1, no_send none)
    by_send (inl send) = by_receive send.0 send.1 (found_at (codes "receive=") (slice_get words 1))
