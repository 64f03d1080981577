-- On the words of the program: those of a play without its first, of which the action may be missing.
use Rattle.std.proofs.Common.{◌≡◌, ◌⊎◌, inl, inr, ◌+◌, ◌-◌, ◌≤◌, ℕ, List, arith, refl, subst}
use Rattle.play_words.specs.declared.mode.Mode.TheVariants as modes
use Rattle.play_words.specs.declared.requests.FilePlay.{FilePlay}
use Rattle.play_words.specs.declared.requests.Request.{Request}
use Rattle.play_words.specs.declared.requests.Request.TheVariants as requests
use Rattle.play_words.specs.Words.{mode_of, IsRequest, IsUsage, is_unread, is_missing}
use Rattle.play_words.proofs.OneRequest.{one_request, one_usage, no_usage}
use Rattle.play_words.proofs.EveryWords.{request_or_usage}
use Rattle.play_words.proofs.WordLemmas.{one_mode}
use Rattle.quiet_tool.specs.declared.words.Actions.{Actions}
use Rattle.quiet_tool.specs.declared.words.Actions.TheVariants.{Named, Each}
use Rattle.quiet_tool.specs.declared.words.Question.{Question}
use Rattle.quiet_tool.specs.Words.{play_words, named_words, AskAbout, AreNoPlay, AskFor, Ask, HasUsage}

-- the number of a word of the play is not 0
usage_above : {all : List (List ℕ)} {n : ℕ} → IsUsage all n → 1 ≤ n
usage_above (is_unread place first) = omega arith
usage_above (is_missing read lack) = omega arith

usage_less : {all : List (List ℕ)} (n : ℕ) → IsUsage all n → IsUsage all (n - 1 + 1)
usage_less {all = all} n u = let least = usage_above u in let same : n ≡ n - 1 + 1 = omega (arith, least) in subst (IsUsage all) same u

-- at which word they are no play, by an equal number
pub no_play_is : {words : List (List ℕ)} {n m : ℕ} → n ≡ m → AreNoPlay words n → AreNoPlay words m
no_play_is {words = words} e u = subst (AreNoPlay words) e u

pub usage_is : {words : List (List ℕ)} {n m : ℕ} → n ≡ m → HasUsage words n → HasUsage words m
usage_is {words = words} e u = subst (HasUsage words) e u

-- they ask for a play, with an action named before them or without
pub asks_for_play : {words : List (List ℕ)} {request : Request} → IsRequest (play_words words) request → mode_of request ≡ modes.Play
asks_for_play {words = words} {request = request} asks = one_mode (play_words words) (mode_of request) modes.Play asks.mode refl

pub named_for_play : {words : List (List ℕ)} {request : Request} → IsRequest (named_words words) request → mode_of request ≡ modes.Play
named_for_play {words = words} {request = request} asks = one_mode (named_words words) (mode_of request) modes.Play asks.mode refl

asked_play : {words : List (List ℕ)} (request : Request) → IsRequest (play_words words) request → (play : FilePlay) × AskAbout words play
asked_play (requests.Play play) asks = (play, asks)
asked_play request asks = let e : mode_of request ≡ modes.Play = asks_for_play asks in absurd cc

named_play : {words : List (List ℕ)} (request : Request) → IsRequest (named_words words) request → (play : FilePlay) × IsRequest (named_words words) (requests.Play play)
named_play (requests.Play play) asks = (play, asks)
named_play request asks = let e : mode_of request ≡ modes.Play = named_for_play asks in absurd cc

abbrev question_named : FilePlay → Question
question_named play = record { play = play; actions = Named }

abbrev question_each : FilePlay → Question
question_each play = record { play = play; actions = Each }

-- words that are no play ask about each action, or are refused
each_or_refused : (words : List (List ℕ)) (n : ℕ) → AreNoPlay words n → ((question : Question) × Ask words question) ⊎ ((n : ℕ) × HasUsage words n)
each_or_refused words n u = by (request_or_usage (named_words words))
  where
    by : ((request : Request) × IsRequest (named_words words) request) ⊎ ((m : ℕ) × IsUsage (named_words words) m) →
        ((question : Question) × Ask words question) ⊎ ((n : ℕ) × HasUsage words n)
    by (inl asks) =
        let p = named_play asks.0 asks.1 in inl (question_each p.0, record { refused_at = n; no_play = u; with_action = p.1 })
    by (inr unread) = inr (n, record { no_play = u; not_each = λ play asks. no_usage asks unread.1 })

pub asked_or_refused : (words : List (List ℕ)) → ((question : Question) × Ask words question) ⊎ ((n : ℕ) × HasUsage words n)
asked_or_refused words = by (request_or_usage (play_words words))
  where
    by : ((request : Request) × IsRequest (play_words words) request) ⊎ ((n : ℕ) × IsUsage (play_words words) n) →
        ((question : Question) × Ask words question) ⊎ ((n : ℕ) × HasUsage words n)
    by (inl asks) = let p = asked_play asks.0 asks.1 in inl (question_named p.0, p.1)
    by (inr unread) = each_or_refused words (unread.0 - 1) (usage_less unread.0 unread.1)

same_play : (a b : FilePlay) → requests.Play a ≡ requests.Play b → a ≡ b
same_play a b e = cc

same_question : {p q : FilePlay} {a b : Actions} → p ≡ q → a ≡ b →
    ◌≡◌ {A = Question} (record { play = p; actions = a }) (record { play = q; actions = b })
same_question e f = cc

one_play_asked : (words : List (List ℕ)) (a b : Actions) (p q : FilePlay) → AskFor words a p → AskFor words b q → (p ≡ q) × (a ≡ b)
one_play_asked words Named Named p q x y = (same_play p q (one_request x y), refl)
one_play_asked words Each Each p q x y = (same_play p q (one_request x.with_action y.with_action), refl)
one_play_asked words Named Each p q x y = absurd (no_usage x y.no_play)
one_play_asked words Each Named p q x y = absurd (no_usage y x.no_play)

pub one_asked : (words : List (List ℕ)) (a b : Question) → Ask words a → Ask words b → a ≡ b
one_asked words a b x y = let same = one_play_asked words a.actions b.actions a.play b.play x y in same_question same.0 same.1

pub one_refused : (words : List (List ℕ)) (n m : ℕ) → HasUsage words n → HasUsage words m → n ≡ m
one_refused words n m x y = let same : n + 1 ≡ m + 1 = one_usage x.no_play y.no_play in omega (arith, same)

not_for : {words : List (List ℕ)} {n : ℕ} (actions : Actions) (play : FilePlay) → HasUsage words n → AskFor words actions play → ⊥
not_for Named play u asks = no_usage asks u.no_play
not_for Each play u asks = u.not_each play asks.with_action

pub not_both : (words : List (List ℕ)) (n : ℕ) (question : Question) → HasUsage words n → Ask words question → ⊥
not_both words n question u asks = not_for question.actions question.play u asks

-- they are refused if they are no request with an action named before them, either
pub refused_each : {words : List (List ℕ)} {n m : ℕ} → AreNoPlay words n → IsUsage (named_words words) m → HasUsage words n
refused_each u unread = record { no_play = u; not_each = λ play asks. no_usage asks unread }
