-- How sessions end: in exactly one way, which the state of the link tells.
use Rattle.std.proofs.Common.{◌≡◌, ◌∙◌, ◌<◌, ◌≤◌, ◌⊎◌, inl, inr, ℕ, zero, suc, List, [], ◌∷◌, length, take, slice_get, Some, true, false, refl, sym, ap, subst, arith}
use Rattle.std.specs.List.{list_all}
use Rattle.std.proofs.Math.Seq.{take-length}
use Rattle.std.proofs.lemmas.Bool.{cases_lt, false≢true, and_parts}
use Rattle.std.proofs.lemmas.Option.{none-some, same_Some, slice_get_within}
use Rattle.dev_card.specs.Card.{Card}
use Rattle.link_server.specs.declared.orders.Order.{Order}
use Rattle.link_server.specs.declared.orders.Order.TheVariants.{Quit, Refused}
use Rattle.link_server.specs.declared.link.LinkState.{LinkState}
use Rattle.link_server.specs.declared.link.LinkState.TheVariants as states
use Rattle.link_server.specs.Orders.{order_of}
use Rattle.link_server.specs.Runs.{LinkAt, link_run, is_open}
use Rattle.link_server.specs.Ends.{goes_on, goes_on_after, EndsAt, IsAllTaken, IsQuitTaken, IsBadLeft}
use Rattle.link_server.proofs.Cuts.{how_it_ends}
use Rattle.link_tool.specs.declared.status.LinkStatus.{LinkStatus}
use Rattle.link_tool.specs.declared.status.LinkStatus.TheVariants.{Done, BadByte, TooLong}
use Rattle.link_tool.specs.Statuses.{IsFault, ComesBeforeFitting}
use Rattle.link_tool.specs.Sessions.{most_bytes, session_bytes, link_to, AllGoOn, EndsWith, at_quit, at_end, at_bad_byte, at_limit}

-- ---- one end

goes_before : (bytes : List ℕ) (m n b : ℕ) → list_all goes_on_after (take m bytes) ≡ true → n < m → slice_get bytes n ≡ Some b → goes_on_after b ≡ true
goes_before [] m n b all lt is = absurd (none-some b is)
goes_before (x ∷ bytes) zero n b all lt is = absurd (omega arith)
goes_before (x ∷ bytes) (suc m) zero b all lt is =
    let parts = and_parts (goes_on_after x) (list_all goes_on_after (take m bytes)) all in
    ap goes_on_after (sym (same_Some x b is)) ∙ parts.0
goes_before (x ∷ bytes) (suc m) (suc n) b all lt is =
    let parts = and_parts (goes_on_after x) (list_all goes_on_after (take m bytes)) all in
    goes_before bytes m n b parts.1 (omega (arith, lt)) is

stops : (o : Order) (bytes : List ℕ) (n : ℕ) (e : EndsAt o bytes n) → goes_on o ≡ false → goes_on_after e.byte ≡ false
stops o bytes n e stop = ap goes_on e.means ∙ stop

not_before : (o p : Order) (bytes : List ℕ) (n m : ℕ) → EndsAt o bytes n → EndsAt p bytes m → goes_on o ≡ false → n < m → ⊥
not_before o p bytes n m x y stop lt = false≢true (sym (stops o bytes n x stop) ∙ goes_before bytes m n x.byte y.before lt x.stands)

one_place : (o p : Order) (bytes : List ℕ) (n m : ℕ) → EndsAt o bytes n → EndsAt p bytes m → goes_on o ≡ false → goes_on p ≡ false → n ≡ m
one_place o p bytes n m x y stop halt = by (cases_lt n m) (cases_lt m n)
  where
    by : (n < m) ⊎ (m ≤ n) → (m < n) ⊎ (n ≤ m) → n ≡ m
    by (inl lt) other = absurd (not_before o p bytes n m x y stop lt)
    by (inr le) (inl lt) = absurd (not_before p o bytes m n y x halt lt)
    by (inr le) (inr ge) = omega (arith, le, ge)

one_meaning : (o p : Order) (bytes : List ℕ) (n m : ℕ) → EndsAt o bytes n → EndsAt p bytes m → n ≡ m → o ≡ p
one_meaning o p bytes n m x y e =
    let same : x.byte ≡ y.byte = same_Some x.byte y.byte (sym x.stands ∙ ap (slice_get bytes) e ∙ y.stands) in
    sym x.means ∙ ap order_of same ∙ y.means

quit_or_refused : (bytes : List ℕ) (n m : ℕ) → EndsAt Quit bytes n → EndsAt Refused bytes m → ⊥
quit_or_refused bytes n m x y =
    let same : Quit ≡ Refused = one_meaning Quit Refused bytes n m x y (one_place Quit Refused bytes n m x y refl refl) in
    cc

all_or_end : (o : Order) (bytes : List ℕ) (n : ℕ) → AllGoOn bytes → EndsAt o bytes n → goes_on o ≡ false → ⊥
all_or_end o bytes n all x stop =
    let front : list_all goes_on_after (take (length bytes) bytes) ≡ true = ap (list_all goes_on_after) (take-length bytes) ∙ all in
    false≢true (sym (stops o bytes n x stop) ∙ goes_before bytes (length bytes) n x.byte front (slice_get_within bytes n x.byte x.stands) x.stands)

pub one_end : (bytes : List ℕ) (s t : LinkStatus) → EndsWith bytes s → EndsWith bytes t → s ≡ t
one_end bytes s t (at_quit n x) (at_quit m y) = refl
one_end bytes s t (at_quit n x) (at_end short y) = refl
one_end bytes s t (at_quit n x) (at_bad_byte i y) = absurd (quit_or_refused (session_bytes bytes) n i x y)
one_end bytes s t (at_quit n x) (at_limit long y) = absurd (all_or_end Quit (session_bytes bytes) n y x refl)
one_end bytes s t (at_end short x) (at_quit m y) = refl
one_end bytes s t (at_end short x) (at_end less y) = refl
one_end bytes s t (at_end short x) (at_bad_byte i y) = absurd (all_or_end Refused (session_bytes bytes) i x y refl)
one_end bytes s t (at_end short x) (at_limit long y) = absurd (omega (arith, short, long))
one_end bytes s t (at_bad_byte i x) (at_quit m y) = absurd (quit_or_refused (session_bytes bytes) m i y x)
one_end bytes s t (at_bad_byte i x) (at_end less y) = absurd (all_or_end Refused (session_bytes bytes) i y x refl)
one_end bytes s t (at_bad_byte i x) (at_bad_byte j y) = ap BadByte (one_place Refused Refused (session_bytes bytes) i j x y refl refl)
one_end bytes s t (at_bad_byte i x) (at_limit long y) = absurd (all_or_end Refused (session_bytes bytes) i y x refl)
one_end bytes s t (at_limit long x) (at_quit m y) = absurd (all_or_end Quit (session_bytes bytes) m x y refl)
one_end bytes s t (at_limit long x) (at_end less y) = absurd (omega (arith, long, less))
one_end bytes s t (at_limit long x) (at_bad_byte i y) = absurd (all_or_end Refused (session_bytes bytes) i x y refl)
one_end bytes s t (at_limit long x) (at_limit more y) = refl

-- ---- always an end

pub some_end : (bytes : List ℕ) → (status : LinkStatus) × EndsWith bytes status
some_end bytes = by (how_it_ends (session_bytes bytes) (link_to []) refl)
  where
    by_length : AllGoOn (session_bytes bytes) → (most_bytes < length bytes) ⊎ (length bytes ≤ most_bytes) → (status : LinkStatus) × EndsWith bytes status
    by_length all (inl long) = (TooLong, at_limit long all)
    by_length all (inr short) = (Done, at_end short all)

    by : IsAllTaken (link_to []) (session_bytes bytes) ⊎ (IsQuitTaken (link_to []) (session_bytes bytes) ⊎ IsBadLeft (link_to []) (session_bytes bytes)) →
        (status : LinkStatus) × EndsWith bytes status
    by (inl a) = by_length a.none (cases_lt most_bytes (length bytes))
    by (inr (inl a)) = (Done, at_quit a.place a.ends)
    by (inr (inr a)) = (BadByte a.place, at_bad_byte a.place a.ends)

-- ---- by the state of the link

-- an open session took all
pub all_taken : (at : LinkAt) (bytes : List ℕ) → is_open at.link.state ≡ true → is_open (link_run at bytes).end.link.state ≡ true → (link_run at bytes).taken ≡ length bytes
all_taken at bytes first last = by (how_it_ends bytes at first)
  where
    by : IsAllTaken at bytes ⊎ (IsQuitTaken at bytes ⊎ IsBadLeft at bytes) → (link_run at bytes).taken ≡ length bytes
    by (inl a) = a.taken
    by (inr (inl a)) = absurd (false≢true (sym (ap is_open a.quit) ∙ last))
    by (inr (inr a)) = absurd (false≢true (sym (ap is_open a.bad) ∙ last))

module _ (board : List Card) (bytes : List ℕ) where
  abbrev state : LinkState
  state = (link_run (link_to board) (session_bytes bytes)).end.link.state

  abbrev Ends : Type 0
  Ends = IsAllTaken (link_to board) (session_bytes bytes) ⊎ (IsQuitTaken (link_to board) (session_bytes bytes) ⊎ IsBadLeft (link_to board) (session_bytes bytes))

  ends : Ends
  ends = how_it_ends (session_bytes bytes) (link_to board) refl

  pub open_end : is_open (link_run (link_to board) (session_bytes bytes)).end.link.state ≡ true → AllGoOn (session_bytes bytes)
  open_end e = by ends
    where
      by : Ends → AllGoOn (session_bytes bytes)
      by (inl a) = a.none
      by (inr (inl a)) = absurd (false≢true (sym (ap is_open a.quit) ∙ e))
      by (inr (inr a)) = absurd (false≢true (sym (ap is_open a.bad) ∙ e))

  pub quit_end : (link_run (link_to board) (session_bytes bytes)).end.link.state ≡ states.Quit → EndsWith bytes Done
  quit_end e = by ends
    where
      by : Ends → EndsWith bytes Done
      by (inl a) = let f : states.Open ≡ states.Quit = sym a.still_open ∙ e in cc
      by (inr (inl a)) = at_quit a.place a.ends
      by (inr (inr a)) = let f : states.Bad ≡ states.Quit = sym a.bad ∙ e in cc

  pub bad_end : (link_run (link_to board) (session_bytes bytes)).end.link.state ≡ states.Bad → EndsWith bytes (BadByte (link_run (link_to board) (session_bytes bytes)).taken)
  bad_end e = by ends
    where
      by : Ends → EndsWith bytes (BadByte (link_run (link_to board) (session_bytes bytes)).taken)
      by (inl a) = let f : states.Open ≡ states.Bad = sym a.still_open ∙ e in cc
      by (inr (inl a)) = let f : states.Quit ≡ states.Bad = sym a.quit ∙ e in cc
      by (inr (inr a)) = subst (λ n. EndsWith bytes (BadByte n)) (sym a.taken) (at_bad_byte a.place a.ends)

-- ---- the status of an end

pub end_is_no_fault : {bytes : List ℕ} {status : LinkStatus} → EndsWith bytes status → IsFault status → ⊥
end_is_no_fault (at_quit n x) p = p
end_is_no_fault (at_end short x) p = p
end_is_no_fault (at_bad_byte i x) p = p
end_is_no_fault (at_limit long x) p = p

pub end_is_late : {bytes : List ℕ} {status : LinkStatus} → EndsWith bytes status → ComesBeforeFitting status → ⊥
end_is_late (at_quit n x) p = p
end_is_late (at_end short x) p = p
end_is_late (at_bad_byte i x) p = p
end_is_late (at_limit long x) p = p
