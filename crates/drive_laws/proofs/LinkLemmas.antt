-- What a link answers to a client's bytes: the digits of the TDO bits of its board, up to where its session ends.
use Rattle.std.proofs.Common.{◌≡◌, ◌≢◌, ◌<◌, ◌≤◌, ◌+◌, ◌/◌, ◌%◌, ℕ, zero, suc, Bool, true, false, List, [], ◌∷◌, ◌++◌, length, take, map, replicate, refl, sym, ap, ◌∙◌, arith, append_assoc, length-append}
use Rattle.std.proofs.lemmas.Bool.{false≢true}
use Rattle.std.proofs.lemmas.List.{append-nil}
use Rattle.dev_card.specs.Card.{Card}
use Rattle.dev_card.specs.Board.{Input, Clock, clock_with, board_tdo, board_step, board_after, after_input, clocks_of, tdos}
use Rattle.scan_paths.specs.Cables.{Signal, Pulses, Waits, Tunes, clocks_in, input_of}
use Rattle.link_server.specs.declared.link.LinkState.{LinkState}
use Rattle.link_server.specs.declared.link.LinkState.TheVariants as states
use Rattle.link_server.specs.declared.orders.Order.TheVariants.{Refused}
use Rattle.link_server.specs.Orders.{order_of, asking_byte, quitting_byte}
use Rattle.link_server.specs.Ends.{level_byte}
use Rattle.link_server.specs.Runs.{LinkAt, link_after, answers_to, after_byte, answer_to_byte, after_order, answer_to, digit_of}
use Rattle.link_server.specs.Clients.{bytes_of_input, bytes_of_signals, answers_of}
use Rattle.link_server.proofs.FeedLemmas.{closed_after, closed_answers}

-- what goes in at the clocks among signals
abbrev pub inputs_of : List Signal → List Input
inputs_of signals = map input_of (clocks_in signals)

-- an open session to a board
abbrev pub open_at : Bool → List Card → LinkAt
open_at tck cs = record { link = record { tck = tck; state = states.Open }; board = cs }

-- the digits that a board answers
abbrev pub board_digits : List Card → List Input → List ℕ
board_digits cs inputs = map digit_of (tdos (clocks_of cs inputs))

-- Bytes to which no front has an answer, and which clock no board.
abbrev pub ClockNothing : List ℕ → Type 0
ClockNothing tail =
    (n : ℕ) (at : LinkAt) → (answers_to at (take n tail) ≡ []) × ((link_after at (take n tail)).board ≡ at.board)

-- The first n of a client's bytes, and of what it sends after them, are answered by the first digits of the board.
-- Where all digits are answered and n does not end within a clock, all clocks of the board are made. All are answered
-- where all bytes were sent and none is a wait.
record IsAnsweredUpTo (sleeps : Bool) (n : ℕ) (tck : Bool) (cs : List Card) (bytes tail : List ℕ)
    (inputs : List Input) : Type 0 where
  rest : List ℕ
  parts : answers_to (open_at tck cs) (take n (bytes ++ tail)) ++ rest ≡ board_digits cs inputs
  leaves : rest ≡ [] → n % 3 ≢ 2 → (link_after (open_at tck cs) (take n (bytes ++ tail))).board ≡ board_after cs inputs
  whole : sleeps ≡ false → length bytes ≤ n → rest ≡ []

tdo_of_some : (cs : List Card) (s t : Bool) → 0 < length cs → board_tdo cs s ≡ board_tdo cs t
tdo_of_some [] s t some = absurd (omega (arith, some))
tdo_of_some (c ∷ cs) s t some = refl

some_after : (cs : List Card) (i : Input) → 0 < length cs → 0 < length (after_input cs i)
some_after [] i some = absurd (omega (arith, some))
some_after (c ∷ cs) i some = omega arith

-- where no digit is left, no clock is
no_digits : (cs : List Card) (inputs : List Input) → board_digits cs inputs ≡ [] → board_after cs inputs ≡ cs
no_digits cs [] e = refl
no_digits cs (i ∷ is) e = absurd (cc)

nothing_sent : (sleeps tck : Bool) (n : ℕ) (cs : List Card) (tail : List ℕ) → ClockNothing tail →
    IsAnsweredUpTo sleeps n tck cs [] tail []
nothing_sent sleeps tck n cs tail quiet = record {
  rest = [];
  parts = ap (λ (xs : List ℕ). xs ++ []) (quiet n (open_at tck cs)).0;
  leaves = λ e f. (quiet n (open_at tck cs)).1;
  whole = λ e le. refl;
}

-- ---- one clock

first_byte : (tms tdi tck : Bool) (cs : List Card) → answers_to (open_at tck cs) (level_byte false tms tdi ∷ []) ≡ []
first_byte true true tck cs = refl
first_byte true false tck cs = refl
first_byte false true tck cs = refl
first_byte false false tck cs = refl

two_bytes : (tms tdi tck : Bool) (cs : List Card) →
    answers_to (open_at tck cs) (level_byte false tms tdi ∷ asking_byte ∷ []) ≡ digit_of (board_tdo cs false) ∷ []
two_bytes true true tck cs = refl
two_bytes true false tck cs = refl
two_bytes false true tck cs = refl
two_bytes false false tck cs = refl

clock_answers : (i : Input) (tck : Bool) (cs : List Card) (bytes : List ℕ) →
    answers_to (open_at tck cs) (bytes_of_input i ++ bytes)
    ≡ digit_of (board_tdo cs false) ∷ answers_to (open_at true (after_input cs i)) bytes
clock_answers i tck cs bytes = by i.tms i.tdi
  where
    by : (tms tdi : Bool) → answers_to (open_at tck cs) (bytes_of_input (record { tms = tms; tdi = tdi }) ++ bytes)
        ≡ digit_of (board_tdo cs false) ∷ answers_to (open_at true (board_step cs tms tdi)) bytes
    by true true = refl
    by true false = refl
    by false true = refl
    by false false = refl

clock_leaves : (i : Input) (tck : Bool) (cs : List Card) (bytes : List ℕ) →
    link_after (open_at tck cs) (bytes_of_input i ++ bytes) ≡ link_after (open_at true (after_input cs i)) bytes
clock_leaves i tck cs bytes = by i.tms i.tdi
  where
    by : (tms tdi : Bool) → link_after (open_at tck cs) (bytes_of_input (record { tms = tms; tdi = tdi }) ++ bytes)
        ≡ link_after (open_at true (board_step cs tms tdi)) bytes
    by true true = refl
    by true false = refl
    by false true = refl
    by false false = refl

three_more : (m : ℕ) → suc (suc (suc m)) % 3 ≡ m % 3
three_more m = omega arith

clock_up_to : (sleeps tck : Bool) (n : ℕ) (cs : List Card) (i : Input) (bytes tail : List ℕ) (is : List Input) →
    0 < length cs → ((m : ℕ) → IsAnsweredUpTo sleeps m true (after_input cs i) bytes tail is) →
    IsAnsweredUpTo sleeps n tck cs (bytes_of_input i ++ bytes) tail (i ∷ is)
clock_up_to sleeps tck zero cs i bytes tail is some later = record {
  rest = board_digits cs (i ∷ is);
  parts = refl;
  leaves = λ e f. absurd (cc);
  whole = λ e le. absurd (omega (arith, le));
}
clock_up_to sleeps tck (suc zero) cs i bytes tail is some later = record {
  rest = board_digits cs (i ∷ is);
  parts = ap (λ (xs : List ℕ). xs ++ board_digits cs (i ∷ is)) (first_byte i.tms i.tdi tck cs);
  leaves = λ e f. absurd (cc);
  whole = λ e le. absurd (omega (arith, le));
}
clock_up_to sleeps tck (suc (suc zero)) cs i bytes tail is some later = record {
  rest = board_digits (after_input cs i) is;
  parts = ap (λ (xs : List ℕ). xs ++ board_digits (after_input cs i) is) (two_bytes i.tms i.tdi tck cs)
      ∙ ap (λ b. digit_of b ∷ board_digits (after_input cs i) is) (tdo_of_some cs false i.tdi some);
  leaves = λ e f. absurd (f refl);
  whole = λ e le. absurd (omega (arith, le));
}
clock_up_to sleeps tck (suc (suc (suc m))) cs i bytes tail is some later =
    let u = later m in
    let cut : List ℕ = take m (bytes ++ tail) in
    record {
      rest = u.rest;
      parts = ap (λ (xs : List ℕ). xs ++ u.rest) (clock_answers i tck cs cut)
          ∙ ap (λ (xs : List ℕ). digit_of (board_tdo cs false) ∷ xs) u.parts
          ∙ ap (λ b. digit_of b ∷ board_digits (after_input cs i) is) (tdo_of_some cs false i.tdi some);
      leaves = λ e f. ap (λ (a : LinkAt). a.board) (clock_leaves i tck cs cut) ∙ u.leaves e (λ g. f (three_more m ∙ g));
      whole = λ e le. u.whole e (omega (arith, le));
    }

-- ---- a wait

-- a byte that is refused, or nothing of it
refused_up_to : (n b : ℕ) (tck : Bool) (cs : List Card) (bytes tail : List ℕ) (is : List Input) → order_of b ≡ Refused →
    IsAnsweredUpTo true n tck cs (b ∷ bytes) tail is
refused_up_to zero b tck cs bytes tail is bad = record {
  rest = board_digits cs is;
  parts = refl;
  leaves = λ e f. sym (no_digits cs is e);
  whole = λ e le. absurd (false≢true (sym e));
}
refused_up_to (suc m) b tck cs bytes tail is bad =
    let at : LinkAt = open_at tck cs in
    let shut : LinkAt = record { link = record { tck = tck; state = states.Bad }; board = cs } in
    let after : after_byte at b ≡ shut = ap (after_order at) bad in
    let none : answer_to_byte at b ≡ [] = ap (answer_to at) bad in
    let cut : List ℕ = take m (bytes ++ tail) in
    let answers : answers_to at (b ∷ cut) ≡ [] =
    ap (λ (xs : List ℕ). xs ++ answers_to (after_byte at b) cut) none
    ∙ ap (λ a. answers_to a cut) after ∙ closed_answers shut cut refl in
    let left : link_after at (b ∷ cut) ≡ shut = ap (λ a. link_after a cut) after ∙ closed_after shut cut refl in
    record {
      rest = board_digits cs is;
      parts = ap (λ (xs : List ℕ). xs ++ board_digits cs is) answers;
      leaves = λ e f. ap (λ (a : LinkAt). a.board) left ∙ sym (no_digits cs is e);
      whole = λ e le. absurd (false≢true (sym e));
    }

wait_up_to : (milli micro n : ℕ) (tck : Bool) (cs : List Card) (bytes tail : List ℕ) (is : List Input) →
    IsAnsweredUpTo true n tck cs bytes tail is →
    IsAnsweredUpTo true n tck cs ((replicate milli 90 ++ replicate micro 122) ++ bytes) tail is
wait_up_to zero zero n tck cs bytes tail is u = u
wait_up_to zero (suc micro) n tck cs bytes tail is u =
    refused_up_to n 122 tck cs (replicate micro 122 ++ bytes) tail is refl
wait_up_to (suc milli) micro n tck cs bytes tail is u =
    refused_up_to n 90 tck cs ((replicate milli 90 ++ replicate micro 122) ++ bytes) tail is refl

-- ---- all signals

answered_up_to : (signals : List Signal) (sleeps tck : Bool) (n : ℕ) (cs : List Card) (tail : List ℕ) →
    0 < length cs → ClockNothing tail →
    IsAnsweredUpTo sleeps n tck cs (bytes_of_signals sleeps signals) tail (inputs_of signals)
answered_up_to [] sleeps tck n cs tail some quiet = nothing_sent sleeps tck n cs tail quiet
answered_up_to (Pulses k ∷ signals) sleeps tck n cs tail some quiet =
    clock_up_to sleeps tck n cs (input_of k) (bytes_of_signals sleeps signals) tail (inputs_of signals) some
    (λ m. answered_up_to signals sleeps true m (after_input cs (input_of k)) tail
    (some_after cs (input_of k) some) quiet)
answered_up_to (Waits usec ∷ signals) false tck n cs tail some quiet =
    answered_up_to signals false tck n cs tail some quiet
answered_up_to (Waits usec ∷ signals) true tck n cs tail some quiet =
    wait_up_to (usec / 1000) (usec % 1000) n tck cs (bytes_of_signals true signals) tail (inputs_of signals)
    (answered_up_to signals true tck n cs tail some quiet)
answered_up_to (Tunes hertz ∷ signals) sleeps tck n cs tail some quiet =
    answered_up_to signals sleeps tck n cs tail some quiet

-- ---- what equal answers tell

same_digit : (s t : Bool) → digit_of s ≡ digit_of t → s ≡ t
same_digit true true e = refl
same_digit true false e = absurd (omega (arith, e))
same_digit false true e = absurd (omega (arith, e))
same_digit false false e = refl

abbrev first_of : List ℕ → ℕ
first_of [] = 0
first_of (x ∷ xs) = x

abbrev rest_of : List ℕ → List ℕ
rest_of [] = []
rest_of (x ∷ xs) = xs

-- clocks whose digits are those of a board are the clocks of that board
same_clocks : (ks : List Clock) (cs : List Card) → map digit_of (tdos ks) ≡ board_digits cs (map input_of ks) →
    ks ≡ clocks_of cs (map input_of ks)
same_clocks [] cs e = refl
same_clocks (k ∷ ks) cs e =
    ap (λ b. clock_with (input_of k) b ∷ ks) (same_digit k.tdo (board_tdo cs k.tdi) (ap first_of e))
    ∙ ap (λ (zs : List Clock). clock_with (input_of k) (board_tdo cs k.tdi) ∷ zs)
    (same_clocks ks (after_input cs (input_of k)) (ap rest_of e))

digit_count : (ks : List Clock) (cs : List Card) →
    length (board_digits cs (map input_of ks)) ≡ length (map digit_of (tdos ks))
digit_count [] cs = refl
digit_count (k ∷ ks) cs = ap suc (digit_count ks (after_input cs (input_of k)))

no_rest : (front rest all : List ℕ) → front ++ rest ≡ all → length all ≡ length front → rest ≡ []
no_rest front [] all e n = refl
no_rest front (x ∷ rest) all e n =
    let both : length (front ++ x ∷ rest) ≡ length front + length (x ∷ rest) = length-append front (x ∷ rest) in
    let all_is : length (front ++ x ∷ rest) ≡ length all = ap (λ (xs : List ℕ). length xs) e in
    absurd (omega (arith, both, all_is, n))

none_in : (xs ys : List ℕ) → xs ++ ys ≡ [] → (xs ≡ []) × (ys ≡ [])
none_in [] ys e = (refl, e)
none_in (x ∷ xs) ys e = absurd (cc)

-- What a client received are the first answers of a link to its first bytes: the clocks are those of the board.
pub record IsOfBoard (n : ℕ) (tck : Bool) (cs : List Card) (bytes : List ℕ) (signals : List Signal) : Type 0 where
  pub clocks : clocks_of cs (inputs_of signals) ≡ clocks_in signals
  pub leaves : n % 3 ≢ 2 → (link_after (open_at tck cs) (take n bytes)).board ≡ board_after cs (inputs_of signals)

pub of_board : (signals : List Signal) (sleeps tck : Bool) (n : ℕ) (cs : List Card) (tail unread : List ℕ) →
    0 < length cs → ClockNothing tail →
    answers_to (open_at tck cs) (take n (bytes_of_signals sleeps signals ++ tail)) ≡ answers_of signals ++ unread →
    IsOfBoard n tck cs (bytes_of_signals sleeps signals ++ tail) signals
of_board signals sleeps tck n cs tail unread some quiet received =
    let u = answered_up_to signals sleeps tck n cs tail some quiet in
    let own : List ℕ = answers_of signals in
    let all : List ℕ = board_digits cs (inputs_of signals) in
    let parts : own ++ (unread ++ u.rest) ≡ all =
    sym (append_assoc own unread u.rest) ∙ ap (λ (xs : List ℕ). xs ++ u.rest) (sym received) ∙ u.parts in
    let none : unread ++ u.rest ≡ [] = no_rest own (unread ++ u.rest) all parts (digit_count (clocks_in signals) cs) in
    let same : own ≡ all = sym (append-nil own) ∙ ap (λ (xs : List ℕ). own ++ xs) (sym none) ∙ parts in
    record {
      clocks = sym (same_clocks (clocks_in signals) cs same);
      leaves = λ f. u.leaves (none_in unread u.rest none).1 f;
    }

-- The other way round: a link to the board of the clocks has exactly these answers, if no wait is sent.
pub answers_as_board : (signals : List Signal) (tck : Bool) (n : ℕ) (cs : List Card) (tail : List ℕ) →
    0 < length cs → ClockNothing tail →
    length (bytes_of_signals false signals) ≤ n → clocks_of cs (inputs_of signals) ≡ clocks_in signals →
    answers_to (open_at tck cs) (take n (bytes_of_signals false signals ++ tail)) ≡ answers_of signals
answers_as_board signals tck n cs tail some quiet fits clocks =
    let u = answered_up_to signals false tck n cs tail some quiet in
    let at : List ℕ = answers_to (open_at tck cs) (take n (bytes_of_signals false signals ++ tail)) in
    sym (append-nil at) ∙ ap (λ (xs : List ℕ). at ++ xs) (sym (u.whole refl fits)) ∙ u.parts
    ∙ ap (λ ks. map digit_of (tdos ks)) clocks

-- ---- what a client sends after its bytes

pub no_tail : ClockNothing []
no_tail zero at = (refl, refl)
no_tail (suc n) at = (refl, refl)

pub quit_tail : ClockNothing (quitting_byte ∷ [])
quit_tail zero at = (refl, refl)
quit_tail (suc n) at = by n at.link.state
  where
    at_state : LinkState → LinkAt
    at_state s = record { link = record { tck = at.link.tck; state = s }; board = at.board }

    by : (n : ℕ) (s : LinkState) → (answers_to (at_state s) (quitting_byte ∷ take n []) ≡ [])
        × ((link_after (at_state s) (quitting_byte ∷ take n [])).board ≡ at.board)
    by zero states.Open = (refl, refl)
    by zero states.Quit = (refl, refl)
    by zero states.Bad = (refl, refl)
    by (suc n) states.Open = (refl, refl)
    by (suc n) states.Quit = (refl, refl)
    by (suc n) states.Bad = (refl, refl)
