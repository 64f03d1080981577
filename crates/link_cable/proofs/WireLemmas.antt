-- Calls of a wire in a row.
use Rattle.std.proofs.Common.{◌≡◌, ◌≢◌, ◌<◌, ◌≤◌, ◌+◌, ◌-◌, ◌*◌, ◌/◌, ◌%◌, ◌==◌, nat_eq, ℕ, zero, suc, List, [], ◌∷◌, ◌++◌, length, take, drop, map, refl, sym, ap, subst, ◌∙◌, Bool, true, false, ◌&&◌, cond, Option, Some, None, slice_get, arith, append_assoc, length-append}
use Rattle.std.specs.Prelude.{slice_index_or}
use Rattle.std.specs.Option.{option_map}
use Rattle.std.proofs.Math.ListN.{take-append-drop}
use Rattle.std.proofs.lemmas.Bool.{false≢true}
use Rattle.std.proofs.lemmas.List.{append-nil, length-take-le, length-drop}
use Rattle.std.proofs.lemmas.Option.{none-some, same_Some}
use Rattle.base.specs.Bits.{low_bits, bit_value}
use Rattle.dev_card.specs.Clocks.{is_nil, with_zero}
use Rattle.dev_card.specs.Blocks.{block_inputs}
use Rattle.dev_card.proofs.ScanLines.{after_none}
use Rattle.dev_card.specs.Card.{Card}
use Rattle.dev_card.specs.Board.{Input, Clock, clock_with, board_tdo, board_step, board_after, tdos}
use Rattle.link_server.specs.declared.link.LinkState.{LinkState}
use Rattle.link_server.specs.declared.link.LinkState.TheVariants as states
use Rattle.link_server.specs.Runs.{LinkAt, link_after, answers_to, is_open, after_byte, answer_to_byte, digit_of}
use Rattle.link_server.specs.Clients.{bytes_of_input, bytes_of_inputs}
use Rattle.link_server.specs.Drives.{Carrying}
use Rattle.link_server.specs.DriveLaws.{NoneCarried, BothCarried}
use Rattle.link_server.proofs.Blocks.{last_of}
use Rattle.link_server.proofs.FeedLemmas.{one_at_most}
use Rattle.link_server.proofs.Cuts.{end_joined, answers_joined}
use Rattle.link_cable.specs.Wires.{WireState, sent, told_sent, received, told_received, HasSent, HasReceived, HasRoom, AnswerWaits, is_none, board_in, told_board, IsGoodWire, HasGiven, HasBrokenAmong, bytes_of_clock, IsClockedOver, HasClocked, IsShiftedOver, HasShiftedOver}

-- ---- bytes that are sent

sent_both : (s : WireState) (xs ys : List ℕ) → sent (sent s xs) ys ≡ sent s (xs ++ ys)
sent_both s xs ys =
    ap (λ (a : LinkAt). record { at = a; waiting = (s.waiting ++ answers_to s.at xs) ++ answers_to (link_after s.at xs) ys }) (sym (end_joined xs ys s.at))
    ∙ ap (λ (w : List ℕ). record { at = link_after s.at (xs ++ ys); waiting = w })
    (append_assoc s.waiting (answers_to s.at xs) (answers_to (link_after s.at xs) ys) ∙ ap (λ (w : List ℕ). s.waiting ++ w) (sym (answers_joined xs ys s.at)))

told_both : (o : Option WireState) (xs ys : List ℕ) → told_sent (told_sent o xs) ys ≡ told_sent o (xs ++ ys)
told_both None xs ys = refl
told_both (Some s) xs ys = ap (λ s. Some s) (sent_both s xs ys)

pub told_none : (o : Option WireState) → told_sent o [] ≡ o
told_none None = refl
told_none (Some s) = ap (λ (w : List ℕ). Some (record { at = s.at; waiting = w })) (append-nil s.waiting)

answers_few : (xs : List ℕ) (at : LinkAt) → length (answers_to at xs) ≤ length xs
answers_few [] at = omega arith
answers_few (b ∷ xs) at =
    let one = one_at_most at b in
    let more = answers_few xs (after_byte at b) in
    let both : length (answers_to at (b ∷ xs)) ≡ length (answer_to_byte at b) + length (answers_to (after_byte at b) xs) =
    length-append (answer_to_byte at b) (answers_to (after_byte at b) xs) in
    omega (arith, one, more, both)

-- a front more was sent
pub sent_more : (o new : Option WireState) (rest : List ℕ) (n : ℕ) → HasSent o rest n new → told_sent new (drop n rest) ≡ told_sent o rest
sent_more o new rest n h =
    ap (λ t. told_sent t (drop n rest)) h.state ∙ told_both o (take n rest) (drop n rest) ∙ ap (told_sent o) (take-append-drop n rest)

pub room_left : (o new : Option WireState) (steady now : Bool) (rest : List ℕ) (n : ℕ) → HasSent o rest n new → (steady ≡ true → now ≡ true)
    → HasRoom o steady (length rest) → HasRoom new now (length (drop n rest))
room_left o new steady now rest n h keeps r =
    let few : length (answers_to r.state.at (take n rest)) ≤ length (take n rest) = answers_few (take n rest) r.state.at in
    let len : length (take n rest) ≡ n = length-take-le n rest h.within in
    let left : length (drop n rest) ≡ length rest - n = length-drop n rest in
    let both : length (r.state.waiting ++ answers_to r.state.at (take n rest)) ≡ length r.state.waiting + length (answers_to r.state.at (take n rest)) =
    length-append r.state.waiting (answers_to r.state.at (take n rest)) in
    record {
      state = sent r.state (take n rest);
      told_is = h.state ∙ ap (λ t. told_sent t (take n rest)) r.told_is;
      is_steady = keeps r.is_steady;
      room = omega (arith, few, len, left, both, r.room, h.within);
    }

-- a wire with room takes some
pub takes_some : (o new : Option WireState) (steady : Bool) (rest : List ℕ) (n : ℕ) → HasSent o rest n new → 0 < length rest → HasRoom o steady (length rest) → n ≢ 0
takes_some o new steady rest n h some r e = absurd (omega (arith, e, h.some r.state r.told_is some))

-- ---- answers that are received

pub given : (o new : Option WireState) (n : ℕ) (buffer : List ℕ) → HasReceived o n buffer new → length buffer ≡ 1 → n ≢ 0 → HasGiven o (slice_index_or buffer 0 0) new
given o new n buffer h one some =
    let is : n ≡ 1 = least n (subst (λ k. n ≤ k) one h.within) some in
    record {
      oldest = λ s e. first buffer s.waiting one (subst (λ k. take k buffer ≡ take k s.waiting) is (h.answers s e));
      state = h.state ∙ ap (told_received o) is;
    }
  where
    least : (n : ℕ) → n ≤ 1 → n ≢ 0 → n ≡ 1
    least zero le some = absurd (some refl)
    least (suc n) le some = omega (arith, le)

    first : (buffer waiting : List ℕ) → length buffer ≡ 1 → take 1 buffer ≡ take 1 waiting → slice_get waiting 0 ≡ Some (slice_index_or buffer 0 0)
    first [] waiting e t = absurd (omega (arith, e))
    first (b ∷ buffer) [] e t = cc
    first (b ∷ buffer) (a ∷ waiting) e t = ap (λ (xs : List ℕ). slice_get xs 0) (sym t)

pub gives_some : (o new : Option WireState) (steady : Bool) (n : ℕ) (buffer : List ℕ) → HasReceived o n buffer new → AnswerWaits o steady → n ≢ 0
gives_some o new steady n buffer h w e = absurd (omega (arith, e, h.some w.state w.told_is w.waits))

-- ---- one clock

abbrev at_open : Bool → List Card → LinkAt
at_open tck cs = record { link = record { tck = tck; state = states.Open }; board = cs }

open_after : (tms tdi tck : Bool) (cs : List Card) → link_after (at_open tck cs) (bytes_of_clock tms tdi) ≡ at_open true (board_step cs tms tdi)
open_after true true tck cs = refl
open_after true false tck cs = refl
open_after false true tck cs = refl
open_after false false tck cs = refl

open_answers : (tms tdi tck : Bool) (cs : List Card) → answers_to (at_open tck cs) (bytes_of_clock tms tdi) ≡ digit_of (board_tdo cs false) ∷ []
open_answers true true tck cs = refl
open_answers true false tck cs = refl
open_answers false true tck cs = refl
open_answers false false tck cs = refl

abbrev in_state : Bool → LinkState → List Card → List ℕ → WireState
in_state tck state cs waiting = record { at = record { link = record { tck = tck; state = state }; board = cs }; waiting = waiting }

open_sent : (tms tdi tck : Bool) (cs : List Card) (waiting : List ℕ)
    → sent (in_state tck states.Open cs waiting) (bytes_of_clock tms tdi) ≡ in_state true states.Open (board_step cs tms tdi) (waiting ++ digit_of (board_tdo cs false) ∷ [])
open_sent tms tdi tck cs waiting =
    ap (λ (a : LinkAt). record { at = a; waiting = waiting ++ answers_to (at_open tck cs) (bytes_of_clock tms tdi) }) (open_after tms tdi tck cs)
    ∙ ap (λ (xs : List ℕ). in_state true states.Open (board_step cs tms tdi) (waiting ++ xs)) (open_answers tms tdi tck cs)

same_digit : (s t : Bool) → digit_of s ≡ digit_of t → s ≡ t
same_digit true true e = refl
same_digit true false e = absurd (omega (arith, e))
same_digit false true e = absurd (omega (arith, e))
same_digit false false e = refl

tdo_of_some : (cs : List Card) (s t : Bool) → 0 < length cs → board_tdo cs s ≡ board_tdo cs t
tdo_of_some [] s t some = absurd (omega (arith, some))
tdo_of_some (c ∷ cs) s t some = refl

none_after : (more : List ℕ) (a : ℕ) → is_none (more ++ a ∷ []) ≡ false
none_after [] a = refl
none_after (b ∷ more) a = refl

-- what one clock over a wire with this state leaves, where its first answer was received
clocked_open : (tms tdi tdo tck : Bool) (cs : List Card) (mid new : Option WireState) (answer : ℕ) → 0 < length cs
    → mid ≡ Some (in_state true states.Open (board_step cs tms tdi) (digit_of (board_tdo cs false) ∷ [])) → HasGiven mid answer new → answer ≡ digit_of tdo
    → IsClockedOver (Some (in_state tck states.Open cs [])) tms tdi tdo new
clocked_open tms tdi tdo tck cs mid new answer some m h is = record {
  seen = λ ds e.
      let first : digit_of (board_tdo cs false) ≡ answer = same_Some _ _ (h.oldest _ m) in
      let bit : tdo ≡ board_tdo cs false = same_digit tdo (board_tdo cs false) (sym is ∙ sym first) in
      bit ∙ tdo_of_some cs false tdi some ∙ ap (λ cs. board_tdo cs tdi) (same_Some cs ds e);
  cards = ap told_board (h.state ∙ ap (λ o. told_received o 1) m);
}

clocked_untold : (tms tdi tdo : Bool) (s now : WireState) (mid new : Option WireState) (answer : ℕ) → board_in s ≡ None
    → mid ≡ Some now → board_in (received now 1) ≡ None → HasGiven mid answer new → IsClockedOver (Some s) tms tdi tdo new
clocked_untold tms tdi tdo s now mid new answer none m after h = record {
  seen = λ ds e. absurd (none-some ds (sym none ∙ e));
  cards = ap told_board (h.state ∙ ap (λ o. told_received o 1) m) ∙ after ∙ ap (option_map (λ cs. board_step cs tms tdi)) (sym none);
}

clocked_by : (tms tdi tdo tck : Bool) (state : LinkState) (cs : List Card) (waiting : List ℕ) (mid new : Option WireState) (answer : ℕ) → 0 < length cs
    → mid ≡ Some (sent (in_state tck state cs waiting) (bytes_of_clock tms tdi)) → HasGiven mid answer new → answer ≡ digit_of tdo
    → IsClockedOver (Some (in_state tck state cs waiting)) tms tdi tdo new
clocked_by tms tdi tdo tck states.Open cs [] mid new answer some m h is =
    clocked_open tms tdi tdo tck cs mid new answer some (m ∙ ap (λ s. Some s) (open_sent tms tdi tck cs [])) h is
clocked_by tms tdi tdo tck states.Open cs (a ∷ more) mid new answer some m h is =
    clocked_untold tms tdi tdo (in_state tck states.Open cs (a ∷ more)) _ mid new answer refl (m ∙ ap (λ s. Some s) (open_sent tms tdi tck cs (a ∷ more)))
    (ap (λ t. cond t (Some (board_step cs tms tdi)) None) (none_after more (digit_of (board_tdo cs false)))) h
clocked_by tms tdi tdo tck states.Quit cs waiting mid new answer some m h is =
    clocked_untold tms tdi tdo (in_state tck states.Quit cs waiting) _ mid new answer refl m refl h
clocked_by tms tdi tdo tck states.Bad cs waiting mid new answer some m h is =
    clocked_untold tms tdi tdo (in_state tck states.Bad cs waiting) _ mid new answer refl m refl h

pub clocked : (o mid new : Option WireState) (tms tdi tdo : Bool) (answer : ℕ) → ((s : WireState) → o ≡ Some s → 0 < length s.at.board)
    → mid ≡ told_sent o (bytes_of_clock tms tdi) → HasGiven mid answer new → answer ≡ digit_of tdo → IsClockedOver o tms tdi tdo new
clocked None mid new tms tdi tdo answer f m h is = record {
  seen = λ cs e. absurd (none-some cs e);
  cards = ap told_board (h.state ∙ ap (λ o. told_received o 1) m);
}
clocked (Some s) mid new tms tdi tdo answer f m h is =
    clocked_by tms tdi tdo s.at.link.tck s.at.link.state s.at.board s.waiting mid new answer (f s refl) m h is

-- ---- over a good wire

in_step_is : (state : LinkState) (waiting : List ℕ) → (is_open state && is_none waiting) ≡ true → (state ≡ states.Open) × (waiting ≡ [])
in_step_is states.Open [] e = (refl, refl)
in_step_is states.Open (a ∷ more) e = absurd (false≢true e)
in_step_is states.Quit waiting e = absurd (false≢true e)
in_step_is states.Bad waiting e = absurd (false≢true e)

pub good_room : (o : Option WireState) (steady : Bool) (n : ℕ) → n ≤ 64 → IsGoodWire o steady → HasRoom o steady n
good_room o steady n few g =
    let none : length g.state.waiting ≡ 0 = ap (λ (xs : List ℕ). length xs) (in_step_is g.state.at.link.state g.state.waiting g.in_step).1 in
    record { state = g.state; told_is = g.told_is; is_steady = g.is_steady; room = omega (arith, none, few) }

-- what is told of a good wire after the bytes of a clock
good_sent : (o mid : Option WireState) (steady : Bool) (tms tdi : Bool) → (g : IsGoodWire o steady) → mid ≡ told_sent o (bytes_of_clock tms tdi)
    → mid ≡ Some (in_state true states.Open (board_step g.state.at.board tms tdi) (digit_of (board_tdo g.state.at.board false) ∷ []))
good_sent o mid steady tms tdi g m =
    let is : (g.state.at.link.state ≡ states.Open) × (g.state.waiting ≡ []) = in_step_is g.state.at.link.state g.state.waiting g.in_step in
    m ∙ ap (λ o. told_sent o (bytes_of_clock tms tdi)) g.told_is
    ∙ ap (λ s. Some (sent (in_state g.state.at.link.tck s g.state.at.board g.state.waiting) (bytes_of_clock tms tdi))) is.0
    ∙ ap (λ (w : List ℕ). Some (sent (in_state g.state.at.link.tck states.Open g.state.at.board w) (bytes_of_clock tms tdi))) is.1
    ∙ ap (λ s. Some s) (open_sent tms tdi g.state.at.link.tck g.state.at.board [])

pub good_waits : (o mid : Option WireState) (steady now : Bool) (tms tdi : Bool) → mid ≡ told_sent o (bytes_of_clock tms tdi) → (steady ≡ true → now ≡ true)
    → IsGoodWire o steady → AnswerWaits mid now
good_waits o mid steady now tms tdi m keeps g =
    record { state = _; told_is = good_sent o mid steady tms tdi g m; is_steady = keeps g.is_steady; waits = omega arith }

pub good_after : (o mid new : Option WireState) (steady now : Bool) (tms tdi : Bool) (answer : ℕ) → mid ≡ told_sent o (bytes_of_clock tms tdi) → HasGiven mid answer new
    → (steady ≡ true → now ≡ true) → IsGoodWire o steady → IsGoodWire new now
good_after o mid new steady now tms tdi answer m h keeps g =
    record { state = _; told_is = h.state ∙ ap (λ o. told_received o 1) (good_sent o mid steady tms tdi g m); is_steady = keeps g.is_steady; in_step = refl }

pub good_digit : (o mid new : Option WireState) (steady : Bool) (tms tdi : Bool) (answer : ℕ) → mid ≡ told_sent o (bytes_of_clock tms tdi) → HasGiven mid answer new
    → ((t : Bool) → answer ≢ digit_of t) → IsGoodWire o steady → ⊥
good_digit o mid new steady tms tdi answer m h none g =
    none (board_tdo g.state.at.board false) (sym (same_Some _ _ (h.oldest _ (good_sent o mid steady tms tdi g m))))

-- ---- n clocks

no_clocks : (o : Option WireState) → IsShiftedOver o [] [] o
no_clocks o = record { went_in = refl; seen = λ cs e. refl; cards = after_none (told_board o) }

pub none_shifted : {W : Type 0} (told : W → Option WireState) (carried : Carrying W) → NoneCarried carried → (w : W) (tdi : ℕ) (last : Bool) →
    HasShiftedOver told carried w (block_inputs tdi 0 last) 0 w
none_shifted told carried none w tdi last = record { clocks = []; over = no_clocks (told w); bits = refl; went = none w }

abbrev first_input : (last : Bool) (m tdi : ℕ) → Input
first_input last m tdi = record { tms = last && is_nil (low_bits m (tdi / 2)); tdi = nat_eq (tdi % 2) 1 }

abbrev first_move : ℕ → Input
first_move tms = record { tms = nat_eq (tms % 2) 1; tdi = false }

-- one clock, and the clocks of the rest
joined : (o mid new : Option WireState) (i : Input) (is : List Input) (bit : Bool) (clocks : List Clock) → IsClockedOver o i.tms i.tdi bit mid →
    IsShiftedOver mid is clocks new → IsShiftedOver o (i ∷ is) (clock_with i bit ∷ clocks) new
joined o mid new i is bit clocks k h = record {
  went_in = ap (λ (z : List Input). i ∷ z) h.went_in;
  seen = λ cs e.
      let there : told_board mid ≡ Some (board_step cs i.tms i.tdi) = k.cards ∙ ap (option_map (λ cs. board_step cs i.tms i.tdi)) e in
      ap (λ b. clock_with i b ∷ clocks) (k.seen cs e) ∙ ap (λ (z : List Clock). clock_with i (board_tdo cs i.tdi) ∷ z) (h.seen (board_step cs i.tms i.tdi) there);
  cards = h.cards ∙ ap (option_map (λ cs. board_after cs is)) k.cards ∙ twice (told_board o);
}
  where
    twice : (b : Option (List Card)) → option_map (λ cs. board_after cs is) (option_map (λ cs. board_step cs i.tms i.tdi) b) ≡ option_map (λ cs. board_after cs (i ∷ is)) b
    twice None = refl
    twice (Some cs) = refl

module _ {W : Type 0} (told : W → Option WireState) (carried : Carrying W) (both : BothCarried carried) (a b c : W) where
  shifted_on : (i : Input) (is : List Input) (bit : Bool) (rest : ℕ) → HasClocked told carried a i.tms i.tdi bit b →
      HasShiftedOver told carried b is rest c → HasShiftedOver told carried a (i ∷ is) (bit_value bit + 2 * rest) c
  shifted_on i is bit rest k h = record {
    clocks = clock_with i bit ∷ h.clocks;
    over = joined (told a) (told b) (told c) i is bit h.clocks k.over h.over;
    bits = ap (λ r. bit_value bit + 2 * r) h.bits;
    went = both a b c (bytes_of_input i) (bytes_of_inputs is) (digit_of bit ∷ []) (map digit_of (tdos h.clocks)) k.went h.went;
  }

  -- a call failed among the bytes of the first clock
  broken_first : (i : Input) (is : List Input) → HasBrokenAmong carried a (bytes_of_input i) b → HasBrokenAmong carried a (bytes_of_inputs (i ∷ is)) b
  broken_first i is h = record {
    more = h.more;
    rest = h.rest ++ bytes_of_inputs is;
    parts = ap (λ v. v ++ bytes_of_inputs is) h.parts ∙ append_assoc h.more h.rest (bytes_of_inputs is);
    uncounted = h.uncounted;
    went = h.went;
  }

  -- or after it
  broken_on : (i : Input) (is : List Input) (bit : Bool) → HasClocked told carried a i.tms i.tdi bit b →
      HasBrokenAmong carried b (bytes_of_inputs is) c → HasBrokenAmong carried a (bytes_of_inputs (i ∷ is)) c
  broken_on i is bit k h = record {
    more = bytes_of_input i ++ h.more;
    rest = h.rest;
    parts = ap (λ v. bytes_of_input i ++ v) h.parts ∙ sym (append_assoc (bytes_of_input i) h.more h.rest);
    uncounted = digit_of bit ∷ h.uncounted;
    went = both a b c (bytes_of_input i) h.more (digit_of bit ∷ []) h.uncounted k.went h.went;
  }

  -- the same of the inputs of a block
  pub clock_and_rest : (tdi n m rest : ℕ) (last tms bit : Bool) (value : ℕ) → n ≡ suc m → tms ≡ (last && (n == 1)) →
      HasClocked told carried a tms (nat_eq (tdi % 2) 1) bit b → HasShiftedOver told carried b (block_inputs (tdi / 2) m last) rest c →
      value ≡ bit_value bit + 2 * rest → HasShiftedOver told carried a (block_inputs tdi n last) value c
  clock_and_rest tdi n m rest last tms bit value e t k h v =
      let k' : HasClocked told carried a (last && is_nil (low_bits m (tdi / 2))) (nat_eq (tdi % 2) 1) bit b =
      subst (λ tms. HasClocked told carried a tms (nat_eq (tdi % 2) 1) bit b) (t ∙ last_of n m (tdi / 2) last e) k in
      subst (λ v. HasShiftedOver told carried a (block_inputs tdi n last) v c) (sym v)
      (subst (λ n. HasShiftedOver told carried a (block_inputs tdi n last) (bit_value bit + 2 * rest) c) (sym e)
      (shifted_on (first_input last m tdi) (block_inputs (tdi / 2) m last) bit rest k' h))

  pub first_failed : (tdi n m : ℕ) (last tms : Bool) → n ≡ suc m → tms ≡ (last && (n == 1)) →
      HasBrokenAmong carried a (bytes_of_clock tms (nat_eq (tdi % 2) 1)) b → HasBrokenAmong carried a (bytes_of_inputs (block_inputs tdi n last)) b
  first_failed tdi n m last tms e t h =
      subst (λ n. HasBrokenAmong carried a (bytes_of_inputs (block_inputs tdi n last)) b) (sym e)
      (broken_first (first_input last m tdi) (block_inputs (tdi / 2) m last)
      (subst (λ tms. HasBrokenAmong carried a (bytes_of_clock tms (nat_eq (tdi % 2) 1)) b) (t ∙ last_of n m (tdi / 2) last e) h))

  pub rest_failed : (tdi n m : ℕ) (last tms bit : Bool) → n ≡ suc m → tms ≡ (last && (n == 1)) →
      HasClocked told carried a tms (nat_eq (tdi % 2) 1) bit b → HasBrokenAmong carried b (bytes_of_inputs (block_inputs (tdi / 2) m last)) c →
      HasBrokenAmong carried a (bytes_of_inputs (block_inputs tdi n last)) c
  rest_failed tdi n m last tms bit e t k h =
      subst (λ n. HasBrokenAmong carried a (bytes_of_inputs (block_inputs tdi n last)) c) (sym e)
      (broken_on (first_input last m tdi) (block_inputs (tdi / 2) m last) bit
      (subst (λ tms. HasClocked told carried a tms (nat_eq (tdi % 2) 1) bit b) (t ∙ last_of n m (tdi / 2) last e) k) h)

  -- the same of a move
  pub move_and_rest : (tms n m rest : ℕ) (bit : Bool) (value : ℕ) → n ≡ suc m → HasClocked told carried a (nat_eq (tms % 2) 1) false bit b →
      HasShiftedOver told carried b (with_zero (low_bits m (tms / 2))) rest c → value ≡ bit_value bit + 2 * rest →
      HasShiftedOver told carried a (with_zero (low_bits n tms)) value c
  move_and_rest tms n m rest bit value e k h v =
      subst (λ v. HasShiftedOver told carried a (with_zero (low_bits n tms)) v c) (sym v)
      (subst (λ n. HasShiftedOver told carried a (with_zero (low_bits n tms)) (bit_value bit + 2 * rest) c) (sym e)
      (shifted_on (first_move tms) (with_zero (low_bits m (tms / 2))) bit rest k h))

  pub first_move_failed : (tms n m : ℕ) → n ≡ suc m → HasBrokenAmong carried a (bytes_of_clock (nat_eq (tms % 2) 1) false) b →
      HasBrokenAmong carried a (bytes_of_inputs (with_zero (low_bits n tms))) b
  first_move_failed tms n m e h =
      subst (λ n. HasBrokenAmong carried a (bytes_of_inputs (with_zero (low_bits n tms))) b) (sym e)
      (broken_first (first_move tms) (with_zero (low_bits m (tms / 2))) h)

  pub rest_move_failed : (tms n m : ℕ) (bit : Bool) → n ≡ suc m → HasClocked told carried a (nat_eq (tms % 2) 1) false bit b →
      HasBrokenAmong carried b (bytes_of_inputs (with_zero (low_bits m (tms / 2)))) c →
      HasBrokenAmong carried a (bytes_of_inputs (with_zero (low_bits n tms))) c
  rest_move_failed tms n m bit e k h =
      subst (λ n. HasBrokenAmong carried a (bytes_of_inputs (with_zero (low_bits n tms))) c) (sym e)
      (broken_on (first_move tms) (with_zero (low_bits m (tms / 2))) bit k h)
