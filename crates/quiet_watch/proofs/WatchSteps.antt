-- On single clocks of a watch.
use Rattle.std.proofs.Common.{◌≡◌, ℕ, zero, suc, ◌*◌, ◌/◌, ◌%◌, ◌==◌, nat_eq, Bool, true, false, List, [], ◌∷◌, ◌++◌, refl, sym, ap, subst, ◌∙◌, inl, arith, map}
use Rattle.std.specs.Prelude.{Option, Some, None, if◌then◌else◌, ◌&&◌, ◌+◌, IsSome}
use Rattle.std.specs.Option.{option_map}
use Rattle.std.proofs.lemmas.Bool.{false≢true}
use Rattle.std.proofs.lemmas.Bool.Decides.{nat_tests}
use Rattle.std.proofs.lemmas.Option.{none-some}
use Rattle.base.specs.Bits.{low_bits, bit_value}
use Rattle.dev_card.specs.declared.desc.Kind.{Kind}
use Rattle.dev_card.specs.declared.desc.Desc.{Desc}
use Rattle.dev_card.specs.Card.{Card}
use Rattle.dev_card.specs.Board.{Input, clock_with, board_tdo, board_step}
use Rattle.dev_card.specs.Blocks.{block_inputs}
use Rattle.dev_card.specs.Clocks.{is_nil}
use Rattle.dev_card.specs.Sound.{SoundCard}
use Rattle.scan_paths.specs.Cables.{Signal, Breakage, whole, line, whole_if, IsClocked, HasBrokenOff, IsClockedOrNot, HasShifted, HasMadeFront}
use Rattle.scan_paths.proofs.CallsInARow.{clocks_nothing, clocks_one, made_one, clocks_both, front_after, front_broken}
use Rattle.chain_sim.specs.Places.{joined, AreApart, is_chain}
use Rattle.chain_sim.proofs.Clocking.{apart_if_whole}
use Rattle.quiet_watch.specs.declared.counting.Counting.{Counting}
use Rattle.quiet_watch.specs.Watches.{Watched, is_shift_state, length_by, lengths_by, walked, marked, shifted_by, step_by, tdo_by, watch_step, watch_tdo}
use Rattle.quiet_watch.specs.declared.watch.Watch.{Watch}
use Rattle.quiet_watch.specs.WatchedRacks.{cards_there}
use Rattle.quiet_watch.specs.WatchedDevices.{untold, watched_of, watch_breakage, IsSameWatch, HasFollowed, HasStepped, HasStayed}
use Rattle.quiet_watch.specs.WatchLaws.{followed_none, followed_both}

-- ---- the cards that a rack tells

pub there_stepped : (o : Option (List Card)) (m b : Bool) → cards_there (option_map (λ cs. board_step cs m b) o) ≡ board_step (cards_there o) m b
there_stepped None m b = refl
there_stepped (Some cs) m b = refl

pub there_tdo : (o : Option (List Card)) (t r : Bool) → option_map (λ cs. board_tdo cs t) o ≡ Some r → r ≡ board_tdo (cards_there o) t
there_tdo None t r e = absurd cc
there_tdo (Some cs) t r e = cc

pub there_lengths : (card : Option Card) (cards : Option (List Card)) (ir : Bool) (d : Desc) (ds : List Desc) (n m : ℕ) → IsSome (joined card cards) →
    option_map (λ c. length_by ir d c) card ≡ Some n → m ≡ lengths_by ir ds (cards_there cards) → n + m ≡ lengths_by ir (d ∷ ds) (cards_there (joined card cards))
there_lengths None cards ir d ds n m some e f = absurd cc
there_lengths (Some c) None ir d ds n m some e f = absurd (false≢true some)
there_lengths (Some c) (Some cs) ir d ds n m some e f =
    let is : length_by ir d c ≡ n = cc in
    ap (λ k. n + k) f ∙ ap (λ k. k + lengths_by ir ds cs) (sym is)

-- a watch that is not broken is over a chain, whose places differ
chain_if_whole : (broken : Bool) (b : Breakage) → (if broken then line else b) ≡ whole → b ≡ whole
chain_if_whole true b e = absurd cc
chain_if_whole false b e = e

pub apart_watched : {D : Type 0} (fitted : D → Option SoundCard) (kind_of : D → Kind) (w : Watch D) → watch_breakage fitted kind_of w ≡ whole → AreApart w.places.now
apart_watched fitted kind_of w e =
    apart_if_whole (map fitted w.rack.now.items) w.places.now (chain_if_whole w.is_broken (whole_if (is_chain (map fitted w.rack.now.items) w.places.now)) e)

-- ---- one clock, by what the watch knows

module _ (w : Watched) (tms tdi : Bool) where
  pub mark_step : w.scan ≡ None → (tdi && is_shift_state w.tap) ≡ true → watch_step w tms tdi ≡ marked w
  mark_step e t = ap (λ s. step_by s w tms tdi) e ∙ ap (λ b. if b then marked w else walked w tms tdi) t

  pub mark_tdo : w.scan ≡ None → (tdi && is_shift_state w.tap) ≡ true → watch_tdo w tdi ≡ false
  mark_tdo e t = ap (λ s. tdo_by s w tdi) e ∙ ap (λ b. if b then false else board_tdo w.cards tdi) t

  pub walk_step : w.scan ≡ None → (tdi && is_shift_state w.tap) ≡ false → watch_step w tms tdi ≡ walked w tms tdi
  walk_step e t = ap (λ s. step_by s w tms tdi) e ∙ ap (λ b. if b then marked w else walked w tms tdi) t

  pub walk_tdo : w.scan ≡ None → (tdi && is_shift_state w.tap) ≡ false → watch_tdo w tdi ≡ board_tdo w.cards tdi
  walk_tdo e t = ap (λ s. tdo_by s w tdi) e ∙ ap (λ b. if b then false else board_tdo w.cards tdi) t

  pub shift_step : (c : Counting) → w.scan ≡ Some c → watch_step w tms tdi ≡ shifted_by w (record { shifted = c.shifted + 1; registers = c.registers }) tms tdi
  shift_step c e = ap (λ s. step_by s w tms tdi) e

  pub shift_tdo : (c : Counting) → w.scan ≡ Some c → watch_tdo w tdi ≡ board_tdo w.cards tdi
  shift_tdo c e = ap (λ s. tdo_by s w tdi) e

-- ---- one clock of a watch over devices

module _ {D : Type 0} (fitted : D → Option SoundCard) (kind_of : D → Kind) (old new : Watch D) (tms tdi : Bool) (same : IsSameWatch fitted kind_of old new) where
  abbrev before : Watched
  before = watched_of fitted kind_of old

  pub stepped_mark : before.scan ≡ None → (tdi && is_shift_state before.tap) ≡ true → watched_of fitted kind_of new ≡ marked before →
      HasStepped fitted kind_of old tms tdi false new
  stepped_mark e t m = record { same = same; answer = sym (mark_tdo before tms tdi e t); after = m ∙ sym (mark_step before tms tdi e t) }

  pub stepped_walk : (tdo : Bool) → before.scan ≡ None → (tdi && is_shift_state before.tap) ≡ false → tdo ≡ board_tdo before.cards tdi →
      watched_of fitted kind_of new ≡ walked before tms tdi → HasStepped fitted kind_of old tms tdi tdo new
  stepped_walk tdo e t a m = record { same = same; answer = a ∙ sym (walk_tdo before tms tdi e t); after = m ∙ sym (walk_step before tms tdi e t) }

  pub stepped_shift : (tdo : Bool) (c count : Counting) → before.scan ≡ Some c → count ≡ record { shifted = c.shifted + 1; registers = c.registers } →
      tdo ≡ board_tdo before.cards tdi → watched_of fitted kind_of new ≡ shifted_by before count tms tdi → HasStepped fitted kind_of old tms tdi tdo new
  stepped_shift tdo c count e n a m = record {
    same = same;
    answer = a ∙ sym (shift_tdo before tms tdi c e);
    after = m ∙ ap (λ k. shifted_by before k tms tdi) n ∙ sym (shift_step before tms tdi c e);
  }

-- ---- clocks as those of a cable

module _ {D : Type 0} (fitted : D → Option SoundCard) (kind_of : D → Kind) where
  pub is_clocked : (old new : Watch D) (tms tdi tdo : Bool) → HasStepped fitted kind_of old tms tdi tdo new →
      IsClocked untold (HasFollowed fitted kind_of) old new tms tdi tdo
  is_clocked old new tms tdi tdo h = record {
    made = record { same = h.same; follows = (h.answer, h.after) };
    seen = λ cs e. absurd (none-some cs e);
    cards = refl;
  }

  pub is_broken_off : (old new : Watch D) → HasStayed fitted kind_of old new → HasBrokenOff untold (HasFollowed fitted kind_of) old new []
  is_broken_off old new h = record {
    clocks = [];
    made = record { same = h.same; follows = h.still };
    went_in = refl;
    seen = λ cs e. refl;
    cards = λ cs later e f. absurd (none-some cs e);
    untold = λ e. refl;
  }

  pub is_unclocked : (old new : Watch D) (tms tdi : Bool) → HasStayed fitted kind_of old new → IsClockedOrNot untold (HasFollowed fitted kind_of) old new tms tdi
  is_unclocked old new tms tdi h = inl (is_broken_off old new h)

  abbrev joins : (a b c : Watch D) (front back : List Signal) → HasFollowed fitted kind_of a front b → HasFollowed fitted kind_of b back c → HasFollowed fitted kind_of a (front ++ back) c
  joins = followed_both fitted kind_of

  -- ---- blocks

  pub none_shifted : (w : Watch D) (tdi : ℕ) (last : Bool) → HasShifted untold (HasFollowed fitted kind_of) w w (block_inputs tdi 0 last) 0
  none_shifted w tdi last = record {
    clocks = [];
    made = clocks_nothing untold (HasFollowed fitted kind_of) w w (record { made = followed_none fitted kind_of w; cards = refl });
    bits = refl;
  }

  two_is_more : (m : ℕ) → (suc (suc m) == 1) ≡ false
  two_is_more m = grind (arith, nat_tests)

  none_left : (m x : ℕ) → (suc m == 1) ≡ is_nil (low_bits m x)
  none_left zero x = refl
  none_left (suc m) x = two_is_more m

  abbrev first_input : Bool → ℕ → ℕ → Input
  first_input last m tdi = record { tms = last && is_nil (low_bits m (tdi / 2)); tdi = nat_eq (tdi % 2) 1 }

  module _ (old mid new : Watch D) (tdi n m : ℕ) (last tms bit : Bool) (e : n ≡ suc m) (t : tms ≡ (last && (n == 1)))
      (one : HasStepped fitted kind_of old tms (nat_eq (tdi % 2) 1) bit mid) where
    first_tms : tms ≡ (last && is_nil (low_bits m (tdi / 2)))
    first_tms = t ∙ ap (λ k. last && (k == 1)) e ∙ ap (λ b. last && b) (none_left m (tdi / 2))

    first_clock : IsClocked untold (HasFollowed fitted kind_of) old mid (last && is_nil (low_bits m (tdi / 2))) (nat_eq (tdi % 2) 1) bit
    first_clock = subst (λ (b : Bool). IsClocked untold (HasFollowed fitted kind_of) old mid b (nat_eq (tdi % 2) 1) bit) first_tms
        (is_clocked old mid tms (nat_eq (tdi % 2) 1) bit one)

    pub shifted_more : (rest value : ℕ) → HasShifted untold (HasFollowed fitted kind_of) mid new (block_inputs (tdi / 2) m last) rest → value ≡ bit_value bit + 2 * rest →
        HasShifted untold (HasFollowed fitted kind_of) old new (block_inputs tdi n last) value
    shifted_more rest value h v =
        subst (λ (k : ℕ). HasShifted untold (HasFollowed fitted kind_of) old new (block_inputs tdi k last) value) (sym e)
        (record {
          clocks = clock_with (first_input last m tdi) bit ∷ h.clocks;
          made = clocks_both untold (HasFollowed fitted kind_of) joins old mid new (first_input last m tdi ∷ []) (block_inputs (tdi / 2) m last)
              (clock_with (first_input last m tdi) bit ∷ []) h.clocks
              (clocks_one untold (HasFollowed fitted kind_of) old mid (first_input last m tdi) bit first_clock) h.made;
          bits = v ∙ ap (λ r. bit_value bit + 2 * r) h.bits;
        })

    pub front_more : HasMadeFront untold (HasFollowed fitted kind_of) mid new (block_inputs (tdi / 2) m last) →
        HasMadeFront untold (HasFollowed fitted kind_of) old new (block_inputs tdi n last)
    front_more f =
        subst (λ (k : ℕ). HasMadeFront untold (HasFollowed fitted kind_of) old new (block_inputs tdi k last)) (sym e)
        (front_after untold (HasFollowed fitted kind_of) joins old mid new (first_input last m tdi ∷ []) (block_inputs (tdi / 2) m last)
        (made_one untold (HasFollowed fitted kind_of) old mid (first_input last m tdi) bit first_clock) f)

  pub front_none : (old new : Watch D) (inputs : List Input) → HasStayed fitted kind_of old new → HasMadeFront untold (HasFollowed fitted kind_of) old new inputs
  front_none old new inputs h = front_broken untold (HasFollowed fitted kind_of) old new [] inputs (is_broken_off old new h)
