-- What scans capture, clock by clock and call by call.
use Rattle.std.proofs.Common.{◌≡◌, ◌<◌, ◌+◌, ◌*◌, ◌^◌, ℕ, Bool, true, false, List, [], ◌∷◌, ◌++◌, length, Option, refl, sym, ap, subst, ◌∙◌, append_assoc, arith}
use Rattle.std.proofs.Math.Nat.{mod-eq_of_lt}
use Rattle.std.proofs.lemmas.List.{append-nil, length-append, length-map}
use Rattle.dev_card.specs.Card.{Card}
use Rattle.base.specs.Bits.{low_bits, number_of, bit_value}
use Rattle.base.proofs.NumberBits.{length-low_bits, low_bits-number_of, number_of-low_bits, low_bits_joined}
use Rattle.dev_card.specs.Board.{Clock, Input, clock_with, tdos}
use Rattle.dev_card.specs.Blocks.{block_inputs}
use Rattle.dev_card.proofs.Scanning.{tdos_of_both}
use Rattle.scan_paths.specs.Cables.{Signal, input_of, IsClocked, HasMadeClocks, HasMade, HasMadeFront, HasShifted}
use Rattle.scan_paths.specs.Scans.{HasSeen}
use Rattle.scan_paths.proofs.CallsInARow.{clocks_both, clocks_one}
use Rattle.scan_paths.proofs.Way.{way_block_failed}
use Rattle.scan_paths.proofs.Shifting.{length_of_inputs}

-- Of all inputs a front was clocked, these are the rest, and these TDO bits were seen.
pub record IsSeen {C : Type 0} (board : C → Option (List Card)) (makes : C → List Signal → C → Type 0) (start now : C)
    (rest all : List Input) (captured : List Bool) : Type 0 where
  pub front : List Input
  pub clocks : List Clock
  pub parts : all ≡ front ++ rest
  pub made : HasMadeClocks board makes start now front clocks
  pub bits : captured ≡ tdos clocks

module _ {C : Type 0} (board : C → Option (List Card)) (makes : C → List Signal → C → Type 0) where
  -- before the first clock
  pub seen_none : (start : C) (rest all : List Input) → all ≡ rest → HasMadeClocks board makes start start [] [] → IsSeen board makes start start rest all []
  seen_none start rest all e m = record { front = []; clocks = []; parts = e; made = m; bits = refl }

  -- after the last one
  pub seen_all : (start now : C) (all : List Input) (captured : List Bool) →
      IsSeen board makes start now [] all captured → HasSeen board makes start now all 0 captured
  seen_all start now all captured s = record {
    clocks = s.clocks;
    made = subst (λ z. HasMadeClocks board makes start now z s.clocks) (sym (s.parts ∙ append-nil s.front)) s.made;
    front = [];
    back = [];
    parts = sym s.bits ∙ sym (append-nil captured);
    at_place = refl;
  }

  -- the bits of all clocks, as a number
  pub shifted_of_seen : (start now : C) (all : List Input) (n seen : ℕ) → seen < 2 ^ n → IsSeen board makes start now [] all (low_bits n seen) →
      HasShifted board makes start now all seen
  shifted_of_seen start now all n seen below s = record {
    clocks = s.clocks;
    made = subst (λ z. HasMadeClocks board makes start now z s.clocks) (sym (s.parts ∙ append-nil s.front)) s.made;
    bits = sym (number_of-low_bits n seen ∙ mod-eq_of_lt below) ∙ ap number_of s.bits;
  }

  -- if nobody asks for the bits
  pub made_of_seen : (a b : C) (xs : List Input) (place : ℕ) (bits : List Bool) → HasSeen board makes a b xs place bits → HasMade board makes a b xs
  made_of_seen a b xs place bits p = record { clocks = p.clocks; made = p.made }

  pub made_of_shifted : (a b : C) (xs : List Input) (tdo : ℕ) → HasShifted board makes a b xs tdo → HasMade board makes a b xs
  made_of_shifted a b xs tdo p = record { clocks = p.clocks; made = p.made }

  length_of_seen : (a b : C) (xs : List Input) (ks : List Clock) → HasMadeClocks board makes a b xs ks → length (tdos ks) ≡ length xs
  length_of_seen a b xs ks p = length-map ks (λ (k : Clock). k.tdo) ∙ sym (length-map ks input_of) ∙ ap length p.went_in

  module _ (both : (a b c : C) (front back : List Signal) → makes a front b → makes b back c →
      makes a (front ++ back) c) where
    -- one block more
    pub seen_block : (start now next : C) (tdi n : ℕ) (last : Bool) (rest all : List Input) (captured : List Bool) (tdo : ℕ) →
        HasShifted board makes now next (block_inputs tdi n last) tdo → IsSeen board makes start now (block_inputs tdi n last ++ rest) all captured →
        IsSeen board makes start next rest all (captured ++ low_bits n tdo)
    seen_block start now next tdi n last rest all captured tdo k s =
        let is : List Input = block_inputs tdi n last in
        let count : length (tdos k.clocks) ≡ n = length_of_seen now next is k.clocks k.made ∙ length_of_inputs last (low_bits n tdi) ∙ length-low_bits n tdi in
        let bits : low_bits n tdo ≡ tdos k.clocks = ap (low_bits n) k.bits
        ∙ ap (λ m. low_bits m (number_of (tdos k.clocks))) (sym count) ∙ low_bits-number_of (tdos k.clocks) in
        record {
          front = s.front ++ is;
          clocks = s.clocks ++ k.clocks;
          parts = s.parts ∙ sym (append_assoc s.front is rest);
          made = clocks_both board makes both start now next s.front is s.clocks k.clocks s.made k.made;
          bits = ap (λ z. z ++ low_bits n tdo) s.bits ∙ ap (λ z. tdos s.clocks ++ z) bits ∙ sym (tdos_of_both s.clocks k.clocks);
        }

    -- one clock more
    pub seen_clock : (start now next : C) (i : Input) (rest all : List Input) (captured : List Bool) (tdo : Bool) →
        IsClocked board makes now next i.tms i.tdi tdo → IsSeen board makes start now (i ∷ rest) all captured →
        IsSeen board makes start next rest all (captured ++ tdo ∷ [])
    seen_clock start now next i rest all captured tdo k s =
        let one : List Clock = clock_with i tdo ∷ [] in
        record {
          front = s.front ++ i ∷ [];
          clocks = s.clocks ++ one;
          parts = s.parts ∙ sym (append_assoc s.front (i ∷ []) rest);
          made = clocks_both board makes both start now next s.front (i ∷ []) s.clocks one s.made (clocks_one board makes now next i tdo k);
          bits = ap (λ z. z ++ tdo ∷ []) s.bits ∙ sym (tdos_of_both s.clocks one);
        }

    -- a block that failed after some of the inputs
    pub seen_failed : (start now next : C) (is rest all : List Input) (captured : List Bool) → HasMadeFront board makes now next is →
        IsSeen board makes start now (is ++ rest) all captured → HasMadeFront board makes start next all
    seen_failed start now next is rest all captured f s =
        let m : HasMade board makes start now s.front = record { clocks = s.clocks; made = s.made } in
        way_block_failed board makes both start now next is rest all f (record { front = s.front; parts = s.parts; made = m })

    -- a call before the one that captures
    pub seen_after : (a b c : C) (xs ys : List Input) (place : ℕ) (bits : List Bool) → HasMade board makes a b xs → HasSeen board makes b c ys place bits →
        HasSeen board makes a c (xs ++ ys) (length xs + place) bits
    seen_after a b c xs ys place bits p q = record {
      clocks = p.clocks ++ q.clocks;
      made = clocks_both board makes both a b c xs ys p.clocks q.clocks p.made q.made;
      front = tdos p.clocks ++ q.front;
      back = q.back;
      parts = tdos_of_both p.clocks q.clocks ∙ ap (λ z. tdos p.clocks ++ z) q.parts ∙ sym (append_assoc (tdos p.clocks) q.front (bits ++ q.back));
      at_place = omega (arith, length-append (tdos p.clocks) q.front, length_of_seen a b xs p.clocks p.made, q.at_place);
    }

    -- a call after it
    pub seen_before : (a b c : C) (xs ys : List Input) (place : ℕ) (bits : List Bool) → HasSeen board makes a b xs place bits → HasMade board makes b c ys →
        HasSeen board makes a c (xs ++ ys) place bits
    seen_before a b c xs ys place bits p q = record {
      clocks = p.clocks ++ q.clocks;
      made = clocks_both board makes both a b c xs ys p.clocks q.clocks p.made q.made;
      front = p.front;
      back = p.back ++ tdos q.clocks;
      parts = tdos_of_both p.clocks q.clocks ∙ ap (λ z. z ++ tdos q.clocks) p.parts
          ∙ append_assoc p.front (bits ++ p.back) (tdos q.clocks) ∙ ap (λ z. p.front ++ z) (append_assoc bits p.back (tdos q.clocks));
      at_place = p.at_place;
    }

-- a number of i bits with one bit above them
one_bit : (b : Bool) → low_bits 1 (bit_value b) ≡ b ∷ []
one_bit true = refl
one_bit false = refl

pub bit_above : (i seen value : ℕ) (b : Bool) → seen < 2 ^ i → value ≡ seen + bit_value b * 2 ^ i → low_bits i seen ++ b ∷ [] ≡ low_bits (i + 1) value
bit_above i seen value b below e =
    ap (λ z. low_bits i seen ++ z) (sym (one_bit b)) ∙ sym (low_bits_joined i 1 seen (bit_value b) below)
    ∙ ap (low_bits (i + 1)) (omega (arith, e))
