-- A block of the test logic in a state of shifting.
use Rattle.std.proofs.Common.{◌≡◌, ◌<◌, ◌≤◌, ◌^◌, ℕ, Bool, true, false, List, [], ◌∷◌, ◌++◌, length, take, drop, Option, Some, None, refl, sym, ap, subst, ◌∙◌, arith}
use Rattle.std.specs.Option.{MatchOption}
use Rattle.std.proofs.lemmas.List.{length-append}
use Rattle.std.proofs.Math.Seq.{drop-append_seam, take-append_seam}
use Rattle.std.proofs.Math.Nat.{mod-eq_of_lt}
use Rattle.base.specs.Bits.{low_bits, number_of}
use Rattle.base.proofs.NumberBits.{length-low_bits, number_of-low_bits}
use Rattle.tap_states.specs.declared.Tap.TheVariants.{IrShift, DrShift}
use Rattle.tap_states.specs.Tap.{next_of}
use Rattle.dev_card.specs.Card.{Card, in_state, step}
use Rattle.dev_card.specs.Board.{Input}
use Rattle.dev_card.specs.Sound.{IsSound}
use Rattle.dev_card.proofs.Soundness.{sound_step}
use Rattle.dev_card.specs.Line.{shift_state, with_list, shifted_out, left_in}
use Rattle.dev_card.specs.Blocks.{block_inputs, card_after, state_after_block}
use Rattle.dev_card.proofs.BlockShifts.{shifts_block}
use Rattle.dev_kinds.specs.Logic.{Logic, card_of, IsBlockShifted}

module _ (list rest : List Bool) (tdi n out : ℕ) (e : list ++ low_bits n tdi ≡ low_bits n out ++ rest) where
  out_is : out < 2 ^ n → number_of (shifted_out list (low_bits n tdi)) ≡ out
  out_is h =
      let count : length (low_bits n tdi) ≡ length (low_bits n out) = length-low_bits n tdi ∙ sym (length-low_bits n out) in
      ap (λ l. number_of (take (length (low_bits n tdi)) l)) e ∙ ap (λ k. number_of (take k (low_bits n out ++ rest))) count
      ∙ ap number_of (take-append_seam (low_bits n out) rest) ∙ number_of-low_bits n out ∙ mod-eq_of_lt h

  left_is : left_in list (low_bits n tdi) ≡ rest
  left_is =
      let count : length (low_bits n tdi) ≡ length (low_bits n out) = length-low_bits n tdi ∙ sym (length-low_bits n out) in
      ap (drop (length (low_bits n tdi))) e ∙ ap (λ k. drop k (low_bits n out ++ rest)) count ∙ drop-append_seam (low_bits n out) rest

-- as many bits come in as go out
pub block_length : (old mid new : List Bool) (n x r : ℕ) → mid ≡ old ++ low_bits n x → mid ≡ low_bits n r ++ new → length new ≡ length old
block_length old mid new n x r e f =
    omega (arith, ap length e, ap length f, length-append old (low_bits n x), length-append (low_bits n r) new, length-low_bits n x, length-low_bits n r)

state_is : (ir last : Bool) → next_of (shift_state ir) last ≡ state_after_block ir last
state_is true true = refl
state_is true false = refl
state_is false true = refl
state_is false false = refl

module _ (k : Logic) (tdi n out : ℕ) (last : Bool) (rest : List Bool) (some : 1 ≤ n) (below : out < 2 ^ n) where
  pub ir_block : (new : Logic) → k.tap ≡ IrShift → 0 < length k.ir_list → k.ir_list ++ low_bits n tdi ≡ low_bits n out ++ rest →
      new ≡ record k { tap = next_of IrShift last; ir_list = rest } → IsBlockShifted k new tdi n last out
  ir_block new t h e w = record {
    tdo = λ cells busy. sym
        ((shifts_block true (card_of k cells busy) tdi n last some (record { state = t; some = h })).tdo
        ∙ out_is k.ir_list rest tdi n out e below);
    card = λ cells busy.
        (let c : Card = card_of k cells busy in
        ap (λ (x : Logic). card_of x cells busy) w ∙ ap (λ s. in_state s (with_list true c rest)) (state_is true last)
        ∙ ap (λ l. in_state (state_after_block true last) (with_list true c l)) (sym (left_is k.ir_list rest tdi n out e))
        ∙ sym (shifts_block true c tdi n last some (record { state = t; some = h })).card);
  }

  pub dr_block : (new : Logic) → k.tap ≡ DrShift → 0 < length k.dr_list → k.dr_list ++ low_bits n tdi ≡ low_bits n out ++ rest →
      new ≡ record k { tap = next_of DrShift last; dr_list = rest } → IsBlockShifted k new tdi n last out
  dr_block new t h e w = record {
    tdo = λ cells busy. sym
        ((shifts_block false (card_of k cells busy) tdi n last some (record { state = t; some = h })).tdo
        ∙ out_is k.dr_list rest tdi n out e below);
    card = λ cells busy.
        (let c : Card = card_of k cells busy in
        ap (λ (x : Logic). card_of x cells busy) w ∙ ap (λ s. in_state s (with_list false c rest)) (state_is false last)
        ∙ ap (λ l. in_state (state_after_block false last) (with_list false c l)) (sym (left_is k.dr_list rest tdi n out e))
        ∙ sym (shifts_block false c tdi n last some (record { state = t; some = h })).card);
  }

-- a card that was sound is so after clocks
sound_after_all : (is : List Input) (c : Card) → IsSound c → IsSound (card_after c is)
sound_after_all [] c h = h
sound_after_all (i ∷ is) c h = sound_after_all is (step c i.tms i.tdi) (sound_step c i.tms i.tdi h)

pub sound_block : (old new : Logic) (tdi n : ℕ) (last : Bool) (o : Option ℕ) (cells : List (List Bool)) (busy : ℕ) →
    MatchOption o (new ≡ old) (λ seen. IsBlockShifted old new tdi n last seen) → IsSound (card_of old cells busy) → IsSound (card_of new cells busy)
sound_block old new tdi n last None cells busy e h = subst (λ k. IsSound (card_of k cells busy)) (sym e) h
sound_block old new tdi n last (Some seen) cells busy e h =
    subst IsSound (sym (e.card cells busy)) (sound_after_all (block_inputs tdi n last) (card_of old cells busy) h)
