-- Blocks over a cable that tells no board, whatever it answers.
use Rattle.std.proofs.Common.{◌≡◌, ◌<◌, ◌^◌, ℕ, Bool, List, [], ◌∷◌, map, length, Option, None, refl, sym, ap, ◌∙◌, arith}
use Rattle.std.specs.Option.{option_map}
use Rattle.std.proofs.lemmas.Option.{none-some}
use Rattle.std.proofs.Math.Nat.{mod-eq_of_lt}
use Rattle.base.specs.Bits.{low_bits, number_of}
use Rattle.base.proofs.NumberBits.{length-low_bits, number_of-low_bits}
use Rattle.dev_card.specs.Card.{Card}
use Rattle.dev_card.specs.Board.{Clock, Input, board_after, tdos}
use Rattle.dev_card.specs.Clocks.{clocks_with}
use Rattle.dev_card.specs.Blocks.{block_inputs}
use Rattle.scan_paths.specs.Cables.{Signal, pulsed, input_of, HasShifted, HasMadeFront}
use Rattle.scan_paths.proofs.Shifting.{length_of_inputs}

went_in : (is : List Input) (bits : List Bool) → length bits ≡ length is → map input_of (clocks_with is bits) ≡ is
went_in [] bits e = refl
went_in (i ∷ is) [] e = absurd (omega (arith, e))
went_in (i ∷ is) (b ∷ bits) e = ap (λ z. i ∷ z) (went_in is bits (omega (arith, e)))

came_out : (is : List Input) (bits : List Bool) → length bits ≡ length is → tdos (clocks_with is bits) ≡ bits
came_out [] [] e = refl
came_out [] (b ∷ bits) e = absurd (omega (arith, e))
came_out (i ∷ is) [] e = absurd (omega (arith, e))
came_out (i ∷ is) (b ∷ bits) e = ap (λ z. b ∷ z) (came_out is bits (omega (arith, e)))

module _ {C : Type 0} (board : C → Option (List Card)) (makes : C → List Signal → C → Type 0) (old new : C)
    (before : board old ≡ None) (after : board new ≡ None)
    (made : (signals : List Signal) → makes old signals new) where
  pub untold_block : (tdi n tdo : ℕ) (last : Bool) → tdo < 2 ^ n → HasShifted board makes old new (block_inputs tdi n last) tdo
  untold_block tdi n tdo last h =
      let is : List Input = block_inputs tdi n last in
      let size : length (low_bits n tdo) ≡ length is = length-low_bits n tdo ∙ sym (length_of_inputs last (low_bits n tdi) ∙ length-low_bits n tdi) in
      let clocks : List Clock = clocks_with is (low_bits n tdo) in
      record {
        clocks = clocks;
        made = record {
          made = made (pulsed clocks);
          went_in = went_in is (low_bits n tdo) size;
          seen = λ cs t. absurd (none-some cs (sym before ∙ t));
          cards = after ∙ ap (option_map (λ cs. board_after cs is)) (sym before);
        };
        bits = sym (ap number_of (came_out is (low_bits n tdo) size) ∙ number_of-low_bits n tdo ∙ mod-eq_of_lt h);
      }

  pub untold_failure : (inputs : List Input) → HasMadeFront board makes old new inputs
  untold_failure inputs = record {
    front = [];
    rest = inputs;
    parts = refl;
    made = record {
      clocks = [];
      made = made [];
      went_in = refl;
      seen = λ cs t. absurd (none-some cs (sym before ∙ t));
      cards = λ cs now t u. absurd (none-some cs (sym before ∙ t));
      untold = λ t. after;
    };
  }
