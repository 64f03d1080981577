-- Blocks of clocks, of one card and of a board.
use Rattle.std.proofs.Common.{◌≡◌, ◌<◌, ◌+◌, ◌-◌, ◌/◌, ◌%◌, ◌&&◌, ℕ, suc, zero, nat_eq, Bool, List, [], ◌∷◌, length, refl, sym, ap, ◌∙◌, arith}
use Rattle.std.proofs.lemmas.Bool.Decides.{nat_tests}
use Rattle.base.specs.Bits.{low_bits, number_of}
use Rattle.base.proofs.NumberBits.{length-low_bits, low_bits-number_of}
use Rattle.dev_card.specs.Card.{Card, step, tdo_of}
use Rattle.dev_card.specs.Board.{Input, clocks_of, board_after, board_tdo, board_step, after_input, tdos}
use Rattle.dev_card.specs.Clocks.{is_nil, part_inputs}
use Rattle.dev_card.specs.Blocks.{block_inputs, card_after, card_tdos, board_block, board_after_block, with_tdis, RunsCardByCard, ShiftsCardByCard}

-- the TDO of each card before a clock doesn't hang on its TDI at that clock
pub runs_card_by_card : (c : Card) (cs : List Card) (inputs : List Input) → RunsCardByCard c cs inputs
runs_card_by_card c cs [] = record { tdo = refl; board = refl }
runs_card_by_card c cs (i ∷ is) =
    let rest = runs_card_by_card (step c i.tms (board_tdo cs i.tdi)) (board_step cs i.tms i.tdi) is in
    record { tdo = ap (λ z. tdo_of c ∷ z) rest.tdo; board = rest.board }

length_of_part : (last : Bool) (bits : List Bool) → length (part_inputs last bits) ≡ length bits
length_of_part last [] = refl
length_of_part last (b ∷ bits) = ap suc (length_of_part last bits)

length_of_clocks : (cs : List Card) (inputs : List Input) → length (tdos (clocks_of cs inputs)) ≡ length inputs
length_of_clocks cs [] = refl
length_of_clocks cs (i ∷ is) = ap suc (length_of_clocks (after_input cs i) is)

nil_by_length : (xs ys : List Bool) → length xs ≡ length ys → is_nil xs ≡ is_nil ys
nil_by_length [] [] h = refl
nil_by_length [] (y ∷ ys) h = absurd (omega (arith, h))
nil_by_length (x ∷ xs) [] h = absurd (omega (arith, h))
nil_by_length (x ∷ xs) (y ∷ ys) h = refl

-- a part of a scan with other bits, as many
part_with_tdis : (last : Bool) (xs ys : List Bool) → length xs ≡ length ys → with_tdis (part_inputs last xs) ys ≡ part_inputs last ys
part_with_tdis last [] [] h = refl
part_with_tdis last [] (y ∷ ys) h = absurd (omega (arith, h))
part_with_tdis last (x ∷ xs) [] h = absurd (omega (arith, h))
part_with_tdis last (x ∷ xs) (y ∷ ys) h =
    let k : length xs ≡ length ys = omega (arith, h) in
    ap (λ t. record { tms = last && t; tdi = y } ∷ with_tdis (part_inputs last xs) ys) (nil_by_length xs ys k)
    ∙ ap (λ z. record { tms = last && is_nil ys; tdi = y } ∷ z) (part_with_tdis last xs ys k)

pub length_of_block : (cs : List Card) (tdi n : ℕ) (last : Bool) → length (tdos (clocks_of cs (block_inputs tdi n last))) ≡ n
length_of_block cs tdi n last = length_of_clocks cs (block_inputs tdi n last) ∙ length_of_part last (low_bits n tdi) ∙ length-low_bits n tdi

-- the lowest n bits of what a board answers are its TDO bits
pub bits_of_block : (cs : List Card) (tdi n : ℕ) (last : Bool) → low_bits n (board_block cs tdi n last) ≡ tdos (clocks_of cs (block_inputs tdi n last))
bits_of_block cs tdi n last =
    ap (λ m. low_bits m (board_block cs tdi n last)) (sym (length_of_block cs tdi n last)) ∙ low_bits-number_of (tdos (clocks_of cs (block_inputs tdi n last)))

-- a block with what a board answers at TDI
block_after : (cs : List Card) (tdi n : ℕ) (last : Bool) →
    with_tdis (block_inputs tdi n last) (tdos (clocks_of cs (block_inputs tdi n last))) ≡ block_inputs (board_block cs tdi n last) n last
block_after cs tdi n last =
    let out : List Bool = tdos (clocks_of cs (block_inputs tdi n last)) in
    part_with_tdis last (low_bits n tdi) out (length-low_bits n tdi ∙ sym (length_of_block cs tdi n last))
    ∙ ap (part_inputs last) (sym (bits_of_block cs tdi n last))

pub shifts_card_by_card : (c : Card) (cs : List Card) (tdi n : ℕ) (last : Bool) → ShiftsCardByCard c cs tdi n last
shifts_card_by_card c cs tdi n last =
    let all = runs_card_by_card c cs (block_inputs tdi n last) in
    let after = block_after cs tdi n last in
    record {
      tdo = ap number_of (all.tdo ∙ ap (card_tdos c) after);
      board = all.board ∙ ap (λ z. card_after c z ∷ board_after_block cs tdi n last) after;
    }

-- The next clock of a block, and the rest of it.
nil_of_low : (m x : ℕ) → is_nil (low_bits m x) ≡ nat_eq m 0
nil_of_low zero x = refl
nil_of_low (suc m) x = grind (arith, nat_tests)

last_of_left : (n i : ℕ) → i < n → nat_eq (n - (i + 1)) 0 ≡ nat_eq (i + 1) n
last_of_left n i h = grind (arith, nat_tests)

pub next_of_block : (last : Bool) (n i x : ℕ) → i < n →
    block_inputs x (n - i) last ≡ record { tms = last && nat_eq (i + 1) n; tdi = nat_eq (x % 2) 1 } ∷ block_inputs (x / 2) (n - (i + 1)) last
next_of_block last n i x h =
    let e : n - i ≡ suc (n - (i + 1)) = omega arith in
    ap (λ m. block_inputs x m last) e
    ∙ ap (λ t. record { tms = last && t; tdi = nat_eq (x % 2) 1 } ∷ block_inputs (x / 2) (n - (i + 1)) last)
    (nil_of_low (n - (i + 1)) (x / 2) ∙ last_of_left n i h)

-- a board of no card: what comes in comes out
nothing_seen : (last : Bool) (bits : List Bool) → tdos (clocks_of [] (part_inputs last bits)) ≡ bits
nothing_seen last [] = refl
nothing_seen last (b ∷ bits) = ap (λ z. b ∷ z) (nothing_seen last bits)

pub nothing_after : (inputs : List Input) → board_after [] inputs ≡ []
nothing_after [] = refl
nothing_after (i ∷ is) = nothing_after is

pub block_of_nothing : (tdi n : ℕ) (last : Bool) → board_block [] tdi n last ≡ number_of (low_bits n tdi)
block_of_nothing tdi n last = ap number_of (nothing_seen last (low_bits n tdi))
