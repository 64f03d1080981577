-- The instruction lengths of a board are small.
use Rattle.std.proofs.Common.{◌≤◌, ◌<◌, ◌*◌, ◌^◌, ℕ, List, length, take, drop, arith}
use Rattle.std.specs.Prelude.{All}
use Rattle.std.proofs.lemmas.List.Elements.{All-weaker}
use Rattle.std.proofs.lemmas.List.Sums.{sum-map, sum_by-le, sum_by-take-drop}
use Rattle.dev_card.specs.Board.{most_devices}
use Rattle.dev_card.specs.declared.desc.Desc.{Desc}
use Rattle.dev_card.specs.Descriptions.{IsGood}
use Rattle.dev_card.specs.Padding.{instruction_lengths}

abbrev ir_length : Desc → ℕ
ir_length d = d.ir_len

few_bits : (ds : List Desc) → All IsGood ds → length ds ≤ most_devices → instruction_lengths ds ≤ 64 * most_devices
few_bits ds good few =
    let most = sum_by-le ir_length 64 ds (All-weaker IsGood (λ (d : Desc). d.ir_len ≤ 64) (λ d h. h.longest) ds good) in
    omega (arith, sum-map ir_length ds, most, few)

-- those of the devices before a place, and of those after it
pub before_fit : (ds : List Desc) (n : ℕ) → All IsGood ds → length ds ≤ most_devices → instruction_lengths (take n ds) < 2 ^ 32
before_fit ds n good few =
    let all = few_bits ds good few in
    omega (arith, all, sum-map ir_length ds, sum-map ir_length (take n ds), sum_by-take-drop ir_length ds n)

pub after_fit : (ds : List Desc) (n : ℕ) → All IsGood ds → length ds ≤ most_devices → instruction_lengths (drop n ds) < 2 ^ 32
after_fit ds n good few =
    let all = few_bits ds good few in
    omega (arith, all, sum-map ir_length ds, sum-map ir_length (drop n ds), sum_by-take-drop ir_length ds n)
