-- The base padding for a run of a board is short enough for a program to set it.
use Rattle.std.proofs.Common.{◌≡◌, ◌≤◌, ◌+◌, ◌-◌, ◌*◌, List, [], ◌∷◌, All, Some, length, map, arith}
use Rattle.std.proofs.lemmas.List.{length-take, length-drop}
use Rattle.std.proofs.lemmas.List.Elements.{All-head, All-tail, All-take, All-drop}
use Rattle.std.proofs.lemmas.List.Sums.{sum_by-cons}
use Rattle.dev_card.specs.declared.desc.Desc.{Desc}
use Rattle.dev_card.specs.Board.{most_devices}
use Rattle.dev_card.specs.Descriptions.{IsGood}
use Rattle.dev_card.specs.Padding.{Neighbours, instruction_lengths, base_lengths, before_run, after_run}
use Rattle.carried_plays.specs.CarriedRuns.{AreShort}

-- each instruction has at most 64 bits
lengths_are_short : (ds : List Desc) → All IsGood ds → instruction_lengths ds ≤ 64 * length ds
lengths_are_short [] g = omega arith
lengths_are_short (d ∷ ds) g =
    let here : d.ir_len ≤ 64 = (All-head IsGood d ds g).longest in
    let more : instruction_lengths ds ≤ 64 * length ds = lengths_are_short ds (All-tail IsGood d ds g) in
    let e : instruction_lengths (d ∷ ds) ≡ d.ir_len + instruction_lengths ds = sum_by-cons (λ x. x) d.ir_len (map (λ (d : Desc). d.ir_len) ds) in
    omega (arith, here, more, e)

pub base_is_short : (devices : List Desc) (run : Neighbours) → All IsGood devices → length devices ≤ most_devices → AreShort (base_lengths devices (Some run))
base_is_short devices run g few =
    let before : length (before_run run devices) ≤ 64 = omega (arith, length-take (run.first - 1) devices, few) in
    let after : length (after_run run devices) ≤ 64 = omega (arith, length-drop run.last devices, few) in
    let x : instruction_lengths (before_run run devices) ≤ 64 * length (before_run run devices) =
    lengths_are_short (before_run run devices) (All-take IsGood (run.first - 1) devices g) in
    let y : instruction_lengths (after_run run devices) ≤ 64 * length (after_run run devices) =
    lengths_are_short (after_run run devices) (All-drop IsGood run.last devices g) in
    record { ir_pre = omega (arith, x, before); ir_post = omega (arith, y, after); dr_pre = omega (arith, before); dr_post = omega (arith, after) }
