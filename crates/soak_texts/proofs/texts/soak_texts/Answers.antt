use Rattle.std.proofs.Common.{ap, ◌+◌, ◌∙◌, arith}
use Rattle.soak_texts.specs.Boards.{soak_devices, soak_place}
use Rattle.soak_texts.specs.Soak.{soak_program}
use Rattle.soak_texts.proofs.DrawLemmas.{next_after}
use Rattle.soak_texts.proofs.BoardLemmas.{some_device, few_devices, place_drawn, count_of_lengths, length_at}
use Rattle.soak_texts.proofs.BoardLemmas.{some_length, program_is}
use Rattle.soak_texts.proofs.texts.soak_texts.Goals as goal

pub below-place-requires : goal.below-place-requires
below-place-requires c = rw c.in_ok-board.ensures.devices (some_device c.from_seed-draws.result.state)

pub overflow_add-place : goal.overflow_add-place
overflow_add-place c =
    let s = c.from_seed-draws.result.state in
    omega (arith, c.in_ok-board.ensures.devices, some_device s, few_devices s, c.below-place.ensures.answer)

pub index-bits-requires : goal.index-bits-requires
index-bits-requires c =
    let s = c.from_seed-draws.result.state in
    omega (
      arith,
      c.in_ok-board.ensures.devices,
      some_device s,
      c.below-place.ensures.answer,
      count_of_lengths s _ c.in_ok-board.ensures.lengths,
      c.in_ok-board.board.lengths.ok.0,
    )

pub draw_program-requires : goal.draw_program-requires
draw_program-requires c =
    let s = c.from_seed-draws.result.state in
    let board = c.in_ok-board.ensures in
    rw (length_at s _ _ _ _ _ board.lengths board.devices board.state c.below-place.ensures.answer c.index-bits.ensures)
    (some_length s)

pub returns-clause-program : goal.returns-clause-program
returns-clause-program c =
    let s = c.from_seed-draws.result.state in
    let board = c.in_ok-board.ensures in
    program_is s _ _ _ c.in_ok-program.ensures
    (length_at s _ _ _ _ _ board.lengths board.devices board.state c.below-place.ensures.answer c.index-bits.ensures)
    (c.below-place.ensures.state ∙ next_after (1 + soak_devices s) (2 + soak_devices s) s _ board.state (omega arith))
    ∙ ap soak_program c.from_seed-draws.ensures

pub returns-clause-place : goal.returns-clause-place
returns-clause-place c =
    place_drawn _ _ _ _ c.in_ok-board.ensures.state c.in_ok-board.ensures.devices c.below-place.ensures.answer
    ∙ ap soak_place c.from_seed-draws.ensures
