use Rattle.std.proofs.Common.{List, ℕ, Some, subst}
use Rattle.stapl_syntax.specs.Programs.{IsProgram}
use Rattle.dev_card.specs.Padding.{BaseLengths, base_lengths}
use Rattle.carried_plays.specs.CarriedRuns.{AreShort}
use Rattle.carried_plays.specs.PadNames.{pad_name}
use Rattle.carried_padding.proofs.CarriedPadding.{text_carries}
use Rattle.carried_padding.proofs.laws.a_carried_text_plays_as_its_program_with_base_padding.Goals as goal

pub returns : goal.returns
returns c = record {
  accepted = λ text new program devices run is good few carried small.
      c.a_carried_text_is_a_program_or_too_large.ensures.program text new program (base_lengths devices (Some run)) is
      (c.base_padding_is_short.ensures devices run good few) carried small;
  plays = λ text new program own devices run is bare good few carried printed.
      let base : BaseLengths = base_lengths devices (Some run) in
      let short : AreShort base = c.base_padding_is_short.ensures devices run good few in
      text_carries base text program own carried.number is
      (c.a_carried_text_is_a_program.ensures.read text program own base carried.number is carried.named short (subst (λ (t : List ℕ). IsProgram t own) carried.whole printed))
      devices run
      (λ end closes. c.a_program_carries_its_padding.ensures text end program (pad_name carried.number) devices run is bare carried.named.free closes good few);
}
