use Rattle.std.proofs.Common.{refl}
use Rattle.rewrite_tool.specs.declared.status.RewriteStatus.TheVariants.{Done}
use Rattle.rewrite_tool.proofs.PlayedAlike.{played_alike}
use Rattle.rewrite_tool.proofs.laws.what_is_written_plays_as_the_program_at_its_place.Goals as goal

pub returns : goal.returns
returns c = λ board devices run bytes text is a.
    played_alike c.a_carried_text_plays_as_its_program_with_base_padding.ensures.accepted c.a_carried_text_plays_as_its_program_with_base_padding.ensures.plays
    devices run bytes text Done (c.each_board_can_be_fitted.ensures board devices is) a refl
