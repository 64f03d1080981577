use Rattle.std.proofs.Common.{ap, refl}
use Rattle.dev_card.specs.Padding.{BaseLengths}
use Rattle.stapl_meaning.specs.Plays.{ending_of}
use Rattle.stapl_player.specs.Plays.{whole_play}
use Rattle.drive_tool.proofs.preparing.prepare_chosen.Goals as goal

pub returns : goal.returns
returns c = record {
  playable = record { prepared = c.in_ok-machine.ensures; below = c.requires.below };
  same_pins = refl;
  same_play = record {
    events = λ far. ap (λ (base : BaseLengths). (whole_play c.args.code c.args.chosen.items c.args.task.now.request.now.turns base far).events) c.base_of-base.ensures;
    endings = λ far. ap (λ (base : BaseLengths). ending_of (whole_play c.args.code c.args.chosen.items c.args.task.now.request.now.turns base far).outcome) c.base_of-base.ensures;
  };
}
