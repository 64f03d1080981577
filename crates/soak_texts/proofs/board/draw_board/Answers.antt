use Rattle.std.proofs.Common.{◌+◌, ◌∙◌, ◌≡◌, arith}
use Rattle.soak_texts.specs.Draws.{state_after}
use Rattle.soak_texts.specs.Boards.{soak_devices, lines_of_devices}
use Rattle.soak_texts.proofs.BoardLemmas.{devices_drawn, length_drawn, text_more, lengths_more, whole_board}
use Rattle.soak_texts.proofs.DrawLemmas.{next_after}
use Rattle.soak_texts.proofs.board.draw_board.Goals as goal

pub loop-i-init : goal.loop-i-init
unfolding state_after lines_of_devices
loop-i-init c = record {
  devices = devices_drawn _ _ c.below-devices.ensures.answer;
  state = c.below-devices.ensures.state;
  text = c.new-text.ensures.items;
  lengths = c.new-lengths.ensures.items;
}

pub loop-i-preserved : goal.loop-i-preserved
loop-i-preserved c =
    let s = c.args.draws.now.state in
    let i = c.loop-i.i in
    let before = c.loop-i.invariant in
    let bits = length_drawn s _ i _ before.state c.below-bits.ensures.answer in
    record {
      devices = before.devices;
      state = c.below-bits.ensures.state ∙ next_after (1 + i) (1 + (i + 1)) s _ before.state (omega arith);
      text = text_more s i _ _ _ before.text bits c.in_ok-put_device.ensures;
      lengths = lengths_more s i _ _ _ before.lengths bits c.in_ok-push.ensures.items;
    }

pub returns-clause-text : goal.returns-clause-text
returns-clause-text c =
    let i : c.loop-i.i ≡ soak_devices c.args.draws.now.state = omega (arith, c.loop-i.invariant.devices) in
    whole_board c.args.draws.now.state c.loop-i.i _ c.loop-i.invariant.text i
