use Rattle.std.proofs.Common.{None, arith}
use Rattle.stapl_meaning.proofs.Sound.{sound}
use Rattle.stapl_meaning.proofs.Blocks.{same_count}
use Rattle.stapl_meaning.proofs.Ordered.{all_play, ordered}
use Rattle.stapl_meaning.proofs.Sized.{sized}
use Rattle.stapl_meaning.proofs.Resolved.{typed_at, typed_presets, items_named}
use Rattle.stapl_meaning.proofs.Apart.{blocks_apart, procedures_are, procedures_apart, actions_apart, some_action}
use Rattle.stapl_meaning.proofs.laws.programs_are_typed.Goals as goal

pub returns : goal.returns
returns c = λ text program is.
    let kept = sound text program is in
    let few = kept.few in
    record {
      few = omega (arith, few, same_count None program);
      play = all_play program;
      ordered = ordered program kept;
      statements = typed_at program kept;
      presets = typed_presets program kept;
      items = items_named program kept;
      blocks_apart = blocks_apart program kept;
      procedures_are = procedures_are program kept;
      procedures_apart = procedures_apart program kept;
      actions_apart = actions_apart program kept;
      some_action = some_action program kept;
      sized = sized program kept;
    }
