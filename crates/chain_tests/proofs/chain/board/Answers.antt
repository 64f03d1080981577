use Rattle.std.proofs.Common.{[], ◌∷◌, ◌++◌}
use Rattle.std.proofs.lemmas.List.Elements.{All-push, All-same}
use Rattle.dev_card.specs.Descriptions.{IsGood}
use Rattle.chain_tests.proofs.chain.board.Goals as goal

pub loop-i-preserved : goal.loop-i-preserved
loop-i-preserved c =
    All-same IsGood c.push.new.self.items (c.loop-i.descs.items ++ c.in_ok-desc.desc ∷ []) c.in_ok-push.ensures.items
    (All-push IsGood c.loop-i.descs.items c.in_ok-desc.desc c.loop-i.invariant c.in_ok-desc.ensures)
