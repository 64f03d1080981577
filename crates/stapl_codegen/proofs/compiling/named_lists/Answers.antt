use Rattle.std.proofs.Common.{◌≢◌, ◌∙◌, ap, sym, subst, AllPairs}
use Rattle.std.specs.Map.{keys_of}
use Rattle.stapl_syntax.specs.Names.{Names}
use Rattle.stapl_meaning.specs.Typed.{plain_blocks}
use Rattle.stapl_codegen.proofs.compiling.named_lists.Goals as goal

pub outline_of-requires-clause-known : goal.outline_of-requires-clause-known
outline_of-requires-clause-known c =
    let same = c.requires.names in
    record {
      next = c.in_ok-next.ensures;
      apart = subst (λ (n : Names). AllPairs (λ a b. a ≢ b) (keys_of n.blocks)) (sym same) c.requires.accepted.typed.blocks_apart;
      procedures = ap (λ (n : Names). plain_blocks n.blocks) same ∙ c.requires.accepted.typed.procedures_are;
    }
