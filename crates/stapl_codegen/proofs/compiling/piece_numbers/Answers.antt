use Rattle.std.proofs.Common.{◌≡◌, ◌+◌, ◌∷◌, [], ◌++◌, ◌∙◌, sym, ap, arith}
use Rattle.std.specs.List.{range_with_len}
use Rattle.stapl_codegen.proofs.DefinitionSteps.{range_more}
use Rattle.stapl_codegen.proofs.compiling.piece_numbers.Goals as goal

pub loop-i-preserved : goal.loop-i-preserved
loop-i-preserved c =
    let number : c.loop-i.i + 1 ≡ 1 + c.loop-i.i = omega arith in
    c.in_ok-push.ensures.items ∙ ap (λ l. l ++ (c.loop-i.i + 1) ∷ []) c.loop-i.invariant
    ∙ ap (λ n. range_with_len 1 c.loop-i.i ++ n ∷ []) number ∙ sym (range_more 1 c.loop-i.i)
