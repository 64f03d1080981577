use Rattle.std.proofs.Common.{length, sym, ap, subst, ◌∙◌}
use Rattle.std.specs.Prelude.{All}
use Rattle.stapl_code.specs.declared.raw.CodeLists.{CodeLists}
use Rattle.stapl_code.specs.Ranges.{IsAction}
use Rattle.stapl_code.specs.Safe.{AllBelow}
use Rattle.stapl_player.specs.Choices.{running}
use Rattle.stapl_player.proofs.ChoiceLemmas.{found_below}
use Rattle.stapl_player.proofs.choosing.choose.Goals as goal

pub returns-clause-below : goal.returns-clause-below
returns-clause-below c =
    let n = length c.args.code.now.procedures in
    let actions = c.as_slice.ensures ∙ ap (λ l. l.actions) c.lists-lists.ensures.lists ∙ ap (λ (l : CodeLists). l.actions) c.raw.ensures.raw in
    let below = found_below _ c.as_slice-procedures.result.now c.args.asked.now c.args.skipped.now n c.as_slice.result.now c.in-Some.found.now
    (subst (All (IsAction n)) (sym actions) c.raw.ensures.in_range.actions.each) (sym c.in-Some.ensures) in
    subst (AllBelow n) (sym (c.in_ok-running.ensures ∙ ap (running c.as_slice-procedures.result.now c.args.asked.now c.args.skipped.now) c.as_slice-items.ensures)) below
