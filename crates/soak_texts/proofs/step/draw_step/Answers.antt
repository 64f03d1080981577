use Rattle.std.proofs.Common.{ap, sym, ◌∙◌, arith}
use Rattle.soak_texts.specs.declared.step.Step.TheVariants.{Scan}
use Rattle.soak_texts.specs.Steps.{four_draws}
use Rattle.soak_texts.proofs.StepLemmas.{step_is, scan_kind, multiply_kind, mix_kind, last_kind, state_is}
use Rattle.soak_texts.proofs.StepLemmas.{after_two, after_six}
use Rattle.soak_texts.proofs.step.draw_step.Goals as goal

pub returns-in-0-clause-step : goal.returns-in-0-clause-step
returns-in-0-clause-step c =
    let kind = c.below-kind.ensures in
    let number = c.below-number.ensures in
    step_is _ _ _ _ _ _ kind.answer kind.state number.answer number.state
    (scan_kind _ c.below-number.result _ c.in-0.is ∙ ap Scan (sym c.draw_data.ensures.numbers))

pub returns-in-0-clause-state : goal.returns-in-0-clause-state
returns-in-0-clause-state c =
    state_is _ _ _ (returns-in-0-clause-step c)
    (after_six _ _ _ _ c.below-kind.ensures.state c.below-number.ensures.state c.draw_data.ensures.state)

pub returns-in-1-clause-step : goal.returns-in-1-clause-step
returns-in-1-clause-step c =
    let kind = c.below-kind.ensures in
    let number = c.below-number.ensures in
    step_is _ _ _ _ _ _ kind.answer kind.state number.answer number.state
    (multiply_kind _ c.below-number.result (four_draws c.below-number.new.self.state) c.in-1.is)

pub returns-in-1-clause-state : goal.returns-in-1-clause-state
returns-in-1-clause-state c =
    state_is _ _ _ (returns-in-1-clause-step c)
    (after_two _ _ _ c.below-kind.ensures.state c.below-number.ensures.state)

pub returns-in-2-clause-step : goal.returns-in-2-clause-step
returns-in-2-clause-step c =
    let kind = c.below-kind.ensures in
    let number = c.below-number.ensures in
    step_is _ _ _ _ _ _ kind.answer kind.state number.answer number.state
    (mix_kind _ c.below-number.result (four_draws c.below-number.new.self.state) c.in-2.is)

pub returns-in-2-clause-state : goal.returns-in-2-clause-state
returns-in-2-clause-state c =
    state_is _ _ _ (returns-in-2-clause-step c)
    (after_two _ _ _ c.below-kind.ensures.state c.below-number.ensures.state)

pub returns-in_default-clause-step : goal.returns-in_default-clause-step
returns-in_default-clause-step c =
    let kind = c.below-kind.ensures in
    let number = c.below-number.ensures in
    step_is _ _ _ _ _ _ kind.answer kind.state number.answer number.state
    (last_kind c.below-kind.result c.below-number.result (four_draws c.below-number.new.self.state)
    (λ e. omega arith) (λ e. omega arith) (λ e. omega arith))

pub returns-in_default-clause-state : goal.returns-in_default-clause-state
returns-in_default-clause-state c =
    state_is _ _ _ (returns-in_default-clause-step c)
    (after_two _ _ _ c.below-kind.ensures.state c.below-number.ensures.state)
