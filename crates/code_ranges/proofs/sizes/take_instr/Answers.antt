use Rattle.std.proofs.Common.{length, ap, ◌∙◌, arith}
use Rattle.stapl_code.specs.declared.instr.Instr.{Instr}
use Rattle.stapl_code.specs.Fields.{integer}
use Rattle.stapl_code.specs.Instrs.{part, state, instr}
use Rattle.stapl_code.specs.Sizes.{bytes_of}
use Rattle.stapl_code.proofs.SizeLemmas.{length_of_counted, taken_then}
use Rattle.code_ranges.proofs.sizes.take_instr.Goals as goal

pub returns-then-take : goal.returns-then-take
returns-then-take c =
    let all = length_of_counted integer c.as_slice.result.now in
    taken_then 9 (bytes_of integer c.as_slice.result.now) _ _ _ _ _ _ c.if-take.true
    (ap (λ (x : Instr). length (instr x)) c.in-SetInts.is ∙ rw (← c.as_slice.ensures) (omega arith)) c.take-in-SetInts.ensures c.take_integers.ensures

pub returns-then-take-2 : goal.returns-then-take-2
returns-then-take-2 c =
    let all = length_of_counted part c.as_slice-then-take-2.result.now in
    taken_then 5 (bytes_of part c.as_slice-then-take-2.result.now) _ _ _ _ _ _ c.if-take-2.true
    (ap (λ (x : Instr). length (instr x)) c.in-Print.is ∙ rw (← c.as_slice-then-take-2.ensures) (omega arith)) c.take-in-Print.ensures c.take_parts.ensures

pub returns-then-take-3 : goal.returns-then-take-3
returns-then-take-3 c =
    let all = length_of_counted state c.as_slice-then-take-3.result.now in
    taken_then 5 (bytes_of state c.as_slice-then-take-3.result.now) _ _ _ _ _ _ c.if-take-3.true
    (ap (λ (x : Instr). length (instr x)) c.in-State.is ∙ rw (← c.as_slice-then-take-3.ensures) (omega arith)) c.take-in-State.ensures c.take_states.ensures
