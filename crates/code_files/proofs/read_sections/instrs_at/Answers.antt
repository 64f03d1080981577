use Rattle.std.proofs.Common.{◌≡◌, ◌++◌, ◌∷◌, []}
use Rattle.std.proofs.lemmas.Result.{err_from_is_err_and}
use Rattle.code_files.specs.Reading.{items_at}
use Rattle.code_files.specs.ReadInstrs.{instr_at}
use Rattle.code_files.proofs.Loops.{goes_on, ends, is_done}
use Rattle.code_files.proofs.read_sections.instrs_at.Goals as goal

pub returns-in_err-item : goal.returns-in_err-item
returns-in_err-item c =
    let p = err_from_is_err_and c.from_residual.result c.from_residual.ensures.1 in
    rw (p.1, p.2) (ends (λ _. (instr_at c.args.counts.variables.now c.args.counts.literals c.args.counts.texts c.args.counts.procedures)) c.in_err-item.field-0.0
    c.loop.items.items c.args.count c.loop.counter c.loop.rest.now
    (items_at (λ _. (instr_at c.args.counts.variables.now c.args.counts.literals c.args.counts.texts c.args.counts.procedures)) [] c.args.count c.args.bytes.now)
    c.loop-test.true c.in_err-item.ensures c.loop.invariant)

pub loop-preserved : goal.loop-preserved
loop-preserved c =
    let item = c.in_ok-item.item in
    let pushed : c.push.new.self.items ≡ c.loop.items.items ++ item ∷ [] = c.in_ok-push.ensures.items in
    rw pushed (goes_on (λ _. (instr_at c.args.counts.variables.now c.args.counts.literals c.args.counts.texts c.args.counts.procedures)) c.loop.items.items c.args.count
    c.loop.counter c.loop.rest.now item c.in_ok-item.after.now
    (items_at (λ _. (instr_at c.args.counts.variables.now c.args.counts.literals c.args.counts.texts c.args.counts.procedures)) [] c.args.count c.args.bytes.now)
    c.loop-test.true c.in_ok-item.ensures c.loop.invariant)

pub returns : goal.returns
returns c = is_done (λ _. (instr_at c.args.counts.variables.now c.args.counts.literals c.args.counts.texts c.args.counts.procedures)) c.loop.items.items c.args.count
    c.loop.counter c.loop.rest.now (items_at (λ _. (instr_at c.args.counts.variables.now c.args.counts.literals c.args.counts.texts c.args.counts.procedures)) [] c.args.count c.args.bytes.now)
    c.loop-test.false c.loop.invariant
