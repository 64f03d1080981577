use Rattle.std.proofs.Common.{rules, ◌≡◌, ◌-◌, length, reverse, drop, take, ap, sym, subst, ◌∙◌}
use Rattle.std.specs.Prelude.{Ok, Err}
use Rattle.stapl_code.specs.Machine.{made, lands}
use Rattle.stapl_code.specs.Safe.{entries_of, constants_of}
use Rattle.machine_memory.specs.declared.memory.Workspace.{Workspace}
use Rattle.machine_memory.specs.Acts.{IsMade, told_by, state_of, step_of}
use Rattle.stapl_instructions.proofs.Slices.{none_there, all_there, acts, acts_not}
use Rattle.stapl_instructions.proofs.act.act.Goals as goal

pub returns-then-len-count-clause-acts : goal.returns-then-len-count-clause-acts
returns-then-len-count-clause-acts c = λ chosen.
    let here = c.args.here in let len : c.len-len.result ≡ length c.args.work.now.operands.items = search rules in
    none_there c.args.code.now c.args.instr.now c.args.work.now chosen here c.operands_taken-count.result c.len-len.result c.operands_taken-count.ensures len c.if-len-count.true

pub returns-in-Ok-clause-acts : goal.returns-in-Ok-clause-acts
returns-in-Ok-clause-acts c = λ chosen.
    let here = c.args.here in let code = c.args.code.now in let i = c.args.instr.now in let old = c.args.work.now in
    let xs = old.operands.items in let at = c.len-len.result - c.operands_taken-count.result in
    let entries = entries_of code.procedures in let s = state_of chosen old in
    let new : Workspace = record { memory = c.make.new.memory; operands = c.truncate.new.self; text = c.make.new.text; next = old.next; piece = old.piece } in
    let len : c.len-len.result ≡ length xs = search rules in
    let is : c.after-values.result.now ≡ drop at xs = c.after-values.ensures ∙ ap (drop at) c.deref.ensures.value in
    let told = c.in-Ok.ensures.made entries (drop old.next chosen) in
    acts code i (lands entries here i) chosen s new (reverse (take at xs)) (step_of code here i chosen old)
    (made entries (constants_of code) here i (drop at xs) s) c.in-Ok.made (ap reverse (sym c.truncate.ensures.items))
    (all_there code i old chosen here c.operands_taken-count.result c.len-len.result c.operands_taken-count.ensures len c.if-len-count.false)
    (subst (λ vs. IsMade (Ok c.in-Ok.made) (told_by code i c.make.new.text.items c.make.new.memory) s (state_of chosen new) (made entries (constants_of code) here i vs s)) is told)

pub returns-in-Err-clause-acts : goal.returns-in-Err-clause-acts
returns-in-Err-clause-acts c = λ chosen.
    let here = c.args.here in let code = c.args.code.now in let i = c.args.instr.now in let old = c.args.work.now in
    let xs = old.operands.items in let at = c.len-len.result - c.operands_taken-count.result in
    let entries = entries_of code.procedures in let s = state_of chosen old in
    let new : Workspace = record { memory = c.make.new.memory; operands = old.operands; text = c.make.new.text; next = old.next; piece = old.piece } in
    let len : c.len-len.result ≡ length xs = search rules in
    let is : c.after-values.result.now ≡ drop at xs = c.after-values.ensures ∙ ap (drop at) c.deref.ensures.value in
    let told = c.in-Err.ensures.made entries (drop old.next chosen) in
    acts_not code i (lands entries here i) chosen s new (reverse (take at xs)) (step_of code here i chosen old) (made entries (constants_of code) here i (drop at xs) s) c.in-Err.stop
    (all_there code i old chosen here c.operands_taken-count.result c.len-len.result c.operands_taken-count.ensures len c.if-len-count.false)
    (subst (λ vs. IsMade (Err c.in-Err.stop) (told_by code i c.make.new.text.items c.make.new.memory) s (state_of chosen new) (made entries (constants_of code) here i vs s)) is told)
