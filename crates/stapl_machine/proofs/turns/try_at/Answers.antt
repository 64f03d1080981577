use Rattle.std.proofs.Common.{rules, ◌≡◌, [], get_or}
use Rattle.stapl_instructions.proofs.OperandLemmas.{tried_leaves, count_fits, holds_after, holds_still, same_count}
use Rattle.stapl_machine.proofs.TryLemmas.{on_goes, on_counts, to_goes, to_counts, not_goes, not_counts}
use Rattle.stapl_machine.proofs.turns.try_at.Goals as goal

pub returns-in-On-clause-does : goal.returns-in-On-clause-does
returns-in-On-clause-does g c = λ chosen.
    let code = c.args.code.now in let i = c.args.i in let x = c.index-as_slice-i.result in let is : x ≡ get_or code.instrs i x = search rules in
    on_goes code i chosen c.args.work.now c.try_step.new.work x c.requires.inside is c.in-On.ensures.kept.0 (c.in-On.ensures.tried chosen)

pub returns-in-On-clause-ticks : goal.returns-in-On-clause-ticks
returns-in-On-clause-ticks g c = λ chosen.
    let code = c.args.code.now in let i = c.args.i in let x = c.index-as_slice-i.result in let is : x ≡ get_or code.instrs i x = search rules in
    on_counts code i chosen c.args.work.now c.try_step.new.work x c.requires.inside is c.args.steps.now c.count.new.steps c.count.ensures (c.in-On.ensures.tried chosen)

pub returns-in-To-clause-does : goal.returns-in-To-clause-does
returns-in-To-clause-does g c = λ chosen.
    let code = c.args.code.now in let i = c.args.i in let x = c.index-as_slice-i.result in let is : x ≡ get_or code.instrs i x = search rules in
    to_goes code i chosen c.args.work.now c.try_step.new.work x c.requires.inside is c.in-To.place (c.in-To.ensures.tried chosen).0

pub returns-in-To-clause-ticks : goal.returns-in-To-clause-ticks
returns-in-To-clause-ticks g c = λ chosen.
    let code = c.args.code.now in let i = c.args.i in let x = c.index-as_slice-i.result in let is : x ≡ get_or code.instrs i x = search rules in
    to_counts code i chosen c.args.work.now c.try_step.new.work x c.requires.inside is c.in-To.place c.args.steps.now c.count-in-To.new.steps c.count-in-To.ensures
    (c.in-To.ensures.tried chosen).0

pub returns-in-To-clause-clean : goal.returns-in-To-clause-clean
returns-in-To-clause-clean g c = (c.in-To.ensures.tried []).1

pub returns-in-Not-clause-does : goal.returns-in-Not-clause-does
returns-in-Not-clause-does g c = λ chosen.
    let code = c.args.code.now in let same = c.in-Not.ensures.tried chosen in
    not_goes code c.args.i chosen c.args.work.now c.try_step.new.work c.in-Not.ensures.kept.0 same.0 same.1

pub returns-in-Not-clause-ticks : goal.returns-in-Not-clause-ticks
returns-in-Not-clause-ticks g c = λ chosen.
    let code = c.args.code.now in let same = c.in-Not.ensures.tried chosen in
    not_counts code c.args.i chosen c.args.work.now c.try_step.new.work c.args.steps.now same.0 same.1

pub returns-in-On-clause-clean : goal.returns-in-On-clause-clean
returns-in-On-clause-clean g c =
    let code = c.args.code.now in let i = c.args.i in let x = c.index-as_slice-i.result in let is : x ≡ get_or code.instrs i x = search rules in
    let old = c.args.work.now in let new = c.try_step.new.work in
    holds_after code i x c.requires.inside is old c.requires.room.few new (tried_leaves code i x [] old new (c.in-On.ensures.tried []))

pub returns-in-Not-clause-clean : goal.returns-in-Not-clause-clean
returns-in-Not-clause-clean g c =
    let old = c.args.work.now in let new = c.try_step.new.work in
    holds_still c.args.code.now c.args.i old new (same_count old new (c.in-Not.ensures.tried []).0) c.requires.room.few

pub try_step-requires : goal.try_step-requires
try_step-requires g c =
    let code = c.args.code.now in let i = c.args.i in let x = c.index-as_slice-i.result in let is : x ≡ get_or code.instrs i x = search rules in
    count_fits code i x c.requires.inside is c.args.work.now c.requires.room.few c.requires.room.room
