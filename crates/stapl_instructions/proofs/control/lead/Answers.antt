use Rattle.std.proofs.Common.{reverse, drop, ap, sym, ◌∙◌}
use Rattle.stapl_meaning.specs.States.{State, happens, happened_in_piece}
use Rattle.stapl_code.specs.Safe.{entries_of}
use Rattle.std.specs.Prelude.{Some}
use Rattle.stapl_code.specs.Machine.{at_end, continues, lands}
use Rattle.machine_memory.specs.Acts.{state_in, stepped}
use Rattle.stapl_instructions.specs.Moves.{led_to}
use Rattle.stapl_instructions.specs.declared.control.Went.TheVariants as went
use Rattle.stapl_instructions.proofs.control.lead.Goals as goal

pub returns-in-Returned-clause-leads : goal.returns-in-Returned-clause-leads
returns-in-Returned-clause-leads c = λ k go.
    let work = c.args.work.now in let chosen = c.args.chosen.now in let ops = work.operands.items in let i = c.args.instr.now in
    let u : State = state_in (drop c.begin_next-went.new.next chosen) work.memory in
    ap (λ m. happened_in_piece work.piece (continues k (stepped c.args.code.now i (lands (entries_of c.args.code.now.procedures) c.args.here i) chosen m work) go)) c.in-Returned.is
    ∙ ap (λ t. happened_in_piece work.piece (at_end (reverse ops) (happens k t)))
    (c.begin_next-went.ensures (reverse work.memory.records.items) work.memory.ir work.memory.dr work.memory.variables.items)
    ∙ ap (λ l. happened_in_piece work.piece (at_end (reverse l) (happens k (led_to c.begin_next-went.result u)))) (sym c.deref-in-Returned.ensures.value)
    ∙ c.end_turn-in-Returned.ensures.ends work.piece u k

pub returns-in-Over-clause-leads : goal.returns-in-Over-clause-leads
returns-in-Over-clause-leads c = λ k go.
    let work = c.args.work.now in let chosen = c.args.chosen.now in let i = c.args.instr.now in
    let u : State = state_in (drop work.next chosen) work.memory in
    ap (λ m. happened_in_piece work.piece (continues k (stepped c.args.code.now i (lands (entries_of c.args.code.now.procedures) c.args.here i) chosen m work) go)) c.in-Over.is
    ∙ ap (λ l. happened_in_piece work.piece (at_end (reverse l) (happens k (led_to (went.Over (Some c.in-Over.ending)) u)))) (sym c.deref-in-Over.ensures.value)
    ∙ c.end_turn-in-Over.ensures.ends work.piece u k
