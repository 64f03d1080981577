use Rattle.std.proofs.Common.{[], rules, arith, ◌≡◌, ◌+◌, get_or, drop, sym, ◌∙◌}
use Rattle.stapl_meaning.specs.Deeds.{deeds_chain}
use Rattle.stapl_meaning.specs.States.{happened_in_piece}
use Rattle.stapl_instructions.specs.declared.control.Moved.TheVariants.{On, Acts, Scans, Ends}
use Rattle.machine_memory.specs.Acts.{state_in, state_of, operands_of, told_by, deeds_told}
use Rattle.machine_memory.specs.Jobs.{job_scan, job_lands}
use Rattle.stapl_instructions.specs.Moves.{led_on}
use Rattle.stapl_machine.specs.Turns.{rest_of, ticks_from, no_ticks}
use Rattle.stapl_instructions.proofs.OperandLemmas.{count_fits, holds_after}
use Rattle.machine_memory.proofs.PrintLemmas.{print_fits}
use Rattle.written_cable.proofs.DeedLemmas.{all_did, part_did}
use Rattle.stapl_machine.proofs.TurnLemmas.{goes, counts, does_still, does_deeds, does_deeds_front, does_lack, does_scan, does_scan_front, after, ticks_after, none_over}
use Rattle.stapl_machine.proofs.turns.carry_out.Goals as goal

pub returns-in-On-clause-does : goal.returns-in-On-clause-does
returns-in-On-clause-does g c =
    let m = g.C.Cable in let code = c.args.code.now in let i = c.args.i in let chosen = c.args.chosen.now in
    let old = c.args.work.now in let new = c.advance.new.work in let x = c.index-as_slice-i.result in let is : x ≡ get_or code.instrs i x = search rules in
    does_still m g.O.Paper c.args.port.now (rest_of code i chosen old) (rest_of code (i + 1) chosen new) (ticks_from code i chosen old) (ticks_from code (i + 1) chosen new)
    c.args.steps.now c.count.new.steps (g.met.C.Cable.none_made c.args.port.now.cable.now) c.requires.open.whole_port
    (goes code i chosen old x c.requires.inside is new c.advance.result On c.in-On.is c.advance.ensures.leads)
    (counts code i chosen old x c.requires.inside is new c.advance.result On c.in-On.is c.advance.ensures.ticks c.args.steps.now c.count.new.steps c.count.ensures)

pub returns-in-Ok-clause-does : goal.returns-in-Ok-clause-does
returns-in-Ok-clause-does g c =
    let m = g.C.Cable in let code = c.args.code.now in let i = c.args.i in let chosen = c.args.chosen.now in
    let old = c.args.work.now in let new = c.advance.new.work in let x = c.index-as_slice-i.result in let is : x ≡ get_or code.instrs i x = search rules in
    let d = c.in-Acts.doing in
    does_deeds m g.O.Paper c.args.port.now c.perform.new.port (deeds_told (told_by code x new.text.items new.memory) new.memory.variables.items d)
    (rest_of code i chosen old) (rest_of code (i + 1) chosen new) (ticks_from code i chosen old) (ticks_from code (i + 1) chosen new) c.args.steps.now c.count.new.steps
    (goes code i chosen old x c.requires.inside is new c.advance.result (Acts d) c.in-Acts.is c.advance.ensures.leads)
    (counts code i chosen old x c.requires.inside is new c.advance.result (Acts d) c.in-Acts.is c.advance.ensures.ticks c.args.steps.now c.count.new.steps c.count.ensures)
    (all_did m g.O.Paper (deeds_told (told_by code x new.text.items new.memory) new.memory.variables.items d) (rw c.deref.ensures.value at c.in-Ok.ensures))

pub returns-in-Err-clause-does : goal.returns-in-Err-clause-does
returns-in-Err-clause-does g c =
    let m = g.C.Cable in let code = c.args.code.now in let i = c.args.i in let chosen = c.args.chosen.now in
    let old = c.args.work.now in let new = c.advance.new.work in let x = c.index-as_slice-i.result in let is : x ≡ get_or code.instrs i x = search rules in
    let d = c.in-Acts.doing in let deeds = deeds_told (told_by code x new.text.items new.memory) new.memory.variables.items d in
    does_deeds_front m g.O.Paper c.args.port.now c.perform.new.port deeds
    (rest_of code i chosen old) (rest_of code (i + 1) chosen new) (ticks_from code i chosen old) (ticks_from code (i + 1) chosen new) c.args.steps.now c.count.new.steps
    (goes code i chosen old x c.requires.inside is new c.advance.result (Acts d) c.in-Acts.is c.advance.ensures.leads)
    (λ k. none_over c.count.new.steps (ticks_from code (i + 1) chosen new (deeds_chain k deeds)) (c.args.steps.now + ticks_from code i chosen old k)
    (counts code i chosen old x c.requires.inside is new c.advance.result (Acts d) c.in-Acts.is c.advance.ensures.ticks c.args.steps.now c.count.new.steps c.count.ensures k))
    (part_did m g.O.Paper deeds (rw c.deref.ensures.value at c.in-Err.ensures))

pub returns-in-Ends-clause-does : goal.returns-in-Ends-clause-does
returns-in-Ends-clause-does g c =
    let m = g.C.Cable in let code = c.args.code.now in let i = c.args.i in let chosen = c.args.chosen.now in
    let old = c.args.work.now in let new = c.advance.new.work in let x = c.index-as_slice-i.result in let is : x ≡ get_or code.instrs i x = search rules in
    let w = c.in-Ends.went in
    does_still m g.O.Paper c.args.port.now (rest_of code i chosen old) (led_on w (state_of chosen new)) (ticks_from code i chosen old) no_ticks
    c.args.steps.now c.count.new.steps (g.met.C.Cable.none_made c.args.port.now.cable.now) c.requires.open.whole_port
    (goes code i chosen old x c.requires.inside is new c.advance.result (Ends w) c.in-Ends.is c.advance.ensures.leads)
    (counts code i chosen old x c.requires.inside is new c.advance.result (Ends w) c.in-Ends.is c.advance.ensures.ticks c.args.steps.now c.count.new.steps c.count.ensures)

pub returns-then-not-is_stable-clause-does : goal.returns-then-not-is_stable-clause-does
returns-then-not-is_stable-clause-does g c =
    let m = g.C.Cable in let code = c.args.code.now in let i = c.args.i in let chosen = c.args.chosen.now in
    let old = c.args.work.now in let new = c.advance.new.work in let x = c.index-as_slice-i.result in let is : x ≡ get_or code.instrs i x = search rules in
    let job = c.in-Scans.job in let s = state_of chosen new in
    does_lack m g.O.Paper c.args.port.now c.args.port.now (job_scan new.memory.shifted job s) (job_lands new.memory.shifted job s)
    (rest_of code i chosen old) (ticks_from code i chosen old) (λ u k. happened_in_piece new.piece (after code i (operands_of new) u k))
    (λ u k. ticks_after code i (operands_of new) u k) c.args.steps.now c.count.new.steps
    (goes code i chosen old x c.requires.inside is new c.advance.result (Scans job) c.in-Scans.is c.advance.ensures.leads)
    (counts code i chosen old x c.requires.inside is new c.advance.result (Scans job) c.in-Scans.is c.advance.ensures.ticks c.args.steps.now c.count.new.steps c.count.ensures)
    (sym c.is_stable.ensures ∙ c.if-not-is_stable.true) (g.met.C.Cable.none_made c.args.port.now.cable.now) c.requires.open.whole_port

pub returns-in-Ok-capture-clause-does : goal.returns-in-Ok-capture-clause-does
returns-in-Ok-capture-clause-does g c =
    let m = g.C.Cable in let code = c.args.code.now in let i = c.args.i in let chosen = c.args.chosen.now in
    let old = c.args.work.now in let new = c.advance.new.work in let x = c.index-as_slice-i.result in let is : x ≡ get_or code.instrs i x = search rules in
    let job = c.in-Scans.job in let s = state_of chosen new in
    does_scan m g.O.Paper c.args.port.now c.capture.new.port (job_scan new.memory.shifted job s) (job_lands new.memory.shifted job s)
    (rest_of code i chosen old) (ticks_from code i chosen old) (λ u k. happened_in_piece new.piece (after code i (operands_of new) u k))
    (λ u k. ticks_after code i (operands_of new) u k) c.args.steps.now c.count.new.steps
    (goes code i chosen old x c.requires.inside is new c.advance.result (Scans job) c.in-Scans.is c.advance.ensures.leads)
    (counts code i chosen old x c.requires.inside is new c.advance.result (Scans job) c.in-Scans.is c.advance.ensures.ticks c.args.steps.now c.count.new.steps c.count.ensures)
    (sym c.is_stable.ensures ∙ c.if-not-is_stable.false) (state_in (drop new.next chosen) c.capture.new.memory) (c.in-Ok-capture.ensures (drop new.next chosen)).captured

pub returns-in-Err-capture-clause-does : goal.returns-in-Err-capture-clause-does
returns-in-Err-capture-clause-does g c =
    let m = g.C.Cable in let code = c.args.code.now in let i = c.args.i in let chosen = c.args.chosen.now in
    let old = c.args.work.now in let new = c.advance.new.work in let x = c.index-as_slice-i.result in let is : x ≡ get_or code.instrs i x = search rules in
    let job = c.in-Scans.job in let s = state_of chosen new in
    does_scan_front m g.O.Paper c.args.port.now c.capture.new.port (job_scan new.memory.shifted job s) (job_lands new.memory.shifted job s)
    (rest_of code i chosen old) (ticks_from code i chosen old) (λ u k. happened_in_piece new.piece (after code i (operands_of new) u k))
    (λ u k. ticks_after code i (operands_of new) u k) c.args.steps.now c.count.new.steps
    (goes code i chosen old x c.requires.inside is new c.advance.result (Scans job) c.in-Scans.is c.advance.ensures.leads)
    (counts code i chosen old x c.requires.inside is new c.advance.result (Scans job) c.in-Scans.is c.advance.ensures.ticks c.args.steps.now c.count.new.steps c.count.ensures)
    (sym c.is_stable.ensures ∙ c.if-not-is_stable.false) ((c.in-Err-capture.ensures (drop new.next chosen)).front [])

pub advance-requires-clause-prints : goal.advance-requires-clause-prints
advance-requires-clause-prints g c =
    let code = c.args.code.now in let i = c.args.i in let x = c.index-as_slice-i.result in let is : x ≡ get_or code.instrs i x = search rules in
    omega (arith, print_fits code.texts code.instrs i x c.requires.inside is, c.requires.room.room.prints)

pub advance-requires-clause-few : goal.advance-requires-clause-few
advance-requires-clause-few g c =
    let code = c.args.code.now in let i = c.args.i in let x = c.index-as_slice-i.result in let is : x ≡ get_or code.instrs i x = search rules in
    count_fits code i x c.requires.inside is c.args.work.now c.requires.room.few c.requires.room.room

pub returns-in-On-clause-clean : goal.returns-in-On-clause-clean
returns-in-On-clause-clean g c =
    let code = c.args.code.now in let i = c.args.i in let x = c.index-as_slice-i.result in let is : x ≡ get_or code.instrs i x = search rules in
    holds_after code i x c.requires.inside is c.args.work.now c.requires.room.few c.advance.new.work c.in-On.ensures.clean

pub returns-in-Ok-clause-clean : goal.returns-in-Ok-clause-clean
returns-in-Ok-clause-clean g c =
    let code = c.args.code.now in let i = c.args.i in let x = c.index-as_slice-i.result in let is : x ≡ get_or code.instrs i x = search rules in
    holds_after code i x c.requires.inside is c.args.work.now c.requires.room.few c.advance.new.work c.in-Acts.ensures.clean

pub returns-in-Ok-capture-clause-clean : goal.returns-in-Ok-capture-clause-clean
returns-in-Ok-capture-clause-clean g c =
    let code = c.args.code.now in let i = c.args.i in let x = c.index-as_slice-i.result in let is : x ≡ get_or code.instrs i x = search rules in
    holds_after code i x c.requires.inside is c.args.work.now c.requires.room.few (record c.advance.new.work { memory = c.capture.new.memory }) c.in-Scans.ensures.clean

pub trouble_of-requires-in-Err-capture : goal.trouble_of-requires-in-Err-capture
trouble_of-requires-in-Err-capture g c = (c.in-Err-capture.ensures []).broken

pub returns-in-Ok-capture-clause-keeps : goal.returns-in-Ok-capture-clause-keeps
returns-in-Ok-capture-clause-keeps g c = let all = c.in-Ok-capture.ensures [] in record { kept = all.kept; open_now = all.open_now; broke = tt }

pub returns-in-Err-capture-clause-keeps : goal.returns-in-Err-capture-clause-keeps
returns-in-Err-capture-clause-keeps g c = record { kept = (c.in-Err-capture.ensures []).kept; open_now = tt; broke = c.trouble_of-in-Err-capture.ensures }
