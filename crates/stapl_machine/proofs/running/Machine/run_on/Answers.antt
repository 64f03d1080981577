use Rattle.std.proofs.Common.{◌≡◌, ◌∙◌, [], refl, ap, rules, arith, Some, None}
use Rattle.tap_states.specs.Tap.{is_stable_state}
use Rattle.scan_paths.specs.Scans.{lengths_of}
use Rattle.stapl_code.specs.Safe.{entries_of, constants_of}
use Rattle.stapl_machine.specs.declared.running.Machine.{Machine}
use Rattle.machine_memory.specs.Acts.{state_of}
use Rattle.stapl_machine.specs.Machines.{play_of, play_ticks_of, digits_in}
use Rattle.written_cable.specs.Ports.{chain_before}
use Rattle.machine_memory.specs.Zeros.{zeros_of_code}
use Rattle.stapl_machine.proofs.Machines.{ending_none, zeros_fit}
use Rattle.stapl_machine.proofs.PlayLemmas.{parts_ok, parts_err, over_code, over_code_front, machine_played, machine_front}
use Rattle.stapl_machine.proofs.running.Machine.run_on.Goals as goal

pub unreachable-requires : goal.unreachable-requires
unreachable-requires g c =
    let m = g.C.Cable in let w = g.O.Paper in let code = c.args.code.now in let chosen =
    c.args.chosen.now in let n = c.args.turns in let old = c.args.self.now in
    let lists = c.lists-lists.result.now in let same : lists ≡ code = c.lists-lists.ensures.lists ∙ c.raw.ensures.raw in let v = old.work.memory.variables.items in let o = c.over-port.ensures in
    let new = c.play_out.new in let port = c.over-port.result in
    let plays = over_code m w lists code chosen v n port new.port c.args.steps.now new.steps c.in-Ok-None.field-0 None
    (state_of chosen new.work) same c.requires.ready.variables_are c.in-Ok-None.field-0-is c.in-Ok-None.ensures.plays in
    let k = chain_before m w port plays.clocks [] in
    c.never_stuck.ensures code c.raw.ensures.in_range c.raw.ensures.valid chosen c.requires.chosen (zeros_of_code code)
    (zeros_fit code.variables c.raw.ensures.in_range.variables.each) n k (ap is_stable_state o.tap)
    (ending_none (play_of code chosen n k).outcome (plays.ended []))

pub returns-in-Ok-Some-clause-played : goal.returns-in-Ok-Some-clause-played
returns-in-Ok-Some-clause-played g c =
    let m = g.C.Cable in let w = g.O.Paper in let code = c.args.code.now in let chosen =
    c.args.chosen.now in let n = c.args.turns in let old = c.args.self.now in
    let lists = c.lists-lists.result.now in let same : lists ≡ code = c.lists-lists.ensures.lists ∙ c.raw.ensures.raw in let v = old.work.memory.variables.items in let o = c.over-port.ensures in
    let new = c.play_out.new in let port = c.over-port.result in
    let plays = over_code m w lists code chosen v n port new.port c.args.steps.now new.steps c.in-Ok-Some.field-0 (Some c.in-Ok-Some.ending)
    (state_of chosen new.work) same c.requires.ready.variables_are c.in-Ok-Some.field-0-is c.in-Ok-Some.ensures.plays in
    let machine : Machine = record { work = new.work; digits = old.digits } in
    machine_played m w chosen machine c.args.pins (digits_in old)
    (lengths_of c.args.base.now) c.args.cable.now _ c.args.out.now _ port new.port o.cable o.out (o.digits ∙ c.first_digits-digits.ensures) o.pins o.tap o.base (search rules) (search rules)
    (play_of code chosen n) (play_ticks_of code chosen n) c.args.steps.now new.steps c.in-Ok-Some.ending new.work refl plays

pub returns-in-Err-clause-played : goal.returns-in-Err-clause-played
returns-in-Err-clause-played g c =
    let m = g.C.Cable in let w = g.O.Paper in let code = c.args.code.now in let chosen =
    c.args.chosen.now in let n = c.args.turns in let old = c.args.self.now in
    let lists = c.lists-lists.result.now in let same : lists ≡ code = c.lists-lists.ensures.lists ∙ c.raw.ensures.raw in let v = old.work.memory.variables.items in let o = c.over-port.ensures in
    let new = c.play_out.new in let port = c.over-port.result in
    let plays = over_code_front m w lists code chosen v n port new.port c.args.steps.now new.steps same c.requires.ready.variables_are c.in-Err.ensures.plays in
    let machine : Machine = record { work = new.work; digits = old.digits } in
    machine_front m w chosen machine c.args.pins (digits_in old)
    (lengths_of c.args.base.now) c.args.cable.now _ c.args.out.now _ port new.port o.cable o.out (o.digits ∙ c.first_digits-digits.ensures) o.pins o.tap o.base (search rules) (search rules)
    (play_of code chosen n) (play_ticks_of code chosen n) c.args.steps.now new.steps plays

pub returns-in-Ok-Some-clause-bounded : goal.returns-in-Ok-Some-clause-bounded
returns-in-Ok-Some-clause-bounded g c =
    let m = g.C.Cable in let w = g.O.Paper in let code = c.args.code.now in let chosen =
    c.args.chosen.now in let n = c.args.turns in let old = c.args.self.now in
    let lists = c.lists-lists.result.now in let same : lists ≡ code = c.lists-lists.ensures.lists ∙ c.raw.ensures.raw in let v = old.work.memory.variables.items in let o = c.over-port.ensures in
    let new = c.play_out.new in let port = c.over-port.result in
    let plays = over_code m w lists code chosen v n port new.port c.args.steps.now new.steps c.in-Ok-Some.field-0 (Some c.in-Ok-Some.ending)
    (state_of chosen new.work) same c.requires.ready.variables_are c.in-Ok-Some.field-0-is c.in-Ok-Some.ensures.plays in
    let few = c.plays_are_bounded.ensures (entries_of code.procedures) (constants_of code) code.instrs chosen (zeros_of_code code) n (chain_before m w port plays.clocks []) in
    let exact = plays.ticked [] in
    omega (arith, few, exact)

pub returns-in-Err-clause-bounded : goal.returns-in-Err-clause-bounded
returns-in-Err-clause-bounded g c =
    let m = g.C.Cable in let w = g.O.Paper in let code = c.args.code.now in let chosen =
    c.args.chosen.now in let n = c.args.turns in let old = c.args.self.now in
    let lists = c.lists-lists.result.now in let same : lists ≡ code = c.lists-lists.ensures.lists ∙ c.raw.ensures.raw in let v = old.work.memory.variables.items in let o = c.over-port.ensures in
    let new = c.play_out.new in let port = c.over-port.result in
    let plays = over_code_front m w lists code chosen v n port new.port c.args.steps.now new.steps same c.requires.ready.variables_are c.in-Err.ensures.plays in
    let few = c.plays_are_bounded.ensures (entries_of code.procedures) (constants_of code) code.instrs chosen (zeros_of_code code) n (chain_before m w port plays.clocks []) in
    let most = plays.most [] in
    omega (arith, few, most)

pub returns-in-Ok-Some-clause-kept : goal.returns-in-Ok-Some-clause-kept
returns-in-Ok-Some-clause-kept g c =
    let o = c.over-port.ensures in
    parts_ok g.C.Cable g.O.Paper _ _ _ _ _ _ _ _ o.cable o.out (search rules) (search rules) c.in-Ok-Some.field-0 c.in-Ok-Some.ending c.in-Ok-Some.ensures.kept

pub returns-in-Err-clause-kept : goal.returns-in-Err-clause-kept
returns-in-Err-clause-kept g c =
    let o = c.over-port.ensures in
    parts_err g.C.Cable g.O.Paper _ _ _ _ _ _ _ _ o.cable o.out (search rules) (search rules) c.in-Err.trouble c.in-Err.ensures.kept
