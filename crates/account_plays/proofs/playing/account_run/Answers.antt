use Rattle.std.proofs.Common.{ap, refl, reverse, ◌∙◌, None}
use Rattle.scan_paths.specs.Scans.{lengths_of}
use Rattle.stapl_meaning.specs.Deeds.{Chain}
use Rattle.stapl_code.specs.Machine.{entry_of, begins_chosen}
use Rattle.stapl_code.specs.Safe.{entries_of}
use Rattle.machine_memory.specs.Acts.{state_of}
use Rattle.stapl_instructions.specs.declared.control.Went.TheVariants as went
use Rattle.stapl_instructions.specs.Moves.{led_to, led_on}
use Rattle.written_cable.specs.Signals.{signals_of}
use Rattle.code_plays.proofs.PlayLemmas.{write_cause}
use Rattle.account_plays.proofs.WholeRuns.{played_on, played_none, turns_torn, turns_kept, turns_told, turns_find, prologue_torn, chosen_led, prologue_lacks}
use Rattle.account_plays.proofs.playing.account_run.Goals as goal

pub account_turns-requires-clause-none_lost : goal.account_turns-requires-clause-none_lost
account_turns-requires-clause-none_lost g c =
    let course = c.args.course.now in let code = course.code.now in let chosen = course.chosen.now in let base = lengths_of course.base in
    let work = c.args.work.now in let none = c.requires.ready.none in let no = c.requires.unused in let k = c.in-Ok.ensures.kept in
    let mid = c.play_kept_part.new in let u = state_of chosen mid.work in let v = state_of chosen (record mid.work { next = c.begin_next.new.next }) in
    let entry = entry_of (entries_of code.procedures) in let start = c.in-On-begin_next.start in
    let begins = c.begin_next.ensures (reverse mid.work.memory.records.items) mid.work.memory.ir mid.work.memory.dr mid.work.memory.variables.items
    ∙ ap (λ w. led_to w v) c.in-On-begin_next.is in
    turns_kept g.C.Cable g.K.Sink code course.table.now base chosen work none no c.args.cable.now c.args.runs.now c.args.out.now c.in-Ok.turned.went u c.in-Ok.turned.tap
    mid.cable mid.runs mid.out c.in-Ok.ensures.turned k.same_paper k.whole_paper k.paper_kept (λ (k : Chain). led_on (went.On start) v k)
    (λ (k : Chain). ap (λ w. begins_chosen entry (led_on w u k)) c.in-On.is
    ∙ chosen_led g.C.Cable g.K.Sink code course.table.now base chosen work none no c.args.cable.now c.args.runs.now c.args.out.now c.in-On.field-0 u (went.On start) v begins k)
    g.met.C.Cable.both_made start v (λ (k : Chain). refl) c.requires.none_lost c.requires.first_room

pub account_turns-requires-clause-told : goal.account_turns-requires-clause-told
account_turns-requires-clause-told g c =
    let course = c.args.course.now in let code = course.code.now in let chosen = course.chosen.now in let base = lengths_of course.base in
    let work = c.args.work.now in let none = c.requires.ready.none in let no = c.requires.unused in let k = c.in-Ok.ensures.kept in
    let mid = c.play_kept_part.new in let u = state_of chosen mid.work in let v = state_of chosen (record mid.work { next = c.begin_next.new.next }) in
    let entry = entry_of (entries_of code.procedures) in let start = c.in-On-begin_next.start in
    let begins = c.begin_next.ensures (reverse mid.work.memory.records.items) mid.work.memory.ir mid.work.memory.dr mid.work.memory.variables.items
    ∙ ap (λ w. led_to w v) c.in-On-begin_next.is in
    turns_told g.C.Cable g.K.Sink code course.table.now base chosen work none no c.args.cable.now c.args.runs.now c.args.out.now c.in-Ok.turned.went u c.in-Ok.turned.tap
    mid.cable mid.runs mid.out c.in-Ok.ensures.turned k.same_paper k.whole_paper k.paper_kept (λ (k : Chain). led_on (went.On start) v k)
    (λ (k : Chain). ap (λ w. begins_chosen entry (led_on w u k)) c.in-On.is
    ∙ chosen_led g.C.Cable g.K.Sink code course.table.now base chosen work none no c.args.cable.now c.args.runs.now c.args.out.now c.in-On.field-0 u (went.On start) v begins k)
    g.met.C.Cable.both_made start v (λ (k : Chain). refl) c.requires.told

pub account_turns-requires-clause-room : goal.account_turns-requires-clause-room
account_turns-requires-clause-room g c =
    let course = c.args.course.now in let code = course.code.now in let chosen = course.chosen.now in let base = lengths_of course.base in
    let work = c.args.work.now in let none = c.requires.ready.none in let no = c.requires.unused in let k = c.in-Ok.ensures.kept in
    let mid = c.play_kept_part.new in let u = state_of chosen mid.work in let v = state_of chosen (record mid.work { next = c.begin_next.new.next }) in
    let entry = entry_of (entries_of code.procedures) in let start = c.in-On-begin_next.start in
    let begins = c.begin_next.ensures (reverse mid.work.memory.records.items) mid.work.memory.ir mid.work.memory.dr mid.work.memory.variables.items
    ∙ ap (λ w. led_to w v) c.in-On-begin_next.is in
    turns_find g.C.Cable g.K.Sink code course.table.now base chosen work none no c.args.cable.now c.args.runs.now c.args.out.now c.in-Ok.turned.went u c.in-Ok.turned.tap
    mid.cable mid.runs mid.out c.in-Ok.ensures.turned k.same_paper k.whole_paper k.paper_kept (λ (k : Chain). led_on (went.On start) v k)
    (λ (k : Chain). ap (λ w. begins_chosen entry (led_on w u k)) c.in-On.is
    ∙ chosen_led g.C.Cable g.K.Sink code course.table.now base chosen work none no c.args.cable.now c.args.runs.now c.args.out.now c.in-On.field-0 u (went.On start) v begins k)
    g.met.C.Cable.both_made start v (λ (k : Chain). refl) c.requires.room

pub returns-in-Ok-account_turns-clause-played : goal.returns-in-Ok-account_turns-clause-played
returns-in-Ok-account_turns-clause-played g c =
    let course = c.args.course.now in let code = course.code.now in let chosen = course.chosen.now in let base = lengths_of course.base in
    let work = c.args.work.now in let none = c.requires.ready.none in let no = c.requires.unused in let k = c.in-Ok.ensures.kept in
    let mid = c.play_kept_part.new in let u = state_of chosen mid.work in let v = state_of chosen (record mid.work { next = c.begin_next.new.next }) in
    let entry = entry_of (entries_of code.procedures) in let start = c.in-On-begin_next.start in let new = c.account_turns.new in
    let begins = c.begin_next.ensures (reverse mid.work.memory.records.items) mid.work.memory.ir mid.work.memory.dr mid.work.memory.variables.items
    ∙ ap (λ w. led_to w v) c.in-On-begin_next.is in
    played_on g.C.Cable g.K.Sink code course.table.now base chosen work none no c.args.cable.now c.args.runs.now c.args.out.now c.in-Ok.turned.went u c.in-Ok.turned.tap
    mid.cable mid.runs mid.out c.in-Ok.ensures.turned k.same_paper k.whole_paper k.paper_kept (λ (k : Chain). led_on (went.On start) v k)
    (λ (k : Chain). ap (λ w. begins_chosen entry (led_on w u k)) c.in-On.is
    ∙ chosen_led g.C.Cable g.K.Sink code course.table.now base chosen work none no c.args.cable.now c.args.runs.now c.args.out.now c.in-On.field-0 u (went.On start) v begins k)
    g.met.C.Cable.both_made start v (λ (k : Chain). refl) c.args.turns c.in-Ok-account_turns.over new.cable new.runs new.out c.in-Ok-account_turns.ensures.played
    c.requires.none_lost c.requires.first_room

pub returns-in-Ok-account_turns-clause-clocked : goal.returns-in-Ok-account_turns-clause-clocked
returns-in-Ok-account_turns-clause-clocked g c =
    let first = c.in-Ok.ensures.turned.turns in let made = c.account_turns.ensures.clocked in
    record { signals = _; made = g.met.C.Cable.both_made _ _ _ (signals_of first.events) made.signals first.made made.made }

pub returns-in-Err-account_turns-clause-played : goal.returns-in-Err-account_turns-clause-played
returns-in-Err-account_turns-clause-played g c =
    let course = c.args.course.now in let code = course.code.now in let chosen = course.chosen.now in let base = lengths_of course.base in
    let work = c.args.work.now in let none = c.requires.ready.none in let no = c.requires.unused in let k = c.in-Ok.ensures.kept in
    let mid = c.play_kept_part.new in let u = state_of chosen mid.work in let v = state_of chosen (record mid.work { next = c.begin_next.new.next }) in
    let entry = entry_of (entries_of code.procedures) in let start = c.in-On-begin_next.start in let new = c.account_turns.new in
    let begins = c.begin_next.ensures (reverse mid.work.memory.records.items) mid.work.memory.ir mid.work.memory.dr mid.work.memory.variables.items
    ∙ ap (λ w. led_to w v) c.in-On-begin_next.is in
    turns_torn g.C.Cable g.K.Sink code course.table.now base chosen work none no c.args.cable.now c.args.runs.now c.args.out.now c.in-Ok.turned.went u c.in-Ok.turned.tap
    mid.cable mid.runs mid.out c.in-Ok.ensures.turned k.same_paper k.whole_paper k.paper_kept (λ (k : Chain). led_on (went.On start) v k)
    (λ (k : Chain). ap (λ w. begins_chosen entry (led_on w u k)) c.in-On.is
    ∙ chosen_led g.C.Cable g.K.Sink code course.table.now base chosen work none no c.args.cable.now c.args.runs.now c.args.out.now c.in-On.field-0 u (went.On start) v begins k)
    g.met.C.Cable.both_made start v (λ (k : Chain). refl) c.args.turns new.out c.in-Err-account_turns.ensures.played

pub returns-in-Err-account_turns-clause-clocked : goal.returns-in-Err-account_turns-clause-clocked
returns-in-Err-account_turns-clause-clocked g c =
    let first = c.in-Ok.ensures.turned.turns in let made = c.account_turns.ensures.clocked in
    record { signals = _; made = g.met.C.Cable.both_made _ _ _ (signals_of first.events) made.signals first.made made.made }

pub returns-in-Over-begin_next-clause-played : goal.returns-in-Over-begin_next-clause-played
returns-in-Over-begin_next-clause-played g c =
    let course = c.args.course.now in let code = course.code.now in let chosen = course.chosen.now in let base = lengths_of course.base in
    let work = c.args.work.now in let none = c.requires.ready.none in let no = c.requires.unused in let k = c.in-Ok.ensures.kept in
    let mid = c.play_kept_part.new in let u = state_of chosen mid.work in let v = state_of chosen (record mid.work { next = c.begin_next.new.next }) in
    let entry = entry_of (entries_of code.procedures) in let ending = c.in-Over-begin_next.ending in
    let begins = c.begin_next.ensures (reverse mid.work.memory.records.items) mid.work.memory.ir mid.work.memory.dr mid.work.memory.variables.items
    ∙ ap (λ w. led_to w v) c.in-Over-begin_next.is in
    played_none g.C.Cable g.K.Sink code course.table.now base chosen work none no c.args.cable.now c.args.runs.now c.args.out.now c.in-Ok.turned.went u c.in-Ok.turned.tap
    mid.cable mid.runs mid.out c.in-Ok.ensures.turned k.same_paper k.whole_paper k.paper_kept (λ (k : Chain). led_on (went.Over ending) v k)
    (λ (k : Chain). ap (λ w. begins_chosen entry (led_on w u k)) c.in-On.is
    ∙ chosen_led g.C.Cable g.K.Sink code course.table.now base chosen work none no c.args.cable.now c.args.runs.now c.args.out.now c.in-On.field-0 u (went.Over ending) v begins k)
    c.args.turns ending v (λ (k : Chain). refl) c.requires.none_lost c.requires.first_room

pub returns-in-Over-clause-played : goal.returns-in-Over-clause-played
returns-in-Over-clause-played g c =
    let course = c.args.course.now in let code = course.code.now in let chosen = course.chosen.now in let base = lengths_of course.base in
    let work = c.args.work.now in let none = c.requires.ready.none in let no = c.requires.unused in let k = c.in-Ok.ensures.kept in
    let mid = c.play_kept_part.new in let u = state_of chosen mid.work in let entry = entry_of (entries_of code.procedures) in
    played_none g.C.Cable g.K.Sink code course.table.now base chosen work none no c.args.cable.now c.args.runs.now c.args.out.now c.in-Ok.turned.went u c.in-Ok.turned.tap
    mid.cable mid.runs mid.out c.in-Ok.ensures.turned k.same_paper k.whole_paper k.paper_kept (λ (k : Chain). led_on (went.Over None) u k)
    (λ (k : Chain). ap (λ w. begins_chosen entry (led_on w u k)) c.in-Over.is
    ∙ prologue_lacks g.C.Cable g.K.Sink code course.table.now base chosen work none no c.args.cable.now c.args.runs.now c.args.out.now c.in-Over.field-0 u k)
    c.args.turns None u (λ (k : Chain). refl) c.requires.none_lost c.requires.first_room

pub returns-in-Err-clause-played : goal.returns-in-Err-clause-played
returns-in-Err-clause-played g c =
    let course = c.args.course.now in let k = c.in-Err.ensures.kept in let new = c.play_kept_part.new in
    prologue_torn g.C.Cable g.K.Sink course.code.now course.table.now (lengths_of course.base) course.chosen.now c.args.work.now c.requires.ready.none c.requires.unused
    c.args.cable.now c.args.runs.now c.args.out.now new.cable new.out c.in-Err.ensures.turned k.same_paper k.paper_kept
    (write_cause _ _ c.in-Err.trouble c.failed.ensures k.fault) c.args.turns
