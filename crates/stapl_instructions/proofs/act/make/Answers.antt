use Rattle.std.proofs.Common.{rules, ◌≡◌, List, [], subst, slice_get, reverse}
use Rattle.stapl_meaning.specs.Values.{then_get}
use Rattle.stapl_meaning.specs.declared.values.Held.{Held}
use Rattle.stapl_code.specs.declared.instr.Instr.TheVariants.{Print}
use Rattle.stapl_code.specs.Machine.{does, known_text, part_exported}
use Rattle.stapl_code.specs.Safe.{constants_of}
use Rattle.machine_memory.specs.Acts.{IsMade, Told, state_in, state_with}
use Rattle.stapl_instructions.proofs.act.make.Goals as goal

pub returns-in-Print-clause-made : goal.returns-in-Print-clause-made
returns-in-Print-clause-made c = λ entries chosen.
    let e : c.args.instr.now ≡ Print c.as_slice-in-Print.result.now = search rules in
    rw e (c.print.ensures.made entries (state_in chosen c.args.memory.now) c.args.memory.now.shifted)

pub returns-in-CopyBits-clause-made : goal.returns-in-CopyBits-clause-made
returns-in-CopyBits-clause-made c = λ entries chosen.
    let old = c.args.memory.now in let told : Told = record { text = c.args.text.now.items; constants = constants_of c.args.code.now; states = []; shifted = old.shifted }
    in let records = reverse old.records.items in
    rw c.in-CopyBits.is (c.copy.ensures told chosen records old.ir old.dr)

pub returns-in-SetBits-clause-made : goal.returns-in-SetBits-clause-made
returns-in-SetBits-clause-made c = λ entries chosen.
    let old = c.args.memory.now in let told : Told = record { text = c.args.text.now.items; constants = constants_of c.args.code.now; states = []; shifted = old.shifted }
    in let records = reverse old.records.items in
    rw c.in-SetBits.is (c.copy-in-SetBits.ensures told chosen records old.ir old.dr)

pub returns-in-Export-clause-made : goal.returns-in-Export-clause-made
returns-in-Export-clause-made c = λ entries chosen.
    let old = c.args.memory.now in let code = c.args.code.now in let records = reverse old.records.items in
    let key = c.in-Export.key in let part = c.in-Export.part in
    rw c.in-Export.is
    (subst (λ (v : List Held). IsMade c.export.result (record { text = c.args.text.now.items; constants = constants_of code; states = []; shifted = old.shifted })
    (state_with chosen records old.ir old.dr v) (state_with chosen records old.ir old.dr v)
    (does (then_get (known_text (slice_get code.texts key)) (λ bytes. part_exported (constants_of code) part bytes c.args.values.now (state_with chosen records old.ir old.dr v)))))
    c.deref-in-Export.ensures.value (c.export.ensures c.args.text.now.items chosen old.shifted records old.ir old.dr))

pub returns-in-State-clause-made : goal.returns-in-State-clause-made
returns-in-State-clause-made c = λ entries chosen.
    let old = c.args.memory.now in let told : Told = record { text = c.args.text.now.items; constants = constants_of c.args.code.now; states = c.in-State.field-0; shifted = old.shifted } in
    rw c.in-State.is (c.go_through.ensures told (state_in chosen old))

pub returns-in-Scan-clause-made : goal.returns-in-Scan-clause-made
returns-in-Scan-clause-made c = λ entries chosen.
    rw c.in-Scan.is (c.scan.ensures c.args.text.now.items (constants_of c.args.code.now) [] chosen)

pub returns-in-Pad-clause-made : goal.returns-in-Pad-clause-made
returns-in-Pad-clause-made c = λ entries chosen.
    let told : Told = record { text = c.args.text.now.items; constants = constants_of c.args.code.now; states = []; shifted = c.pad.new.memory.shifted } in
    rw c.in-Pad.is (c.pad.ensures told chosen)
