use Rattle.std.proofs.Common.{◌++◌, drop, subst, slice_get}
use Rattle.stapl_meaning.specs.Values.{Known, then_get}
use Rattle.stapl_code.specs.Machine.{parts_text, known_text}
use Rattle.stapl_code.specs.Safe.{constants_of}
use Rattle.machine_memory.specs.Prints.{IsPut}
use Rattle.stapl_instructions.proofs.printing.join_part.Goals as goal

pub returns-in-Text-clause-put : goal.returns-in-Text-clause-put
returns-in-Text-clause-put c = λ entries rest.
    let more = parts_text entries (constants_of c.args.code.now) rest (drop c.args.at.now c.args.values.now) in
    let told = subst (λ texts. IsPut c.put_text.result c.args.text.now.items
    (then_get (known_text (slice_get texts c.in-Text.n)) (λ bytes. then_get more (λ m. Known (bytes ++ m)))) c.put_text.new.text.items more)
    c.as_slice.ensures (c.put_text.ensures.put more) in
    rw c.in-Text.is told
