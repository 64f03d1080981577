use Rattle.std.proofs.Common.{◌≡◌, ◌++◌, ap, sym, ◌∙◌}
use Rattle.stapl_meaning.specs.Values.{Known, then_get}
use Rattle.stapl_code.specs.Machine.{known_text}
use Rattle.machine_memory.specs.Prints.{with_front}
use Rattle.machine_memory.proofs.PrintLemmas.{front_text, item_at, no_item}
use Rattle.stapl_instructions.proofs.printing.put_text.Goals as goal

pub returns-in-Some-clause-put : goal.returns-in-Some-clause-put
returns-in-Some-clause-put c = λ rest.
    let at = item_at c.args.texts.now c.args.n c.in-Some.bytes.now c.in-Some.ensures.lookup.3.0 c.in-Some.ensures.lookup.1 in
    let put : c.put.new.text.items ≡ c.args.text.now.items ++ c.in-Some.bytes.now =
    c.put.ensures.put ∙ ap (λ b. c.args.text.now.items ++ b) c.as_slice.ensures in
    rw at (front_text c.args.text.now.items c.in-Some.bytes.now rest ∙ ap (λ l. with_front l rest) (sym put))

pub returns-in-None-clause-put : goal.returns-in-None-clause-put
returns-in-None-clause-put c = λ rest.
    ap (λ t. then_get (known_text t) (λ bytes. then_get rest (λ more. Known (bytes ++ more)))) (no_item c.args.texts.now c.args.n c.in-None.ensures.lookup.3)
