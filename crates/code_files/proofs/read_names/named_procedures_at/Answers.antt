use Rattle.std.proofs.Common.{◌≡◌, ◌++◌, ◌∷◌, [], subst, refl, sym, ◌∙◌}
use Rattle.stapl_code.specs.declared.raw.ProcDef.{ProcDef}
use Rattle.code_files.specs.Reading.{ReadingFails, items_at}
use Rattle.code_files.specs.ReadFiles.{procedure_among, procedure_at}
use Rattle.code_files.proofs.Entries.{least_push}
use Rattle.code_files.proofs.Loops.{goes_on, ends, is_done}
use Rattle.code_files.proofs.NameFields.{names_next, procedure_after}
use Rattle.code_files.proofs.read_names.named_procedures_at.Goals as goal

pub returns-in-Err : goal.returns-in-Err
returns-in-Err c =
    let items = c.loop.items.items in
    let same : procedure_among c.loop.names.keys c.loop.least c.loop.rest.now ≡ procedure_at items c.loop.rest.now =
    procedure_after items c.loop.names.keys c.loop.least c.loop.rest.now c.loop.invariant.names c.loop.invariant.least in
    ends procedure_at c.in-Err.stop items c.args.count c.loop.counter c.loop.rest.now (items_at procedure_at [] c.args.count c.args.bytes.now)
    c.loop-test.true (subst (ReadingFails c.in-Err.stop) same c.in-Err.ensures.gives) c.loop.invariant.read

pub loop-preserved : goal.loop-preserved
loop-preserved c =
    let items = c.loop.items.items in
    let item = c.in-Ok.item in
    let pushed : c.push.new.self.items ≡ items ++ item ∷ [] = c.in_ok-push-in-Ok.ensures.items in
    let same : procedure_among c.loop.names.keys c.loop.least c.loop.rest.now ≡ procedure_at items c.loop.rest.now =
    procedure_after items c.loop.names.keys c.loop.least c.loop.rest.now c.loop.invariant.names c.loop.invariant.least in
    record {
      names = rw pushed (names_next (λ (p : ProcDef). p.name) c.loop.names.keys c.insert.new.self.keys items item c.loop.invariant.names
          c.in-Ok.ensures.new c.in_ok-insert-in-Ok.ensures.keys);
      least = rw (pushed, least_push items item) refl;
      read = rw pushed (goes_on procedure_at items c.args.count c.loop.counter c.loop.rest.now item c.in-Ok.after.now
          (items_at procedure_at [] c.args.count c.args.bytes.now) c.loop-test.true (sym same ∙ c.in-Ok.ensures.gives) c.loop.invariant.read);
    }

pub returns : goal.returns
returns c = is_done procedure_at c.loop.items.items c.args.count c.loop.counter c.loop.rest.now (items_at procedure_at [] c.args.count c.args.bytes.now)
    c.loop-test.false c.loop.invariant.read
