use Rattle.std.proofs.Common.{◌≡◌, ◌++◌, ◌∷◌, [], subst, sym, ◌∙◌}
use Rattle.std.proofs.lemmas.Result.{err_from_is_err_and}
use Rattle.stapl_code.specs.declared.raw.ActionDef.{ActionDef}
use Rattle.code_files.specs.Reading.{ReadingFails, items_at}
use Rattle.code_files.specs.ReadFiles.{action_among, action_at}
use Rattle.code_files.proofs.Loops.{goes_on, ends, is_done}
use Rattle.code_files.proofs.NameFields.{names_next, action_after}
use Rattle.code_files.proofs.read_names.named_actions_at.Goals as goal

pub returns-in_err-item : goal.returns-in_err-item
returns-in_err-item c =
    let items = c.loop.items.items in
    let same : action_among c.args.procedures c.loop.names.keys c.loop.rest.now ≡ action_at c.args.procedures items c.loop.rest.now =
    action_after c.args.procedures items c.loop.names.keys c.loop.rest.now c.loop.invariant.names in
    let p = err_from_is_err_and c.from_residual.result c.from_residual.ensures.1 in
    rw (p.1, p.2) (ends (action_at c.args.procedures) c.in_err-item.field-0.0 items c.args.count c.loop.counter c.loop.rest.now
    (items_at (action_at c.args.procedures) [] c.args.count c.args.bytes.now) c.loop-test.true
    (subst (ReadingFails c.in_err-item.field-0.0) same c.in_err-item.ensures.gives) c.loop.invariant.read)

pub loop-preserved : goal.loop-preserved
loop-preserved c =
    let items = c.loop.items.items in
    let item = c.in_ok-item.item in
    let pushed : c.push.new.self.items ≡ items ++ item ∷ [] = c.in_ok-push.ensures.items in
    let same : action_among c.args.procedures c.loop.names.keys c.loop.rest.now ≡ action_at c.args.procedures items c.loop.rest.now =
    action_after c.args.procedures items c.loop.names.keys c.loop.rest.now c.loop.invariant.names in
    record {
      names = rw pushed (names_next (λ (a : ActionDef). a.name) c.loop.names.keys c.insert.new.self.keys items item c.loop.invariant.names
          c.in_ok-item.ensures.new c.in_ok-insert.ensures.keys);
      read = rw pushed (goes_on (action_at c.args.procedures) items c.args.count c.loop.counter c.loop.rest.now item c.in_ok-item.after.now
          (items_at (action_at c.args.procedures) [] c.args.count c.args.bytes.now) c.loop-test.true (sym same ∙ c.in_ok-item.ensures.gives) c.loop.invariant.read);
    }

pub returns : goal.returns
returns c = is_done (action_at c.args.procedures) c.loop.items.items c.args.count c.loop.counter c.loop.rest.now
    (items_at (action_at c.args.procedures) [] c.args.count c.args.bytes.now) c.loop-test.false c.loop.invariant.read
