use Rattle.std.proofs.Common.{rules, ◌<◌, [], length, get_or}
use Rattle.stapl_code.specs.Safe.{constants_of}
use Rattle.machine_memory.specs.Acts.{state_with}
use Rattle.machine_scans.proofs.ExportLemmas.{item_there, export_known}
use Rattle.machine_scans.proofs.exporting.export.Goals as goal

pub returns : goal.returns
returns c = λ text chosen shifted records ir dr.
    let code = c.args.code.now in let key = c.args.key in let variables = c.args.variables.now in let s = state_with chosen records ir dr variables in
    let bytes = get_or code.texts key [] in let value = c.in_ok-value.value in
    let inside : key < length code.texts = search rules in (
      export_known (constants_of code) variables (record { key = key; value = value }) c.args.part c.args.values.now s bytes (item_there code.texts key [] inside)
          (c.in_ok-value.ensures bytes chosen records ir dr),
      tt,
    )
