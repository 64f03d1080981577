use Rattle.std.proofs.Common.{◌≡◌, ◌++◌, ◌∷◌, [], sym}
use Rattle.std.proofs.lemmas.List.Sums.{sum_by_push}
use Rattle.std.proofs.lemmas.Result.{err_from_is_err_and}
use Rattle.stapl_code.specs.Ranges.{elements_of}
use Rattle.code_files.specs.Reading.{items_at}
use Rattle.code_files.specs.ReadFiles.{variable_at}
use Rattle.code_files.proofs.Loops.{goes_on, ends, is_done}
use Rattle.code_files.proofs.read_variables.variables_at.Goals as goal

pub returns-in_err-item : goal.returns-in_err-item
returns-in_err-item c =
    let p = err_from_is_err_and c.from_residual.result c.from_residual.ensures.1 in
    let read = c.in_err-item.ensures.gives c.loop.items.items c.loop.invariant.ints c.loop.invariant.bits in
    rw (p.1, p.2) (ends variable_at c.in_err-item.field-0.0 c.loop.items.items c.args.count c.loop.counter c.loop.rest.now
    (items_at variable_at [] c.args.count c.args.bytes.now) c.loop-test.true read c.loop.invariant.read)

pub loop-preserved : goal.loop-preserved
loop-preserved c =
    let item = c.in_ok-item.item in
    let pushed : c.push.new.self.items ≡ c.loop.items.items ++ item ∷ [] = c.in_ok-push.ensures.items in
    let read = c.in_ok-item.ensures.gives c.loop.items.items c.loop.invariant.ints c.loop.invariant.bits in
    let ints = sum_by_push (elements_of 0 2) c.loop.items.items item in
    let bits = sum_by_push (elements_of 1 3) c.loop.items.items item in
    record {
      ints = rw pushed (rw (c.loop.invariant.ints, c.elements_of-ints.ensures) (sym ints));
      bits = rw pushed (rw (c.loop.invariant.bits, c.elements_of-bits.ensures) (sym bits));
      few_ints = rw c.elements_of-ints.ensures c.in_ok-item.ensures.ints_kept;
      few_bits = rw c.elements_of-bits.ensures c.in_ok-item.ensures.bits_kept;
      read = rw pushed (goes_on variable_at c.loop.items.items c.args.count c.loop.counter c.loop.rest.now item c.in_ok-item.after.now
          (items_at variable_at [] c.args.count c.args.bytes.now) c.loop-test.true read c.loop.invariant.read);
    }

pub returns : goal.returns
returns c = is_done variable_at c.loop.items.items c.args.count c.loop.counter c.loop.rest.now (items_at variable_at [] c.args.count c.args.bytes.now)
    c.loop-test.false c.loop.invariant.read
