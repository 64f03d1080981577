use Rattle.std.proofs.Common.{◌+◌, length, drop, sym, ap, ◌∙◌, arith, drop_of_length-le, length-drop}
use Rattle.std.proofs.lemmas.List.{drop_more}
use Rattle.stapl_code.specs.Machine.{parts_text}
use Rattle.stapl_code.specs.Safe.{constants_of}
use Rattle.machine_memory.specs.Prints.{with_front, parts_room}
use Rattle.machine_memory.proofs.PrintLemmas.{nothing_in_front, put_stops, left_over, none_left}
use Rattle.stapl_instructions.proofs.printing.join.Goals as goal

pub loop-part-init : goal.loop-part-init
loop-part-init c = record {
  text = λ entries. rw c.clear.ensures.items (nothing_in_front _);
  fits = omega (arith, c.requires, ap length c.clear.ensures.items, c.clear.ensures.capacity);
  room = omega (arith, c.clear.ensures.capacity);
}

pub loop-part-preserved : goal.loop-part-preserved
loop-part-preserved c =
    let from = drop_more c.args.parts.now c.loop-part.part-index _ c.loop-part-test.true in record {
      text = λ entries.
          sym (c.in-Ok.ensures.put entries (drop (c.loop-part.part-index + 1) c.args.parts.now))
          ∙ ap (λ l. with_front c.loop-part.text.items (parts_text entries (constants_of c.args.code.now) l (drop c.loop-part.at c.args.values.now))) (sym from)
          ∙ c.loop-part.invariant.text entries;
      fits = omega (arith, c.loop-part.invariant.fits, c.in-Ok.ensures.size, c.in-Ok.ensures.room, ap (parts_room c.args.code.now.texts) from);
      room = omega (arith, c.in-Ok.ensures.room, c.loop-part.invariant.room);
    }

pub returns-in-Err-clause-joined : goal.returns-in-Err-clause-joined
returns-in-Err-clause-joined c = λ entries.
    let rest = drop (c.loop-part.part-index + 1) c.args.parts.now in
    let e = ap (λ l. with_front c.loop-part.text.items (parts_text entries (constants_of c.args.code.now) l (drop c.loop-part.at c.args.values.now)))
    (sym (drop_more c.args.parts.now c.loop-part.part-index _ c.loop-part-test.true)) ∙ c.loop-part.invariant.text entries in
    put_stops c.in-Err.stop c.loop-part.text.items _ _ e (c.in-Err.ensures.put entries rest)

pub returns-then-at-values-clause-joined : goal.returns-then-at-values-clause-joined
returns-then-at-values-clause-joined c = λ entries.
    let left = drop c.loop-part.at c.args.values.now in
    sym (c.loop-part.invariant.text entries)
    ∙ ap (λ l. with_front c.loop-part.text.items (parts_text entries (constants_of c.args.code.now) l left)) (drop_of_length-le c.args.parts.now (omega arith))
    ∙ left_over entries (constants_of c.args.code.now) c.loop-part.text.items left (omega (arith, length-drop c.loop-part.at c.args.values.now))

pub returns-clause-joined : goal.returns-clause-joined
returns-clause-joined c = λ entries.
    let left = drop c.loop-part.at c.args.values.now in
    sym (c.loop-part.invariant.text entries)
    ∙ ap (λ l. with_front c.loop-part.text.items (parts_text entries (constants_of c.args.code.now) l left)) (drop_of_length-le c.args.parts.now (omega arith))
    ∙ none_left entries (constants_of c.args.code.now) c.loop-part.text.items left (omega (arith, length-drop c.loop-part.at c.args.values.now))
