use Rattle.std.proofs.Common.{◌≡◌, ◌≤◌, ◌<◌, ◌+◌, ◌++◌, ◌∙◌, ℕ, List, Option, None, Some, IfSome, IsSomeAnd, length, take, refl, sym, ap, append_assoc, length-append, arith, rules}
use Rattle.std.proofs.lemmas.List.{length-take, take-append-le}
use Rattle.tool_io.specs.Files.{file_of, Gives}
use Rattle.tool_io.proofs.CauseLemmas.{counts_then, rose_after_at}
use Rattle.tool_io.proofs.PickLemmas.{picks_first, picks_at_most}
use Rattle.tool_io.proofs.reading.read_whole.Goals as goal

-- the file of this name has these bytes, if that is told
abbrev IsFile : Option (List (List ℕ × List ℕ)) → List ℕ → List ℕ → Type 0
IsFile told name bytes = IfSome told (λ files. file_of files name ≡ Some bytes)

-- what was read, and what is left after one read more
read_more : (told now : Option (List (List ℕ × List ℕ))) (name so_far left rest into : List ℕ) (n : ℕ) → now ≡ told →
    IsFile told name (so_far ++ left) → IfSome now (λ _. Gives left rest n into) → IsFile told name ((so_far ++ take n into) ++ rest)
read_more None now name so_far left rest into n same file gives = tt
read_more (Some files) None name so_far left rest into n same file gives = absurd cc
read_more (Some files) (Some others) name so_far left rest into n same file gives =
    file ∙ ap (λ (v : List ℕ). Some (so_far ++ v)) gives.next ∙ ap Some (sym (append_assoc so_far (take n into) rest))

-- what holds of its bytes
some_and : (told : Option (List (List ℕ × List ℕ))) (name bytes : List ℕ) (P : List ℕ → Type 0) → IsFile told name bytes → P bytes →
    IfSome told (λ files. IsSomeAnd (file_of files name) P)
some_and None name bytes P file holds = tt
some_and (Some files) name bytes P file holds = rw file holds

pub returns-then-is_err-clause-bounded : goal.returns-then-is_err-clause-bounded
returns-then-is_err-clause-bounded g c = λ no. absurd (no refl)

pub returns-then-is_err-clause-later : goal.returns-then-is_err-clause-later
returns-then-is_err-clause-later g c = c.pick.ensures.cause.kept

pub returns-in-Ok-eq0-clause-long : goal.returns-in-Ok-eq0-clause-long
returns-in-Ok-eq0-clause-long g c = λ e. absurd cc

pub returns-in-Ok-eq0-clause-fault : goal.returns-in-Ok-eq0-clause-fault
returns-in-Ok-eq0-clause-fault g c = λ e. absurd cc

pub returns-in-Ok-eq0-clause-bounded : goal.returns-in-Ok-eq0-clause-bounded
returns-in-Ok-eq0-clause-bounded g c = λ _.
    some_and _ _ _ (λ bytes. length bytes ≤ length (g.S.Shelf.left c.read.new.self) + (c.args.limit + 1))
    (read_more _ _ c.args.name.now c.turns.whole.items _ (g.S.Shelf.left c.read.new.self) c.read.new.into c.in-Ok-eq0.field-0 c.turns.invariant.told c.turns.invariant.so_far c.in-Ok-eq0.ensures.bytes)
    (omega (arith, length-append {A = ℕ}, length-take {A = ℕ}))

pub returns-in-Ok-eq0-clause-later : goal.returns-in-Ok-eq0-clause-later
returns-in-Ok-eq0-clause-later g c =
    counts_then c.turns.invariant.kept (c.in-Ok-eq0.ensures.cause c.args.name.now c.turns.invariant.reads).kept

pub returns-then-is_err-2-clause-long : goal.returns-then-is_err-2-clause-long
returns-then-is_err-2-clause-long g c = λ e. absurd cc

pub returns-then-is_err-2-clause-fault : goal.returns-then-is_err-2-clause-fault
returns-then-is_err-2-clause-fault g c = λ e. absurd cc

pub returns-then-is_err-2-clause-bounded : goal.returns-then-is_err-2-clause-bounded
returns-then-is_err-2-clause-bounded g c = λ _.
    some_and _ _ _ (λ bytes. length bytes ≤ length (g.S.Shelf.left c.read.new.self) + (c.args.limit + 1))
    (read_more _ _ c.args.name.now c.turns.whole.items _ (g.S.Shelf.left c.read.new.self) c.read.new.into c.in-Ok.n c.turns.invariant.told c.turns.invariant.so_far c.in-Ok.ensures.bytes)
    (omega (arith, length-append {A = ℕ}, length-take {A = ℕ}))

pub turns-preserved : goal.turns-preserved
turns-preserved g c =
    let items = rw c.if-is_err-2.ensures.negation at c.extend_from_slice.ensures.items in
    record {
      told = c.in-Ok.ensures.keeps ∙ c.turns.invariant.told;
      reads = c.in-Ok.ensures.same c.args.name.now c.turns.invariant.reads;
      so_far = rw (items, take-append-le c.in-Ok.n c.read.new.into _ c.in-Ok.ensures.bound)
          (read_more _ _ c.args.name.now c.turns.whole.items _ (g.S.Shelf.left c.read.new.self) c.read.new.into c.in-Ok.n c.turns.invariant.told c.turns.invariant.so_far c.in-Ok.ensures.bytes);
      once = c.in-Ok.ensures.unpicked ∙ c.turns.invariant.once;
      kept = counts_then c.turns.invariant.kept (c.in-Ok.ensures.cause c.args.name.now c.turns.invariant.reads).kept;
      short = search rules;
    }

pub returns-then-is_err-2-clause-later : goal.returns-then-is_err-2-clause-later
returns-then-is_err-2-clause-later g c =
    counts_then c.turns.invariant.kept (c.in-Ok.ensures.cause c.args.name.now c.turns.invariant.reads).kept

pub returns-in-Err-clause-long : goal.returns-in-Err-clause-long
returns-in-Err-clause-long g c = λ e. absurd cc

pub returns-in-Err-clause-fault : goal.returns-in-Err-clause-fault
returns-in-Err-clause-fault g c = λ _.
    rose_after_at c.turns.invariant.kept (c.in-Err.ensures.cause c.args.name.now c.turns.invariant.reads).failed

pub returns-in-Err-clause-bounded : goal.returns-in-Err-clause-bounded
returns-in-Err-clause-bounded g c = λ no. absurd (no refl)

pub returns-in-Err-clause-later : goal.returns-in-Err-clause-later
returns-in-Err-clause-later g c =
    counts_then c.turns.invariant.kept (c.in-Err.ensures.cause c.args.name.now c.turns.invariant.reads).kept

pub returns-clause-fault : goal.returns-clause-fault
returns-clause-fault g c = λ e. absurd cc

pub returns-clause-long : goal.returns-clause-long
returns-clause-long g c = λ _. some_and _ _ _ (λ bytes. c.args.limit < length bytes) c.turns.invariant.so_far (omega (arith, length-append {A = ℕ}))

pub returns-clause-bounded : goal.returns-clause-bounded
returns-clause-bounded g c = λ _.
    some_and _ _ _ (λ bytes. length bytes ≤ length (g.S.Shelf.left c.turns.shelf) + (c.args.limit + 1)) c.turns.invariant.so_far
    (omega (arith, length-append {A = ℕ}))

pub returns-then-is_err-clause-once : goal.returns-then-is_err-clause-once
returns-then-is_err-clause-once g c = picks_at_most _ c.pick.result c.pick.ensures.once

pub returns-then-is_err-2-clause-once : goal.returns-then-is_err-2-clause-once
returns-then-is_err-2-clause-once g c = picks_first _ (c.in-Ok.ensures.unpicked ∙ c.turns.invariant.once)

pub returns-in-Err-clause-once : goal.returns-in-Err-clause-once
returns-in-Err-clause-once g c = picks_first _ (c.in-Err.ensures.unpicked ∙ c.turns.invariant.once)

pub returns-clause-once : goal.returns-clause-once
returns-clause-once g c = picks_first _ c.turns.invariant.once
