use Rattle.std.proofs.Common.{Option, None, Some, IfNone}
use Rattle.play_words.specs.ReadParts.{part_of}
use Rattle.play_words.proofs.WordLemmas.{adds_refused}
use Rattle.play_words.proofs.words.Given.with_word.Goals as goal

on_none : {T P Q : Type 0} (o : Option T) → (P → Q) → IfNone o P → IfNone o Q
on_none None f p = f p
on_none (Some x) f p = tt

pub returns-in-Some-clause-none : goal.returns-in-Some-clause-none
returns-in-Some-clause-none c = on_none c.add.result (adds_refused (part_of c.in-Some.part) c.in-Some.ensures.some) c.add.ensures.none
