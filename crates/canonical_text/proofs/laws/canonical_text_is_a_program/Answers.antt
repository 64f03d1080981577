use Rattle.std.proofs.Common.{[]}
use Rattle.canonical_text.proofs.Programs.{canonical_program, plain_checked}
use Rattle.canonical_text.proofs.laws.canonical_text_is_a_program.Goals as goal

pub returns : goal.returns
returns c = record { program = canonical_program; same = plain_checked [] }
