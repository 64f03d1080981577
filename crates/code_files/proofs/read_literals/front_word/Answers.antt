use Rattle.std.proofs.Common.{arith}
use Rattle.code_files.proofs.LiteralParts.{front_word}
use Rattle.code_files.proofs.read_literals.front_word.Goals as goal

pub returns-in-Some : goal.returns-in-Some
returns-in-Some c = λ n few room. front_word n c.from_le_bytes.result c.args.bytes.now c.in-Some.word.now few c.in-Some.ensures.cases.enough
    (λ i. omega (arith, c.type_inv.bytes i)) c.in-Some.ensures.cases.same c.from_le_bytes.ensures
