use Rattle.std.proofs.Common.{arith}
use Rattle.code_files.proofs.LiteralParts.{short_word}
use Rattle.code_files.proofs.read_literals.short_word.Goals as goal

pub returns : goal.returns
returns c = λ n few. short_word n c.from_le_bytes.result c.args.bytes.now c.copy_from_slice.new.self few c.requires (λ i. omega (arith, c.type_inv.bytes i))
    c.copy_from_slice.ensures.after c.from_le_bytes.ensures
