use Rattle.std.proofs.Common.{rules, ℤ, subst, w32, SFits}
use Rattle.std.proofs.lemmas.Int.{to_z-of_z}
use Rattle.bit_list.specs.Integers.{bits_of_int}
use Rattle.tool_io.specs.Lines.{HasPut}
use Rattle.written_cable.specs.HexTexts.{hex_text}
use Rattle.written_cable.proofs.line_writer.put_bits.Goals as goal

pub returns-in-Integer : goal.returns-in-Integer
returns-in-Integer g c =
    let call = c.put_integer in
    let fits : SFits w32 c.in-Integer.z = search rules in
    rw c.in-Integer.is
    (subst (λ (z : ℤ). HasPut g.K.Sink c.args.out.now (hex_text (bits_of_int z)) call.new.out call.result)
    (to_z-of_z w32 c.in-Integer.z fits) call.ensures)
