use Rattle.std.proofs.Common.{◌≡◌, ℕ, subst, ap, ◌∙◌, rules, w32, SFits}
use Rattle.std.proofs.lemmas.Int.{to_z-of_z}
use Rattle.std.specs.Int.{cast_unsigned}
use Rattle.base.specs.Bits.{low_bits}
use Rattle.tool_io.specs.Lines.{HasPut}
use Rattle.written_cable.specs.HexTexts.{hex_text}
use Rattle.written_cable.proofs.line_writer.put_integer.Goals as goal

pub returns : goal.returns
returns g c =
    let call = c.put_number_text in
    let fits : SFits w32 c.args.z = search rules in
    let same : c.from.result ≡ cast_unsigned w32 c.args.z = c.from.ensures ∙ c.cast_unsigned.ensures ∙ ap (cast_unsigned w32) (to_z-of_z w32 c.args.z fits) in
    subst (λ (n : ℕ). HasPut g.K.Sink c.args.out.now (hex_text (low_bits 32 n)) call.new.out call.result) same call.ensures
