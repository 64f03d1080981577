use Rattle.std.proofs.Common.{ℕ, List, ◌-◌, subst, arith}
use Rattle.tool_io.specs.Lines.{HasPut}
use Rattle.bit_list.proofs.HexDigits.{digits_of_part}
use Rattle.tool_io.proofs.texts.put_hex.Goals as goal

pub returns : goal.returns
returns g c =
    subst (λ (l : List ℕ). HasPut g.K.Sink c.args.lines.now l c.put.new.self c.put.result)
    (digits_of_part c.word_digits-digits.result c.args.number (omega arith) c.word_digits-digits.ensures c.args.len
    (16 - c.div_ceil.result) c.requires.most c.requires.fits
    (omega (arith, c.div_ceil.ensures)))
    c.put.ensures.put
