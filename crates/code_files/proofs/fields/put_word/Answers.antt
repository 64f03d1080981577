use Rattle.std.proofs.Common.{◌≡◌, ◌++◌, ◌-◌, min, length, take, drop, ap, ◌∙◌, subst, arith, OnOk}
use Rattle.std.proofs.lemmas.List.{length-drop}
use Rattle.stapl_code.specs.Fields.{bytes_for, bytes_of_bits}
use Rattle.code_files.proofs.LiteralBytes.{min_is, word_bytes}
use Rattle.code_files.proofs.fields.put_word.Goals as goal

pub returns : goal.returns
returns c =
    let rest = drop c.args.at c.args.bits.now in
    let room : length rest ≡ length c.args.bits.now - c.args.at = length-drop c.args.at c.args.bits.now in
    let n : c.min-n.result ≡ min 64 (length rest) = c.min-n.ensures ∙ min_is 64 (c.len.result - c.args.at) ∙ omega (arith, c.len.ensures.length) in
    let count : c.div_ceil.result ≡ min 8 (bytes_for (length c.args.bits.now - c.args.at)) = omega (arith, c.div_ceil.ensures) in
    let part : take c.div_ceil.result c.to_le_bytes-bytes.result ≡ bytes_of_bits (min 8 (bytes_for (length c.args.bits.now - c.args.at))) rest =
    ap (take c.div_ceil.result) c.to_le_bytes-bytes.ensures
    ∙ word_bytes c.div_ceil.result c.min-n.result c.word.result rest (omega arith) n c.word.ensures.value
    ∙ ap (λ k. bytes_of_bits k rest) count in
    subst (λ bs. OnOk c.put_bytes.result (c.put_bytes.new.out.items ≡ c.args.out.now.items ++ bs)) part c.put_bytes.ensures
