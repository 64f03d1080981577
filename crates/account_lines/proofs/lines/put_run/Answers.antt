use Rattle.std.specs.Prelude.{codes, pos, [], ◌∷◌}
use Rattle.bit_list.specs.Hexadecimal.{all_hex_digits}
use Rattle.bit_list.specs.Ranges.{taken}
use Rattle.tool_io.proofs.PutLemmas.{put_then, put_then_front, front_with, put_failed, puts_same, front_same}
use Rattle.account_lines.proofs.FrontTexts.{bits_counted}
use Rattle.account_lines.proofs.lines.put_run.Goals as goal

pub returns-in_err-put_front : goal.returns-in_err-put_front
returns-in_err-put_front g c =
    let counted = bits_counted c.args.turn c.args.at c.args.bits_in.now c.requires.inside in
    put_failed c.from_residual.result c.from_residual.ensures.0
    (front_with (10 ∷ [])
    (front_with (all_hex_digits (taken c.args.at.low c.args.at.count c.args.bits_out.now))
    (front_with (codes " out ")
    (front_with (all_hex_digits (taken c.args.at.low c.args.at.count c.args.bits_in.now))
    (front_with (codes " in ")
    (front_same counted c.in_err-put_front.ensures))))))

pub returns-in_err-put : goal.returns-in_err-put
returns-in_err-put g c =
    let counted = bits_counted c.args.turn c.args.at c.args.bits_in.now c.requires.inside in
    put_failed c.from_residual-in_err-put.result c.from_residual-in_err-put.ensures.0
    (front_with (10 ∷ [])
    (front_with (all_hex_digits (taken c.args.at.low c.args.at.count c.args.bits_out.now))
    (front_with (codes " out ")
    (front_with (all_hex_digits (taken c.args.at.low c.args.at.count c.args.bits_in.now))
    (put_then_front (puts_same counted c.in_ok-put_front.ensures) c.in_err-put.ensures.put)))))

pub returns-in_err-put_bits : goal.returns-in_err-put_bits
returns-in_err-put_bits g c =
    let counted = bits_counted c.args.turn c.args.at c.args.bits_in.now c.requires.inside in
    put_failed c.from_residual-in_err-put_bits.result c.from_residual-in_err-put_bits.ensures.0
    (front_with (10 ∷ [])
    (front_with (all_hex_digits (taken c.args.at.low c.args.at.count c.args.bits_out.now))
    (front_with (codes " out ")
    (put_then_front (put_then (puts_same counted c.in_ok-put_front.ensures) c.in_ok-put.ensures.put) c.in_err-put_bits.ensures))))

pub returns-in_err-put-2 : goal.returns-in_err-put-2
returns-in_err-put-2 g c =
    let counted = bits_counted c.args.turn c.args.at c.args.bits_in.now c.requires.inside in
    put_failed c.from_residual-in_err-put-2.result c.from_residual-in_err-put-2.ensures.0
    (front_with (10 ∷ [])
    (front_with (all_hex_digits (taken c.args.at.low c.args.at.count c.args.bits_out.now))
    (put_then_front (put_then (put_then (puts_same counted c.in_ok-put_front.ensures) c.in_ok-put.ensures.put) c.in_ok-put_bits.ensures) c.in_err-put-2.ensures.put)))

pub returns-in_err-put_bits-2 : goal.returns-in_err-put_bits-2
returns-in_err-put_bits-2 g c =
    let counted = bits_counted c.args.turn c.args.at c.args.bits_in.now c.requires.inside in
    put_failed c.from_residual-in_err-put_bits-2.result c.from_residual-in_err-put_bits-2.ensures.0
    (front_with (10 ∷ [])
    (put_then_front (put_then (put_then (put_then (puts_same counted c.in_ok-put_front.ensures) c.in_ok-put.ensures.put) c.in_ok-put_bits.ensures) c.in_ok-put-2.ensures.put) c.in_err-put_bits-2.ensures))

pub returns-in_err-put-3 : goal.returns-in_err-put-3
returns-in_err-put-3 g c =
    let counted = bits_counted c.args.turn c.args.at c.args.bits_in.now c.requires.inside in
    put_failed c.from_residual-in_err-put-3.result c.from_residual-in_err-put-3.ensures.0
    (put_then_front (put_then (put_then (put_then (put_then (puts_same counted c.in_ok-put_front.ensures) c.in_ok-put.ensures.put) c.in_ok-put_bits.ensures) c.in_ok-put-2.ensures.put) c.in_ok-put_bits-2.ensures) c.in_err-put-3.ensures.put)

pub returns : goal.returns
returns g c =
    let counted = bits_counted c.args.turn c.args.at c.args.bits_in.now c.requires.inside in
    put_then (put_then (put_then (put_then (put_then (puts_same counted c.in_ok-put_front.ensures) c.in_ok-put.ensures.put) c.in_ok-put_bits.ensures) c.in_ok-put-2.ensures.put) c.in_ok-put_bits-2.ensures) c.in_ok-put-3.ensures.put
