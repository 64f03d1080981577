use Rattle.std.proofs.Common.{◌≡◌, ◌≤◌, ◌-◌, ◌*◌, min, false, length, take, drop, replicate, ◌∙◌, arith}
use Rattle.std.proofs.lemmas.List.{length-replicate, length-drop, length-take}
use Rattle.code_files.proofs.LiteralBytes.{min_is}
use Rattle.code_files.proofs.LiteralParts.{word_read, words_read}
use Rattle.code_files.proofs.read_literals.bits_of.Goals as goal

pub loop-k-preserved : goal.loop-k-preserved
loop-k-preserved c =
    let len = c.args.len in
    let k = c.loop-k.k in
    let packed = c.args.packed.now in
    let n = c.min-n.result in
    let left = length packed - 8 * k in
    let size : n ≡ min 64 (len - 64 * k) = c.min-n.ensures ∙ min_is 64 (len - 64 * k) in
    let room : n ≤ 8 * length (take left (drop (8 * k) packed)) =
    omega (arith, c.requires.size, length-take left (drop (8 * k) packed), length-drop (8 * k) packed) in
    record {
      end = c.loop-k.invariant.end;
      long = c.set_word.ensures.length ∙ c.loop-k.invariant.long;
      bits = word_read packed (replicate len false) c.loop-k.bits c.set_word.new.self len k n c.front_word.result c.requires.size
          (length-replicate len false) (omega arith) size (c.front_word.ensures n (omega arith) room) c.set_word.ensures.bits c.loop-k.invariant.bits;
    }

pub returns : goal.returns
returns c = words_read c.args.packed.now
    (replicate c.args.len false) c.loop-k.bits c.args.len c.loop-k.k c.requires.size (length-replicate c.args.len false)
    (omega arith)
    c.loop-k.invariant.bits
