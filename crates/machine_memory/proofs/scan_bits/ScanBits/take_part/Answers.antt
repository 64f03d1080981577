use Rattle.std.proofs.Common.{take, sym, ap, ◌∙◌, arith}
use Rattle.bit_list.specs.Ranges.{taken}
use Rattle.bit_list.proofs.Splices.{length_taken}
use Rattle.stapl_meaning.specs.Values.{turned}
use Rattle.machine_memory.proofs.RoomLemmas.{front_replaced}
use Rattle.machine_memory.proofs.SpanLemmas.{first_bits_read, first_inside, length_turned}
use Rattle.machine_memory.proofs.scan_bits.ScanBits.take_part.Goals as goal

pub returns : goal.returns
returns c =
    let span = c.args.span in let n = c.args.n in let from = c.args.from.now in let low = c.first_places-low.result in
    let inside = first_inside n span c.requires.enough in
    ap (take n) c.copy_turned.ensures.copied
    ∙ front_replaced n (turned span.falls (taken low n from)) c.self.inside.room
    (length_turned span.falls (taken low n from) ∙ length_taken low n from (omega (arith, inside, c.requires.inside, c.first_places-low.ensures)))
    ∙ ap (λ k. turned span.falls (taken k n from)) c.first_places-low.ensures
    ∙ sym (first_bits_read n span from c.requires.enough c.requires.inside)
