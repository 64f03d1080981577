use Rattle.std.proofs.Common.{◌≡◌, ◌*◌, ◌∙◌, length, arith}
use Rattle.std.specs.Prelude.{replicate}
use Rattle.std.proofs.lemmas.List.{length-take-le}
use Rattle.base.specs.Bits.{low_bits}
use Rattle.dev_card.specs.Clocks.{with_zero}
use Rattle.link_server.proofs.Blocks.{length_of_moves}
use Rattle.drive_cable.proofs.BlockLemmas.{block_asked}
use Rattle.drive_cable.proofs.calls.move_peer.Goals as goal

pub returns-clause-moved : goal.returns-clause-moved
returns-clause-moved g c =
    let bytes : length c.put_moves.new.into ≡ 3 * c.args.n =
    c.put_moves.auto.into ∙ length-take-le (3 * c.args.n) (replicate 192 0) (omega arith) in
    block_asked g.P.Peer c.args.peer.now c.ask_number.new.peer (with_zero (low_bits c.args.n c.args.tms)) c.args.n
    c.put_moves.new.into _ c.ask_number.result c.put_moves.ensures bytes (length_of_moves c.args.tms c.args.n)
    c.ask_number.ensures.asked
