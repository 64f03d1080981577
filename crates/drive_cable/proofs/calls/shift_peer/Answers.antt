use Rattle.std.proofs.Common.{◌≡◌, ◌*◌, ◌∙◌, length, arith}
use Rattle.std.specs.Prelude.{replicate}
use Rattle.std.proofs.lemmas.List.{length-take-le}
use Rattle.dev_card.specs.Blocks.{block_inputs}
use Rattle.link_server.proofs.Blocks.{length_of_block}
use Rattle.drive_cable.proofs.BlockLemmas.{block_asked}
use Rattle.drive_cable.proofs.calls.shift_peer.Goals as goal

pub returns-clause-shifted : goal.returns-clause-shifted
returns-clause-shifted g c =
    let bytes : length c.put_clocks.new.into ≡ 3 * c.args.n =
    c.put_clocks.auto.into ∙ length-take-le (3 * c.args.n) (replicate 192 0) (omega arith) in
    block_asked g.P.Peer c.args.peer.now c.ask_number.new.peer (block_inputs c.args.tdi c.args.n c.args.last) c.args.n
    c.put_clocks.new.into _ c.ask_number.result c.put_clocks.ensures bytes
    (length_of_block c.args.tdi c.args.n c.args.last) c.ask_number.ensures.asked
