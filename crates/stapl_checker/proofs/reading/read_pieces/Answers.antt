use Rattle.std.proofs.Common.{refl, get_or}
use Rattle.stapl_checker.proofs.ReadingLemmas.{no_piece, reading_more}
use Rattle.stapl_checker.proofs.reading.read_pieces.Goals as goal

pub loop-i-preserved : goal.loop-i-preserved
loop-i-preserved c =
    reading_more c.args.text.now c.args.pieces.now c.loop-i.i (get_or c.args.pieces.now c.loop-i.i no_piece) no_piece c.in_ok-read.read c.loop-i.reading
    c.add.new.self c.loop-i-test.true refl c.loop-i.invariant c.in_ok-read.ensures c.in_ok-add.ensures
