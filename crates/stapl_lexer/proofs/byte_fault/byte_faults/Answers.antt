use Rattle.std.proofs.lemmas.List.{take_rest}
use Rattle.stapl_lexer.proofs.ByteFaultLemmas.{own_bytes}
use Rattle.stapl_lexer.proofs.byte_fault.byte_faults.Goals as goal

pub segments-preserved : goal.segments-preserved
segments-preserved c = own_bytes c.args.bytes.now c.segments.at c.segment_len-n.result c.segments.faults.foreign c.segments.faults.unclosed c.segments.faults.compressed
    c.add.new.self.foreign c.add.new.self.unclosed c.add.new.self.compressed c.segments.invariant (rw take_rest at c.segment_len-n.ensures.segment)
    c.add.ensures.foreign c.add.ensures.unclosed c.add.ensures.compressed
