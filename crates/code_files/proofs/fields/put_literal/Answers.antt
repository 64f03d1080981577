use Rattle.std.proofs.Common.{◌++◌}
use Rattle.stapl_code.specs.Fields.{literal}
use Rattle.code_files.proofs.LiteralBytes.{word_put}
use Rattle.code_files.proofs.fields.put_literal.Goals as goal

pub loop-k-preserved : goal.loop-k-preserved
loop-k-preserved c = record {
  end = c.loop-k.invariant.end;
  out = word_put c.loop-k.out.items c.put_word.new.out.items (c.args.out.now.items ++ literal c.args.bits.now) c.args.bits.now c.loop-k.k
      c.in_ok-put_word.ensures c.loop-k.invariant.out;
}
