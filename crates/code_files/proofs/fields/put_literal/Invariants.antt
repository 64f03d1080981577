use Rattle.std.proofs.Common.{◌≡◌, ◌++◌, ◌-◌, ◌*◌, length, drop}
use Rattle.std.specs.Int.{div_ceil}
use Rattle.stapl_code.specs.Fields.{bytes_for, bytes_of_bits, literal}
use Rattle.code_files.proofs.fields.put_literal.Given as goal

-- the bytes that stand, and those that are still to come, are the literal
abbrev pub invariant-loop-k : goal.invariant-loop-k
invariant-loop-k l = record {
  end : l.k-end ≡ div_ceil (length l.bits) 64;
  out : l.out.items ++ bytes_of_bits (bytes_for (length l.bits - 64 * l.k)) (drop (64 * l.k) l.bits) ≡ l.fn.out.items ++ literal l.bits;
}
