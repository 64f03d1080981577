use Rattle.std.proofs.Common.{◌≡◌, ◌*◌, false, length, take, replicate}
use Rattle.std.specs.Int.{div_ceil}
use Rattle.std.specs.List.{flat_map}
use Rattle.base.specs.Bits.{low_bits}
use Rattle.bit_list.specs.Ranges.{spliced}
use Rattle.code_files.proofs.read_literals.bits_of.Given as goal

-- the bits of the words so far stand in front of zeros
abbrev pub invariant-loop-k : goal.invariant-loop-k
invariant-loop-k l = record {
  end : l.k-end ≡ div_ceil l.len 64;
  long : length l.bits ≡ l.len;
  bits : l.bits ≡ spliced 0 (take (64 * l.k) (take l.len (flat_map (low_bits 8) l.packed))) (replicate l.len false);
}
