use Rattle.effect_laws.proofs.Later.{pads_ones, pads_array, sets_stop}
use Rattle.effect_laws.proofs.laws.scans.paddings_and_stops_are_set_one_by_one.Goals as goal

pub returns : goal.returns
returns c = record {
  ones = pads_ones;
  array = λ program i n s which count name bits stands is most there enough.
      pads_array program i n s which count name bits stands is most there enough;
  stop = sets_stop;
}
