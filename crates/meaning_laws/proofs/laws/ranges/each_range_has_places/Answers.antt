use Rattle.meaning_laws.proofs.PlaceLemmas.{some_places, same_places}
use Rattle.meaning_laws.proofs.laws.ranges.each_range_has_places.Goals as goal

pub returns : goal.returns
returns c = record { exist = some_places; same = same_places }
