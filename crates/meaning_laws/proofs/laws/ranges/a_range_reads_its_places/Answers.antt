use Rattle.meaning_laws.proofs.ReadLemmas.{read_places}
use Rattle.meaning_laws.proofs.laws.ranges.a_range_reads_its_places.Goals as goal

pub returns : goal.returns
returns c = read_places
