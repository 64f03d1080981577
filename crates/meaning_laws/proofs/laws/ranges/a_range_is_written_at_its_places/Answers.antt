use Rattle.meaning_laws.proofs.WriteLemmas.{written_places}
use Rattle.meaning_laws.proofs.laws.ranges.a_range_is_written_at_its_places.Goals as goal

pub returns : goal.returns
returns c = λ old new first second places span first_in second_in p e few.
    written_places old new first second places few span first_in second_in p e
