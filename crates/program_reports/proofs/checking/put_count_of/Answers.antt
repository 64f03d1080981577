use Rattle.program_reports.proofs.checking.put_count_of.Goals as goal

pub returns : goal.returns
returns g c = rw c.count_of.ensures.count at c.put_size.ensures
