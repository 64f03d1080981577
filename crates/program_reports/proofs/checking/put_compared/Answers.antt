use Rattle.program_reports.proofs.CheckLemmas.{differs}
use Rattle.program_reports.proofs.checking.put_compared.Goals as goal

pub returns-else-words : goal.returns-else-words
returns-else-words g c = rw (differs c.args.words c.if-words.false) c.put_differing.ensures
