use Rattle.stapl_lexer.proofs.CutLemmas.{cut_start}
use Rattle.stapl_lexer.proofs.cutting.Progress.new.Goals as goal

pub returns-clause-start : goal.returns-clause-start
returns-clause-start c = cut_start
