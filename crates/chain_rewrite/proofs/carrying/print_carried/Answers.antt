use Rattle.std.proofs.Common.{List, [], subst}
use Rattle.stapl_syntax.specs.Trees.{StmtTree}
use Rattle.scan_paths.specs.Scans.{lengths_of}
use Rattle.carried_plays.specs.CarriedPrograms.{padding_procedure}
use Rattle.chain_rewrite.specs.Printing.{PrintsAfter}
use Rattle.chain_rewrite.proofs.PieceLemmas.{whole_is}
use Rattle.chain_rewrite.proofs.carrying.print_carried.Goals as goal

pub returns : goal.returns
returns c =
    subst (λ (l : List StmtTree). PrintsAfter [] l c.print_parts.result)
    (whole_is c.args.name.now (padding_procedure c.args.name.now (lengths_of c.args.pads.now)) c.args.statements.now c.split_at.result.0.now c.split_at.result.1.now
    c.count_before_crc.result c.split_at.ensures.front c.split_at.ensures.back c.count_before_crc.ensures.before c.count_before_crc.ensures.from)
    c.print_parts.ensures
