use Rattle.std.proofs.Common.{◌∙◌, ap, sym, map}
use Rattle.stapl_syntax.specs.Trees.{stmt_tree}
use Rattle.stapl_syntax.specs.Names.{names_of}
use Rattle.stapl_checker.proofs.FaultLemmas.{all_listed}
use Rattle.stapl_checker.proofs.TextLemmas.{fault_is, program_is}
use Rattle.stapl_checker.proofs.checking.judge_read.Goals as goal

pub first_fault-requires-clause-listed : goal.first_fault-requires-clause-listed
first_fault-requires-clause-listed c =
    all_listed c.args.names.now c.args.reading.numbers.items c.args.reading.statements.items c.requires.names c.requires.read.told.as_many

pub returns-in-Some : goal.returns-in-Some
returns-in-Some c =
    let read = c.requires.read in
    rw c.line_of_index-line.ensures
    (fault_is c.args.text.now c.args.pieces.now read.whats c.in-Some.fault.index c.in-Some.fault.reason c.requires.small c.requires.cut read.are
    (c.in-Some.ensures read.whats read.told (c.requires.names ∙ ap names_of (sym read.told.same))))

pub returns-in-None : goal.returns-in-None
returns-in-None c =
    let read = c.requires.read in
    let faultless = c.in-None.ensures read.whats read.told (c.requires.names ∙ ap names_of (sym read.told.same)) in
    program_is c.args.text.now c.args.pieces.now read.whats (map stmt_tree c.args.reading.statements.items) c.requires.small c.requires.cut read.are
    faultless.none faultless.same
