use Rattle.std.proofs.Common.{[], Some, ap, sym, subst, arith}
use Rattle.std.proofs.lemmas.List.{length-map}
use Rattle.stapl_syntax.specs.ProgramValues.{trees_of}
use Rattle.stapl_syntax.specs.Trees.{stmt_tree, trees}
use Rattle.dev_card.specs.Padding.{Neighbours, base_lengths}
use Rattle.scan_paths.specs.Scans.{lengths_of}
use Rattle.carried_plays.specs.CarriedRuns.{AreShort}
use Rattle.carried_plays.specs.CarriedPrograms.{carried_program}
use Rattle.chain_rewrite.proofs.PrintLemmas.{too_large_from}
use Rattle.chain_rewrite.proofs.RewrittenLemmas.{text_is, large_is}
use Rattle.chain_rewrite.proofs.rewriting.rewrite.Goals as goal

pub print_carried-requires : goal.print_carried-requires
print_carried-requires c =
    let run : Neighbours = record { first = c.args.first; last = c.args.last } in
    subst AreShort (sym c.base_pads.ensures) (c.base_padding_is_short.ensures c.args.descs.now run c.requires.good c.requires.most)

pub returns-in-Ok-print_carried-clause-text : goal.returns-in-Ok-print_carried-clause-text
returns-in-Ok-print_carried-clause-text c =
    let run : Neighbours = record { first = c.args.first; last = c.args.last } in
    text_is (base_lengths c.args.descs.now (Some run)) (lengths_of c.base_pads.result) (trees_of c.args.program.now) (trees c.pieces-statements.result.now)
    c.in-Ok.name c.in-Ok-print_carried.text.items c.in-Ok.ensures c.base_pads.ensures (ap trees c.pieces-statements.ensures.same) c.in_default.ensures.none
    (omega (arith, c.if-statements-gt-PIECE_LIMIT.false, length-map c.pieces-statements.result.now stmt_tree)) c.in-Ok-print_carried.ensures.0 c.in-Ok-print_carried.ensures.1

pub returns-in-Err-TooLarge-clause-too_large : goal.returns-in-Err-TooLarge-clause-too_large
returns-in-Err-TooLarge-clause-too_large c = λ is.
    let run : Neighbours = record { first = c.args.first; last = c.args.last } in
    large_is (base_lengths c.args.descs.now (Some run)) (lengths_of c.base_pads.result) (trees_of c.args.program.now) (trees c.pieces-statements.result.now)
    c.in-Ok.name c.in-Ok.ensures c.base_pads.ensures (ap trees c.pieces-statements.ensures.same) c.in_default.ensures.none
    (too_large_from [] (carried_program c.in-Ok.name (lengths_of c.base_pads.result) (trees c.pieces-statements.result.now))
    c.in-Err-TooLarge.field-0 c.in-Err-TooLarge.field-0-is c.in-Err-TooLarge.ensures)
