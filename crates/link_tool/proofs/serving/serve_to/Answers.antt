use Rattle.std.proofs.Common.{rules}
use Rattle.link_server.proofs.FeedLemmas.{places_apart}
use Rattle.link_tool.proofs.ServingLemmas.{of_board, from_lines, served_over, served_count}
use Rattle.link_tool.proofs.serving.serve_to.Goals as goal

pub serve-requires-clause-apart : goal.serve-requires-clause-apart
serve-requires-clause-apart g c = places_apart _ c.args.places.now c.requires.chain

pub returns-clause-served : goal.returns-clause-served
returns-clause-served g c = λ cs e.
    let over = served_over c.serve.result (c.serve.ensures.served cs e) in
    from_lines c.serve.result c.new-lines.ensures.empty (search (rules, over)) (search (rules, over)) (c.serve.ensures.served cs e)

pub returns-clause-output : goal.returns-clause-output
returns-clause-output g c =
    of_board _ (search rules) (λ cs e.
    let over = served_over c.serve.result (c.serve.ensures.served cs e) in
    served_count _ _ c.serve.result (search (rules, over)) (search (rules, over)) (c.serve.ensures.served cs e))
