use Rattle.std.specs.List.{list_any}
use Rattle.std.specs.Str.{bytes_eq}
use Rattle.stapl_syntax.specs.Trees.{body_tree}
use Rattle.carried_plays.specs.PadNames.{begins_block}
use Rattle.chain_rewrite.proofs.NameLemmas.{put_known}
use Rattle.chain_rewrite.proofs.names.put_block.Goals as goal

pub returns-in_ok-insert-in-Some : goal.returns-in_ok-insert-in-Some
returns-in_ok-insert-in-Some c = λ name.
    put_known c.in-Some.own name (list_any (bytes_eq name) c.args.names.now.keys) (list_any (bytes_eq name) c.insert.new.self.keys) (begins_block name (body_tree c.args.body.now))
    (c.in_ok-insert-in-Some.ensures.updates.0 name) (c.in-Some.ensures name)
