use Rattle.std.proofs.Common.{sym, ap, ◌∙◌}
use Rattle.std.specs.Str.{bytes_eq}
use Rattle.stapl_syntax.specs.Names.{key_eq, firsts_after}
use Rattle.stapl_names.specs.Tables.{places_from}
use Rattle.stapl_names.proofs.Puts.{goes_last, put_new}
use Rattle.stapl_names.proofs.Uses.{used_more}
use Rattle.stapl_names.proofs.blocks.Blocks.put.Goals as goal

pub returns-in_ok-insert-clause-table : goal.returns-in_ok-insert-clause-table
returns-in_ok-insert-clause-table c =
    put_new bytes_eq c.args.self.now.table c.args.block.name c.args.block _ c.in_ok-insert.ensures.entries
    (sym c.contains_key.ensures ∙ c.if-not-contains_key.true)

pub returns-in_ok-insert-clause-used : goal.returns-in_ok-insert-clause-used
returns-in_ok-insert-clause-used c =
    let absent = sym c.contains_key.ensures ∙ c.if-not-contains_key.true in
    used_more c.args.self.now (record { table = c.insert.new.self; used = c.put_uses.new.used }) c.args.block c.requires absent
    (c.in_ok-put_uses.ensures ∙ ap (λ uses. firsts_after key_eq c.args.self.now.used.entries (places_from c.args.block.name 0 uses)) c.as_slice.ensures)
    (goes_last bytes_eq c.args.self.now.table c.args.block.name c.args.block _ c.in_ok-insert.ensures.entries absent)
