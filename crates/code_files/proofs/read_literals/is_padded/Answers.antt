use Rattle.std.proofs.Common.{◌≡◌, ◌%◌, nat_eq, true, sym, ap, ◌∙◌, ℕ}
use Rattle.code_files.proofs.LiteralParts.{padded_full, padded_last}
use Rattle.code_files.proofs.read_literals.is_padded.Goals as goal

pub returns-then-used-eq0 : goal.returns-then-used-eq0
returns-then-used-eq0 c =
    let yes : nat_eq (c.args.len % 8) 0 ≡ true = ap (λ (n : ℕ). nat_eq n 0) c.if-used-eq0.true in
    yes ∙ sym (padded_full c.args.packed.now c.args.len c.requires c.if-used-eq0.true)

pub returns-else-used-eq0 : goal.returns-else-used-eq0
returns-else-used-eq0 c = c.is_zero_from.ensures ∙ sym (padded_last c.args.packed.now c.args.len c.requires c.if-used-eq0.false)
