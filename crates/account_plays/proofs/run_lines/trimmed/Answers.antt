use Rattle.std.proofs.Common.{refl, arith, ◌+◌}
use Rattle.account_plays.proofs.RunTextLemmas.{trimmed_bits}
use Rattle.account_plays.proofs.run_lines.trimmed.Goals as goal

pub returns : goal.returns
returns c =
    let front = c.min-front.result in
    record {
      within = omega (arith, c.min-front.ensures, c.saturating_sub.ensures);
      same = refl;
      bits = trimmed_bits c.args.at (record { ir = c.args.at.ir; low = c.args.at.low + front; count = c.saturating_sub.result }) c.args.before c.args.after front
          c.min-front.ensures refl c.saturating_sub.ensures;
    }
