use Rattle.std.proofs.Common.{◌≡◌, ◌≤◌, false, ℕ, length, arith, refl}
use Rattle.std.specs.Prelude.{◌==◌}
use Rattle.std.proofs.lemmas.Bool.Decides.{nat_tests}
use Rattle.code_ranges.proofs.ranges.are_procedures.Goals as goal

some_there : (n : ℕ) → false ≡ (n == 0) → 1 ≤ n
some_there n e = grind (arith, nat_tests)

pub returns : goal.returns
returns c =
    let empty = c.if-is_empty.ensures in
    let named = c.if-not-have_free_names.ensures in
    let order = c.are_in_order.ensures in
    (λ t. record { some = some_there (length c.args.procedures.now) empty; named = named.0 refl; in_order = order.0 t }, λ p. order.1 p.in_order)
