use Rattle.std.proofs.Common.{◌≡◌, ℕ, length, replicate, sym, ap, ◌∙◌}
use Rattle.stapl_meaning.specs.declared.values.ValueKind.TheVariants.{Int}
use Rattle.stapl_code.specs.Machine.{Of, export_slots}
use Rattle.stapl_code.specs.Kinds.{all_off}
use Rattle.code_kinds.proofs.TakenIntegers.{export_integers}
use Rattle.code_kinds.proofs.kinds.take_export.Goals as goal

pub returns-in_default : goal.returns-in_default
returns-in_default c = λ variables.
    let part = c.args.part in
    let all : export_slots part ≡ replicate (length (export_slots part)) (Of Int) = export_integers part c.in_default.not-Bit in
    let count : export_slots part ≡ replicate c.export_takes.result (Of Int) = all ∙ ap (λ (n : ℕ). replicate n (Of Int)) (sym c.export_takes.ensures) in
    ap (λ l. all_off variables l c.args.kinds.now) count ∙ c.take_integers.ensures variables
