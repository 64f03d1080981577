use Rattle.std.proofs.Common.{◌≡◌, ℕ, length, replicate, sym, ap, ◌∙◌}
use Rattle.stapl_meaning.specs.declared.values.ValueKind.TheVariants.{Int}
use Rattle.stapl_code.specs.Machine.{Of, takes}
use Rattle.stapl_code.specs.Kinds.{all_off}
use Rattle.code_kinds.proofs.TakenIntegers.{takes_integers}
use Rattle.code_kinds.proofs.kinds.take_operands.Goals as goal

pub returns-in_default : goal.returns-in_default
returns-in_default c =
    let w = c.in_default in
    let i = c.args.instr.now in
    let all : takes i ≡ replicate (length (takes i)) (Of Int) = takes_integers i w.not-Store w.not-StoreAt w.not-Unary w.not-Binary w.not-PushRecord w.not-JumpIfZero w.not-Print w.not-Export in
    let count : takes i ≡ replicate c.operands_taken.result (Of Int) = all ∙ ap (λ (n : ℕ). replicate n (Of Int)) (sym c.operands_taken.ensures) in
    ap (λ l. all_off c.args.variables.now l c.args.kinds.now) count ∙ c.take_integers.ensures c.args.variables.now
