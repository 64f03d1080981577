use Rattle.std.proofs.Common.{Result, Ok, Err, IfOk, rules}
use Rattle.tool_io.proofs.std_edge.FileShelfShelf.TheImpl.Goals as goal

-- of the bytes nothing is told
nothing_told : {T E : Type 0} (result : Result T E) → IfOk result (λ _. Unit {0})
nothing_told (Ok n) = tt
nothing_told (Err e) = tt

pub read-tells : goal.read-tells
read-tells g c = search (rules, nothing_told)
