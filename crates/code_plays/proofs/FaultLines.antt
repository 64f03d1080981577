-- The line of a fault, as it is put.
use Rattle.std.proofs.Common.{◌≡◌, ℕ, List, [], ◌∷◌, ◌++◌, Option, codes, pos, append_assoc, sym, ap, subst, ◌∙◌}
use Rattle.std.specs.Fmt.{signed_decimal}
use Rattle.tool_io.specs.Lines.{Puts, PutsBroken}
use Rattle.tool_io.specs.declared.lines.Lines.{Lines}
use Rattle.tool_io.specs.declared.outside.Sink.{Ghosts as SinkOf}
use Rattle.stapl_meaning.specs.declared.events.RunFault.{RunFault}
use Rattle.stapl_meaning.specs.declared.events.Ending.TheVariants.{Fault}
use Rattle.stapl_meaning.specs.Texts.{fault_name, ending_line}
use Rattle.tool_io.specs.Texts.{number_line}

-- its beginning with the name of the fault, and then the piece
abbrev pub parts : RunFault → ℕ → List ℕ
parts k piece = (codes "E fault " ++ fault_name k) ++ number_line (codes " at ") (pos piece)

line_is : (k : RunFault) (piece : ℕ) → ending_line (Fault k piece) ≡ parts k piece
line_is k piece =
    let name : List ℕ = codes "E fault " ++ fault_name k in
    let number : List ℕ = signed_decimal (pos piece) in
    ap (λ l. l ++ 10 ∷ []) (append_assoc name (codes " at ") number) ∙ append_assoc name (codes " at " ++ number) (10 ∷ [])

pub puts_line : {K : Type 0} {sink : SinkOf K} {a b : Lines K} (k : RunFault) (piece : ℕ) →
    Puts sink a (parts k piece) b → Puts sink a (ending_line (Fault k piece)) b
puts_line {sink = sink} {a = a} {b = b} k piece = subst (λ (text : List ℕ). Puts sink a text b) (sym (line_is k piece))

pub puts_line_front : {K : Type 0} {sink : SinkOf K} {a b : Lines K} (k : RunFault) (piece : ℕ) →
    PutsBroken sink a (parts k piece) b → PutsBroken sink a (ending_line (Fault k piece)) b
puts_line_front {sink = sink} {a = a} {b = b} k piece = subst (λ (text : List ℕ). PutsBroken sink a text b) (sym (line_is k piece))
