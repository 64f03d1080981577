-- Operands that were put on one after another are taken off again.
use Rattle.std.proofs.Common.{◌≡◌, ℕ, suc, ◌+◌, List, [], ◌∷◌, ◌++◌, length, Some, ap, ◌∙◌, arith}
use Rattle.std.proofs.lemmas.List.{append-nil}
use Rattle.stapl_meaning.specs.declared.values.Value.{Value}
use Rattle.stapl_code.specs.Machine.{taken, taken_onto}

-- operands with these values put on, the last one on top
abbrev pub onto : List Value → List Value → List Value
onto [] ops = ops
onto (v ∷ vs) ops = onto vs (v ∷ ops)

taken_more : (vs : List Value) (n : ℕ) (done ops : List Value) →
    taken_onto (length vs + n) done (onto vs ops) ≡ taken_onto n (vs ++ done) ops
taken_more [] n done ops = ap (λ m. taken_onto m done ops) (omega arith)
taken_more (v ∷ vs) n done ops =
    let e : length (v ∷ vs) + n ≡ length vs + suc n = omega arith in
    ap (λ m. taken_onto m done (onto vs (v ∷ ops))) e ∙ taken_more vs (suc n) done (v ∷ ops)

pub taken_back : (vs ops : List Value) → taken (length vs) (onto vs ops) ≡ Some (vs, ops)
taken_back vs ops =
    let e : length vs ≡ length vs + 0 = omega arith in
    ap (λ m. taken m (onto vs ops)) e ∙ taken_more vs 0 [] ops ∙ ap (λ l. Some (l, ops)) (append-nil vs)
