-- The least entry after one more procedure.
use Rattle.std.proofs.Common.{◌≡◌, ◌+◌, ℕ, List, [], ◌∷◌, ◌++◌, refl}
use Rattle.std.specs.Prelude.{fold}
use Rattle.stapl_code.specs.declared.raw.ProcDef.{ProcDef}
use Rattle.code_files.specs.ReadFiles.{least_entry}

last_counts : (least : ℕ) (xs : List ProcDef) (p : ProcDef) → fold (λ n (q : ProcDef). q.entry + 1) least (xs ++ p ∷ []) ≡ p.entry + 1
last_counts least [] p = refl
last_counts least (x ∷ xs) p = last_counts (x.entry + 1) xs p

pub least_push : (xs : List ProcDef) (p : ProcDef) → least_entry (xs ++ p ∷ []) ≡ p.entry + 1
least_push xs p = last_counts 0 xs p
