-- Variables that hold what their kinds and sizes say.
use Rattle.std.proofs.Common.{◌≡◌, ℕ, zero, suc, List, [], ◌∷◌, Option, Some, None, sym, subst}
use Rattle.std.specs.Prelude.{slice_get, slice_set}
use Rattle.stapl_meaning.specs.declared.values.Held.{Held}
use Rattle.stapl_code.specs.declared.raw.VarDef.{VarDef}
use Rattle.stapl_code.specs.Safe.{Fits, AllFit}

-- a variable beside what it holds
abbrev pub FitAt : Option VarDef → Option Held → Type 0
FitAt None None = Unit {0}
FitAt (Some v) (Some h) = Fits v h
FitAt _ _ = ⊥

pub fit_at : (vs : List VarDef) (hs : List Held) (n : ℕ) → AllFit vs hs → FitAt (slice_get vs n) (slice_get hs n)
fit_at [] [] n f = tt
fit_at (v ∷ vs) (h ∷ hs) zero f = f.0
fit_at (v ∷ vs) (h ∷ hs) (suc n) f = fit_at vs hs n f.1
fit_at _ _ n f = absurd f

pub fit_set : (vs : List VarDef) (hs : List Held) (n : ℕ) (v : VarDef) (h : Held) → AllFit vs hs → slice_get vs n ≡ Some v →
    Fits v h → AllFit vs (slice_set hs n h)
fit_set (u ∷ us) (g ∷ gs) zero v h f e k = let same : u ≡ v = cc in (subst (λ w. Fits w h) (sym same) k, f.1)
fit_set (u ∷ us) (g ∷ gs) (suc n) v h f e k = (f.0, fit_set us gs n v h f.1 e k)
fit_set [] [] n v h f e k = tt
fit_set _ _ n v h f e k = absurd f
