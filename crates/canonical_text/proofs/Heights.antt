-- Brackets of printed statements are nested no deeper than those of each other writing of them.
use Rattle.std.proofs.Common.{◌≡◌, ℕ, ◌+◌, ◌<◌, ◌≤◌, max, zero, suc, Bool, true, false, List, [], ◌∷◌, ◌++◌, inl, inr, refl, sym, ap, subst, ◌∙◌, arith, append_assoc}
use Rattle.std.specs.Prelude.{if◌then◌else◌}
use Rattle.std.proofs.lemmas.Bool.{cases_lt}
use Rattle.stapl_syntax.specs.Symbols.{Symbol}
use Rattle.canonical_text.proofs.Kept.{weight-append}
use Rattle.canonical_text.specs.Printable.{opens, closes, one_if, openings, closings, OpensMany}

-- ---- heights: how many brackets are open

abbrev pub lower : ℕ → ℕ
lower zero = zero
lower (suc h) = h

-- how many are open after a symbol
abbrev pub height : ℕ → Symbol → ℕ
height h t = if opens t then suc h else if closes t then lower h else h

-- from one height to another, never above d, where each closing bracket closes one
abbrev pub Walk : ℕ → ℕ → List Symbol → ℕ → Type 0
Walk d h [] k = h ≡ k
Walk d h (t ∷ s) k = (closes t ≡ true → 0 < h) × (height h t ≤ d) × Walk d (height h t) s k

pub walk_on : (d h m k : ℕ) (a b : List Symbol) → Walk d h a m → Walk d m b k → Walk d h (a ++ b) k
walk_on d h m k [] b w v = subst (λ (j : ℕ). Walk d j b k) (sym w) v
walk_on d h m k (t ∷ a) b w v = (w.0, w.1, walk_on d (height h t) m k a b w.2 v)

-- the walk after a front
record AfterPart (d : ℕ) (s : List Symbol) (k : ℕ) : Type 0 where
  from : ℕ
  within : from ≤ d
  walk : Walk d from s k

after : (d h k : ℕ) (a b : List Symbol) → h ≤ d → Walk d h (a ++ b) k → AfterPart d b k
after d h k [] b le w = record { from = h; within = le; walk = w }
after d h k (t ∷ a) b le w = after d (height h t) k a b w.1 w.2

one_step : (o c : Bool) (d h a b : ℕ) → (c ≡ true → 0 < h) → a + (if o then suc h else if c then lower h else h) ≤ b + d →
    one_if o + a + h ≤ one_if c + b + d
one_step true c d h a b closed le = omega arith
one_step false true d zero a b closed le = absurd (omega (arith, closed refl))
one_step false true d (suc h) a b closed le = omega arith
one_step false false d h a b closed le = omega arith

run_bound : (d h k : ℕ) (run rest : List Symbol) → h ≤ d → Walk d h (run ++ rest) k → openings run + h ≤ closings run + d
run_bound d h k [] rest le w = omega arith
run_bound d h k (t ∷ run) rest le w =
    let more = run_bound d (height h t) k run rest w.1 w.2 in
    let here = one_step (opens t) (closes t) d h (openings run) (closings run) w.0 more in
    omega (arith, here)

-- then the walk goes above 32
pub goes_high : (d k : ℕ) (s : List Symbol) → Walk d 0 s k → OpensMany s → 32 < d
goes_high d k s w many =
    let later = after d 0 k many.front (many.run ++ many.rest) (omega arith) (subst (λ (v : List Symbol). Walk d 0 v k) many.parts w) in
    let bound = run_bound d later.from k many.run many.rest later.within later.walk in
    omega (arith, bound, many.deep)

-- ---- a writing that reaches a depth

pub record Reaches (d : ℕ) (s : List Symbol) : Type 0 where
  pub front : List Symbol
  pub rest : List Symbol
  pub parts : s ≡ front ++ rest
  pub height : closings front + d ≤ openings front

pub many_by_depth : (d : ℕ) (s : List Symbol) → 32 < d → Reaches d s → OpensMany s
many_by_depth d s lt r = record {
  front = [];
  run = r.front;
  rest = r.rest;
  parts = r.parts;
  deep = omega (arith, r.height);
}

pub reaches_none : (s : List Symbol) → Reaches 0 s
reaches_none s = record { front = []; rest = s; parts = refl; height = omega arith }

pub reaches_less : (d e : ℕ) (s : List Symbol) → d ≤ e → Reaches e s → Reaches d s
reaches_less d e s le r = record { front = r.front; rest = r.rest; parts = r.parts; height = omega (arith, r.height) }

pub IsBalanced : List Symbol → Type 0
IsBalanced s = openings s ≡ closings s

pub balanced_on : (a b : List Symbol) → openings a ≡ closings a → openings b ≡ closings b → openings (a ++ b) ≡ closings (a ++ b)
balanced_on a b p q = omega (arith, weight-append opens a b, weight-append closes a b)

pub reaches_left : (d : ℕ) (a b : List Symbol) → Reaches d a → Reaches d (a ++ b)
reaches_left d a b r = record {
  front = r.front;
  rest = r.rest ++ b;
  parts = ap (λ (v : List Symbol). v ++ b) r.parts ∙ append_assoc r.front r.rest b;
  height = r.height;
}

pub reaches_right : (d : ℕ) (a b : List Symbol) → openings a ≡ closings a → Reaches d b → Reaches d (a ++ b)
reaches_right d a b even r = record {
  front = a ++ r.front;
  rest = r.rest;
  parts = ap (λ (v : List Symbol). a ++ v) r.parts ∙ sym (append_assoc a r.front r.rest);
  height = omega (arith, weight-append opens a r.front, weight-append closes a r.front, r.height);
}

pub reaches_both : (d e : ℕ) (a b : List Symbol) → openings a ≡ closings a → Reaches d a → Reaches e b → Reaches (max d e) (a ++ b)
reaches_both d e a b even r q = elim (cases_lt d e) [
  | inl lt ↦ reaches_less (max d e) e (a ++ b) (omega arith) (reaches_right e a b even q)
  | inr le ↦ reaches_less (max d e) d (a ++ b) (omega arith) (reaches_left d a b r)
]

-- after one more opening bracket
pub reaches_in : (d : ℕ) (t : Symbol) (s : List Symbol) → opens t ≡ true → closes t ≡ false → Reaches d s → Reaches (suc d) (t ∷ s)
reaches_in d t s o c r = record {
  front = t ∷ r.front;
  rest = r.rest;
  parts = ap (λ (v : List Symbol). t ∷ v) r.parts;
  height = omega (arith, ap one_if o, ap one_if c, r.height);
}

-- after a symbol that is no bracket
pub reaches_past : (d : ℕ) (t : Symbol) (s : List Symbol) → opens t ≡ false → closes t ≡ false → Reaches d s → Reaches d (t ∷ s)
reaches_past d t s o c r = record {
  front = t ∷ r.front;
  rest = r.rest;
  parts = ap (λ (v : List Symbol). t ∷ v) r.parts;
  height = omega (arith, ap one_if o, ap one_if c, r.height);
}
