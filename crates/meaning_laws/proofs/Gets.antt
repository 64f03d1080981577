-- What is got, by cases: a value of which something holds, a fault that a relation allows, or nothing to do.
use Rattle.std.proofs.Common.{◌≡◌, refl, ap}
use Rattle.stapl_meaning.specs.declared.events.RunFault.{RunFault}
use Rattle.stapl_meaning.specs.Values.{Got, Known, Faults, Stuck, then_get}

abbrev pub Gives : {A : Type 0} → (A → Type 0) → (RunFault → Type 0) → Got A → Type 0
Gives Q P (Known x) = Q x
Gives Q P (Faults k) = P k
Gives Q P Stuck = Unit {0}

-- the same where nothing is said of the value
abbrev pub Breaks : {A : Type 0} → (RunFault → Type 0) → Got A → Type 0
Breaks P g = Gives (λ _. Unit {0}) P g

pub then_gives : {A B : Type 0} (Q : A → Type 0) (R : B → Type 0) (P : RunFault → Type 0) (g : Got A) (go : A → Got B) → Gives Q P g →
    ((x : A) → g ≡ Known x → Q x → Gives R P (go x)) → Gives R P (then_get g go)
then_gives Q R P (Known x) go p q = q x refl p
then_gives Q R P (Faults k) go p q = p
then_gives Q R P Stuck go p q = tt

pub then_breaks : {A B : Type 0} (P : RunFault → Type 0) (g : Got A) (go : A → Got B) → Breaks P g →
    ((x : A) → g ≡ Known x → Breaks P (go x)) → Breaks P (then_get g go)
then_breaks P g go p q = then_gives (λ _. Unit {0}) (λ _. Unit {0}) P g go p (λ x e _. q x e)

-- another relation that allows each of these faults
pub gives_more : {A : Type 0} (Q : A → Type 0) (P R : RunFault → Type 0) (g : Got A) → ((k : RunFault) → P k → R k) → Gives Q P g → Gives Q R g
gives_more Q P R (Known x) f p = p
gives_more Q P R (Faults k) f p = f k p
gives_more Q P R Stuck f p = tt

pub breaks_more : {A : Type 0} (P R : RunFault → Type 0) (g : Got A) → ((k : RunFault) → P k → R k) → Breaks P g → Breaks R g
breaks_more P R g f p = gives_more (λ _. Unit {0}) P R g f p

pub then_known : {A B : Type 0} {g : Got A} {x : A} (go : A → Got B) → g ≡ Known x → then_get g go ≡ go x
then_known go e = ap (λ g. then_get g go) e

pub then_faults : {A B : Type 0} {g : Got A} {k : RunFault} (go : A → Got B) → g ≡ Faults k → then_get g go ≡ Faults k
then_faults go e = ap (λ g. then_get g go) e
