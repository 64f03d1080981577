-- Racks with a device of each kind for each device of a board.
use Rattle.std.proofs.Common.{◌≡◌, ◌<◌, ◌+◌, ◌*◌, ℕ, zero, suc, List, [], ◌∷◌, ◌++◌, map, take, length, get_or, slice_get, refl, sym, ap, ◌∙◌, add-one, arith}
use Rattle.std.proofs.lemmas.List.{map_more, length-map}
use Rattle.dev_card.specs.declared.desc.Kind.{Kind}
use Rattle.dev_card.specs.declared.desc.Kind.TheVariants.{Plain, Regs, Flash}
use Rattle.dev_card.specs.Board.{most_devices}
use Rattle.dev_card.specs.declared.desc.Desc.{Desc}
use Rattle.chain_sim.specs.Rack.{rack_kinds, kind_number, place_of, IsRack}
use Rattle.chain_sim.proofs.Fitting.{kind_in_rack, kind_read, kind_number_below}

rack_kinds-push : (n : ℕ) → rack_kinds n ++ (Plain ∷ Regs ∷ Flash ∷ []) ≡ rack_kinds (suc n)
unfolding rack_kinds
rack_kinds-push zero = refl
rack_kinds-push (suc n) = ap (λ ks. Plain ∷ Regs ∷ Flash ∷ ks) (rack_kinds-push n)

one_read : {A : Type 0} (f : A → Kind) (xs : List A) (i : ℕ) (x : A) (k : Kind) → i < length xs → x ≡ get_or xs i x → f x ≡ k → map f (take (i + 1) xs) ≡ map f (take i xs) ++ k ∷ []
one_read f xs i x k h r e = map_more f xs i x h ∙ ap (λ y. map f (take i xs) ++ f y ∷ []) (sym r) ∙ ap (λ z. map f (take i xs) ++ z ∷ []) e

regrouped : (ks : List Kind) → ks ++ Plain ∷ [] ++ Regs ∷ [] ++ Flash ∷ [] ≡ ks ++ (Plain ∷ Regs ∷ Flash ∷ [])
regrouped [] = refl
regrouped (k ∷ ks) = ap (λ l. k ∷ l) (regrouped ks)

pub three_more : {A : Type 0} (f : A → Kind) (xs : List A) (p : ℕ) (x y z : A) → 3 * p + 2 < length xs → x ≡ get_or xs (3 * p) x → y ≡ get_or xs (3 * p + 1) y → z ≡ get_or xs (3 * p + 2) z →
    f x ≡ Plain → f y ≡ Regs → f z ≡ Flash → map f (take (3 * p) xs) ≡ rack_kinds p → map f (take (3 * (p + 1)) xs) ≡ rack_kinds (p + 1)
three_more f xs p x y z h a b c d e g m =
    let last : 3 * (p + 1) ≡ 3 * p + 2 + 1 = omega arith in
    let third : 3 * p + 2 ≡ 3 * p + 1 + 1 = omega arith in
    ap (λ n. map f (take n xs)) last ∙ one_read f xs (3 * p + 2) z Flash h c g
    ∙ ap (λ n. map f (take n xs) ++ Flash ∷ []) third ∙ ap (λ l. l ++ Flash ∷ []) (one_read f xs (3 * p + 1) y Regs (omega arith) b e)
    ∙ ap (λ l. l ++ Regs ∷ [] ++ Flash ∷ []) (one_read f xs (3 * p) x Plain (omega arith) a d)
    ∙ ap (λ l. l ++ Plain ∷ [] ++ Regs ∷ [] ++ Flash ∷ []) m ∙ regrouped (rack_kinds p) ∙ rack_kinds-push p ∙ ap rack_kinds (sym (add-one p))

-- how many devices a rack has, and one for none
kinds_counted : (n : ℕ) → length (rack_kinds n) ≡ 3 * n
unfolding rack_kinds
kinds_counted zero = refl
kinds_counted (suc n) = omega (arith, kinds_counted n)

pub rack_counted : {A : Type 0} (f : A → Kind) (xs : List A) → IsRack (map f xs) → length xs ≡ 3 * most_devices
rack_counted f xs rack = sym (length-map xs f) ∙ ap (λ ks. length ks) rack ∙ kinds_counted most_devices

-- the place of a device of a board is inside
pub place_inside : {A : Type 0} (f : A → Kind) (start now : List A) (i place : ℕ) (d : Desc) → IsRack (map f start) → map f now ≡ map f start → i < most_devices →
    place ≡ place_of i d → place < length now
place_inside f start now i place d rack same lt at =
    let below = kind_number_below d.kind in
    let all : length now ≡ 3 * most_devices = sym (length-map now f) ∙ ap (λ ks. length ks) same ∙ length-map start f ∙ rack_counted f start rack in
    omega (arith, at, below, all)

pub none_yet : {A : Type 0} (f : A → Kind) (xs : List A) → map f (take (3 * 0) xs) ≡ rack_kinds 0
unfolding rack_kinds
none_yet f xs = refl

-- what a rack has at each place
pub rack_has : {A : Type 0} (f : A → Kind) (xs : List A) (p i : ℕ) (x : A) (k : Kind) → IsRack (map f xs) → p < most_devices → i ≡ 3 * p + kind_number k → i < length xs →
    x ≡ get_or xs i x → f x ≡ k
rack_has f xs p i x k rack lt at h e =
    sym (kind_read f xs i x k e h (ap (slice_get (map f xs)) at ∙ ap (λ ks. slice_get ks (3 * p + kind_number k)) rack ∙ kind_in_rack most_devices p k lt))
