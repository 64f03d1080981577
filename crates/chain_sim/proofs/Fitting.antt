-- Fitting one device after another.
use Rattle.std.proofs.Common.{◌≡◌, ◌≢◌, ◌<◌, ◌≤◌, ◌+◌, ◌*◌, ℕ, suc, zero, true, not, ◌&&◌, ◌==◌, is_some, List, [], ◌∷◌, ◌++◌, map, length, take, get_or, Option, Some, None, slice_get, refl, sym, ap, ◌∙◌, subst, arith}
use Rattle.std.specs.Option.{option_map}
use Rattle.std.proofs.lemmas.List.{take_more, length-take, map-append}
use Rattle.std.proofs.lemmas.Option.{slice_get-map, slice_get_read, same_Some}
use Rattle.std.proofs.lemmas.Bool.Decides.{nat_tests}
use Rattle.dev_card.specs.declared.desc.Kind.{Kind}
use Rattle.dev_card.specs.declared.desc.Kind.TheVariants.{Plain, Regs, Flash}
use Rattle.dev_card.specs.Board.{most_devices}
use Rattle.dev_card.specs.declared.desc.Desc.{Desc}
use Rattle.dev_card.specs.Card.{Card, fresh}
use Rattle.dev_card.specs.PaddedScan.{descriptions_of}
use Rattle.dev_card.specs.Sound.{SoundCard}
use Rattle.chain_sim.specs.Places.{card_at, joined, cards_at, IsAbsent, is_absent, are_apart, is_some_place, is_chain}
use Rattle.chain_sim.specs.Rack.{IsRack, rack_kinds, kind_number, place_of, places_from, places_of}
use Rattle.chain_sim.proofs.Clocking.{cards_kept}

-- the kind that was read at a place
pub kind_read : {A : Type 0} (f : A → Kind) (xs : List A) (i : ℕ) (x : A) (k : Kind) → x ≡ get_or xs i x → i < length xs → slice_get (map f xs) i ≡ Some k → k ≡ f x
kind_read f xs i x k e h s =
    same_Some _ _ (sym s ∙ slice_get-map f xs i ∙ ap (λ o. option_map f o) (slice_get_read xs (length xs) i x refl h e))

-- devices that were just fitted have the descriptions that they were given
pub fresh_described : (ds : List Desc) → descriptions_of (map fresh ds) ≡ ds
fresh_described [] = refl
fresh_described (d ∷ ds) = ap (λ (l : List Desc). d ∷ l) (fresh_described ds)

-- The kinds of a rack.

at_next : (i : ℕ) (x y z : Kind) (ks : List Kind) (m : ℕ) → slice_get (x ∷ y ∷ z ∷ ks) (3 * suc i + m) ≡ slice_get ks (3 * i + m)
at_next i x y z ks m =
    let e : 3 * suc i + m ≡ suc (suc (suc (3 * i + m))) = omega arith in
    ap (slice_get (x ∷ y ∷ z ∷ ks)) e

pub kind_in_rack : (n i : ℕ) (k : Kind) → i < n → slice_get (rack_kinds n) (3 * i + kind_number k) ≡ Some k
unfolding rack_kinds
kind_in_rack zero i k h = absurd (omega arith)
kind_in_rack (suc n) zero Plain h = refl
kind_in_rack (suc n) zero Regs h = refl
kind_in_rack (suc n) zero Flash h = refl
kind_in_rack (suc n) (suc i) k h = at_next i Plain Regs Flash (rack_kinds n) (kind_number k) ∙ kind_in_rack n i k (omega arith)

pub kind_number_below : (k : Kind) → kind_number k < 3
kind_number_below Plain = omega arith
kind_number_below Regs = omega arith
kind_number_below Flash = omega arith

-- a device of a board finds its kind at its place
pub kind_at_place : {A : Type 0} (f : A → Kind) (start now : List A) (i place : ℕ) (d : Desc) → IsRack (map f start) → map f now ≡ map f start → i < most_devices → place ≡ place_of i d →
    slice_get (map f now) place ≡ Some d.kind
kind_at_place f start now i place d r e h p = ap (slice_get (map f now)) p ∙ ap (λ ks. slice_get ks (place_of i d)) (e ∙ r) ∙ kind_in_rack most_devices i d.kind h

-- The places of the devices.

plus_zero : (n : ℕ) → n + 0 ≡ n
plus_zero n = omega arith

plus_suc : (n m : ℕ) → n + 1 + m ≡ n + suc m
plus_suc n m = omega arith

places-push : (n : ℕ) (ds : List Desc) (d : Desc) → places_from n (ds ++ d ∷ []) ≡ places_from n ds ++ place_of (n + length ds) d ∷ []
places-push n [] d = ap (λ m. place_of m d ∷ []) (sym (plus_zero n))
places-push n (e ∷ ds) d = ap (λ ps. place_of n e ∷ ps) (places-push (n + 1) ds d ∙ ap (λ m. places_from (n + 1) ds ++ place_of m d ∷ []) (plus_suc n (length ds)))

absent_above : (n : ℕ) (ds : List Desc) (k : ℕ) → 3 * (n + length ds) ≤ k → IsAbsent k (places_from n ds)
absent_above n [] k h = tt
absent_above n (d ∷ ds) k h = let b : kind_number d.kind < 3 = kind_number_below d.kind in ((λ e. omega (arith, b, h, e)), absent_above (n + 1) ds k (omega arith))

zero_plus_front : {A : Type 0} (xs : List A) (i : ℕ) → i < length xs → 0 + length (take i xs) ≡ i
zero_plus_front xs i h = omega (arith, length-take i xs)

one_more : (descs : List Desc) (i : ℕ) (d : Desc) → i < length descs → d ≡ get_or descs i d → take (i + 1) descs ≡ take i descs ++ d ∷ []
one_more descs i d h r = take_more descs i d h ∙ ap (λ x. take i descs ++ x ∷ []) (sym r)

places_more : (descs : List Desc) (i : ℕ) (d : Desc) → i < length descs → d ≡ get_or descs i d → places_of (take (i + 1) descs) ≡ places_of (take i descs) ++ place_of i d ∷ []
places_more descs i d h r =
    ap places_of (one_more descs i d h r) ∙ places-push 0 (take i descs) d ∙ ap (λ m. places_of (take i descs) ++ place_of m d ∷ []) (zero_plus_front descs i h)

-- one more place was pushed
pub places_pushed : (descs : List Desc) (i place : ℕ) (d : Desc) (before now : List ℕ) → i < length descs → d ≡ get_or descs i d → before ≡ places_of (take i descs) → place ≡ place_of i d →
    now ≡ before ++ place ∷ [] → now ≡ places_of (take (i + 1) descs)
places_pushed descs i place d before now h r b p n = n ∙ ap (λ ps. ps ++ place ∷ []) b ∙ ap (λ m. places_of (take i descs) ++ m ∷ []) p ∙ sym (places_more descs i d h r)

-- The cards at the places.

joined_push : (o : Option Card) (os next : Option (List Card)) (cs : List Card) (c : Card) → joined o os ≡ Some cs →
    ((xs : List Card) → os ≡ Some xs → next ≡ Some (xs ++ c ∷ [])) → joined o next ≡ Some (cs ++ c ∷ [])
joined_push None os next cs c e f = cc
joined_push (Some x) None next cs c e f = cc
joined_push (Some x) (Some xs) next cs c e f = ap (joined (Some x)) (f xs refl) ∙ ap (λ ys. Some (ys ++ c ∷ [])) (same_Some _ _ e)

cards_push : (rack : List (Option SoundCard)) (ps : List ℕ) (cs : List Card) (p : ℕ) (c : Card) → cards_at rack ps ≡ Some cs → card_at rack p ≡ Some c →
    cards_at rack (ps ++ p ∷ []) ≡ Some (cs ++ c ∷ [])
cards_push rack [] cs p c e f = ap (λ o. joined o (Some [])) f ∙ ap (λ xs. Some (xs ++ c ∷ [])) (same_Some _ _ e)
cards_push rack (q ∷ qs) cs p c e f =
    joined_push (card_at rack q) (cards_at rack qs) (cards_at rack (qs ++ p ∷ [])) cs c e (λ xs g. cards_push rack qs xs p c g f)

-- one more device was fitted
pub fit_more : {A : Type 0} (f : A → Option SoundCard) (rack next : List A) (descs : List Desc) (i place : ℕ) (d : Desc) → i < length descs → d ≡ get_or descs i d → place ≡ place_of i d →
    cards_at (map f rack) (places_of (take i descs)) ≡ Some (map fresh (take i descs)) → card_at (map f next) place ≡ Some (fresh d) →
    ((k : ℕ) → k ≢ place → slice_get next k ≡ slice_get rack k) → cards_at (map f next) (places_of (take (i + 1) descs)) ≡ Some (map fresh (take (i + 1) descs))
fit_more f rack next descs i place d h r p c here others =
    let front : List Desc = take i descs in
    let absent : IsAbsent place (places_of front) = absent_above 0 front place (let e = zero_plus_front descs i h in omega (arith, e, p)) in
    let old : cards_at (map f next) (places_of front) ≡ Some (map fresh front) = cards_kept f rack next place (places_of front) absent others ∙ c in
    ap (cards_at (map f next)) (places_more descs i d h r ∙ ap (λ m. places_of front ++ m ∷ []) (sym p)) ∙ cards_push (map f next) (places_of front) (map fresh front) place (fresh d) old here
    ∙ ap Some (sym (ap (map fresh) (one_more descs i d h r) ∙ map-append fresh front (d ∷ [])))

-- The devices at other places.

absent_push : (ps : List ℕ) (p k : ℕ) → IsAbsent k (ps ++ p ∷ []) → IsAbsent k ps × (k ≢ p)
absent_push [] p k a = (tt, λ e. a.0 (sym e))
absent_push (q ∷ qs) p k a = let b = absent_push qs p k a.1 in ((a.0, b.0), b.1)

pub others_more : {A : Type 0} (start now next : List A) (descs : List Desc) (i place : ℕ) (d : Desc) → i < length descs → d ≡ get_or descs i d → place ≡ place_of i d →
    ((k : ℕ) → IsAbsent k (places_of (take i descs)) → slice_get now k ≡ slice_get start k) → ((k : ℕ) → k ≢ place → slice_get next k ≡ slice_get now k) →
    (k : ℕ) → IsAbsent k (places_of (take (i + 1) descs)) → slice_get next k ≡ slice_get start k
others_more start now next descs i place d h r p before here k a =
    let b = absent_push (places_of (take i descs)) (place_of i d) k (subst (λ ps. IsAbsent k ps) (places_more descs i d h r) a) in
    here k (λ e. b.1 (e ∙ p)) ∙ before k b.0

absent_take : (n : ℕ) (ds : List Desc) (i k : ℕ) → IsAbsent k (places_from n ds) → IsAbsent k (places_from n (take i ds))
absent_take n [] zero k a = tt
absent_take n [] (suc i) k a = tt
absent_take n (d ∷ ds) zero k a = tt
absent_take n (d ∷ ds) (suc i) k a = (a.0, absent_take (n + 1) ds i k a.1)

-- where the fitting ends early
pub others_left : {A : Type 0} (start now next : List A) (descs : List Desc) (i place : ℕ) (d : Desc) → i < length descs → d ≡ get_or descs i d → place ≡ place_of i d →
    ((k : ℕ) → IsAbsent k (places_of (take i descs)) → slice_get now k ≡ slice_get start k) → ((k : ℕ) → k ≢ place → slice_get next k ≡ slice_get now k) →
    (k : ℕ) → IsAbsent k (places_of descs) → slice_get next k ≡ slice_get start k
others_left start now next descs i place d h r p before here k a =
    others_more start now next descs i place d h r p before here k (absent_take 0 descs (i + 1) k a)

-- The places make a chain.

not_same : (p q : ℕ) → p < q → not (q == p) ≡ true
not_same p q h = grind (arith, nat_tests)

absent_below : (n : ℕ) (ds : List Desc) (p : ℕ) → p < 3 * n → is_absent p (places_from n ds) ≡ true
absent_below n [] p h = refl
absent_below n (d ∷ ds) p h =
    ap (λ b. b && is_absent p (places_from (n + 1) ds)) (not_same p (place_of n d) (omega arith)) ∙ absent_below (n + 1) ds p (omega arith)

apart_from : (n : ℕ) (ds : List Desc) → are_apart (places_from n ds) ≡ true
apart_from n [] = refl
apart_from n (d ∷ ds) =
    let below : kind_number d.kind < 3 = kind_number_below d.kind in
    ap (λ b. b && are_apart (places_from (n + 1) ds)) (absent_below (n + 1) ds (place_of n d) (omega (arith, below))) ∙ apart_from (n + 1) ds

some_place : (ds : List Desc) → 1 ≤ length ds → is_some_place (places_of ds) ≡ true
some_place [] h = absurd (omega arith)
some_place (d ∷ ds) h = refl

pub chain_of : (rack : List (Option SoundCard)) (ds : List Desc) (cs : List Card) → 1 ≤ length ds → cards_at rack (places_of ds) ≡ Some cs →
    is_chain rack (places_of ds) ≡ true
chain_of rack ds cs h e =
    ap (λ b. b && (are_apart (places_of ds) && is_some (cards_at rack (places_of ds)))) (some_place ds h)
    ∙ ap (λ b. b && is_some (cards_at rack (places_of ds))) (apart_from 0 ds) ∙ ap is_some e
