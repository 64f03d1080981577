-- One clock of the devices at some places, one after another.
use Rattle.std.proofs.Common.{◌≡◌, ◌≢◌, ◌<◌, ℕ, suc, zero, Bool, true, false, not, ◌==◌, is_some, List, [], ◌∷◌, map, length, set, get_or, Option, Some, None, IsSome, slice_get, refl, sym, ap, ◌∙◌, subst, arith}
use Rattle.std.specs.Option.{option_map}
use Rattle.std.proofs.lemmas.Option.{slice_get-map, slice_get_read, same_Some}
use Rattle.std.proofs.lemmas.Bool.{false≢true}
use Rattle.std.proofs.lemmas.Bool.Decides.{nat_tests}
use Rattle.std.proofs.Math.Seq.{map-set_same}
use Rattle.dev_card.specs.Card.{Card, step, tdo_of}
use Rattle.dev_card.specs.Board.{board_tdo, board_step}
use Rattle.dev_card.specs.Sound.{SoundCard, card_in}
use Rattle.scan_paths.specs.Cables.{whole_if, whole}
use Rattle.chain_sim.specs.Places.{inside_or_unfitted, card_at, joined, cards_at, IsAbsent, AreApart, is_absent, are_apart, is_some_place, is_chain}
use Rattle.tap_states.proofs.Shortest.{both_first, both_second}

-- The device at one place of a list.

-- the element that was read at a place
pub card_read : {A : Type 0} (f : A → Option SoundCard) (xs : List A) (i : ℕ) (x : A) → i < length xs → x ≡ get_or xs i x →
    card_at (map f xs) i ≡ card_in (f x)
card_read f xs i x h e =
    ap (λ o. card_in (inside_or_unfitted o)) (slice_get-map f xs i ∙ ap (λ o. option_map f o) (slice_get_read xs (length xs) i x refl h e))

-- the element that was put there
pub card_put : {A : Type 0} (f : A → Option SoundCard) (xs : List A) (i : ℕ) (y : A) → i < length xs → card_at (map f (set xs i y)) i ≡ card_in (f y)
card_put f [] i y h = absurd (omega arith)
card_put f (x ∷ xs) zero y h = refl
card_put f (x ∷ xs) (suc i) y h = card_put f xs i y (omega arith)

-- the card at a place after a change of it
pub card_changed : {A : Type 0} (f : A → Option SoundCard) (xs : List A) (i : ℕ) (x y : A) (change : Card → Card) → i < length xs → x ≡ get_or xs i x →
    card_in (f y) ≡ option_map change (card_in (f x)) → card_at (map f (set xs i y)) i ≡ option_map change (card_at (map f xs) i)
card_changed f xs i x y change h e s = card_put f xs i y h ∙ s ∙ ap (λ o. option_map change o) (sym (card_read f xs i x h e))

-- what the change does not touch
pub kinds_same : {A B : Type 0} (f : A → B) (xs : List A) (i : ℕ) (x y : A) → x ≡ get_or xs i x → f y ≡ f x → map f (set xs i y) ≡ map f xs
kinds_same f xs i x y e s = map-set_same f xs i y x (s ∙ ap f e)

pub others_same : {A : Type 0} (xs : List A) (i : ℕ) (y : A) (k : ℕ) → k ≢ i → slice_get (set xs i y) k ≡ slice_get xs k
others_same [] i y k n = refl
others_same (x ∷ xs) zero y zero n = absurd (n refl)
others_same (x ∷ xs) zero y (suc k) n = refl
others_same (x ∷ xs) (suc i) y zero n = refl
others_same (x ∷ xs) (suc i) y (suc k) n = others_same xs i y k (λ e. n (ap suc e))

-- the card at a place that was kept
pub card_kept : {A : Type 0} (f : A → Option SoundCard) (xs ys : List A) (p : ℕ) → slice_get ys p ≡ slice_get xs p → card_at (map f ys) p ≡ card_at (map f xs) p
card_kept f xs ys p e =
    ap (λ o. card_in (inside_or_unfitted o)) (slice_get-map f ys p ∙ ap (λ o. option_map f o) e ∙ sym (slice_get-map f xs p))

-- the cards at places without the one that was changed
pub cards_kept : {A : Type 0} (f : A → Option SoundCard) (xs ys : List A) (p : ℕ) (ps : List ℕ) → IsAbsent p ps →
    ((k : ℕ) → k ≢ p → slice_get ys k ≡ slice_get xs k) → cards_at (map f ys) ps ≡ cards_at (map f xs) ps
cards_kept f xs ys p [] h s = refl
cards_kept f xs ys p (q ∷ qs) h s =
    ap (λ o. joined o (cards_at (map f ys) qs)) (card_kept f xs ys q (s q h.0)) ∙ ap (joined (card_at (map f xs) q)) (cards_kept f xs ys p qs h.1 s)

-- The first place and the rest.

some_is : {X : Type 0} (x : X) → IsSome (Some x)
some_is x = refl

pub first_is_some : (o : Option Card) (os : Option (List Card)) → IsSome (joined o os) → IsSome o
first_is_some None os h = h
first_is_some (Some c) os h = some_is c

pub rest_is_some : (o : Option Card) (os : Option (List Card)) → IsSome (joined o os) → IsSome os
rest_is_some None os h = absurd (false≢true h)
rest_is_some (Some c) None h = h
rest_is_some (Some c) (Some cs) h = some_is cs

joined_tdo : (o : Option Card) (os : Option (List Card)) (tdi bit : Bool) → IsSome (joined o os) → option_map tdo_of o ≡ Some bit →
    option_map (λ cs. board_tdo cs tdi) (joined o os) ≡ Some bit
joined_tdo None os tdi bit h e = absurd (false≢true h)
joined_tdo (Some c) None tdi bit h e = absurd (false≢true h)
joined_tdo (Some c) (Some cs) tdi bit h e = e

-- the TDO of the first device is that of the board
pub first_seen : (rack : List (Option SoundCard)) (places : List ℕ) (p : ℕ) (ps : List ℕ) (tdi bit : Bool) → places ≡ p ∷ ps → IsSome (cards_at rack places) →
    option_map tdo_of (card_at rack p) ≡ Some bit → option_map (λ cs. board_tdo cs tdi) (cards_at rack places) ≡ Some bit
first_seen rack places p ps tdi bit e s d =
    let g : IsSome (cards_at rack (p ∷ ps)) = subst (λ z. IsSome (cards_at rack z)) e s in
    ap (λ z. option_map (λ cs. board_tdo cs tdi) (cards_at rack z)) e ∙ joined_tdo (card_at rack p) (cards_at rack ps) tdi bit g d

step_joined : (o : Option Card) (os : Option (List Card)) (tms tdi bit : Bool) → IsSome (joined o os) → option_map (λ cs. board_tdo cs tdi) os ≡ Some bit →
    joined (option_map (λ c. step c tms bit) o) (option_map (λ cs. board_step cs tms tdi) os) ≡ option_map (λ cs. board_step cs tms tdi) (joined o os)
step_joined None os tms tdi bit h e = absurd (false≢true h)
step_joined (Some c) None tms tdi bit h e = absurd (false≢true h)
step_joined (Some c) (Some cs) tms tdi bit h e = ap (λ b. Some (step c tms b ∷ board_step cs tms tdi)) (sym (same_Some _ _ e))

-- after the first device was clocked the others are as they were
pub rest_fitted : {A : Type 0} (f : A → Option SoundCard) (rack next : List A) (places : List ℕ) (p : ℕ) (ps : List ℕ) → places ≡ p ∷ ps → AreApart places →
    IsSome (cards_at (map f rack) places) → ((k : ℕ) → k ≢ p → slice_get next k ≡ slice_get rack k) → IsSome (cards_at (map f next) ps) × AreApart ps
rest_fitted f rack next places p ps e a s others =
    let b : AreApart (p ∷ ps) = subst AreApart e a in
    let g : IsSome (cards_at (map f rack) (p ∷ ps)) = subst (λ z. IsSome (cards_at (map f rack) z)) e s in
    (subst (λ o. IsSome o) (sym (cards_kept f rack next p ps b.0 others)) (rest_is_some (card_at (map f rack) p) (cards_at (map f rack) ps) g), b.1)

-- the first device was clocked, and then the others
pub all_clocked : {A : Type 0} (f : A → Option SoundCard) (rack next last : List A) (places : List ℕ) (p : ℕ) (ps : List ℕ) (tms tdi bit : Bool) →
    places ≡ p ∷ ps → AreApart places → IsSome (cards_at (map f rack) places) → ((k : ℕ) → k ≢ p → slice_get next k ≡ slice_get rack k) →
    card_at (map f next) p ≡ option_map (λ c. step c tms bit) (card_at (map f rack) p) →
    option_map (λ cs. board_tdo cs tdi) (cards_at (map f rack) ps) ≡ Some bit →
    cards_at (map f last) ps ≡ option_map (λ cs. board_step cs tms tdi) (cards_at (map f next) ps) →
    ((k : ℕ) → IsAbsent k ps → slice_get last k ≡ slice_get next k) →
    cards_at (map f last) places ≡ option_map (λ cs. board_step cs tms tdi) (cards_at (map f rack) places)
all_clocked f rack next last places p ps tms tdi bit e a s others n d l stay =
    let b : AreApart (p ∷ ps) = subst AreApart e a in
    let g : IsSome (cards_at (map f rack) (p ∷ ps)) = subst (λ z. IsSome (cards_at (map f rack) z)) e s in
    let x : Option Card = option_map (λ c. step c tms bit) (card_at (map f rack) p) in
    let here : card_at (map f last) p ≡ x = card_kept f next last p (stay p b.0) ∙ n in
    let there : cards_at (map f last) ps ≡ option_map (λ cs. board_step cs tms tdi) (cards_at (map f rack) ps) =
    l ∙ ap (λ o. option_map (λ cs. board_step cs tms tdi) o) (cards_kept f rack next p ps b.0 others) in
    let both : cards_at (map f last) (p ∷ ps) ≡ option_map (λ cs. board_step cs tms tdi) (cards_at (map f rack) (p ∷ ps)) =
    ap (λ o. joined o (cards_at (map f last) ps)) here ∙ ap (joined x) there
    ∙ step_joined (card_at (map f rack) p) (cards_at (map f rack) ps) tms tdi bit g d in
    subst (λ z. cards_at (map f last) z ≡ option_map (λ cs. board_step cs tms tdi) (cards_at (map f rack) z)) (sym e) both

-- The places of a chain differ.

absent_from_test : (p : ℕ) (ps : List ℕ) → is_absent p ps ≡ true → IsAbsent p ps
absent_from_test p [] h = tt
absent_from_test p (q ∷ qs) h =
    ((λ e. (let k : not (q == p) ≡ true = both_first _ (is_absent p qs) h in grind (arith, nat_tests))), absent_from_test p qs (both_second (not (q == p)) _ h))

apart_from_test : (ps : List ℕ) → are_apart ps ≡ true → AreApart ps
apart_from_test [] h = tt
apart_from_test (p ∷ ps) h = (absent_from_test p ps (both_first _ (are_apart ps) h), apart_from_test ps (both_second (is_absent p ps) _ h))

chain_if_whole : (b : Bool) → whole_if b ≡ whole → b ≡ true
chain_if_whole true h = refl
chain_if_whole false h = cc

pub apart_if_whole : (rack : List (Option SoundCard)) (places : List ℕ) → whole_if (is_chain rack places) ≡ whole → AreApart places
apart_if_whole rack places h =
    let c : is_chain rack places ≡ true = chain_if_whole (is_chain rack places) h in
    apart_from_test places (both_first _ (is_some (cards_at rack places)) (both_second (is_some_place places) _ c))
