-- Words that fit the places of a shape.
use Rattle.std.proofs.Common.{◌≡◌, ◌<◌, ◌+◌, ℕ, zero, suc, List, [], ◌∷◌, length, drop, get_or, refl, sym, ap, ◌∙◌, Bool, true, false, arith, add-one, drop-cons}
use Rattle.std.specs.Prelude.{◌&&◌}
use Rattle.std.proofs.Common.{Bor}
use Rattle.std.proofs.lemmas.List.{get_or-map, length-map}
use Rattle.std.proofs.lemmas.Bool.{and_right, and_parts, false≢true}
use Rattle.board_text.specs.declared.shapes.Place.{Place}
use Rattle.board_text.specs.Lines.{texts}
use Rattle.board_text.specs.Shapes.{is_spelled, fits}

other_length : (ps : List Place) (ws : List (List ℕ)) → (length ps ≡ length ws → ⊥) → fits ps ws ≡ false
other_length [] [] n = absurd (n refl)
other_length [] (w ∷ ws) n = refl
other_length (p ∷ ps) [] n = refl
other_length (p ∷ ps) (w ∷ ws) n = and_right (is_spelled p w) (fits ps ws) (other_length ps ws (λ e. n (ap suc e)))

-- the places from one on, and from the next
from_place : (ps : List Place) (ws : List (List ℕ)) (i : ℕ) (p : Place) (w : List ℕ) → i < length ps → i < length ws →
    fits (drop i ps) (drop i ws) ≡ (is_spelled (get_or ps i p) (get_or ws i w) && fits (drop (i + 1) ps) (drop (i + 1) ws))
from_place ps ws i p w inside within =
    ap (λ (x : List Place). fits x (drop i ws)) (drop-cons ps i p inside) ∙ ap (λ (y : List (List ℕ)). fits (get_or ps i p ∷ drop (suc i) ps) y) (drop-cons ws i w within)
    ∙ ap (λ (k : ℕ). is_spelled (get_or ps i p) (get_or ws i w) && fits (drop k ps) (drop k ws)) (sym (add-one i))

pub text_at : (words : List (Bor (List ℕ))) (i : ℕ) (w : Bor (List ℕ)) → i < length words → get_or (texts words) i [] ≡ (get_or words i w).now
text_at words i w lt = get_or-map (λ (x : Bor (List ℕ)). x.now) words i w [] lt

next_place : (ps : List Place) (words : List (Bor (List ℕ))) (i : ℕ) (p : Place) (w : Bor (List ℕ)) (spelled : Bool) → i < length ps → length ps ≡ length words →
    is_spelled (get_or ps i p) (get_or words i w).now ≡ spelled → fits (drop i ps) (drop i (texts words)) ≡ (spelled && fits (drop (i + 1) ps) (drop (i + 1) (texts words)))
next_place ps words i p w spelled lt same e =
    from_place ps (texts words) i p [] lt (omega (arith, length-map words (λ (x : Bor (List ℕ)). x.now)))
    ∙ ap (λ (x : List ℕ). is_spelled (get_or ps i p) x && fits (drop (i + 1) ps) (drop (i + 1) (texts words))) (text_at words i w (omega arith))
    ∙ ap (λ (b : Bool). b && fits (drop (i + 1) ps) (drop (i + 1) (texts words))) e

pub place_passed : (ps : List Place) (words : List (Bor (List ℕ))) (i : ℕ) (p : Place) (w : Bor (List ℕ)) → i < length ps → length ps ≡ length words →
    is_spelled (get_or ps i p) (get_or words i w).now ≡ true → fits (drop i ps) (drop i (texts words)) ≡ fits (drop (i + 1) ps) (drop (i + 1) (texts words))
place_passed ps words i p w lt same e = next_place ps words i p w true lt same e

pub place_failed : (ps : List Place) (words : List (Bor (List ℕ))) (i : ℕ) (p : Place) (w : Bor (List ℕ)) → i < length ps → length ps ≡ length words →
    is_spelled (get_or ps i p) (get_or words i w).now ≡ false → fits (drop i ps) (drop i (texts words)) ≡ false
place_failed ps words i p w lt same e = next_place ps words i p w false lt same e

pub more_or_fewer : (ps : List Place) (words : List (Bor (List ℕ))) → (length ps ≡ length words → ⊥) → false ≡ fits ps (texts words)
more_or_fewer ps words n = sym (other_length ps (texts words) (λ e. n (e ∙ length-map words (λ (x : Bor (List ℕ)). x.now))))

-- the words after some places fit the places after
pub fits-drop : (k : ℕ) (ps : List Place) (ws : List (List ℕ)) → fits ps ws ≡ true → fits (drop k ps) (drop k ws) ≡ true
fits-drop zero ps ws e = e
fits-drop (suc k) [] [] e = refl
fits-drop (suc k) [] (w ∷ ws) e = absurd (false≢true e)
fits-drop (suc k) (p ∷ ps) [] e = absurd (false≢true e)
fits-drop (suc k) (p ∷ ps) (w ∷ ws) e = fits-drop k ps ws (and_parts (is_spelled p w) _ e).1

pub fits-length : (ps : List Place) (ws : List (List ℕ)) → fits ps ws ≡ true → length ws ≡ length ps
fits-length [] [] e = refl
fits-length [] (w ∷ ws) e = absurd (false≢true e)
fits-length (p ∷ ps) [] e = absurd (false≢true e)
fits-length (p ∷ ps) (w ∷ ws) e = ap suc (fits-length ps ws (and_parts (is_spelled p w) _ e).1)

-- a word is spelled as its place wants
pub spelled_at : (ps : List Place) (ws : List (List ℕ)) (k : ℕ) (p : Place) (w : List ℕ) → fits ps ws ≡ true → k < length ps → is_spelled (get_or ps k p) (get_or ws k w) ≡ true
spelled_at [] ws k p w e lt = absurd (omega arith)
spelled_at (x ∷ ps) [] k p w e lt = absurd (false≢true e)
spelled_at (x ∷ ps) (y ∷ ws) zero p w e lt = (and_parts (is_spelled x y) _ e).0
spelled_at (x ∷ ps) (y ∷ ws) (suc k) p w e lt = spelled_at ps ws k p w (and_parts (is_spelled x y) _ e).1 (omega arith)
