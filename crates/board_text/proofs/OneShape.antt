-- Words have one shape at most: their first word and their number tell it.
use Rattle.std.proofs.Common.{◌≡◌, ℕ, List, [], length, get_or, refl, sym, ap, ◌∙◌, true, false, cond, arith}
use Rattle.std.specs.Prelude.{◌==◌, codes}
use Rattle.std.specs.Str.{bytes_eq}
use Rattle.std.proofs.lemmas.Slice.Eq.{bytes_eq-Decides}
use Rattle.dev_card.specs.declared.desc.Kind.TheVariants as kinds
use Rattle.board_text.specs.declared.shapes.KeyWord.{KeyWord}
use Rattle.board_text.specs.declared.shapes.KeyWord.TheVariants as keys
use Rattle.board_text.specs.declared.shapes.Place.TheVariants as places
use Rattle.board_text.specs.declared.shapes.Shape.{Shape}
use Rattle.board_text.specs.declared.shapes.Shape.TheVariants as shapes
use Rattle.board_text.specs.Shapes.{spelling, kind_key, fits, places_of}
use Rattle.board_text.proofs.ShapeLemmas.{spelled_at, fits-length}

-- the shape with this first word and so many words
shape_with : List ℕ → ℕ → Shape
shape_with key count =
    cond (bytes_eq key (codes "plain")) (shapes.Device kinds.Plain (count == 6)) (cond (bytes_eq key (codes "regs")) (shapes.Device kinds.Regs (count == 6))
    (cond (bytes_eq key (codes "flash")) (shapes.Device kinds.Flash (count == 22)) (shapes.Register (count == 6))))

first_key : Shape → KeyWord
first_key (shapes.Device kind identified) = kind_key kind
first_key (shapes.Register constant) = keys.Reg

told : (s : Shape) → shape_with (spelling (first_key s)) (length (places_of s)) ≡ s
unfolding shape_with first_key
told (shapes.Device kinds.Plain true) = refl
told (shapes.Device kinds.Plain false) = refl
told (shapes.Device kinds.Regs true) = refl
told (shapes.Device kinds.Regs false) = refl
told (shapes.Device kinds.Flash true) = refl
told (shapes.Device kinds.Flash false) = refl
told (shapes.Register true) = refl
told (shapes.Register false) = refl

first_word : (s : Shape) (ws : List (List ℕ)) → fits (places_of s) ws ≡ true → bytes_eq (get_or ws 0 []) (spelling (first_key s)) ≡ true
unfolding first_key
first_word (shapes.Device kind true) ws e = spelled_at (places_of (shapes.Device kind true)) ws 0 places.Name [] e (omega arith)
first_word (shapes.Device kind false) ws e = spelled_at (places_of (shapes.Device kind false)) ws 0 places.Name [] e (omega arith)
first_word (shapes.Register constant) ws e = spelled_at (places_of (shapes.Register constant)) ws 0 places.Name [] e (omega arith)

told_by_words : (s : Shape) (ws : List (List ℕ)) → fits (places_of s) ws ≡ true → shape_with (get_or ws 0 []) (length ws) ≡ s
told_by_words s ws e =
    let key : get_or ws 0 [] ≡ spelling (first_key s) = (bytes_eq-Decides (get_or ws 0 []) (spelling (first_key s))).0 (first_word s ws e) in
    ap (λ (w : List ℕ). shape_with w (length ws)) key ∙ ap (shape_with (spelling (first_key s))) (fits-length (places_of s) ws e) ∙ told s

pub one_shape : (words : List (List ℕ)) (s t : Shape) → fits (places_of s) words ≡ true → fits (places_of t) words ≡ true → s ≡ t
one_shape words s t a b = sym (told_by_words s words a) ∙ told_by_words t words b
