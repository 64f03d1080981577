-- On the words of a question: the first of some words, those after it, and what they say.
use Rattle.std.proofs.Common.{◌≡◌, ◌≤◌, ◌+◌, ◌-◌, ◌==◌, ℕ, Bool, true, false, List, [], ◌∷◌, length, map, take, drop, get_or, codes, refl, sym, ap, ◌∙◌, arith}
use Rattle.std.proofs.lemmas.Bool.{false≢true, eqb-true, or_from, false_from_ne_true}
use Rattle.std.proofs.lemmas.List.{take_all}
use Rattle.std.proofs.lemmas.Slice.Eq.{bytes_eq-Decides}
use Rattle.std.specs.Str.{bytes_eq}
use Rattle.tool_questions.specs.Questions.{FileQuestion, of_piece, of_line, of_board, question_word, is_question, ask_question, IsMoreUsage}

module _ {A : Type 0} (f : A → List ℕ) where
  -- the first one, and the others
  pub after_first : (xs : List A) (x : A) → 1 ≤ length xs → x ≡ get_or xs 0 x → map f xs ≡ f x ∷ map f (take (length xs - 1) (drop 1 xs))
  after_first [] x some e = absurd (omega (arith, some))
  after_first (y ∷ ys) x some e =
      let all : take (length (y ∷ ys) - 1) ys ≡ ys = take_all (length (y ∷ ys) - 1) ys (omega arith) in
      rw (all, e) refl

  -- there are some after the file
  pub some_more : (place : ℕ) (xs : List A) (b : Bool) → b ≡ (length xs == 0) → b ≡ false → IsMoreUsage place (map f xs) (place + 1)
  some_more place [] b e none = absurd (false≢true (sym none ∙ e))
  some_more place (x ∷ xs) b e none = refl

module _ {A : Type 0} (f : A → List ℕ) where
  -- nothing is said of a word, or something
  pub none_said : (xs : List A) {ws : List (List ℕ)} (b : Bool) → b ≡ (length xs == 0) → b ≡ true → map f xs ≡ ws → ws ≡ []
  none_said [] b e none same = sym same
  none_said (x ∷ xs) b e none same = absurd (omega (arith, eqb-true (length (x ∷ xs)) 0 (sym e ∙ none)))

  pub some_said : (xs : List A) {ws : List (List ℕ)} (b : Bool) → b ≡ (length xs == 0) → b ≡ false → map f xs ≡ ws → ws ≡ [] → ⊥
  some_said [] b e some same none = false≢true (sym some ∙ e)
  some_said (x ∷ xs) b e some same none = absurd (cc)

-- words do not begin with this one
abbrev pub BeginsOtherwise : List ℕ → List (List ℕ) → Type 0
BeginsOtherwise word words = (rest : List (List ℕ)) → words ≡ word ∷ rest → ⊥

is_other : (word first : List ℕ) (rest : List (List ℕ)) → BeginsOtherwise word (first ∷ rest) → bytes_eq first word ≡ false
is_other word first rest other =
    false_from_ne_true (bytes_eq first word) (λ e. other rest (ap (λ (w : List ℕ). w ∷ rest) ((bytes_eq-Decides first word).0 e)))

-- words are a question if they begin with one of its four words, and only then
pub no_question_of : (words : List (List ℕ)) → BeginsOtherwise (codes "--explain") words → BeginsOtherwise (codes "--piece") words →
    BeginsOtherwise (codes "--line") words → BeginsOtherwise (codes "--board") words → ask_question words ≡ false
no_question_of [] no_word no_piece no_line no_board = refl
no_question_of (word ∷ rest) no_word no_piece no_line no_board =
    or_from (bytes_eq word (codes "--explain")) _ (is_other (codes "--explain") word rest no_word)
    (or_from (bytes_eq word (codes "--piece")) _ (is_other (codes "--piece") word rest no_piece)
    (or_from (bytes_eq word (codes "--line")) (bytes_eq word (codes "--board")) (is_other (codes "--line") word rest no_line) (is_other (codes "--board") word rest no_board)))

pub asks : (words rest : List (List ℕ)) (word : List ℕ) → words ≡ word ∷ rest → is_question word ≡ true → ask_question words ≡ false → ⊥
asks words rest word e is none = false≢true (sym none ∙ ap ask_question e ∙ is)

pub same_first : (word other : List ℕ) (a b : List (List ℕ)) → word ∷ a ≡ other ∷ b → word ≡ other
same_first word other a b e = cc

pub same_rest : (word : List ℕ) (a b : List (List ℕ)) → word ∷ a ≡ word ∷ b → a ≡ b
same_rest word a b e = cc

-- the third byte tells the first words of questions apart
abbrev third : List (List ℕ) → ℕ
third [] = 0
third (word ∷ rest) = get_or word 2 0

abbrev letter : FileQuestion → ℕ
letter of_piece = 112
letter of_line = 108
letter of_board = 98

third_is : (words rest : List (List ℕ)) (question : FileQuestion) → words ≡ question_word question ∷ rest → third words ≡ letter question
third_is words rest of_piece e = ap third e
third_is words rest of_line e = ap third e
third_is words rest of_board e = ap third e

pub no_both : (words rest other : List (List ℕ)) (question : FileQuestion) → words ≡ codes "--explain" ∷ rest → words ≡ question_word question ∷ other → ⊥
no_both words rest other of_piece x y = absurd (omega (arith, ap third x, ap third y))
no_both words rest other of_line x y = absurd (omega (arith, ap third x, ap third y))
no_both words rest other of_board x y = absurd (omega (arith, ap third x, ap third y))

same_letter : (a b : FileQuestion) → letter a ≡ letter b → a ≡ b
same_letter of_piece of_piece e = refl
same_letter of_piece of_line e = absurd (omega (arith, e))
same_letter of_piece of_board e = absurd (omega (arith, e))
same_letter of_line of_piece e = absurd (omega (arith, e))
same_letter of_line of_line e = refl
same_letter of_line of_board e = absurd (omega (arith, e))
same_letter of_board of_piece e = absurd (omega (arith, e))
same_letter of_board of_line e = absurd (omega (arith, e))
same_letter of_board of_board e = refl

-- words are one question about a file
pub same_question : (words rest other : List (List ℕ)) (a b : FileQuestion) → words ≡ question_word a ∷ rest → words ≡ question_word b ∷ other → a ≡ b
same_question words rest other a b x y = same_letter a b (sym (third_is words rest a x) ∙ third_is words other b y)

-- and it asks
pub file_asks : (words rest : List (List ℕ)) (question : FileQuestion) → words ≡ question_word question ∷ rest → ask_question words ≡ false → ⊥
file_asks words rest of_piece e none = asks words rest (codes "--piece") e refl none
file_asks words rest of_line e none = asks words rest (codes "--line") e refl none
file_asks words rest of_board e none = asks words rest (codes "--board") e refl none
