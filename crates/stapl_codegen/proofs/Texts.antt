-- Where the texts and the literals of a piece stand among those of the program: after those of the pieces before it, and
-- of the initial values that stand with these.
use Rattle.std.proofs.Common.{◌≡◌, ℕ, zero, suc, ◌+◌, ◌≤◌, Bool, true, List, [], ◌∷◌, ◌++◌, length, take, drop, Option, Some, refl, sym, ap, ◌∙◌, append_assoc, length-append, arith}
use Rattle.std.proofs.lemmas.Bool.{true≢false}
use Rattle.std.proofs.lemmas.List.{drop_at, append-nil}
use Rattle.std.proofs.Math.Seq.{take-nil, drop-nil}
use Rattle.stapl_syntax.specs.Trees.{BodyTree, boolean, boolean_array, integer, integer_array, StmtTree}
use Rattle.stapl_meaning.specs.Turns.{rows}
use Rattle.stapl_meaning.specs.Scopes.{has_initial_value, Preset, Played}
use Rattle.stapl_codegen.specs.Emit.{rows_items, preset_items, statements_items, first_items, pieces_items, row_texts, row_literals, body_texts, body_literals, texts_of, literals_of, texts_before, literals_before, constants_in, firsts_at, preset_firsts}
use Rattle.stapl_codegen.proofs.Constants.{HasItems, HasConstants}

module _ {A : Type 0} (of : BodyTree → List A) where
  statements_parts : (i : ℕ) (sts : List StmtTree) → statements_items of sts ≡ statements_items of (take i sts) ++ statements_items of (drop i sts)
  statements_parts zero sts = refl
  statements_parts (suc i) [] = refl
  statements_parts (suc i) (st ∷ rest) =
      ap (λ l. rows_items of (rows st.body) ++ l) (statements_parts i rest)
      ∙ sym (append_assoc (rows_items of (rows st.body)) (statements_items of (take i rest)) (statements_items of (drop i rest)))

  -- two lists, each before its third part
  four_parts : (a b c d : List A) → a ++ (b ++ (c ++ d)) ≡ (a ++ (b ++ c)) ++ d
  four_parts a b c d = ap (λ l. a ++ l) (sym (append_assoc b c d)) ∙ sym (append_assoc a (b ++ c) d)

  pub parts : (i : ℕ) (os : List (Option Preset)) (sts : List StmtTree) →
      pieces_items of os sts ≡ pieces_items of (take i os) (take i sts) ++ pieces_items of (drop i os) (drop i sts)
  parts zero os sts = refl
  parts (suc i) [] sts = statements_parts (suc i) sts
  parts (suc i) (o ∷ os) [] =
      ap (λ l. preset_items of o ++ l)
      (parts i os []
      ∙ ap (λ l. pieces_items of (take i os) l ++ pieces_items of (drop i os) (drop i [])) (take-nil i)
      ∙ ap (λ l. pieces_items of (take i os) [] ++ pieces_items of (drop i os) l) (drop-nil i))
      ∙ sym (append_assoc (preset_items of o) (pieces_items of (take i os) []) (pieces_items of (drop i os) []))
  parts (suc i) (o ∷ os) (st ∷ sts) =
      ap (λ l. rows_items of (rows st.body) ++ (preset_items of o ++ l)) (parts i os sts)
      ∙ four_parts (rows_items of (rows st.body)) (preset_items of o) (pieces_items of (take i os) (take i sts)) (pieces_items of (drop i os) (drop i sts))

  -- a piece more, with its initial value
  pub parts_more : (i : ℕ) (os os' : List (Option Preset)) (o : Option Preset) (sts sts' : List StmtTree) (st : StmtTree) → drop i os ≡ o ∷ os' → drop i sts ≡ st ∷ sts' →
      pieces_items of (take (suc i) os) (take (suc i) sts) ≡ pieces_items of (take i os) (take i sts) ++ (rows_items of (rows st.body) ++ preset_items of o)
  parts_more zero [] os' o sts sts' st e f = absurd cc
  parts_more zero (p ∷ os) os' o [] sts' st e f = absurd cc
  parts_more zero (p ∷ os) os' o (s ∷ sts) sts' st e f =
      let same : p ≡ o = cc in
      let own : s ≡ st = cc in
      ap (λ (x : Option Preset). rows_items of (rows s.body) ++ (preset_items of x ++ [])) same
      ∙ ap (λ (x : StmtTree). rows_items of (rows x.body) ++ (preset_items of o ++ [])) own
      ∙ ap (λ l. rows_items of (rows st.body) ++ l) (append-nil (preset_items of o))
  parts_more (suc i) [] os' o sts sts' st e f = absurd cc
  parts_more (suc i) (p ∷ os) os' o [] sts' st e f = absurd cc
  parts_more (suc i) (p ∷ os) os' o (s ∷ sts) sts' st e f =
      ap (λ l. rows_items of (rows s.body) ++ (preset_items of p ++ l)) (parts_more i os os' o sts sts' st e f)
      ∙ four_parts (rows_items of (rows s.body)) (preset_items of p) (pieces_items of (take i os) (take i sts)) (rows_items of (rows st.body) ++ preset_items of o)

  -- what follows the items of the first of some pieces
  abbrev after_first : List (Option Preset) → List StmtTree → List A
  after_first [] rest = statements_items of rest
  after_first (o ∷ os) rest = preset_items of o ++ pieces_items of os rest

  first_is : (os : List (Option Preset)) (st : StmtTree) (rest : List StmtTree) → pieces_items of os (st ∷ rest) ≡ rows_items of (rows st.body) ++ after_first os rest
  first_is [] st rest = refl
  first_is (o ∷ os) st rest = refl

  module _ (i : ℕ) (os : List (Option Preset)) (sts : List StmtTree) where
    abbrev All : List A
    All = pieces_items of os sts

    abbrev Before : List A
    Before = pieces_items of (take i os) (take i sts)

    -- items that stand somewhere
    stand : (front some more : List A) → All ≡ front ++ (some ++ more) → HasItems All (length front) some
    stand front some more e = record { more = more; from = ap (drop (length front)) e ∙ drop_at front (some ++ more) (length front) refl }

    below : (front some more : List A) → All ≡ front ++ (some ++ more) → length front + length some ≤ length All
    below front some more e = omega (arith, ap length e, length-append front (some ++ more), length-append some more)

    own_parts : (st : StmtTree) (rest : List StmtTree) → drop i sts ≡ st ∷ rest → All ≡ Before ++ (rows_items of (rows st.body) ++ after_first (drop i os) rest)
    own_parts st rest e = parts i os sts ∙ ap (λ l. Before ++ pieces_items of (drop i os) l) e ∙ ap (λ l. Before ++ l) (first_is (drop i os) st rest)

    preset_parts : (preset : Preset) (others : List (Option Preset)) → drop i os ≡ Some preset ∷ others →
        All ≡ (Before ++ first_items of (drop i sts)) ++ (of preset.body ++ pieces_items of others (drop 1 (drop i sts)))
    preset_parts preset others e =
        parts i os sts
        ∙ ap (λ l. Before ++ pieces_items of l (drop i sts)) e
        ∙ sym (append_assoc Before (first_items of (drop i sts)) (of preset.body ++ pieces_items of others (drop 1 (drop i sts))))

-- the texts of statements, without initial values
texts_parts : (i : ℕ) (program : Played) → pieces_items row_texts (take i []) (take i program.pieces) ≡ texts_before program i
texts_parts i program = ap (λ (l : List (Option Preset)). pieces_items row_texts l (take i program.pieces)) (take-nil i)

module _ (i : ℕ) (program : Played) (st : StmtTree) (rest : List StmtTree) (e : drop i program.pieces ≡ st ∷ rest) where
  text_parts : texts_of program ≡ texts_before program i ++ (body_texts st.body ++ after_first row_texts (drop i []) rest)
  text_parts =
      own_parts row_texts i [] program.pieces st rest e
      ∙ ap (λ l. l ++ (body_texts st.body ++ after_first row_texts (drop i []) rest)) (texts_parts i program)

  literal_parts : literals_of program ≡ literals_before program i ++ (body_literals st.body ++ after_first row_literals (drop i program.presets) rest)
  literal_parts = own_parts row_literals i program.presets program.pieces st rest e

  pub constants_at : HasConstants (constants_in program) (firsts_at program i) (body_texts st.body) (body_literals st.body)
  constants_at = record {
    texts = stand row_texts i [] program.pieces (texts_before program i) (body_texts st.body) (after_first row_texts (drop i []) rest) text_parts;
    literals = stand row_literals i program.presets program.pieces (literals_before program i) (body_literals st.body) (after_first row_literals (drop i program.presets) rest) literal_parts;
  }

  -- they are among those of the program
  pub texts_below : (firsts_at program i).text + length (body_texts st.body) ≤ length (texts_of program)
  texts_below = below row_texts i [] program.pieces (texts_before program i) (body_texts st.body) (after_first row_texts (drop i []) rest) text_parts

  pub literals_below : (firsts_at program i).literal + length (body_literals st.body) ≤ length (literals_of program)
  literals_below = below row_literals i program.presets program.pieces (literals_before program i) (body_literals st.body) (after_first row_literals (drop i program.presets) rest) literal_parts

-- ---- initial values of DATA blocks

-- they have no texts
pub no_texts : (b : BodyTree) → has_initial_value b ≡ true → row_texts b ≡ []
no_texts (boolean name start) starts = refl
no_texts (boolean_array name size start) starts = refl
no_texts (integer name start) starts = refl
no_texts (integer_array name size start) starts = refl
no_texts _ starts = absurd (true≢false (sym starts))

no_items : {A : Type 0} (all xs : List A) → xs ≡ [] → HasItems all 0 xs
no_items all xs none = record { more = all; from = ap (λ l. l ++ all) (sym none) }

module _ (i : ℕ) (program : Played) (preset : Preset) (others : List (Option Preset)) (e : drop i program.presets ≡ Some preset ∷ others) where
  abbrev Rest : List (List Bool)
  Rest = pieces_items row_literals others (drop 1 (drop i program.pieces))

  abbrev Front : List (List Bool)
  Front = literals_before program i ++ first_items row_literals (drop i program.pieces)

  pub preset_known : has_initial_value preset.body ≡ true → HasConstants (constants_in program) (preset_firsts program i) (row_texts preset.body) (row_literals preset.body)
  preset_known starts = record {
    texts = no_items (texts_of program) (row_texts preset.body) (no_texts preset.body starts);
    literals = stand row_literals i program.presets program.pieces Front (row_literals preset.body) Rest (preset_parts row_literals i program.presets program.pieces preset others e);
  }

  pub preset_below : (preset_firsts program i).literal + length (row_literals preset.body) ≤ length (literals_of program)
  preset_below = below row_literals i program.presets program.pieces Front (row_literals preset.body) Rest (preset_parts row_literals i program.presets program.pieces preset others e)

-- the literals before the next place
pub literals_more : (program : Played) (i : ℕ) (o : Option Preset) (st : StmtTree) → drop i program.presets ≡ o ∷ drop (i + 1) program.presets →
    drop i program.pieces ≡ st ∷ drop (i + 1) program.pieces →
    literals_before program (i + 1) ≡ literals_before program i ++ (body_literals st.body ++ preset_items row_literals o)
literals_more program i o st presets pieces =
    let next : i + 1 ≡ suc i = omega arith in
    ap (λ n. literals_before program n) next ∙ parts_more row_literals i program.presets (drop (i + 1) program.presets) o program.pieces (drop (i + 1) program.pieces) st presets pieces
