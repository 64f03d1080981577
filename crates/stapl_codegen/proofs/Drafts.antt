-- A piece more of a draft.
use Rattle.std.proofs.Common.{◌≡◌, ℕ, zero, suc, ◌+◌, ◌-◌, ◌<◌, ◌≤◌, Bool, true, false, List, [], ◌∷◌, ◌++◌, Option, Some, None, map, length, get_or, drop, take, arith, length-append, append_assoc, sym, ap, subst, ◌∙◌, refl, ⊎_elim}
use Rattle.std.specs.Prelude.{if◌then◌else◌, slice_index}
use Rattle.std.proofs.lemmas.List.{get_or_append_left, append-nil, take-map, drop_all, take_all}
use Rattle.std.proofs.lemmas.Bool.{cases_lt, true≢false}
use Rattle.std.proofs.Math.Seq.{get_or-append_seam}
use Rattle.stapl_syntax.specs.Trees.{BodyTree, boolean, boolean_array, integer, integer_array, call, StmtTree}
use Rattle.stapl_syntax.specs.Statements.{is_outer}
use Rattle.stapl_syntax.specs.Names.{numbered_from, numbered, inside_next, inside_from, inside_after}
use Rattle.stapl_meaning.specs.Turns.{rows}
use Rattle.stapl_meaning.specs.Scopes.{has_initial_value, Preset, Played, block_at, entry_from, procedure_number, scope_at}
use Rattle.stapl_meaning.specs.Typed.{NamesProcedures, IsTyped}
use Rattle.stapl_meaning.proofs.Entries.{all_at}
use Rattle.stapl_code.specs.declared.instr.Instr.{Instr}
use Rattle.stapl_code.specs.declared.instr.Instr.TheVariants.{Turn}
use Rattle.stapl_code.specs.Machine.{nowhere}
use Rattle.stapl_codegen.specs.Emit.{Firsts, past, body_code, row_texts, row_literals, rows_items, preset_items, statements_items, first_items, pieces_items, texts_before, literals_before, body_texts, body_literals, firsts_at, preset_firsts, preset_code, presets_code, piece_code, pieces_code, code_to, start_in, start_of, total_of}
use Rattle.stapl_codegen.specs.Numbers.{numbers_from}
use Rattle.stapl_codegen.specs.Drafts.{number_in, Site, Draft, with_code, with_texts, with_literals, passed, site_at, site_after, preset_site, scope_of_site, piece_code_in, initial_code_in, preset_code_in, ArePresetsWritten, AreDrafted, StartsTo, IsDraft}
use Rattle.stapl_codegen.specs.Accepted.{IsAccepted}
use Rattle.stapl_codegen.specs.Correct.{Starts}
use Rattle.stapl_code.proofs.Heads.{head_of, get_head}
use Rattle.stapl_codegen.proofs.Lists.{RowAlike, row_same, body_same, preset_before, presets_before, piece_append}
use Rattle.stapl_codegen.proofs.Texts.{literals_more}
use Rattle.stapl_codegen.proofs.Numbers.{calls_known}
use Rattle.stapl_codegen.proofs.Sizes.{code_length}

pub take_more : {A : Type 0} (i : ℕ) (xs : List A) (x : A) (rest : List A) → drop i xs ≡ x ∷ rest → take (i + 1) xs ≡ take i xs ++ x ∷ []
take_more {A = A} i xs x rest e = let next : i + 1 ≡ suc i = omega arith in ap (λ k. take k xs) next ∙ by_place i xs e
  where
    by_place : (i : ℕ) (xs : List A) → drop i xs ≡ x ∷ rest → take (suc i) xs ≡ take i xs ++ x ∷ []
    by_place zero [] e = absurd cc
    by_place zero (y ∷ ys) e = let same : y ≡ x = cc in ap (λ z. z ∷ []) same
    by_place (suc i) [] e = absurd cc
    by_place (suc i) (y ∷ ys) e = ap (λ l. y ∷ l) (by_place i ys e)

inside_append : (now : Option (List ℕ)) (n : ℕ) (xs : List StmtTree) (st : StmtTree) →
    inside_from now (numbered_from n (map Some (xs ++ st ∷ []))) ≡ inside_next (inside_from now (numbered_from n (map Some xs))) st.body
inside_append now n [] st = refl
inside_append now n (x ∷ xs) st = inside_append (inside_next now x.body) (n + 1) xs st

items_after : {A : Type 0} (of : BodyTree → List A) (xs : List StmtTree) (st : StmtTree) → statements_items of (xs ++ st ∷ []) ≡ statements_items of xs ++ rows_items of (rows st.body)
items_after of [] st = append-nil (rows_items of (rows st.body))
items_after of (x ∷ xs) st =
    ap (λ l. rows_items of (rows x.body) ++ l) (items_after of xs st)
    ∙ sym (append_assoc (rows_items of (rows x.body)) (statements_items of xs) (rows_items of (rows st.body)))

-- the statement at a place
module _ (program : Played) (i : ℕ) (st : StmtTree) (is : drop i program.pieces ≡ st ∷ drop (i + 1) program.pieces) where
  pub inside_more : (inside inside' : Option (List ℕ)) → inside ≡ block_at program.pieces i → inside' ≡ inside_next inside st.body → inside' ≡ block_at program.pieces (i + 1)
  inside_more inside inside' so_far after =
      after
      ∙ ap (λ o. inside_next o st.body) (so_far ∙ ap (λ l. inside_after (numbered l)) (take-map Some i program.pieces))
      ∙ sym (inside_append None 1 (take i program.pieces) st)
      ∙ sym (ap (λ l. inside_after (numbered (map Some l))) (take_more i program.pieces st (drop (i + 1) program.pieces) is))
      ∙ sym (ap (λ l. inside_after (numbered l)) (take-map Some (i + 1) program.pieces))

  site_more : (site site' : Site) → site ≡ site_at program i → site' ≡ site_after site st.body → site' ≡ site_at program (i + 1)
  site_more site site' so_far after =
      after
      ∙ ap (λ (s : Site). site_after s st.body) so_far
      ∙ ap (λ (o : Option (List ℕ)). record (site_at program (i + 1)) { inside = o }) (inside_more _ _ refl refl)

  texts_more : (texts texts' : List (List ℕ)) → texts ≡ texts_before program i → texts' ≡ texts ++ body_texts st.body → texts' ≡ texts_before program (i + 1)
  texts_more texts texts' so_far after =
      after
      ∙ ap (λ t. t ++ body_texts st.body) so_far
      ∙ sym (items_after row_texts (take i program.pieces) st)
      ∙ sym (ap (statements_items row_texts) (take_more i program.pieces st (drop (i + 1) program.pieces) is))

  literals_after : (o : Option Preset) → drop i program.presets ≡ o ∷ drop (i + 1) program.presets → (literals literals' : List (List Bool)) → literals ≡ literals_before program i →
      literals' ≡ literals ++ (body_literals st.body ++ preset_items row_literals o) → literals' ≡ literals_before program (i + 1)
  literals_after o at literals literals' so_far after =
      after ∙ ap (λ l. l ++ (body_literals st.body ++ preset_items row_literals o)) so_far ∙ sym (literals_more program i o st at is)

  abbrev From : ℕ → List Instr
  From k = pieces_code program (λ j. j) k (drop k program.pieces)

  from_more : From i ≡ piece_code program (λ j. j) i st (From (i + 1))
  from_more = ap (pieces_code program (λ j. j) i) is

  -- what the statement calls
  calls : IsTyped program → NamesProcedures program st.body
  calls typed = all_at (λ (s : StmtTree). NamesProcedures program s.body) program.pieces i st typed.items (get_head i program.pieces ∙ ap head_of is)

  -- what a site finds is what the place finds
  same_by : IsTyped program → (outer : Bool) (first : Firsts) →
      (if outer then [] else Turn (i + 1) ∷ body_code (scope_of_site (site_at program i)) (λ j. j) first st.body [])
      ≡ (if outer then [] else Turn (i + 1) ∷ body_code (scope_at program i) (λ j. j) first st.body [])
  same_by typed true first = refl
  same_by typed false first =
      ap (λ l. Turn (i + 1) ∷ l)
      (body_same program.names (λ p. 0) (entry_from program.pieces) (number_in program.names (numbers_from 0 program.names.blocks)) (procedure_number program.pieces) (length program.pieces)
      (block_at program.pieces i) i (λ j. j) first st.body (calls_known program typed (block_at program.pieces i) i (λ j. j) st.body (calls typed)))

  code_is : IsTyped program → (d : Draft) → d.texts ≡ texts_before program i → d.literals ≡ literals_before program i → d.site ≡ site_at program i →
      piece_code_in d st ≡ piece_code program (λ j. j) i st []
  code_is typed d texts literals site =
      ap (λ (s : Site). piece_code_in (record { code = []; texts = d.texts; literals = d.literals; site = s }) st) site
      ∙ ap (λ (t : List (List ℕ)). piece_code_in (record { code = []; texts = t; literals = d.literals; site = site_at program i }) st) texts
      ∙ ap (λ (l : List (List Bool)). piece_code_in (record { code = []; texts = texts_before program i; literals = l; site = site_at program i }) st) literals
      ∙ same_by typed (is_outer st.body) (firsts_at program i)

  code_more : (c c' all : List Instr) → c ++ From i ≡ all → c' ≡ c ++ piece_code program (λ j. j) i st [] → c' ++ From (i + 1) ≡ all
  code_more c c' all e more =
      ap (λ x. x ++ From (i + 1)) more
      ∙ append_assoc c (piece_code program (λ j. j) i st []) (From (i + 1))
      ∙ ap (λ x. c ++ x) (sym (piece_append program (λ j. j) i st [] (From (i + 1))) ∙ sym from_more)
      ∙ e

  start_by : (b : Bool) (c : List Instr) → c ++ From i ≡ code_to program (λ j. j) → (if b then nowhere else length c) ≡ (if b then nowhere else total_of program - length (From i))
  start_by true c e = refl
  start_by false c e = omega (arith, ap length e, length-append c (From i))

  start_more : (c : List Instr) (start : ℕ) → c ++ From i ≡ code_to program (λ j. j) → start ≡ (if is_outer st.body then nowhere else length c) → start ≡ start_of program i
  start_more c start e at = at ∙ start_by (is_outer st.body) c e ∙ ap (start_in program i) (sym (get_head i program.pieces ∙ ap head_of is))

each_more : (program : Played) (i start : ℕ) (starts : List ℕ) → StartsTo program i starts → start ≡ start_of program i → (k : ℕ) → k < i + 1 →
    slice_index (starts ++ start ∷ []) k ≡ start_of program k
each_more program i start starts s e k h =
    let n : length starts ≡ i = s.all in
    ⊎_elim
    (λ (lt : k < i). get_or_append_left starts (start ∷ []) 0 k (omega (arith, n, lt)) ∙ s.each k lt)
    (λ (le : i ≤ k). let at : k ≡ length starts = omega (arith, n, le, h) in let same : i ≡ k =
    omega (arith, le, h) in ap (λ j. get_or (starts ++ start ∷ []) j 0) at ∙ get_or-append_seam starts start [] 0 ∙ e ∙ ap (start_of program) same)
    (cases_lt k i)

starts_more : (program : Played) (i start : ℕ) (starts : List ℕ) → StartsTo program i starts → start ≡ start_of program i → StartsTo program (i + 1) (starts ++ start ∷ [])
starts_more program i start starts s e = record {
  all = omega (arith, s.all, length-append starts (start ∷ []));
  each = λ k h. each_more program i start starts s e k h;
}

module _ (program : Played) (i : ℕ) (d : Draft) (starts : List ℕ) (so_far : AreDrafted program i d starts) where
  pub piece_more : IsTyped program → (st : StmtTree) (is : drop i program.pieces ≡ st ∷ drop (i + 1) program.pieces) (o : Option Preset)
      (at_preset : drop i program.presets ≡ o ∷ drop (i + 1) program.presets)
      (d' : Draft) (start : ℕ) (starts' : List ℕ) →
      d' ≡ passed (with_literals (with_texts (with_code d (piece_code_in d st)) (body_texts st.body)) (body_literals st.body ++ preset_items row_literals o)) st.body →
      start ≡ (if is_outer st.body then nowhere else length d.code) → starts' ≡ starts ++ start ∷ [] → AreDrafted program (i + 1) d' starts'
  piece_more typed st is o at_preset d' start starts' after at more = record {
    code = code_more program i st is d.code d'.code _ so_far.code
        (ap (λ (d : Draft). d.code) after ∙ ap (λ l. d.code ++ l) (code_is program i st is typed d so_far.texts so_far.literals so_far.site));
    texts = texts_more program i st is d.texts d'.texts so_far.texts (ap (λ (d : Draft). d.texts) after);
    literals = literals_after program i st is o at_preset d.literals d'.literals so_far.literals (ap (λ (d : Draft). d.literals) after);
    site = site_more program i st is d.site d'.site so_far.site (ap (λ (d : Draft). d.site) after);
    begins = subst (StartsTo program (i + 1)) (sym more) (starts_more program i start starts so_far.begins (start_more program i st is d.code start so_far.code at));
  }

  pub drafted_size : IsAccepted program → length d.code ≤ 8488608
  drafted_size accepted =
      let all = code_length program (λ j. j) accepted in
      omega (arith, all, ap length so_far.code, length-append d.code (pieces_code program (λ j. j) i (drop i program.pieces)))

  -- all pieces are written
  pub is_draft : i ≡ length program.pieces → i ≡ length program.presets → IsDraft program d.code d.texts d.literals starts
  is_draft all presets = record {
    code_is = sym (append-nil d.code) ∙ ap (λ l. d.code ++ pieces_code program (λ j. j) i l) (sym (drop_all i program.pieces (omega (arith, all)))) ∙ so_far.code;
    texts_are = so_far.texts ∙ ap (statements_items row_texts) (take_all i program.pieces (omega (arith, all)));
    literals_are = so_far.literals
        ∙ ap (λ l. pieces_items row_literals (take i program.presets) l) (take_all i program.pieces (omega (arith, all)))
        ∙ ap (λ (l : List (Option Preset)). pieces_items row_literals l program.pieces) (take_all i program.presets (omega (arith, presets)));
    begins = subst (λ n. StartsTo program n starts) all so_far.begins;
  }

-- ---- initial values of DATA blocks

-- What a declaration with an initial value has is what its one row has.
pub one_row : (b : BodyTree) → has_initial_value b ≡ true → rows b ≡ b ∷ []
one_row (boolean name (Some b)) e = refl
one_row (boolean_array name size (Some bits)) e = refl
one_row (integer name (Some z)) e = refl
one_row (integer_array name size (Some zs)) e = refl
one_row (boolean name None) e = absurd (true≢false (sym e))
one_row (boolean_array name size None) e = absurd (true≢false (sym e))
one_row (integer name None) e = absurd (true≢false (sym e))
one_row (integer_array name size None) e = absurd (true≢false (sym e))
one_row _ e = absurd (true≢false (sym e))

-- the number after some items
pub past_length : {A : Type 0} (n : ℕ) (xs : List A) → past n xs ≡ n + length xs
past_length n [] = omega arith
past_length n (x ∷ xs) = let more = past_length (suc n) xs in omega (arith, more)

pub after_items : {A : Type 0} (xs ys zs : List A) → zs ≡ xs ++ ys → past (length xs) ys ≡ length zs
after_items xs ys zs e = omega (arith, past_length (length xs) ys, ap length e, length-append xs ys)

-- the code of an initial value where it stands
preset_same : (program : Played) (site : Site) (i : ℕ) (literal : ℕ) (o : Option Preset) → Starts o → site ≡ site_at program 0 → literal ≡ (preset_firsts program i).literal →
    (d : Draft) → d.site ≡ site →
    preset_code_in d literal o ≡ preset_code program (λ j. j) i o []
preset_same program site i literal None starts same number d at = refl
preset_same program site i literal (Some preset) starts same number d at =
    ap (λ (s : Site). initial_code_in (preset_site s preset) literal preset.body) (at ∙ same)
    ∙ ap (λ n. initial_code_in (preset_site (site_at program 0) preset) n preset.body) number
    ∙ row_same program.names (λ p. 0) (entry_from program.pieces) (number_in program.names (numbers_from 0 program.names.blocks)) (procedure_number program.pieces) (length program.pieces)
    (Some preset.block) 0 (λ j. j) (preset_firsts program i) preset.body (none_called preset.body starts) []
  where
    none_called : (b : BodyTree) → has_initial_value b ≡ true →
        RowAlike program.names (λ p. 0) (entry_from program.pieces) (number_in program.names (numbers_from 0 program.names.blocks)) (procedure_number program.pieces)
        (length program.pieces) (Some preset.block) 0 (λ j. j) b
    none_called (call name) e = absurd (true≢false (sym e))
    none_called _ e = tt

-- so many literals stand before the initial value at a place, and before the next place
module _ (program : Played) (i : ℕ) (o : Option Preset) (st : StmtTree) (presets : drop i program.presets ≡ o ∷ drop (i + 1) program.presets)
    (pieces : drop i program.pieces ≡ st ∷ drop (i + 1) program.pieces) where
  pub own_counted : (before own : ℕ) → before ≡ length (literals_before program i) → own ≡ length (body_literals st.body) → before + own ≡ (preset_firsts program i).literal
  own_counted before own counted is =
      omega (
        arith,
        counted,
        is,
        ap (λ l. length (literals_before program i ++ first_items row_literals l)) pieces,
        length-append (literals_before program i) (body_literals st.body),
      )

  pub next_counted : (before own more : ℕ) → before ≡ length (literals_before program i) → own ≡ length (body_literals st.body) → more ≡ length (preset_items row_literals o) →
      before + own + more ≡ length (literals_before program (i + 1))
  next_counted before own more counted is next =
      omega (
        arith,
        counted,
        is,
        next,
        ap length (literals_more program i o st presets pieces),
        length-append (literals_before program i) (body_literals st.body ++ preset_items row_literals o),
        length-append (body_literals st.body) (preset_items row_literals o),
      )

-- a statement more, which has an initial value or none
pub preset_more : (program : Played) (i : ℕ) (d d' : Draft) (before own number more beyond : ℕ) (o : Option Preset) (st : StmtTree) → drop i program.presets ≡ o ∷ drop (i + 1) program.presets →
    drop i program.pieces ≡ st ∷ drop (i + 1) program.pieces → Starts o → ArePresetsWritten program i d before → own ≡ length (body_literals st.body) →
    more ≡ length (preset_items row_literals o) → number ≡ before + own → beyond ≡ number + more → d' ≡ with_code d (preset_code_in d number o) →
    ArePresetsWritten program (i + 1) d' beyond
preset_more program i d d' before own number more beyond o st presets pieces starts so_far is next first last after =
    let here : List Instr = preset_code program (λ j. j) i o [] in
    let others : List Instr = presets_code program (λ j. j) (i + 1) (drop (i + 1) program.presets) [] in
    record {
      code = ap (λ c. c ++ others)
          (ap (λ (d : Draft). d.code) after
          ∙ ap (λ c. d.code ++ c) (preset_same program d.site i number o starts so_far.site (first ∙ own_counted program i o st presets pieces before own so_far.counted is) d refl))
          ∙ append_assoc d.code here others
          ∙ ap (λ c. d.code ++ c) (sym (preset_before program (λ j. j) i o others) ∙ ap (λ l. presets_code program (λ j. j) i l []) (sym presets))
          ∙ so_far.code;
      texts = ap (λ (d : Draft). d.texts) after ∙ so_far.texts;
      no_literals = ap (λ (d : Draft). d.literals) after ∙ so_far.no_literals;
      site = ap (λ (d : Draft). d.site) after ∙ so_far.site;
      counted = last ∙ ap (λ n. n + more) first ∙ next_counted program i o st presets pieces before own more so_far.counted is next;
    }

-- nothing is written yet
pub none_written : (program : Played) (site : Site) (d : Draft) → d ≡ record { code = []; texts = []; literals = []; site = site } → site ≡ site_at program 0 →
    ArePresetsWritten program 0 d 0
none_written program site d is at = record {
  code = ap (λ (d : Draft). d.code ++ presets_code program (λ j. j) 0 program.presets []) is;
  texts = ap (λ (d : Draft). d.texts) is;
  no_literals = ap (λ (d : Draft). d.literals) is;
  site = ap (λ (d : Draft). d.site) is ∙ at;
  counted = refl;
}

-- all of them are written, and the pieces follow
pub all_written : (program : Played) (i : ℕ) (d : Draft) (literals : ℕ) → i ≡ length program.presets → ArePresetsWritten program i d literals → AreDrafted program 0 d []
all_written program i d literals all so_far =
    let pieces : List Instr = pieces_code program (λ j. j) 0 program.pieces in
    let none : drop i program.presets ≡ [] = drop_all i program.presets (omega (arith, all)) in
    record {
      code = ap (λ c. c ++ pieces) (sym (append-nil d.code) ∙ ap (λ l. d.code ++ presets_code program (λ j. j) i l []) (sym none) ∙ so_far.code)
          ∙ sym (presets_before program (λ j. j) 0 program.presets pieces);
      texts = so_far.texts;
      literals = so_far.no_literals;
      site = so_far.site;
      begins = record { all = refl; each = λ k below. absurd (omega (arith, below)) };
    }
