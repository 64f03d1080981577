-- On words and marks that are found by their spelling.
use denote.Bor.{Bor}
use Rattle.std.proofs.Common.{◌≡◌, ◌≢◌, ◌==◌, ◌+◌, ◌<◌, ◌≤◌, ℕ, List, [], ◌∷◌, length, drop, get_or, map, filter, refl, sym, ap, ◌∙◌, Bool, true, false, ◌||◌, cond, arith, suc, add-one, eq-eqb, Option, Some, None}
use Rattle.std.proofs.Math.ListN.{drop_of_length-le}
use Rattle.std.proofs.Math.Seq.{drop-cons}
use Rattle.std.proofs.lemmas.Bool.{and_parts, eqb-true}
use Rattle.std.proofs.lemmas.Bool.Decides.{nat_tests}
use Rattle.std.proofs.lemmas.Slice.Eq.{bytes_eq-Decides}
use Rattle.std.specs.Char.{eq_ignore_ascii_case}
use Rattle.std.specs.List.{list_all, list_any}
use Rattle.std.specs.Prelude.{is_some, codes}
use Rattle.std.specs.Str.{bytes_eq}
use Rattle.stapl_lexer.specs.declared.terminal.Terminal.{Terminal}
use Rattle.stapl_lexer.specs.Marks.{mark_table, mark_terminal, is_mark_spelling}
use Rattle.stapl_lexer.specs.ReservedWords.{reserved_words, spells_word, word_terminal}
use Rattle.stapl_lexer.specs.Terminals.{terminal_in}
use Rattle.stapl_lexer.proofs.PieceTokenLemmas.{clash}

-- the rows whose spelling has so many bytes
abbrev pub rows_of_length : ℕ → List (List ℕ × Terminal) → List (List ℕ × Terminal)
rows_of_length n rows = filter (λ row. length row.0 == n) rows

module _ (spells : List ℕ → Bool) (n : ℕ) (only : (word : List ℕ) → spells word ≡ true → length word ≡ n) where
  row_of_length : (word : List ℕ) (terminal : Terminal) (rows : List (List ℕ × Terminal)) (passes of : Bool) → spells word ≡ passes →
      (length word == n) ≡ of → (passes ≡ true → of ≡ true) → terminal_in spells rows ≡ terminal_in spells (rows_of_length n rows) →
      cond passes (Some terminal) (terminal_in spells rows)
      ≡ terminal_in spells (cond of ((word, terminal) ∷ rows_of_length n rows) (rows_of_length n rows))
  row_of_length word terminal rows true true p q is more = sym (ap (λ (b : Bool). cond b (Some terminal) (terminal_in spells (rows_of_length n rows))) p)
  row_of_length word terminal rows true false p q is more = absurd cc (is refl)
  row_of_length word terminal rows false true p q is more =
      more ∙ sym (ap (λ (b : Bool). cond b (Some terminal) (terminal_in spells (rows_of_length n rows))) p)
  row_of_length word terminal rows false false p q is more = more

  -- what is found is found among the rows of its length
  pub by_length : (rows : List (List ℕ × Terminal)) → terminal_in spells rows ≡ terminal_in spells (rows_of_length n rows)
  by_length [] = refl
  by_length (row ∷ rows) =
      row_of_length row.0 row.1 rows (spells row.0) (length row.0 == n) refl refl
      (λ is. eq-eqb (length row.0) n (only row.0 is)) (by_length rows)

-- bytes that spell a word have its length
spelling_length : (word own : List ℕ) → spells_word word own ≡ true → length word ≡ length own
spelling_length [] [] e = refl
spelling_length [] (b ∷ own) e = absurd cc
spelling_length (c ∷ word) [] e = absurd cc
spelling_length (c ∷ word) (b ∷ own) e =
    let more = spelling_length word own (and_parts (eq_ignore_ascii_case b c) (spells_word word own) e).1 in omega arith

pub words_of_length : (own : List ℕ) (rows : List (List ℕ × Terminal)) →
    terminal_in (λ word. spells_word word own) rows ≡ terminal_in (λ word. spells_word word own) (rows_of_length (length own) rows)
words_of_length own rows = by_length (λ word. spells_word word own) (length own) (λ word e. spelling_length word own e) rows

pub marks_of_length : (own : List ℕ) (rows : List (List ℕ × Terminal)) →
    terminal_in (λ mark. bytes_eq mark own) rows ≡ terminal_in (λ mark. bytes_eq mark own) (rows_of_length (length own) rows)
marks_of_length own rows =
    by_length (λ mark. bytes_eq mark own) (length own) (λ mark e. ap (λ (v : List ℕ). length v) ((bytes_eq-Decides mark own).0 e)) rows

-- no row has another length than those that pass a test
pub no_rows : (passes : ℕ → Bool) (n : ℕ) (rows : List (List ℕ × Terminal)) → list_all (λ row. passes (length row.0)) rows ≡ true → passes n ≡ false →
    rows_of_length n rows ≡ []
no_rows passes n [] all fails = refl
no_rows passes n (row ∷ rows) all fails =
    let parts = and_parts (passes (length row.0)) (list_all (λ r. passes (length r.0)) rows) all in
    let other : (length row.0 == n) ≡ false =
    is_false (length row.0 == n) (λ same. clash (passes n) (ap passes (sym (eqb-true (length row.0) n same)) ∙ parts.0) fails) in
    ap (λ (b : Bool). cond b (row ∷ rows_of_length n rows) (rows_of_length n rows)) other ∙ no_rows passes n rows parts.1 fails
  where
    is_false : (b : Bool) → (b ≡ true → ⊥) → b ≡ false
    is_false true absent = absurd (absent refl)
    is_false false absent = refl

-- the rows of a table of the program
abbrev pub rows_in : List (Bor (List ℕ) × Terminal) → List (List ℕ × Terminal)
rows_in rows = map (λ row. (row.0.now, row.1)) rows

module _ (spells : List ℕ → Bool) (rows : List (Bor (List ℕ) × Terminal)) (i : ℕ) (none : Bor (List ℕ) × Terminal) (lt : i < length rows) where
  row_at : terminal_in spells (rows_in (drop i rows))
      ≡ cond (spells (get_or rows i none).0.now) (Some (get_or rows i none).1) (terminal_in spells (rows_in (drop (suc i) rows)))
  row_at = ap (λ (v : List (Bor (List ℕ) × Terminal)). terminal_in spells (rows_in v)) (drop-cons rows i none lt)

  -- the row at a place is found
  pub row_found : spells (get_or rows i none).0.now ≡ true → terminal_in spells (rows_in (drop i rows)) ≡ Some (get_or rows i none).1
  row_found e = row_at ∙ ap (λ (b : Bool). cond b (Some (get_or rows i none).1) (terminal_in spells (rows_in (drop (suc i) rows)))) e

  -- the row at a place is passed
  pub row_passed : spells (get_or rows i none).0.now ≡ false → terminal_in spells (rows_in (drop i rows)) ≡ terminal_in spells (rows_in (drop (i + 1) rows))
  row_passed e =
      row_at ∙ ap (λ (b : Bool). cond b (Some (get_or rows i none).1) (terminal_in spells (rows_in (drop (suc i) rows)))) e
      ∙ ap (λ (k : ℕ). terminal_in spells (rows_in (drop k rows))) (sym (add-one i))

-- no row is left
pub no_row_left : (spells : List ℕ → Bool) (rows : List (Bor (List ℕ) × Terminal)) (i : ℕ) → length rows ≤ i →
    terminal_in spells (rows_in (drop i rows)) ≡ None
no_row_left spells rows i end = ap (λ (v : List (Bor (List ℕ) × Terminal)). terminal_in spells (rows_in v)) (drop_of_length-le rows end)

-- a number is none of some numbers
abbrev pub IsNoneOf : ℕ → List ℕ → Type 0
IsNoneOf n [] = Unit {0}
IsNoneOf n (m ∷ ms) = (n ≢ m) × IsNoneOf n ms

differs : (m n : ℕ) → n ≢ m → (m == n) ≡ false
differs m n ne = grind (arith, nat_tests, ne)

none_of : (n : ℕ) (ms : List ℕ) → IsNoneOf n ms → list_any (λ m. m == n) ms ≡ false
none_of n [] h = refl
none_of n (m ∷ ms) h = ap (λ (b : Bool). b || list_any (λ k. k == n) ms) (differs m n h.0) ∙ none_of n ms h.1

-- no row has a length that is none of some numbers
no_row_of : (ms : List ℕ) (n : ℕ) (rows : List (List ℕ × Terminal)) → list_all (λ row. list_any (λ m. m == length row.0) ms) rows ≡ true → IsNoneOf n ms →
    rows_of_length n rows ≡ []
no_row_of ms n rows all h = no_rows (λ k. list_any (λ m. m == k) ms) n rows all (none_of n ms h)

-- a reserved word is found among those of its length
pub word_by_length : (own : List ℕ) (n : ℕ) → length own ≡ n → word_terminal own ≡ terminal_in (λ word. spells_word word own) (rows_of_length n reserved_words)
unfolding word_terminal
word_by_length own n e =
    words_of_length own reserved_words ∙ ap (λ (k : ℕ). terminal_in (λ word. spells_word word own) (rows_of_length k reserved_words)) e

pub no_word_of_length : (own : List ℕ) → IsNoneOf (length own) (2 ∷ 3 ∷ 4 ∷ 5 ∷ 6 ∷ 7 ∷ 8 ∷ 9 ∷ 11 ∷ []) → word_terminal own ≡ None
no_word_of_length own h =
    word_by_length own (length own) refl
    ∙ ap (terminal_in (λ word. spells_word word own)) (no_row_of (2 ∷ 3 ∷ 4 ∷ 5 ∷ 6 ∷ 7 ∷ 8 ∷ 9 ∷ 11 ∷ []) (length own) reserved_words refl h)

-- a mark is found among those of its length
pub mark_by_length : (own : List ℕ) (n : ℕ) → length own ≡ n → mark_terminal own ≡ terminal_in (λ mark. bytes_eq mark own) (rows_of_length n mark_table)
unfolding mark_terminal
mark_by_length own n e =
    marks_of_length own mark_table ∙ ap (λ (k : ℕ). terminal_in (λ mark. bytes_eq mark own) (rows_of_length k mark_table)) e

pub no_mark_of_length : (own : List ℕ) → IsNoneOf (length own) (1 ∷ 2 ∷ []) → mark_terminal own ≡ None
no_mark_of_length own h =
    mark_by_length own (length own) refl
    ∙ ap (terminal_in (λ mark. bytes_eq mark own)) (no_row_of (1 ∷ 2 ∷ []) (length own) mark_table refl h)

-- no row passes a test that none of the table does
none_in : (spells test : List ℕ → Bool) → ((word : List ℕ) → spells word ≡ true → test word ≡ true) → (rows : List (List ℕ × Terminal)) →
    list_any (λ row. test row.0) rows ≡ false → terminal_in spells rows ≡ None
none_in spells test only [] none = refl
none_in spells test only (row ∷ rows) none =
    by (spells row.0) (test row.0) (terminal_in spells rows) refl refl none (λ e. none_in spells test only rows e)
  where
    by : (passes tested : Bool) (rest : Option Terminal) → spells row.0 ≡ passes → test row.0 ≡ tested →
        tested || list_any (λ r. test r.0) rows ≡ false → (list_any (λ r. test r.0) rows ≡ false → rest ≡ None) → cond passes (Some row.1) rest ≡ None
    by true true rest p q e more = absurd cc
    by true false rest p q e more = absurd (clash (test row.0) (only row.0 p) q)
    by false true rest p q e more = absurd cc
    by false false rest p q e more = more e

-- bytes of length 1 are their first byte alone
pub one_byte : (own : List ℕ) → length own ≡ 1 → (get_or own 0 0 ∷ []) ≡ own
one_byte [] e = absurd cc
one_byte (b ∷ []) e = refl
one_byte (b ∷ c ∷ own) e = absurd cc

-- a byte that is no mark alone
pub no_single_mark : (b : ℕ) → IsNoneOf b (42 ∷ 47 ∷ 37 ∷ 43 ∷ 45 ∷ 60 ∷ 62 ∷ 38 ∷ 94 ∷ 124 ∷ 126 ∷ 33 ∷ 40 ∷ 41 ∷ 91 ∷ 93 ∷ 44 ∷ 61 ∷ 58 ∷ []) →
    mark_terminal (b ∷ []) ≡ None
no_single_mark b h =
    mark_by_length (b ∷ []) 1 refl
    ∙ none_in (λ mark. bytes_eq mark (b ∷ [])) (λ mark. get_or mark 0 0 == b)
    (λ mark e. ap (λ (v : List ℕ). get_or v 0 0 == b) ((bytes_eq-Decides mark (b ∷ [])).0 e) ∙ eq-eqb b b refl) (rows_of_length 1 mark_table)
    (none_of b (42 ∷ 47 ∷ 37 ∷ 43 ∷ 45 ∷ 60 ∷ 62 ∷ 38 ∷ 94 ∷ 124 ∷ 126 ∷ 33 ∷ 40 ∷ 41 ∷ 91 ∷ 93 ∷ 44 ∷ 61 ∷ 58 ∷ []) h)

-- a byte that ends no mark of two bytes
pub no_double_mark : (a b : ℕ) → list_any (λ mark. mark == b) (codes "<>=&|.") ≡ false → is_mark_spelling (a ∷ b ∷ []) ≡ false
no_double_mark a b h =
    ap is_some (mark_by_length (a ∷ b ∷ []) 2 refl
    ∙ none_in (λ mark. bytes_eq mark (a ∷ b ∷ [])) (λ mark. get_or mark 1 0 == b)
    (λ mark e. ap (λ (v : List ℕ). get_or v 1 0 == b) ((bytes_eq-Decides mark (a ∷ b ∷ [])).0 e) ∙ eq-eqb b b refl) (rows_of_length 2 mark_table)
    (each (60 == b) (62 == b) (61 == b) _ h))
  where
    each : (c d e rest : Bool) → c || (d || (e || rest)) ≡ false → c || (d || (e || (e || (e || (e || rest))))) ≡ false
    each false false false rest h = h
    each false false true rest h = absurd cc
    each false true e rest h = absurd cc
    each true d e rest h = absurd cc

-- no mark has a byte 0 in the second place
pub no_zero_mark : (a : ℕ) → is_mark_spelling (a ∷ 0 ∷ []) ≡ false
unfolding mark_terminal
no_zero_mark a =
    ap is_some (none_in (λ mark. bytes_eq mark (a ∷ 0 ∷ [])) (λ mark. get_or mark 1 1 == 0)
    (λ mark e. ap (λ (v : List ℕ). get_or v 1 1 == 0) ((bytes_eq-Decides mark (a ∷ 0 ∷ [])).0 e)) mark_table refl)
