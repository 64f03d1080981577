-- What a code has of the constants that a statement names.
use Rattle.std.proofs.Common.{◌≡◌, ℕ, suc, Bool, List, [], ◌∷◌, ◌++◌, length, drop, append_assoc, Some, refl, ap, ◌∙◌}
use Rattle.std.specs.Prelude.{slice_get}
use Rattle.stapl_syntax.specs.Trees.{ArrayTree, literal, whole, range, of_int}
use Rattle.stapl_meaning.specs.Values.{Known, Lookup, source_of}
use Rattle.stapl_meaning.specs.Operands.{array_operands}
use Rattle.stapl_code.specs.Machine.{Constants, source_slots, known_literal, known_source}
use Rattle.stapl_codegen.specs.Emit.{program_constants, source_code, array_literals, Firsts, past}
use Rattle.stapl_code.proofs.Heads.{head_of, get_head, drop_tail}

-- the list has these items from a number on
pub record HasItems {A : Type 0} (all : List A) (n : ℕ) (some : List A) : Type 0 where
  pub more : List A
  pub from : drop n all ≡ some ++ more

-- the constants have these texts and literals
pub record HasConstants (constants : Constants) (first : Firsts) (own_texts : List (List ℕ)) (own_literals : List (List Bool)) : Type 0 where
  pub texts : HasItems constants.texts first.text own_texts
  pub literals : HasItems constants.literals first.literal own_literals

module _ {A : Type 0} (all : List A) where
  drop_more : (n : ℕ) (front back : List A) → drop n all ≡ front ++ back → drop (past n front) all ≡ back
  drop_more n [] back e = e
  drop_more n (x ∷ front) back e = drop_more (suc n) front back (drop_tail n all ∙ ap (drop 1) e)

  -- of two lists of items, the first and the second
  pub has_front : (n : ℕ) (xs ys : List A) → HasItems all n (xs ++ ys) → HasItems all n xs
  has_front n xs ys has = record { more = ys ++ has.more; from = has.from ∙ append_assoc xs ys has.more }

  pub has_after : (n : ℕ) (xs ys : List A) → HasItems all n (xs ++ ys) → HasItems all (past n xs) ys
  has_after n xs ys has =
      record { more = has.more; from = drop_more n xs (ys ++ has.more) (has.from ∙ append_assoc xs ys has.more) }

-- of the constants of a row and of others, those of the row, and those of the others
module _ (constants : Constants) (first : Firsts) (row_texts texts : List (List ℕ)) (row_literals literals : List (List Bool))
    (has : HasConstants constants first (row_texts ++ texts) (row_literals ++ literals)) where
  pub row_has : HasConstants constants first row_texts row_literals
  row_has = record {
    texts = has_front constants.texts first.text row_texts texts has.texts;
    literals = has_front constants.literals first.literal row_literals literals has.literals;
  }

  pub others_have : HasConstants constants (record { text = past first.text row_texts; literal = past first.literal row_literals }) texts literals
  others_have = record {
    texts = has_after constants.texts first.text row_texts texts has.texts;
    literals = has_after constants.literals first.literal row_literals literals has.literals;
  }

-- the constant of a number, if it is there
pub item_known : {A : Type 0} (all : List A) (n : ℕ) (x : A) → HasItems all n (x ∷ []) → slice_get all n ≡ Some x
item_known all n x has = get_head n all ∙ ap head_of has.from

-- an array takes its bits from where its instruction does
pub source_known : (texts : List (List ℕ)) (literals : List (List Bool)) (look : Lookup) (n : ℕ) (a : ArrayTree) → HasItems literals n (array_literals a) →
    known_source (program_constants texts literals) (source_code look n a) ≡ Known (source_of look a)
source_known texts literals look n (literal bits) has = ap known_literal (item_known literals n bits has)
source_known texts literals look n (whole name) has = refl
source_known texts literals look n (range name high low) has = refl
source_known texts literals look n (of_int e) has = refl

-- and takes as many operands
pub source_count : (look : Lookup) (n : ℕ) (a : ArrayTree) → length (source_slots (source_code look n a)) ≡ length (array_operands look a)
source_count look n (literal bits) = refl
source_count look n (whole name) = refl
source_count look n (range name high low) = refl
source_count look n (of_int e) = refl
