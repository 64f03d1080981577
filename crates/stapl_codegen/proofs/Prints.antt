-- The parts of a PRINT give the text that its strings and values give.
use Rattle.std.proofs.Common.{◌≡◌, ℕ, suc, List, [], ◌∷◌, ◌++◌, length, drop, Some, refl, ap, ◌∙◌}
use Rattle.std.specs.Prelude.{slice_get}
use Rattle.stapl_syntax.specs.Kinds.{expr_kind}
use Rattle.stapl_syntax.specs.Trees.{PartTree, string, value, character}
use Rattle.stapl_meaning.specs.declared.values.ValueKind.{ValueKind}
use Rattle.stapl_meaning.specs.declared.values.ValueKind.TheVariants as kinds
use Rattle.stapl_meaning.specs.declared.values.Value.{Value}
use Rattle.stapl_meaning.specs.Values.{Known, Stuck, then_get, Lookup}
use Rattle.stapl_meaning.specs.Operands.{printed_kind, part_operands}
use Rattle.stapl_meaning.specs.Effects.{after_value, after_character, joined}
use Rattle.stapl_code.specs.declared.instr.PrintPart.{PrintPart}
use Rattle.stapl_code.specs.Machine.{Constants, part_slots, known_text, parts_text}
use Rattle.stapl_codegen.specs.Emit.{shown_part, print_parts, part_texts}
use Rattle.stapl_codegen.proofs.Constants.{HasItems}
use Rattle.stapl_code.proofs.Heads.{head_of, get_head, drop_tail}

module _ (entries : List ℕ) (constants : Constants) (look : Lookup) where
  -- a part that shows a value shows it as the value is
  shown_same : (kind : ValueKind) (rest : List PrintPart) (v : Value) (vs : List Value) →
      parts_text entries constants (shown_part kind ∷ rest) (v ∷ vs) ≡ after_value v (parts_text entries constants rest vs)
  shown_same kinds.Int rest v vs = refl
  shown_same kinds.Bit rest v vs = refl

  shown_none : (kind : ValueKind) (rest : List PrintPart) → parts_text entries constants (shown_part kind ∷ rest) [] ≡ Stuck
  shown_none kinds.Int rest = refl
  shown_none kinds.Bit rest = refl

  pub parts_are_joined : (list : List PartTree) (n : ℕ) (vs : List Value) → HasItems constants.texts n (part_texts list) →
      parts_text entries constants (print_parts look n list) vs ≡ joined list vs
  parts_are_joined [] n [] has = refl
  parts_are_joined [] n (v ∷ vs) has = refl
  parts_are_joined (string bytes ∷ list) n vs has =
      let at : slice_get constants.texts n ≡ Some bytes = get_head n constants.texts ∙ ap head_of has.from in
      let rest : HasItems constants.texts (suc n) (part_texts list) = record { more = has.more; from = drop_tail n constants.texts ∙ ap (drop 1) has.from } in
      ap (λ o. then_get (known_text o) (λ b. then_get (parts_text entries constants (print_parts look (suc n) list) vs) (λ more. Known (b ++ more)))) at
      ∙ ap (λ g. then_get g (λ more. Known (bytes ++ more))) (parts_are_joined list (suc n) vs rest)
  parts_are_joined (value e ∷ list) n [] has = shown_none (printed_kind (expr_kind look.kind e)) (print_parts look n list)
  parts_are_joined (value e ∷ list) n (v ∷ vs) has =
      shown_same (printed_kind (expr_kind look.kind e)) (print_parts look n list) v vs ∙ ap (after_value v) (parts_are_joined list n vs has)
  parts_are_joined (character e ∷ list) n [] has = refl
  parts_are_joined (character e ∷ list) n (v ∷ vs) has = ap (after_character v) (parts_are_joined list n vs has)

-- the parts take an operand for each that has one

shown_count : (kind : ValueKind) (rest : List PrintPart) → length (part_slots (shown_part kind ∷ rest)) ≡ suc (length (part_slots rest))
shown_count kinds.Int rest = refl
shown_count kinds.Bit rest = refl

pub parts_count : (look : Lookup) (list : List PartTree) (n : ℕ) → length (part_slots (print_parts look n list)) ≡ length (part_operands look list)
parts_count look [] n = refl
parts_count look (string bytes ∷ list) n = parts_count look list (suc n)
parts_count look (value e ∷ list) n = shown_count (printed_kind (expr_kind look.kind e)) (print_parts look n list) ∙ ap suc (parts_count look list n)
parts_count look (character e ∷ list) n = ap suc (parts_count look list n)
