-- The statements of the program that carries its padding can be printed, if its name is one of the language.
use Rattle.std.proofs.Common.{◌≡◌, ℕ, ◌≤◌, ◌+◌, Bool, true, false, ◌&&◌, if◌then◌else◌, List, [], ◌∷◌, ◌++◌, map, Option, Some, None, pos, refl, sym, ap, subst, ◌∙◌, arith}
use Rattle.std.specs.Prelude.{nat_lt}
use Rattle.std.specs.List.{list_all, AllByRecursion}
use Rattle.std.proofs.lemmas.Bool.{true≢false, and_parts, and_from}
use Rattle.std.proofs.lemmas.Bool.Decides.{nat_tests}
use Rattle.std.proofs.lemmas.List.Folds.{list_all-append}
use Rattle.stapl_lexer.specs.declared.terminal.OuterWord.TheVariants as outers
use Rattle.stapl_lexer.specs.declared.terminal.InnerWord.TheVariants as inners
use Rattle.stapl_lexer.specs.declared.terminal.PortWord.TheVariants as ports
use Rattle.stapl_lexer.specs.declared.terminal.Padding.{Padding}
use Rattle.stapl_lexer.specs.declared.terminal.Padding.TheVariants as paddings
use Rattle.stapl_lexer.specs.Depth.{is_opening, is_condition, is_operator}
use Rattle.stapl_syntax.specs.declared.signs.Sign.TheVariants as signs
use Rattle.stapl_syntax.specs.declared.statement.ItemChoice.{ItemChoice}
use Rattle.stapl_syntax.specs.Symbols.{Symbol, Plain}
use Rattle.stapl_syntax.specs.Trees.{ItemTree, BodyTree, action, procedure, end_procedure, number, StmtTree}
use Rattle.stapl_syntax.specs.Expressions.{name}
use Rattle.stapl_syntax.specs.Parts.{IsChoice, optional_item, recommended_item, IsPart, Separated, a_text, item_part, comma, equals, optional}
use Rattle.stapl_syntax.specs.Rules.{is_crc}
use Rattle.stapl_syntax.specs.Statements.{outer, inner, port, IsBody}
use Rattle.canonical_text.specs.Examples.{bare_statement}
use Rattle.canonical_text.specs.Printable.{sign_terminal, symbol_terminal, opens, conditions, operators, one_if, weight, OpensMany, CanBePrinted}
use Rattle.canonical_text.specs.Spellable.{is_held, is_printed_name, is_spellable_sign, is_spellable}
use Rattle.canonical_text.proofs.Grammar.{expr_is}
use Rattle.canonical_text.proofs.Kept.{weight-append}
use Rattle.dev_card.specs.Padding.{BaseLengths}
use Rattle.carried_plays.specs.CarriedPrograms.{ones_padding, padding_procedure, body_with_item, with_item, before_crc, from_crc, carried_program}
use Rattle.carried_plays.specs.CarriedRuns.{AreShort}

-- what opens no bracket opens not too many
opens_none : (s : List Symbol) → weight opens s ≡ 0 → OpensMany s → ⊥
opens_none s none many =
    let whole : weight opens s ≡ weight opens (many.front ++ (many.run ++ many.rest)) = ap (weight opens) many.parts in
    omega (arith, none, whole, weight-append opens many.front (many.run ++ many.rest), weight-append opens many.run many.rest, many.deep)

-- ---- actions

-- the parts of an action's writing
record ActionWriting (own : List ℕ) (text : Option (List ℕ)) (items : List ItemTree) (s : List Symbol) : Type 0 where
  said : List Symbol
  listed : List Symbol
  whole : s ≡ outer outers.Action ∷ name own ∷ (said ++ (equals ∷ listed))
  has_text : optional (IsPart a_text) text said
  has_items : Separated (IsPart item_part) comma items listed

parts_of : (own : List ℕ) (text : Option (List ℕ)) (items : List ItemTree) (s : List Symbol) → IsBody s (action own text items) → ActionWriting own text items s
parts_of own text items s is =
    let rest = is.2 in
    let tail = rest.4 in
    let after = tail.4 in
    record {
      said = tail.0;
      listed = after.0;
      whole = is.1 ∙ ap (λ t. outer outers.Action ∷ t) (rest.2 ∙ ap (λ t. t ++ rest.1) rest.3 ∙ ap (λ t. name own ∷ t) (tail.2 ∙ ap (λ t. tail.0 ++ t) after.1));
      has_text = tail.3;
      has_items = after.2;
    }

choice_opens_none : {s : List Symbol} {c : ItemChoice} → IsChoice s c → weight opens s ≡ 0
unfolding symbol_terminal sign_terminal is_opening
choice_opens_none optional_item = refl
choice_opens_none recommended_item = refl

item_opens_none : (item : ItemTree) (s : List Symbol) → IsPart item_part item s → weight opens s ≡ 0
unfolding symbol_terminal sign_terminal is_opening
item_opens_none item s is =
    let front : weight opens is.0 ≡ 0 = ap (weight opens) is.3 in
    let back : weight opens is.1 ≡ 0 = by item.1 is.4 in
    omega (arith, ap (weight opens) is.2, weight-append opens is.0 is.1, front, back)
  where
    by : (c : Option ItemChoice) → optional (λ c s. IsChoice s c) c is.1 → weight opens is.1 ≡ 0
    by None e = ap (weight opens) e
    by (Some c) h = choice_opens_none h

items_open_none : (items : List ItemTree) (s : List Symbol) → Separated (IsPart item_part) comma items s → weight opens s ≡ 0
unfolding symbol_terminal sign_terminal is_opening
items_open_none [] s is = absurd is
items_open_none (x ∷ []) s is = item_opens_none x s is
items_open_none (x ∷ y ∷ ys) s is =
    let front : weight opens is.0 ≡ 0 = item_opens_none x is.0 is.3 in
    let back : weight opens is.1 ≡ 0 = items_open_none (y ∷ ys) is.1 is.4 in
    let mark : 0 + weight opens is.1 ≡ weight opens (comma ∷ is.1) = refl in
    omega (arith, ap (weight opens) is.2, weight-append opens is.0 (comma ∷ is.1), front, back, mark)

text_opens_none : (text : Option (List ℕ)) (s : List Symbol) → optional (IsPart a_text) text s → weight opens s ≡ 0
unfolding symbol_terminal sign_terminal is_opening
text_opens_none None s e = ap (weight opens) e
text_opens_none (Some bytes) s e = ap (weight opens) e

module _ (new_name : List ℕ) (spells : is_printed_name new_name ≡ true) (own : List ℕ) (text : Option (List ℕ)) (items : List ItemTree)
    (can : CanBePrinted (bare_statement (action own text items))) where
  w : ActionWriting own text items can.writing
  w = parts_of own text items can.writing can.means

  -- the writing with the new item
  abbrev longer : List Symbol
  longer = outer outers.Action ∷ name own ∷ (w.said ++ (equals ∷ name new_name ∷ comma ∷ w.listed))

  abbrev shorter : List Symbol
  shorter = outer outers.Action ∷ name own ∷ (w.said ++ (equals ∷ w.listed))

  weighs : (f : Symbol → Bool) → f (name new_name) ≡ false → f comma ≡ false → weight f longer ≡ weight f can.writing
  weighs f e c =
      let a : one_if (f (name new_name)) ≡ 0 = ap one_if e in
      let b : one_if (f comma) ≡ 0 = ap one_if c in
      let whole : weight f can.writing ≡ weight f shorter = ap (weight f) w.whole in
      omega (arith, a, b, whole, weight-append f w.said (equals ∷ w.listed), weight-append f w.said (equals ∷ name new_name ∷ comma ∷ w.listed))

  items_are : (items : List ItemTree) (s : List Symbol) → Separated (IsPart item_part) comma items s →
      Separated (IsPart item_part) comma ((new_name, None) ∷ items) (name new_name ∷ comma ∷ s)
  items_are [] s is = absurd is
  items_are (x ∷ xs) s is = (name new_name ∷ [], s, refl, (name new_name ∷ [], [], refl, refl, refl), is)

  means_longer : IsBody longer (action own text ((new_name, None) ∷ items))
  means_longer = (
    name own ∷ (w.said ++ (equals ∷ name new_name ∷ comma ∷ w.listed)),
    refl,
    (
      name own ∷ [],
      w.said ++ (equals ∷ name new_name ∷ comma ∷ w.listed),
      refl,
      refl,
      (w.said, equals ∷ name new_name ∷ comma ∷ w.listed, refl, w.has_text, (name new_name ∷ comma ∷ w.listed, refl, items_are items w.listed w.has_items)),
    ),
  )

  spelled_longer : list_all is_spellable longer ≡ true
  unfolding is_spellable is_spellable_sign
  spelled_longer =
      let said : List Symbol = w.said in
      let all : (is_printed_name own && list_all is_spellable (said ++ (equals ∷ w.listed))) ≡ true = sym (ap (list_all is_spellable) w.whole) ∙ can.spelled in
      let p = and_parts (is_printed_name own) (list_all is_spellable (said ++ (equals ∷ w.listed))) all in
      let q = and_parts (list_all is_spellable said) (list_all is_spellable w.listed) (sym (list_all-append is_spellable said (equals ∷ w.listed)) ∙ p.1) in
      let back : list_all is_spellable (said ++ (equals ∷ name new_name ∷ comma ∷ w.listed)) ≡ true =
      list_all-append is_spellable said (equals ∷ name new_name ∷ comma ∷ w.listed)
      ∙ and_from (list_all is_spellable said) (is_printed_name new_name && list_all is_spellable w.listed) q.0 (and_from (is_printed_name new_name) (list_all is_spellable w.listed) spells q.1) in
      and_from (is_printed_name own) (list_all is_spellable (said ++ (equals ∷ name new_name ∷ comma ∷ w.listed))) p.0 back

  opens_longer : weight opens longer ≡ 0
  unfolding symbol_terminal sign_terminal is_opening
  opens_longer =
      let mark : 0 + (0 + (0 + weight opens w.listed)) ≡ weight opens (equals ∷ name new_name ∷ comma ∷ w.listed) = refl in
      let head : 0 + (0 + weight opens (w.said ++ (equals ∷ name new_name ∷ comma ∷ w.listed))) ≡ weight opens longer = refl in
      omega (
        arith,
        head,
        mark,
        weight-append opens w.said (equals ∷ name new_name ∷ comma ∷ w.listed),
        text_opens_none text w.said w.has_text,
        items_open_none items w.listed w.has_items,
      )

  pub action_with_item : CanBePrinted (bare_statement (action own text ((new_name, None) ∷ items)))
  unfolding symbol_terminal sign_terminal is_condition is_operator
  action_with_item = record {
    writing = longer;
    means = means_longer;
    spelled = spelled_longer;
    shallow = opens_none longer opens_longer;
    conditions_few = subst (λ n. n ≤ 32) (sym (weighs conditions refl refl)) can.conditions_few;
    operators_few = λ e. subst (λ n. n ≤ 256) (sym (weighs operators refl refl)) (can.operators_few refl);
  }

pub printed_with_item : (new_name : List ℕ) → is_printed_name new_name ≡ true → (st : StmtTree) → CanBePrinted st → CanBePrinted (with_item new_name st)
printed_with_item new_name spells st can = by st.label st.body can
  where
    by : (label : Option (List ℕ)) (b : BodyTree) → CanBePrinted (record { label = label; body = b }) → CanBePrinted (record { label = label; body = body_with_item new_name b })
    by None (action own text items) can = action_with_item new_name spells own text items can
    by (Some v) (action own text items) can = absurd (true≢false can.means.2)
    by label _ can = can

-- ---- the new procedure

procedure_printed : (new_name : List ℕ) → is_printed_name new_name ≡ true → CanBePrinted (bare_statement (procedure new_name None))
unfolding symbol_terminal sign_terminal is_opening is_condition is_operator is_spellable is_spellable_sign
procedure_printed new_name spells = record {
  writing = outer outers.Procedure ∷ name new_name ∷ [];
  means = (name new_name ∷ [], refl, (name new_name ∷ [], [], refl, refl, refl));
  spelled = ap (λ t. t && true) spells;
  shallow = opens_none (outer outers.Procedure ∷ name new_name ∷ []) refl;
  conditions_few = omega arith;
  operators_few = λ e. omega arith;
}

padding_printed : (which : Padding) (n : ℕ) → n ≤ 65536 → CanBePrinted (ones_padding which n)
unfolding symbol_terminal sign_terminal is_opening is_condition is_operator is_spellable is_spellable_sign is_held
padding_printed which n few = record {
  writing = port (ports.Pad which) ∷ Plain (signs.Number (pos n)) ∷ [];
  means = (Plain (signs.Number (pos n)) ∷ [], refl, (Plain (signs.Number (pos n)) ∷ [], [], refl, expr_is 10 (number (pos n)), refl));
  spelled = ap (λ t. t && true) (below n few);
  shallow = opens_none (port (ports.Pad which) ∷ Plain (signs.Number (pos n)) ∷ []) refl;
  conditions_few = omega arith;
  operators_few = λ e. omega arith;
}
  where
    below : (n : ℕ) → n ≤ 65536 → nat_lt n 2147483648 ≡ true
    below n le = grind (arith, nat_tests)

end_printed : CanBePrinted (bare_statement end_procedure)
unfolding symbol_terminal sign_terminal is_opening is_condition is_operator is_spellable is_spellable_sign
end_printed = record {
  writing = inner inners.EndProcedure ∷ [];
  means = refl;
  spelled = refl;
  shallow = opens_none (inner inners.EndProcedure ∷ []) refl;
  conditions_few = omega arith;
  operators_few = λ e. omega arith;
}

-- ---- the whole program

front_printed : (new_name : List ℕ) → is_printed_name new_name ≡ true → (xs : List StmtTree) → AllByRecursion CanBePrinted xs → (ys : List StmtTree) →
    AllByRecursion CanBePrinted ys → AllByRecursion CanBePrinted (map (with_item new_name) (before_crc xs) ++ ys)
front_printed new_name spells [] all ys h = h
front_printed new_name spells (x ∷ xs) all ys h = by (is_crc x.body) (front_printed new_name spells xs all.1 ys h)
  where
    by : (b : Bool) → AllByRecursion CanBePrinted (map (with_item new_name) (before_crc xs) ++ ys) →
        AllByRecursion CanBePrinted (map (with_item new_name) (if b then [] else x ∷ before_crc xs) ++ ys)
    by true k = h
    by false k = (printed_with_item new_name spells x all.0, k)

end_of : (xs : List StmtTree) → AllByRecursion CanBePrinted xs → AllByRecursion CanBePrinted (from_crc xs)
end_of [] all = tt
end_of (x ∷ xs) all = by (is_crc x.body) (end_of xs all.1)
  where
    by : (b : Bool) → AllByRecursion CanBePrinted (from_crc xs) → AllByRecursion CanBePrinted (if b then x ∷ xs else from_crc xs)
    by true k = all
    by false k = k

pub carried_printed : (new_name : List ℕ) (base : BaseLengths) (program : List StmtTree) → is_printed_name new_name ≡ true → AreShort base →
    AllByRecursion CanBePrinted program → AllByRecursion CanBePrinted (carried_program new_name base program)
carried_printed new_name base program spells short all =
    front_printed new_name spells program all (padding_procedure new_name base ++ from_crc program) (
      procedure_printed new_name spells,
      (
        padding_printed paddings.PreInstruction base.ir_pre short.ir_pre,
        (
          padding_printed paddings.PostInstruction base.ir_post short.ir_post,
          (
            padding_printed paddings.PreData base.dr_pre short.dr_pre,
            (padding_printed paddings.PostData base.dr_post short.dr_post, (end_printed, end_of program all)),
          ),
        ),
      ),
    )
