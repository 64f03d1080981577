-- The program that carries its padding breaks no rule.
use Rattle.std.proofs.Common.{◌≡◌, ℕ, zero, suc, ◌+◌, ◌||◌, ◌&&◌, Bool, true, false, cond, if◌then◌else◌, not, List, [], ◌∷◌, ◌++◌, length, map, take, Option, Some, None, is_some, slice_get, refl}
use Rattle.std.proofs.Common.{sym, ap, subst, ◌∙◌, arith, append-nil, append_assoc}
use Rattle.std.specs.Prelude.{is_none, pos, int_le, fold}
use Rattle.std.proofs.lemmas.Bool.{false≢true, true≢false, or_parts}
use Rattle.std.proofs.lemmas.Option.{same_Some, none-some}
use Rattle.std.proofs.lemmas.Slice.Eq.{bytes_eq-Decides}
use Rattle.std.proofs.lemmas.List.{map-append}
use Rattle.std.specs.List.{list_any, list_all}
use Rattle.std.specs.Map.{lookup}
use Rattle.std.specs.Str.{bytes_eq}
use Rattle.stapl_lexer.specs.declared.reason.Reason.{Reason}
use Rattle.stapl_lexer.specs.declared.reason.Reason.TheVariants as reasons
use Rattle.stapl_syntax.specs.declared.names.Block.{Block}
use Rattle.stapl_syntax.specs.declared.names.Found.{Found}
use Rattle.stapl_syntax.specs.declared.names.Kind.TheVariants.{Int, Either}
use Rattle.stapl_lexer.specs.declared.terminal.Padding.{Padding}
use Rattle.stapl_lexer.specs.declared.terminal.Padding.TheVariants as paddings
use Rattle.stapl_syntax.specs.Trees.{BodyTree, action, procedure, crc, end_procedure, StmtTree}
use Rattle.stapl_syntax.specs.Names.{Names, Numbered, numbered_from, numbered, inside_next, inside_from, inside_after, block_of, action_of, variable_of, label_of, firsts, key_eq, names_of}
use Rattle.stapl_syntax.specs.Names.{block_named, found_from, kind_of_found, has_label}
use Rattle.stapl_syntax.specs.Kinds.{is_int, number_kind, operands_suit}
use Rattle.stapl_syntax.specs.Mentions.{variables_named, procedures_named, blocks_used, labels_named, item_name}
use Rattle.stapl_syntax.specs.Rules.{is_action, is_block, is_crc, Place, is_outside, may_stand, is_data_block, in_data_block, any_body, place_after, Declared, declared_in, declares_again, Known}
use Rattle.stapl_syntax.specs.Rules.{known_from, is_absent, is_hidden, names_undefined, names_hidden, is_well_kinded, stops_unstable, boolean_elements, integer_elements, Totals, totals_of}
use Rattle.stapl_syntax.specs.Rules.{passes_a_limit, Facts, facts_after, breaks}
use Rattle.stapl_syntax.specs.Programs.{facts_at, IsProgram}
use Rattle.stapl_syntax.specs.declared.names.VarKind.{VarKind}
use Rattle.dev_card.specs.Padding.{BaseLengths}
use Rattle.stapl_meaning.specs.Scopes.{program_names}
use Rattle.stapl_meaning.proofs.Sound.{IsSound, sound}
use Rattle.canonical_text.specs.Examples.{bare_statement}
use Rattle.carried_plays.specs.CarriedPrograms.{ones_padding, padding_procedure, body_with_item, with_item, before_crc, from_crc, IsEnd, carried_with}
use Rattle.carried_plays.specs.PadNames.{IsFree}
use Rattle.carried_plays.proofs.BlockNames.{IsUnknown, free_is_unknown}
use Rattle.carried_plays.specs.CarriedRules.{BreaksNoRule}
use Rattle.carried_plays.proofs.CarriedPieces.{IsOther, other_block}
use Rattle.carried_plays.proofs.ProgramEnds.{take_some, at_front, program_ends_well}
use Rattle.carried_plays.proofs.CarriedNames.{EndsWell, split_at_crc, inside_with, declared_with, blocks_stay, actions_stay, variables_stay, labels_stay, found_same, same_kind, names_new}
use Rattle.carried_plays.proofs.CarriedNames.{new_block, declared_old, not_named_old}

-- ---- the statements of the program, with the new items

module _ (name : List ℕ) where
  pub may_same : (p : Place) (label : Option (List ℕ)) (b : BodyTree) → may_stand p label (body_with_item name b) ≡ may_stand p label b
  may_same p label (action own text items) = refl
  may_same p label _ = refl

  action_same : (b : BodyTree) → is_action (body_with_item name b) ≡ is_action b
  action_same (action own text items) = refl
  action_same _ = refl

  block_same : (b : BodyTree) → is_block (body_with_item name b) ≡ is_block b
  block_same (action own text items) = refl
  block_same _ = refl

  crc_same : (b : BodyTree) → is_crc (body_with_item name b) ≡ is_crc b
  crc_same (action own text items) = refl
  crc_same _ = refl

  variables_same : (b : BodyTree) → variables_named (body_with_item name b) ≡ variables_named b
  variables_same (action own text items) = refl
  variables_same _ = refl

  labels_same : (b : BodyTree) → labels_named (body_with_item name b) ≡ labels_named b
  labels_same (action own text items) = refl
  labels_same _ = refl

  stops_same : (b : BodyTree) → stops_unstable (body_with_item name b) ≡ stops_unstable b
  stops_same (action own text items) = refl
  stops_same _ = refl

  limit_same : (t : Totals) (b : BodyTree) → passes_a_limit t (body_with_item name b) ≡ passes_a_limit t b
  limit_same t (action own text items) = refl
  limit_same t _ = refl

  booleans_same : (b : BodyTree) → boolean_elements (body_with_item name b) ≡ boolean_elements b
  booleans_same (action own text items) = refl
  booleans_same _ = refl

  integers_same : (b : BodyTree) → integer_elements (body_with_item name b) ≡ integer_elements b
  integers_same (action own text items) = refl
  integers_same _ = refl

  suits_same : (kind : List ℕ → Option VarKind) (b : BodyTree) → operands_suit kind (body_with_item name b) ≡ operands_suit kind b
  suits_same kind (action own text items) = refl
  suits_same kind _ = refl

  again_same : (earlier : Declared) (now : Option (List ℕ)) (st : StmtTree) → declares_again earlier now (with_item name st) ≡ declares_again earlier now st
  again_same earlier now st = by st.body
    where
      by : (b : BodyTree) → declares_again earlier now (record { label = st.label; body = body_with_item name b }) ≡ declares_again earlier now (record { label = st.label; body = b })
      by (action own text items) = refl
      by _ = refl

  any_same : (test : BodyTree → Bool) → ((b : BodyTree) → test (body_with_item name b) ≡ test b) → (xs : List StmtTree) (n : ℕ)
      → any_body test (numbered_from n (map Some (map (with_item name) xs))) ≡ any_body test (numbered_from n (map Some xs))
  any_same test same [] n = refl
  any_same test same (x ∷ xs) n =
      ap (λ t. t || any_body test (numbered_from (n + 1) (map Some (map (with_item name) xs)))) (same x.body) ∙ ap (λ t. test x.body || t) (any_same test same xs (n + 1))

  sum_same : (f : BodyTree → ℕ) → ((b : BodyTree) → f (body_with_item name b) ≡ f b) → (xs : List StmtTree) (n a : ℕ)
      → fold (λ a (s : Numbered). a + f s.statement.body) a (numbered_from n (map Some (map (with_item name) xs)))
      ≡ fold (λ a (s : Numbered). a + f s.statement.body) a (numbered_from n (map Some xs))
  sum_same f same [] n a = refl
  sum_same f same (x ∷ xs) n a =
      ap (λ k. fold (λ a (s : Numbered). a + f s.statement.body) (a + k) (numbered_from (n + 1) (map Some (map (with_item name) xs)))) (same x.body)
      ∙ sum_same f same xs (n + 1) (a + f x.body)

  totals_same : (xs : List StmtTree) → totals_of (numbered_from 1 (map Some (map (with_item name) xs))) ≡ totals_of (numbered_from 1 (map Some xs))
  totals_same xs = λ j. record { booleans = sum_same boolean_elements booleans_same xs 1 0 j; integers = sum_same integer_elements integers_same xs 1 0 j }

  earlier_same : (xs : List StmtTree) → names_of (numbered_from 1 (map Some (map (with_item name) xs))) ≡ names_of (numbered_from 1 (map Some xs))
  earlier_same xs = λ j. record {
    blocks = firsts bytes_eq (declared_with name block_of (blocks_stay name) xs None 1 j);
    actions = firsts bytes_eq (declared_with name action_of (actions_stay name) xs None 1 j);
    variables = firsts key_eq (declared_with name variable_of (variables_stay name) xs None 1 j);
    labels = firsts key_eq (declared_with name label_of (labels_stay name) xs None 1 j);
  }

-- ---- one block more

none_kept : (f g : List ℕ → Bool) → ((sought : List ℕ) → f sought ≡ false → g sought ≡ false) → (xs : List (List ℕ)) → list_any f xs ≡ false → list_any g xs ≡ false
none_kept f g k [] e = refl
none_kept f g k (x ∷ xs) e =
    let p = or_parts (f x) (list_any f xs) e in
    ap (λ t. t || list_any g xs) (k x p.0) ∙ none_kept f g k xs p.1

module _ (name : List ℕ) (b : Block) (plain : b.is_data ≡ false) where
  found_if : (t : Bool) (x : Block) (o p : Option Block) → (is_none o ≡ false → is_none p ≡ false) → is_none (cond t (Some x) o) ≡ false → is_none (cond t (Some x) p) ≡ false
  found_if true x o p k e = refl
  found_if false x o p k e = k e

  still_found : (es : List (List ℕ × Block)) (sought : List ℕ) → is_none (lookup (bytes_eq sought) es) ≡ false → is_none (lookup (bytes_eq sought) (es ++ ((name, b) ∷ []))) ≡ false
  still_found [] sought e = absurd (true≢false e)
  still_found (e ∷ es) sought h = found_if (bytes_eq sought e.0) e.1 (lookup (bytes_eq sought) es) (lookup (bytes_eq sought) (es ++ ((name, b) ∷ []))) (still_found es sought) h

  new_found : (es : List (List ℕ × Block)) → is_none (lookup (bytes_eq name) (es ++ ((name, b) ∷ []))) ≡ false
  new_found [] = ap (λ t. is_none (cond t (Some b) None)) ((bytes_eq-Decides name name).1 refl)
  new_found (e ∷ es) = by (bytes_eq name e.0) (new_found es)
    where
      by : (t : Bool) → is_none (lookup (bytes_eq name) (es ++ ((name, b) ∷ []))) ≡ false → is_none (cond t (Some e.1) (lookup (bytes_eq name) (es ++ ((name, b) ∷ [])))) ≡ false
      by true k = refl
      by false k = k

  data_if : (t : Bool) (x : Block) (o p : Option Block) → is_data_block o ≡ is_data_block p → is_data_block (cond t (Some x) o) ≡ is_data_block (cond t (Some x) p)
  data_if true x o p e = refl
  data_if false x o p e = e

  no_new_data : (t : Bool) → is_data_block (cond t (Some b) None) ≡ false
  no_new_data true = plain
  no_new_data false = refl

  data_same : (es : List (List ℕ × Block)) (sought : List ℕ) → is_data_block (lookup (bytes_eq sought) (es ++ ((name, b) ∷ []))) ≡ is_data_block (lookup (bytes_eq sought) es)
  data_same [] sought = no_new_data (bytes_eq sought name)
  data_same (e ∷ es) sought = data_if (bytes_eq sought e.0) e.1 (lookup (bytes_eq sought) (es ++ ((name, b) ∷ []))) (lookup (bytes_eq sought) es) (data_same es sought)

no_data : (o : Option Block) → is_some o ≡ false → is_data_block o ≡ false
no_data None e = refl
no_data (Some x) e = absurd (true≢false e)

module _ (name : List ℕ) (names : Names) (b : Block) (plain : b.is_data ≡ false) (free : is_some (block_named names name) ≡ false) where
  abbrev more : Names
  more = record names { blocks = names.blocks ++ ((name, b) ∷ []) }

  in_data_same : (o : Option (List ℕ)) → in_data_block more o ≡ in_data_block names o
  in_data_same None = refl
  in_data_same (Some own) = data_same name b plain names.blocks own

  label_same : (o : Option (List ℕ)) (sought : List ℕ) → has_label more o sought ≡ has_label names o sought
  label_same None sought = refl
  label_same (Some block) sought = refl

  kind_same : (f : Found) → kind_of_found more f ≡ kind_of_found names f
  kind_same f = same_kind names (names.blocks ++ ((name, b) ∷ [])) f

  module _ (inside : Option (List ℕ)) (other : IsOther name inside) where
    abbrev known_old : Known
    known_old = known_from names inside

    abbrev known_new : Known
    known_new = known_from more inside

    found_is : known_new.found ≡ known_old.found
    found_is = λ j sought. found_same names name b inside other sought j

    kind_is : known_new.kind ≡ known_old.kind
    kind_is = λ j sought. (ap (kind_of_found more) (found_same names name b inside other sought) ∙ kind_same (found_from names inside sought)) j

    undefined_kept : (body : BodyTree) → names_undefined known_old body ≡ false → names_undefined known_new (body_with_item name body) ≡ false
    undefined_kept body e =
        let absent : Bool = list_any (λ sought. is_absent (known_old.found sought)) (variables_named body) in
        let unknown : Bool = list_any (λ sought. is_none (known_old.block sought)) (procedures_named body ++ blocks_used body) in
        let p = or_parts (absent || unknown) (list_any (λ sought. not (known_old.label sought)) (labels_named body)) e in
        let q = or_parts absent unknown p.0 in
        let vs : list_any (λ sought. is_absent (known_new.found sought)) (variables_named (body_with_item name body)) ≡ false =
        ap (list_any (λ sought. is_absent (known_new.found sought))) (variables_same name body)
        ∙ ap (λ (f : List ℕ → Found). list_any (λ sought. is_absent (f sought)) (variables_named body)) found_is ∙ q.0 in
        let ls : list_any (λ sought. not (known_new.label sought)) (labels_named (body_with_item name body)) ≡ false =
        ap (list_any (λ sought. not (known_new.label sought))) (labels_same name body)
        ∙ (λ j. list_any (λ sought. not (label_same inside sought j)) (labels_named body)) ∙ p.1 in
        let bs : list_any (λ sought. is_none (known_new.block sought)) (procedures_named (body_with_item name body) ++ blocks_used (body_with_item name body)) ≡ false = by body q.1 in
        ap (λ t. (t || list_any (λ sought. is_none (known_new.block sought)) (procedures_named (body_with_item name body) ++ blocks_used (body_with_item name body)))
        || list_any (λ sought. not (known_new.label sought)) (labels_named (body_with_item name body))) vs
        ∙ ap (λ t. t || list_any (λ sought. not (known_new.label sought)) (labels_named (body_with_item name body))) bs ∙ ls
      where
        kept : (xs : List (List ℕ)) → list_any (λ sought. is_none (block_named names sought)) xs ≡ false → list_any (λ sought. is_none (block_named more sought)) xs ≡ false
        kept xs e = none_kept (λ sought. is_none (block_named names sought)) (λ sought. is_none (block_named more sought)) (λ sought. still_found name b plain names.blocks sought) xs e

        by : (body : BodyTree) → list_any (λ sought. is_none (block_named names sought)) (procedures_named body ++ blocks_used body) ≡ false
            → list_any (λ sought. is_none (block_named more sought)) (procedures_named (body_with_item name body) ++ blocks_used (body_with_item name body)) ≡ false
        by (action own text items) e =
            ap (λ t. t || list_any (λ sought. is_none (block_named more sought)) (map item_name items ++ [])) (new_found name b plain names.blocks) ∙ kept (map item_name items ++ []) e
        by body e = kept (procedures_named body ++ blocks_used body) e

    hidden_same : (body : BodyTree) → names_hidden known_new (body_with_item name body) ≡ names_hidden known_old body
    hidden_same body =
        ap (list_any (λ sought. is_hidden (known_new.found sought))) (variables_same name body) ∙ ap (λ (f : List ℕ → Found). list_any (λ sought. is_hidden (f sought)) (variables_named body)) found_is

    procedures_kinded : (body : BodyTree) → list_all (λ sought. not (is_data_block (block_named names sought))) (procedures_named (body_with_item name body))
        ≡ list_all (λ sought. not (is_data_block (block_named names sought))) (procedures_named body)
    procedures_kinded (action own text items) =
        ap (λ t. not t && list_all (λ sought. not (is_data_block (block_named names sought))) (map item_name items)) (no_data (block_named names name) free)
    procedures_kinded _ = refl

    kinded_same : (body : BodyTree) → is_well_kinded known_new (body_with_item name body) ≡ is_well_kinded known_old body
    kinded_same body =
        (λ j. list_all (λ sought. not (data_same name b plain names.blocks sought j)) (procedures_named (body_with_item name body)) && operands_suit known_new.kind (body_with_item name body))
        ∙ ap (λ t. t && operands_suit known_new.kind (body_with_item name body)) (procedures_kinded body)
        ∙ ap (λ (k : List ℕ → Option VarKind). list_all (λ sought. not (is_data_block (block_named names sought))) (procedures_named body) && operands_suit k (body_with_item name body)) kind_is
        ∙ ap (λ t. list_all (λ sought. not (is_data_block (block_named names sought))) (procedures_named body) && t) (suits_same name known_old.kind body)

  -- a statement with its new items, after statements with theirs
  module _ (before : List StmtTree) (other : IsOther name (inside_after (numbered_from 1 (map Some before)))) where
    abbrev N : List Numbered
    N = numbered_from 1 (map Some before)

    abbrev N2 : List Numbered
    N2 = numbered_from 1 (map Some (map (with_item name) before))

    same_inside : inside_after N2 ≡ inside_after N
    same_inside = inside_with name before None 1

    same_place : place_after more N2 ≡ place_after names N
    same_place = λ j. record {
      in_procedure = (ap (λ o. is_some o && not (in_data_block more o)) same_inside ∙ ap (λ t. is_some (inside_after N) && not t) (in_data_same (inside_after N))) j;
      in_data = (ap (in_data_block more) same_inside ∙ in_data_same (inside_after N)) j;
      after_action = any_same name is_action (action_same name) before 1 j;
      after_block = any_same name is_block (block_same name) before 1 j;
      after_crc = any_same name is_crc (crc_same name) before 1 j;
    }

    pub still_keeps : (st : StmtTree) (reason : Reason) → breaks (facts_after names N) st reason ≡ false → breaks (facts_after more N2) (with_item name st) reason ≡ false
    still_keeps st reasons.Order e =
        ap (λ p. not (may_stand p st.label (body_with_item name st.body))) same_place ∙ ap not (may_same name (place_after names N) st.label st.body) ∙ e
    still_keeps st reasons.Duplicate e =
        ap (λ (ns : Names). declares_again (declared_in ns) (inside_after N2) (with_item name st)) (earlier_same name before)
        ∙ ap (λ o. declares_again (declared_in (names_of N)) o (with_item name st)) same_inside ∙ again_same name (declared_in (names_of N)) (inside_after N) st ∙ e
    still_keeps st reasons.Undefined e =
        ap (λ o. names_undefined (known_from more o) (body_with_item name st.body)) same_inside ∙ undefined_kept (inside_after N) other st.body e
    still_keeps st reasons.NotVisible e =
        ap (λ o. names_hidden (known_from more o) (body_with_item name st.body)) same_inside ∙ hidden_same (inside_after N) other st.body ∙ e
    still_keeps st reasons.TypeMismatch e =
        ap (λ o. not (is_well_kinded (known_from more o) (body_with_item name st.body))) same_inside ∙ ap not (kinded_same (inside_after N) other st.body) ∙ e
    still_keeps st reasons.NotStable e = stops_same name st.body ∙ e
    still_keeps st reasons.SizeLimit e =
        ap (λ t. passes_a_limit t (body_with_item name st.body)) (totals_same name before) ∙ limit_same name (totals_of N) st.body ∙ e
    still_keeps st _ e = refl

-- ---- the statements of the new procedure, and the end

int_number : (z : _) → is_int (Some (number_kind z)) ≡ true
int_number z = by (int_le (pos 0) z && int_le z (pos 1))
  where
    by : (t : Bool) → is_int (Some (if t then Either else Int)) ≡ true
    by true = refl
    by false = refl

pad_not_again : (earlier : Declared) (o : Option (List ℕ)) (which : Padding) (n : ℕ) → declares_again earlier o (ones_padding which n) ≡ false
pad_not_again earlier None which n = refl
pad_not_again earlier (Some block) which n = refl

end_not_again : (earlier : Declared) (o : Option (List ℕ)) → declares_again earlier o (bare_statement end_procedure) ≡ false
end_not_again earlier None = refl
end_not_again earlier (Some block) = refl

new_not_again : (name : List ℕ) (earlier : Declared) (o : Option (List ℕ)) → earlier.block name ≡ false → declares_again earlier o (bare_statement (procedure name None)) ≡ false
new_not_again name earlier None e = ap (λ t. ((t || false) || false) || false) e
new_not_again name earlier (Some block) e = ap (λ t. ((t || false) || false) || false) e

module _ (f : Facts) where
  pad_keeps : (which : Padding) (n : ℕ) (reason : Reason) → f.place.in_procedure ≡ true → breaks f (ones_padding which n) reason ≡ false
  pad_keeps which n reasons.Order e = ap not e
  pad_keeps which n reasons.Duplicate e = pad_not_again f.earlier f.inside which n
  pad_keeps which n reasons.TypeMismatch e = ap (λ t. not (true && (t && true))) (int_number (pos n))
  pad_keeps which n _ e = refl

  end_keeps : (reason : Reason) → f.place.in_procedure ≡ true → breaks f (bare_statement end_procedure) reason ≡ false
  end_keeps reasons.Order e = ap not e
  end_keeps reasons.Duplicate e = end_not_again f.earlier f.inside
  end_keeps _ e = refl

  outside_open : f.place.in_procedure ≡ false → f.place.in_data ≡ false → f.place.after_crc ≡ false → not (is_outside f.place && not f.place.after_crc) ≡ false
  outside_open a b c = ap (λ t. not (not (t || f.place.in_data) && not f.place.after_crc)) a ∙ ap (λ t. not (not (false || t) && not f.place.after_crc)) b ∙ ap (λ t. not (true && not t)) c

  new_keeps : (name : List ℕ) (reason : Reason) → f.place.in_procedure ≡ false → f.place.in_data ≡ false → f.place.after_crc ≡ false → f.earlier.block name ≡ false
      → breaks f (bare_statement (procedure name None)) reason ≡ false
  new_keeps name reasons.Order a b c e = outside_open a b c
  new_keeps name reasons.Duplicate a b c e = new_not_again name f.earlier f.inside e
  new_keeps name _ a b c e = refl

  crc_keeps : (st : StmtTree) (reason : Reason) → is_crc st.body ≡ true → f.place.in_procedure ≡ false → f.place.in_data ≡ false → f.place.after_crc ≡ false → f.inside ≡ None
      → breaks f st reason ≡ false
  crc_keeps st reason is a b c i = by st.body is reason
    where
      again : (o : Option (List ℕ)) (k : ℕ) → o ≡ None → declares_again f.earlier o (record { label = st.label; body = crc k }) ≡ false
      again o k e = subst (λ o. declares_again f.earlier o (record { label = st.label; body = crc k }) ≡ false) (sym e) refl

      by : (b : BodyTree) → is_crc b ≡ true → (reason : Reason) → breaks f (record { label = st.label; body = b }) reason ≡ false
      by (crc k) is reasons.Order = outside_open a b c
      by (crc k) is reasons.Duplicate = again f.inside k i
      by (crc k) is _ = refl
      by _ is reason = absurd (false≢true is)

-- ---- lists of statements one after another

take_map : (k : ℕ) (xs : List StmtTree) → take k (map Some xs) ≡ map Some (take k xs)
take_map zero xs = refl
take_map (suc k) [] = refl
take_map (suc k) (x ∷ xs) = ap (λ t. Some x ∷ t) (take_map k xs)

take_all : (xs : List StmtTree) → take (length xs) (map Some xs) ≡ map Some xs
take_all [] = refl
take_all (x ∷ xs) = ap (λ t. Some x ∷ t) (take_all xs)

inside_join : (xs ys : List StmtTree) (now : Option (List ℕ)) (n : ℕ)
    → inside_from now (numbered_from n (map Some (xs ++ ys))) ≡ inside_from (inside_from now (numbered_from n (map Some xs))) (numbered_from (n + length xs) (map Some ys))
inside_join [] ys now n = let e : n ≡ n + 0 = omega arith in ap (λ m. inside_from now (numbered_from m (map Some ys))) e
inside_join (x ∷ xs) ys now n =
    let e : n + 1 + length xs ≡ n + suc (length xs) = omega arith in
    inside_join xs ys (inside_next now x.body) (n + 1)
    ∙ ap (λ m. inside_from (inside_from (inside_next now x.body) (numbered_from (n + 1) (map Some xs))) (numbered_from m (map Some ys))) e

or_join : (a b c : Bool) → (a || (b || c)) ≡ ((a || b) || c)
or_join true b c = refl
or_join false b c = refl

any_join : (test : BodyTree → Bool) (xs ys : List StmtTree) (n : ℕ)
    → any_body test (numbered_from n (map Some (xs ++ ys))) ≡ (any_body test (numbered_from n (map Some xs)) || any_body test (numbered_from (n + length xs) (map Some ys)))
any_join test [] ys n = let e : n ≡ n + 0 = omega arith in ap (λ m. any_body test (numbered_from m (map Some ys))) e
any_join test (x ∷ xs) ys n =
    let e : n + 1 + length xs ≡ n + suc (length xs) = omega arith in
    ap (λ t. test x.body || t) (any_join test xs ys (n + 1) ∙ ap (λ m. any_body test (numbered_from (n + 1) (map Some xs)) || any_body test (numbered_from m (map Some ys))) e)
    ∙ or_join (test x.body) (any_body test (numbered_from (n + 1) (map Some xs))) (any_body test (numbered_from (n + suc (length xs)) (map Some ys)))

no_crc_before : (xs : List StmtTree) (n : ℕ) → any_body is_crc (numbered_from n (map Some (before_crc xs))) ≡ false
no_crc_before [] n = refl
no_crc_before (x ∷ xs) n = by (is_crc x.body) refl (no_crc_before xs (n + 1))
  where
    by : (t : Bool) → is_crc x.body ≡ t → any_body is_crc (numbered_from (n + 1) (map Some (before_crc xs))) ≡ false
        → any_body is_crc (numbered_from n (map Some (if t then [] else x ∷ before_crc xs))) ≡ false
    by true e k = refl
    by false e k = ap (λ t. t || any_body is_crc (numbered_from (n + 1) (map Some (before_crc xs)))) e ∙ k

end_has_no_action : (tail : List StmtTree) (n : ℕ) → IsEnd tail → any_body is_action (numbered_from n (map Some tail)) ≡ false
end_has_no_action [] n h = refl
end_has_no_action (st ∷ x ∷ rest) n h = absurd h
end_has_no_action (st ∷ []) n h = by st.body h
  where
    by : (b : BodyTree) → is_crc b ≡ true → (is_action b || false) ≡ false
    by (crc k) e = refl
    by _ e = absurd (false≢true e)

end_opens_none : (tail : List StmtTree) (n : ℕ) → IsEnd tail → inside_from None (numbered_from n (map Some tail)) ≡ None
end_opens_none [] n h = refl
end_opens_none (st ∷ x ∷ rest) n h = absurd h
end_opens_none (st ∷ []) n h = by st.body h
  where
    by : (b : BodyTree) → is_crc b ≡ true → inside_next None b ≡ None
    by (crc k) e = refl
    by _ e = absurd (false≢true e)

-- ---- the whole

module _ (name : List ℕ) (base : BaseLengths) (end program : List StmtTree) (h : EndsWell program) (closes : IsEnd end) (free : IsUnknown name program) (holds : IsSound program) where
  abbrev front : List StmtTree
  front = before_crc program

  abbrev front_with : List StmtTree
  front_with = map (with_item name) front

  abbrev six : List StmtTree
  six = padding_procedure name base

  abbrev new : List StmtTree
  new = carried_with name base end program

  abbrev names : Names
  names = program_names program

  abbrev fresh_block : Block
  fresh_block = new_block name base end program h closes free

  abbrev names2 : Names
  names2 = record names { blocks = names.blocks ++ ((name, fresh_block) ∷ []) }

  -- the facts after these statements
  abbrev facts_next : List StmtTree → Facts
  facts_next before = facts_after names2 (numbered_from 1 (map Some before))

  -- after the program, and some statements of the new procedure
  abbrev facts_in_new : List StmtTree → Facts
  facts_in_new ys = facts_next (front_with ++ ys)

  opens : (ys : List StmtTree) → (facts_in_new ys).inside ≡ inside_from None (numbered_from (1 + length front_with) (map Some ys))
  opens ys =
      inside_join front_with ys None 1 ∙ ap (λ o. inside_from o (numbered_from (1 + length front_with) (map Some ys))) (inside_with name front None 1 ∙ h.no_block)

  no_crc : (ys : List StmtTree) → any_body is_crc (numbered_from (1 + length front_with) (map Some ys)) ≡ false → (facts_in_new ys).place.after_crc ≡ false
  no_crc ys e =
      any_join is_crc front_with ys 1
      ∙ ap (λ t. t || any_body is_crc (numbered_from (1 + length front_with) (map Some ys))) (any_same name is_crc (crc_same name) front 1 ∙ no_crc_before program 1) ∙ e

  in_new : (ys : List StmtTree) → inside_from None (numbered_from (1 + length front_with) (map Some ys)) ≡ Some name → (facts_in_new ys).place.in_procedure ≡ true
  in_new ys e =
      ap (λ o. is_some o && not (in_data_block names2 o)) (opens ys ∙ e)
      ∙ ap (λ t. true && not t) (data_same name fresh_block refl names.blocks name ∙ no_data (block_named names name) free)

  outside_procedure : (ys : List StmtTree) → inside_from None (numbered_from (1 + length front_with) (map Some ys)) ≡ None → (facts_in_new ys).place.in_procedure ≡ false
  outside_procedure ys e = ap (λ o. is_some o && not (in_data_block names2 o)) (opens ys ∙ e)

  outside_data : (ys : List StmtTree) → inside_from None (numbered_from (1 + length front_with) (map Some ys)) ≡ None → (facts_in_new ys).place.in_data ≡ false
  outside_data ys e = ap (in_data_block names2) (opens ys ∙ e)

  not_yet : (facts_in_new []).earlier.block name ≡ false
  not_yet =
      ap (λ (xs : List StmtTree). is_some (lookup (bytes_eq name) (names_of (numbered_from 1 (map Some xs))).blocks)) (append-nil front_with)
      ∙ ap (λ (ns : Names). is_some (lookup (bytes_eq name) ns.blocks)) (earlier_same name front)
      ∙ ap (λ es. is_some (lookup (bytes_eq name) (firsts bytes_eq es))) (sym (declared_old name base end program h closes free block_of (λ n k label. refl)))
      ∙ free

  -- the statement at a place after the program
  after : (i : ℕ) (st : StmtTree) (reason : Reason) → slice_get (six ++ end) i ≡ Some st → breaks (facts_in_new (take i (six ++ end))) st reason ≡ false
  after zero st reason at =
      subst (λ (s : StmtTree). breaks (facts_in_new []) s reason ≡ false) (same_Some (bare_statement (procedure name None)) st at)
      (new_keeps (facts_in_new []) name reason (outside_procedure [] refl) (outside_data [] refl) (no_crc [] refl) not_yet)
  after (suc zero) st reason at =
      let ys : List StmtTree = take 1 (six ++ end) in
      subst (λ (s : StmtTree). breaks (facts_in_new ys) s reason ≡ false) (same_Some (ones_padding paddings.PreInstruction base.ir_pre) st at)
      (pad_keeps (facts_in_new ys) paddings.PreInstruction base.ir_pre reason (in_new ys refl))
  after (suc (suc zero)) st reason at =
      let ys : List StmtTree = take 2 (six ++ end) in
      subst (λ (s : StmtTree). breaks (facts_in_new ys) s reason ≡ false) (same_Some (ones_padding paddings.PostInstruction base.ir_post) st at)
      (pad_keeps (facts_in_new ys) paddings.PostInstruction base.ir_post reason (in_new ys refl))
  after (suc (suc (suc zero))) st reason at =
      let ys : List StmtTree = take 3 (six ++ end) in
      subst (λ (s : StmtTree). breaks (facts_in_new ys) s reason ≡ false) (same_Some (ones_padding paddings.PreData base.dr_pre) st at)
      (pad_keeps (facts_in_new ys) paddings.PreData base.dr_pre reason (in_new ys refl))
  after (suc (suc (suc (suc zero)))) st reason at =
      let ys : List StmtTree = take 4 (six ++ end) in
      subst (λ (s : StmtTree). breaks (facts_in_new ys) s reason ≡ false) (same_Some (ones_padding paddings.PostData base.dr_post) st at)
      (pad_keeps (facts_in_new ys) paddings.PostData base.dr_post reason (in_new ys refl))
  after (suc (suc (suc (suc (suc zero))))) st reason at =
      let ys : List StmtTree = take 5 (six ++ end) in
      subst (λ (s : StmtTree). breaks (facts_in_new ys) s reason ≡ false) (same_Some (bare_statement end_procedure) st at) (end_keeps (facts_in_new ys) reason (in_new ys refl))
  after (suc (suc (suc (suc (suc (suc i)))))) st reason at = at_end end i closes at
    where
      at_end : (tail : List StmtTree) (i : ℕ) → IsEnd tail → slice_get tail i ≡ Some st → breaks (facts_in_new (six ++ take i tail)) st reason ≡ false
      at_end [] i e at = absurd (none-some st at)
      at_end (x ∷ y ∷ rest) i e at = absurd e
      at_end (x ∷ []) (suc i) e at = absurd (none-some st at)
      at_end (x ∷ []) zero e at =
          let is : is_crc st.body ≡ true = subst (λ (s : StmtTree). is_crc s.body ≡ true) (same_Some x st at) e in
          crc_keeps (facts_in_new (six ++ [])) st reason is (outside_procedure (six ++ []) refl) (outside_data (six ++ []) refl) (no_crc (six ++ []) refl) (opens (six ++ []))

  -- each statement, where the program is cut
  each : (before rest : List StmtTree) → front ≡ before ++ rest → (i : ℕ) (st : StmtTree) (reason : Reason) → slice_get (map (with_item name) rest ++ (six ++ end)) i ≡ Some st
      → breaks (facts_next (map (with_item name) before ++ take i (map (with_item name) rest ++ (six ++ end)))) st reason ≡ false
  each before [] e i st reason at =
      let all : front ≡ before = e ∙ append-nil before in
      subst (λ (xs : List StmtTree). breaks (facts_next (map (with_item name) xs ++ take i (six ++ end))) st reason ≡ false) all (after i st reason at)
  each before (x ∷ rest) e zero st reason at =
      let whole : program ≡ before ++ (x ∷ (rest ++ from_crc program)) =
      split_at_crc program ∙ ap (λ t. t ++ from_crc program) e ∙ append_assoc before (x ∷ rest) (from_crc program) in
      let n : ℕ = length before in
      let here : take n (map Some program) ≡ map Some before = ap (λ ps. take n (map Some ps)) whole ∙ take_some before (x ∷ (rest ++ from_crc program)) in
      let found : slice_get program n ≡ Some x = ap (λ ps. slice_get ps n) whole ∙ at_front before (rest ++ from_crc program) x in
      let other : IsOther name (inside_after (numbered_from 1 (map Some before))) =
      subst (λ t. IsOther name (inside_after (numbered_from 1 t))) here (other_block name program n (not_named_old name base end program h closes free)) in
      let old : breaks (facts_after names (numbered_from 1 (map Some before))) x reason ≡ false =
      subst (λ t. breaks (facts_after names (numbered_from 1 t)) x reason ≡ false) here (holds.keeps n x reason found) in
      subst (λ (s : StmtTree). breaks (facts_next (map (with_item name) before ++ [])) s reason ≡ false) (same_Some (with_item name x) st at)
      (subst (λ (xs : List StmtTree). breaks (facts_next xs) (with_item name x) reason ≡ false) (sym (append-nil (map (with_item name) before)))
      (still_keeps name names fresh_block refl free before other x reason old))
  each before (x ∷ rest) e (suc i) st reason at =
      let y : StmtTree = with_item name x in
      let more : List StmtTree = take i (map (with_item name) rest ++ (six ++ end)) in
      subst (λ (xs : List StmtTree). breaks (facts_next xs) st reason ≡ false)
      (ap (λ t. t ++ more) (map-append (with_item name) before (x ∷ [])) ∙ append_assoc (map (with_item name) before) (y ∷ []) more)
      (each (before ++ (x ∷ [])) rest (e ∙ sym (append_assoc before (x ∷ []) rest)) i st reason at)

  keeps_rules : (i : ℕ) (st : StmtTree) (reason : Reason) → slice_get new i ≡ Some st → breaks (facts_at (map Some new) i) st reason ≡ false
  keeps_rules i st reason at =
      ap (λ t. breaks (facts_after (program_names new) (numbered t)) st reason) (take_map i new)
      ∙ ap (λ (ns : Names). breaks (facts_after ns (numbered_from 1 (map Some (take i new)))) st reason) (names_new name base end program h closes free)
      ∙ each [] front refl i st reason at

  closed_new : is_some (inside_after (numbered (take (length new) (map Some new)))) ≡ false
  closed_new = ap (λ t. is_some (inside_after (numbered t))) (take_all new) ∙ ap is_some (opens (six ++ end) ∙ end_opens_none end (1 + length front_with + 1 + 1 + 1 + 1 + 1 + 1) closes)

  acts_new : any_body is_action (numbered (take (length new) (map Some new))) ≡ true
  acts_new =
      let some_front : Bool = any_body is_action (numbered_from 1 (map Some front)) in
      let old : (some_front || any_body is_action (numbered_from (1 + length front) (map Some (from_crc program)))) ≡ true =
      sym (any_join is_action front (from_crc program) 1) ∙ ap (λ ps. any_body is_action (numbered_from 1 (map Some ps))) (sym (split_at_crc program))
      ∙ ap (λ t. any_body is_action (numbered t)) (sym (take_all program)) ∙ holds.acts in
      let some : some_front ≡ true =
      or_none some_front (any_body is_action (numbered_from (1 + length front) (map Some (from_crc program)))) (end_has_no_action (from_crc program) (1 + length front) h.end) old in
      ap (λ t. any_body is_action (numbered t)) (take_all new) ∙ any_join is_action front_with (six ++ end) 1
      ∙ ap (λ t. t || any_body is_action (numbered_from (1 + length front_with) (map Some (six ++ end)))) (any_same name is_action (action_same name) front 1 ∙ some)
    where
      or_none : (a b : Bool) → b ≡ false → (a || b) ≡ true → a ≡ true
      or_none true b e f = refl
      or_none false b e f = absurd (false≢true (sym e ∙ f))

  pub breaks_no_rule : BreaksNoRule new
  breaks_no_rule = record { keeps = keeps_rules; closed = closed_new; acts = acts_new }

pub carried_breaks_none : (text : List ℕ) (end program : List StmtTree) (name : List ℕ) (base : BaseLengths) → IsProgram text program → IsFree name program → IsEnd end
    → BreaksNoRule (carried_with name base end program)
carried_breaks_none text end program name base is free closes =
    breaks_no_rule name base end program (program_ends_well text program is) closes (free_is_unknown name program free) (sound text program is)
