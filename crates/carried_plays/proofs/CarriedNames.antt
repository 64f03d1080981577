-- The names, the initial values and the pieces of the program that carries its padding: those of the program, and the
-- new procedure.
use Rattle.std.proofs.Common.{◌≡◌, ℕ, suc, ◌+◌, Bool, true, false, cond, if◌then◌else◌, List, [], ◌∷◌, ◌++◌, length, map, Option, Some, None, refl, sym, ap, subst, ◌∙◌, arith, append-nil}
use Rattle.std.proofs.lemmas.Bool.{false≢true, or_parts}
use Rattle.std.proofs.lemmas.Slice.Eq.{bytes_eq-Decides}
use Rattle.std.specs.List.{cons_option, list_any}
use Rattle.std.specs.Map.{lookup}
use Rattle.std.specs.Option.{option_map_or}
use Rattle.std.specs.Str.{bytes_eq}
use Rattle.stapl_syntax.specs.declared.names.Block.{Block}
use Rattle.stapl_syntax.specs.declared.names.Found.{Found}
use Rattle.stapl_syntax.specs.declared.names.Found.TheVariants as found
use Rattle.stapl_syntax.specs.Trees.{BodyTree, action, procedure, data_block, end_data, crc, StmtTree}
use Rattle.stapl_syntax.specs.Names.{Names, numbered_from, numbered, inside_next, inside_from, block_of_body, block_of, action_of, variable_of, label_of, declared_from, declared, put_first}
use Rattle.stapl_syntax.specs.Names.{firsts_after, firsts, key_eq, variable_number, found_in, blocks_seen, found_from, kind_of_found}
use Rattle.stapl_syntax.specs.Rules.{is_crc}
use Rattle.dev_card.specs.Padding.{BaseLengths}
use Rattle.stapl_meaning.specs.Scopes.{data_after, plays, idle, pieces_from, has_initial_value, Preset, preset_of, presets_from, program_names, as_played, number_found, lookup_from}
use Rattle.stapl_meaning.proofs.Blocks.{data_from}
use Rattle.stapl_meaning.proofs.Entries.{none_has_key, name_same}
use Rattle.carried_plays.specs.CarriedPrograms.{padding_procedure, body_with_item, with_item, before_crc, from_crc, IsEnd, carried_with}
use Rattle.carried_plays.proofs.BlockNames.{IsUnknown}
use Rattle.carried_plays.specs.OwnPaddings.{sets_padding}
use Rattle.carried_plays.proofs.CarriedPieces.{EachBody, NotNamed, IsApart, IsOther}
use Rattle.carried_plays.proofs.CarriedSteps.{IsCarried}
use Rattle.carried_plays.proofs.GivenValues.{given, given_join}
use Rattle.carried_plays.proofs.WholePlays.{AreOthers}

pub split_at_crc : (xs : List StmtTree) → xs ≡ before_crc xs ++ from_crc xs
split_at_crc [] = refl
split_at_crc (x ∷ xs) = by (is_crc x.body) (split_at_crc xs)
  where
    by : (b : Bool) → xs ≡ before_crc xs ++ from_crc xs → x ∷ xs ≡ (if b then [] else x ∷ before_crc xs) ++ (if b then x ∷ xs else from_crc xs)
    by true e = refl
    by false e = ap (λ t. x ∷ t) e

cons_both : {A : Type 0} (o : Option A) (xs ys : List A) → cons_option o (xs ++ ys) ≡ cons_option o xs ++ ys
cons_both None xs ys = refl
cons_both (Some x) xs ys = refl

-- pieces and initial values of statements one after another
pub pieces_plain : (xs ys : List StmtTree) (now : Option (List ℕ)) → pieces_from now (xs ++ ys) ≡ pieces_from now xs ++ pieces_from (data_from now xs) ys
pieces_plain [] ys now = refl
pieces_plain (x ∷ xs) ys now = ap (λ t. (if plays now x.body then x else idle) ∷ t) (pieces_plain xs ys (data_after now x.body))

pub presets_plain : (xs ys : List StmtTree) (now : Option (List ℕ)) → presets_from now (xs ++ ys) ≡ presets_from now xs ++ presets_from (data_from now xs) ys
presets_plain [] ys now = refl
presets_plain (x ∷ xs) ys now = ap (λ t. preset_of now x.body ∷ t) (presets_plain xs ys (data_after now x.body))

module _ {K V : Type 0} (declares : Option (List ℕ) → ℕ → StmtTree → Option (K × V)) where
  pub declared_plain : (xs ys : List StmtTree) (now : Option (List ℕ)) (n : ℕ)
      → declared_from declares now (numbered_from n (map Some (xs ++ ys)))
      ≡ declared_from declares now (numbered_from n (map Some xs))
      ++ declared_from declares (inside_from now (numbered_from n (map Some xs))) (numbered_from (n + length xs) (map Some ys))
  declared_plain [] ys now n = let e : n ≡ n + 0 = omega arith in ap (λ m. declared_from declares now (numbered_from m (map Some ys))) e
  declared_plain (x ∷ xs) ys now n =
      let e : n + 1 + length xs ≡ n + suc (length xs) = omega arith in
      let o : Option (K × V) = declares now n x in
      let next : Option (List ℕ) = inside_next now x.body in
      let rest : List (K × V) = declared_from declares next (numbered_from (n + 1) (map Some xs)) in
      ap (cons_option o) (declared_plain xs ys next (n + 1))
      ∙ cons_both o rest (declared_from declares (inside_from next (numbered_from (n + 1) (map Some xs))) (numbered_from (n + 1 + length xs) (map Some ys)))
      ∙ ap (λ m. cons_option o rest ++ declared_from declares (inside_from next (numbered_from (n + 1) (map Some xs))) (numbered_from m (map Some ys))) e

-- the same with the new items
module _ (name : List ℕ) where
  plays_stays : (now : Option (List ℕ)) (b : BodyTree) → plays now (body_with_item name b) ≡ plays now b
  plays_stays None (action own text items) = refl
  plays_stays None _ = refl
  plays_stays (Some block) b = refl

  data_stays : (now : Option (List ℕ)) (b : BodyTree) → data_after now (body_with_item name b) ≡ data_after now b
  data_stays now (action own text items) = refl
  data_stays now _ = refl

  inside_stays : (now : Option (List ℕ)) (b : BodyTree) → inside_next now (body_with_item name b) ≡ inside_next now b
  inside_stays now (action own text items) = refl
  inside_stays now _ = refl

  preset_stays : (now : Option (List ℕ)) (b : BodyTree) → preset_of now (body_with_item name b) ≡ preset_of now b
  preset_stays None b = refl
  preset_stays (Some block) (action own text items) = refl
  preset_stays (Some block) _ = refl

  piece_of : (b : Bool) (st : StmtTree) → (if b then with_item name st else idle) ≡ with_item name (if b then st else idle)
  piece_of true st = refl
  piece_of false st = refl

  pub pieces_with : (xs : List StmtTree) (now : Option (List ℕ)) → pieces_from now (map (with_item name) xs) ≡ map (with_item name) (pieces_from now xs)
  pieces_with [] now = refl
  pieces_with (x ∷ xs) now =
      ap (λ b. (if b then with_item name x else idle) ∷ pieces_from (data_after now (body_with_item name x.body)) (map (with_item name) xs)) (plays_stays now x.body)
      ∙ ap (λ y. y ∷ pieces_from (data_after now (body_with_item name x.body)) (map (with_item name) xs)) (piece_of (plays now x.body) x)
      ∙ ap (λ o. with_item name (if plays now x.body then x else idle) ∷ pieces_from o (map (with_item name) xs)) (data_stays now x.body)
      ∙ ap (λ t. with_item name (if plays now x.body then x else idle) ∷ t) (pieces_with xs (data_after now x.body))

  pub data_with : (xs : List StmtTree) (now : Option (List ℕ)) → data_from now (map (with_item name) xs) ≡ data_from now xs
  data_with [] now = refl
  data_with (x ∷ xs) now = ap (λ o. data_from o (map (with_item name) xs)) (data_stays now x.body) ∙ data_with xs (data_after now x.body)

  pub presets_with : (xs : List StmtTree) (now : Option (List ℕ)) → presets_from now (map (with_item name) xs) ≡ presets_from now xs
  presets_with [] now = refl
  presets_with (x ∷ xs) now =
      ap (λ o. o ∷ presets_from (data_after now (body_with_item name x.body)) (map (with_item name) xs)) (preset_stays now x.body)
      ∙ ap (λ o. preset_of now x.body ∷ presets_from o (map (with_item name) xs)) (data_stays now x.body)
      ∙ ap (λ t. preset_of now x.body ∷ t) (presets_with xs (data_after now x.body))

  pub inside_with : (xs : List StmtTree) (now : Option (List ℕ)) (n : ℕ)
      → inside_from now (numbered_from n (map Some (map (with_item name) xs))) ≡ inside_from now (numbered_from n (map Some xs))
  inside_with [] now n = refl
  inside_with (x ∷ xs) now n =
      ap (λ o. inside_from o (numbered_from (n + 1) (map Some (map (with_item name) xs)))) (inside_stays now x.body) ∙ inside_with xs (inside_next now x.body) (n + 1)

  module _ {K V : Type 0} (declares : Option (List ℕ) → ℕ → StmtTree → Option (K × V))
      (stays : (now : Option (List ℕ)) (n : ℕ) (st : StmtTree) → declares now n (with_item name st) ≡ declares now n st) where
    pub declared_with : (xs : List StmtTree) (now : Option (List ℕ)) (n : ℕ)
        → declared_from declares now (numbered_from n (map Some (map (with_item name) xs))) ≡ declared_from declares now (numbered_from n (map Some xs))
    declared_with [] now n = refl
    declared_with (x ∷ xs) now n =
        ap (λ o. cons_option o (declared_from declares (inside_next now (body_with_item name x.body)) (numbered_from (n + 1) (map Some (map (with_item name) xs))))) (stays now n x)
        ∙ ap (λ o. cons_option (declares now n x) (declared_from declares o (numbered_from (n + 1) (map Some (map (with_item name) xs))))) (inside_stays now x.body)
        ∙ ap (cons_option (declares now n x)) (declared_with xs (inside_next now x.body) (n + 1))

  same_block : (n : ℕ) (b : BodyTree) → block_of_body n (body_with_item name b) ≡ block_of_body n b
  same_block n (action own text items) = refl
  same_block n _ = refl

  pub blocks_stay : (now : Option (List ℕ)) (n : ℕ) (st : StmtTree) → block_of now n (with_item name st) ≡ block_of now n st
  blocks_stay now n st = same_block n st.body

  pub actions_stay : (now : Option (List ℕ)) (n : ℕ) (st : StmtTree) → action_of now n (with_item name st) ≡ action_of now n st
  actions_stay now n st = by st.body
    where
      by : (b : BodyTree) → action_of now n (record { label = st.label; body = body_with_item name b }) ≡ action_of now n (record { label = st.label; body = b })
      by (action own text items) = refl
      by _ = refl

  pub variables_stay : (now : Option (List ℕ)) (n : ℕ) (st : StmtTree) → variable_of now n (with_item name st) ≡ variable_of now n st
  variables_stay now n st = by st.body
    where
      by : (b : BodyTree) → variable_of now n (record { label = st.label; body = body_with_item name b }) ≡ variable_of now n (record { label = st.label; body = b })
      by (action own text items) = refl
      by _ = refl

  pub labels_stay : (now : Option (List ℕ)) (n : ℕ) (st : StmtTree) → label_of now n (with_item name st) ≡ label_of now n st
  labels_stay now n st = refl

-- ---- what stands at the end

module _ {K V : Type 0} (declares : Option (List ℕ) → ℕ → StmtTree → Option (K × V))
    (none : (n k : ℕ) (label : Option (List ℕ)) → declares None n (record { label = label; body = crc k }) ≡ None) where
  pub end_declares : (tail : List StmtTree) (n : ℕ) → IsEnd tail → declared_from declares None (numbered_from n (map Some tail)) ≡ []
  end_declares [] n h = refl
  end_declares (st ∷ x ∷ rest) n h = absurd h
  end_declares (st ∷ []) n h = by st.body h
    where
      by : (b : BodyTree) → is_crc b ≡ true → cons_option (declares None n (record { label = st.label; body = b })) [] ≡ []
      by (crc k) e = ap (λ o. cons_option o []) (none n k st.label)
      by _ e = absurd (false≢true e)

end_apart : (tail : List StmtTree) → IsEnd tail → EachBody IsApart (pieces_from None tail)
end_apart [] h = tt
end_apart (st ∷ x ∷ rest) h = absurd h
end_apart (st ∷ []) h = by st.body h
  where
    by : (b : BodyTree) → is_crc b ≡ true → EachBody IsApart ((if plays None b then record { label = st.label; body = b } else idle) ∷ [])
    by (crc k) e = (record { outer = refl; no_procedure = refl; no_action = refl }, tt)
    by _ e = absurd (false≢true e)

end_presets : (tail : List StmtTree) → IsEnd tail → given (presets_from None tail) ≡ []
end_presets [] h = refl
end_presets (st ∷ x ∷ rest) h = absurd h
end_presets (st ∷ []) h = refl

-- ---- lists of first entries

module _ {K V : Type 0} (eq : K → K → Bool) where
  after_join : (xs ys es : List (K × V)) → firsts_after eq es (xs ++ ys) ≡ firsts_after eq (firsts_after eq es xs) ys
  after_join [] ys es = refl
  after_join (x ∷ xs) ys es = after_join xs ys (put_first eq es x)

lookup_more : (own name : List ℕ) (es : List (List ℕ × Block)) (b : Block) → bytes_eq own name ≡ false → lookup (bytes_eq own) (es ++ ((name, b) ∷ [])) ≡ lookup (bytes_eq own) es
lookup_more own name [] b h = ap (λ t. cond t (Some b) None) h
lookup_more own name (e ∷ es) b h = ap (λ o. cond (bytes_eq own e.0) (Some e.1) o) (lookup_more own name es b h)

turned_round : (a b : List ℕ) → bytes_eq a b ≡ false → bytes_eq b a ≡ false
turned_round a b h = by (bytes_eq b a) refl
  where
    by : (t : Bool) → bytes_eq b a ≡ t → t ≡ false
    by false e = refl
    by true e = absurd (false≢true (sym h ∙ (bytes_eq-Decides a b).1 (sym ((bytes_eq-Decides b a).0 e))))

-- ---- what names stand for

module _ (names : Names) (more : List (List ℕ × Block)) where
  abbrev names2 : Names
  names2 = record names { blocks = more }

  in_blocks : (blocks : List (List ℕ)) (sought : List ℕ) → found_in names2 blocks sought ≡ found_in names blocks sought
  in_blocks [] sought = refl
  in_blocks (b ∷ blocks) sought = ap (option_map_or found.Variable (variable_number names b sought)) (in_blocks blocks sought)

  pub same_kind : (f : Found) → kind_of_found names2 f ≡ kind_of_found names f
  same_kind (found.Variable n) = refl
  same_kind found.Hidden = refl
  same_kind found.Absent = refl

  same_number : (f : Found) → number_found names2 f ≡ number_found names f
  same_number (found.Variable n) = refl
  same_number found.Hidden = refl
  same_number found.Absent = refl

pub seen_same : (names : Names) (name : List ℕ) (b : Block) (o : Option (List ℕ)) → IsOther name o
    → blocks_seen (record names { blocks = names.blocks ++ ((name, b) ∷ []) }) o ≡ blocks_seen names o
seen_same names name b None h = refl
seen_same names name b (Some own) h = ap (λ o. own ∷ option_map_or (λ (b : Block). b.uses) o []) (lookup_more own name names.blocks b (turned_round name own h))

pub found_same : (names : Names) (name : List ℕ) (b : Block) (inside : Option (List ℕ)) → IsOther name inside → (sought : List ℕ)
    → found_from (record names { blocks = names.blocks ++ ((name, b) ∷ []) }) inside sought ≡ found_from names inside sought
found_same names name b inside other sought =
    let more : List (List ℕ × Block) = names.blocks ++ ((name, b) ∷ []) in
    ap (λ bs. found_in (record names { blocks = more }) bs sought) (seen_same names name b inside other) ∙ in_blocks names more (blocks_seen names inside) sought

looks_same : (names : Names) (name : List ℕ) (b : Block) (inside : Option (List ℕ)) → IsOther name inside
    → lookup_from (record names { blocks = names.blocks ++ ((name, b) ∷ []) }) inside ≡ lookup_from names inside
looks_same names name b inside other = λ j. record { kind = λ sought. kinds sought j; variable = λ sought. numbers sought j }
  where
    kinds : (sought : List ℕ) → kind_of_found (record names { blocks = names.blocks ++ ((name, b) ∷ []) }) (found_from (record names { blocks = names.blocks ++ ((name, b) ∷ []) }) inside sought)
        ≡ kind_of_found names (found_from names inside sought)
    kinds sought =
        ap (kind_of_found (record names { blocks = names.blocks ++ ((name, b) ∷ []) })) (found_same names name b inside other sought)
        ∙ same_kind names (names.blocks ++ ((name, b) ∷ [])) (found_from names inside sought)

    numbers : (sought : List ℕ) → number_found (record names { blocks = names.blocks ++ ((name, b) ∷ []) }) (found_from (record names { blocks = names.blocks ++ ((name, b) ∷ []) }) inside sought)
        ≡ number_found names (found_from names inside sought)
    numbers sought =
        ap (number_found (record names { blocks = names.blocks ++ ((name, b) ∷ []) })) (found_same names name b inside other sought)
        ∙ same_number names (names.blocks ++ ((name, b) ∷ [])) (found_from names inside sought)

-- ---- the new name is new

not_named : (name : List ℕ) (xs : List StmtTree) (now : Option (List ℕ)) (n : ℕ)
    → list_any (λ (e : List ℕ × Block). bytes_eq name e.0) (declared_from block_of now (numbered_from n (map Some xs))) ≡ false → EachBody (NotNamed name) xs
not_named name [] now n h = tt
not_named name (x ∷ xs) now n h =
    let p = parts (declared_from block_of (inside_next now x.body) (numbered_from (n + 1) (map Some xs))) x.body h in
    (p.0, not_named name xs (inside_next now x.body) (n + 1) p.1)
  where
    parts : (later : List (List ℕ × Block)) (b : BodyTree) → list_any (λ (e : List ℕ × Block). bytes_eq name e.0) (cons_option (block_of_body n b) later) ≡ false
        → NotNamed name b × (list_any (λ (e : List ℕ × Block). bytes_eq name e.0) later ≡ false)
    parts later (procedure p uses) h = or_parts (bytes_eq name p) (list_any (λ (e : List ℕ × Block). bytes_eq name e.0) later) h
    parts later (data_block p) h = or_parts (bytes_eq name p) (list_any (λ (e : List ℕ × Block). bytes_eq name e.0) later) h
    parts later _ h = (tt, h)

-- what holds of each statement, and of an idle one, holds of each piece
each_piece : (P : BodyTree → Type 0) → P end_data → (xs : List StmtTree) (now : Option (List ℕ)) → EachBody P xs → EachBody P (pieces_from now xs)
each_piece P none [] now h = tt
each_piece P none (x ∷ xs) now h = (by (plays now x.body), each_piece P none xs (data_after now x.body) h.1)
  where
    by : (b : Bool) → P (if b then x else idle).body
    by true = h.0
    by false = none

each_part : (P : BodyTree → Type 0) (xs ys : List StmtTree) → EachBody P (xs ++ ys) → EachBody P xs × EachBody P ys
each_part P [] ys h = (tt, h)
each_part P (x ∷ xs) ys h = let p = each_part P xs ys h.1 in ((h.0, p.0), p.1)

other_data : (name : List ℕ) (now : Option (List ℕ)) (b : BodyTree) → NotNamed name b → IsOther name now → IsOther name (data_after now b)
other_data name now (data_block p) h o = h
other_data name now end_data h o = tt
other_data name now _ h o = o

more_others : (name : List ℕ) (now : Option (List ℕ)) (b : BodyTree) (presets : List Preset) → IsOther name now → AreOthers name presets
    → AreOthers name (cons_option (preset_of now b) presets)
more_others name None b presets o h = h
more_others name (Some block) b presets o h = by (has_initial_value b)
  where
    by : (t : Bool) → AreOthers name (cons_option (if t then Some (record { block = block; body = b }) else None) presets)
    by true = (o, h)
    by false = h

other_presets : (name : List ℕ) (xs : List StmtTree) (now : Option (List ℕ)) → EachBody (NotNamed name) xs → IsOther name now → AreOthers name (given (presets_from now xs))
other_presets name [] now h o = tt
other_presets name (x ∷ xs) now h o =
    more_others name now x.body (given (presets_from (data_after now x.body) xs)) o (other_presets name xs (data_after now x.body) h.1 (other_data name now x.body h.0 o))

-- How a program ends: with its CRC, or without one, and before it no block is open.
pub record EndsWell (program : List StmtTree) : Type 0 where
  pub end : IsEnd (from_crc program)
  pub no_block : inside_from None (numbered_from 1 (map Some (before_crc program))) ≡ None
  pub no_data : data_from None (before_crc program) ≡ None

module _ (name : List ℕ) (base : BaseLengths) (end program : List StmtTree) (h : EndsWell program) (closes : IsEnd end) (free : IsUnknown name program) where
  abbrev pub front : List StmtTree
  front = before_crc program

  abbrev pub tail : List StmtTree
  tail = from_crc program

  abbrev pub six : List StmtTree
  six = padding_procedure name base

  abbrev pub new : List StmtTree
  new = carried_with name base end program

  pieces_old : pieces_from None program ≡ pieces_from None front ++ pieces_from None tail
  pieces_old =
      ap (pieces_from None) (split_at_crc program) ∙ pieces_plain front tail None ∙ ap (λ o. pieces_from None front ++ pieces_from o tail) h.no_data

  data_new : data_from None (map (with_item name) front) ≡ None
  data_new = data_with name front None ∙ h.no_data

  pieces_new : pieces_from None new ≡ map (with_item name) (pieces_from None front) ++ (six ++ pieces_from None end)
  pieces_new =
      pieces_plain (map (with_item name) front) (six ++ end) None
      ∙ ap (λ o. pieces_from None (map (with_item name) front) ++ pieces_from o (six ++ end)) data_new
      ∙ ap (λ t. t ++ (six ++ pieces_from None end)) (pieces_with name front None)

  presets_new : given (presets_from None new) ≡ given (presets_from None front)
  presets_new =
      ap given (presets_plain (map (with_item name) front) (six ++ end) None
      ∙ ap (λ o. presets_from None (map (with_item name) front) ++ presets_from o (six ++ end)) data_new
      ∙ ap (λ t. t ++ presets_from None (six ++ end)) (presets_with name front None))
      ∙ given_join (presets_from None front) (presets_from None (six ++ end))
      ∙ ap (λ t. given (presets_from None front) ++ t) (end_presets end closes) ∙ append-nil (given (presets_from None front))

  presets_old : given (presets_from None program) ≡ given (presets_from None front)
  presets_old =
      ap given (ap (presets_from None) (split_at_crc program) ∙ presets_plain front tail None ∙ ap (λ o. presets_from None front ++ presets_from o tail) h.no_data)
      ∙ given_join (presets_from None front) (presets_from None tail)
      ∙ ap (λ t. given (presets_from None front) ++ t) (end_presets tail h.end) ∙ append-nil (given (presets_from None front))

  presets_same : given (presets_from None new) ≡ given (presets_from None program)
  presets_same = presets_new ∙ sym presets_old

  -- what is declared, of each sort
  module _ {K V : Type 0} (declares : Option (List ℕ) → ℕ → StmtTree → Option (K × V))
      (none : (n k : ℕ) (label : Option (List ℕ)) → declares None n (record { label = label; body = crc k }) ≡ None) where
    abbrev pub before : List (K × V)
    before = declared_from declares None (numbered_from 1 (map Some front))

    pub declared_old : declared declares (numbered (map Some program)) ≡ before
    declared_old =
        ap (λ xs. declared_from declares None (numbered_from 1 (map Some xs))) (split_at_crc program) ∙ declared_plain declares front tail None 1
        ∙ ap (λ o. before ++ declared_from declares o (numbered_from (1 + length front) (map Some tail))) h.no_block
        ∙ ap (λ t. before ++ t) (end_declares declares none tail (1 + length front) h.end) ∙ append-nil before

    module _ (stays : (now : Option (List ℕ)) (n : ℕ) (st : StmtTree) → declares now n (with_item name st) ≡ declares now n st) (added : List (K × V))
        (adds : declared_from declares None (numbered_from (1 + length (map (with_item name) front)) (map Some (six ++ end))) ≡ added) where
      declared_new : declared declares (numbered (map Some new)) ≡ before ++ added
      declared_new =
          declared_plain declares (map (with_item name) front) (six ++ end) None 1
          ∙ ap (λ o. declared_from declares None (numbered_from 1 (map Some (map (with_item name) front)))
          ++ declared_from declares o (numbered_from (1 + length (map (with_item name) front)) (map Some (six ++ end)))) (inside_with name front None 1 ∙ h.no_block)
          ∙ ap (λ t. declared_from declares None (numbered_from 1 (map Some (map (with_item name) front))) ++ t) adds
          ∙ ap (λ t. t ++ added) (declared_with name declares stays front None 1)

      declared_same : added ≡ [] → declared declares (numbered (map Some new)) ≡ declared declares (numbered (map Some program))
      declared_same e = declared_new ∙ ap (λ t. before ++ t) e ∙ append-nil before ∙ sym declared_old

  abbrev pub n1 : ℕ
  n1 = 1 + length (map (with_item name) front)

  abbrev pub n6 : ℕ
  n6 = n1 + 1 + 1 + 1 + 1 + 1 + 1

  same_variables : declared variable_of (numbered (map Some new)) ≡ declared variable_of (numbered (map Some program))
  same_variables =
      declared_same variable_of (λ n k label. refl) (variables_stay name) [] (end_declares variable_of (λ n k label. refl) end n6 closes) refl

  same_labels : declared label_of (numbered (map Some new)) ≡ declared label_of (numbered (map Some program))
  same_labels = declared_same label_of (λ n k label. refl) (labels_stay name) [] (end_declares label_of (λ n k label. refl) end n6 closes) refl

  same_actions : declared action_of (numbered (map Some new)) ≡ declared action_of (numbered (map Some program))
  same_actions = declared_same action_of (λ n k label. refl) (actions_stay name) [] (end_declares action_of (λ n k label. refl) end n6 closes) refl

  abbrev pub new_block : Block
  new_block = record { name = name; piece = n1; is_data = false; uses = [] }

  blocks_more : firsts bytes_eq (declared block_of (numbered (map Some new))) ≡ firsts bytes_eq (declared block_of (numbered (map Some program))) ++ ((name, new_block) ∷ [])
  blocks_more =
      let more : List (List ℕ × Block) = (name, new_block) ∷ [] in
      let old : List (List ℕ × Block) = declared block_of (numbered (map Some program)) in
      ap (firsts bytes_eq)
      (declared_new block_of (λ n k label. refl) (blocks_stay name) more (ap (cons_option (Some (name, new_block))) (end_declares block_of (λ n k label. refl) end n6 closes))
      ∙ ap (λ t. t ++ more) (sym (declared_old block_of (λ n k label. refl))))
      ∙ after_join bytes_eq old more [] ∙ ap (λ t. if t then firsts bytes_eq old else firsts bytes_eq old ++ more) free

  pub names_new : program_names new ≡ record (program_names program) { blocks = (program_names program).blocks ++ ((name, new_block) ∷ []) }
  names_new = λ j. record {
    blocks = blocks_more j;
    actions = ap (firsts bytes_eq) same_actions j;
    variables = ap (firsts key_eq) same_variables j;
    labels = ap (firsts key_eq) same_labels j;
  }

  pub not_named_old : EachBody (NotNamed name) program
  not_named_old = not_named name program None 1 (none_has_key bytes_eq name_same name (declared block_of (numbered (map Some program))) free)

  pub is_carried : IsCarried name base (as_played program) (as_played new)
  is_carried = record {
    front = pieces_from None front;
    tail = pieces_from None tail;
    old_is = pieces_old;
    end = pieces_from None end;
    new_is = pieces_new;
    apart = end_apart tail h.end;
    end_apart = end_apart end closes;
    fresh = subst (λ (ps : List StmtTree). EachBody (NotNamed name) ps) pieces_old (each_piece (NotNamed name) tt program None not_named_old);
    looks = λ inside other. ap (λ (ns : Names). lookup_from ns inside) names_new ∙ looks_same (program_names program) name new_block inside other;
    labels = ap (λ (ns : Names). ns.labels) names_new;
    variables = ap (λ (ns : Names). ns.variables) names_new;
    presets = presets_same;
  }

  pub are_others : AreOthers name (given (as_played program).presets)
  are_others = other_presets name program None not_named_old tt

pub bare_pieces : (program : List StmtTree) → EachBody (λ b. sets_padding b ≡ false) program → EachBody (λ b. sets_padding b ≡ false) (as_played program).pieces
bare_pieces program h = each_piece (λ b. sets_padding b ≡ false) refl program None h
