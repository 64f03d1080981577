-- The code of a procedure of an accepted program breaks no rule.
use Rattle.std.proofs.Common.{◌≡◌, ℕ, zero, suc, ◌+◌, ◌-◌, ◌<◌, ◌≤◌, Bool, true, false, cond, ◌&&◌, List, [], ◌∷◌, ◌++◌, length, length-append, map, drop, Option, Some, None, arith, refl, sym, ap, subst, ◌∙◌, add-one, nat_lt, true≢false}
use Rattle.std.specs.Prelude.{slice_get, All, IfSome, nat_le}
use Rattle.std.proofs.lemmas.List.{drop_at}
use Rattle.std.proofs.lemmas.Bool.{le-leb, ltb-true, ltb-false}
use Rattle.std.proofs.lemmas.Option.{same_Some}
use Rattle.stapl_syntax.specs.Trees.{BodyTree, procedure, data_block, end_data, end_procedure, StmtTree}
use Rattle.stapl_syntax.specs.Statements.{is_outer, ends_procedure}
use Rattle.stapl_shapes.specs.Shapes.{is_inner_shape, HasShape}
use Rattle.stapl_syntax.specs.declared.names.Declaration.{Declaration}
use Rattle.stapl_syntax.specs.Names.{declaration, inside_next}
use Rattle.stapl_meaning.specs.Scopes.{Played, scope_at, block_at}
use Rattle.stapl_meaning.specs.Typed.{IsInBlock, IsDeclared, IsTyped}
use Rattle.stapl_meaning.proofs.Resolved.{inner_has_shape}
use Rattle.stapl_meaning.proofs.Entries.{all_at}
use Rattle.std.specs.List.{AllByRecursion}
use Rattle.stapl_syntax.specs.Kinds.{operands_suit}
use Rattle.stapl_syntax.specs.Mentions.{labels_named}
use Rattle.stapl_syntax.specs.Rules.{stops_unstable}
use Rattle.stapl_codegen.specs.Generated.{variable_def}
use Rattle.stapl_code.specs.declared.instr.Instr.{Instr}
use Rattle.stapl_code.specs.declared.instr.Instr.TheVariants.{Turn, EndProc}
use Rattle.stapl_code.specs.declared.raw.VarDef.{VarDef}
use Rattle.stapl_code.specs.Valid.{is_turn, is_last, is_target, procedure_break}
use Rattle.stapl_codegen.specs.Emit.{body_code, firsts_at, pieces_code, program_code, start_of}
use Rattle.stapl_code.proofs.Heads.{head_of, get_head, drop_tail}
use Rattle.stapl_codegen.proofs.Heads.{drop_front}
use Rattle.stapl_codegen.proofs.Lists.{pieces_split, code_split, pieces_append}
use Rattle.stapl_codegen.proofs.Drafts.{inside_more}
use Rattle.stapl_codegen.proofs.Ordered.{AreOwn}
use Rattle.stapl_codegen.proofs.Opened.{IsProcedure, opened, once}
use Rattle.stapl_codegen.proofs.WellKinded.{Fine, Follows, fine_step}
use Rattle.stapl_codegen.proofs.WellPlaced.{body_last, body_fine, turn_stands}
use Rattle.stapl_codegen.proofs.Pieces.{start_is, code_from}
use Rattle.stapl_codegen.proofs.Ranges.{agrees_from}
use Rattle.stapl_codegen.proofs.WellKinded.{Agrees}

-- a place below the length is that of an element
pub record Stands {A : Type 0} (k : ℕ) (xs : List A) : Type 0 where
  pub item : A
  pub rest : List A
  pub is : drop k xs ≡ item ∷ rest

stands_at : {A : Type 0} (k : ℕ) (xs : List A) → k < length xs → Stands k xs
stands_at k [] below = absurd (omega (arith, below))
stands_at zero (x ∷ xs) below = record { item = x; rest = xs; is = refl }
stands_at (suc k) (x ∷ xs) below = let s = stands_at k xs (omega (arith, below)) in record { item = s.item; rest = s.rest; is = s.is }

-- from such a place on stand fewer elements
fewer : {A : Type 0} (k : ℕ) (xs : List A) (x : A) (rest : List A) → drop k xs ≡ x ∷ rest → length xs ≡ k + suc (length rest)
fewer zero [] x rest e = absurd cc
fewer zero (y ∷ ys) x rest e = omega (arith, ap length e)
fewer (suc k) [] x rest e = absurd cc
fewer (suc k) (y ∷ ys) x rest e = let more = fewer k ys x rest e in omega (arith, more)

no_items : {A : Type 0} (xs : List A) → length xs ≡ 0 → xs ≡ []
no_items [] e = refl
no_items (x ∷ xs) e = absurd (omega (arith, e))

-- the statements of a procedure are inner ones, and no ENDPROC stands in front of the last
own_inner : (own : List StmtTree) (k : ℕ) (st : StmtTree) (rest : List StmtTree) → AreOwn own → drop k own ≡ st ∷ rest → is_outer st.body ≡ false
own_inner [] k st rest are e = absurd are
own_inner (x ∷ []) zero st rest are e = let same : x ≡ st = cc in ap (λ (s : StmtTree). is_outer s.body) (sym same) ∙ are.0
own_inner (x ∷ []) (suc zero) st rest are e = absurd cc
own_inner (x ∷ []) (suc (suc k)) st rest are e = absurd cc
own_inner (x ∷ y ∷ ys) zero st rest are e = let same : x ≡ st = cc in ap (λ (s : StmtTree). is_outer s.body) (sym same) ∙ are.0
own_inner (x ∷ y ∷ ys) (suc k) st rest are e = own_inner (y ∷ ys) k st rest are.2 e

own_goes_on : (own : List StmtTree) (k : ℕ) (st next : StmtTree) (rest : List StmtTree) → AreOwn own → drop k own ≡ st ∷ next ∷ rest → ends_procedure st.body ≡ false
own_goes_on [] k st next rest are e = absurd are
own_goes_on (x ∷ []) zero st next rest are e = absurd cc
own_goes_on (x ∷ []) (suc zero) st next rest are e = absurd cc
own_goes_on (x ∷ []) (suc (suc k)) st next rest are e = absurd cc
own_goes_on (x ∷ y ∷ ys) zero st next rest are e = let same : x ≡ st = cc in ap (λ (s : StmtTree). ends_procedure s.body) (sym same) ∙ are.1
own_goes_on (x ∷ y ∷ ys) (suc k) st next rest are e = own_goes_on (y ∷ ys) k st next rest are.2 e

own_ends : (own : List StmtTree) (k : ℕ) (st : StmtTree) → AreOwn own → drop k own ≡ st ∷ [] → st.body ≡ end_procedure
own_ends [] k st are e = absurd are
own_ends (x ∷ []) zero st are e = let same : x ≡ st = cc in ap (λ (s : StmtTree). s.body) (sym same) ∙ are.1
own_ends (x ∷ []) (suc zero) st are e = absurd cc
own_ends (x ∷ []) (suc (suc k)) st are e = absurd cc
own_ends (x ∷ y ∷ ys) zero st are e = absurd cc
own_ends (x ∷ y ∷ ys) (suc k) st are e = own_ends (y ∷ ys) k st are.2 e

pub own_some : (own : List StmtTree) → AreOwn own → 0 < length own
own_some [] are = absurd are
own_some (x ∷ xs) are = omega arith

-- a statement that begins no block and ends none leaves the open one
stays_inside : (b : BodyTree) (now : Option (List ℕ)) → is_outer b ≡ false → ends_procedure b ≡ false → inside_next now b ≡ now
stays_inside (procedure name uses) now inner goes = absurd cc
stays_inside (data_block name) now inner goes = absurd cc
stays_inside end_data now inner goes = absurd cc
stays_inside end_procedure now inner goes = absurd cc
stays_inside _ now inner goes = refl

begun : (b : BodyTree) (name : List ℕ) (now : Option (List ℕ)) → IsProcedure name b → inside_next now b ≡ Some name
begun (procedure p uses) name now is = ap Some is
begun _ name now is = absurd is

module _ (program : Played) (shaped : All HasShape program.pieces) (typed : IsTyped program) where
  abbrev pub code : List Instr
  code = program_code program

  abbrev pub From : ℕ → List StmtTree → List Instr
  From i sts = pieces_code program (start_of program) i sts

  abbrev pub defs : List VarDef
  defs = map variable_def program.names.variables

  -- a piece of a procedure begins with its turn
  begins_with_turn : (i : ℕ) (st : StmtTree) (rest : List StmtTree) → is_outer st.body ≡ false →
      From i (st ∷ rest) ≡ Turn (i + 1) ∷ body_code (scope_at program i) (start_of program) (firsts_at program i) st.body (From (i + 1) rest)
  begins_with_turn i st rest inner =
      ap (λ b. cond b (From (i + 1) rest) (Turn (i + 1) ∷ body_code (scope_at program i) (start_of program) (firsts_at program i) st.body (From (i + 1) rest))) inner

  -- where the code from a place on begins, if the statement there has code
  pub start_from : (i : ℕ) (st : StmtTree) (rest : List StmtTree) → drop i program.pieces ≡ st ∷ rest → is_outer st.body ≡ false →
      start_of program i ≡ length code - length (From i (st ∷ rest))
  start_from i st rest e inner =
      start_is program i st (get_head i program.pieces ∙ ap head_of e) inner ∙ ap (λ l. length code - length (From i l)) e

  pub code_within : (i : ℕ) (sts : List StmtTree) → drop i program.pieces ≡ sts → length (From i sts) ≤ length code
  code_within i sts e =
      let split = code_split program (start_of program) i in
      let whole : length code ≡ length (split.0 ++ From i (drop i program.pieces)) = ap length split.1 in
      let from : length (From i (drop i program.pieces)) ≡ length (From i sts) = ap (λ l. length (From i l)) e in
      omega (arith, whole, from, length-append split.0 (From i (drop i program.pieces)))

  -- a procedure: its head, its own statements, and what stands after it
  module _ (head : StmtTree) (name : List ℕ) (is_head : IsProcedure name head.body) (h : ℕ) (own back : List StmtTree)
      (at : drop h program.pieces ≡ head ∷ own ++ back) (are : AreOwn own) where
    pub own_at : drop (h + 1) program.pieces ≡ own ++ back
    own_at = rw add-one (drop_tail h program.pieces ∙ ap (drop 1) at)

    abbrev pub procedure_code : List Instr
    procedure_code = From (h + 1) own

    abbrev pub entry : ℕ
    entry = start_of program (h + 1)

    -- a statement of the procedure, by its place in it
    there : (k j : ℕ) (st : StmtTree) (rest : List StmtTree) → j ≡ h + 1 + k → drop k own ≡ st ∷ rest → drop j program.pieces ≡ st ∷ rest ++ back
    there k j st rest is e =
        let long = fewer k own st rest e in
        ap (λ n. drop n program.pieces) is ∙ drop_front k (h + 1) program.pieces own back own_at (omega (arith, long)) ∙ ap (λ l. l ++ back) e

    got : (k j : ℕ) (st : StmtTree) (rest : List StmtTree) → j ≡ h + 1 + k → drop k own ≡ st ∷ rest → slice_get program.pieces j ≡ Some st
    got k j st rest is e = get_head j program.pieces ∙ ap head_of (there k j st rest is e)

    head_there : slice_get program.pieces h ≡ Some head
    head_there = get_head h program.pieces ∙ ap head_of at

    -- the block that is open in the procedure is the procedure
    open_first : block_at program.pieces (h + 1) ≡ Some name
    open_first =
        sym (inside_more program h head (at ∙ ap (λ l. head ∷ l) (sym own_at)) (block_at program.pieces h) (inside_next (block_at program.pieces h) head.body) refl refl)
        ∙ begun head.body name (block_at program.pieces h) is_head

    open_next : (k j : ℕ) (st next : StmtTree) (rest : List StmtTree) → j ≡ h + 1 + k → drop k own ≡ st ∷ next ∷ rest →
        block_at program.pieces j ≡ Some name → block_at program.pieces (j + 1) ≡ Some name
    open_next k j st next rest is e now =
        let here : drop j program.pieces ≡ st ∷ next ∷ rest ++ back = there k j st (next ∷ rest) is e in
        let after : drop (j + 1) program.pieces ≡ next ∷ rest ++ back = rw add-one (drop_tail j program.pieces ∙ ap (drop 1) here) in
        sym (inside_more program j st (here ∙ ap (λ l. st ∷ l) (sym after)) (block_at program.pieces j) (inside_next (block_at program.pieces j) st.body) refl refl)
        ∙ stays_inside st.body (block_at program.pieces j) (own_inner own k st (next ∷ rest) are e) (own_goes_on own k st next rest are e)
        ∙ now

    open_along : (n k j : ℕ) (sts : List StmtTree) (st : StmtTree) (rest : List StmtTree) → j ≡ h + 1 + k → drop k own ≡ sts → block_at program.pieces j ≡ Some name →
        drop n sts ≡ st ∷ rest → block_at program.pieces (j + n) ≡ Some name
    open_along zero k j sts st rest is e now found = ap (block_at program.pieces) (omega arith) ∙ now
    open_along (suc n) k j [] st rest is e now found = absurd cc
    open_along (suc n) k j (x ∷ []) st rest is e now found = absurd (omega (arith, fewer n [] st rest found))
    open_along (suc n) k j (x ∷ y ∷ ys) st rest is e now found =
        let next : j + 1 + n ≡ j + suc n = omega arith in
        ap (block_at program.pieces) (sym next)
        ∙ open_along n (suc k) (j + 1) (y ∷ ys) st rest (omega (arith, is)) (drop_tail k own ∙ ap (drop 1) e) (open_next k j x y ys is e now) found

    open_in : (k j : ℕ) (st : StmtTree) (rest : List StmtTree) → j ≡ h + 1 + k → drop k own ≡ st ∷ rest → block_at program.pieces j ≡ Some name
    open_in k j st rest is e = ap (block_at program.pieces) is ∙ open_along k 0 (h + 1) own st rest (omega arith) refl open_first e

    -- the code of a statement of the procedure, after so many instructions of it
    pub record IsAfter (k j : ℕ) (sts : List StmtTree) : Type 0 where
      pub before : List Instr
      pub split : procedure_code ≡ before ++ From j sts
      pub starts : start_of program j ≡ entry + length before

    pub entry_is : entry ≡ length code - length (From (h + 1) (own ++ back))
    entry_is = by own are refl
      where
        by : (sts : List StmtTree) → AreOwn sts → own ≡ sts → entry ≡ length code - length (From (h + 1) (own ++ back))
        by [] are' same = absurd are'
        by (st ∷ rest) are' same =
            start_from (h + 1) st (rest ++ back) (own_at ∙ ap (λ l. l ++ back) same) (own_inner (st ∷ rest) 0 st rest are' refl)
            ∙ sym (ap (λ l. length code - length (From (h + 1) (l ++ back))) same)

    beyond : (k j : ℕ) (st : StmtTree) (rest : List StmtTree) → j ≡ h + 1 + k → drop k own ≡ st ∷ rest → IsAfter k j (st ∷ rest)
    beyond k j st rest is e =
        let split = pieces_split program (start_of program) k (h + 1) own in
        let long = fewer k own st rest e in
        let own_code : procedure_code ≡ split.0 ++ From j (st ∷ rest) =
        split.1 ∙ ap (λ n. split.0 ++ From n (drop k own)) (sym is) ∙ ap (λ l. split.0 ++ From j l) e in
        let all : From (h + 1) (own ++ back) ≡ procedure_code ++ From (h + 1 + length own) back = pieces_append program (start_of program) (h + 1) own back in
        let some : From j (st ∷ rest ++ back) ≡ From j (st ∷ rest) ++ From (j + suc (length rest)) back = pieces_append program (start_of program) j (st ∷ rest) back in
        let same : length (From (j + suc (length rest)) back) ≡ length (From (h + 1 + length own) back) = ap (λ n. length (From n back)) (omega (arith, is, long)) in
        let start = start_from j st (rest ++ back) (there k j st rest is e) (own_inner own k st rest are e) in
        let within = code_within (h + 1) (own ++ back) own_at in
        record {
          before = split.0;
          split = own_code;
          starts = omega (
            arith,
            start,
            entry_is,
            within,
            same,
            ap length all,
            ap length some,
            ap length own_code,
            length-append split.0 (From j (st ∷ rest)),
            length-append procedure_code (From (h + 1 + length own) back),
            length-append (From j (st ∷ rest)) (From (j + suc (length rest)) back),
          );
        }

    -- the place of a statement of the procedure is that of a turn of it
    is_place : (k j : ℕ) (st : StmtTree) (rest : List StmtTree) → j ≡ h + 1 + k → drop k own ≡ st ∷ rest → is_target entry procedure_code (start_of program j) ≡ true
    is_place k j st rest is e =
        let b = beyond k j st rest is e in
        let offset : start_of program j - entry ≡ length b.before = omega (arith, b.starts) in
        let above : nat_le entry (start_of program j) ≡ true = le-leb entry (start_of program j) (omega (arith, b.starts)) in
        let turn : slice_get procedure_code (start_of program j - entry) ≡ Some (Turn (j + 1)) =
        get_head (start_of program j - entry) procedure_code
        ∙ ap (λ l. head_of (drop (start_of program j - entry) l)) b.split
        ∙ ap head_of (drop_at b.before (From j (st ∷ rest)) (start_of program j - entry) (sym offset))
        ∙ ap head_of (begins_with_turn j st rest (own_inner own k st rest are e)) in
        ap (λ t. t && is_turn (slice_get procedure_code (start_of program j - entry))) above ∙ ap is_turn turn

    is_index : (k j : ℕ) → j ≡ h + 1 + k → k < length own → is_target entry procedure_code (start_of program j) ≡ true
    is_index k j is below = let s = stands_at k own below in is_place k j s.item s.rest is s.is

    -- a place at which the procedure is open is that of one of its statements
    pub record IsOwnPlace (j : ℕ) : Type 0 where
      pub index : ℕ
      pub below : index < length own
      pub is : j ≡ h + 1 + index

    not_past : (j : ℕ) → IsInBlock program name j → h < j → ((k : ℕ) (st : StmtTree) → suc h ≤ k → k < j → slice_get program.pieces k ≡ Some st →
        ends_procedure st.body ≡ false) → j < h + 1 + length own
    not_past j in_block above none = by (nat_lt j (h + 1 + length own)) refl
      where
        by : (b : Bool) → nat_lt j (h + 1 + length own) ≡ b → j < h + 1 + length own
        by true e = ltb-true j (h + 1 + length own) e
        by false e =
            let past = ltb-false j (h + 1 + length own) e in
            let some = own_some own are in
            let s = stands_at (length own - 1) own (omega (arith, some)) in
            let long = fewer (length own - 1) own s.item s.rest s.is in
            let last : s.rest ≡ [] = no_items s.rest (omega (arith, long, some)) in
            let ends : s.item.body ≡ end_procedure = own_ends own (length own - 1) s.item are (s.is ∙ ap (λ l. s.item ∷ l) last) in
            absurd (true≢false (sym (ap ends_procedure ends) ∙ none (h + 1 + (length own - 1)) s.item (omega arith) (omega (arith, past, some))
            (got (length own - 1) (h + 1 + (length own - 1)) s.item s.rest refl s.is)))

    own_place : (j : ℕ) → IsInBlock program name j → IsOwnPlace j
    own_place j in_block =
        let o = opened program.pieces j name typed.play in_block.inside in
        let same : o.at ≡ h = once program.pieces o.at h o.head head name typed.procedures_apart o.stands o.begins head_there is_head in
        let above : h < j = omega (arith, o.below, same) in
        let none = λ (k : ℕ) (st : StmtTree) (from : suc h ≤ k) (to : k < j) (there : slice_get program.pieces k ≡ Some st). o.none k st (omega (arith, same, from)) to there in
        let below = not_past j in_block above none in
        record { index = j - (h + 1); below = omega (arith, above, below); is = omega (arith, above) }

    target : (block : List ℕ) (j : ℕ) → block ≡ name → IsInBlock program block j → is_target entry procedure_code (start_of program j) ≡ true
    target block j same in_block =
        let own_is = own_place j (subst (λ (b : List ℕ). IsInBlock program b j) same in_block) in
        is_index own_is.index j own_is.is own_is.below

    -- a statement of the procedure is typed
    abbrev Leads : ℕ → List ℕ → Type 0
    Leads j label = IsInBlock program name ((scope_at program j).label label)

    record IsTypedIn (j : ℕ) (st : StmtTree) : Type 0 where
      is_inner : is_inner_shape st.body ≡ true
      suits : operands_suit (scope_at program j).look.kind st.body ≡ true
      stable : stops_unstable st.body ≡ false
      leads : AllByRecursion (Leads j) (labels_named st.body)
      declares : IfSome (declaration st.body) (λ (d : Declaration). (scope_at program j).look.kind d.name ≡ Some d.kind)

    kind_declared : (j : ℕ) (block : List ℕ) (o : Option Declaration) → IfSome o (IsDeclared program (scope_at program j).look (1 + j) block) →
        IfSome o (λ (d : Declaration). (scope_at program j).look.kind d.name ≡ Some d.kind)
    kind_declared j block None is = tt
    kind_declared j block (Some d) is = is.kind

    typed_in : (k j : ℕ) (st : StmtTree) (rest : List StmtTree) → j ≡ h + 1 + k → drop k own ≡ st ∷ rest → IsTypedIn j st
    typed_in k j st rest is e =
        let inner = own_inner own k st rest are e in
        let at = got k j st rest is e in
        let t = typed.statements j st at inner in
        let same : t.block ≡ name = same_Some t.block name (sym t.inside ∙ open_in k j st rest is e) in
        record {
          is_inner = inner_has_shape st (all_at HasShape program.pieces j st shaped at) inner;
          suits = t.suits;
          stable = t.stable;
          leads = subst (λ (b : List ℕ). AllByRecursion (λ label. IsInBlock program b ((scope_at program j).label label)) (labels_named st.body)) same t.leads;
          declares = kind_declared j t.block (declaration st.body) t.declares;
        }

    agrees : (j : ℕ) → Agrees defs (scope_at program j).look
    agrees j = agrees_from (program.names) (block_at program.pieces j)

    leads_to : (j : ℕ) (label : List ℕ) → Leads j label → is_target entry procedure_code (start_of program ((scope_at program j).label label)) ≡ true
    leads_to j label leads = target name ((scope_at program j).label label) refl leads

    abbrev FineFrom : Bool → List Instr → Type 0
    FineFrom must instrs = Fine defs entry procedure_code must [] instrs

    -- a piece that is not the last one
    piece_fine : (k j : ℕ) (st next : StmtTree) (rest : List StmtTree) → j ≡ h + 1 + k → drop k own ≡ st ∷ next ∷ rest →
        ((must : Bool) → FineFrom must (From (j + 1) (next ∷ rest))) → (must : Bool) → FineFrom must (From j (st ∷ next ∷ rest))
    piece_fine k j st next rest is e more must =
        let scope = scope_at program j in
        let first = firsts_at program j in
        let after = From (j + 1) (next ∷ rest) in
        let body = body_code scope (start_of program) first st.body after in
        let e' : drop (suc k) own ≡ next ∷ rest = drop_tail k own ∙ ap (drop 1) e in
        let next_is : is_target entry procedure_code (start_of program (j + 1)) ≡ true = is_place (suc k) (j + 1) next rest (omega (arith, is)) e' in
        let some : is_last after ≡ false = ap is_last (begins_with_turn (j + 1) next rest (own_inner own (suc k) next rest are e')) in
        let t = typed_in k j st (next ∷ rest) is e in
        let follows : Follows defs entry procedure_code after = record { some = some; fine = more } in
        subst (FineFrom must) (sym (begins_with_turn j st (next ∷ rest) (own_inner own k st (next ∷ rest) are e)))
        (fine_step defs entry procedure_code must (Turn (j + 1)) [] [] body refl
        (turn_stands defs entry procedure_code must (j + 1) (is_last body)
        (body_last defs entry procedure_code (Leads j) scope (start_of program) (agrees j) (leads_to j) next_is first st.body after some))
        (body_fine defs entry procedure_code (Leads j) scope (start_of program) (agrees j) (leads_to j) next_is first st.body after
        t.is_inner t.suits t.stable t.leads t.declares (own_goes_on own k st next rest are e) follows))

    -- the last piece is ENDPROC
    last_fine : (k j : ℕ) (st : StmtTree) → drop k own ≡ st ∷ [] → (must : Bool) → FineFrom must (From j (st ∷ []))
    last_fine k j st e must =
        let code_is : From j (st ∷ []) ≡ Turn (j + 1) ∷ EndProc ∷ [] =
        begins_with_turn j st [] (own_inner own k st [] are e)
        ∙ ap (λ b. Turn (j + 1) ∷ body_code (scope_at program j) (start_of program) (firsts_at program j) b []) (own_ends own k st are e) in
        subst (FineFrom must) (sym code_is)
        (fine_step defs entry procedure_code must (Turn (j + 1)) [] [] (EndProc ∷ []) refl
        (turn_stands defs entry procedure_code must (j + 1) false refl)
        (fine_step defs entry procedure_code false EndProc [] [] [] refl refl (λ i. refl)))

    own_fine : (sts : List StmtTree) (k j : ℕ) → j ≡ h + 1 + k → drop k own ≡ sts → k < length own → (must : Bool) → FineFrom must (From j sts)
    own_fine [] k j is e below must = let s = stands_at k own below in absurd (no_item s.item s.rest (sym e ∙ s.is))
      where
        no_item : (x : StmtTree) (xs : List StmtTree) → [] ≡ x ∷ xs → ⊥
        no_item x xs f = absurd cc
    own_fine (st ∷ []) k j is e below must = last_fine k j st e must
    own_fine (st ∷ next ∷ rest) k j is e below must =
        piece_fine k j st next rest is e
        (own_fine (next ∷ rest) (suc k) (j + 1) (omega (arith, is)) (drop_tail k own ∙ ap (drop 1) e) (omega (arith, fewer k own st (next ∷ rest) e))) must

    -- the procedure has code
    pub code_some : 0 < length procedure_code
    code_some = by own are refl
      where
        by : (sts : List StmtTree) → AreOwn sts → own ≡ sts → 0 < length procedure_code
        by [] are' same = absurd are'
        by (st ∷ rest) are' same =
            let code_is = ap length (ap (From (h + 1)) same ∙ begins_with_turn (h + 1) st rest (own_inner (st ∷ rest) 0 st rest are' refl)) in
            omega (arith, code_is)

    -- what stands from its entry on
    pub code_at : drop entry code ≡ From (h + 1) (own ++ back)
    code_at = by own are refl
      where
        by : (sts : List StmtTree) → AreOwn sts → own ≡ sts → drop entry code ≡ From (h + 1) (own ++ back)
        by [] are' same = absurd are'
        by (st ∷ rest) are' same =
            let first : drop (h + 1) program.pieces ≡ st ∷ rest ++ back = own_at ∙ ap (λ l. l ++ back) same in
            code_from program (h + 1) st (get_head (h + 1) program.pieces ∙ ap head_of first) (own_inner (st ∷ rest) 0 st rest are' refl)
            ∙ ap (From (h + 1)) own_at

    -- the code of the procedure breaks no rule
    pub procedure_fine : procedure_break defs entry procedure_code ≡ None
    procedure_fine = own_fine own 0 (h + 1) (omega arith) refl (own_some own are) true entry
