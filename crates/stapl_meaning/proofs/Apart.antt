-- No two procedures of a program have one name, and no two actions. Those that play are among those of the program.
use Rattle.std.proofs.Common.{◌≡◌, ◌≢◌, ℕ, zero, suc, ◌+◌, ◌<◌, ◌≤◌, Bool, true, false, ◌||◌, cond, if◌then◌else◌, List, [], ◌∷◌, ◌++◌, append_assoc, length, length-append, take, map, get_or, is_some, slice_get, Option, Some, None, refl, sym, ap, subst, ◌∙◌, arith, All, AllPairs}
use Rattle.std.specs.List.{cons_option, list_any}
use Rattle.std.specs.Map.{lookup, keys_of}
use Rattle.std.specs.Str.{bytes_eq}
use Rattle.std.proofs.lemmas.Bool.{or_parts, true≢false}
use Rattle.std.proofs.lemmas.List.{length-map, append-nil, get_or_append_left, map-append}
use Rattle.std.proofs.Math.Seq.{get_or-append_seam}
use Rattle.std.proofs.lemmas.List.Elements.{All-cons, All-head, All-tail, All-map}
use Rattle.std.proofs.lemmas.List.Kept.{AllPairs-cons}
use Rattle.std.proofs.lemmas.Option.{same_Some, none-some}
use Rattle.std.proofs.lemmas.Slice.Eq.{bytes_eq-Decides}
use Rattle.stapl_lexer.specs.declared.reason.Reason.TheVariants as reasons
use Rattle.stapl_syntax.specs.declared.names.Block.{Block}
use Rattle.stapl_syntax.specs.Trees.{BodyTree, action, procedure, data_block, end_data, StmtTree}
use Rattle.stapl_syntax.specs.Names.{numbered, numbered_from, inside_next, inside_from, block_of_body, block_of, action_of_body, action_of, variable_of, label_of, declared_from, declared, names_of, put_first, firsts_after}
use Rattle.stapl_syntax.specs.Rules.{is_action, any_body, is_again, Declared, declared_in, declares_again}
use Rattle.stapl_meaning.specs.Scopes.{data_after, plays, idle, pieces_from, program_names, block_at}
use Rattle.stapl_meaning.specs.Typed.{procedure_name, procedure_names, plain_blocks, action_name, action_names}
use Rattle.stapl_meaning.proofs.Entries.{name_same, all_declared, none_has_key}
use Rattle.stapl_meaning.proofs.Sound.{IsSound}
use Rattle.stapl_meaning.proofs.Declared.{new_block}
use Rattle.stapl_meaning.proofs.Blocks.{data_from, body_of, own_piece}
use Rattle.stapl_meaning.proofs.Ordered.{BeginsOutside, none_outside}

-- ---- names that no earlier statement declares are apart

module _ {V : Type 0} (declares : Option (List ℕ) → ℕ → StmtTree → Option (List ℕ × V)) where
  -- what a statement declares is not declared before it
  abbrev AreNew : List StmtTree → Option (List ℕ) → ℕ → Type 0
  AreNew rest now n =
      (i : ℕ) (st : StmtTree) (e : List ℕ × V) → slice_get rest i ≡ Some st → declares (inside_from now (numbered_from n (take i (map Some rest)))) (n + i) st ≡ Some e →
      list_any (λ x. bytes_eq e.0 x.0) (declared_from declares now (numbered_from n (take i (map Some rest)))) ≡ false

  new_are_apart : (rest : List StmtTree) (now : Option (List ℕ)) (n : ℕ) → AreNew rest now n →
      AllPairs (λ a b. a ≢ b) (keys_of (declared_from declares now (numbered_from n (map Some rest))))
  new_are_apart [] now n new = λ i j d lt within. absurd (omega (arith, within))
  new_are_apart (st ∷ rest) now n new = by (declares now n st) refl (new_are_apart rest (inside_next now st.body) (n + 1))
    where
      by : (o : Option (List ℕ × V)) → declares now n st ≡ o →
          (AreNew rest (inside_next now st.body) (n + 1) → AllPairs (λ a b. a ≢ b) (keys_of (declared_from declares (inside_next now st.body) (numbered_from (n + 1) (map Some rest))))) →
          AllPairs (λ a b. a ≢ b) (keys_of (cons_option o (declared_from declares (inside_next now st.body) (numbered_from (n + 1) (map Some rest)))))
      by None e more = more (λ i s x at is.
          let next : n + suc i ≡ n + 1 + i = omega arith in
          sym (ap (λ o. list_any (λ y. bytes_eq x.0 y.0) (cons_option o (declared_from declares (inside_next now st.body) (numbered_from (n + 1) (take i (map Some rest)))))) e)
          ∙ new (suc i) s x at (ap (λ m. declares (inside_from (inside_next now st.body) (numbered_from (n + 1) (take i (map Some rest)))) m s) next ∙ is))
      by (Some first) e more =
          let both : (i : ℕ) (s : StmtTree) (x : List ℕ × V) → slice_get rest i ≡ Some s →
          declares (inside_from (inside_next now st.body) (numbered_from (n + 1) (take i (map Some rest)))) (n + 1 + i) s ≡ Some x →
          (bytes_eq x.0 first.0 ≡ false) × (list_any (λ y. bytes_eq x.0 y.0) (declared_from declares (inside_next now st.body) (numbered_from (n + 1) (take i (map Some rest)))) ≡ false) =
          λ i s x at is.
          let next : n + suc i ≡ n + 1 + i = omega arith in
          or_parts (bytes_eq x.0 first.0) (list_any (λ y. bytes_eq x.0 y.0) (declared_from declares (inside_next now st.body) (numbered_from (n + 1) (take i (map Some rest)))))
          (sym (ap (λ o. list_any (λ y. bytes_eq x.0 y.0) (cons_option o (declared_from declares (inside_next now st.body) (numbered_from (n + 1) (take i (map Some rest)))))) e)
          ∙ new (suc i) s x at (ap (λ m. declares (inside_from (inside_next now st.body) (numbered_from (n + 1) (take i (map Some rest)))) m s) next ∙ is)) in
          AllPairs-cons (λ a b. a ≢ b) first.0 (keys_of (declared_from declares (inside_next now st.body) (numbered_from (n + 1) (map Some rest))))
          (All-map (λ b. first.0 ≢ b) (λ (x : List ℕ × V). x.0) (declared_from declares (inside_next now st.body) (numbered_from (n + 1) (map Some rest)))
          (all_declared declares (λ (x : List ℕ × V). first.0 ≢ x.0) rest (inside_next now st.body) (n + 1)
          (λ i s x at is same. true≢false (sym ((bytes_eq-Decides x.0 first.0).1 (sym same)) ∙ (both i s x at is).0))))
          (more (λ i s x at is. (both i s x at is).1))

-- ---- the names of procedures and actions that play are among the keys of what is declared

-- the first item of a list, and the others
head_apart : (x : List ℕ) (xs : List (List ℕ)) → AllPairs (λ a b. a ≢ b) (x ∷ xs) → All (λ b. x ≢ b) xs
head_apart x xs apart = λ j d below. apart 0 (suc j) d (omega arith) (omega (arith, below))

tail_apart : (x : List ℕ) (xs : List (List ℕ)) → AllPairs (λ a b. a ≢ b) (x ∷ xs) → AllPairs (λ a b. a ≢ b) xs
tail_apart x xs apart = λ i j d before below. apart (suc i) (suc j) d (omega (arith, before)) (omega (arith, below))

-- names in one list that are, in their order, some of another
data IsAmong : List (List ℕ) → List (List ℕ) → Type 0 where
  no_names : IsAmong [] []
  same_name : (x : List ℕ) (xs ys : List (List ℕ)) → IsAmong xs ys → IsAmong (x ∷ xs) (x ∷ ys)
  other_name : (y : List ℕ) (xs ys : List (List ℕ)) → IsAmong xs ys → IsAmong xs (y ∷ ys)

among_all : (P : List ℕ → Type 0) (xs ys : List (List ℕ)) → IsAmong xs ys → All P ys → All P xs
among_all P _ _ no_names all = all
among_all P _ _ (same_name x xs ys is) all = All-cons P x xs (All-head P x ys all) (among_all P xs ys is (All-tail P x ys all))
among_all P _ _ (other_name y xs ys is) all = among_all P xs ys is (All-tail P y ys all)

among_apart : (xs ys : List (List ℕ)) → IsAmong xs ys → AllPairs (λ a b. a ≢ b) ys → AllPairs (λ a b. a ≢ b) xs
among_apart _ _ no_names apart = apart
among_apart _ _ (same_name x xs ys is) apart =
    AllPairs-cons (λ a b. a ≢ b) x xs (among_all (λ b. x ≢ b) xs ys is (head_apart x ys apart)) (among_apart xs ys is (tail_apart x ys apart))
among_apart _ _ (other_name y xs ys is) apart = among_apart xs ys is (tail_apart y ys apart)

plain_among : (es : List (List ℕ × Block)) → IsAmong (plain_blocks es) (keys_of es)
plain_among [] = no_names
plain_among (e ∷ es) = by e.1.is_data (plain_among es)
  where
    by : (b : Bool) → IsAmong (plain_blocks es) (keys_of es) → IsAmong (if b then plain_blocks es else e.0 ∷ plain_blocks es) (e.0 ∷ keys_of es)
    by true is = other_name e.0 (plain_blocks es) (keys_of es) is
    by false is = same_name e.0 (plain_blocks es) (keys_of es) is

-- those that are no DATA blocks are the procedures that play, if blocks begin outside blocks
plain_declared : (now inside : Option (List ℕ)) (n : ℕ) (rest : List StmtTree) → ((i : ℕ) (st : StmtTree) → slice_get rest i ≡ Some st → BeginsOutside st.body → data_from now (take i rest) ≡ None) →
    plain_blocks (declared_from block_of inside (numbered_from n (map Some rest))) ≡ procedure_names (pieces_from now rest)
plain_declared now inside n [] outside = refl
plain_declared now inside n (st ∷ rest) outside =
    by now st.body (outside 0 st refl) (plain_declared (data_after now st.body) (inside_next inside st.body) (n + 1) rest (λ i s at begins. outside (suc i) s at begins))
    ∙ ap (λ b. procedure_name b (procedure_names (pieces_from (data_after now st.body) rest))) (sym (body_of (plays now st.body) st))
  where
    others : List (List ℕ)
    others = procedure_names (pieces_from (data_after now st.body) rest)

    declared_more : List (List ℕ × Block)
    declared_more = declared_from block_of (inside_next inside st.body) (numbered_from (n + 1) (map Some rest))

    by : (now : Option (List ℕ)) (b : BodyTree) → (BeginsOutside b → now ≡ None) → plain_blocks declared_more ≡ others →
        plain_blocks (cons_option (block_of_body n b) declared_more) ≡ procedure_name (if plays now b then b else end_data) others
    by None (procedure name uses) closed is = ap (λ names. name ∷ names) is
    by (Some block) (procedure name uses) closed is = absurd (none-some block (sym (closed tt)))
    by None (data_block name) closed is = is
    by None _ closed is = is
    by (Some block) _ closed is = is

actions_among : (now inside : Option (List ℕ)) (n : ℕ) (rest : List StmtTree) →
    IsAmong (action_names (pieces_from now rest)) (keys_of (declared_from action_of inside (numbered_from n (map Some rest))))
actions_among now inside n [] = no_names
actions_among now inside n (st ∷ rest) =
    by (plays now st.body) st.body (actions_among (data_after now st.body) (inside_next inside st.body) (n + 1) rest)
  where
    others : List (List ℕ)
    others = action_names (pieces_from (data_after now st.body) rest)

    declared_more : List (List ℕ × ℕ)
    declared_more = declared_from action_of (inside_next inside st.body) (numbered_from (n + 1) (map Some rest))

    by : (c : Bool) (b : BodyTree) → IsAmong others (keys_of declared_more) →
        IsAmong (action_name (if c then record { label = st.label; body = b } else idle).body others) (keys_of (cons_option (action_of_body n b) declared_more))
    by true (action name text items) is = same_name name others (keys_of declared_more) is
    by false (action name text items) is = other_name name others (keys_of declared_more) is
    by true _ is = is
    by false _ is = is

-- ---- no statement declares again what is declared

new_parts : (earlier : Declared) (now : Option (List ℕ)) (st : StmtTree) → declares_again earlier now st ≡ false →
    (is_again earlier.block (block_of now 0 st) ≡ false) × (is_again earlier.action (action_of now 0 st) ≡ false)
new_parts earlier now st e =
    let block = is_again earlier.block (block_of now 0 st) in
    let action = is_again earlier.action (action_of now 0 st) in
    let variable = is_again earlier.variable (variable_of now 0 st) in
    or_parts block action (or_parts (block || action) variable (or_parts (block || action || variable) (is_again earlier.label (label_of now 0 st)) e).0).0

new_action : (known : List ℕ → Bool) (n : ℕ) (b : BodyTree) (e : List ℕ × ℕ) → action_of_body n b ≡ Some e → is_again known (action_of_body 0 b) ≡ false → known e.0 ≡ false
new_action known n b e is new = sym (ap (is_again known) is) ∙ by b ∙ new
  where
    by : (b : BodyTree) → is_again known (action_of_body n b) ≡ is_again known (action_of_body 0 b)
    by (action name text items) = refl
    by _ = refl

module _ (program : List StmtTree) (sound : IsSound program) where
  new_at : (i : ℕ) (st : StmtTree) → slice_get program i ≡ Some st →
      (is_again (declared_in (names_of (numbered (take i (map Some program))))).block (block_of (block_at program i) 0 st) ≡ false)
      × (is_again (declared_in (names_of (numbered (take i (map Some program))))).action (action_of (block_at program i) 0 st) ≡ false)
  new_at i st at = new_parts (declared_in (names_of (numbered (take i (map Some program))))) (block_at program i) st (sound.keeps i st reasons.Duplicate at)

  declared_apart : AllPairs (λ a b. a ≢ b) (keys_of (declared block_of (numbered (map Some program))))
  declared_apart =
      new_are_apart block_of program None 1 (λ i st e at is.
      none_has_key bytes_eq name_same e.0 (declared block_of (numbered (take i (map Some program))))
      (new_block (declared_in (names_of (numbered (take i (map Some program))))).block (1 + i) st.body e is (new_at i st at).0))

  pub actions_apart : AllPairs (λ a b. a ≢ b) (action_names (pieces_from None program))
  actions_apart =
      among_apart (action_names (pieces_from None program)) (keys_of (declared action_of (numbered (map Some program)))) (actions_among None None 1 program)
      (new_are_apart action_of program None 1 (λ i st e at is.
      none_has_key bytes_eq name_same e.0 (declared action_of (numbered (take i (map Some program))))
      (new_action (declared_in (names_of (numbered (take i (map Some program))))).action (1 + i) st.body e is (new_at i st at).1)))

-- entries whose keys differ are all first
not_there : (k : List ℕ) (es : List (List ℕ × Block)) → ((i : ℕ) → i < length es → get_or (keys_of es) i k ≢ k) → is_some (lookup (bytes_eq k) es) ≡ false
not_there k [] differ = refl
not_there k (e ∷ es) differ = by (bytes_eq k e.0) refl (not_there k es (λ i below. differ (suc i) (omega (arith, below))))
  where
    by : (b : Bool) → bytes_eq k e.0 ≡ b → is_some (lookup (bytes_eq k) es) ≡ false → is_some (cond b (Some e.1) (lookup (bytes_eq k) es)) ≡ false
    by true is more = absurd (differ 0 (omega arith) (sym (name_same k e.0 is)))
    by false is more = more

firsts_apart : (xs es : List (List ℕ × Block)) → AllPairs (λ a b. a ≢ b) (keys_of (es ++ xs)) → firsts_after bytes_eq es xs ≡ es ++ xs
firsts_apart [] es apart = sym (append-nil es)
firsts_apart (x ∷ xs) es apart =
    ap (λ l. firsts_after bytes_eq l xs) put
    ∙ firsts_apart xs (es ++ x ∷ []) (subst (λ (l : List (List ℕ × Block)). AllPairs (λ a b. a ≢ b) (keys_of l)) (sym joined) apart)
    ∙ joined
  where
    joined : (es ++ x ∷ []) ++ xs ≡ es ++ x ∷ xs
    joined = append_assoc es (x ∷ []) xs

    keys : keys_of (es ++ x ∷ xs) ≡ keys_of es ++ x.0 ∷ keys_of xs
    keys = map-append (λ e. e.0) es (x ∷ xs)

    long : length (keys_of es) ≡ length es
    long = length-map es (λ e. e.0)

    differs : (i : ℕ) → i < length es → get_or (keys_of es) i x.0 ≢ x.0
    differs i below same =
        let at : get_or (keys_of (es ++ x ∷ xs)) i x.0 ≡ get_or (keys_of es) i x.0 =
        ap (λ l. get_or l i x.0) keys ∙ get_or_append_left (keys_of es) (x.0 ∷ keys_of xs) x.0 i (omega (arith, below, long)) in
        let seam : get_or (keys_of (es ++ x ∷ xs)) (length es) x.0 ≡ x.0 =
        ap (λ l. get_or l (length es) x.0) keys ∙ ap (λ n. get_or (keys_of es ++ x.0 ∷ keys_of xs) n x.0) (sym long) ∙ get_or-append_seam (keys_of es) x.0 (keys_of xs) x.0 in
        apart i (length es) x.0 below (omega (arith, ap length keys, length-append (keys_of es) (x.0 ∷ keys_of xs), long)) (at ∙ same ∙ sym seam)

    put : put_first bytes_eq es x ≡ es ++ x ∷ []
    put = ap (λ b. if b then es else es ++ x ∷ []) (not_there x.0 es differs)

-- the blocks of a program are all that it declares
module _ (program : List StmtTree) (sound : IsSound program) where
  abbrev all_blocks : List (List ℕ × Block)
  all_blocks = declared block_of (numbered (map Some program))

  blocks_are : (program_names program).blocks ≡ all_blocks
  blocks_are = firsts_apart all_blocks [] (declared_apart program sound)

  pub blocks_apart : AllPairs (λ a b. a ≢ b) (keys_of (program_names program).blocks)
  blocks_apart = subst (λ (es : List (List ℕ × Block)). AllPairs (λ a b. a ≢ b) (keys_of es)) (sym blocks_are) (declared_apart program sound)

  pub procedures_are : plain_blocks (program_names program).blocks ≡ procedure_names (pieces_from None program)
  procedures_are = ap plain_blocks blocks_are ∙ plain_declared None None 1 program (none_outside program sound)

  pub procedures_apart : AllPairs (λ a b. a ≢ b) (procedure_names (pieces_from None program))
  procedures_apart =
      subst (AllPairs (λ a b. a ≢ b)) procedures_are
      (among_apart (plain_blocks (program_names program).blocks) (keys_of (program_names program).blocks) (plain_among (program_names program).blocks) blocks_apart)

-- ---- some action stands

-- an ACTION among statements
record HasAction (statements : List StmtTree) : Type 0 where
  pub place : ℕ
  pub statement : StmtTree
  pub at : slice_get statements place ≡ Some statement
  pub is : is_action statement.body ≡ true

some_action_at : (rest : List StmtTree) (i n : ℕ) → any_body is_action (numbered_from n (take i (map Some rest))) ≡ true → HasAction rest
some_action_at [] zero n e = absurd (true≢false (sym e))
some_action_at [] (suc i) n e = absurd (true≢false (sym e))
some_action_at (st ∷ rest) zero n e = absurd (true≢false (sym e))
some_action_at (st ∷ rest) (suc i) n e = by (is_action st.body) refl (some_action_at rest i (n + 1)) e
  where
    by : (b : Bool) → is_action st.body ≡ b → (any_body is_action (numbered_from (n + 1) (take i (map Some rest))) ≡ true → HasAction rest) →
        (b || any_body is_action (numbered_from (n + 1) (take i (map Some rest)))) ≡ true → HasAction (st ∷ rest)
    by true is more e = record { place = 0; statement = st; at = refl; is = is }
    by false is more e = let later = more e in record { place = suc later.place; statement = later.statement; at = later.at; is = later.is }

action_named : (rest : List StmtTree) (i : ℕ) (st : StmtTree) → slice_get rest i ≡ Some st → is_action st.body ≡ true → 1 ≤ length (action_names rest)
action_named [] i st at is = absurd (none-some st at)
action_named (x ∷ rest) zero st at is = by x.body (ap (λ (s : StmtTree). is_action s.body) (same_Some x st at) ∙ is)
  where
    by : (b : BodyTree) → is_action b ≡ true → 1 ≤ length (action_name b (action_names rest))
    by (action name text items) e = omega arith
    by _ e = absurd (true≢false (sym e))
action_named (x ∷ rest) (suc i) st at is = by x.body (action_named rest i st at is)
  where
    by : (b : BodyTree) → 1 ≤ length (action_names rest) → 1 ≤ length (action_name b (action_names rest))
    by (action name text items) le = omega arith
    by _ le = le

action_outside : (b : BodyTree) → is_action b ≡ true → BeginsOutside b
action_outside (action name text items) e = tt
action_outside _ e = absurd (true≢false (sym e))

action_plays : (b : BodyTree) → is_action b ≡ true → plays None b ≡ true
action_plays (action name text items) e = refl
action_plays _ e = absurd (true≢false (sym e))

pub some_action : (program : List StmtTree) → IsSound program → 1 ≤ length (action_names (pieces_from None program))
some_action program sound =
    let has = some_action_at program (length program) 1 sound.acts in
    let closed = none_outside program sound has.place has.statement has.at (action_outside has.statement.body has.is) in
    action_named (pieces_from None program) has.place has.statement
    (own_piece program sound has.place has.statement has.at closed (action_plays has.statement.body has.is)) has.is
