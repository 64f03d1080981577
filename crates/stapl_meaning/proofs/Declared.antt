-- The name that a statement declares stands for its own variable or its own block: the block's own variables are found
-- first, and no earlier statement declares the same.
use Rattle.std.proofs.Common.{◌≡◌, ℕ, zero, suc, ◌+◌, ◌<◌, Bool, true, false, not, ◌&&◌, ◌||◌, cond, if◌then◌else◌, List, [], ◌∷◌, ◌++◌, append_assoc, length, nat_lt, take, map, position, slice_get, Option, Some, None, IfSome, is_some, refl, sym, ap, subst, ◌∙◌, arith}
use Rattle.std.specs.List.{cons_option, position_or_len}
use Rattle.std.specs.Map.{lookup, keys_of}
use Rattle.std.specs.Option.{option_map, option_map_or}
use Rattle.std.specs.Str.{bytes_eq}
use Rattle.std.proofs.lemmas.Bool.{or_parts, lt-ltb, true≢false}
use Rattle.std.proofs.lemmas.List.{append-nil}
use Rattle.std.proofs.lemmas.Option.{same_Some, none-some}
use Rattle.std.proofs.lemmas.Slice.Eq.{bytes_eq-Decides}
use Rattle.stapl_lexer.specs.declared.reason.Reason.TheVariants as reasons
use Rattle.stapl_syntax.specs.declared.names.Declaration.{Declaration}
use Rattle.stapl_syntax.specs.declared.names.Found.TheVariants as found
use Rattle.stapl_syntax.specs.declared.names.Key.{Key}
use Rattle.stapl_syntax.specs.declared.names.Variable.{Variable}
use Rattle.stapl_syntax.specs.declared.names.Block.{Block}
use Rattle.stapl_syntax.specs.Trees.{BodyTree, procedure, data_block, StmtTree}
use Rattle.stapl_syntax.specs.Names.{numbered_from, numbered, inside_next, inside_from, declaration, key_in, variable_entry, variable_in, variable_of, block_of_body, block_of, action_of, label_of, declared_from, declared, put_first, firsts_after, firsts, key_eq, Names, names_of, block_named, found_in, found_from, kind_of_found}
use Rattle.stapl_syntax.specs.Rules.{is_again, Declared, declared_in, declares_again}
use Rattle.stapl_meaning.specs.Scopes.{program_names, as_played, block_at, number_found, lookup_from}
use Rattle.stapl_meaning.specs.Typed.{IsDeclared}
use Rattle.stapl_meaning.proofs.Sound.{IsSound}

cons_front : {A : Type 0} (o : Option A) (xs ys : List A) → cons_option o (xs ++ ys) ≡ cons_option o xs ++ ys
cons_front None xs ys = refl
cons_front (Some x) xs ys = refl

-- What statements declare is what those before a place declare, what the one there declares, and more.
declared_parts : {K V : Type 0} (declares : Option (List ℕ) → ℕ → StmtTree → Option (K × V)) (rest : List StmtTree) (now : Option (List ℕ)) (n i : ℕ) (st : StmtTree) (e : K × V) →
    slice_get rest i ≡ Some st → declares (inside_from now (numbered_from n (take i (map Some rest)))) (n + i) st ≡ Some e →
    (more : List (K × V)) × (declared_from declares now (numbered_from n (map Some rest)) ≡ declared_from declares now (numbered_from n (take i (map Some rest))) ++ (e ∷ more))
declared_parts declares [] now n i st e at is = absurd (none-some st at)
declared_parts declares (s ∷ rest) now n zero st e at is =
    let more = declared_from declares (inside_next now s.body) (numbered_from (n + 1) (map Some rest)) in
    let first : n ≡ n + 0 = omega arith in
    (more, ap (λ o. cons_option o more) (ap (declares now n) (same_Some s st at) ∙ ap (λ m. declares now m st) first ∙ is))
declared_parts declares (s ∷ rest) now n (suc i) st e at is =
    let next : n + 1 + i ≡ n + suc i = omega arith in
    let front = declared_from declares (inside_next now s.body) (numbered_from (n + 1) (take i (map Some rest))) in
    let parts = declared_parts declares rest (inside_next now s.body) (n + 1) i st e at
    (ap (λ m. declares (inside_from (inside_next now s.body) (numbered_from (n + 1) (take i (map Some rest)))) m st) next ∙ is) in
    (parts.0, ap (cons_option (declares now n s)) parts.1 ∙ cons_front (declares now n s) front (e ∷ parts.0))

module _ {K V : Type 0} (eq : K → K → Bool) where
  pub after_append : (xs ys es : List (K × V)) → firsts_after eq es (xs ++ ys) ≡ firsts_after eq (firsts_after eq es xs) ys
  after_append [] ys es = refl
  after_append (x ∷ xs) ys es = after_append xs ys (put_first eq es x)

  -- entries that are put leave those before them as they are
  kept_after : (xs es : List (K × V)) → (more : List (K × V)) × (firsts_after eq es xs ≡ es ++ more)
  kept_after [] es = ([], sym (append-nil es))
  kept_after (x ∷ xs) es = by (kept_after xs) (is_some (lookup (eq x.0) es))
    where
      by : ((es : List (K × V)) → (more : List (K × V)) × (firsts_after eq es xs ≡ es ++ more)) → (b : Bool) →
          (more : List (K × V)) × (firsts_after eq (if b then es else es ++ (x ∷ [])) xs ≡ es ++ more)
      by kept true = kept es
      by kept false =
          let rest = kept (es ++ (x ∷ [])) in
          (x ∷ rest.0, rest.1 ∙ append_assoc es (x ∷ []) rest.0)

  -- an entry whose key is new stands right after the first entries of those before it
  firsts_parts : (xs more : List (K × V)) (e : K × V) → is_some (lookup (eq e.0) (firsts eq xs)) ≡ false →
      (rest : List (K × V)) × (firsts eq (xs ++ (e ∷ more)) ≡ firsts eq xs ++ (e ∷ rest))
  firsts_parts xs more e new =
      let kept = kept_after more (firsts eq xs ++ (e ∷ [])) in (
        kept.0,
        after_append xs (e ∷ more) []
            ∙ ap (λ (b : Bool). firsts_after eq (if b then firsts eq xs else firsts eq xs ++ (e ∷ [])) more) new
            ∙ kept.1 ∙ append_assoc (firsts eq xs) (e ∷ []) kept.0,
      )

  place_next : (k : K) (front rest : List (K × V)) (e : K × V) → is_some (lookup (eq k) front) ≡ false → eq k e.0 ≡ true →
      position_or_len (eq k) (keys_of (front ++ (e ∷ rest))) ≡ length front
  place_next k [] rest e new own = ap (λ b. cond (not b) (1 + position_or_len (eq k) (keys_of rest)) 0) own
  place_next k (x ∷ front) rest e new own = by (eq k x.0) new (λ new. place_next k front rest e new own)
    where
      by : (b : Bool) → is_some (cond b (Some x.1) (lookup (eq k) front)) ≡ false →
          (is_some (lookup (eq k) front) ≡ false → position_or_len (eq k) (keys_of (front ++ (e ∷ rest))) ≡ length front) →
          cond (not b) (1 + position_or_len (eq k) (keys_of (front ++ (e ∷ rest)))) 0 ≡ suc (length front)
      by true new more = absurd (true≢false new)
      by false new more = let later = more new in omega (arith, later)

  item_after : (front rest : List (K × V)) (e : K × V) → slice_get (front ++ (e ∷ rest)) (length front) ≡ Some e
  item_after [] rest e = refl
  item_after (x ∷ front) rest e = item_after front rest e

  many_keys : (front rest : List (K × V)) (e : K × V) → length front < length (keys_of (front ++ (e ∷ rest)))
  many_keys [] rest e = omega arith
  many_keys (x ∷ front) rest e = let more = many_keys front rest e in omega (arith, more)

  -- the key of an entry is found at the entry's place if none before it has that key
  found_after : (front rest : List (K × V)) (e : K × V) → is_some (lookup (eq e.0) front) ≡ false → eq e.0 e.0 ≡ true →
      position (eq e.0) (keys_of (front ++ (e ∷ rest))) ≡ Some (length front)
  found_after front rest e new own =
      let keys = keys_of (front ++ (e ∷ rest)) in
      ap (λ n. cond (nat_lt n (length keys)) (Some n) None) (place_next e.0 front rest e new own)
      ∙ ap (λ b. cond b (Some (length front)) None) (lt-ltb (length front) (length keys) (many_keys front rest e))

  -- what stands under the key of an entry is the entry's if none before it has that key
  lookup_after : (front rest : List (K × V)) (e : K × V) → is_some (lookup (eq e.0) front) ≡ false → eq e.0 e.0 ≡ true →
      lookup (eq e.0) (front ++ (e ∷ rest)) ≡ Some e.1
  lookup_after [] rest e new own = ap (λ b. cond b (Some e.1) (lookup (eq e.0) rest)) own
  lookup_after (x ∷ front) rest e new own = by (eq e.0 x.0) new (λ new. lookup_after front rest e new own)
    where
      by : (b : Bool) → is_some (cond b (Some x.1) (lookup (eq e.0) front)) ≡ false → (is_some (lookup (eq e.0) front) ≡ false → lookup (eq e.0) (front ++ (e ∷ rest)) ≡ Some e.1) →
          cond b (Some x.1) (lookup (eq e.0) (front ++ (e ∷ rest))) ≡ Some e.1
      by true new more = absurd (true≢false new)
      by false new more = more new

key_itself : (k : Key) → key_eq k k ≡ true
key_itself k =
    ap (λ (b : Bool). b && bytes_eq k.name k.name) ((bytes_eq-Decides k.block k.block).1 refl)
    ∙ (bytes_eq-Decides k.name k.name).1 refl

new_variable : (earlier : Declared) (now : Option (List ℕ)) (st : StmtTree) → declares_again earlier now st ≡ false → is_again earlier.variable (variable_of now 0 st) ≡ false
new_variable earlier now st e =
    let block = is_again earlier.block (block_of now 0 st) in
    let action = is_again earlier.action (action_of now 0 st) in
    let variable = is_again earlier.variable (variable_of now 0 st) in
    (or_parts (block || action) variable (or_parts (block || action || variable) (is_again earlier.label (label_of now 0 st)) e).0).1

pub new_block : (known : List ℕ → Bool) (n : ℕ) (b : BodyTree) (e : List ℕ × Block) → block_of_body n b ≡ Some e → is_again known (block_of_body 0 b) ≡ false → known e.0 ≡ false
new_block known n b e is new = sym (ap (is_again known) is) ∙ by b ∙ new
  where
    by : (b : BodyTree) → is_again known (block_of_body n b) ≡ is_again known (block_of_body 0 b)
    by (procedure name uses) = refl
    by (data_block name) = refl
    by _ = refl

module _ (program : List StmtTree) (sound : IsSound program) where
  -- the names of the statements before a place
  abbrev names_before : ℕ → Names
  names_before i = names_of (numbered (take i (map Some program)))

  -- the block that a statement begins is the one of its name
  pub block_here : (i : ℕ) (st : StmtTree) → slice_get program i ≡ Some st → (e : List ℕ × Block) → block_of_body (1 + i) st.body ≡ Some e →
      lookup (bytes_eq e.0) (program_names program).blocks ≡ Some e.1
  block_here i st at e is =
      let again = is_again (declared_in (names_before i)).block (block_of (block_at program i) 0 st) in
      let action = is_again (declared_in (names_before i)).action (action_of (block_at program i) 0 st) in
      let variable = is_again (declared_in (names_before i)).variable (variable_of (block_at program i) 0 st) in
      let label = is_again (declared_in (names_before i)).label (label_of (block_at program i) 0 st) in
      let own = (or_parts again action (or_parts (again || action) variable (or_parts (again || action || variable) label (sound.keeps i st reasons.Duplicate at)).0).0).0 in
      let new = new_block (declared_in (names_before i)).block (1 + i) st.body e is own in
      let parts = declared_parts block_of program None 1 i st e at is in
      let all = firsts_parts bytes_eq (declared block_of (numbered (take i (map Some program)))) parts.0 e new in
      ap (lookup (bytes_eq e.0)) (ap (firsts bytes_eq) parts.1 ∙ all.1)
      ∙ lookup_after bytes_eq (names_before i).blocks all.0 e new ((bytes_eq-Decides e.0 e.0).1 refl)

  module _ (i : ℕ) (st : StmtTree) (at : slice_get program i ≡ Some st) (block : List ℕ) (inside : block_at program i ≡ Some block) (d : Declaration) (is : declaration st.body ≡ Some d) where
    new_here : is_some (lookup (key_eq (key_in block d.name)) (names_before i).variables) ≡ false
    new_here =
        subst (λ o. is_again (declared_in (names_before i)).variable (variable_in (Some block) 0 o) ≡ false) is
        (subst (λ now. is_again (declared_in (names_before i)).variable (variable_of now 0 st) ≡ false) inside
        (new_variable (declared_in (names_before i)) (block_at program i) st (sound.keeps i st reasons.Duplicate at)))

    -- the variables are those that are declared before, this one, and others
    variables_parts : (rest : List (Key × Variable)) × ((program_names program).variables ≡ (names_before i).variables ++ (variable_entry block (1 + i) d ∷ rest))
    variables_parts =
        let own : variable_of (block_at program i) (1 + i) st ≡ Some (variable_entry block (1 + i) d) =
        ap (λ now. variable_of now (1 + i) st) inside ∙ ap (variable_in (Some block) (1 + i)) is in
        let parts = declared_parts variable_of program None 1 i st (variable_entry block (1 + i) d) at own in
        let all = firsts_parts key_eq (declared variable_of (numbered (take i (map Some program)))) parts.0 (variable_entry block (1 + i) d) new_here in
        (all.0, ap (firsts key_eq) parts.1 ∙ all.1)

    found_here : found_from (program_names program) (block_at program i) d.name ≡ found.Variable (length (names_before i).variables)
    found_here =
        let names = program_names program in
        let entry = variable_entry block (1 + i) d in
        ap (λ now. found_from names now d.name) inside
        ∙ ap (λ o. option_map_or found.Variable o (found_in names (option_map_or (λ b. b.uses) (block_named names block) []) d.name))
        (ap (λ variables. position (key_eq entry.0) (keys_of variables)) variables_parts.1
        ∙ found_after key_eq (names_before i).variables variables_parts.0 entry new_here (key_itself entry.0))

    entry_here : slice_get (program_names program).variables (length (names_before i).variables) ≡ Some (variable_entry block (1 + i) d)
    entry_here =
        ap (λ variables. slice_get variables (length (names_before i).variables)) variables_parts.1
        ∙ item_after key_eq (names_before i).variables variables_parts.0 (variable_entry block (1 + i) d)

    declared_here : IsDeclared (as_played program) (lookup_from (program_names program) (block_at program i)) (1 + i) block d
    declared_here = record {
      kind = ap (kind_of_found (program_names program)) found_here ∙ ap (option_map (λ e. e.1.kind)) entry_here;
      entry = ap (λ f. slice_get (program_names program).variables (number_found (program_names program) f)) found_here ∙ entry_here;
    }

  pub declared_at : (i : ℕ) (st : StmtTree) → slice_get program i ≡ Some st → (block : List ℕ) → block_at program i ≡ Some block →
      IfSome (declaration st.body) (IsDeclared (as_played program) (lookup_from (program_names program) (block_at program i)) (1 + i) block)
  declared_at i st at block inside = by (declaration st.body) refl
    where
      by : (o : Option Declaration) → declaration st.body ≡ o → IfSome o (IsDeclared (as_played program) (lookup_from (program_names program) (block_at program i)) (1 + i) block)
      by None e = tt
      by (Some d) e = declared_here i st at block inside d e
