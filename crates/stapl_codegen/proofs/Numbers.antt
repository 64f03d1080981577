-- The numbers of pieces and of procedures.
use Rattle.std.proofs.Common.{◌≡◌, ◌≢◌, ℕ, suc, ◌+◌, ◌<◌, ◌≤◌, Bool, true, false, cond, not, List, [], ◌∷◌, ◌++◌, length, drop, map, position, slice_get, get_or, Option, Some, unwrap_or, refl, sym, ap, subst, ◌∙◌, arith, append_assoc, if◌then◌else◌}
use Rattle.std.specs.List.{AllPairs, range_with_len, position_or_len}
use Rattle.std.specs.Map.{keys_of}
use Rattle.std.specs.Str.{bytes_eq}
use Rattle.std.proofs.lemmas.List.{length-map, drop_more}
use Rattle.std.proofs.lemmas.Option.{slice_get_within, get_or_from_slice_get}
use Rattle.stapl_syntax.specs.declared.statement.Stmt.{Stmt}
use Rattle.stapl_syntax.specs.declared.names.Block.{Block}
use Rattle.stapl_syntax.specs.Trees.{BodyTree, procedure, call, if_then, StmtTree, trees}
use Rattle.stapl_syntax.specs.Names.{with_numbers, numbered_from, numbered}
use Rattle.stapl_meaning.specs.Scopes.{Played, procedures_in, procedure_number, entry_from}
use Rattle.stapl_meaning.specs.Typed.{procedure_name, procedure_names, plain_blocks, IsProcedure, NamesProcedures, IsTyped}
use Rattle.stapl_codegen.specs.declared.definitions.Numbers.{Numbers}
use Rattle.stapl_codegen.specs.Numbers.{numbers_from, AreNumbers}
use Rattle.stapl_codegen.specs.Drafts.{number_in}
use Rattle.stapl_codegen.proofs.Lists.{CallsAlike}
use Rattle.stapl_names.proofs.Keys.{name_same}
use Rattle.stapl_names.proofs.Positions.{place_or_len}

add_one_first : (k : ℕ) → 1 + k ≡ suc k
add_one_first k = omega arith

add_none : (k : ℕ) → k ≡ k + 0
add_none k = omega arith

-- the numbers of all pieces of a program
with_range : (n : ℕ) (sts : List StmtTree) → with_numbers (range_with_len n (length sts)) sts ≡ numbered_from n (map Some sts)
with_range n [] = refl
with_range n (st ∷ rest) = ap (λ l. record { piece = n; statement = st } ∷ l) (with_range (n + 1) rest)

pub all_pieces : (program : List Stmt) (count : ℕ) (numbers : List ℕ) → count ≡ length program → numbers ≡ range_with_len 1 count →
    with_numbers numbers (trees program) ≡ numbered (map Some (trees program))
all_pieces program count numbers few are =
    ap (λ ns. with_numbers ns (trees program)) (are ∙ ap (range_with_len 1) (few ∙ sym (length-map program _)))
    ∙ with_range 1 (trees program)

-- the number of a procedure is the place of its name among those of all procedures
number_is : (program : List StmtTree) (name : List ℕ) → procedure_number program name ≡ position_or_len (bytes_eq name) (procedure_names program)
number_is [] name = refl
number_is (st ∷ rest) name = by st.body (number_is rest name)
  where
    here : (p : List ℕ) (b : Bool) → procedure_number rest name ≡ position_or_len (bytes_eq name) (procedure_names rest) →
        cond b 0 (suc (procedure_number rest name)) ≡ cond (not b) (1 + position_or_len (bytes_eq name) (procedure_names rest)) 0
    here p true more = refl
    here p false more = omega (arith, more)

    by : (b : BodyTree) → procedure_number rest name ≡ position_or_len (bytes_eq name) (procedure_names rest) →
        procedure_number (record { label = st.label; body = b } ∷ rest) name ≡ position_or_len (bytes_eq name) (procedure_name b (procedure_names rest))
    by (procedure p uses) more = here p (bytes_eq name p) more
    by _ more = more

-- the count of procedures is that of their names
count_is : (sts : List StmtTree) → procedures_in sts ≡ length (procedure_names sts)
count_is [] = refl
count_is (st ∷ rest) = by st.body (count_is rest)
  where
    by : (b : BodyTree) → procedures_in rest ≡ length (procedure_names rest) → procedures_in (record { label = st.label; body = b } ∷ rest) ≡ length (procedure_name b (procedure_names rest))
    by (procedure p uses) more = ap suc more
    by _ more = more

-- a name that stands in a list has a place in it
not_among : (name : List ℕ) (es : List (List ℕ × Block)) → ((i : ℕ) → i < length es → get_or (keys_of es) i name ≢ name) → position_or_len (bytes_eq name) (plain_blocks es) ≡ length (plain_blocks es)
not_among name [] differ = refl
not_among name (e ∷ es) differ = by e.1.is_data (bytes_eq name e.0) refl (not_among name es (λ i below. differ (suc i) (omega (arith, below))))
  where
    by : (d : Bool) (b : Bool) → bytes_eq name e.0 ≡ b → position_or_len (bytes_eq name) (plain_blocks es) ≡ length (plain_blocks es) →
        position_or_len (bytes_eq name) (if d then plain_blocks es else e.0 ∷ plain_blocks es) ≡ length (if d then plain_blocks es else e.0 ∷ plain_blocks es)
    by true b is more = more
    by false true is more = absurd (differ 0 (omega arith) (sym (name_same name e.0 is)))
    by false false is more = ap (λ b. cond (not b) (1 + position_or_len (bytes_eq name) (plain_blocks es)) 0) is ∙ omega (arith, more)

first_apart : (e : List ℕ × Block) (es : List (List ℕ × Block)) → AllPairs (λ a b. a ≢ b) (keys_of (e ∷ es)) → (i : ℕ) → i < length es → get_or (keys_of es) i e.0 ≢ e.0
first_apart e es apart i below same =
    let long = length-map es (λ (e : List ℕ × Block). e.0) in
    apart 0 (suc i) e.0 (omega arith) (omega (arith, below, long)) (sym same)

others_apart : (e : List ℕ × Block) (es : List (List ℕ × Block)) → AllPairs (λ a b. a ≢ b) (keys_of (e ∷ es)) → AllPairs (λ a b. a ≢ b) (keys_of es)
others_apart e es apart = λ i j d before below. apart (suc i) (suc j) d (omega (arith, before)) (omega (arith, below))

-- the number at the block of a procedure is that of the procedure
number_at : (es : List (List ℕ × Block)) (n d : ℕ) (name : List ℕ) → AllPairs (λ a b. a ≢ b) (keys_of es) → position_or_len (bytes_eq name) (plain_blocks es) < length (plain_blocks es) →
    get_or (numbers_from n es) (position_or_len (bytes_eq name) (keys_of es)) d ≡ n + position_or_len (bytes_eq name) (plain_blocks es)
number_at [] n d name apart below = absurd (omega (arith, below))
number_at (e ∷ es) n d name apart below = by e.1.is_data (bytes_eq name e.0) refl below (λ m. number_at es m d name (others_apart e es apart))
  where
    by : (data' b : Bool) → bytes_eq name e.0 ≡ b →
        position_or_len (bytes_eq name) (if data' then plain_blocks es else e.0 ∷ plain_blocks es) < length (if data' then plain_blocks es else e.0 ∷ plain_blocks es) →
        ((m : ℕ) → position_or_len (bytes_eq name) (plain_blocks es) < length (plain_blocks es) →
        get_or (numbers_from m es) (position_or_len (bytes_eq name) (keys_of es)) d ≡ m + position_or_len (bytes_eq name) (plain_blocks es)) →
        get_or (n ∷ numbers_from (if data' then n else suc n) es) (position_or_len (bytes_eq name) (e.0 ∷ keys_of es)) d
        ≡ n + position_or_len (bytes_eq name) (if data' then plain_blocks es else e.0 ∷ plain_blocks es)
    by true true is below more =
        let same = name_same name e.0 is in
        absurd (omega (arith, below, not_among name es (λ i within. subst (λ x. get_or (keys_of es) i x ≢ x) (sym same) (first_apart e es apart i within))))
    by true false is below more =
        ap (λ b. get_or (n ∷ numbers_from n es) (cond (not b) (1 + position_or_len (bytes_eq name) (keys_of es)) 0) d) is
        ∙ ap (λ k. get_or (n ∷ numbers_from n es) k d) (add_one_first (position_or_len (bytes_eq name) (keys_of es))) ∙ more n below
    by false true is below more =
        ap (λ b. get_or (n ∷ numbers_from (suc n) es) (cond (not b) (1 + position_or_len (bytes_eq name) (keys_of es)) 0) d) is
        ∙ add_none n
        ∙ ap (λ b. n + cond (not b) (1 + position_or_len (bytes_eq name) (plain_blocks es)) 0) (sym is)
    by false false is below more =
        let within : position_or_len (bytes_eq name) (plain_blocks es) < length (plain_blocks es) =
        omega (arith, ap (λ b. cond (not b) (1 + position_or_len (bytes_eq name) (plain_blocks es)) 0) is, below) in
        let later = more (suc n) within in
        ap (λ b. get_or (n ∷ numbers_from (suc n) es) (cond (not b) (1 + position_or_len (bytes_eq name) (keys_of es)) 0) d) is
        ∙ ap (λ k. get_or (n ∷ numbers_from (suc n) es) k d) (add_one_first (position_or_len (bytes_eq name) (keys_of es)))
        ∙ later
        ∙ omega (arith, ap (λ b. cond (not b) (1 + position_or_len (bytes_eq name) (plain_blocks es)) 0) is)

-- where the number of a procedure stands among those at the blocks
pub block_place : (name : List ℕ) (es : List (List ℕ × Block)) (block : Option ℕ) (count : ℕ) → block ≡ position (bytes_eq name) (keys_of es) → count ≡ length es →
    unwrap_or block count ≡ position_or_len (bytes_eq name) (keys_of es)
block_place name es block count at few =
    ap (unwrap_or block) (few ∙ sym (length-map es (λ e. e.0))) ∙ place_or_len (bytes_eq name) (keys_of es) block at

-- the number of the procedure of an item, from the numbers at the blocks
pub item_number : (program : Played) (numbers : Numbers) (name : List ℕ) (block : Option ℕ) (count d : ℕ) → AreNumbers program numbers →
    procedure_number program.pieces name < procedures_in program.pieces →
    block ≡ position (bytes_eq name) (keys_of numbers.names.now.blocks) → count ≡ length numbers.names.now.blocks →
    get_or numbers.next.items (unwrap_or block count) d ≡ procedure_number program.pieces name
item_number program numbers name block count d are there at few =
    let es : List (List ℕ × Block) = numbers.names.now.blocks in
    let place = block_place name es block count at few in
    let own : position_or_len (bytes_eq name) (plain_blocks es) ≡ procedure_number program.pieces name =
    ap (position_or_len (bytes_eq name)) are.procedures ∙ sym (number_is program.pieces name) in
    let below : position_or_len (bytes_eq name) (plain_blocks es) < length (plain_blocks es) =
    omega (arith, own, there, count_is program.pieces, ap length are.procedures) in
    ap (λ xs. get_or xs (unwrap_or block count) d) are.next
    ∙ ap (λ k. get_or (numbers_from 0 es) k d) place
    ∙ number_at es 0 d name are.apart below
    ∙ omega (arith, own)

-- what a statement calls has the number that the numbers at the blocks tell
number_known : (program : Played) → IsTyped program → (name : List ℕ) → IsProcedure program name →
    number_in program.names (numbers_from 0 program.names.blocks) name ≡ procedure_number program.pieces name
number_known program typed name there =
    let es : List (List ℕ × Block) = program.names.blocks in
    let own : position_or_len (bytes_eq name) (plain_blocks es) ≡ procedure_number program.pieces name =
    ap (position_or_len (bytes_eq name)) typed.procedures_are ∙ sym (number_is program.pieces name) in
    let below : position_or_len (bytes_eq name) (plain_blocks es) < length (plain_blocks es) =
    omega (arith, own, there, count_is program.pieces, ap length typed.procedures_are) in
    number_at es 0 0 name typed.blocks_apart below ∙ omega (arith, own)

pub calls_known : (program : Played) → IsTyped program → (inside : Option (List ℕ)) (i : ℕ) (place : ℕ → ℕ) (b : BodyTree) → NamesProcedures program b →
    CallsAlike program.names (λ p. 0) (entry_from program.pieces) (number_in program.names (numbers_from 0 program.names.blocks)) (procedure_number program.pieces)
    (length program.pieces) inside i place b
calls_known program typed inside i place (call name) there = number_known program typed name there
calls_known program typed inside i place (if_then e b) there = calls_known program typed inside i place b there
calls_known program typed inside i place _ there = tt

-- there is a number at each block and after them
pub numbers_count : (n : ℕ) (es : List (List ℕ × Block)) → length (numbers_from n es) ≡ length es + 1
numbers_count n [] = omega arith
numbers_count n (e ∷ es) = let more = numbers_count (if e.1.is_data then n else suc n) es in omega (arith, more)

place_within : (p : List ℕ → Bool) (xs : List (List ℕ)) → position_or_len p xs ≤ length xs
place_within p [] = omega arith
place_within p (x ∷ xs) = by (p x) (place_within p xs)
  where
    by : (b : Bool) → position_or_len p xs ≤ length xs → cond (not b) (1 + position_or_len p xs) 0 ≤ suc (length xs)
    by true le = omega arith
    by false le = omega (arith, le)

-- so the number of an item stands in the list
pub item_below : (program : Played) (numbers : Numbers) (name : List ℕ) (block : Option ℕ) (count at many : ℕ) → AreNumbers program numbers →
    block ≡ position (bytes_eq name) (keys_of numbers.names.now.blocks) → count ≡ length numbers.names.now.blocks → at ≡ unwrap_or block count → many ≡ length numbers.next.items → at < many
item_below program numbers name block count at many are is few own long =
    let es : List (List ℕ × Block) = numbers.names.now.blocks in
    let keys : length (keys_of es) ≡ length es = length-map es (λ e. e.0) in
    let place = block_place name es block count is few in
    omega (arith, own, place, long, keys, ap length are.next, numbers_count 0 es, place_within (bytes_eq name) (keys_of es))

-- a block more
pub numbers_more : (es : List (List ℕ × Block)) (i next : ℕ) (e : List ℕ × Block) (numbers numbers' all : List ℕ) → numbers ++ numbers_from next (drop i es) ≡ all → slice_get es i ≡ Some e →
    numbers' ≡ numbers ++ next ∷ [] → numbers' ++ numbers_from (if e.1.is_data then next else suc next) (drop (i + 1) es) ≡ all
numbers_more es i next e numbers numbers' all so_far at more =
    let rest = drop (i + 1) es in
    let here : drop i es ≡ e ∷ rest = drop_more es i e (slice_get_within es i e at) ∙ ap (λ x. x ∷ rest) (get_or_from_slice_get es i e e at) in
    ap (λ l. l ++ numbers_from (if e.1.is_data then next else suc next) rest) more
    ∙ append_assoc numbers (next ∷ []) (numbers_from (if e.1.is_data then next else suc next) rest)
    ∙ sym (ap (λ l. numbers ++ numbers_from next l) here)
    ∙ so_far
