-- The pieces of a program, one after the other.
use Rattle.std.proofs.Common.{◌≡◌, ℕ, zero, suc, ◌+◌, ◌-◌, ◌<◌, ◌≤◌, ◌||◌, Bool, true, false, cond, List, [], ◌∷◌, ◌++◌, length, map, take, drop, get_or, slice_get, refl, sym, ap, ◌∙◌, arith}
use Rattle.std.specs.Option.{option_map_or}
use Rattle.std.proofs.lemmas.List.{take-map, drop-map}
use Rattle.std.proofs.lemmas.Simd.{map-map}
use Rattle.stapl_syntax.specs.declared.statement.Stmt.{Stmt}
use Rattle.stapl_syntax.specs.Trees.{StmtTree, body_tree, stmt_tree, trees}
use Rattle.stapl_syntax.specs.Rules.{is_crc}
use Rattle.stapl_print.proofs.LineLemmas.{next_of}
use Rattle.carried_plays.specs.CarriedPrograms.{with_item, before_crc, from_crc}
use Rattle.carried_plays.specs.OwnPaddings.{sets_padding, has_own_padding, sets_padding_at, IsFirstPadding}

-- ---- the next statement with its item, and those after it

pub next_with_item : (name : List ℕ) (i : ℕ) (xs : List Stmt) (x : Stmt) → i < length xs → x ≡ get_or xs i x →
    drop i (map (with_item name) (trees xs)) ≡ with_item name (stmt_tree x) ∷ drop (i + 1) (map (with_item name) (trees xs))
next_with_item name i xs x below is =
    let fused : map (with_item name) (trees xs) ≡ map (λ st. with_item name (stmt_tree st)) xs = map-map (with_item name) stmt_tree xs in
    ap (drop i) fused ∙ next_of (λ st. with_item name (stmt_tree st)) i xs x below is
    ∙ ap (λ (l : List StmtTree). with_item name (stmt_tree x) ∷ drop (i + 1) l) (sym fused)

-- ---- the CRC

-- the statement with this index is CRC
abbrev pub crc_at : List StmtTree → ℕ → Bool
crc_at xs i = option_map_or (λ (st : StmtTree). is_crc st.body) (slice_get xs i) false

pub is_crc_at : (xs : List Stmt) (i : ℕ) (x : Stmt) → i < length xs → x ≡ get_or xs i x → crc_at (trees xs) i ≡ is_crc (body_tree x.body)
is_crc_at [] i x below is = absurd (omega (arith, below))
is_crc_at (y ∷ ys) zero x below is = ap (λ (s : Stmt). is_crc (body_tree s.body)) (sym is)
is_crc_at (y ∷ ys) (suc i) x below is = is_crc_at ys i x (omega (arith, below)) is

-- none stands before this index, and one stands there, or nothing
pub before_there : (xs : List StmtTree) (i : ℕ) → ((k : ℕ) → k < i → crc_at xs k ≡ false) → (i < length xs → crc_at xs i ≡ true) → take i xs ≡ before_crc xs
before_there [] zero none here = refl
before_there [] (suc i) none here = refl
before_there (x ∷ xs) zero none here = ap (λ (b : Bool). cond b [] (x ∷ before_crc xs)) (sym (here (omega arith)))
before_there (x ∷ xs) (suc i) none here =
    ap (λ (l : List StmtTree). x ∷ l) (before_there xs i (λ k lt. none (suc k) (omega (arith, lt))) (λ lt. here (omega (arith, lt))))
    ∙ ap (λ (b : Bool). cond b [] (x ∷ before_crc xs)) (sym (none zero (omega arith)))

pub from_there : (xs : List StmtTree) (i : ℕ) → ((k : ℕ) → k < i → crc_at xs k ≡ false) → (i < length xs → crc_at xs i ≡ true) → drop i xs ≡ from_crc xs
from_there [] zero none here = refl
from_there [] (suc i) none here = refl
from_there (x ∷ xs) zero none here = ap (λ (b : Bool). cond b (x ∷ xs) (from_crc xs)) (sym (here (omega arith)))
from_there (x ∷ xs) (suc i) none here =
    from_there xs i (λ k lt. none (suc k) (omega (arith, lt))) (λ lt. here (omega (arith, lt)))
    ∙ ap (λ (b : Bool). cond b (x ∷ xs) (from_crc xs)) (sym (none zero (omega arith)))

-- the statements before the CRC with their items, these pieces, and the end
pub whole_is : (name : List ℕ) (pieces : List StmtTree) (xs front end : List Stmt) (n : ℕ) → front ≡ take n xs → end ≡ drop n xs → take n (trees xs) ≡ before_crc (trees xs) →
    drop n (trees xs) ≡ from_crc (trees xs) →
    map (with_item name) (trees front) ++ (pieces ++ trees end) ≡ map (with_item name) (before_crc (trees xs)) ++ (pieces ++ from_crc (trees xs))
whole_is name pieces xs front end n e f before from =
    let a : trees front ≡ before_crc (trees xs) = ap trees e ∙ sym (take-map stmt_tree n xs) ∙ before in
    let b : trees end ≡ from_crc (trees xs) = ap trees f ∙ sym (drop-map stmt_tree n xs) ∙ from in
    ap (λ (l : List StmtTree). map (with_item name) l ++ (pieces ++ trees end)) a ∙ ap (λ (l : List StmtTree). map (with_item name) (before_crc (trees xs)) ++ (pieces ++ l)) b

-- ---- paddings

-- whether the piece with this index sets one
pub sets_at : (xs : List Stmt) (i : ℕ) (x : Stmt) → i < length xs → x ≡ get_or xs i x → sets_padding_at (trees xs) i ≡ sets_padding (body_tree x.body)
sets_at [] i x below is = absurd (omega (arith, below))
sets_at (y ∷ ys) zero x below is = ap (λ (s : Stmt). sets_padding (body_tree s.body)) (sym is)
sets_at (y ∷ ys) (suc i) x below is = sets_at ys i x (omega (arith, below)) is

-- none sets one
pub none_set : (xs : List StmtTree) (n : ℕ) → length xs ≤ n → ((k : ℕ) → k < n → sets_padding_at xs k ≡ false) → has_own_padding xs ≡ false
none_set [] n few none = refl
none_set (x ∷ xs) zero few none = absurd (omega (arith, few))
none_set (x ∷ xs) (suc n) few none =
    by (sets_padding x.body) (none zero (omega arith)) (none_set xs n (omega (arith, few)) (λ k lt. none (suc k) (omega (arith, lt))))
  where
    by : (b : Bool) → b ≡ false → has_own_padding xs ≡ false → (b || has_own_padding xs) ≡ false
    by true e more = e
    by false e more = more

-- this one does, and none before it
pub first_set : (xs : List StmtTree) (i n : ℕ) → n ≡ i + 1 → sets_padding_at xs i ≡ true → ((k : ℕ) → k < i → sets_padding_at xs k ≡ false) → IsFirstPadding xs n
first_set xs i n e sets none =
    let same : n - 1 ≡ i = omega (arith, e) in
    record {
      counted = omega (arith, e);
      sets = ap (sets_padding_at xs) same ∙ sets;
      least = λ k lt. none k (omega (arith, lt, e));
    }
