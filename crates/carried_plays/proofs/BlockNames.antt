-- A name that no block has is none of the names of the program.
use Rattle.std.proofs.Common.{◌≡◌, ℕ, ◌+◌, ◌||◌, Bool, true, false, cond, if◌then◌else◌, List, [], ◌∷◌, ◌++◌, map, Option, Some, None, is_some, refl, ap, ◌∙◌}
use Rattle.std.proofs.lemmas.Bool.{or_parts}
use Rattle.std.specs.List.{cons_option, list_any}
use Rattle.std.specs.Map.{lookup}
use Rattle.std.specs.Str.{bytes_eq}
use Rattle.stapl_syntax.specs.declared.names.Block.{Block}
use Rattle.stapl_syntax.specs.Trees.{BodyTree, procedure, data_block, StmtTree}
use Rattle.stapl_syntax.specs.Names.{numbered_from, numbered, inside_next, block_of_body, block_of, block_named, declared_from, declared, put_first, firsts_after}
use Rattle.stapl_meaning.specs.Scopes.{program_names}
use Rattle.carried_plays.specs.PadNames.{begins_block, has_block, IsFree}

-- no block of this name is among the names of the program
abbrev pub IsUnknown : List ℕ → List StmtTree → Type 0
IsUnknown name program = is_some (block_named (program_names program) name) ≡ false

module _ {V : Type 0} (name : List ℕ) where
  -- an entry of another name does not help to find this one
  lookup_other : (es : List (List ℕ × V)) (e : List ℕ × V) → bytes_eq name e.0 ≡ false → is_some (lookup (bytes_eq name) es) ≡ false →
      is_some (lookup (bytes_eq name) (es ++ (e ∷ []))) ≡ false
  lookup_other [] e h k = ap (λ t. is_some (cond t (Some e.1) None)) h
  lookup_other (x ∷ es) e h k = by (bytes_eq name x.0) k (lookup_other es e h)
    where
      by : (t : Bool) → is_some (cond t (Some x.1) (lookup (bytes_eq name) es)) ≡ false →
          (is_some (lookup (bytes_eq name) es) ≡ false → is_some (lookup (bytes_eq name) (es ++ (e ∷ []))) ≡ false) →
          is_some (cond t (Some x.1) (lookup (bytes_eq name) (es ++ (e ∷ [])))) ≡ false
      by true k f = k
      by false k f = f k

  put_other : (es : List (List ℕ × V)) (e : List ℕ × V) → bytes_eq name e.0 ≡ false → is_some (lookup (bytes_eq name) es) ≡ false →
      is_some (lookup (bytes_eq name) (put_first bytes_eq es e)) ≡ false
  put_other es e h k = by (is_some (lookup (bytes_eq e.0) es))
    where
      by : (t : Bool) → is_some (lookup (bytes_eq name) (if t then es else es ++ (e ∷ []))) ≡ false
      by true = k
      by false = lookup_other es e h k

  firsts_other : (xs es : List (List ℕ × V)) → list_any (λ (e : List ℕ × V). bytes_eq name e.0) xs ≡ false → is_some (lookup (bytes_eq name) es) ≡ false →
      is_some (lookup (bytes_eq name) (firsts_after bytes_eq es xs)) ≡ false
  firsts_other [] es h k = k
  firsts_other (x ∷ xs) es h k =
      let p = or_parts (bytes_eq name x.0) (list_any (λ (e : List ℕ × V). bytes_eq name e.0) xs) h in
      firsts_other xs (put_first bytes_eq es x) p.1 (put_other es x p.0 k)

-- the blocks that are declared have none of this name
none_declared : (name : List ℕ) (xs : List StmtTree) (now : Option (List ℕ)) (n : ℕ) → has_block xs name ≡ false →
    list_any (λ (e : List ℕ × Block). bytes_eq name e.0) (declared_from block_of now (numbered_from n (map Some xs))) ≡ false
none_declared name [] now n h = refl
none_declared name (x ∷ xs) now n h =
    let p = or_parts (begins_block name x.body) (has_block xs name) h in
    by x.body p.0 (none_declared name xs (inside_next now x.body) (n + 1) p.1)
  where
    by : (b : BodyTree) → begins_block name b ≡ false →
        list_any (λ (e : List ℕ × Block). bytes_eq name e.0) (declared_from block_of (inside_next now x.body) (numbered_from (n + 1) (map Some xs))) ≡ false →
        list_any (λ (e : List ℕ × Block). bytes_eq name e.0)
        (cons_option (block_of_body n b) (declared_from block_of (inside_next now x.body) (numbered_from (n + 1) (map Some xs)))) ≡ false
    by (procedure own uses) e f = ap (λ t. t || list_any (λ (e : List ℕ × Block). bytes_eq name e.0) (declared_from block_of (inside_next now x.body) (numbered_from (n + 1) (map Some xs)))) e ∙ f
    by (data_block own) e f = ap (λ t. t || list_any (λ (e : List ℕ × Block). bytes_eq name e.0) (declared_from block_of (inside_next now x.body) (numbered_from (n + 1) (map Some xs)))) e ∙ f
    by _ e f = f

pub free_is_unknown : (name : List ℕ) (program : List StmtTree) → IsFree name program → IsUnknown name program
free_is_unknown name program free = firsts_other name (declared block_of (numbered (map Some program))) [] (none_declared name program None 1 free) refl
