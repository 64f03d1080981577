-- On bytes that go to a sink in parts.
use Rattle.std.proofs.Common.{◌≡◌, ◌+◌, length-append, ℕ, List, [], ◌++◌, length, take, drop, refl, sym, ap, ◌∙◌, append_assoc, Option, None, Some, Result, Ok, Err, OnErr}
use Rattle.std.proofs.lemmas.List.{take-append-drop, append-nil}
use Rattle.tool_io.specs.Bytes.{then_bytes, Moves, MovesFront}

pub then_bytes-twice : (told : Option (List ℕ)) (a b : List ℕ) → then_bytes (then_bytes told a) b ≡ then_bytes told (a ++ b)
then_bytes-twice None a b = refl
then_bytes-twice (Some xs) a b = ap Some (append_assoc xs a b)

pub then_bytes-nothing : (told : Option (List ℕ)) → then_bytes told [] ≡ told
then_bytes-nothing None = refl
then_bytes-nothing (Some xs) = ap Some (append-nil xs)

-- nothing moved
pub moves_nothing : (told : Option (List ℕ)) (bytes : List ℕ) → Moves told bytes told bytes
moves_nothing told bytes = record { front = []; parts = refl; written = sym (then_bytes-nothing told) }

-- one move after another
pub moves_then : {a b c : Option (List ℕ)} {xs ys zs : List ℕ} → Moves a xs b ys → Moves b ys c zs → Moves a xs c zs
moves_then first second = record {
  front = first.front ++ second.front;
  parts = first.parts ∙ ap (λ v. first.front ++ v) second.parts ∙ sym (append_assoc first.front second.front _);
  written = second.written ∙ ap (λ v. then_bytes v second.front) first.written ∙ then_bytes-twice _ first.front second.front;
}

-- a move, and then a part of one
pub moves_then_front : {a b c : Option (List ℕ)} {xs ys : List ℕ} → Moves a xs b ys → MovesFront b ys c → MovesFront a xs c
moves_then_front first second = record { rest = second.rest; moves = moves_then first second.moves }

-- n bytes more
pub moves_more : {a b c : Option (List ℕ)} {xs ys : List ℕ} (n : ℕ) → Moves a xs b ys → c ≡ then_bytes b (take n ys) → Moves a xs c (drop n ys)
moves_more {ys = ys} n first e =
    moves_then first (record { front = take n ys; parts = sym (take-append-drop n ys); written = e })

-- what is gathered of the rest is still to be moved
pub regathered : (g rest : List ℕ) (n : ℕ) → (g ++ take n rest) ++ drop n rest ≡ g ++ rest
regathered g rest n = append_assoc g (take n rest) (drop n rest) ∙ ap (λ v. g ++ v) (take-append-drop n rest)

-- and it is as much
pub regathered_length : (g rest : List ℕ) (n : ℕ) → length (g ++ take n rest) + length (drop n rest) ≡ length g + length rest
regathered_length g rest n =
    sym (length-append (g ++ take n rest) (drop n rest)) ∙ ap length (regathered g rest n) ∙ length-append g rest

-- a fact that holds anyway, at the exit of a `?`
pub on_err : {T E P : Type 0} (r : Result T E) → P → OnErr r P
on_err (Ok x) p = tt
on_err (Err e) p = p

-- a call that fails may have moved nothing
pub moves_front_nothing : (told : Option (List ℕ)) (bytes : List ℕ) → MovesFront told bytes told
moves_front_nothing told bytes = record { rest = bytes; moves = moves_nothing told bytes }
