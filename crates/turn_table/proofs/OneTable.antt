-- A program has one table.
use Rattle.std.proofs.Common.{◌≡◌, ℕ, zero, suc, ◌+◌, ◌<◌, List, [], ◌∷◌, ◌++◌, length, refl, sym, subst, ◌∙◌, arith}
use Rattle.std.proofs.lemmas.List.{same_lists}
use Rattle.std.proofs.lemmas.Option.{get_or_from_slice_get}
use Rattle.stapl_syntax.specs.Trees.{StmtTree}
use Rattle.stapl_syntax.specs.Programs.{IsProgram}
use Rattle.stapl_meaning.specs.Scopes.{as_played}
use Rattle.account_lines.specs.declared.lines.TurnPlace.{TurnPlace}
use Rattle.turn_table.specs.Tables.{turn_place, IsTurnTable}
use Rattle.turn_table.proofs.Entries.{Lists, one_more, all_entries}

-- the first so many values of a function, as a list
counted : {A : Type 0} (value : ℕ → A) (n : ℕ) → (xs : List A) × Lists value n xs
counted value zero = ([], record { count = refl; each = λ k below. absurd (omega (arith, below)) })
counted value (suc n) =
    let before = counted value n in
    let e : n + 1 ≡ suc n = omega arith in
    let longer = before.0 ++ value n ∷ [] in
    (longer, subst (λ m. Lists value m longer) e (one_more value n before.0 (value n) before.1 refl))

pub some_table : (text : List ℕ) (program : List StmtTree) → IsProgram text program →
    (table : List TurnPlace) × IsTurnTable text program table
some_table text program is =
    let made = counted (turn_place text is.pieces (as_played program)) (length program) in
    (made.0, all_entries text is.pieces program made.0 (length program) is.cut refl made.1)

pub one_table : (text : List ℕ) (program : List StmtTree) (a b : List TurnPlace) → IsProgram text program →
    IsTurnTable text program a → IsTurnTable text program b → a ≡ b
one_table text program a b is first second =
    same_lists a b (first.count ∙ sym second.count) (λ k d below.
    let inside : k < length program = omega (arith, below, first.count) in
    get_or_from_slice_get a k _ d (first.each is.pieces k is.cut inside)
    ∙ sym (get_or_from_slice_get b k _ d (second.each is.pieces k is.cut inside)))
