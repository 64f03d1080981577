-- A table that is filled entry by entry.
use Rattle.std.proofs.Common.{◌≡◌, ℕ, zero, suc, ◌+◌, ◌<◌, ◌≤◌, List, [], ◌∷◌, ◌++◌, length, slice_get, get_or, Some, refl, sym, ap, subst, ◌∙◌, arith}
use Rattle.std.specs.Prelude.{option_map}
use Rattle.std.proofs.lemmas.List.{length-map, length-append}
use Rattle.std.proofs.lemmas.Option.{slice_get-map, slice_get_read}
use Rattle.stapl_lexer.specs.declared.piece.Piece.{Piece}
use Rattle.stapl_lexer.specs.Pieces.{IsCut}
use Rattle.stapl_lexer.proofs.PieceLemmas.{cut_one_way}
use Rattle.stapl_syntax.specs.declared.statement.Stmt.{Stmt}
use Rattle.stapl_syntax.specs.Trees.{StmtTree, body_tree, stmt_tree, trees}
use Rattle.stapl_syntax.specs.Programs.{piece_limit, line_of_index, IsProgram}
use Rattle.stapl_meaning.specs.Scopes.{as_played}
use Rattle.stapl_meaning.proofs.Sound.{sound}
use Rattle.scan_accounts.specs.MadeTurns.{does_scan}
use Rattle.account_lines.specs.declared.lines.TurnPlace.{TurnPlace}
use Rattle.turn_table.specs.Tables.{turn_place, IsTurnTable}
use Rattle.turn_table.proofs.Scans.{scans_as_written}

-- the first so many values of a function stand in a list
pub record Lists {A : Type 0} (value : ℕ → A) (n : ℕ) (xs : List A) : Type 0 where
  pub count : length xs ≡ n
  pub each : (k : ℕ) → k < n → slice_get xs k ≡ Some (value k)

-- one more
pushed : {A : Type 0} (value : ℕ → A) (xs : List A) (x : A) →
    ((k : ℕ) → k < length xs → slice_get xs k ≡ Some (value k)) → x ≡ value (length xs) →
    (k : ℕ) → k < length xs + 1 → slice_get (xs ++ x ∷ []) k ≡ Some (value k)
pushed value [] x each is zero below = ap Some is
pushed value [] x each is (suc k) below = absurd (omega (arith, below))
pushed value (y ∷ ys) x each is zero below = each zero (omega arith)
pushed value (y ∷ ys) x each is (suc k) below =
    pushed (λ j. value (suc j)) ys x (λ j lt. each (suc j) (omega (arith, lt))) is k (omega (arith, below))

pub one_more : {A : Type 0} (value : ℕ → A) (n : ℕ) (xs : List A) (x : A) → Lists value n xs → x ≡ value n →
    Lists value (n + 1) (xs ++ x ∷ [])
one_more value n xs x so_far is = record {
  count = omega (arith, length-append xs (x ∷ []), so_far.count);
  each = λ k below.
      pushed value xs x (λ j lt. so_far.each j (omega (arith, lt, so_far.count)))
      (is ∙ ap value (sym so_far.count)) k (omega (arith, below, so_far.count));
}

-- the entry of the statement at a place
pub entry_is : (text : List ℕ) (pieces : List Piece) (statements : List Stmt) (i : ℕ) (statement : Stmt)
    (entry : TurnPlace) →
    IsProgram text (trees statements) → i < length statements → statement ≡ get_or statements i statement →
    entry.piece ≡ i + 1 → entry.line ≡ line_of_index text pieces i → entry.scans ≡ does_scan (body_tree statement.body) →
    entry ≡ turn_place text pieces (as_played (trees statements)) i
entry_is text pieces statements i statement entry program below at piece line scans =
    let here : slice_get (trees statements) i ≡ Some (stmt_tree statement) =
    slice_get-map stmt_tree statements i
    ∙ ap (option_map stmt_tree) (slice_get_read statements (length statements) i statement refl below at) in
    let fine = sound text (trees statements) program in
    let own = scans ∙ sym (scans_as_written (trees statements) fine i (stmt_tree statement) here) in
    ap (λ n. record { piece = n; line = entry.line; scans = entry.scans }) piece
    ∙ ap (λ n. record { piece = i + 1; line = n; scans = entry.scans }) line
    ∙ ap (λ b. record { piece = i + 1; line = line_of_index text pieces i; scans = b }) own

-- a program as the code has it
pub same_program : (text own : List ℕ) (statements given : List Stmt) → own ≡ text → given ≡ statements →
    IsProgram text (trees statements) → IsProgram own (trees given)
same_program text own statements given e f program =
    subst (λ v. IsProgram v (trees given)) (sym e) (subst (λ v. IsProgram text (trees v)) (sym f) program)

-- it has few statements
pub few_statements : (text : List ℕ) (statements given : List Stmt) → given ≡ statements →
    IsProgram text (trees statements) → length given ≤ piece_limit
few_statements text statements given e program =
    let few = (sound text (trees statements) program).few in
    omega (arith, length-map statements stmt_tree, few, ap length e)

-- the whole table
pub all_entries : (text : List ℕ) (pieces : List Piece) (program : List StmtTree) (table : List TurnPlace) (n : ℕ) →
    IsCut text pieces → n ≡ length program → Lists (turn_place text pieces (as_played program)) n table →
    IsTurnTable text program table
all_entries text pieces program table n cut end all = record {
  count = all.count ∙ end;
  each = λ other i own below.
      all.each i (omega (arith, below, end))
      ∙ ap (λ (ps : List Piece). Some (turn_place text ps (as_played program) i)) (cut_one_way text pieces other cut own);
}

pub whole_table : (text own : List ℕ) (pieces : List Piece) (statements given : List Stmt) (table : List TurnPlace) (n : ℕ) →
    own ≡ text → given ≡ statements → IsCut own pieces → n ≡ length given →
    Lists (turn_place own pieces (as_played (trees given))) n table → IsTurnTable text (trees statements) table
whole_table text own pieces statements given table n e f cut end all =
    subst (λ v. IsTurnTable v (trees statements) table) e
    (subst (λ v. IsTurnTable own (trees v) table) f
    (all_entries own pieces (trees given) table n cut (end ∙ sym (length-map given stmt_tree)) all))
