-- The canonical text of a program is a program, of the same statements but for the check word.
use Rattle.std.proofs.Common.{◌≡◌, ℕ, ◌+◌, ◌<◌, ◌≤◌, zero, suc, Bool, true, false, ◌&&◌, ◌||◌, List, [], ◌∷◌, ◌++◌, map, take, slice_get, length, Option, Some}
use Rattle.std.proofs.Common.{None, refl, sym, ap, subst, ◌∙◌, arith}
use Rattle.std.specs.Prelude.{is_some, not}
use Rattle.std.specs.Str.{bytes_eq}
use Rattle.std.specs.List.{cons_option, sum_by, AllByRecursion}
use Rattle.std.proofs.lemmas.List.{take-map}
use Rattle.std.proofs.lemmas.List.Sums.{sum_by-cons}
use Rattle.stapl_lexer.specs.declared.piece.Piece.{Piece}
use Rattle.stapl_lexer.specs.declared.reason.Reason.{Reason}
use Rattle.stapl_lexer.specs.declared.reason.Reason.TheVariants as reasons
use Rattle.stapl_lexer.specs.Crc.{check_word}
use Rattle.stapl_lexer.specs.Pieces.{pieces_from, text_limit}
use Rattle.stapl_grammar.proofs.LawLemmas.{no_reason, one_piece_statement}
use Rattle.stapl_syntax.specs.Names.{Numbered, numbered_from, numbered, inside_next, inside_from, inside_after, declared_from, block_of, action_of}
use Rattle.stapl_syntax.specs.Names.{variable_of, label_of, Names, names_of, firsts, key_eq}
use Rattle.stapl_syntax.specs.Programs.{AreReadAs, facts_at, HasReasonAt, one_too_many, no_statement, breaks_rule, not_closed, nothing_to_do, IsProgram}
use Rattle.stapl_syntax.specs.Reasons.{HasReason}
use Rattle.stapl_syntax.specs.Rules.{is_crc, is_action, is_block, any_body, boolean_elements, integer_elements, in_data_block, declared_in, known_from, Totals}
use Rattle.stapl_syntax.specs.Rules.{totals_of, Facts, facts_after, breaks}
use Rattle.stapl_syntax.specs.Trees.{BodyTree, crc, StmtTree}
use Rattle.stapl_syntax.specs.Statements.{is_outer, IsLabelled, IsPieceStatement}
use Rattle.stapl_syntax.specs.Symbols.{Symbol}
use Rattle.canonical_text.specs.CanonicalText.{line, checked_body, checked, checked_from, checked_statements, canonical_text, HasStatements, plain_body, plain}
use Rattle.canonical_text.specs.Printable.{CanBePrinted}
use Rattle.canonical_text.proofs.PieceStatements.{of_other, of_check}
use Rattle.canonical_text.proofs.Texts.{groups_from, lines_cut, lines_read}

-- ---- what is printed

check_small : (bytes : List ℕ) → check_word bytes < 65536
check_small bytes = omega arith

abbrev pub stmt_of : Option (List ℕ) → BodyTree → StmtTree
stmt_of label body = record { label = label; body = body }

checked_plain : (before : List ℕ) (label : Option (List ℕ)) (body : BodyTree) → is_crc body ≡ false →
    stmt_of label (checked_body before body) ≡ stmt_of label body
checked_plain before label (crc n) e = absurd cc
checked_plain before label _ e = refl

bare : (s : List Symbol) (label : Option (List ℕ)) (body : BodyTree) → IsLabelled s label body → is_outer body ≡ true → label ≡ None
bare s None body is e = refl
bare s (Some v) body is e = absurd (let f = is.2 in cc)

crc_printable : (before : List ℕ) (s : List Symbol) (label : Option (List ℕ)) (body : BodyTree) → IsLabelled s label body → is_crc body ≡ true →
    CanBePrinted (record { label = label; body = checked_body before body })
crc_printable before s label (crc n) is e =
    subst (λ (l : Option (List ℕ)). CanBePrinted (record { label = l; body = crc (check_word before) })) (sym (bare s label (crc n) is refl))
    (of_check (check_word before) (check_small before))
crc_printable before s label _ is e = absurd cc

checked_printable : (before : List ℕ) (st : StmtTree) → CanBePrinted st → CanBePrinted (checked before st)
checked_printable before st can = by (is_crc st.body) refl
  where
    by : (b : Bool) → is_crc st.body ≡ b → CanBePrinted (checked before st)
    by true e = crc_printable before can.writing st.label st.body can.means e
    by false e = subst CanBePrinted (sym (checked_plain before st.label st.body e)) can

-- with their check words, statements can be printed as well
pub checked_are_printable : (before : List ℕ) (sts : List StmtTree) → AllByRecursion CanBePrinted sts → AllByRecursion CanBePrinted (checked_from before sts)
checked_are_printable before [] all = tt
checked_are_printable before (st ∷ sts) all =
    (checked_printable before st all.0, checked_are_printable (before ++ line (checked before st)) sts all.1)

read_printable : (text : List ℕ) (pieces : List Piece) (sts : List StmtTree) → AreReadAs text pieces (map Some sts) → AllByRecursion CanBePrinted sts
read_printable text [] [] read = tt
read_printable text [] (st ∷ sts) read = absurd read
read_printable text (p ∷ ps) [] read = tt
read_printable text (p ∷ ps) (st ∷ sts) read = (of_other text p st read.0, read_printable text ps sts read.1)

-- the statements of a program can be printed
pub program_printable : (text : List ℕ) (sts : List StmtTree) → IsProgram text sts → AllByRecursion CanBePrinted sts
program_printable text sts program = read_printable text program.pieces sts program.read

-- the pieces of canonical text are the statements
pub canonical_read : (sts : List StmtTree) → AllByRecursion CanBePrinted sts → HasStatements (canonical_text sts) (checked_statements sts)
canonical_read sts all = record {
  pieces = pieces_from (canonical_text sts) 0 (groups_from [] (checked_statements sts));
  cut = lines_cut (checked_statements sts) (checked_are_printable [] sts all);
  read = lines_read (checked_statements sts) (checked_are_printable [] sts all);
}

-- ---- the check word is no matter for names and rules

plain_checked_body : (before : List ℕ) (body : BodyTree) → plain_body (checked_body before body) ≡ plain_body body
plain_checked_body before (crc n) = refl
plain_checked_body before _ = refl

pub plain_checked : (before : List ℕ) (sts : List StmtTree) → map plain (checked_from before sts) ≡ map plain sts
plain_checked before [] = refl
plain_checked before (st ∷ sts) =
    ap (λ (b : BodyTree). record { label = st.label; body = b } ∷ map plain (checked_from (before ++ line (checked before st)) sts)) (plain_checked_body before st.body)
    ∙ ap (λ (v : List StmtTree). plain st ∷ v) (plain_checked (before ++ line (checked before st)) sts)

inside_plain : (now : Option (List ℕ)) (body : BodyTree) → inside_next now (plain_body body) ≡ inside_next now body
inside_plain now (crc n) = refl
inside_plain now _ = refl

module _ {K V : Type 0} (declares : Option (List ℕ) → ℕ → StmtTree → Option (K × V))
    (same : (now : Option (List ℕ)) (n : ℕ) (st : StmtTree) → declares now n (plain st) ≡ declares now n st) where
  declared_plain : (now : Option (List ℕ)) (n : ℕ) (sts : List StmtTree) →
      declared_from declares now (numbered_from n (map Some (map plain sts))) ≡ declared_from declares now (numbered_from n (map Some sts))
  declared_plain now n [] = refl
  declared_plain now n (st ∷ sts) =
      ap (λ (o : Option (K × V)). cons_option o (declared_from declares (inside_next now (plain_body st.body)) (numbered_from (n + 1) (map Some (map plain sts))))) (same now n st)
      ∙ ap (λ (i : Option (List ℕ)). cons_option (declares now n st) (declared_from declares i (numbered_from (n + 1) (map Some (map plain sts))))) (inside_plain now st.body)
      ∙ ap (cons_option (declares now n st)) (declared_plain (inside_next now st.body) (n + 1) sts)

pub inside_from_plain : (now : Option (List ℕ)) (n : ℕ) (sts : List StmtTree) → inside_from now (numbered_from n (map Some (map plain sts))) ≡ inside_from now (numbered_from n (map Some sts))
inside_from_plain now n [] = refl
inside_from_plain now n (st ∷ sts) =
    ap (λ (i : Option (List ℕ)). inside_from i (numbered_from (n + 1) (map Some (map plain sts)))) (inside_plain now st.body) ∙ inside_from_plain (inside_next now st.body) (n + 1) sts

any_plain : (test : BodyTree → Bool) → ((body : BodyTree) → test (plain_body body) ≡ test body) → (n : ℕ) (sts : List StmtTree) →
    any_body test (numbered_from n (map Some (map plain sts))) ≡ any_body test (numbered_from n (map Some sts))
any_plain test same n [] = refl
any_plain test same n (st ∷ sts) =
    ap (λ (b : Bool). b || any_body test (numbered_from (n + 1) (map Some (map plain sts)))) (same st.body)
    ∙ ap (λ (b : Bool). test st.body || b) (any_plain test same (n + 1) sts)

sum_plain : (count : BodyTree → ℕ) → ((body : BodyTree) → count (plain_body body) ≡ count body) → (n : ℕ) (sts : List StmtTree) →
    sum_by (λ (s : Numbered). count s.statement.body) (numbered_from n (map Some (map plain sts))) ≡ sum_by (λ (s : Numbered). count s.statement.body) (numbered_from n (map Some sts))
sum_plain count same n [] = refl
sum_plain count same n (st ∷ sts) =
    sum_by-cons (λ (s : Numbered). count s.statement.body) (record { piece = n; statement = plain st }) (numbered_from (n + 1) (map Some (map plain sts)))
    ∙ ap (λ (k : ℕ). k + sum_by (λ (s : Numbered). count s.statement.body) (numbered_from (n + 1) (map Some (map plain sts)))) (same st.body)
    ∙ ap (λ (k : ℕ). count st.body + k) (sum_plain count same (n + 1) sts)
    ∙ sym (sum_by-cons (λ (s : Numbered). count s.statement.body) (record { piece = n; statement = st }) (numbered_from (n + 1) (map Some sts)))

blocks_same : (now : Option (List ℕ)) (n : ℕ) (label : Option (List ℕ)) (body : BodyTree) →
    block_of now n (record { label = label; body = plain_body body }) ≡ block_of now n (record { label = label; body = body })
blocks_same now n label (crc k) = refl
blocks_same now n label _ = refl

actions_same : (now : Option (List ℕ)) (n : ℕ) (label : Option (List ℕ)) (body : BodyTree) →
    action_of now n (record { label = label; body = plain_body body }) ≡ action_of now n (record { label = label; body = body })
actions_same now n label (crc k) = refl
actions_same now n label _ = refl

variables_same : (now : Option (List ℕ)) (n : ℕ) (label : Option (List ℕ)) (body : BodyTree) →
    variable_of now n (record { label = label; body = plain_body body }) ≡ variable_of now n (record { label = label; body = body })
variables_same now n label (crc k) = refl
variables_same now n label _ = refl

action_same : (body : BodyTree) → is_action (plain_body body) ≡ is_action body
action_same (crc n) = refl
action_same _ = refl

block_same : (body : BodyTree) → is_block (plain_body body) ≡ is_block body
block_same (crc n) = refl
block_same _ = refl

crc_same : (body : BodyTree) → is_crc (plain_body body) ≡ is_crc body
crc_same (crc n) = refl
crc_same _ = refl

booleans_same : (body : BodyTree) → boolean_elements (plain_body body) ≡ boolean_elements body
booleans_same (crc n) = refl
booleans_same _ = refl

integers_same : (body : BodyTree) → integer_elements (plain_body body) ≡ integer_elements body
integers_same (crc n) = refl
integers_same _ = refl

-- ---- the facts at a piece

pub names_plain : (sts : List StmtTree) → names_of (numbered (map Some (map plain sts))) ≡ names_of (numbered (map Some sts))
names_plain sts j = record {
  blocks = firsts bytes_eq (declared_plain block_of (λ now n st. blocks_same now n st.label st.body) None 1 sts j);
  actions = firsts bytes_eq (declared_plain action_of (λ now n st. actions_same now n st.label st.body) None 1 sts j);
  variables = firsts key_eq (declared_plain variable_of (λ now n st. variables_same now n st.label st.body) None 1 sts j);
  labels = firsts key_eq (declared_plain label_of (λ now n st. refl) None 1 sts j);
}

totals_plain : (sts : List StmtTree) → totals_of (numbered (map Some (map plain sts))) ≡ totals_of (numbered (map Some sts))
totals_plain sts j = record { booleans = sum_plain boolean_elements booleans_same 1 sts j; integers = sum_plain integer_elements integers_same 1 sts j }

facts_from : Names → Option (List ℕ) → Bool → Bool → Bool → Names → Totals → Facts
facts_from all inside a b c earlier totals = record {
  place = record { in_procedure = is_some inside && not (in_data_block all inside); in_data = in_data_block all inside; after_action = a; after_block = b; after_crc = c };
  inside = inside;
  earlier = declared_in earlier;
  known = known_from all inside;
  before = totals;
}

facts_plain : (sts front : List StmtTree) → facts_after (names_of (numbered (map Some (map plain sts)))) (numbered (map Some (map plain front)))
    ≡ facts_after (names_of (numbered (map Some sts))) (numbered (map Some front))
unfolding facts_from
facts_plain sts front j =
    facts_from (names_plain sts j) (inside_from_plain None 1 front j) (any_plain is_action action_same 1 front j) (any_plain is_block block_same 1 front j)
    (any_plain is_crc crc_same 1 front j) (names_plain front j) (totals_plain front j)

pub take_some : (k : ℕ) (sts : List StmtTree) → take k (map Some sts) ≡ map Some (take k sts)
take_some k sts = take-map Some k sts

facts_at_plain : (sts : List StmtTree) (k : ℕ) → facts_at (map Some (map plain sts)) k ≡ facts_at (map Some sts) k
facts_at_plain sts k =
    ap (λ (v : List (Option StmtTree)). facts_after (names_of (numbered (map Some (map plain sts)))) (numbered v)) (take_some k (map plain sts) ∙ ap (map Some) (take-map plain k sts))
    ∙ facts_plain sts (take k sts)
    ∙ ap (λ (v : List (Option StmtTree)). facts_after (names_of (numbered (map Some sts))) (numbered v)) (sym (take_some k sts))

pub inside_at_plain : (sts : List StmtTree) (k : ℕ) → inside_after (numbered (take k (map Some (map plain sts)))) ≡ inside_after (numbered (take k (map Some sts)))
inside_at_plain sts k =
    ap (λ (v : List (Option StmtTree)). inside_after (numbered v)) (take_some k (map plain sts) ∙ ap (map Some) (take-map plain k sts))
    ∙ inside_from_plain None 1 (take k sts)
    ∙ ap (λ (v : List (Option StmtTree)). inside_after (numbered v)) (sym (take_some k sts))

actions_at_plain : (sts : List StmtTree) (k : ℕ) → any_body is_action (numbered (take k (map Some (map plain sts)))) ≡ any_body is_action (numbered (take k (map Some sts)))
actions_at_plain sts k =
    ap (λ (v : List (Option StmtTree)). any_body is_action (numbered v)) (take_some k (map plain sts) ∙ ap (map Some) (take-map plain k sts))
    ∙ any_plain is_action action_same 1 (take k sts)
    ∙ ap (λ (v : List (Option StmtTree)). any_body is_action (numbered v)) (sym (take_some k sts))

breaks_body : (facts : Facts) (label : Option (List ℕ)) (body : BodyTree) (reason : Reason) → breaks facts (stmt_of label (plain_body body)) reason ≡ breaks facts (stmt_of label body) reason
breaks_body facts label (crc n) reasons.Order = refl
breaks_body facts label (crc n) reasons.Duplicate = refl
breaks_body facts label (crc n) reasons.Undefined = refl
breaks_body facts label (crc n) reasons.NotVisible = refl
breaks_body facts label (crc n) reasons.TypeMismatch = refl
breaks_body facts label (crc n) reasons.NotStable = refl
breaks_body facts label (crc n) reasons.SizeLimit = refl
breaks_body facts label (crc n) _ = refl
breaks_body facts label _ reason = refl

-- ---- no reason against the printed program

-- what two texts have at one place
data BothAt (text other : List ℕ) (p q : Option Piece) : Type 0 where
  here : (piece place : Piece) (st own : StmtTree) → p ≡ Some piece → q ≡ Some place → IsPieceStatement text piece st → IsPieceStatement other place own → plain st ≡ plain own → BothAt text other p q
  past : p ≡ None → q ≡ None → BothAt text other p q

heads : {x y : StmtTree} {xs ys : List StmtTree} → x ∷ xs ≡ y ∷ ys → x ≡ y
heads e = cc

tails : {x y : StmtTree} {xs ys : List StmtTree} → x ∷ xs ≡ y ∷ ys → xs ≡ ys
tails e = cc

both_at : (text other : List ℕ) (pieces places : List Piece) (sts own : List StmtTree) → AreReadAs text pieces (map Some sts) → AreReadAs other places (map Some own) →
    map plain sts ≡ map plain own → (k : ℕ) → BothAt text other (slice_get pieces k) (slice_get places k)
both_at text other [] [] [] [] r q e k = past refl refl
both_at text other (p ∷ ps) (o ∷ os) (st ∷ sts) (w ∷ ws) r q e zero = here p o st w refl refl r.0 q.0 (heads e)
both_at text other (p ∷ ps) (o ∷ os) (st ∷ sts) (w ∷ ws) r q e (suc k) = both_at text other ps os sts ws r.1 q.1 (tails e) k
both_at text other [] (o ∷ os) [] (w ∷ ws) r q e k = absurd cc
both_at text other (p ∷ ps) [] (st ∷ sts) [] r q e k = absurd cc
both_at text other [] places (st ∷ sts) own r q e k = absurd r
both_at text other (p ∷ ps) places [] own r q e k = absurd r
both_at text other pieces [] sts (w ∷ ws) r q e k = absurd q
both_at text other pieces (o ∷ os) sts [] r q e k = absurd q

same_length : (text other : List ℕ) (pieces places : List Piece) (sts own : List StmtTree) → AreReadAs text pieces (map Some sts) → AreReadAs other places (map Some own) →
    map plain sts ≡ map plain own → length pieces ≡ length places
same_length text other [] [] [] [] r q e = refl
same_length text other (p ∷ ps) (o ∷ os) (st ∷ sts) (w ∷ ws) r q e = ap suc (same_length text other ps os sts ws r.1 q.1 (tails e))
same_length text other [] (o ∷ os) [] (w ∷ ws) r q e = absurd cc
same_length text other (p ∷ ps) [] (st ∷ sts) [] r q e = absurd cc
same_length text other [] places (st ∷ sts) own r q e = absurd r
same_length text other (p ∷ ps) places [] own r q e = absurd r
same_length text other pieces [] sts (w ∷ ws) r q e = absurd q
same_length text other pieces (o ∷ os) sts [] r q e = absurd q

none_some : {P : Type 0} {A : Type 0} (x : A) (o : Option A) → o ≡ None → o ≡ Some x → P
none_some x o e f = absurd (apart e f)
  where
    apart : o ≡ None → o ≡ Some x → ⊥
    apart e f = cc

-- statements that differ in the check word alone
module _ (text other : List ℕ) (sts own : List StmtTree) (same : map plain sts ≡ map plain own) where
  facts_same : (k : ℕ) → facts_at (map Some sts) k ≡ facts_at (map Some own) k
  facts_same k = sym (facts_at_plain sts k) ∙ ap (λ (v : List StmtTree). facts_at (map Some v) k) same ∙ facts_at_plain own k

  inside_same : (k : ℕ) → inside_after (numbered (take k (map Some sts))) ≡ inside_after (numbered (take k (map Some own)))
  inside_same k = sym (inside_at_plain sts k) ∙ ap (λ (v : List StmtTree). inside_after (numbered (take k (map Some v)))) same ∙ inside_at_plain own k

  actions_same_at : (k : ℕ) → any_body is_action (numbered (take k (map Some sts))) ≡ any_body is_action (numbered (take k (map Some own)))
  actions_same_at k = sym (actions_at_plain sts k) ∙ ap (λ (v : List StmtTree). any_body is_action (numbered (take k (map Some v)))) same ∙ actions_at_plain own k

  breaks_same : (k : ℕ) (st w : StmtTree) (reason : Reason) → plain st ≡ plain w → breaks (facts_at (map Some sts) k) st reason ≡ breaks (facts_at (map Some own) k) w reason
  breaks_same k st w reason e =
      sym (breaks_body (facts_at (map Some sts) k) st.label st.body reason)
      ∙ ap (λ (s : StmtTree). breaks (facts_at (map Some sts) k) s reason) e
      ∙ breaks_body (facts_at (map Some sts) k) w.label w.body reason
      ∙ ap (λ (f : Facts). breaks f w reason) (facts_same k)

  -- a reason at a place of one text is a reason at that place of the other
  reason_there : (k : ℕ) (p q : Option Piece) (reason : Reason) → BothAt text other p q → HasReasonAt text (map Some sts) k p reason → HasReasonAt other (map Some own) k q reason
  reason_there k p q reason (here piece place st w e f is there alike) (one_too_many x le) =
      subst (λ (o : Option Piece). HasReasonAt other (map Some own) k o reasons.TooManyPieces) (sym f) (one_too_many place le)
  reason_there k p q reason (here piece place st w e f is there alike) (no_statement x r h) =
      absurd (no_reason st is (subst (λ (y : Piece). HasReason text y r) (some_same e) h))
    where
      some_same : Some x ≡ Some piece → x ≡ piece
      some_same e = cc
  reason_there k p q reason (here piece place st w e f is there alike) (breaks_rule x s r reads b) =
      let s-is : s ≡ st = one_piece_statement text piece s st (subst (λ (y : Piece). IsPieceStatement text y s) (some_same e) reads) is in
      subst (λ (o : Option Piece). HasReasonAt other (map Some own) k o r) (sym f)
      (breaks_rule place w r there (sym (breaks_same k st w r alike) ∙ ap (λ (y : StmtTree). breaks (facts_at (map Some sts) k) y r) (sym s-is) ∙ b))
    where
      some_same : Some x ≡ Some piece → x ≡ piece
      some_same e = cc
  reason_there k p q reason (here piece place st w e f is there alike) (not_closed b) = absurd cc
  reason_there k p q reason (here piece place st w e f is there alike) (nothing_to_do b) = absurd cc
  reason_there k p q reason (past e f) (one_too_many x le) = absurd cc
  reason_there k p q reason (past e f) (no_statement x r h) = absurd cc
  reason_there k p q reason (past e f) (breaks_rule x s r reads b) = absurd cc
  reason_there k p q reason (past e f) (not_closed b) =
      subst (λ (o : Option Piece). HasReasonAt other (map Some own) k o reasons.NotClosed) (sym f) (not_closed (ap is_some (sym (inside_same k)) ∙ b))
  reason_there k p q reason (past e f) (nothing_to_do b) =
      subst (λ (o : Option Piece). HasReasonAt other (map Some own) k o reasons.NothingToDo) (sym f) (nothing_to_do (sym (actions_same_at k) ∙ b))

-- the canonical text of a program is a program of its statements, but for the check word
pub canonical_program : (text : List ℕ) (sts : List StmtTree) → IsProgram text sts → length (canonical_text sts) ≤ text_limit →
    IsProgram (canonical_text sts) (checked_statements sts)
canonical_program text sts program short =
    let own = canonical_read sts (program_printable text sts program) in
    let same = plain_checked [] sts in
    let count = same_length (canonical_text sts) text own.pieces program.pieces (checked_statements sts) sts own.read program.read same in
    record {
      short = short;
      pieces = own.pieces;
      cut = own.cut;
      read = own.read;
      sound = λ k lt reason h. program.sound k (omega (arith, lt, count)) reason
          (reason_there (canonical_text sts) text (checked_statements sts) sts same k (slice_get own.pieces k) (slice_get program.pieces k) reason
          (both_at (canonical_text sts) text own.pieces program.pieces (checked_statements sts) sts own.read program.read same k) h);
    }
