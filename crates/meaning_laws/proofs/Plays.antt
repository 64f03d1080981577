-- Plays do not look at the value of CRC.
use Rattle.std.proofs.Common.{◌≡◌, ℕ, ◌+◌, zero, suc, Bool, cond, ◌&&◌, List, [], ◌∷◌, map, slice_get, length, Option, Some, None, refl, sym, ap, ◌∙◌}
use Rattle.std.specs.List.{filter}
use Rattle.dev_card.specs.Padding.{BaseLengths}
use Rattle.dev_card.specs.FarEnds.{FarEnd}
use Rattle.stapl_syntax.specs.declared.statement.ItemChoice.TheVariants.{Optional, Recommended}
use Rattle.stapl_syntax.specs.Trees.{BodyTree, crc, StmtTree, ItemTree}
use Rattle.stapl_syntax.specs.Statements.{begins_procedure}
use Rattle.stapl_meaning.specs.Deeds.{Chain}
use Rattle.stapl_meaning.specs.States.{State, begun, turn_of_piece, happens}
use Rattle.stapl_meaning.specs.Scopes.{Scope, data_after, plays, idle, pieces_from, Preset, preset_of, presets_from, Played, as_played, block_at}
use Rattle.stapl_meaning.specs.Scopes.{procedure_before, procedure_number, entry_from, scope_of, scope_in, scope_at, zeros_of}
use Rattle.stapl_meaning.specs.Choices.{choice_of, choice_among, items_before, items_from, chosen as chosen_are, bad_choice, are_choices, item_runs}
use Rattle.stapl_meaning.specs.Turns.{carried, done, turn_of, turn}
use Rattle.stapl_meaning.specs.Plays.{goes_on, run, procedures_run, play, set_up, beginning, start, after, reset_events, chain_reset}
use Rattle.stapl_syntax.specs.Programs.{IsProgram}
use Rattle.canonical_text.specs.CanonicalText.{checked_statements, canonical_text, plain_body, plain}
use Rattle.canonical_text.proofs.Programs.{names_plain, inside_at_plain, plain_checked, canonical_program}
use Rattle.canonical_text.proofs.Twice.{one_program}

-- ---- one statement

begins_plain : (body : BodyTree) → begins_procedure (plain_body body) ≡ begins_procedure body
begins_plain (crc n) = refl
begins_plain _ = refl

data_plain : (now : Option (List ℕ)) (body : BodyTree) → data_after now (plain_body body) ≡ data_after now body
data_plain now (crc n) = refl
data_plain now _ = refl

preset_plain : (now : Option (List ℕ)) (body : BodyTree) → preset_of now (plain_body body) ≡ preset_of now body
preset_plain None (crc n) = refl
preset_plain (Some block) (crc n) = refl
preset_plain now _ = refl

number_plain : (body : BodyTree) (name : List ℕ) (others : ℕ) → procedure_before (plain_body body) name others ≡ procedure_before body name others
number_plain (crc n) name others = refl
number_plain _ name others = refl

items_plain : (body : BodyTree) (name : List ℕ) (others : Option (List ItemTree)) → items_before (plain_body body) name others ≡ items_before body name others
items_plain (crc n) name others = refl
items_plain _ name others = refl

piece_plain : (now : Option (List ℕ)) (label : Option (List ℕ)) (body : BodyTree) →
    plain (cond (plays now body) (record { label = label; body = body }) idle) ≡ cond (plays now (plain_body body)) (record { label = label; body = plain_body body }) idle
piece_plain None label (crc n) = refl
piece_plain (Some block) label (crc n) = refl
piece_plain None label _ = refl
piece_plain (Some block) label _ = refl

done_plain : (scope : Scope) (s : State) (body : BodyTree) → done scope s (plain_body body) ≡ done scope s body
done_plain scope s (crc n) = refl
done_plain scope s _ = refl

-- ---- all statements

pieces_plain : (now : Option (List ℕ)) (sts : List StmtTree) → pieces_from now (map plain sts) ≡ map plain (pieces_from now sts)
pieces_plain now [] = refl
pieces_plain now (st ∷ sts) =
    ap (λ (v : List StmtTree). (cond (plays now (plain_body st.body)) (plain st) idle) ∷ v)
    (ap (λ (d : Option (List ℕ)). pieces_from d (map plain sts)) (data_plain now st.body) ∙ pieces_plain (data_after now st.body) sts)
    ∙ ap (λ (s : StmtTree). s ∷ map plain (pieces_from (data_after now st.body) sts)) (sym (piece_plain now st.label st.body))

presets_plain : (now : Option (List ℕ)) (sts : List StmtTree) → presets_from now (map plain sts) ≡ presets_from now sts
presets_plain now [] = refl
presets_plain now (st ∷ sts) =
    ap (λ (o : Option Preset). o ∷ presets_from (data_after now (plain_body st.body)) (map plain sts)) (preset_plain now st.body)
    ∙ ap (λ (v : List (Option Preset)). preset_of now st.body ∷ v)
    (ap (λ (d : Option (List ℕ)). presets_from d (map plain sts)) (data_plain now st.body) ∙ presets_plain (data_after now st.body) sts)

-- a program as it plays, with the value of CRC left out
abbrev plain_played : Played → Played
plain_played p = record { names = p.names; presets = p.presets; pieces = map plain p.pieces }

played_plain : (sts : List StmtTree) → as_played (map plain sts) ≡ plain_played (as_played sts)
played_plain sts j = record { names = names_plain sts j; presets = presets_plain None sts j; pieces = pieces_plain None sts j }

entry_plain : (pieces : List StmtTree) (p : ℕ) → entry_from (map plain pieces) p ≡ entry_from pieces p
entry_plain [] p = refl
entry_plain (st ∷ rest) zero =
    ap (λ (b : Bool). suc (cond b 0 (entry_from (map plain rest) zero))) (begins_plain st.body)
    ∙ ap (λ (k : ℕ). suc (cond (begins_procedure st.body) 0 k)) (entry_plain rest zero)
entry_plain (st ∷ rest) (suc p) =
    ap (λ (b : Bool). suc (cond b (entry_from (map plain rest) p) (entry_from (map plain rest) (suc p)))) (begins_plain st.body)
    ∙ (λ j. suc (cond (begins_procedure st.body) (entry_plain rest p j) (entry_plain rest (suc p) j)))

procedure_plain : (pieces : List StmtTree) (name : List ℕ) → procedure_number (map plain pieces) name ≡ procedure_number pieces name
procedure_plain [] name = refl
procedure_plain (st ∷ rest) name =
    number_plain st.body name (procedure_number (map plain rest) name) ∙ ap (procedure_before st.body name) (procedure_plain rest name)

items_from_plain : (pieces : List StmtTree) (name : List ℕ) → items_from (map plain pieces) name ≡ items_from pieces name
items_from_plain [] name = refl
items_from_plain (st ∷ rest) name = items_plain st.body name (items_from (map plain rest) name) ∙ ap (items_before st.body name) (items_from_plain rest name)

length_plain : (pieces : List StmtTree) → length (map plain pieces) ≡ length pieces
length_plain [] = refl
length_plain (st ∷ rest) = ap suc (length_plain rest)

-- ---- plays

scope_plain : (p : Played) (inside : Option (List ℕ)) (i : ℕ) → scope_in p.names (map plain p.pieces) inside i ≡ scope_in p.names p.pieces inside i
scope_plain p inside i j = scope_of p.names (λ q. entry_plain p.pieces q j) (λ name. procedure_plain p.pieces name j) (length_plain p.pieces j) inside i

scope_at_plain : (p : Played) (i : ℕ) → scope_at (plain_played p) i ≡ scope_at p i
scope_at_plain p i =
    ap (λ (b : Option (List ℕ)). scope_in p.names (map plain p.pieces) b i) (inside_at_plain p.pieces i) ∙ scope_plain p (block_at p.pieces i) i

turn_at : (scope : Scope) (piece : ℕ) (s : State) (pieces : List StmtTree) (i : ℕ) →
    turn_of scope piece s (slice_get (map plain pieces) i) ≡ turn_of scope piece s (slice_get pieces i)
turn_at scope piece s [] i = refl
turn_at scope piece s (st ∷ rest) zero = ap (turn_of_piece piece) (done_plain scope s st.body)
turn_at scope piece s (st ∷ rest) (suc i) = turn_at scope piece s rest i

turn_plain : (p : Played) (i : ℕ) (s : State) → turn (plain_played p) i s ≡ turn p i s
turn_plain p i s =
    ap (λ (c : Scope). turn_of c (i + 1) s (slice_get (map plain p.pieces) i)) (scope_at_plain p i) ∙ turn_at (scope_at p i) (i + 1) s p.pieces i

run_plain : (p : Played) (n i : ℕ) (s : State) (k : Chain) → run (plain_played p) n i s k ≡ run p n i s k
run_plain p zero i s k = refl
run_plain p (suc n) i s k = λ j. goes_on (happens k (turn_plain p i s j)) s k (λ i s k. run_plain p n i s k j)

set_up_plain : (p : Played) (presets : List (Option Preset)) (s : State) → set_up (plain_played p) presets s ≡ set_up p presets s
set_up_plain p [] s = refl
set_up_plain p (None ∷ presets) s = set_up_plain p presets s
set_up_plain p (Some preset ∷ presets) s = λ j. carried (scope_plain p (Some preset.block) 0 j) preset.body s (λ t. set_up_plain p presets t j)

beginning_plain : (p : Played) (s : State) → beginning (plain_played p) s ≡ beginning p s
beginning_plain p s j = begun (λ q. entry_plain p.pieces q j) (set_up_plain p p.presets s j)

procedures_plain : (p : Played) (chosen : List ℕ) (n : ℕ) (k : Chain) → procedures_run (plain_played p) chosen n k ≡ procedures_run p chosen n k
procedures_plain p chosen n k j =
    goes_on (happens k (beginning_plain p (start chosen (zeros_of p)) j)) (start chosen (zeros_of p)) k (λ i s k. run_plain p n i s k j)

play_plain : (p : Played) (chosen : List ℕ) (n : ℕ) (base : BaseLengths) (far : FarEnd) → play (plain_played p) chosen n base far ≡ play p chosen n base far
play_plain p chosen n base far = ap (after (reset_events far)) (procedures_plain p chosen n (chain_reset base far))

among_plain : (p : Played) (items : Option (List ItemTree)) (asked skipped : List (List ℕ)) → choice_among (plain_played p) items asked skipped ≡ choice_among p items asked skipped
among_plain p None asked skipped = refl
among_plain p (Some items) asked skipped =
    λ j. cond (are_choices Optional items asked && are_choices Recommended items skipped)
    (chosen_are (map (λ item. procedure_plain p.pieces item.0 j) (filter (item_runs asked skipped) items))) bad_choice

choice_plain : (p : Played) (name : List ℕ) (asked skipped : List (List ℕ)) → choice_of (plain_played p) name asked skipped ≡ choice_of p name asked skipped
choice_plain p name asked skipped =
    ap (λ (o : Option (List ItemTree)). choice_among (plain_played p) o asked skipped) (items_from_plain p.pieces name) ∙ among_plain p (items_from p.pieces name) asked skipped

-- programs that differ in the value of CRC alone
module _ (a b : List StmtTree) (same : map plain a ≡ map plain b) where
  plain_same : plain_played (as_played a) ≡ plain_played (as_played b)
  plain_same = sym (played_plain a) ∙ ap as_played same ∙ played_plain b

  pub plays_same : (chosen : List ℕ) (n : ℕ) (base : BaseLengths) (far : FarEnd) → play (as_played a) chosen n base far ≡ play (as_played b) chosen n base far
  plays_same chosen n base far =
      sym (play_plain (as_played a) chosen n base far) ∙ ap (λ (p : Played). play p chosen n base far) plain_same ∙ play_plain (as_played b) chosen n base far

  pub choices_same : (name : List ℕ) (asked skipped : List (List ℕ)) → choice_of (as_played a) name asked skipped ≡ choice_of (as_played b) name asked skipped
  choices_same name asked skipped =
      sym (choice_plain (as_played a) name asked skipped) ∙ ap (λ (p : Played). choice_of p name asked skipped) plain_same ∙ choice_plain (as_played b) name asked skipped

-- the program that a canonical text is
pub same_as_printed : (text : List ℕ) (statements own : List StmtTree) → IsProgram text statements → IsProgram (canonical_text statements) own →
    map plain own ≡ map plain statements
same_as_printed text statements own program printed =
    ap (map plain) (one_program (canonical_text statements) own (checked_statements statements) printed (canonical_program text statements program printed.short))
    ∙ plain_checked [] statements
