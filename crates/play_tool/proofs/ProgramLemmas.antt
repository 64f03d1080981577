-- A program plays as its code does.
use Rattle.std.proofs.Common.{◌≡◌, ◌∙◌, ℕ, pos, Bool, true, List, [], ◌∷◌, ◌++◌, map, Option, refl, sym, ap, subst}
use Rattle.std.specs.Prelude.{nat_abs}
use Rattle.stapl_syntax.specs.declared.names.Key.{Key}
use Rattle.stapl_syntax.specs.declared.names.Variable.{Variable}
use Rattle.stapl_syntax.specs.declared.names.VarKind.{VarKind}
use Rattle.stapl_syntax.specs.declared.names.VarKind.TheVariants as variables
use Rattle.stapl_meaning.specs.Scopes.{Played, zeros_of}
use Rattle.stapl_meaning.specs.Scopes as scopes
use Rattle.stapl_meaning.specs.Plays.{Outcome, Ended, Going, Stopped, procedures_run, reset_events, chain_reset}
use Rattle.stapl_codegen.specs.Emit.{start_of}
use Rattle.stapl_codegen.specs.Correct.{placed_outcome, placed_run}
use Rattle.stapl_codegen.specs.Generated.{kind_number, variable_def}
use Rattle.machine_memory.specs.Zeros.{zero_of, zeros_of_code}
use Rattle.stapl_machine.specs.Machines.{play_of}
use Rattle.dev_card.specs.Card.{fresh}
use Rattle.dev_card.specs.FarEnds.{Told}
use Rattle.code_plays.specs.Plays.{base_at}
use Rattle.stapl_syntax.specs.Trees.{StmtTree}
use Rattle.stapl_meaning.specs.declared.events.Ending.{Ending}
use Rattle.stapl_meaning.specs.Choices.{Choice, chosen, choice_of}
use Rattle.stapl_meaning.specs.Scopes.{as_played}
use Rattle.stapl_meaning.specs.Typed.{IsTyped}
use Rattle.stapl_meaning.specs.Plays.{Run, ending_of}
use Rattle.stapl_code.specs.declared.raw.CodeLists.{CodeLists}
use Rattle.stapl_codegen.specs.Generated.{IsCodeOf}
use Rattle.code_files.specs.CodeFaults.{IsFileOf}
use Rattle.stapl_player.specs.Choices.{code_choice}
use Rattle.dev_card.specs.declared.desc.Desc.{Desc}
use Rattle.dev_card.specs.Sound.{SoundCard}
use Rattle.chain_sim.specs.Rack.{places_of}
use Rattle.play_words.specs.declared.status.Status.{Status}
use Rattle.play_words.specs.declared.status.Status.TheVariants.{Done}
use Rattle.play_words.specs.declared.requests.PlayRequest.{PlayRequest}
use Rattle.play_tool.specs.Answers.{play_on, PlaysAction, Compiles}
use Rattle.code_plays.specs.CodePlays.{IsPlayOf}
use Rattle.play_tool.specs.FinalRacks.{HoldsFinal}
use Rattle.play_tool.proofs.ChoiceLemmas.{same_choice}
use Rattle.tool_frame.proofs.AnswerLemmas.{IsWithin}
use Rattle.code_plays.specs.Racks.{AreLeft, CodeHoldsFinal}
use Rattle.code_plays.specs.Plays.{done_with, has_place, asked_text, Plays, no_action, bad_choice, bad_place, played, code_play_on, PlaysCode}

-- The variables of the code of a program begin as the program's do.

zero_same : (v : Key × Variable) → zero_of (variable_def v) ≡ scopes.zero_of v
zero_same v = by v.1.kind (nat_abs v.1.size)
  where
    by : (k : VarKind) (n : ℕ) → zero_of (record { kind = kind_number k; size = n }) ≡ scopes.zero_by k n
    by variables.Integer n = refl
    by variables.Boolean n = refl
    by variables.IntegerArray n = refl
    by variables.BooleanArray n = refl

zeros_are : (vs : List (Key × Variable)) → map zero_of (map variable_def vs) ≡ map scopes.zero_of vs
zeros_are [] = refl
zeros_are (v ∷ vs) = λ j. zero_same v j ∷ zeros_are vs j

pub same_zeros : (program : Played) (code : CodeLists) → IsCodeOf program code → zeros_of_code code ≡ zeros_of program
same_zeros program code is = ap zeros_of_code is.lists ∙ zeros_are program.names.variables

-- The code's play of the chosen procedures is the program's.

ending_placed : (place : ℕ → ℕ) (o : Outcome) → ending_of (placed_outcome place o) ≡ ending_of o
ending_placed place (Ended ending) = refl
ending_placed place (Going i) = refl
ending_placed place Stopped = refl

pub code_run : {program : Played} {choice : Choice} (request : PlayRequest) (devices : List Desc) (code : CodeLists) (procedures : List ℕ) → IsCodeOf program code → choice ≡ chosen procedures →
    IsPlayOf choice true (play_on program request devices) (code_play_on code request devices procedures)
code_run {program = program} request devices code procedures is e =
    let base = base_at devices request.place in let turns = request.turns in
    let k = chain_reset base (Told (map fresh devices)) in let source = procedures_run program procedures turns k in
    let same : play_of code procedures turns k ≡ placed_run (start_of program) source = rw (same_zeros program code is) (is.stands procedures turns k) in
    record {
      procedures = procedures;
      are_chosen = e;
      is_placed = refl;
      same_events = ap (λ (r : Run). reset_events (Told (map fresh devices)) ++ r.events) same;
      same_far = ap (λ (r : Run). r.chain.far) same;
      same_ending = ap (λ (r : Run). ending_of r.outcome) same ∙ ending_placed (start_of program) source.outcome;
    }

-- Plays of the same choices whose runs say the same.
pub record SaySame (one other : List ℕ → Run) : Type 0 where
  pub events : (procedures : List ℕ) → (one procedures).events ≡ (other procedures).events
  pub far : (procedures : List ℕ) → (one procedures).chain.far ≡ (other procedures).chain.far
  pub endings : (procedures : List ℕ) → ending_of (one procedures).outcome ≡ ending_of (other procedures).outcome

said_so : {choice : Choice} {placed : Bool} {one other : List ℕ → Run} (request : PlayRequest) (procedures : List ℕ) (ending : Ending) → SaySame one other →
    Plays choice placed other request (asked_text request (other procedures).events (other procedures).chain.far ending) (done_with ending) →
    Plays choice placed other request (asked_text request (one procedures).events (one procedures).chain.far ending) (done_with ending)
said_so {choice = choice} {placed = placed} {one = one} {other = other} request procedures ending same p =
    rw (same.events procedures, same.far procedures) p

same_plays : {choice : Choice} {placed : Bool} {one other : List ℕ → Run} {request : PlayRequest} {text : List ℕ} {status : Status} → SaySame one other →
    Plays choice placed one request text status → Plays choice placed other request text status
same_plays same (no_action e) = no_action e
same_plays same (bad_choice e) = bad_choice e
same_plays same (bad_place procedures e lacks) = bad_place procedures e lacks
same_plays {request = request} same (played procedures ending e placed ended) =
    said_so request procedures ending same (played procedures ending e placed (sym (same.endings procedures) ∙ ended))

turned : {one other : List ℕ → Run} → SaySame one other → SaySame other one
turned same = record {
  events = λ procedures. sym (same.events procedures);
  far = λ procedures. sym (same.far procedures);
  endings = λ procedures. sym (same.endings procedures);
}

abbrev procedures_in : Choice → List ℕ
procedures_in (chosen procedures) = procedures
procedures_in _ = []

-- a program and its code, for a request and the devices of its board
module _ (program : List StmtTree) (code : CodeLists) (request : PlayRequest) (devices : List Desc) (typed : IsTyped (as_played program)) (is : IsCodeOf (as_played program) code) where
  same_run : (procedures : List ℕ) → IsPlayOf (chosen procedures) true (play_on (as_played program) request devices) (code_play_on code request devices procedures)
  same_run procedures = code_run request devices code procedures is refl

  listed : (procedures : List ℕ) → (same_run procedures).procedures ≡ procedures
  listed procedures = sym (ap (λ (c : Choice). procedures_in c) (same_run procedures).are_chosen)

  -- the plays of the code say what those of the program say
  pub say_same : SaySame (code_play_on code request devices) (play_on (as_played program) request devices)
  say_same = record {
    events = λ procedures. (same_run procedures).same_events ∙ ap (λ (ps : List ℕ). (play_on (as_played program) request devices ps).events) (listed procedures);
    far = λ procedures. (same_run procedures).same_far ∙ ap (λ (ps : List ℕ). (play_on (as_played program) request devices ps).chain.far) (listed procedures);
    endings = λ procedures. (same_run procedures).same_ending ∙ ap (λ (ps : List ℕ). ending_of (play_on (as_played program) request devices ps).outcome) (listed procedures);
  }

  choices_same : code_choice code request.action request.todo request.skip ≡ choice_of (as_played program) request.action request.todo request.skip
  choices_same = same_choice request.action request.todo request.skip typed is

  to_program : (text : List ℕ) (status : Status) → PlaysCode code request devices text status → PlaysAction request devices program text status
  to_program text status p =
      subst (λ (c : Choice). Plays c (has_place request.place devices) (play_on (as_played program) request devices) request text status) choices_same (same_plays say_same p)

  to_code : (text : List ℕ) (status : Status) → PlaysAction request devices program text status → PlaysCode code request devices text status
  to_code text status p =
      subst (λ (c : Choice). Plays c (has_place request.place devices) (code_play_on code request devices) request text status) (sym choices_same) (same_plays (turned say_same) p)

  pub code_to_program : IsWithin (PlaysCode code request devices) (PlaysAction request devices program)
  code_to_program = record { to = to_program }

  pub program_to_code : IsWithin (PlaysAction request devices program) (PlaysCode code request devices)
  program_to_code = record { to = to_code }

-- and so the devices are left
pub program_final : {program : List StmtTree} {code : CodeLists} {request : PlayRequest} {devices : List Desc} {rack : List (Option SoundCard)} →
    IsTyped (as_played program) → IsCodeOf (as_played program) code →
    CodeHoldsFinal code request devices rack → HoldsFinal request devices program rack
program_final {program = program} {code = code} {request = request} {devices = devices} {rack = rack} typed is final = record {
  procedures = final.procedures;
  choice = sym (choices_same program code request devices typed is) ∙ final.choice;
  left = subst (AreLeft rack (places_of devices) devices) ((say_same program code request devices typed is).far final.procedures) final.left;
}

-- what is written if a program is compiled
pub compiled_file : {program : List StmtTree} {code : CodeLists} {file : List ℕ} → IsCodeOf (as_played program) code → IsFileOf file code → Compiles program file (Done (pos 0))
compiled_file {code = code} is file = record { code = code; of_program = is; file = file; done = refl }
