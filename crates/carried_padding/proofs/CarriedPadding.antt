-- No play of a program gets stuck, so the law of plays holds of all of them. And the text of a program that carries its
-- padding is read as that program.
use Rattle.std.proofs.Common.{◌≡◌, ◌≢◌, ◌+◌, ℕ, List, [], ◌∷◌, Some, refl, sym, ap, subst, ◌∙◌}
use Rattle.stapl_syntax.specs.Programs.{IsProgram}
use Rattle.stapl_syntax.specs.Trees.{StmtTree}
use Rattle.canonical_text.specs.CanonicalText.{checked_statements}
use Rattle.dev_card.specs.declared.desc.Desc.{Desc}
use Rattle.dev_card.specs.FarEnds.{FarEnd, Told}
use Rattle.dev_card.specs.Padding.{BaseLengths, Neighbours, base_lengths}
use Rattle.stapl_meaning.specs.Scopes.{as_played, procedures_in}
use Rattle.stapl_meaning.specs.Plays.{Stopped, Run, play, chain_reset, ending_of}
use Rattle.stapl_meaning.specs.Texts.{events_text}
use Rattle.stapl_code.specs.Safe.{AllBelow}
use Rattle.stapl_codegen.specs.Accepted.{IsAccepted}
use Rattle.stapl_codegen.specs.Unstuck.{ProgramsAreNotStuck}
use Rattle.padded_plays.specs.PaddedRuns.{fresh_board}
use Rattle.padded_plays.specs.QuietPlays.{no_base}
use Rattle.carried_plays.specs.CarriedPrograms.{IsEnd, carried_with, carried_program, padding_number}
use Rattle.carried_plays.specs.CarriedRuns.{carried_run, CarriesPadding}
use Rattle.carried_plays.specs.PadNames.{pad_name}
use Rattle.carried_plays.proofs.CarriedTurns.{AreBelow}
use Rattle.carried_plays.proofs.CarriedChoices.{known_choice}
use Rattle.carried_plays.proofs.CarriedTexts.{HasCheckedEnd, checked_carried}
use Rattle.carried_plays.proofs.ProgramEnds.{program_ends_well}
use Rattle.carried_padding.specs.CarriedPadding.{AreSamePlays, HaveSameText, CarriesPaddingOf}

all_below : (n : ℕ) (ps : List ℕ) → AreBelow n ps → AllBelow n ps
all_below n [] h = tt
all_below n (p ∷ ps) h = (h.0, all_below n ps h.1)

same_plays : (base : BaseLengths) (padded carried : Run) → carried ≡ carried_run base padded → AreSamePlays padded carried
same_plays base padded carried e = record {
  same_events = ap (λ (r : Run). r.events) e;
  same_outcome = ap (λ (r : Run). r.outcome) e;
  same_variables = ap (λ (r : Run). r.state.store) e;
  same_board = ap (λ (r : Run). r.chain.far) e;
}

pub carries_padding : (name : List ℕ) (end program : List StmtTree) (devices : List Desc) (run : Neighbours) → IsAccepted (as_played program) →
    ProgramsAreNotStuck → CarriesPadding name (base_lengths devices (Some run)) end program →
    CarriesPaddingOf devices run program (carried_with name (base_lengths devices (Some run)) end program)
carries_padding name end program devices run accepted unstuck carries =
    let base : BaseLengths = base_lengths devices (Some run) in
    let far : FarEnd = Told (fresh_board devices) in
    record {
      choices = carries.choices;
      plays = λ action asked skipped procedures e n.
          let below : AreBelow (procedures_in (as_played program).pieces) procedures = known_choice (as_played program) accepted.typed action asked skipped procedures e in
          let live : (play (as_played program) procedures n base far).outcome ≢ Stopped =
          (unstuck (as_played program) accepted procedures (all_below (procedures_in (as_played program).pieces) procedures below) n (chain_reset base far) refl).stands in
          same_plays base (play (as_played program) procedures n base far)
          (play (as_played (carried_with name base end program)) (padding_number program ∷ procedures) (n + 5) no_base far)
          (carries.plays action asked skipped procedures e n far live);
    }

-- ---- the text

-- the program that is read from the text is that program with another end
pub text_carries : (base : BaseLengths) (text : List ℕ) (program own : List StmtTree) (n : ℕ) → IsProgram text program →
    own ≡ checked_statements (carried_program (pad_name n) base program) → (devices : List Desc) (run : Neighbours) →
    ((end : List StmtTree) → IsEnd end → CarriesPaddingOf devices run program (carried_with (pad_name n) base end program)) → CarriesPaddingOf devices run program own
text_carries base text program own n is e devices run carries =
    let checked : HasCheckedEnd (pad_name n) base program = checked_carried (pad_name n) base program (program_ends_well text program is) in
    subst (CarriesPaddingOf devices run program) (sym (e ∙ checked.same)) (carries checked.end checked.closes)

pub same_text : (padded carried : Run) → AreSamePlays padded carried → HaveSameText padded carried
same_text padded carried same = record {
  same_text = λ pins. ap (events_text pins []) same.same_events;
  same_ending = ap ending_of same.same_outcome;
}
