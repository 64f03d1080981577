-- On a code and what is chosen of it.
use Rattle.std.proofs.Common.{◌≡◌, ◌∙◌, ℕ, true, List, Option, refl, sym, ap, subst}
use Rattle.stapl_meaning.specs.Choices.{Choice, chosen}
use Rattle.stapl_meaning.specs.Plays.{Run}
use Rattle.stapl_code.specs.declared.raw.CodeLists.{CodeLists}
use Rattle.stapl_code.specs.Ranges.{IsInRange}
use Rattle.stapl_code.specs.Safe.{AllFit}
use Rattle.machine_memory.specs.Zeros.{zeros_of_code}
use Rattle.stapl_player.specs.Choices.{code_choice}
use Rattle.dev_card.specs.declared.desc.Desc.{Desc}
use Rattle.dev_card.specs.Sound.{SoundCard}
use Rattle.chain_sim.specs.Rack.{places_of}
use Rattle.code_plays.specs.declared.playing.Task.{Task}
use Rattle.play_words.specs.declared.requests.PlayRequest.{PlayRequest}
use Rattle.code_plays.specs.Plays.{has_place, code_play_on}
use Rattle.code_plays.specs.CodePlays.{task_play, IsPlayOf}
use Rattle.code_plays.specs.Racks.{AreLeft, CodeHoldsFinal}
use Rattle.stapl_machine.proofs.Machines.{zeros_fit}

-- The variables of a code in range begin with what they may hold.

pub zeros_of_code_fit : (code : CodeLists) → IsInRange code → AllFit code.variables (zeros_of_code code)
zeros_of_code_fit code ranges = zeros_fit code.variables ranges.variables.each

-- What a choice comes to with some names, it comes to with the same names.
pub code_comes_to : {a b : List (List ℕ)} (code : CodeLists) (choice : Choice) (name : List ℕ) (asked skipped : List (List ℕ)) → a ≡ asked → b ≡ skipped →
    code_choice code name a b ≡ choice → code_choice code name asked skipped ≡ choice
code_comes_to {a = a} code choice name asked skipped p q e =
    sym (ap (λ (z : List (List ℕ)). code_choice code name z skipped) p) ∙ sym (ap (λ (z : List (List ℕ)). code_choice code name a z) q) ∙ e

-- The play of the chosen procedures is that of the task.
pub code_play_of : {choice : Choice} (task : Task) (code : CodeLists) (procedures : List ℕ) → choice ≡ chosen procedures →
    has_place task.request.now.place task.devices.now ≡ true →
    IsPlayOf choice (has_place task.request.now.place task.devices.now) (code_play_on code task.request.now task.devices.now) (task_play code procedures task)
code_play_of task code procedures e placed = record {
  procedures = procedures;
  are_chosen = e;
  is_placed = placed;
  same_events = refl;
  same_far = refl;
  same_ending = refl;
}

-- the run that left the devices is that of the chosen procedures
pub code_left_final : {code : CodeLists} {request : PlayRequest} {devices : List Desc} {rack : List (Option SoundCard)} {run : Run} →
    IsPlayOf (code_choice code request.action request.todo request.skip) (has_place request.place devices) (code_play_on code request devices) run →
    AreLeft rack (places_of devices) devices run.chain.far → CodeHoldsFinal code request devices rack
code_left_final {devices = devices} {rack = rack} p l = record {
  procedures = p.procedures;
  choice = p.are_chosen;
  left = subst (AreLeft rack (places_of devices) devices) p.same_far l;
}
