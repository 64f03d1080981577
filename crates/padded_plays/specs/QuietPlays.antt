-- Plays on a run of devices that stands alone, and which of them are quiet: they leave the devices around the run as
-- they are, wherever the run stands in a board. Which plays are quiet is this profile's.
use Rattle.std.specs.Prelude.{ℕ, zero, suc, Bool, false, if◌then◌else◌, List, [], ◌∷◌, ◌++◌, replicate}
use Rattle.tap_states.specs.Tap.{is_stable_state}
use Rattle.tap_states.specs.Path.{path_of}
use Rattle.dev_card.specs.declared.desc.Desc.{Desc}
use Rattle.dev_card.specs.Card.{Card}
use Rattle.dev_card.specs.Padding.{BaseLengths, base_around}
use Rattle.dev_card.specs.Clocks.{rest_tms}
use Rattle.dev_card.specs.FarEnds.{FarEnd, Told, Heard}
use Rattle.padded_plays.specs.QuietClocks.{IsQuietWalk, IsQuietScan, loaded_after, loaded_by_scan}
use Rattle.padded_plays.specs.PaddedRuns.{fresh_board}
use Rattle.stapl_meaning.specs.Deeds.{Deed, Says, Goes, Stays, Scans, Chain, deed_chain, deeds_chain, captured_on}
use Rattle.stapl_meaning.specs.States.{State, Turned, Leads, Over, Broken, Scanning, NoTurn}
use Rattle.stapl_meaning.specs.Scopes.{Played, zeros_of}
use Rattle.stapl_meaning.specs.Turns.{turn}
use Rattle.stapl_meaning.specs.Plays.{Run, play, start, beginning, chain_reset}

-- no base padding
abbrev pub no_base : BaseLengths
no_base = record { ir_pre = 0; ir_post = 0; dr_pre = 0; dr_post = 0 }

-- the play of the chosen procedures on a board of these new devices only, without base padding, for at most n turns
abbrev pub play_alone : Played → List ℕ → ℕ → List Desc → Run
play_alone program chosen n run = play program chosen n no_base (Told (fresh_board run))

-- the play on a board of new devices, with base padding around a run of them
abbrev pub padded_play : Played → List ℕ → ℕ → (before run after : List Desc) → Run
padded_play program chosen n before run after =
    play program chosen n (base_around before after) (Told (fresh_board (before ++ (run ++ after))))

-- the cards at a far end, if they are told
abbrev pub told_cards : FarEnd → List Card
told_cards (Told cs) = cs
told_cards (Heard answers) = []

-- A quiet deed on the chain of a run that stands alone: a move or a stay makes no clock that leads into a state into
-- which only scans lead, and a scan is quiet.
abbrev pub IsQuietDeed : Bool → Chain → Deed → Type 0
IsQuietDeed loaded k (Says event) = Unit {0}
IsQuietDeed loaded k (Goes to) = IsQuietWalk k.tap (path_of k.tap to)
IsQuietDeed loaded k (Stays n) = IsQuietWalk k.tap (replicate n (rest_tms k.tap))
IsQuietDeed loaded k (Scans scan) = IsQuietScan loaded k.tap (told_cards k.far) scan

-- whether an instruction was loaded, after a deed
abbrev pub loaded_by_deed : Bool → Chain → Deed → Bool
loaded_by_deed loaded k (Says event) = loaded
loaded_by_deed loaded k (Goes to) = loaded_after k.tap (path_of k.tap to) loaded
loaded_by_deed loaded k (Stays n) = loaded_after k.tap (replicate n (rest_tms k.tap)) loaded
loaded_by_deed loaded k (Scans scan) = loaded_by_scan loaded scan

-- the same of deeds one after another
abbrev pub AreQuietDeeds : Bool → Chain → List Deed → Type 0
AreQuietDeeds loaded k [] = Unit {0}
AreQuietDeeds loaded k (d ∷ ds) = IsQuietDeed loaded k d × AreQuietDeeds (loaded_by_deed loaded k d) (deed_chain k d) ds

abbrev pub loaded_by_deeds : Bool → Chain → List Deed → Bool
loaded_by_deeds loaded k [] = loaded
loaded_by_deeds loaded k (d ∷ ds) = loaded_by_deeds (loaded_by_deed loaded k d) (deed_chain k d) ds

-- The deeds of a turn on a chain, its scans among them, and then those of what follows at the place to which it leads.
-- A scan begins in a stable state; in another one the turn finds nothing to do.
abbrev pub deeds_of_turn : Chain → Turned → (ℕ → State → Chain → List Deed) → List Deed
deeds_of_turn k (Leads deeds place s) next = deeds ++ next place s (deeds_chain k deeds)
deeds_of_turn k (Over deeds ending s) next = deeds
deeds_of_turn k (Broken deeds fault s) next = deeds
deeds_of_turn k (Scanning deeds scan rest) next =
    let l = deeds_chain k deeds in
    deeds ++ (if is_stable_state l.tap
    then Scans scan ∷ deeds_of_turn (deed_chain l (Scans scan)) (rest (captured_on l scan)) next else [])
deeds_of_turn k (NoTurn deeds) next = deeds

-- the deeds of a run on a chain, for at most n turns, from a place and a state on
abbrev pub deeds_of_run : Played → ℕ → ℕ → State → Chain → List Deed
deeds_of_run program zero i s k = []
deeds_of_run program (suc n) i s k = deeds_of_turn k (turn program i s) (deeds_of_run program n)

-- the deeds of a play of the chosen procedures on a chain that was reset
abbrev pub deeds_of_play : Played → List ℕ → ℕ → Chain → List Deed
deeds_of_play program chosen n k =
    deeds_of_turn k (beginning program (start chosen (zeros_of program))) (deeds_of_run program n)

-- the chain of a board of these new devices only, which was reset
abbrev pub first_chain : List Desc → Chain
first_chain run = chain_reset no_base (Told (fresh_board run))

-- The play of the chosen procedures on these devices alone is quiet for n turns: all its deeds are. No instruction was
-- loaded before them.
abbrev pub IsQuietPlay : Played → List ℕ → ℕ → List Desc → Type 0
IsQuietPlay program chosen n run =
    AreQuietDeeds false (first_chain run) (deeds_of_play program chosen n (first_chain run))
