-- What a watch has seen of a play that it answers. The scans of the play are told by a bit of base padding, and it
-- hears the answers of the watch and knows no board.
use Rattle.std.specs.Prelude.{◌≡◌, ℕ, Bool, false, List, [], ◌∷◌, Option, Some, None}
use Rattle.tap_states.specs.declared.Tap.{Tap}
use Rattle.tap_states.specs.declared.Tap.TheVariants.{Reset}
use Rattle.dev_card.specs.declared.desc.Desc.{Desc}
use Rattle.dev_card.specs.Card.{Card}
use Rattle.dev_card.specs.Board.{Input, board_after, tdos}
use Rattle.dev_card.specs.Clocks.{move_inputs, stay_inputs}
use Rattle.dev_card.specs.FarEnds.{Heard, heard_clocks, heard_after}
use Rattle.dev_card.specs.Scans.{inputs_of_scan}
use Rattle.stapl_meaning.specs.Deeds.{Deed, Says, Goes, Stays, Scans, Chain, based}
use Rattle.stapl_meaning.specs.Scopes.{Played}
use Rattle.stapl_meaning.specs.Plays.{procedures_run, reset_inputs}
use Rattle.padded_plays.specs.PaddedRuns.{fresh_board}
use Rattle.padded_plays.specs.QuietPlays.{deeds_of_play, first_chain, IsQuietPlay}
use Rattle.padded_plays.specs.declared.unquiet.Unquiet.{Unquiet}
use Rattle.padded_plays.specs.FirstDeeds.{HasUnquietDeed}
use Rattle.quiet_watch.specs.Watches.{marks, Watched, watch_after, watch_answers, seen_by}

-- a watch outside scans
abbrev pub watching : List Desc → List Card → Tap → Bool → Option Unquiet → Watched
watching ds cs at l s = record { descs = ds; cards = cs; tap = at; loaded = l; scan = None; seen = s }

-- the watch over new devices, and after the clocks that reset them
abbrev pub new_watch : List Desc → Watched
new_watch run = watching run (fresh_board run) Reset false None

abbrev pub first_watch : List Desc → Watched
first_watch run = watching run (board_after (fresh_board run) reset_inputs) Reset false None

-- the chain of a play whose scans are told, and that hears these answers
abbrev pub marked_chain : Tap → List Bool → Chain
marked_chain at bs = record { tap = at; base = marks; far = Heard bs }

-- what goes in at a deed whose scans are told, and the state after it
abbrev pub marked_deed : Tap → Deed → List Input
marked_deed at (Says event) = []
marked_deed at (Goes to) = move_inputs at to
marked_deed at (Stays n) = stay_inputs at n
marked_deed at (Scans scan) = inputs_of_scan at (based marks scan)

abbrev pub tap_by : Tap → Deed → Tap
tap_by at (Says event) = at
tap_by at (Goes to) = to
tap_by at (Stays n) = at
tap_by at (Scans scan) = scan.stop

-- The answers that are heard at these deeds are those of the watch, which is that one after them.
abbrev pub HearsDeeds : Watched → Tap → List Bool → List Deed → Watched → Type 0
HearsDeeds w at bs [] v = v ≡ w
HearsDeeds w at bs (d ∷ deeds) v =
    (tdos (heard_clocks bs (marked_deed at d)) ≡ watch_answers w (marked_deed at d))
    × HearsDeeds (watch_after w (marked_deed at d)) (tap_by at d) (heard_after bs (marked_deed at d)) deeds v

-- the same of a play of the chosen procedures, for at most n turns, on these devices
abbrev pub HearsPlay : Played → List ℕ → ℕ → List Desc → List Bool → Watched → Type 0
HearsPlay program chosen n run bs v =
    HearsDeeds (first_watch run) Reset bs (deeds_of_play program chosen n (marked_chain Reset bs)) v

-- Such a play stands as the play on these devices alone. The watch has seen nothing exactly if that play is quiet for
-- n turns, and else it has seen the reason of the first deed that is not.
pub record HasSeenPlay (program : Played) (chosen : List ℕ) (n : ℕ) (run : List Desc) (bs : List Bool)
    (v : Watched) : Type 0 where
  pub outcome : (procedures_run program chosen n (marked_chain Reset bs)).outcome
      ≡ (procedures_run program chosen n (first_chain run)).outcome
  pub none : seen_by v ≡ None → IsQuietPlay program chosen n run
  pub some : (why : Unquiet) → seen_by v ≡ Some why → HasUnquietDeed program chosen n run why
