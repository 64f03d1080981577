-- A play that heard what a link answers is the play on the board of that link, and the other way round.
use Rattle.std.proofs.Common.{◌≡◌, ◌≢◌, ◌<◌, ◌≤◌, ◌*◌, ◌%◌, ℕ, Bool, false, List, [], ◌∷◌, ◌++◌, length, take, map, None, codes, refl, sym, ap, subst, ◌∙◌, arith}
use Rattle.std.proofs.lemmas.List.{take_all, append-nil}
use Rattle.std.proofs.lemmas.Option.{none-some}
use Rattle.dev_card.specs.Card.{Card}
use Rattle.dev_card.specs.Board.{Clock, board_after, clocks_of}
use Rattle.dev_card.specs.FarEnds.{FarEnd, Told, far_clocks}
use Rattle.dev_card.specs.Padding.{BaseLengths}
use Rattle.scan_paths.specs.Cables.{clocks_in, input_of}
use Rattle.stapl_meaning.specs.declared.events.Event.{Event}
use Rattle.stapl_meaning.specs.declared.events.Event.TheVariants.{Print, Export, Usec, Hertz}
use Rattle.stapl_meaning.specs.declared.events.Event.TheVariants as events
use Rattle.stapl_meaning.specs.declared.events.Ending.{Ending}
use Rattle.stapl_meaning.specs.Scopes.{Played}
use Rattle.stapl_meaning.specs.Plays.{Run, play, ending_of}
use Rattle.pin_lines.proofs.PinTexts.{clocks_among}
use Rattle.pin_lines.proofs.Followed.{Follows, play_follows}
use Rattle.written_cable.specs.Signals.{signals_of}
use Rattle.written_cable.proofs.FarLemmas.{far_made}
use Rattle.link_server.specs.Runs.{link_run, link_after, answers_to}
use Rattle.link_server.specs.Clients.{bytes_of_signals, answers_of}
use Rattle.link_tool.specs.Sessions.{most_bytes, link_to, first_answers, session_answers, board_left}
use Rattle.drive_laws.specs.HeardRuns.{inputs_in, AnswerAlike, IsSameRun, HasGone, heard_at, HasHeard, HasReceived, HasGoneOn}
use Rattle.drive_laws.proofs.AlikePlays.{play_alike}
use Rattle.drive_laws.proofs.LinkLemmas.{ClockNothing, of_board, answers_as_board, no_tail, quit_tail}

-- the clocks among events
clocks_are : (es : List Event) → clocks_in (signals_of es) ≡ clocks_among es
clocks_are [] = refl
clocks_are (events.Clock tms tdi tdo ∷ es) =
    ap (λ (ks : List Clock). record { tms = tms; tdi = tdi; tdo = tdo } ∷ ks) (clocks_are es)
clocks_are (Print bytes ∷ es) = clocks_are es
clocks_are (Export key value ∷ es) = clocks_are es
clocks_are (Usec n ∷ es) = clocks_are es
clocks_are (Hertz n ∷ es) = clocks_are es

-- the TDO bits that are heard are those of the clocks themselves
heard_clocks_are : (es : List Event) (more : List Bool) →
    far_clocks (heard_at es more) (inputs_in es) ≡ clocks_in (signals_of es)
heard_clocks_are es more =
    far_made None None (clocks_in (signals_of es)) (inputs_in es) refl more (λ cs e. absurd (none-some cs e))

-- a play has the same events and ending at another far end that answers its clocks alike
gone_alike : (program : Played) (chosen : List ℕ) (n : ℕ) (base : BaseLengths) (a b : FarEnd) (es : List Event)
    (ending : Ending) → AnswerAlike a b (inputs_in es) → HasGone (play program chosen n base a) es ending →
    HasGone (play program chosen n base b) es ending
gone_alike program chosen n base a b es ending alike g =
    let same : IsSameRun (play program chosen n base a) (play program chosen n base b) =
    play_alike program chosen n base a b
    (subst (λ (xs : List Event). AnswerAlike a b (inputs_in xs)) (sym g.events_are) alike) in
    record { events_are = same.same_events ∙ g.events_are; ending_is = ap ending_of same.same_outcome ∙ g.ending_is }

-- what a board answers to a play on it, and what it is after the play
record HasFollowed (board : List Card) (es : List Event) (far : FarEnd) : Type 0 where
  clocks : clocks_of board (inputs_in es) ≡ clocks_in (signals_of es)
  leads : far ≡ Told (board_after board (inputs_in es))

followed : (program : Played) (chosen : List ℕ) (n : ℕ) (base : BaseLengths) (board : List Card) (es : List Event)
    (ending : Ending) → HasGone (play program chosen n base (Told board)) es ending →
    HasFollowed board es (play program chosen n base (Told board)).chain.far
followed program chosen n base board es ending g =
    let far : FarEnd = (play program chosen n base (Told board)).chain.far in
    let f : Follows (Told board) es far =
    subst (λ (xs : List Event). Follows (Told board) xs far) g.events_are
    (play_follows program chosen n base (Told board) ending g.ending_is) in
    let same : inputs_in es ≡ map input_of (clocks_among es) = ap (map input_of) (clocks_are es) in
    record {
      clocks = ap (clocks_of board) same ∙ f.seen ∙ sym (clocks_are es);
      leads = f.leads ∙ ap (λ is. Told (board_after board is)) (sym same);
    }

-- all of some bytes, by a number that ends within no clock
three_times : (bytes : List ℕ) → take (3 * length bytes) (bytes ++ []) ≡ bytes
three_times bytes = ap (take (3 * length bytes)) (append-nil bytes) ∙ take_all (3 * length bytes) bytes (omega arith)

module _ (program : Played) (chosen : List ℕ) (n : ℕ) (base : BaseLengths) (board : List Card) (es : List Event)
    (ending : Ending) where
  abbrev plays : FarEnd → Run
  plays far = play program chosen n base far

  -- the link at the other end takes so many of the bytes, and what was received are its first answers
  gone_on : 0 < length board → (sleeps : Bool) (count : ℕ) (tail : List ℕ) → ClockNothing tail → count % 3 ≢ 2 →
      HasHeard plays es ending →
      HasReceived es (answers_to (link_to board) (take count (bytes_of_signals sleeps (signals_of es) ++ tail))) →
      HasGoneOn plays board es ending
      (link_after (link_to board) (take count (bytes_of_signals sleeps (signals_of es) ++ tail))).board
  gone_on some sleeps count tail quiet within heard received =
      let b = of_board (signals_of es) sleeps false count board tail received.unread some quiet received.parts in
      let alike : AnswerAlike (heard_at es []) (Told board) (inputs_in es) = heard_clocks_are es [] ∙ sym b.clocks in
      let gone : HasGone (plays (Told board)) es ending =
      gone_alike program chosen n base (heard_at es []) (Told board) es ending alike (heard []) in
      record {
        gone = gone;
        leaves = (followed program chosen n base board es ending gone).leads ∙ ap Told (sym (b.leaves within));
      }

  pub gone_on_run : 0 < length board → (sleeps : Bool) → HasHeard plays es ending →
      HasReceived es (first_answers board (bytes_of_signals sleeps (signals_of es))) →
      HasGoneOn plays board es ending (link_run (link_to board) (bytes_of_signals sleeps (signals_of es))).end.board
  gone_on_run some sleeps heard received =
      let bytes : List ℕ = bytes_of_signals sleeps (signals_of es) in
      let all : take (3 * length bytes) (bytes ++ []) ≡ bytes = three_times bytes in
      subst (λ (xs : List ℕ). HasGoneOn plays board es ending (link_after (link_to board) xs).board) all
      (gone_on some sleeps (3 * length bytes) [] no_tail (λ e. absurd (omega (arith, e))) heard
      (subst (λ (xs : List ℕ). HasReceived es (answers_to (link_to board) xs)) (sym all) received))

  pub gone_on_session : 0 < length board → (sleeps : Bool) → HasHeard plays es ending →
      HasReceived es (session_answers board (bytes_of_signals sleeps (signals_of es) ++ codes "Q")) →
      HasGoneOn plays board es ending (board_left board (bytes_of_signals sleeps (signals_of es) ++ codes "Q"))
  gone_on_session some sleeps heard received =
      gone_on some sleeps most_bytes (codes "Q") quit_tail (λ e. absurd (omega (arith, e))) heard received

  -- the other way round
  pub hears : HasGone (plays (Told board)) es ending → HasHeard plays es ending
  hears gone more =
      let f = followed program chosen n base board es ending gone in
      gone_alike program chosen n base (Told board) (heard_at es more) es ending
      (f.clocks ∙ sym (heard_clocks_are es more)) gone

  pub run_answers : 0 < length board → HasGone (plays (Told board)) es ending →
      first_answers board (bytes_of_signals false (signals_of es)) ≡ answers_of (signals_of es)
  run_answers some gone =
      let bytes : List ℕ = bytes_of_signals false (signals_of es) in
      ap (answers_to (link_to board)) (sym (three_times bytes))
      ∙ answers_as_board (signals_of es) false (3 * length bytes) board [] some no_tail (omega arith)
      (followed program chosen n base board es ending gone).clocks

  pub session_answers_are : 0 < length board → HasGone (plays (Told board)) es ending →
      length (bytes_of_signals false (signals_of es)) ≤ most_bytes →
      session_answers board (bytes_of_signals false (signals_of es) ++ codes "Q") ≡ answers_of (signals_of es)
  session_answers_are some gone fits =
      answers_as_board (signals_of es) false most_bytes board (codes "Q") some quit_tail fits
      (followed program chosen n base board es ending gone).clocks
