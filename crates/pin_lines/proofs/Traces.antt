-- The text with pins of a play is a trace of its board.
use Rattle.std.proofs.Common.{◌≡◌, ℕ, Bool, true, false, List, [], ◌∷◌, map, take, drop, Some, All, refl, sym, ap, subst, ◌∙◌}
use Rattle.std.proofs.lemmas.List.Elements.{All-take, All-drop, All-cons, All-nil, All-head, All-tail}
use Rattle.dev_card.specs.declared.desc.Desc.{Desc}
use Rattle.dev_card.specs.Descriptions.{IsGood}
use Rattle.dev_card.specs.Card.{Card, fresh}
use Rattle.dev_card.specs.Board.{Input, clocks_of, board_after}
use Rattle.dev_card.specs.FarEnds.{FarEnd, Told}
use Rattle.dev_card.specs.Padding.{BaseLengths}
use Rattle.dev_card.specs.PaddedScan.{descriptions_of}
use Rattle.dev_card.proofs.OneScan.{descriptions_after}
use Rattle.stapl_meaning.specs.declared.events.Event.{Event}
use Rattle.stapl_meaning.specs.declared.events.Ending.{Ending}
use Rattle.stapl_meaning.specs.Scopes.{Played}
use Rattle.stapl_meaning.specs.Plays.{Run, play, ending_of}
use Rattle.stapl_meaning.specs.Texts.{text_of}
use Rattle.pin_lines.specs.PinLines.{pins_in, inputs_of_pins, clocks_of_pins}
use Rattle.pin_lines.specs.Traces.{IsTraceOf, asked_lines}
use Rattle.pin_lines.proofs.Lines.{IsPart, no_part}
use Rattle.pin_lines.proofs.PinTexts.{clocks_among, digits_among, digits_tell, digits_tell_inputs, AreNames, are_names, report_part, text_part, pins_in_whole, good_whole}
use Rattle.pin_lines.proofs.Followed.{inputs_among, Follows, play_follows}

trace_of : (board : List Card) (es : List Event) (report : List ℕ) (ending : Ending) (far : FarEnd) → IsPart report [] → Follows (Told board) es far
    → IsTraceOf board (text_of true es report ending) far
trace_of board es report ending far h f =
    let text : List ℕ = text_of true es report ending in
    let p : IsPart text (digits_among es) = text_part es report ending h in
    let d : pins_in text ≡ digits_among es = pins_in_whole text (digits_among es) p in
    let is : inputs_of_pins (pins_in text) ≡ inputs_among es = ap inputs_of_pins d ∙ digits_tell_inputs (clocks_among es) in
    record {
      good = good_whole text (digits_among es) p;
      agrees = ap (clocks_of board) is ∙ f.seen ∙ sym (ap clocks_of_pins d ∙ digits_tell (clocks_among es));
      leads = f.leads ∙ ap (λ t. Told (board_after board t)) (sym is);
    }

described : (ds : List Desc) (cs : List Card) → descriptions_of cs ≡ ds → All IsGood ds → All (λ (c : Card). AreNames c.desc) cs
described ds cs e g = names cs (subst (All IsGood) (sym e) g)
  where
    names : (cs : List Card) → All IsGood (descriptions_of cs) → All (λ (c : Card). AreNames c.desc) cs
    names [] g = All-nil (λ (c : Card). AreNames c.desc)
    names (c ∷ cs) g =
        All-cons (λ (c : Card). AreNames c.desc) c cs (are_names c.desc (All-head IsGood c.desc (descriptions_of cs) g)) (names cs (All-tail IsGood c.desc (descriptions_of cs) g))

descriptions_of_fresh : (ds : List Desc) → descriptions_of (map fresh ds) ≡ ds
descriptions_of_fresh [] = refl
descriptions_of_fresh (d ∷ ds) = ap (λ t. d ∷ t) (descriptions_of_fresh ds)

asked_part : (report : Bool) (first count : ℕ) (ds : List Desc) (is : List Input) (far : FarEnd) → All IsGood ds → far ≡ Told (board_after (map fresh ds) is)
    → IsPart (asked_lines report first count far) []
asked_part false first count ds is far g e = no_part
asked_part true first count ds is far g e =
    let board : List Card = board_after (map fresh ds) is in
    let named : All (λ (c : Card). AreNames c.desc) board = described ds board (descriptions_after is (map fresh ds) ∙ descriptions_of_fresh ds) g in
    subst (λ f. IsPart (asked_lines true first count f) []) (sym e)
    (report_part (take count (drop first board)) (All-take (λ (c : Card). AreNames c.desc) count (drop first board) (All-drop (λ (c : Card). AreNames c.desc) first board named)))

-- the text of a run whose clocks the board answers
pub trace_of_run : (devices : List Desc) (r : Run) (ending : Ending) (report : Bool) (first count : ℕ) → All IsGood devices → Follows (Told (map fresh devices)) r.events r.chain.far
    → IsTraceOf (map fresh devices) (text_of true r.events (asked_lines report first count r.chain.far) ending) r.chain.far
trace_of_run devices r ending report first count g f =
    trace_of (map fresh devices) r.events (asked_lines report first count r.chain.far) ending r.chain.far
    (asked_part report first count devices (inputs_among r.events) r.chain.far g f.leads) f

pub trace_of_play : (program : Played) (chosen : List ℕ) (n : ℕ) (base : BaseLengths) (devices : List Desc) (ending : Ending) (report : Bool) (first count : ℕ) → All IsGood devices
    → ending_of (play program chosen n base (Told (map fresh devices))).outcome ≡ Some ending
    → IsTraceOf (map fresh devices) (text_of true (play program chosen n base (Told (map fresh devices))).events
    (asked_lines report first count (play program chosen n base (Told (map fresh devices))).chain.far) ending) (play program chosen n base (Told (map fresh devices))).chain.far
trace_of_play program chosen n base devices ending report first count g e =
    let board : List Card = map fresh devices in
    trace_of_run devices (play program chosen n base (Told board)) ending report first count g (play_follows program chosen n base (Told board) ending e)
