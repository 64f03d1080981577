-- Calls one after another: what they made together, for this crate and those above. Of all calls but the last it is
-- known what they made, and the last one may have failed.
use Rattle.std.proofs.Common.{◌≡◌, inl, inr, List, [], ◌∷◌, ◌++◌, map, Bool, Option, Some, refl, sym, ap, ◌∙◌, append_assoc}
use Rattle.std.proofs.lemmas.List.{map-append}
use Rattle.std.specs.Option.{option_map}
use Rattle.dev_card.specs.Card.{Card}
use Rattle.dev_card.specs.Board.{Clock, Input, clock_with, clocks_of, board_after}
use Rattle.dev_card.proofs.ScanLines.{after-append, clocks-append, after_none, after_both}
use Rattle.scan_paths.specs.Cables.{Signal, Pulses, pulsed, input_of, IsClocked, HasBrokenOff, IsClockedOrNot, HasMadeClocks, HasMade, HasMadeFront}

inputs_both : (ks ls : List Clock) (xs ys : List Input) → map input_of ks ≡ xs → map input_of ls ≡ ys → map input_of (ks ++ ls) ≡ xs ++ ys
inputs_both ks ls xs ys p q = map-append input_of ks ls ∙ ap (λ z. z ++ map input_of ls) p ∙ ap (λ z. xs ++ z) q

made_both_ways : {C : Type 0} (makes : C → List Signal → C → Type 0) (a c : C) (ks ls : List Clock) →
    makes a (pulsed ks ++ pulsed ls) c → makes a (pulsed (ks ++ ls)) c
made_both_ways makes a c ks ls m = rw (map-append Pulses ks ls) m

seen_both : (cs : List Card) (xs ys : List Input) (ks ls : List Clock) → ks ≡ clocks_of cs xs → ls ≡ clocks_of (board_after cs xs) ys →
    ks ++ ls ≡ clocks_of cs (xs ++ ys)
seen_both cs xs ys ks ls p q = ap (λ z. z ++ ls) p ∙ ap (λ z. clocks_of cs xs ++ z) q ∙ sym (clocks-append xs ys cs)

-- No signal was made, and the board is as it was.
pub record IsUnclocked {C : Type 0} (board : C → Option (List Card)) (makes : C → List Signal → C → Type 0)
    (old new : C) : Type 0 where
  pub made : makes old [] new
  pub cards : board new ≡ board old

module _ {C : Type 0} (board : C → Option (List Card)) (makes : C → List Signal → C → Type 0) where
  -- no clock was made
  pub clocks_nothing : (old new : C) → IsUnclocked board makes old new → HasMadeClocks board makes old new [] []
  clocks_nothing old new u = record { made = u.made; went_in = refl; seen = λ cs t. refl; cards = u.cards ∙ after_none (board old) }

  pub made_nothing : (old new : C) → IsUnclocked board makes old new → HasMade board makes old new []
  made_nothing old new u = record { clocks = []; made = clocks_nothing old new u }

  -- one clock was made, this one
  pub clocks_one : (old new : C) (i : Input) (tdo : Bool) → IsClocked board makes old new i.tms i.tdi tdo →
      HasMadeClocks board makes old new (i ∷ []) (clock_with i tdo ∷ [])
  clocks_one old new i tdo k = record { made = k.made; went_in = refl; seen = λ cs t. ap (λ b. clock_with i b ∷ []) (k.seen cs t); cards = k.cards }

  pub made_one : (old new : C) (i : Input) (tdo : Bool) → IsClocked board makes old new i.tms i.tdi tdo → HasMade board makes old new (i ∷ [])
  made_one old new i tdo k = record { clocks = clock_with i tdo ∷ []; made = clocks_one old new i tdo k }

  -- what was made before a failure is a front
  pub front_broken : (old new : C) (xs rest : List Input) → HasBrokenOff board makes old new xs → HasMadeFront board makes old new (xs ++ rest)
  front_broken old new xs rest b = record { front = xs; rest = rest; parts = refl; made = b }

  -- so it is if one clock failed
  pub front_clock : (old new : C) (i : Input) (rest : List Input) → IsClockedOrNot board makes old new i.tms i.tdi →
      HasMadeFront board makes old new (i ∷ rest)
  front_clock old new i rest (inl b) = front_broken old new [] (i ∷ rest) b
  front_clock old new i rest (inr b) = front_broken old new (i ∷ []) rest b

  -- a front of a list is one of a longer list
  pub front_longer : (old new : C) (xs ys : List Input) → HasMadeFront board makes old new xs → HasMadeFront board makes old new (xs ++ ys)
  front_longer old new xs ys f = record {
    front = f.front;
    rest = f.rest ++ ys;
    parts = ap (λ z. z ++ ys) f.parts ∙ append_assoc f.front f.rest ys;
    made = f.made;
  }

  told_after : (old new : C) (xs : List Input) (ks : List Clock) → HasMadeClocks board makes old new xs ks → (cs : List Card) → board old ≡ Some cs →
      board new ≡ Some (board_after cs xs)
  told_after old new xs ks p cs t = p.cards ∙ ap (λ o. option_map (λ ks. board_after ks xs) o) t

  module _ (both : (a b c : C) (front back : List Signal) → makes a front b → makes b back c →
      makes a (front ++ back) c) where
    -- two calls in a row made their clocks, joined
    pub clocks_both : (a b c : C) (xs ys : List Input) (ks ls : List Clock) → HasMadeClocks board makes a b xs ks → HasMadeClocks board makes b c ys ls →
        HasMadeClocks board makes a c (xs ++ ys) (ks ++ ls)
    clocks_both a b c xs ys ks ls p q = record {
      made = made_both_ways makes a c ks ls (both a b c (pulsed ks) (pulsed ls) p.made q.made);
      went_in = inputs_both ks ls xs ys p.went_in q.went_in;
      seen = λ cs t. seen_both cs xs ys ks ls (p.seen cs t) (q.seen (board_after cs xs) (told_after a b xs ks p cs t));
      cards = q.cards ∙ ap (λ o. option_map (λ ks. board_after ks ys) o) p.cards ∙ after_both (board a) xs ys;
    }

    -- the same where nobody asks for the clocks
    pub made_both : (a b c : C) (xs ys : List Input) → HasMade board makes a b xs → HasMade board makes b c ys → HasMade board makes a c (xs ++ ys)
    made_both a b c xs ys p q = record { clocks = p.clocks ++ q.clocks; made = clocks_both a b c xs ys p.clocks q.clocks p.made q.made }

    -- a call, and then one that failed
    pub broken_after : (a b c : C) (xs ys : List Input) → HasMade board makes a b xs → HasBrokenOff board makes b c ys → HasBrokenOff board makes a c (xs ++ ys)
    broken_after a b c xs ys p q =
        let mid : (cs : List Card) → board a ≡ Some cs → board b ≡ Some (board_after cs xs) = told_after a b xs p.clocks p.made in
        record {
          clocks = p.clocks ++ q.clocks;
          made = made_both_ways makes a c p.clocks q.clocks
              (both a b c (pulsed p.clocks) (pulsed q.clocks) p.made.made q.made);
          went_in = inputs_both p.clocks q.clocks xs ys p.made.went_in q.went_in;
          seen = λ cs t. seen_both cs xs ys p.clocks q.clocks (p.made.seen cs t) (q.seen (board_after cs xs) (mid cs t));
          cards = λ cs ks t u. q.cards (board_after cs xs) ks (mid cs t) u ∙ sym (after-append xs ys cs);
          untold = λ t. q.untold (p.made.cards ∙ ap (λ o. option_map (λ ks. board_after ks xs) o) t);
        }

    -- a call, and then a front
    pub front_after : (a b c : C) (xs ys : List Input) → HasMade board makes a b xs → HasMadeFront board makes b c ys → HasMadeFront board makes a c (xs ++ ys)
    front_after a b c xs ys p f = record {
      front = xs ++ f.front;
      rest = f.rest;
      parts = ap (λ z. xs ++ z) f.parts ∙ sym (append_assoc xs f.front f.rest);
      made = broken_after a b c xs f.front p f.made;
    }
