-- The clocks of a loop, one after another.
use Rattle.std.proofs.Common.{◌≡◌, Bool, List, [], ◌∷◌, ◌++◌, Option, refl, sym, subst, ◌∙◌, append_assoc}
use Rattle.std.proofs.lemmas.List.{append-nil}
use Rattle.dev_card.specs.Card.{Card}
use Rattle.dev_card.specs.Board.{Input}
use Rattle.scan_paths.specs.Cables.{Signal, IsClocked, IsClockedOrNot, HasMade, HasMadeFront}
use Rattle.scan_paths.proofs.CallsInARow.{made_nothing, made_one, made_both, front_clock, front_after, front_longer}

-- Of all inputs a front was clocked, and these are the rest.
pub record IsUnderWay {C : Type 0} (board : C → Option (List Card)) (makes : C → List Signal → C → Type 0)
    (start now : C) (rest all : List Input) : Type 0 where
  pub front : List Input
  pub parts : all ≡ front ++ rest
  pub made : HasMade board makes start now front

module _ {C : Type 0} (board : C → Option (List Card)) (makes : C → List Signal → C → Type 0)
    (both : (a b c : C) (front back : List Signal) → makes a front b → makes b back c → makes a (front ++ back) c) where
  -- before the first clock
  pub way_none : (start : C) (rest all : List Input) → all ≡ rest → makes start [] start → IsUnderWay board makes start start rest all
  way_none start rest all e m = record { front = []; parts = e; made = made_nothing board makes start start (record { made = m; cards = refl }) }

  -- one clock more
  pub way_more : (start now next : C) (i : Input) (rest all : List Input) (tdo : Bool) → IsClocked board makes now next i.tms i.tdi tdo →
      IsUnderWay board makes start now (i ∷ rest) all → IsUnderWay board makes start next rest all
  way_more start now next i rest all tdo k w = record {
    front = w.front ++ i ∷ [];
    parts = w.parts ∙ sym (append_assoc w.front (i ∷ []) rest);
    made = made_both board makes both start now next w.front (i ∷ []) w.made (made_one board makes now next i tdo k);
  }

  -- nothing is left
  pub way_end : (start now : C) (all : List Input) → IsUnderWay board makes start now [] all → HasMade board makes start now all
  way_end start now all w = subst (λ z. HasMade board makes start now z) (sym (w.parts ∙ append-nil w.front)) w.made

  -- a clock that failed after some of the inputs
  pub way_failed : (start now next : C) (i : Input) (rest all : List Input) →
      IsClockedOrNot board makes now next i.tms i.tdi → IsUnderWay board makes start now (i ∷ rest) all → HasMadeFront board makes start next all
  way_failed start now next i rest all k w =
      subst (λ z. HasMadeFront board makes start next z) (sym w.parts)
      (front_after board makes both start now next w.front (i ∷ rest) w.made (front_clock board makes now next i rest k))

  -- one block more
  pub way_block : (start now next : C) (is rest all : List Input) → HasMade board makes now next is → IsUnderWay board makes start now (is ++ rest) all →
      IsUnderWay board makes start next rest all
  way_block start now next is rest all p w = record {
    front = w.front ++ is;
    parts = w.parts ∙ sym (append_assoc w.front is rest);
    made = made_both board makes both start now next w.front is w.made p;
  }

  -- a block that failed after some of the inputs
  pub way_block_failed : (start now next : C) (is rest all : List Input) → HasMadeFront board makes now next is →
      IsUnderWay board makes start now (is ++ rest) all →
      HasMadeFront board makes start next all
  way_block_failed start now next is rest all f w =
      subst (λ z. HasMadeFront board makes start next z) (sym w.parts)
      (front_after board makes both start now next w.front (is ++ rest) w.made (front_longer board makes now next is rest f))
