-- What was carried over a told wire is nothing between a state and itself, and can be joined.
use Rattle.std.proofs.Common.{ℕ, List, [], ◌++◌, Option, refl, sym, ap, ◌∙◌, append_assoc}
use Rattle.std.proofs.lemmas.List.{append-nil}
use Rattle.link_server.specs.Runs.{link_after, answers_to}
use Rattle.link_server.proofs.Cuts.{end_joined, answers_joined}
use Rattle.link_cable.specs.Wires.{WireState, IsCarriedTo, CarriesTold}

pub none_told : (o : Option WireState) → CarriesTold o [] [] o
none_told o = record {
  untold = λ e. e;
  told = λ s e. record { now = s; now_is = e; end = refl; answers_are = append-nil s.waiting };
}

then_to : (s : WireState) (mid new : Option WireState) (bytes more answers others : List ℕ) (first : IsCarriedTo s bytes answers mid) →
    IsCarriedTo first.now more others new → IsCarriedTo s (bytes ++ more) (answers ++ others) new
then_to s mid new bytes more answers others first next = record {
  now = next.now;
  now_is = next.now_is;
  end = next.end ∙ ap (λ at. link_after at more) first.end ∙ sym (end_joined bytes more s.at);
  answers_are =
      ap (λ xs. s.waiting ++ xs) (answers_joined bytes more s.at)
      ∙ sym (append_assoc s.waiting (answers_to s.at bytes) (answers_to (link_after s.at bytes) more))
      ∙ ap (λ xs. xs ++ answers_to (link_after s.at bytes) more) first.answers_are
      ∙ append_assoc answers first.now.waiting (answers_to (link_after s.at bytes) more)
      ∙ ap (λ at. answers ++ (first.now.waiting ++ answers_to at more)) (sym first.end)
      ∙ ap (λ xs. answers ++ xs) next.answers_are
      ∙ sym (append_assoc answers others next.now.waiting);
}

pub both_told : (a b c : Option WireState) (bytes more answers others : List ℕ) → CarriesTold a bytes answers b →
    CarriesTold b more others c → CarriesTold a (bytes ++ more) (answers ++ others) c
both_told a b c bytes more answers others p q = record {
  untold = λ e. q.untold (p.untold e);
  told = λ s e.
      let first : IsCarriedTo s bytes answers b = p.told s e in
      then_to s b c bytes more answers others first (q.told first.now first.now_is);
}
