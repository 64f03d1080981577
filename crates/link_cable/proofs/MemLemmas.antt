-- A wire in memory.
use Rattle.std.proofs.Common.{◌≡◌, ◌&&◌, ℕ, List, ◌++◌, length, take, drop, true, Option, Some, None, refl, sym, ap, subst, ◌∙◌, arith}
use Rattle.std.specs.Prelude.{is_some}
use Rattle.std.proofs.lemmas.Bool.{false≢true, and_parts}
use Rattle.std.proofs.lemmas.List.{take-append-le, take_all}
use Rattle.dev_card.specs.Card.{Card}
use Rattle.dev_card.specs.Sound.{SoundCard}
use Rattle.chain_sim.specs.Places.{cards_at, is_chain, are_apart, is_some_place}
use Rattle.link_server.specs.declared.link.Link.{Link}
use Rattle.link_server.specs.declared.link.Fed.{Fed}
use Rattle.link_server.specs.Runs.{LinkAt, HasFed, link_after, answers_to}
use Rattle.link_cable.specs.Wires.{told_sent}
use Rattle.link_cable.specs.MemWires.{told_with}

found : (o p : Option (List Card)) → is_some o ≡ true → ((cs : List Card) → o ≡ Some cs → (x : List Card) × (p ≡ Some x)) → is_some p ≡ true
found None p h f = absurd (false≢true h)
found (Some cs) p h f = subst (λ p. is_some p ≡ true) (sym (f cs refl).1) refl

-- a chain is one after bytes were fed
pub still_chain : (old new : List (Option SoundCard)) (places bytes buffer new_buffer : List ℕ) (link now : Link) (fed : Fed) → is_chain old places ≡ true
    → ((cs : List Card) → cards_at old places ≡ Some cs → HasFed (record { link = link; board = cs }) bytes buffer now (cards_at new places) new_buffer fed)
    → is_chain new places ≡ true
still_chain old new places bytes buffer new_buffer link now fed h f =
    let some : (is_some_place places ≡ true) × ((are_apart places && is_some (cards_at old places)) ≡ true) = and_parts (is_some_place places) _ h in
    let both : (are_apart places ≡ true) × (is_some (cards_at old places) ≡ true) = and_parts (are_apart places) _ some.1 in
    let still : is_some (cards_at new places) ≡ true =
    found (cards_at old places) (cards_at new places) both.1 (λ cs e. ((link_after (record { link = link; board = cs }) bytes).board, (f cs e).board)) in
    ap (λ t. t && (are_apart places && is_some (cards_at new places))) some.0
    ∙ ap (λ t. t && is_some (cards_at new places)) both.0 ∙ still

front_of : (n : ℕ) (xs ys : List ℕ) → n ≡ length xs → take n (xs ++ ys) ≡ xs
front_of n xs ys e = take-append-le n xs ys (omega (arith, e)) ∙ take_all n xs (omega (arith, e))

-- what is told after bytes were fed and their answers wait
pub fed_told : (o p : Option (List Card)) (link now : Link) (waiting bytes buffer new_buffer new_waiting : List ℕ) (fed : Fed) → is_some o ≡ true
    → ((cs : List Card) → o ≡ Some cs → HasFed (record { link = link; board = cs }) bytes buffer now p new_buffer fed)
    → new_waiting ≡ waiting ++ take fed.answered new_buffer → told_with p now new_waiting ≡ told_sent (told_with o link waiting) bytes
fed_told None p link now waiting bytes buffer new_buffer new_waiting fed some f w = absurd (false≢true some)
fed_told (Some cs) p link now waiting bytes buffer new_buffer new_waiting fed some f w =
    let at : LinkAt = record { link = link; board = cs } in
    let h : HasFed at bytes buffer now p new_buffer fed = f cs refl in
    ap (λ p. told_with p now new_waiting) h.board
    ∙ ap (λ (l : Link). told_with (Some (link_after at bytes).board) l new_waiting) h.link
    ∙ ap (λ (v : List ℕ). told_with (Some (link_after at bytes).board) (link_after at bytes).link v)
    (w ∙ ap (λ (v : List ℕ). waiting ++ v) (ap (λ (v : List ℕ). take fed.answered v) h.answers ∙ front_of fed.answered (answers_to at bytes) (drop fed.answered buffer) h.answered))

-- there is a board where there is a chain
pub board_is_there : (rack : List (Option SoundCard)) (places : List ℕ) → is_chain rack places ≡ true → is_some (cards_at rack places) ≡ true
board_is_there rack places h = (and_parts (are_apart places) _ (and_parts (is_some_place places) _ h).1).1
