-- Bytes that are fed one after another.
use Rattle.std.proofs.Common.{◌≡◌, ◌<◌, ◌≤◌, ◌+◌, ℕ, List, [], ◌∷◌, ◌++◌, length, drop, map, refl, sym, ap, subst, ◌∙◌, Bool, true, false, cond, Option, Some, None, slice_get, slice_set, arith, append_assoc, length-append}
use Rattle.std.specs.Prelude.{IsSome, IsTrue}
use Rattle.std.proofs.Math.Seq.{set-append_seam}
use Rattle.std.proofs.Math.ListN.{drop_of_length-le}
use Rattle.std.proofs.lemmas.Bool.{false≢true}
use Rattle.std.proofs.lemmas.List.{append-nil, drop_more}
use Rattle.dev_card.specs.declared.desc.Kind.{Kind}
use Rattle.dev_card.specs.Card.{Card}
use Rattle.dev_card.specs.Sound.{SoundCard}
use Rattle.scan_paths.specs.Cables.{whole_if}
use Rattle.chain_sim.specs.Places.{cards_at, is_chain, AreApart, IsAbsent}
use Rattle.chain_sim.proofs.Clocking.{apart_if_whole}
use Rattle.link_server.specs.declared.link.Link.{Link}
use Rattle.link_server.specs.declared.link.Fed.{Fed}
use Rattle.link_server.specs.declared.orders.Order.{Order}
use Rattle.link_server.specs.declared.orders.Order.TheVariants.{Set, Ask, Nothing, Quit, Refused}
use Rattle.link_server.specs.Orders.{order_of}
use Rattle.link_server.specs.Runs.{LinkAt, is_open, after_order, answer_to, taken_by, after_byte, answer_to_byte, taken_at, link_after, answers_to, count_taken, HasFed, HasFedByte, with_answer}

-- So many bytes were fed: what the run of the rest gives, the run of all gives after what was answered and taken.
pub record IsAt (start : LinkAt) (bytes old_buffer : List ℕ) (n : ℕ) (now : Link) (told : Option (List Card)) (buffer : List ℕ) (fed : Fed) : Type 0 where
  pub board : List Card
  pub stands : told ≡ Some board
  pub front : List ℕ
  pub buffer_is : buffer ≡ front ++ drop (length front) old_buffer
  pub answered : fed.answered ≡ length front
  pub after : link_after start bytes ≡ link_after (record { link = now; board = board }) (drop n bytes)
  pub answers : answers_to start bytes ≡ front ++ answers_to (record { link = now; board = board }) (drop n bytes)
  pub taken : count_taken start bytes ≡ fed.taken + count_taken (record { link = now; board = board }) (drop n bytes)

-- one answer at most is put after those before
put_after : (front old buffer more : List ℕ) → length front < length old → length more ≤ 1 → buffer ≡ front ++ drop (length front) old
    → with_answer buffer (length front) more ≡ (front ++ more) ++ drop (length (front ++ more)) old
put_after front old buffer [] lt few e =
    e ∙ ap (λ (xs : List ℕ). xs ++ drop (length xs) old) (sym (append-nil front))
put_after front old buffer (a ∷ []) lt few e =
    let n : length (front ++ a ∷ []) ≡ length front + 1 = length-append front (a ∷ []) in
    ap (λ (xs : List ℕ). slice_set xs (length front) a) (e ∙ ap (λ (xs : List ℕ). front ++ xs) (drop_more old (length front) a lt))
    ∙ set-append_seam front _ (drop (length front + 1) old) a
    ∙ sym (append_assoc front (a ∷ []) (drop (length front + 1) old))
    ∙ ap (λ k. (front ++ a ∷ []) ++ drop k old) (sym n)
put_after front old buffer (a ∷ b ∷ more) lt few e = absurd (omega (arith, few))

pub one_at_most : (at : LinkAt) (b : ℕ) → length (answer_to_byte at b) ≤ 1
one_at_most at b = by_state (is_open at.link.state) (order_of b)
  where
    by_order : (o : Order) → length (answer_to at o) ≤ 1
    by_order (Set l) = omega arith
    by_order Ask = omega arith
    by_order Nothing = omega arith
    by_order Quit = omega arith
    by_order Refused = omega arith

    by_state : (t : Bool) (o : Order) → length (cond t (answer_to at o) []) ≤ 1
    by_state true o = by_order o
    by_state false o = omega arith

-- one byte more
pub one_more : (start : LinkAt) (bytes old_buffer : List ℕ) (n b : ℕ) (now new : Link) (told new_told : Option (List Card)) (buffer new_buffer : List ℕ) (before fed : Fed)
    → drop n bytes ≡ b ∷ drop (n + 1) bytes → before.answered < length old_buffer
    → IsAt start bytes old_buffer n now told buffer before
    → ((cs : List Card) → told ≡ Some cs → HasFedByte (record { link = now; board = cs }) b buffer before new new_told new_buffer fed)
    → IsAt start bytes old_buffer (n + 1) new new_told new_buffer fed
one_more start bytes old_buffer n b now new told new_told buffer new_buffer before fed next room h f =
    let at : LinkAt = record { link = now; board = h.board } in
    let one : HasFedByte at b buffer before new new_told new_buffer fed = f h.board h.stands in
    let here : record { link = new; board = (after_byte at b).board } ≡ after_byte at b = ap (λ l. record { link = l; board = (after_byte at b).board }) one.link in
    let lt : length h.front < length old_buffer = subst (λ k. k < length old_buffer) h.answered room in
    record {
      board = (after_byte at b).board;
      stands = one.board;
      front = h.front ++ answer_to_byte at b;
      buffer_is = one.answers ∙ ap (λ k. with_answer buffer k (answer_to_byte at b)) h.answered
          ∙ put_after h.front old_buffer buffer (answer_to_byte at b) lt (one_at_most at b) h.buffer_is;
      answered = one.answered ∙ ap (λ k. k + length (answer_to_byte at b)) h.answered ∙ sym (length-append h.front (answer_to_byte at b));
      after = h.after ∙ ap (link_after at) next ∙ ap (λ a. link_after a (drop (n + 1) bytes)) (sym here);
      answers = h.answers ∙ ap (λ xs. h.front ++ answers_to at xs) next ∙ sym (append_assoc h.front (answer_to_byte at b) (answers_to (after_byte at b) (drop (n + 1) bytes)))
          ∙ ap (λ a. (h.front ++ answer_to_byte at b) ++ answers_to a (drop (n + 1) bytes)) (sym here);
      taken = h.taken ∙ ap (λ xs. before.taken + count_taken at xs) next
          ∙ add_assoc before.taken (taken_at at b) (count_taken (after_byte at b) (drop (n + 1) bytes))
          ∙ ap (λ k. k + count_taken (after_byte at b) (drop (n + 1) bytes)) (sym one.taken)
          ∙ ap (λ a. fed.taken + count_taken a (drop (n + 1) bytes)) (sym here);
    }
  where
    add_assoc : (a b c : ℕ) → a + (b + c) ≡ (a + b) + c
    add_assoc a b c = omega arith

zero_add : (a : ℕ) → 0 + a ≡ a
zero_add a = omega arith

pub none_fed : (start : LinkAt) (bytes old_buffer : List ℕ) → IsAt start bytes old_buffer 0 start.link (Some start.board) old_buffer (record { taken = 0; answered = 0 })
none_fed start bytes old_buffer = record {
  board = start.board;
  stands = refl;
  front = [];
  buffer_is = refl;
  answered = refl;
  after = refl;
  answers = refl;
  taken = sym (zero_add (count_taken start bytes));
}

-- all bytes were fed
pub all_fed : (start : LinkAt) (bytes old_buffer : List ℕ) (n : ℕ) (now : Link) (told : Option (List Card)) (buffer : List ℕ) (fed : Fed)
    → length bytes ≤ n → IsAt start bytes old_buffer n now told buffer fed → HasFed start bytes old_buffer now told buffer fed
all_fed start bytes old_buffer n now told buffer fed end h =
    let at : LinkAt = record { link = now; board = h.board } in
    let none : drop n bytes ≡ [] = drop_of_length-le bytes end in
    let after : link_after start bytes ≡ at = h.after ∙ ap (link_after at) none in
    let answers : answers_to start bytes ≡ h.front = h.answers ∙ ap (λ xs. h.front ++ answers_to at xs) none ∙ append-nil h.front in
    record {
      link = ap (λ (a : LinkAt). a.link) (sym after);
      board = h.stands ∙ ap (λ (a : LinkAt). Some a.board) (sym after);
      answers = h.buffer_is ∙ ap (λ (xs : List ℕ). xs ++ drop (length h.front) old_buffer) (sym answers) ∙ ap (λ k. answers_to start bytes ++ drop k old_buffer) (sym h.answered);
      answered = h.answered ∙ ap (λ (xs : List ℕ). length xs) (sym answers);
      taken = add_zero fed.taken ∙ ap (λ xs. fed.taken + count_taken at xs) (sym none) ∙ sym h.taken;
    }
  where
    add_zero : (a : ℕ) → a ≡ a + 0
    add_zero a = omega arith

-- a session that is not open takes nothing
pub closed_after : (at : LinkAt) (bytes : List ℕ) → is_open at.link.state ≡ false → link_after at bytes ≡ at
closed_after at [] e = refl
closed_after at (b ∷ bytes) e =
    let same : after_byte at b ≡ at = ap (λ t. cond t (after_order at (order_of b)) at) e in
    ap (λ a. link_after a bytes) same ∙ closed_after at bytes e

pub closed_answers : (at : LinkAt) (bytes : List ℕ) → is_open at.link.state ≡ false → answers_to at bytes ≡ []
closed_answers at [] e = refl
closed_answers at (b ∷ bytes) e =
    let same : after_byte at b ≡ at = ap (λ t. cond t (after_order at (order_of b)) at) e in
    let none : answer_to_byte at b ≡ [] = ap (λ t. cond t (answer_to at (order_of b)) []) e in
    ap (λ (xs : List ℕ). xs ++ answers_to (after_byte at b) bytes) none ∙ ap (λ a. answers_to a bytes) same ∙ closed_answers at bytes e

pub closed_taken : (at : LinkAt) (bytes : List ℕ) → is_open at.link.state ≡ false → count_taken at bytes ≡ 0
closed_taken at [] e = refl
closed_taken at (b ∷ bytes) e =
    let same : after_byte at b ≡ at = ap (λ t. cond t (after_order at (order_of b)) at) e in
    let none : taken_at at b ≡ 0 = ap (λ t. cond t (taken_by (order_of b)) 0) e in
    ap (λ k. k + count_taken (after_byte at b) bytes) none ∙ zero_add (count_taken (after_byte at b) bytes) ∙ ap (λ a. count_taken a bytes) same ∙ closed_taken at bytes e

pub nothing_fed : (at : LinkAt) (bytes buffer : List ℕ) → is_open at.link.state ≡ false → HasFed at bytes buffer at.link (Some at.board) buffer (record { taken = 0; answered = 0 })
nothing_fed at bytes buffer e = record {
  link = ap (λ (a : LinkAt). a.link) (sym (closed_after at bytes e));
  board = ap (λ (a : LinkAt). Some a.board) (sym (closed_after at bytes e));
  answers = ap (λ (xs : List ℕ). xs ++ buffer) (sym (closed_answers at bytes e));
  answered = ap (λ (xs : List ℕ). length xs) (sym (closed_answers at bytes e));
  taken = sym (closed_taken at bytes e);
}

pub nothing_fed_told : (link : Link) (cs : List Card) (told : Option (List Card)) (bytes buffer : List ℕ) → told ≡ Some cs → is_open link.state ≡ false
    → HasFed (record { link = link; board = cs }) bytes buffer link told buffer (record { taken = 0; answered = 0 })
nothing_fed_told link cs told bytes buffer e closed =
    subst (λ o. HasFed (record { link = link; board = cs }) bytes buffer link o buffer (record { taken = 0; answered = 0 })) (sym e)
    (nothing_fed (record { link = link; board = cs }) bytes buffer closed)

-- places of a chain differ
pub places_apart : (rack : List (Option SoundCard)) (places : List ℕ) → IsTrue (is_chain rack places) → AreApart places
places_apart rack places h = apart_if_whole rack places (ap whole_if h)

module _ {X : Type 0} (fitted : X → Option SoundCard) (kind_of : X → Kind) where
  -- the loop: what is kept of the rack, and what the run of each board gives
  pub record AreFedUpTo (old new : List X) (places bytes old_buffer : List ℕ) (start : Link) (n : ℕ) (now : Link) (buffer : List ℕ) (fed : Fed) : Type 0 where
    pub within : n ≤ length bytes
    pub few : fed.taken ≤ n
    pub small : fed.answered ≤ n
    pub room : length buffer ≡ length old_buffer
    pub kinds : map kind_of new ≡ map kind_of old
    pub others : (k : ℕ) → IsAbsent k places → slice_get new k ≡ slice_get old k
    pub still_fitted : IsSome (cards_at (map fitted new) places)
    pub ran : (cs : List Card) → cards_at (map fitted old) places ≡ Some cs → IsAt (record { link = start; board = cs }) bytes old_buffer n now (cards_at (map fitted new) places) buffer fed

  some_still : (o p : Option (List Card)) → IsSome o → ((cs : List Card) → o ≡ Some cs → (x : List Card) × (p ≡ Some x)) → IsSome p
  some_still None p h f = absurd (false≢true h)
  some_still (Some cs) p h f = subst (λ p. IsSome p) (sym (f cs refl).1) refl

  pub start_feeding : (old : List X) (places bytes buffer : List ℕ) (start : Link) → IsSome (cards_at (map fitted old) places)
      → AreFedUpTo old old places bytes buffer start 0 start buffer (record { taken = 0; answered = 0 })
  start_feeding old places bytes buffer start h = record {
    within = omega arith;
    few = omega arith;
    small = omega arith;
    room = refl;
    kinds = refl;
    others = λ k a. refl;
    still_fitted = h;
    ran = λ cs e. subst (λ o. IsAt (record { link = start; board = cs }) bytes buffer 0 start o buffer (record { taken = 0; answered = 0 })) (sym e)
        (none_fed (record { link = start; board = cs }) bytes buffer);
  }

  pub one_more_byte : (old now new : List X) (places bytes old_buffer : List ℕ) (start : Link) (n b : ℕ) (link new_link : Link) (buffer new_buffer : List ℕ) (before fed : Fed)
      → AreFedUpTo old now places bytes old_buffer start n link buffer before
      → drop n bytes ≡ b ∷ drop (n + 1) bytes → n < length bytes → length bytes ≤ length old_buffer
      → map kind_of new ≡ map kind_of now → ((k : ℕ) → IsAbsent k places → slice_get new k ≡ slice_get now k)
      → length new_buffer ≡ length buffer → fed.taken ≤ before.taken + 1 → fed.answered ≤ before.answered + 1
      → ((cs : List Card) → cards_at (map fitted now) places ≡ Some cs → HasFedByte (record { link = link; board = cs }) b buffer before new_link (cards_at (map fitted new) places) new_buffer fed)
      → AreFedUpTo old new places bytes old_buffer start (n + 1) new_link new_buffer fed
  one_more_byte old now new places bytes old_buffer start n b link new_link buffer new_buffer before fed h next lt enough kinds others room few small f = record {
    within = omega (arith, lt);
    few = omega (arith, few, h.few);
    small = omega (arith, small, h.small);
    room = room ∙ h.room;
    kinds = kinds ∙ h.kinds;
    others = λ k a. others k a ∙ h.others k a;
    still_fitted = some_still (cards_at (map fitted now) places) (cards_at (map fitted new) places) h.still_fitted (λ cs is. ((after_byte (record { link = link; board = cs }) b).board, (f cs is).board));
    ran = λ cs is. one_more (record { link = start; board = cs }) bytes old_buffer n b link new_link (cards_at (map fitted now) places) (cards_at (map fitted new) places) buffer new_buffer before fed
        next (omega (arith, lt, enough, h.small)) (h.ran cs is) f;
  }

  pub are_all_fed : (old new : List X) (places bytes old_buffer : List ℕ) (start : Link) (n : ℕ) (link : Link) (buffer : List ℕ) (fed : Fed)
      → AreFedUpTo old new places bytes old_buffer start n link buffer fed → length bytes ≤ n
      → (cs : List Card) → cards_at (map fitted old) places ≡ Some cs → HasFed (record { link = start; board = cs }) bytes old_buffer link (cards_at (map fitted new) places) buffer fed
  are_all_fed old new places bytes old_buffer start n link buffer fed h end cs is =
      all_fed (record { link = start; board = cs }) bytes old_buffer n link (cards_at (map fitted new) places) buffer fed end (h.ran cs is)
