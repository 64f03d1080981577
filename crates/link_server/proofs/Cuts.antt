-- Streams that are cut, and where runs end.
use Rattle.std.proofs.Common.{◌≡◌, ◌+◌, ℕ, suc, List, [], ◌∷◌, ◌++◌, length, take, refl, sym, ap, ◌∙◌, Bool, true, false, ◌&&◌, cond, arith, append_assoc, inl, inr}
use Rattle.std.specs.Prelude.{◌⊎◌}
use Rattle.std.specs.List.{list_all}
use Rattle.std.proofs.lemmas.Bool.{false≢true}
use Rattle.link_server.specs.declared.link.LinkState.{LinkState}
use Rattle.link_server.specs.declared.link.LinkState.TheVariants as states
use Rattle.link_server.specs.declared.orders.Order.{Order}
use Rattle.link_server.specs.declared.orders.Order.TheVariants.{Set, Ask, Nothing, Quit, Refused}
use Rattle.link_server.specs.Orders.{order_of}
use Rattle.link_server.specs.Runs.{LinkAt, link_run, is_open, after_order, taken_by, after_byte, answer_to_byte, taken_at, link_after, answers_to, count_taken}
use Rattle.link_server.specs.Ends.{level_byte, goes_on, goes_on_after, EndsAt, IsAllTaken, IsQuitTaken, IsBadLeft}
use Rattle.link_server.proofs.FeedLemmas.{closed_after, closed_answers, closed_taken}

add_join : (a b c : ℕ) → a + (b + c) ≡ (a + b) + c
add_join a b c = omega arith

add_none : (a : ℕ) → 0 + a ≡ a
add_none a = omega arith

pub end_joined : (xs ys : List ℕ) (at : LinkAt) → link_after at (xs ++ ys) ≡ link_after (link_after at xs) ys
end_joined [] ys at = refl
end_joined (b ∷ xs) ys at = end_joined xs ys (after_byte at b)

pub answers_joined : (xs ys : List ℕ) (at : LinkAt) → answers_to at (xs ++ ys) ≡ answers_to at xs ++ answers_to (link_after at xs) ys
answers_joined [] ys at = refl
answers_joined (b ∷ xs) ys at =
    ap (λ (zs : List ℕ). answer_to_byte at b ++ zs) (answers_joined xs ys (after_byte at b))
    ∙ sym (append_assoc (answer_to_byte at b) (answers_to (after_byte at b) xs) (answers_to (link_after (after_byte at b) xs) ys))

pub taken_joined : (xs ys : List ℕ) (at : LinkAt) → count_taken at (xs ++ ys) ≡ count_taken at xs + count_taken (link_after at xs) ys
taken_joined [] ys at = sym (add_none (count_taken at ys))
taken_joined (b ∷ xs) ys at =
    ap (λ k. taken_at at b + k) (taken_joined xs ys (after_byte at b))
    ∙ add_join (taken_at at b) (count_taken (after_byte at b) xs) (count_taken (link_after (after_byte at b) xs) ys)

pub closed_run : (at : LinkAt) (bytes : List ℕ) → is_open at.link.state ≡ false → link_run at bytes ≡ record { end = at; answers = []; taken = 0 }
closed_run at bytes e =
    ap (λ (a : LinkAt). record { end = a; answers = answers_to at bytes; taken = count_taken at bytes }) (closed_after at bytes e)
    ∙ ap (λ (xs : List ℕ). record { end = at; answers = xs; taken = count_taken at bytes }) (closed_answers at bytes e)
    ∙ ap (λ k. record { end = at; answers = []; taken = k }) (closed_taken at bytes e)

-- ---- where a run ends

open_is : (s : LinkState) → is_open s ≡ true → s ≡ states.Open
open_is states.Open e = refl
open_is states.Quit e = absurd (false≢true e)
open_is states.Bad e = absurd (false≢true e)

-- what a byte of an open session does, by its meaning
record Goes (at : LinkAt) (b : ℕ) : Type 0 where
  fine : goes_on_after b ≡ true
  still_open : is_open (after_byte at b).link.state ≡ true
  one : taken_at at b ≡ 1

record Stops (order : Order) (state : LinkState) (count : ℕ) (at : LinkAt) (b : ℕ) : Type 0 where
  means : order_of b ≡ order
  ended : (after_byte at b).link.state ≡ state
  one : taken_at at b ≡ count

abbrev Does : LinkAt → ℕ → Type 0
Does at b = Goes at b ⊎ (Stops Quit states.Quit 1 at b ⊎ Stops Refused states.Bad 0 at b)

does_one : (at : LinkAt) (b : ℕ) → is_open at.link.state ≡ true → Does at b
does_one at b e = by (order_of b) refl
  where
    after : after_byte at b ≡ after_order at (order_of b)
    after = ap (λ t. cond t (after_order at (order_of b)) at) e

    count : taken_at at b ≡ taken_by (order_of b)
    count = ap (λ t. cond t (taken_by (order_of b)) 0) e

    state_of : LinkAt → LinkState
    state_of a = a.link.state

    by : (o : Order) → order_of b ≡ o → Does at b
    by (Set l) m = inl (record { fine = ap goes_on m; still_open = ap (λ a. is_open (state_of a)) (after ∙ ap (after_order at) m) ∙ e; one = count ∙ ap taken_by m })
    by Ask m = inl (record { fine = ap goes_on m; still_open = ap (λ a. is_open (state_of a)) (after ∙ ap (after_order at) m) ∙ e; one = count ∙ ap taken_by m })
    by Nothing m = inl (record { fine = ap goes_on m; still_open = ap (λ a. is_open (state_of a)) (after ∙ ap (after_order at) m) ∙ e; one = count ∙ ap taken_by m })
    by Quit m = inr (inl (record { means = m; ended = ap state_of (after ∙ ap (after_order at) m); one = count ∙ ap taken_by m }))
    by Refused m = inr (inr (record { means = m; ended = ap state_of (after ∙ ap (after_order at) m); one = count ∙ ap taken_by m }))

shut : (s state : LinkState) → s ≡ state → is_open state ≡ false → is_open s ≡ false
shut s state e h = ap is_open e ∙ h

one_more : (a b c : ℕ) → a ≡ 1 → b ≡ c → a + b ≡ suc c
one_more a b c e f = omega (arith, e, f)

one_less : (a b c : ℕ) → a ≡ 1 → b ≡ c + 1 → a + b ≡ suc c + 1
one_less a b c e f = omega (arith, e, f)

both : (a b c : ℕ) → a ≡ c → b ≡ 0 → a + b ≡ c
both a b c e f = omega (arith, e, f)

later : (order : Order) (bytes : List ℕ) (b n : ℕ) → goes_on_after b ≡ true → EndsAt order bytes n → EndsAt order (b ∷ bytes) (suc n)
later order bytes b n fine h = record {
  byte = h.byte;
  stands = h.stands;
  means = h.means;
  before = ap (λ t. t && list_all goes_on_after (take n bytes)) fine ∙ h.before;
}

pub levels_byte : (tck tms tdi : Bool) → order_of (level_byte tck tms tdi) ≡ Set (record { tck = tck; tms = tms; tdi = tdi })
levels_byte true true true = refl
levels_byte true true false = refl
levels_byte true false true = refl
levels_byte true false false = refl
levels_byte false true true = refl
levels_byte false true false = refl
levels_byte false false true = refl
levels_byte false false false = refl

pub how_it_ends : (bytes : List ℕ) (at : LinkAt) → is_open at.link.state ≡ true → IsAllTaken at bytes ⊎ (IsQuitTaken at bytes ⊎ IsBadLeft at bytes)
how_it_ends [] at e = inl (record { still_open = open_is at.link.state e; none = refl; taken = refl })
how_it_ends (b ∷ bytes) at e = by (does_one at b e) (λ fine. how_it_ends bytes (after_byte at b) fine)
  where
    further : (h : Goes at b) → IsAllTaken (after_byte at b) bytes ⊎ (IsQuitTaken (after_byte at b) bytes ⊎ IsBadLeft (after_byte at b) bytes)
        → IsAllTaken at (b ∷ bytes) ⊎ (IsQuitTaken at (b ∷ bytes) ⊎ IsBadLeft at (b ∷ bytes))
    further h (inl a) = inl (record {
      still_open = a.still_open;
      none = ap (λ t. t && list_all goes_on_after bytes) h.fine ∙ a.none;
      taken = one_more (taken_at at b) (count_taken (after_byte at b) bytes) (length bytes) h.one a.taken;
    })
    further h (inr (inl a)) = inr (inl (record {
      quit = a.quit;
      place = suc a.place;
      ends = later _ bytes b a.place h.fine a.ends;
      taken = one_less (taken_at at b) (count_taken (after_byte at b) bytes) a.place h.one a.taken;
    }))
    further h (inr (inr a)) = inr (inr (record {
      bad = a.bad;
      place = suc a.place;
      ends = later _ bytes b a.place h.fine a.ends;
      taken = one_more (taken_at at b) (count_taken (after_byte at b) bytes) a.place h.one a.taken;
    }))

    by : Does at b → (is_open (after_byte at b).link.state ≡ true → IsAllTaken (after_byte at b) bytes ⊎ (IsQuitTaken (after_byte at b) bytes ⊎ IsBadLeft (after_byte at b) bytes))
        → IsAllTaken at (b ∷ bytes) ⊎ (IsQuitTaken at (b ∷ bytes) ⊎ IsBadLeft at (b ∷ bytes))
    by (inl h) f = further h (f h.still_open)
    by (inr (inl h)) f =
        let closed : is_open (after_byte at b).link.state ≡ false = shut _ states.Quit h.ended refl in
        inr (inl (record {
          quit = ap (λ (a : LinkAt). a.link.state) (closed_after (after_byte at b) bytes closed) ∙ h.ended;
          place = 0;
          ends = record { byte = b; stands = refl; means = h.means; before = refl };
          taken = both (taken_at at b) (count_taken (after_byte at b) bytes) 1 h.one (closed_taken (after_byte at b) bytes closed);
        }))
    by (inr (inr h)) f =
        let closed : is_open (after_byte at b).link.state ≡ false = shut _ states.Bad h.ended refl in
        inr (inr (record {
          bad = ap (λ (a : LinkAt). a.link.state) (closed_after (after_byte at b) bytes closed) ∙ h.ended;
          place = 0;
          ends = record { byte = b; stands = refl; means = h.means; before = refl };
          taken = both (taken_at at b) (count_taken (after_byte at b) bytes) 0 h.one (closed_taken (after_byte at b) bytes closed);
        }))
