-- The first deed of a play that is not quiet.
use Rattle.std.proofs.Common.{◌≡◌, ◌<◌, ◌≤◌, ◌⊎◌, ℕ, zero, suc, ◌+◌, ◌-◌, Bool, false, List, [], ◌∷◌, ◌++◌, refl, sym, ap, subst, ◌∙◌, inl, inr, arith}
use Rattle.std.proofs.lemmas.Bool.{cases_order}
use Rattle.std.proofs.lemmas.List.{append-nil}
use Rattle.dev_card.specs.declared.desc.Desc.{Desc}
use Rattle.stapl_meaning.specs.Deeds.{Deed, Chain, deed_chain, deeds_chain}
use Rattle.stapl_meaning.specs.Scopes.{Played}
use Rattle.stapl_meaning.specs.Plays.{Outcome, Ended, Going, Stopped, procedures_run}
use Rattle.padded_plays.specs.QuietPlays.{IsQuietDeed, loaded_by_deed, AreQuietDeeds, loaded_by_deeds, deeds_of_play, first_chain, play_alone, IsQuietPlay}
use Rattle.padded_plays.proofs.QuietTurns.{quiet_parts}
use Rattle.padded_plays.specs.declared.unquiet.Unquiet.{Unquiet}
use Rattle.padded_plays.specs.Reasons.{IsReason, HasReason}
use Rattle.padded_plays.specs.FirstDeeds.{HasUnquiet, HasUnquietDeed, IsFirstUnquiet, at_the_beginning, in_a_turn, HasFirstUnquiet, AreSameDeed}
use Rattle.padded_plays.proofs.Reasoned.{no_reason, one_reason, deed_decided}
use Rattle.padded_plays.proofs.DeedsAdded.{deeds_after, deeds_then, play_added}

-- ---- lists of deeds

pub record SomeUnquiet (loaded : Bool) (k : Chain) (deeds : List Deed) : Type 0 where
  pub why : Unquiet
  pub is : HasUnquiet loaded k deeds why

-- the first deed itself, and one after it
pub unquiet_now : (loaded : Bool) (k : Chain) (d : Deed) (ds : List Deed) (why : Unquiet) → IsReason loaded k d why → HasUnquiet loaded k (d ∷ ds) why
unquiet_now loaded k d ds why r = record { front = []; deed = d; back = ds; whole = refl; quiet = tt; reason = r }

pub unquiet_later : (loaded : Bool) (k : Chain) (d : Deed) (ds : List Deed) (why : Unquiet) → IsQuietDeed loaded k d →
    HasUnquiet (loaded_by_deed loaded k d) (deed_chain k d) ds why → HasUnquiet loaded k (d ∷ ds) why
unquiet_later loaded k d ds why q h =
    record { front = d ∷ h.front; deed = h.deed; back = h.back; whole = ap (λ t. d ∷ t) h.whole; quiet = (q, h.quiet); reason = h.reason }

pub unquiet_more : (loaded : Bool) (k : Chain) (xs ys : List Deed) (why : Unquiet) → HasUnquiet loaded k xs why → HasUnquiet loaded k (xs ++ ys) why
unquiet_more loaded k xs ys why h =
    record { front = h.front; deed = h.deed; back = h.back ++ ys; whole = ap (λ t. t ++ ys) h.whole ∙ grouped h.front h.deed h.back ys; quiet = h.quiet; reason = h.reason }
  where
    grouped : (front : List Deed) (d : Deed) (back more : List Deed) → (front ++ (d ∷ back)) ++ more ≡ front ++ (d ∷ (back ++ more))
    grouped [] d back more = refl
    grouped (x ∷ front) d back more = ap (λ t. x ∷ t) (grouped front d back more)

pub deeds_decided : (loaded : Bool) (k : Chain) (ds : List Deed) → AreQuietDeeds loaded k ds ⊎ SomeUnquiet loaded k ds
deeds_decided loaded k [] = inl tt
deeds_decided loaded k (d ∷ ds) = by (deed_decided loaded k d) (deeds_decided (loaded_by_deed loaded k d) (deed_chain k d) ds)
  where
    by : IsQuietDeed loaded k d ⊎ HasReason loaded k d →
        AreQuietDeeds (loaded_by_deed loaded k d) (deed_chain k d) ds ⊎ SomeUnquiet (loaded_by_deed loaded k d) (deed_chain k d) ds →
        AreQuietDeeds loaded k (d ∷ ds) ⊎ SomeUnquiet loaded k (d ∷ ds)
    by (inr r) rest = inr (record { why = r.why; is = unquiet_now loaded k d ds r.why r.is })
    by (inl q) (inl qs) = inl (q, qs)
    by (inl q) (inr h) = inr (record { why = h.why; is = unquiet_later loaded k d ds h.why q h.is })

pub not_both : (loaded : Bool) (k : Chain) (ds : List Deed) (why : Unquiet) → AreQuietDeeds loaded k ds → HasUnquiet loaded k ds why → ⊥
not_both loaded k ds why q h =
    let parts = quiet_parts h.front (h.deed ∷ h.back) loaded k (subst (λ (t : List Deed). AreQuietDeeds loaded k t) h.whole q) in
    no_reason (loaded_by_deeds loaded k h.front) (deeds_chain k h.front) h.deed why parts.1.0 h.reason.holds

-- the first deed is not quiet, or it is and the first that is not comes after it
pub head_or_tail : (loaded : Bool) (k : Chain) (d : Deed) (ds : List Deed) (why : Unquiet) → HasUnquiet loaded k (d ∷ ds) why →
    IsReason loaded k d why ⊎ (IsQuietDeed loaded k d × HasUnquiet (loaded_by_deed loaded k d) (deed_chain k d) ds why)
head_or_tail loaded k d ds why h = by h.front h.deed h.back h.whole h.quiet h.reason
  where
    by : (front : List Deed) (deed : Deed) (back : List Deed) → d ∷ ds ≡ front ++ (deed ∷ back) → AreQuietDeeds loaded k front →
        IsReason (loaded_by_deeds loaded k front) (deeds_chain k front) deed why →
        IsReason loaded k d why ⊎ (IsQuietDeed loaded k d × HasUnquiet (loaded_by_deed loaded k d) (deed_chain k d) ds why)
    by [] deed back e q r =
        let same : deed ≡ d = cc in
        inl (subst (λ (x : Deed). IsReason loaded k x why) same r)
    by (x ∷ front) deed back e q r =
        let same : x ≡ d = cc in
        let rest : ds ≡ front ++ (deed ∷ back) = cc in
        inr (
          subst (λ (y : Deed). IsQuietDeed loaded k y) same q.0,
          subst (λ (y : Deed). HasUnquiet (loaded_by_deed loaded k y) (deed_chain k y) ds why) same
              (record { front = front; deed = deed; back = back; whole = rest; quiet = q.1; reason = r }),
        )

pub no_unquiet : (loaded : Bool) (k : Chain) (why : Unquiet) → HasUnquiet loaded k [] why → ⊥
no_unquiet loaded k why h = none h.front h.deed h.back h.whole
  where
    none : (front : List Deed) (d : Deed) (back : List Deed) → [] ≡ front ++ (d ∷ back) → ⊥
    none [] d back e = cc
    none (x ∷ front) d back e = cc

pub one_unquiet : (loaded : Bool) (k : Chain) (ds : List Deed) (why other : Unquiet) → HasUnquiet loaded k ds why → HasUnquiet loaded k ds other → why ≡ other
one_unquiet loaded k [] why other h g = absurd (no_unquiet loaded k why h)
one_unquiet loaded k (d ∷ ds) why other h g =
    by (head_or_tail loaded k d ds why h) (head_or_tail loaded k d ds other g)
    (λ p q. one_unquiet (loaded_by_deed loaded k d) (deed_chain k d) ds why other p q)
  where
    by : IsReason loaded k d why ⊎ (IsQuietDeed loaded k d × HasUnquiet (loaded_by_deed loaded k d) (deed_chain k d) ds why) →
        IsReason loaded k d other ⊎ (IsQuietDeed loaded k d × HasUnquiet (loaded_by_deed loaded k d) (deed_chain k d) ds other) →
        (HasUnquiet (loaded_by_deed loaded k d) (deed_chain k d) ds why → HasUnquiet (loaded_by_deed loaded k d) (deed_chain k d) ds other → why ≡ other) →
        why ≡ other
    by (inl r) (inl s) rest = one_reason loaded k d why other r s
    by (inl r) (inr q) rest = absurd (no_reason loaded k d why q.0 r.holds)
    by (inr q) (inl s) rest = absurd (no_reason loaded k d other q.0 s.holds)
    by (inr q) (inr p) rest = rest q.1 p.1

-- ---- plays

module _ (program : Played) (chosen : List ℕ) (run : List Desc) where
  abbrev deeds_for : ℕ → List Deed
  deeds_for n = deeds_of_play program chosen n (first_chain run)

  abbrev quiet_for : ℕ → Type 0
  quiet_for n = IsQuietPlay program chosen n run

  -- quiet for more turns is quiet for fewer
  pub quiet_before : (n m : ℕ) → n ≤ m → IsQuietPlay program chosen m run → IsQuietPlay program chosen n run
  quiet_before n m h q =
      let k : Chain = first_chain run in
      let parts : m ≡ n + (m - n) = omega arith in
      (quiet_parts (deeds_for n) (deeds_then program (m - n) (procedures_run program chosen n k)) false k
      (subst (λ (ds : List Deed). AreQuietDeeds false k ds) (ap deeds_for parts ∙ play_added program chosen n (m - n) k) q)).0

  pub never_both : (n m : ℕ) (why : Unquiet) → n ≤ m → HasUnquietDeed program chosen n run why → IsQuietPlay program chosen m run → ⊥
  never_both n m why h u q = not_both false (first_chain run) (deeds_for n) why (quiet_before n m h q) u

  -- a play that is quiet, and not for a turn more, goes on at a piece
  pub record GoesOn (n : ℕ) : Type 0 where
    pub place : ℕ
    pub goes : (play_alone program chosen n run).outcome ≡ Going place

  pub goes_on_if : (n : ℕ) (why : Unquiet) → IsQuietPlay program chosen n run → HasUnquietDeed program chosen (suc n) run why → GoesOn n
  goes_on_if n why q u = by (procedures_run program chosen n (first_chain run)).outcome refl
    where
      -- no deed more
      still : deeds_then program 1 (procedures_run program chosen n (first_chain run)) ≡ [] → ⊥
      still none =
          let next : suc n ≡ n + 1 = omega arith in
          let same : deeds_for (suc n) ≡ deeds_for n =
          ap deeds_for next ∙ play_added program chosen n 1 (first_chain run) ∙ ap (λ t. deeds_for n ++ t) none ∙ append-nil (deeds_for n) in
          not_both false (first_chain run) (deeds_for n) why q (subst (λ (ds : List Deed). HasUnquiet false (first_chain run) ds why) same u)

      by : (o : Outcome) → (procedures_run program chosen n (first_chain run)).outcome ≡ o → GoesOn n
      by (Ended ending) e = absurd (still (ap (λ o. deeds_after program 1 o (procedures_run program chosen n (first_chain run)).state (procedures_run program chosen n (first_chain run)).chain) e))
      by (Going place) e = record { place = place; goes = e }
      by Stopped e = absurd (still (ap (λ o. deeds_after program 1 o (procedures_run program chosen n (first_chain run)).state (procedures_run program chosen n (first_chain run)).chain) e))

  pub first_or_quiet : (n : ℕ) → IsQuietPlay program chosen n run ⊎ HasFirstUnquiet program chosen n run
  first_or_quiet zero = by (deeds_decided false (first_chain run) (deeds_for zero))
    where
      by : AreQuietDeeds false (first_chain run) (deeds_for zero) ⊎ SomeUnquiet false (first_chain run) (deeds_for zero) →
          IsQuietPlay program chosen zero run ⊎ HasFirstUnquiet program chosen zero run
      by (inl q) = inl q
      by (inr u) = inr (record { turn = 0; piece = 0; why = u.why; first = at_the_beginning u.why u.is; within = omega arith })
  first_or_quiet (suc n) = by (first_or_quiet n) (deeds_decided false (first_chain run) (deeds_for (suc n)))
    where
      by : IsQuietPlay program chosen n run ⊎ HasFirstUnquiet program chosen n run →
          AreQuietDeeds false (first_chain run) (deeds_for (suc n)) ⊎ SomeUnquiet false (first_chain run) (deeds_for (suc n)) →
          IsQuietPlay program chosen (suc n) run ⊎ HasFirstUnquiet program chosen (suc n) run
      by (inr f) rest = inr (record { turn = f.turn; piece = f.piece; why = f.why; first = f.first; within = (let h = f.within in omega arith) })
      by (inl q) (inl qs) = inl qs
      by (inl q) (inr u) =
          let g : GoesOn n = goes_on_if n u.why q u.is in
          inr (record { turn = suc n; piece = g.place + 1; why = u.why; first = in_a_turn n g.place u.why q g.goes u.is; within = omega arith })

  pub fewer_are_quiet : (turn piece n : ℕ) (why : Unquiet) → IsFirstUnquiet program chosen run turn piece why → n < turn → IsQuietPlay program chosen n run
  fewer_are_quiet _ _ n _ (at_the_beginning why u) h = absurd (omega arith)
  fewer_are_quiet _ _ n _ (in_a_turn before place why q goes u) h = let most : n ≤ before = omega arith in quiet_before n before most q

  pub more_are_not : (turn piece n : ℕ) (why : Unquiet) → IsFirstUnquiet program chosen run turn piece why → turn ≤ n → IsQuietPlay program chosen n run → ⊥
  more_are_not _ _ n _ (at_the_beginning why u) h q = never_both 0 n why h u q
  more_are_not _ _ n _ (in_a_turn before place why r goes u) h q = never_both (suc before) n why h u q

  pub none_if_quiet : (n : ℕ) → IsQuietPlay program chosen n run → HasFirstUnquiet program chosen n run → ⊥
  none_if_quiet n q f = more_are_not f.turn f.piece n f.why f.first f.within q

  both_in_turns : (before place other_before other_place : ℕ) (why other : Unquiet) → IsQuietPlay program chosen before run →
      (play_alone program chosen before run).outcome ≡ Going place → HasUnquietDeed program chosen (suc before) run why →
      IsQuietPlay program chosen other_before run → (play_alone program chosen other_before run).outcome ≡ Going other_place →
      HasUnquietDeed program chosen (suc other_before) run other → AreSameDeed (suc before) (place + 1) why (suc other_before) (other_place + 1) other
  both_in_turns before place other_before other_place why other q goes u p others v = by (cases_order before other_before)
    where
      by : (before ≡ other_before) ⊎ ((before < other_before) ⊎ (other_before < before)) → AreSameDeed (suc before) (place + 1) why (suc other_before) (other_place + 1) other
      by (inl e) =
          let same : Going place ≡ Going other_place = sym goes ∙ ap (λ n. (play_alone program chosen n run).outcome) e ∙ others in
          let places : place ≡ other_place = cc in
          record {
            turns = ap (λ n. suc n) e;
            pieces = ap (λ n. n + 1) places;
            reasons = one_unquiet false (first_chain run) (deeds_for (suc other_before)) why other
                (subst (λ (n : ℕ). HasUnquietDeed program chosen (suc n) run why) e u) v;
          }
      by (inr (inl h)) = let below : suc before ≤ other_before = omega arith in absurd (never_both (suc before) other_before why below u p)
      by (inr (inr h)) = let below : suc other_before ≤ before = omega arith in absurd (never_both (suc other_before) before other below v q)

  pub one_first : (turn piece other_turn other_piece : ℕ) (why other : Unquiet) → IsFirstUnquiet program chosen run turn piece why →
      IsFirstUnquiet program chosen run other_turn other_piece other → AreSameDeed turn piece why other_turn other_piece other
  one_first _ _ _ _ _ _ (at_the_beginning why u) (at_the_beginning other v) =
      record { turns = refl; pieces = refl; reasons = one_unquiet false (first_chain run) (deeds_for 0) why other u v }
  one_first _ _ _ _ _ _ (at_the_beginning why u) (in_a_turn before place other q goes v) =
      let least : 0 ≤ before = omega arith in absurd (never_both 0 before why least u q)
  one_first _ _ _ _ _ _ (in_a_turn before place why q goes u) (at_the_beginning other v) =
      let least : 0 ≤ before = omega arith in absurd (never_both 0 before other least v q)
  one_first _ _ _ _ _ _ (in_a_turn before place why q goes u) (in_a_turn other_before other_place other p others v) =
      both_in_turns before place other_before other_place why other q goes u p others v
