-- A program ends with its CRC or without one, and no block is open before that.
use Rattle.std.proofs.Common.{◌≡◌, ℕ, ◌+◌, ◌||◌, ◌&&◌, Bool, true, false, if◌then◌else◌, not, List, [], ◌∷◌, ◌++◌, length, map, take, Option, Some, None, is_some, slice_get, refl, sym, ap, subst}
use Rattle.std.proofs.Common.{◌∙◌, append-nil, append_assoc}
use Rattle.std.proofs.lemmas.Bool.{false≢true, true≢false, or_parts, and_parts, not-true}
use Rattle.stapl_syntax.specs.Trees.{BodyTree, note, action, procedure, data_block, crc, end_data, end_procedure, StmtTree}
use Rattle.stapl_syntax.specs.Names.{numbered_from, numbered, inside_next, inside_from, declaration}
use Rattle.stapl_syntax.specs.Rules.{Place, is_outside, may_stand_inside, may_stand, is_crc, any_body, in_data_block}
use Rattle.stapl_syntax.specs.Programs.{IsProgram}
use Rattle.stapl_meaning.specs.Scopes.{data_after, program_names, block_at}
use Rattle.stapl_meaning.proofs.Sound.{IsSound, sound}
use Rattle.stapl_meaning.proofs.Declared.{block_here}
use Rattle.stapl_meaning.proofs.Blocks.{data_from, IsAligned, none_open, aligned_next, place_at, stands_well, none_at}
use Rattle.carried_plays.specs.CarriedPrograms.{IsEnd, before_crc, from_crc}
use Rattle.carried_plays.proofs.CarriedNames.{EndsWell, split_at_crc}

pub take_some : (xs ys : List StmtTree) → take (length xs) (map Some (xs ++ ys)) ≡ map Some xs
take_some [] ys = refl
take_some (x ∷ xs) ys = ap (λ t. Some x ∷ t) (take_some xs ys)

take_front : (xs ys : List StmtTree) → take (length xs) (xs ++ ys) ≡ xs
take_front [] ys = refl
take_front (x ∷ xs) ys = ap (λ t. x ∷ t) (take_front xs ys)

pub at_front : (xs ys : List StmtTree) (st : StmtTree) → slice_get (xs ++ (st ∷ ys)) (length xs) ≡ Some st
at_front [] ys st = refl
at_front (x ∷ xs) ys st = at_front xs ys st

inside_one : (xs : List StmtTree) (st : StmtTree) (now : Option (List ℕ)) (n : ℕ)
    → inside_from now (numbered_from n (map Some (xs ++ (st ∷ [])))) ≡ inside_next (inside_from now (numbered_from n (map Some xs))) st.body
inside_one [] st now n = refl
inside_one (x ∷ xs) st now n = inside_one xs st (inside_next now x.body) (n + 1)

data_one : (xs : List StmtTree) (st : StmtTree) (now : Option (List ℕ)) → data_from now (xs ++ (st ∷ [])) ≡ data_after (data_from now xs) st.body
data_one [] st now = refl
data_one (x ∷ xs) st now = data_one xs st (data_after now x.body)

or_true : (b : Bool) → (b || true) ≡ true
or_true true = refl
or_true false = refl

crc_seen : (xs : List StmtTree) (st : StmtTree) (n : ℕ) → is_crc st.body ≡ true → any_body is_crc (numbered_from n (map Some (xs ++ (st ∷ [])))) ≡ true
crc_seen [] st n e = ap (λ b. b || false) e
crc_seen (x ∷ xs) st n e = ap (λ b. is_crc x.body || b) (crc_seen xs st (n + 1) e) ∙ or_true (is_crc x.body)

-- after a CRC nothing may stand
abbrev after_end : Bool → Bool → Place
after_end a b = record { in_procedure = false; in_data = false; after_action = a; after_block = b; after_crc = true }

no_inner : (p : Place) (label : Option (List ℕ)) (t : Bool) → p.in_procedure ≡ false → p.in_data ≡ false → may_stand_inside p label t ≡ false
no_inner p None true e f = ap (λ b. b || p.in_data) e ∙ f
no_inner p None false e f = e
no_inner p (Some name) true e f = e
no_inner p (Some name) false e f = e

nothing_stands : (a b : Bool) (label : Option (List ℕ)) (body : BodyTree) → may_stand (after_end a b) label body ≡ true → ⊥
nothing_stands true b label (note key text) h = true≢false (sym h)
nothing_stands false true label (note key text) h = true≢false (sym h)
nothing_stands false false label (note key text) h = true≢false (sym h)
nothing_stands a true label (action own text items) h = true≢false (sym h)
nothing_stands a false label (action own text items) h = true≢false (sym h)
nothing_stands a b label (procedure own uses) h = true≢false (sym h)
nothing_stands a b label (data_block own) h = true≢false (sym h)
nothing_stands a b label (crc n) h = true≢false (sym h)
nothing_stands a b label end_procedure h = true≢false (sym h)
nothing_stands a b label end_data h = true≢false (sym h)
nothing_stands a b label body h = true≢false (sym h ∙ no_inner (after_end a b) label (is_some (declaration body)) refl refl)

-- a CRC stands outside
crc_outside : (p : Place) (label : Option (List ℕ)) (body : BodyTree) → is_crc body ≡ true → may_stand p label body ≡ true → (p.in_procedure ≡ false) × (p.in_data ≡ false)
crc_outside p label (crc n) e may = or_parts p.in_procedure p.in_data (not-true (p.in_procedure || p.in_data) (and_parts (is_outside p) (not p.after_crc) may).0)
crc_outside p label _ e may = absurd (false≢true e)

none_inside : (o : Option (List ℕ)) (in_data : Bool) → in_data ≡ false → (is_some o && not in_data) ≡ false → o ≡ None
none_inside None in_data e f = refl
none_inside (Some block) in_data e f = absurd (true≢false (sym (ap not e) ∙ f))

no_block : (o : Option (List ℕ)) → is_some o ≡ false → o ≡ None
no_block None e = refl
no_block (Some block) e = absurd (true≢false e)

inside_crc : (now : Option (List ℕ)) (b : BodyTree) → is_crc b ≡ true → inside_next now b ≡ now
inside_crc now (crc n) e = refl
inside_crc now _ e = absurd (false≢true e)

-- the rest of a program begins with a CRC
abbrev BeginsWithCrc : List StmtTree → Type 0
BeginsWithCrc [] = Unit {0}
BeginsWithCrc (st ∷ rest) = is_crc st.body ≡ true

begins_with_crc : (xs : List StmtTree) → BeginsWithCrc (from_crc xs)
begins_with_crc [] = tt
begins_with_crc (x ∷ xs) = by (is_crc x.body) refl (begins_with_crc xs)
  where
    by : (b : Bool) → is_crc x.body ≡ b → BeginsWithCrc (from_crc xs) → BeginsWithCrc (if b then x ∷ xs else from_crc xs)
    by true e h = e
    by false e h = h

module _ (program : List StmtTree) (h : IsSound program) where
  -- a place up to which a program is these statements
  at_place : (xs ys : List StmtTree) → program ≡ xs ++ ys → block_at program (length xs) ≡ inside_from None (numbered_from 1 (map Some xs))
  at_place xs ys e = ap (λ ps. inside_from None (numbered_from 1 (take (length xs) (map Some ps)))) e ∙ ap (λ t. inside_from None (numbered_from 1 t)) (take_some xs ys)

  data_place : (xs ys : List StmtTree) → program ≡ xs ++ ys → data_from None (take (length xs) program) ≡ data_from None xs
  data_place xs ys e = ap (λ ps. data_from None (take (length xs) ps)) e ∙ ap (data_from None) (take_front xs ys)

  stands_at : (xs ys : List StmtTree) (st : StmtTree) → program ≡ xs ++ (st ∷ ys) → slice_get program (length xs) ≡ Some st
  stands_at xs ys st e = ap (λ ps. slice_get ps (length xs)) e ∙ at_front xs ys st

  -- a CRC in a program
  record HasEnd (xs : List StmtTree) : Type 0 where
    no_block : inside_from None (numbered_from 1 (map Some xs)) ≡ None
    no_data : data_from None xs ≡ None

  before_end : (xs ys : List StmtTree) (st : StmtTree) → program ≡ xs ++ (st ∷ ys) → is_crc st.body ≡ true → HasEnd xs
  before_end xs ys st e is =
      let m : ℕ = length xs in
      let at : slice_get program m ≡ Some st = stands_at xs ys st e in
      let p = crc_outside (place_at program h m) st.label st.body is (stands_well program h m st at) in
      let none : block_at program m ≡ None = none_inside (block_at program m) (in_data_block (program_names program) (block_at program m)) p.1 p.0 in
      record {
        no_block = sym (at_place xs (st ∷ ys) e) ∙ none;
        no_data = sym (data_place xs (st ∷ ys) e) ∙ none_at program h m st at p.1;
      }

  none_after : (xs ys : List StmtTree) (st x : StmtTree) → program ≡ xs ++ (st ∷ x ∷ ys) → is_crc st.body ≡ true → ⊥
  none_after xs ys st x e is =
      let zs : List StmtTree = xs ++ (st ∷ []) in
      let f : program ≡ zs ++ (x ∷ ys) = e ∙ sym (append_assoc xs (st ∷ []) (x ∷ ys)) in
      let m : ℕ = length zs in
      let at : slice_get program m ≡ Some x = stands_at zs ys x f in
      let p : Place = place_at program h m in
      let inside : block_at program m ≡ None =
      at_place zs (x ∷ ys) f ∙ inside_one xs st None 1 ∙ inside_crc (inside_from None (numbered_from 1 (map Some xs))) st.body is ∙ (before_end xs (x ∷ ys) st e is).no_block in
      let a : p.in_procedure ≡ false = ap (λ o. is_some o && not (in_data_block (program_names program) o)) inside in
      let d : p.in_data ≡ false = ap (in_data_block (program_names program)) inside in
      let seen : numbered (take m (map Some program)) ≡ numbered_from 1 (map Some zs) =
      ap (λ ps. numbered_from 1 (take m (map Some ps))) f ∙ ap (numbered_from 1) (take_some zs (x ∷ ys)) in
      let c : p.after_crc ≡ true = ap (any_body is_crc) seen ∙ crc_seen xs st 1 is in
      nothing_stands p.after_action p.after_block x.label x.body
      (subst (λ t. may_stand (record { in_procedure = false; in_data = false; after_action = p.after_action; after_block = p.after_block; after_crc = t }) x.label x.body ≡ true) c
      (subst (λ t. may_stand (record { in_procedure = false; in_data = t; after_action = p.after_action; after_block = p.after_block; after_crc = p.after_crc }) x.label x.body ≡ true) d
      (subst (λ t. may_stand (record { in_procedure = t; in_data = p.in_data; after_action = p.after_action; after_block = p.after_block; after_crc = p.after_crc }) x.label x.body ≡ true) a
      (stands_well program h m x at))))

  -- without a CRC
  aligned_up : (xs ys : List StmtTree) (front : List StmtTree) → program ≡ front ++ (xs ++ ys)
      → IsAligned (program_names program) (data_from None front) (inside_from None (numbered_from 1 (map Some front)))
      → IsAligned (program_names program) (data_from None (front ++ xs)) (inside_from None (numbered_from 1 (map Some (front ++ xs))))
  aligned_up [] ys front e al =
      subst (λ (fs : List StmtTree). IsAligned (program_names program) (data_from None fs) (inside_from None (numbered_from 1 (map Some fs)))) (sym (append-nil front)) al
  aligned_up (x ∷ xs) ys front e al =
      let m : ℕ = length front in
      let at : slice_get program m ≡ Some x = stands_at front (xs ++ ys) x e in
      let here : block_at program m ≡ inside_from None (numbered_from 1 (map Some front)) = at_place front (x ∷ (xs ++ ys)) e in
      let next : IsAligned (program_names program) (data_after (data_from None front) x.body) (inside_next (inside_from None (numbered_from 1 (map Some front))) x.body) =
      aligned_next (program_names program) (place_at program h m) (data_from None front) (inside_from None (numbered_from 1 (map Some front))) x.label x.body (1 + m)
      (ap (in_data_block (program_names program)) here) (ap (λ o. is_some o && not (in_data_block (program_names program) o)) here)
      (stands_well program h m x at) (block_here program h m x at) al in
      let more : IsAligned (program_names program) (data_from None (front ++ (x ∷ []))) (inside_from None (numbered_from 1 (map Some (front ++ (x ∷ []))))) =
      subst (λ o. IsAligned (program_names program) o (inside_from None (numbered_from 1 (map Some (front ++ (x ∷ [])))))) (sym (data_one front x None))
      (subst (IsAligned (program_names program) (data_after (data_from None front) x.body)) (sym (inside_one front x None 1)) next) in
      subst (λ (fs : List StmtTree). IsAligned (program_names program) (data_from None fs) (inside_from None (numbered_from 1 (map Some fs)))) (append_assoc front (x ∷ []) xs)
      (aligned_up xs ys (front ++ (x ∷ [])) (e ∙ sym (append_assoc front (x ∷ []) (xs ++ ys))) more)

  whole_end : HasEnd program
  whole_end =
      let e : program ≡ program ++ [] = sym (append-nil program) in
      let none : inside_from None (numbered_from 1 (map Some program)) ≡ None =
      sym (at_place program [] e) ∙ no_block (block_at program (length program)) h.closed in
      let al : IsAligned (program_names program) (data_from None program) (inside_from None (numbered_from 1 (map Some program))) = aligned_up program [] [] e refl in
      record {
        no_block = none;
        no_data = none_open (program_names program) (data_from None program) (inside_from None (numbered_from 1 (map Some program))) al (ap (in_data_block (program_names program)) none);
      }

  pub ends_well : EndsWell program
  ends_well = by (from_crc program) refl (begins_with_crc program)
    where
      build : (tail : List StmtTree) → from_crc program ≡ tail → IsEnd tail → HasEnd (before_crc program) → EndsWell program
      build tail e end k = record { end = subst IsEnd (sym e) end; no_block = k.no_block; no_data = k.no_data }

      by : (tail : List StmtTree) → from_crc program ≡ tail → BeginsWithCrc (from_crc program) → EndsWell program
      by [] e b =
          let f : program ≡ before_crc program = split_at_crc program ∙ ap (λ t. before_crc program ++ t) e ∙ append-nil (before_crc program) in
          build [] e tt (subst HasEnd f whole_end)
      by (st ∷ []) e b =
          let f : program ≡ before_crc program ++ (st ∷ []) = split_at_crc program ∙ ap (λ t. before_crc program ++ t) e in
          let is : is_crc st.body ≡ true = subst BeginsWithCrc e b in
          build (st ∷ []) e is (before_end (before_crc program) [] st f is)
      by (st ∷ x ∷ rest) e b =
          let f : program ≡ before_crc program ++ (st ∷ x ∷ rest) = split_at_crc program ∙ ap (λ t. before_crc program ++ t) e in
          absurd (none_after (before_crc program) rest st x f (subst BeginsWithCrc e b))

pub program_ends_well : (text : List ℕ) (program : List StmtTree) → IsProgram text program → EndsWell program
program_ends_well text program is = ends_well program (sound text program is)
