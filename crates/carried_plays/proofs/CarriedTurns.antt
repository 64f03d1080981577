-- A turn of a program that has no statement of a padding does, in the state with the paddings of the base, what it does
-- without them: its scans have these paddings, and the state after it has them.
use Rattle.std.proofs.Common.{◌≡◌, ℕ, ◌<◌, Bool, false, List, [], ◌∷◌, ◌++◌, map, Option, Some, None, refl, sym, ◌∙◌}
use Rattle.std.proofs.lemmas.Bool.{true≢false}
use Rattle.stapl_syntax.specs.Trees.{BodyTree, pad, if_then}
use Rattle.tap_states.specs.declared.Tap.{Tap}
use Rattle.dev_card.specs.Padding.{BaseLengths, base_pre_of, base_post_of}
use Rattle.dev_card.specs.Scans.{BoardScan}
use Rattle.stapl_meaning.specs.Deeds.{Deed, Says, Goes, Stays, Scans}
use Rattle.stapl_meaning.specs.States.{State, Turned, turn_of_piece, next_chosen}
use Rattle.stapl_meaning.specs.Scopes.{Scope}
use Rattle.stapl_meaning.specs.Turns.{target, rows_done}
use Rattle.stapl_meaning.proofs.Walks as walks
use Rattle.carried_plays.specs.OwnPaddings.{sets_padding}
use Rattle.carried_plays.specs.CarriedRuns.{ones, padded_state}

-- settings without paddings, and a scan without paddings of the program
abbrev pub AreBare : (pre post : List Bool) → Type 0
AreBare pre post = (pre ≡ []) × (post ≡ [])

-- deeds of which none is a scan
abbrev pub HaveNoScan : List Deed → Type 0
HaveNoScan [] = Unit {0}
HaveNoScan (Says event ∷ ds) = HaveNoScan ds
HaveNoScan (Goes to ∷ ds) = HaveNoScan ds
HaveNoScan (Stays n ∷ ds) = HaveNoScan ds
HaveNoScan (Scans job ∷ ds) = ⊥

pub both_none : (xs ys : List Deed) → HaveNoScan xs → HaveNoScan ys → HaveNoScan (xs ++ ys)
both_none [] ys h k = k
both_none (Says event ∷ xs) ys h k = both_none xs ys h k
both_none (Goes to ∷ xs) ys h k = both_none xs ys h k
both_none (Stays n ∷ xs) ys h k = both_none xs ys h k
both_none (Scans job ∷ xs) ys h k = absurd h

pub moves_none : (states : List Tap) → HaveNoScan (map Goes states)
moves_none [] = tt
moves_none (t ∷ ts) = moves_none ts

-- all below a number
abbrev pub AreBelow : ℕ → List ℕ → Type 0
AreBelow count [] = Unit {0}
AreBelow count (p ∷ ps) = (p < count) × AreBelow count ps

-- the rule of the walk: settings without paddings become those of the base, and so do scans
abbrev carrying : BaseLengths → ℕ → walks.WalkRule
carrying base count = record walks.plain_rule {
  ir = λ x. record x { pre = ones base.ir_pre; post = ones base.ir_post };
  dr = λ x. record x { pre = ones base.dr_pre; post = ones base.dr_post };
  job = λ job. record job {
    paddings = record { base_pre = 0; pre = ones (base_pre_of job.ir base); post = ones (base_post_of job.ir base); base_post = 0 };
  };
  IrOk = λ x. AreBare x.pre x.post;
  DrOk = λ x. AreBare x.pre x.post;
  ChosenOk = AreBelow count;
  DeedsOk = HaveNoScan;
  JobOk = λ job. AreBare job.paddings.pre job.paddings.post;
  none_ok = tt;
  both_ok = both_none;
  says_ok = λ event e. tt;
  moves_ok = moves_none;
  cycles_ok = λ at end c e. tt;
  usec_ok = λ at end u. tt;
  wait_ok = λ at end c u e. tt;
  ir_stop = λ x t. refl;
  dr_stop = λ x t. refl;
  ir_stop_ok = λ x t e h. h;
  dr_stop_ok = λ x t e h. h;
  ir_job = λ x bits h. refl;
  dr_job = λ x bits h. refl;
  ir_job_ok = λ x bits h some. h;
  dr_job_ok = λ x bits h some. h;
  chosen_none = tt;
}

same_test : (b : BodyTree) → walks.sets_padding b ≡ sets_padding b
same_test (pad which size bits) = refl
same_test (if_then e body) = same_test body
same_test _ = refl

module _ (base : BaseLengths) (count : ℕ) where
  -- the state has no paddings, and its procedures are of these
  abbrev pub Fits : State → Type 0
  Fits s = walks.Fits (carrying base count) s

  -- the scan with the paddings of the base
  abbrev pub padded_scan : BoardScan → BoardScan
  padded_scan job = (carrying base count).job job

  abbrev pub padded_turned : Turned → Turned
  padded_turned t = walks.changed_turned (carrying base count) t

  abbrev pub KeptTurned : Turned → Type 0
  KeptTurned t = walks.KeptTurned (carrying base count) t

  abbrev pub SameTurned : Turned → Turned → Type 0
  SameTurned t u = walks.SameTurned (carrying base count) t u

  pub piece_same : (piece : ℕ) (t u : Turned) → SameTurned t u → SameTurned (turn_of_piece piece t) (turn_of_piece piece u)
  piece_same piece t u h = walks.piece_same (carrying base count) piece t u h

  -- the entries of these procedures are the same
  abbrev pub SameEntries : (ℕ → ℕ) → (ℕ → ℕ) → Type 0
  SameEntries old_entry new_entry = (p : ℕ) → p < count → new_entry p ≡ old_entry p

  pub chosen_same : (old_entry new_entry : ℕ → ℕ) → SameEntries old_entry new_entry → (s : State) → Fits s → (ps : List ℕ) → AreBelow count ps →
      SameTurned (next_chosen old_entry s ps) (next_chosen new_entry (padded_state base s) ps)
  chosen_same old_entry new_entry e s h ps b = walks.chosen_same (carrying base count) old_entry new_entry (λ p ps k. (e p k.0, k.1)) s h ps b

  module _ (scope other : Scope) (e : SameEntries scope.entry other.entry) where
    -- the other scope, with the variables and the next place of the first one
    abbrev pub second : Scope
    second = record other { look = scope.look; follow = scope.follow }

    -- each of these rows has no padding, and leads to the same place
    abbrev pub SameRows : List BodyTree → Type 0
    SameRows [] = Unit {0}
    SameRows (b ∷ bs) = (sets_padding b ≡ false) × (target second b ≡ target scope b) × SameRows bs

    same_target : (b : BodyTree) → target second b ≡ target scope b → target second b ≡ walks.changed_target (carrying base count) (target scope b)
    same_target b h = h ∙ by (target scope b)
      where
        by : (o : Option ℕ) → o ≡ walks.changed_target (carrying base count) o
        by None = refl
        by (Some to) = refl

    rows_of : (bs : List BodyTree) → SameRows bs → walks.SameRows (carrying base count) scope other (λ p ps k. (e p k.0, k.1)) bs
    rows_of [] r = tt
    rows_of (b ∷ bs) r = (λ t. absurd (true≢false (sym t ∙ same_test b ∙ r.0)), same_target b r.1, rows_of bs r.2)

    pub rows_same : (bs : List BodyTree) → SameRows bs → (s : State) → Fits s → SameTurned (rows_done scope bs s) (rows_done second bs (padded_state base s))
    rows_same bs r s h = walks.rows_same (carrying base count) scope other (λ p ps k. (e p k.0, k.1)) bs (rows_of bs r) s h
