-- A statement of a program that scans stands in no DATA block, so it is a piece of the program as it plays.
use Rattle.std.proofs.Common.{◌≡◌, ℕ, Bool, true, false, List, slice_get, Option, Some, None, refl, sym, ap, ◌∙◌}
use Rattle.std.specs.Option.{option_map_or}
use Rattle.std.proofs.lemmas.Bool.{true≢false}
use Rattle.std.proofs.lemmas.Option.{same_Some}
use Rattle.stapl_syntax.specs.Trees.{BodyTree, scan, if_then, StmtTree}
use Rattle.stapl_syntax.specs.Rules.{Place, may_stand_inside, may_stand}
use Rattle.stapl_meaning.specs.Scopes.{plays, as_played, pieces_from}
use Rattle.stapl_meaning.proofs.Sound.{IsSound}
use Rattle.stapl_meaning.proofs.Blocks.{IsPieceOf, plays_at, idles, inside_no_data, place_at, stands_well, none_at, piece_at, own_piece}
use Rattle.scan_accounts.specs.MadeTurns.{does_scan, scans_at}

-- what is no declaration stands in a procedure
in_procedure : (p : Place) (label : Option (List ℕ)) → may_stand_inside p label false ≡ true → p.in_procedure ≡ true
in_procedure p None may = may
in_procedure p (Some name) may = may

-- as a statement that scans does
scan_in_procedure : (p : Place) (label : Option (List ℕ)) (body : BodyTree) → does_scan body ≡ true → may_stand p label body ≡ true →
    p.in_procedure ≡ true
scan_in_procedure p label (scan register count source to compare) scans may = in_procedure p label may
scan_in_procedure p label (if_then e body) scans may = in_procedure p label may
scan_in_procedure p label _ scans may = absurd (true≢false (sym scans))

-- it is no DATA
scan_plays : (body : BodyTree) → does_scan body ≡ true → plays None body ≡ true
scan_plays (scan register count source to compare) scans = refl
scan_plays (if_then e body) scans = refl
scan_plays _ scans = absurd (true≢false (sym scans))

module _ (program : List StmtTree) (sound : IsSound program) where
  -- whether the piece at a place scans is whether the statement there does
  pub scans_as_written : (i : ℕ) (st : StmtTree) → slice_get program i ≡ Some st →
      scans_at (as_played program) i ≡ does_scan st.body
  scans_as_written i st at = by (does_scan st.body) refl
    where
      by : (b : Bool) → does_scan st.body ≡ b → scans_at (as_played program) i ≡ does_scan st.body
      by true scans =
          let inside = scan_in_procedure (place_at program sound i) st.label st.body scans (stands_well program sound i st at) in
          let none = none_at program sound i st at (inside_no_data _ _ inside) in
          ap (λ o. option_map_or (λ (s : StmtTree). does_scan s.body) o false)
          (own_piece program sound i st at none (scan_plays st.body scans))
      by false scans = of (slice_get (pieces_from None program) i) refl
        where
          of : (o : Option StmtTree) → slice_get (pieces_from None program) i ≡ o →
              option_map_or (λ (s : StmtTree). does_scan s.body) o false ≡ does_scan st.body
          of None is = sym scans
          of (Some piece) there = from (piece_at program sound i piece there)
            where
              from : IsPieceOf program sound i piece → does_scan piece.body ≡ does_scan st.body
              from (plays_at own) = ap (λ (s : StmtTree). does_scan s.body) (same_Some piece st (sym own.at ∙ at))
              from (idles is closed) = ap (λ (s : StmtTree). does_scan s.body) is ∙ sym scans
