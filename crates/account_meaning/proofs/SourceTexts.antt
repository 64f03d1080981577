-- The text of the turns of a code, as that of its program.
use Rattle.std.proofs.Common.{◌≡◌, ◌<◌, ◌≤◌, ◌^◌, ◌+◌, ◌⊎◌, inl, inr, ℕ, suc, Bool, false, List, [], ◌∷◌, ◌++◌, map, length, Option, Some, None, refl, sym, ap, ap₂, subst, ◌∙◌, arith}
use Rattle.std.specs.Prelude.{All, flat_map, slice_get}
use Rattle.std.specs.Option.{option_map_or}
use Rattle.std.proofs.lemmas.List.Elements.{All-head, All-tail}
use Rattle.std.proofs.lemmas.Option.{same_Some, slice_get_within, slice_get_past}
use Rattle.std.proofs.lemmas.Bool.{cases_lt}
use Rattle.dev_card.specs.Padding.{BaseLengths}
use Rattle.stapl_lexer.specs.declared.piece.Piece.{Piece}
use Rattle.stapl_lexer.specs.Pieces.{IsCut}
use Rattle.stapl_syntax.specs.Trees.{StmtTree}
use Rattle.stapl_syntax.specs.Programs.{line_of_index}
use Rattle.stapl_meaning.specs.Plays.{Run}
use Rattle.stapl_meaning.specs.Scopes.{Played, as_played}
use Rattle.stapl_meaning.specs.Texts.{events_text}
use Rattle.stapl_meaning.proofs.Blocks.{same_count}
use Rattle.stapl_code.specs.declared.raw.CodeLists.{CodeLists}
use Rattle.scan_accounts.specs.ShiftRuns.{ShiftRun, shift_runs}
use Rattle.scan_accounts.specs.MadeTurns.{MadeTurn, does_scan, scans_at, clocks_among}
use Rattle.scan_accounts.specs.Accounts.{Passage, passages_of, said_run}
use Rattle.scan_accounts.specs.AccountTexts.{CutText, run_line, passage_line, turn_lines}
use Rattle.account_lines.specs.declared.lines.TurnPlace.{TurnPlace}
use Rattle.account_lines.specs.RunLines.{turn_run_line}
use Rattle.account_plays.specs.RunTexts.{runs_text}
use Rattle.account_plays.specs.AccountedTurns.{turn_text}
use Rattle.account_plays.specs.AccountedRuns.{said_in, turns_text, IsNextCodeTurn, AreNextCodeTurns}
use Rattle.turn_table.specs.Tables.{turn_place, IsTurnTable}
use Rattle.account_meaning.specs.Tables.{TellsScans}

module _ (text : List ℕ) (program : List StmtTree) (pieces : List Piece) (table : List TurnPlace) (cut : IsCut text pieces) (is : IsTurnTable text program table) where
  -- the table tells whether each piece scans
  pub tells_scans : TellsScans (as_played program) table
  tells_scans i = by (cases_lt i (length program))
    where
      by : (i < length program) ⊎ (length program ≤ i) → (said_in table i).scans ≡ scans_at (as_played program) i
      by (inl h) =
          ap (λ (o : Option TurnPlace). (option_map_or (λ said. said) o (record { piece = i; line = 0; scans = false })).scans) (is.each pieces i cut h)
      by (inr h) =
          let none : slice_get table i ≡ None = slice_get_past table i (omega (arith, h, is.count)) in
          let count : length (as_played program).pieces ≡ length program = same_count None program in
          let no_piece : slice_get (as_played program).pieces i ≡ None = slice_get_past (as_played program).pieces i (omega (arith, h, count)) in
          ap (λ (o : Option TurnPlace). (option_map_or (λ said. said) o (record { piece = i; line = 0; scans = false })).scans) none
          ∙ sym (ap (λ (o : Option StmtTree). option_map_or (λ st. does_scan st.body) o false) no_piece)

  abbrev cut_text : CutText
  cut_text = record { text = text; pieces = pieces }

  -- the lines of a turn, those of its runs last
  abbrev late : BaseLengths → MadeTurn → List ℕ
  late base t = events_text false [] t.events ++ flat_map (passage_line cut_text) (passages_of base t)

  -- the lines of runs are those of what is said of them
  lines_of : (base : BaseLengths) (place : ℕ) (b : Bool) (said : TurnPlace) → said ≡ turn_place text pieces (as_played program) place → b ≡ said.scans →
      (runs : List ShiftRun) → runs_text said base runs
      ≡ flat_map (passage_line cut_text) (map (λ run. let p : Passage = record { place = place; scan = b; run = said_run base b run } in p) runs)
  lines_of base place b said e scans [] = refl
  lines_of base place b said e scans (run ∷ runs) =
      let scan : scans_at (as_played program) place ≡ b = sym (scans ∙ ap (λ (x : TurnPlace). x.scans) e) in
      ap₂ (λ (x y : List ℕ). x ++ y)
      (ap (λ (x : TurnPlace). turn_run_line x (said_run base x.scans run)) e
      ∙ ap (λ (c : Bool). run_line (place + 1) (line_of_index text pieces place) c (said_run base c run)) scan)
      (lines_of base place b said e scans runs)

  text_of_turn : (base : BaseLengths) (t : MadeTurn) (said : TurnPlace) → slice_get table t.place ≡ Some said → t.scans ≡ said.scans →
      turn_text (said_in table t.place) base t.from t.events ≡ late base t
  text_of_turn base t said there scans =
      let told : said_in table t.place ≡ said =
      ap (λ (o : Option TurnPlace). option_map_or (λ x. x) o (record { piece = t.place; line = 0; scans = false })) there in
      let within : t.place < length program = subst (λ n. t.place < n) is.count (slice_get_within table t.place said there) in
      let entry : said ≡ turn_place text pieces (as_played program) t.place = same_Some said _ (sym there ∙ is.each pieces t.place cut within) in
      ap (λ (x : TurnPlace). turn_text x base t.from t.events) told
      ∙ ap (λ (xs : List ℕ). events_text false [] t.events ++ xs) (lines_of base t.place t.scans said entry scans (shift_runs t.from (clocks_among t.events)))

  texts_late : (code : CodeLists) (base : BaseLengths) (runs : ℕ → Run) (ts : List MadeTurn) → AreNextCodeTurns code table runs ts →
      turns_text table base ts ≡ flat_map (late base) ts
  texts_late code base runs [] are = refl
  texts_late code base runs (t ∷ ts) are =
      ap₂ (λ (x y : List ℕ). x ++ y) (text_of_turn base t are.0.said are.0.in_table are.0.scans) (texts_late code base (λ m. runs (suc m)) ts are.1)

  -- where the lines of the runs may be put first, they are those of the account
  late_first : (base : BaseLengths) (ts : List MadeTurn) → All (λ (t : MadeTurn). turn_lines cut_text base t ≡ late base t) ts →
      flat_map (late base) ts ≡ flat_map (turn_lines cut_text base) ts
  late_first base [] all = refl
  late_first base (t ∷ ts) all =
      ap₂ (λ (x y : List ℕ). x ++ y) (sym (All-head (λ (t : MadeTurn). turn_lines cut_text base t ≡ late base t) t ts all))
      (late_first base ts (All-tail (λ (t : MadeTurn). turn_lines cut_text base t ≡ late base t) t ts all))

  pub texts_are : (code : CodeLists) (base : BaseLengths) (runs : ℕ → Run) (ts others : List MadeTurn) → ts ≡ others → AreNextCodeTurns code table runs ts →
      All (λ (t : MadeTurn). turn_lines cut_text base t ≡ late base t) others → turns_text table base ts ≡ flat_map (turn_lines cut_text base) others
  texts_are code base runs ts others same are order =
      texts_late code base runs ts are ∙ ap (flat_map (late base)) same ∙ late_first base others order
