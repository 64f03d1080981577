-- The words and the files have at most one answer.
use Rattle.std.proofs.Common.{◌≡◌, ℕ, List, Option, None, Some, refl, ap, subst, arith}
use Rattle.stapl_syntax.specs.Trees.{StmtTree}
use Rattle.stapl_checker.proofs.UniqueLemmas.{one_first_fault, no_fault, one_program}
use Rattle.dev_card.specs.declared.desc.Desc.{Desc}
use Rattle.board_text.specs.declared.reason.BoardReason.{BoardReason}
use Rattle.command_words.specs.declared.place_run.PlaceRun.{PlaceRun}
use Rattle.carried_plays.specs.OwnPaddings.{IsFirstPadding}
use Rattle.carried_plays.proofs.FirstPaddings.{no_first_padding, one_first_padding}
use Rattle.chain_rewrite.specs.Rewritten.{IsRewritten, BecomesTooLarge}
use Rattle.chain_rewrite.proofs.RewrittenLemmas.{one_rewritten}
use Rattle.named_files.specs.Texts.{refusal_line, board_refusal_line, usage_line}
use Rattle.named_files.proofs.BoardLemmas.{one_held, one_fault, board_or_fault}
use Rattle.named_files.specs.Contents.{Contents, contents_in}
use Rattle.rewrite_tool.specs.declared.status.RewriteStatus.{RewriteStatus}
use Rattle.rewrite_tool.specs.declared.status.RewriteStatus.TheVariants.{Done, Refused, BoardRefused, OwnPadding, Usage}
use Rattle.rewrite_tool.specs.Texts.{padding_line}
use Rattle.rewrite_tool.specs.Words.{Request}
use Rattle.rewrite_tool.specs.Answers.{run_base, ProgramAnswer, refused, bad_place, own_padding, too_large, rewritten, FileAnswer, RequestAnswer, board_refused, board_read, usage, asked, Answer}
use Rattle.rewrite_tool.proofs.WordLemmas.{one_request, one_usage, no_usage}

-- the text and the status of an answer
record Said : Type 0 where
  text : List ℕ
  status : RewriteStatus

abbrev said : List ℕ → RewriteStatus → Said
said text status = record { text = text; status = status }

module _ (devices : List Desc) (run : PlaceRun) (bytes : List ℕ) where
  -- the same program has one first padding, and none if it is rewritten or too large
  same_padding : (a b : List StmtTree) (n m : ℕ) → a ≡ b → IsFirstPadding a n → IsFirstPadding b m → n ≡ m
  same_padding a b n m e x y = one_first_padding b n m (subst (λ (p : List StmtTree). IsFirstPadding p n) e x) y

  padding_or_large : (a b : List StmtTree) (n : ℕ) → a ≡ b → IsFirstPadding a n → BecomesTooLarge (run_base devices run) b → ⊥
  padding_or_large a b n e x y = no_first_padding b n y.plain (subst (λ (p : List StmtTree). IsFirstPadding p n) e x)

  padding_or_text : (a b : List StmtTree) (n : ℕ) (text : List ℕ) → a ≡ b → IsFirstPadding a n → IsRewritten (run_base devices run) b text → ⊥
  padding_or_text a b n text e x y = no_first_padding b n y.plain (subst (λ (p : List StmtTree). IsFirstPadding p n) e x)

  large_or_text : (a b : List StmtTree) (text : List ℕ) → a ≡ b → BecomesTooLarge (run_base devices run) a → IsRewritten (run_base devices run) b text → ⊥
  large_or_text a b text e x y = y.small (subst (BecomesTooLarge (run_base devices run)) e x).large

  same_text : (a b : List StmtTree) (s t : List ℕ) → a ≡ b → IsRewritten (run_base devices run) a s → IsRewritten (run_base devices run) b t → s ≡ t
  same_text a b s t e x y = one_rewritten (run_base devices run) b s t (subst (λ (p : List StmtTree). IsRewritten (run_base devices run) p s) e x) y

  one_text : (a b : List ℕ) (s t : RewriteStatus) → ProgramAnswer devices run bytes a s → ProgramAnswer devices run bytes b t → said a s ≡ said b t
  one_text a b s t (refused p l r x) (refused q m u y) = let same = one_first_fault bytes p l q m r u x y in λ j. said (refusal_line (same.0 j) (same.1 j) (same.2 j)) (Refused (same.0 j) (same.2 j))
  one_text a b s t (refused p l r x) (bad_place program y lacks) = absurd (no_fault program y x)
  one_text a b s t (refused p l r x) (own_padding program piece y has first) = absurd (no_fault program y x)
  one_text a b s t (refused p l r x) (too_large program y has large) = absurd (no_fault program y x)
  one_text a b s t (refused p l r x) (rewritten program text y has is) = absurd (no_fault program y x)
  one_text a b s t (bad_place program y lacks) (refused p l r x) = absurd (no_fault program y x)
  one_text a b s t (bad_place program y lacks) (bad_place other z lacks2) = refl
  one_text a b s t (bad_place program y lacks) (own_padding other piece z has first) = absurd (omega (arith, lacks, has))
  one_text a b s t (bad_place program y lacks) (too_large other z has large) = absurd (omega (arith, lacks, has))
  one_text a b s t (bad_place program y lacks) (rewritten other text z has is) = absurd (omega (arith, lacks, has))
  one_text a b s t (own_padding program piece y has first) (refused p l r x) = absurd (no_fault program y x)
  one_text a b s t (own_padding program piece y has first) (bad_place other z lacks) = absurd (omega (arith, lacks, has))
  one_text a b s t (own_padding program n y has first) (own_padding other m z has2 first2) =
      ap (λ (k : ℕ). said (padding_line k) (OwnPadding k)) (same_padding program other n m (one_program bytes program other y z) first first2)
  one_text a b s t (own_padding program n y has first) (too_large other z has2 large) =
      absurd (padding_or_large program other n (one_program bytes program other y z) first large)
  one_text a b s t (own_padding program n y has first) (rewritten other text z has2 is) =
      absurd (padding_or_text program other n text (one_program bytes program other y z) first is)
  one_text a b s t (too_large program y has large) (refused p l r x) = absurd (no_fault program y x)
  one_text a b s t (too_large program y has large) (bad_place other z lacks) = absurd (omega (arith, lacks, has))
  one_text a b s t (too_large program y has large) (own_padding other m z has2 first) =
      absurd (padding_or_large other program m (one_program bytes other program z y) first large)
  one_text a b s t (too_large program y has large) (too_large other z has2 large2) = refl
  one_text a b s t (too_large program y has large) (rewritten other text z has2 is) =
      absurd (large_or_text program other text (one_program bytes program other y z) large is)
  one_text a b s t (rewritten program text y has is) (refused p l r x) = absurd (no_fault program y x)
  one_text a b s t (rewritten program text y has is) (bad_place other z lacks) = absurd (omega (arith, lacks, has))
  one_text a b s t (rewritten program text y has is) (own_padding other m z has2 first) =
      absurd (padding_or_text other program m text (one_program bytes other program z y) first is)
  one_text a b s t (rewritten program text y has is) (too_large other z has2 large) =
      absurd (large_or_text other program text (one_program bytes other program z y) large is)
  one_text a b s t (rewritten program text y has is) (rewritten other text2 z has2 is2) =
      ap (λ (v : List ℕ). said v Done) (same_text program other text text2 (one_program bytes program other y z) is is2)

one_file : (devices : List Desc) (run : PlaceRun) (held : Option (List ℕ)) (a b : List ℕ) (s t : RewriteStatus) → FileAnswer devices run held a s →
    FileAnswer devices run held b t → said a s ≡ said b t
one_file devices run None a b s t x y = absurd x
one_file devices run (Some bytes) a b s t x y = one_text devices run bytes a b s t x y

refused_same : (m n : ℕ) (r s : BoardReason) → (m ≡ n) × (r ≡ s) → said (board_refusal_line m r) (BoardRefused m r) ≡ said (board_refusal_line n s) (BoardRefused n s)
refused_same m n r s e = λ j. said (board_refusal_line (e.0 j) (e.1 j)) (BoardRefused (e.0 j) (e.1 j))

one_asked : (request : Request) (contents : Contents) (a b : List ℕ) (s t : RewriteStatus) → RequestAnswer request contents a s → RequestAnswer request contents b t →
    said a s ≡ said b t
one_asked request contents a b s t (board_refused m r x) (board_refused n q y) = refused_same m n r q (one_fault contents.board m n r q x y)
one_asked request contents a b s t (board_refused m r x) (board_read devices text status y z) =
    absurd (board_or_fault contents.board devices m r y x)
one_asked request contents a b s t (board_read devices text status x z) (board_refused n q y) =
    absurd (board_or_fault contents.board devices n q x y)
one_asked request contents a b s t (board_read devices text status x z) (board_read others text2 status2 y w) =
    one_file others request.run contents.file a b s t
    (subst (λ (ds : List Desc). FileAnswer ds request.run contents.file a s) (one_held contents.board devices others x y) z) w

one_said : (words : List (List ℕ)) (files : List (List ℕ × List ℕ)) (a b : List ℕ) (s t : RewriteStatus) → Answer words files a s → Answer words files b t → said a s ≡ said b t
one_said words files a b s t (usage n x) (usage m y) = ap (λ (k : ℕ). said (usage_line k) (Usage k)) (one_usage words n m x y)
one_said words files a b s t (usage n x) (asked request text status y z) = absurd (no_usage words request n y x)
one_said words files a b s t (asked request text status x z) (usage m y) = absurd (no_usage words request m x y)
one_said words files a b s t (asked request text status x z) (asked other text2 status2 y w) =
    one_asked other (contents_in files other.files) a b s t
    (subst (λ (n : Request). RequestAnswer n (contents_in files n.files) a s) (one_request words request other x y) z) w

pub one_words : (words : List (List ℕ)) (files : List (List ℕ × List ℕ)) (a b : List ℕ) (s t : RewriteStatus) → Answer words files a s → Answer words files b t →
    (a ≡ b) × (s ≡ t)
one_words words files a b s t x y = let same = one_said words files a b s t x y in (ap (λ (z : Said). z.text) same, ap (λ (z : Said). z.status) same)
