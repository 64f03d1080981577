-- The words and the files have at most one answer.
use Rattle.std.proofs.Common.{Bool, ◌≡◌, ◌++◌, ℕ, pos, List, refl, sym, ap, ◌∙◌, subst, Option, None, Some}
use Rattle.std.proofs.lemmas.Option.{same_Some}
use Rattle.stapl_lexer.specs.declared.reason.Reason.{Reason}
use Rattle.stapl_syntax.specs.Trees.{StmtTree}
use Rattle.stapl_checker.proofs.UniqueLemmas.{one_first_fault, one_program, no_fault}
use Rattle.stapl_meaning.specs.declared.events.Ending.{Ending}
use Rattle.stapl_meaning.specs.Choices.{Choice}
use Rattle.stapl_meaning.specs.Plays.{Run, ending_of}
use Rattle.dev_card.specs.declared.desc.Desc.{Desc}
use Rattle.board_text.specs.declared.reason.BoardReason.{BoardReason}
use Rattle.play_words.specs.declared.requests.PlayRequest.{PlayRequest}
use Rattle.play_words.specs.declared.requests.Request.{Request}
use Rattle.play_words.specs.declared.requests.Request.TheVariants as requests
use Rattle.play_words.specs.declared.status.Status.{Status}
use Rattle.play_words.specs.declared.status.Status.TheVariants.{Done, Refused, BoardRefused, CodeRefused, Usage}
use Rattle.soak_texts.specs.Boards.{soak_board}
use Rattle.soak_texts.specs.Soak.{soak_program}
use Rattle.program_reports.specs.Checks.{IsCheckText}
use Rattle.program_reports.specs.Listings.{list_text}
use Rattle.play_tool.specs.Texts.{code_refusal_line}
use Rattle.stapl_code.specs.declared.raw.CodeLists.{CodeLists}
use Rattle.stapl_code.specs.Files.{file}
use Rattle.stapl_code.specs.declared.reason.CodeReason.{CodeReason}
use Rattle.code_files.proofs.FileFaults.{one_alone}
use Rattle.code_files.proofs.FileFaults as code_faults
use Rattle.play_tool.specs.declared.sources.Source.{Source}
use Rattle.play_tool.specs.declared.sources.Source.TheVariants.{Program, Code}
use Rattle.play_tool.specs.declared.programs.Work.{Work}
use Rattle.play_tool.specs.declared.programs.Work.TheVariants.{Check, List as Lists, Compile}
use Rattle.play_tool.specs.Answers.{IsDoneWith, Compiles, Works, TextAnswer, refused, accepted, code_refused, code_accepted, SourceAnswer, HeldAnswer, BoardAnswer, board_refused, board_read, PlayAnswer, WorkAnswer, soak_request, soak_head, SoakAnswer, RequestAnswer, WordsAnswer, Answer, usage, asked}
use Rattle.named_files.proofs.BoardLemmas.{one_held, one_fault, board_or_fault}
use Rattle.play_tool.proofs.AnswerLemmas.{request_of_words}
use Rattle.play_tool.proofs.OneChoice.{none_or_bad, none_or_chosen, bad_or_chosen, one_choice, has_or_lacks}
use Rattle.program_reports.proofs.CheckLemmas.{one_check_text}
use Rattle.play_tool.proofs.CodeLemmas.{same_code}
use Rattle.code_plays.specs.Plays.{done_with, asked_text, Plays, no_action, bad_choice, bad_place, played, PlaysCode}
use Rattle.named_files.specs.Texts.{refusal_line, board_refusal_line, usage_line}
use Rattle.play_words.proofs.OneRequest.{one_usage, no_usage}

-- a text and a status
pub record Said : Type 0 where
  pub text : List ℕ
  pub status : Status

abbrev said : List ℕ → Status → Said
said text status = record { text = text; status = status }

-- there is one answer of these at most
abbrev pub HasOne : (List ℕ → Status → Type 0) → Type 0
HasOne answers = (xs ys : List ℕ) (s t : Status) → answers xs s → answers ys t → said xs s ≡ said ys t

-- what a play says that ends so
abbrev said_of : (List ℕ → Run) → PlayRequest → List ℕ → Ending → Said
said_of plays request chosen ending = said (asked_text request (plays chosen).events (plays chosen).chain.far ending) (done_with ending)

same_play : (plays : List ℕ → Run) (request : PlayRequest) (a b : List ℕ) (e f : Ending) → a ≡ b → e ≡ f → said_of plays request a e ≡ said_of plays request b f
same_play plays request a b e f p q = rw (p, q) refl

one_ending : (plays : List ℕ → Run) (a b : List ℕ) (e f : Ending) → a ≡ b → ending_of (plays a).outcome ≡ Some e → ending_of (plays b).outcome ≡ Some f → e ≡ f
one_ending plays a b e f p x y = same_Some e f (sym x ∙ ap (λ (z : List ℕ). ending_of (plays z).outcome) p ∙ y)

-- a play gives one answer
one_play : {choice : Choice} {placed : Bool} {plays : List ℕ → Run} {request : PlayRequest} {xs ys : List ℕ} {s t : Status} → Plays choice placed plays request xs s →
    Plays choice placed plays request ys t → said xs s ≡ said ys t
one_play (no_action e) (no_action f) = refl
one_play (no_action e) (bad_choice f) = absurd (none_or_bad e f)
one_play (no_action e) (bad_place chosen f lacks) = absurd (none_or_chosen e f)
one_play (no_action e) (played chosen ending f is g) = absurd (none_or_chosen e f)
one_play (bad_choice e) (no_action f) = absurd (none_or_bad f e)
one_play (bad_choice e) (bad_choice f) = refl
one_play (bad_choice e) (bad_place chosen f lacks) = absurd (bad_or_chosen e f)
one_play (bad_choice e) (played chosen ending f is g) = absurd (bad_or_chosen e f)
one_play (bad_place chosen f lacks) (no_action e) = absurd (none_or_chosen e f)
one_play (bad_place chosen f lacks) (bad_choice e) = absurd (bad_or_chosen e f)
one_play (bad_place chosen f lacks) (bad_place other g also) = refl
one_play (bad_place chosen f lacks) (played other ending g is h) = absurd (has_or_lacks is lacks)
one_play (played chosen ending f is g) (no_action e) = absurd (none_or_chosen e f)
one_play (played chosen ending f is g) (bad_choice e) = absurd (bad_or_chosen e f)
one_play (played chosen ending f is g) (bad_place other h lacks) = absurd (has_or_lacks is lacks)
one_play {plays = plays} {request = request} (played chosen a f is g) (played other b h also k) =
    let same = one_choice f h in
    same_play plays request chosen other a b same (one_ending plays chosen other a b same g k)

same_done : {xs ys : List ℕ} {s t : Status} → xs ≡ ys → s ≡ Done (pos 0) → t ≡ Done (pos 0) → said xs s ≡ said ys t
same_done e f g = rw (e, f, g) refl

one_check : {bytes : List ℕ} {program : List StmtTree} {xs ys : List ℕ} {s t : Status} → IsDoneWith (IsCheckText bytes program) xs s → IsDoneWith (IsCheckText bytes program) ys t →
    said xs s ≡ said ys t
one_check a b = same_done (one_check_text a.said b.said) a.done b.done

one_list : (program : List StmtTree) {xs ys : List ℕ} {s t : Status} → IsDoneWith (λ text. text ≡ list_text program) xs s → IsDoneWith (λ text. text ≡ list_text program) ys t →
    said xs s ≡ said ys t
one_list program a b = same_done (a.said ∙ sym b.said) a.done b.done

one_compiled : {program : List StmtTree} {xs ys : List ℕ} {s t : Status} → Compiles program xs s → Compiles program ys t → said xs s ≡ said ys t
one_compiled a b = same_done (a.file.file ∙ ap file (a.of_program.lists ∙ sym b.of_program.lists) ∙ sym b.file.file) a.done b.done

-- each kind of work says one thing of a program
one_work : (work : Work) (bytes : List ℕ) (program : List StmtTree) → HasOne (Works work bytes program)
one_work Check bytes program xs ys s t a b = one_check a b
one_work Lists bytes program xs ys s t a b = one_list program a b
one_work Compile bytes program xs ys s t a b = one_compiled a b

same_refusal : (p l q m : ℕ) (r s : Reason) → p ≡ q → l ≡ m → r ≡ s → said (refusal_line p l r) (Refused p r) ≡ said (refusal_line q m s) (Refused q s)
same_refusal p l q m r s a b c = rw (a, b, c) refl

-- the bytes of a program give one answer
one_text : (answers : List StmtTree → List ℕ → Status → Type 0) (bytes : List ℕ) → ((program : List StmtTree) → HasOne (answers program)) → HasOne (TextAnswer answers bytes)
one_text answers bytes one xs ys s t (refused p l r f) (refused q m k g) =
    let e = one_first_fault bytes p l q m r k f g in same_refusal p l q m r k e.0 e.1 e.2
one_text answers bytes one xs ys s t (refused p l r f) (accepted program text status is w) = absurd (no_fault program is f)
one_text answers bytes one xs ys s t (accepted program text status is w) (refused p l r f) = absurd (no_fault program is f)
one_text answers bytes one xs ys s t (accepted program text status is w) (accepted other text' status' is' w') =
    one program text text' status status' w (subst (λ (z : List StmtTree). answers z text' status') (sym (one_program bytes program other is is')) w')

same_line : (n m : ℕ) → n ≡ m → said (usage_line n) (Usage n) ≡ said (usage_line m) (Usage m)
same_line n m e = rw e refl

same_code_line : (n m : ℕ) (r s : CodeReason) → n ≡ m → r ≡ s → said (code_refusal_line n r) (CodeRefused n r) ≡ said (code_refusal_line m s) (CodeRefused m s)
same_code_line n m r s e f = rw (e, f) refl

-- what is read after the board gives one answer
one_source : (source : Source) (request : PlayRequest) (devices : List Desc) (bytes : List ℕ) → HasOne (SourceAnswer source request devices bytes)
one_source Program request devices bytes xs ys s t a b = one_text _ bytes (λ program xs ys s t a b. one_play a b) xs ys s t a b
one_source Code request devices bytes xs ys s t (code_refused n r f) (code_refused m q g) = let e = one_alone bytes n m r q f g in same_code_line n m r q e.0 e.1
one_source Code request devices bytes xs ys s t (code_refused n r f) (code_accepted code text status is p) = absurd (code_faults.no_fault bytes code n r is f)
one_source Code request devices bytes xs ys s t (code_accepted code text status is p) (code_refused n r f) = absurd (code_faults.no_fault bytes code n r is f)
one_source Code request devices bytes xs ys s t (code_accepted code text status is p) (code_accepted other text2 status2 is2 p2) =
    one_play p (subst (λ (z : CodeLists). PlaysCode z request devices text2 status2) (same_code bytes other code is2 is) p2)

one_held_answer : (answers : List ℕ → List ℕ → Status → Type 0) (held : Option (List ℕ)) → ((bytes : List ℕ) → HasOne (answers bytes)) → HasOne (HeldAnswer answers held)
one_held_answer answers None one xs ys s t a b = absurd a
one_held_answer answers (Some bytes) one xs ys s t a b = one bytes xs ys s t a b

same_board_line : (n m : ℕ) (r s : BoardReason) → n ≡ m → r ≡ s → said (board_refusal_line n r) (BoardRefused n r) ≡ said (board_refusal_line m s) (BoardRefused m s)
same_board_line n m r s e f = rw (e, f) refl

-- a board is refused at one place, or has one list of devices
one_board_answer : (held : Option (List ℕ)) (answers : List Desc → List ℕ → Status → Type 0) → ((devices : List Desc) → HasOne (answers devices)) → HasOne (BoardAnswer held answers)
one_board_answer held answers one xs ys s t (board_refused n r f) (board_refused m q g) =
    let e = one_fault held n m r q f g in same_board_line n m r q e.0 e.1
one_board_answer held answers one xs ys s t (board_refused n r f) (board_read devices text status board a) = absurd (board_or_fault held devices n r board f)
one_board_answer held answers one xs ys s t (board_read devices text status board a) (board_refused n r f) = absurd (board_or_fault held devices n r board f)
one_board_answer held answers one xs ys s t (board_read devices text status board a) (board_read others text2 status2 other b) =
    one devices text text2 status status2 a (subst (λ (ds : List Desc). answers ds text2 status2) (one_held held others devices other board) b)

one_play_answer : (source : Source) (request : PlayRequest) (board held : Option (List ℕ)) → HasOne (PlayAnswer source request board held)
one_play_answer source request board held xs ys s t a b =
    one_board_answer board _ (λ devices. one_held_answer (SourceAnswer source request devices) held (one_source source request devices)) xs ys s t a b

one_work_answer : (work : Work) (held : Option (List ℕ)) → HasOne (WorkAnswer work held)
one_work_answer work held xs ys s t a b =
    one_held_answer (λ bytes. TextAnswer (Works work bytes) bytes) held (λ bytes. one_text (Works work bytes) bytes (one_work work bytes)) xs ys s t a b

same_text : (head a b : List ℕ) (s t : Status) → said a s ≡ said b t → said (head ++ a) s ≡ said (head ++ b) t
same_text head a b s t e = ap (λ (z : Said). said (head ++ z.text) z.status) e

same_said : (x y : List ℕ) (a b : List ℕ) (s t : Status) → x ≡ a → y ≡ b → said a s ≡ said b t → said x s ≡ said y t
same_said x y a b s t e f g = rw (e, f) g

one_soak : (seed : ℕ) → HasOne (SoakAnswer seed)
one_soak seed xs ys s t a b =
    same_said xs ys (soak_head seed ++ a.rest) (soak_head seed ++ b.rest) s t a.text_is b.text_is
    (same_text (soak_head seed) a.rest b.rest s t (one_play_answer Program (soak_request seed) (Some (soak_board seed)) (Some (soak_program seed)) a.rest b.rest s t a.play b.play))

one_request_answer : (request : Request) (contents : List (Option (List ℕ))) → HasOne (RequestAnswer request contents)
one_request_answer (requests.Play play) contents xs ys s t a b = one_play_answer Program play.request _ _ xs ys s t a b
one_request_answer (requests.Run play) contents xs ys s t a b = one_play_answer Code play.request _ _ xs ys s t a b
one_request_answer (requests.Check path) contents xs ys s t a b = one_work_answer Check _ xs ys s t a b
one_request_answer (requests.List path) contents xs ys s t a b = one_work_answer Lists _ xs ys s t a b
one_request_answer (requests.Compile path) contents xs ys s t a b = one_work_answer Compile _ xs ys s t a b
one_request_answer (requests.Soak seed) contents xs ys s t a b = one_soak seed xs ys s t a b

-- there is one answer
one_said : {words : List (List ℕ)} {contents_of : Request → List (Option (List ℕ))} {xs ys : List ℕ} {s t : Status} → WordsAnswer words contents_of xs s →
    WordsAnswer words contents_of ys t → said xs s ≡ said ys t
one_said (usage n u) (usage m v) = same_line n m (one_usage u v)
one_said (usage n u) (asked request text status asks a) = absurd (no_usage asks u)
one_said (asked request text status asks a) (usage n u) = absurd (no_usage asks u)
one_said {contents_of = contents_of} (asked request text status asks a) (asked other text2 status2 others b) =
    one_request_answer request (contents_of request) text text2 status status2 a
    ((request_of_words {contents_of = contents_of} asks).to text2 status2 (asked other text2 status2 others b))

pub one_answer_lem : (words : List (List ℕ)) (files : List (List ℕ × List ℕ)) (xs ys : List ℕ) (s t : Status) →
    Answer words files xs s → Answer words files ys t → (xs ≡ ys) × (s ≡ t)
one_answer_lem words files xs ys s t a b = let e = one_said a b in (ap (λ (z : Said). z.text) e, ap (λ (z : Said). z.status) e)
