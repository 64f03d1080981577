-- On what is said of how a play ended: one part after another.
use Rattle.std.proofs.Common.{◌≡◌, ◌∙◌, ℕ, Bool, pos, List, [], ◌++◌, map, codes, Option, None, Some, Result, Ok, Err, refl, sym, ap, subst}
use Rattle.std.specs.Prelude.{IsErrAnd, IsSomeAnd, IfSome}
use Rattle.std.specs.Option.{option_map}
use Rattle.std.proofs.lemmas.List.{append-nil}
use Rattle.tool_io.specs.declared.lines.Lines.{Lines}
use Rattle.tool_io.specs.declared.outside.Sink.{Ghosts as SinkOf}
use Rattle.tool_io.specs.Lines.{Puts, PutsBroken}
use Rattle.tool_io.proofs.PutLemmas.{put_then, then_front, front_more}
use Rattle.tool_frame.specs.declared.no_answer.NoAnswer.{NoAnswer}
use Rattle.tool_frame.specs.declared.no_answer.NoAnswer.TheVariants.{Read, Write, Memory}
use Rattle.tool_frame.specs.Answers.{Said, SaidFront, Says}
use Rattle.tool_frame.proofs.AnswerLemmas.{IsWithin}
use Rattle.stapl_syntax.specs.Trees.{StmtTree}
use Rattle.stapl_syntax.specs.Programs.{IsProgram}
use Rattle.stapl_syntax.specs.ProgramValues.{ProgramValue, trees_of}
use Rattle.stapl_meaning.specs.declared.events.RunFault.{RunFault}
use Rattle.stapl_meaning.specs.declared.events.Ending.{Ending}
use Rattle.stapl_meaning.specs.declared.events.Ending.TheVariants as endings
use Rattle.stapl_meaning.specs.Choices.{Choice}
use Rattle.stapl_meaning.specs.Plays.{Run}
use Rattle.dev_card.specs.declared.desc.Desc.{Desc}
use Rattle.board_text.specs.Boards.{IsBoard}
use Rattle.play_words.specs.declared.status.Status.{Status}
use Rattle.play_words.specs.declared.status.Status.TheVariants as statuses
use Rattle.play_words.specs.declared.requests.PlayRequest.{PlayRequest}
use Rattle.code_plays.specs.Plays.{done_with, Plays, no_action, bad_choice, bad_place, played}
use Rattle.play_tool.specs.declared.programs.Work.{Work}
use Rattle.play_tool.specs.declared.programs.Work.TheVariants.{Check, List as Lists, Compile}
use Rattle.play_tool.specs.Answers.{Works}
use Rattle.tool_questions.specs.BoardLines.{devices_line}
use Rattle.tool_questions.specs.Pieces.{PieceAnswer}
use Rattle.why_tool.specs.Texts.{said_of, misfit_line, misfit_text, fault_told}
use Rattle.why_tool.specs.Told.{Known, Shows, WithPart, IsPartPut, IsListOf, IsCountOf, IsPartOf, list_or_none, Tells, IsToldUnder, IsOutcome}

-- A part was put by an answer of its own, and then more.
module _ {K S T : Type 0} {sink : SinkOf K} {A : List ℕ → T → Type 0} {B : List ℕ → S → Type 0} (more : List ℕ) (end : S)
    (whole : (part : List ℕ) (t : T) → A part t → B (part ++ more) end) where
  pub part_said : {old mid new : Lines K} {t : T} → Said sink A old mid t → Puts sink mid more new → Said sink B old new end
  part_said {t = t} p q = record { text = p.text ++ more; answer = whole p.text t p.answer; puts = put_then p.puts q }

  pub part_front : {old mid new : Lines K} {t : T} → Said sink A old mid t → PutsBroken sink mid more new → SaidFront sink B old new
  part_front {t = t} p q = record { text = p.text ++ more; status = end; answer = whole p.text t p.answer; puts = then_front p.puts q.put }

-- and where that answer fails
pub part_failed : {K S T : Type 0} (sink : SinkOf K) (A : List ℕ → T → Type 0) (B : List ℕ → S → Type 0) (old new : Lines K) (more : List ℕ) (end : S) (e : NoAnswer)
    (r : Result S NoAnswer) → ((part : List ℕ) (t : T) → A part t → B (part ++ more) end) → IsErrAnd r (λ x. x ≡ e) → Says sink A ⊥ old new (Err e) → Says sink B ⊥ old new r
part_failed sink A B old new more end e (Ok s) whole is says = absurd is
part_failed sink A B old new more end Read (Err x) whole is says = absurd says
part_failed sink A B old new more end Write (Err x) whole is says =
    rw is (record { text = says.text ++ more; status = end; answer = whole says.text says.status says.answer; puts = front_more more says.puts })
part_failed sink A B old new more end Memory (Err x) whole is says = rw is says

-- what the table says, and then more
pub told_more : (front head more part : List ℕ) (ending : Status) → IsToldUnder front head [] part ending → IsToldUnder front head more (part ++ more) (statuses.Done (pos 0))
told_more front head more part ending t = record {
  said_is = ap (λ (xs : List ℕ). xs ++ more) (t.said_is ∙ append-nil (front ++ said_of head));
  done = refl;
}

-- of what is pointed to
pub text_of : {A B C : Type 0} (f : B → C) (g : A → B) (o : Option A) → option_map f (option_map g o) ≡ option_map (λ x. f (g x)) o
text_of f g None = refl
text_of f g (Some x) = refl

-- no part of a program that is none
pub no_part : {A : Type 0} (IsPart : List ℕ → List ℕ → Type 0) (f : A → List ℕ) (o : Option A) → o ≡ None → IsPartOf IsPart (option_map f o) []
no_part {A = A} IsPart f o e = subst (λ (x : Option A). IsPartOf IsPart (option_map f x) []) (sym e) refl

-- The list of the program, if there is one.
list_part : (text : Option (List ℕ)) (program : Option ProgramValue) → text ≡ option_map (λ p. p.text) program → IfSome program (λ p. IsProgram p.text (trees_of p)) →
    IsPartOf IsListOf text (list_or_none (option_map trees_of program))
list_part text None e is = subst (λ (t : Option (List ℕ)). IsPartOf IsListOf t []) (sym e) refl
list_part text (Some p) e is =
    subst (λ (t : Option (List ℕ)). IsPartOf IsListOf t (list_or_none (Some (trees_of p)))) (sym e) (record { program = trees_of p; is = is; said_is = refl })

-- What a name stands for is not there.
pub misfit_told : {A : Type 0} (name head : List ℕ) (text : Option (List ℕ)) (value : A → ProgramValue) (program : Option A) → head ≡ name ++ codes ", of the words:" →
    text ≡ option_map (λ p. p.text) (option_map value program) → IfSome (option_map value program) (λ p. IsProgram p.text (trees_of p)) → (said : List ℕ) →
    said ≡ misfit_line name ++ said_of head ++ list_or_none (option_map (λ x. trees_of (value x)) program) →
    WithPart (IsPartOf IsListOf text) (λ list. misfit_text name ++ list) said
misfit_told name head text value program h e is said s = record {
  part = list_or_none (option_map trees_of (option_map value program));
  is = list_part text (option_map value program) e is;
  said_is = s ∙ ap (λ (x : List ℕ). misfit_line name ++ said_of x ++ list_or_none (option_map (λ x. trees_of (value x)) program)) h
      ∙ ap (λ (o : Option (List StmtTree)). misfit_text name ++ list_or_none o) (sym (text_of trees_of value program));
}

-- The board lacks the place.
pub place_told : (board : Option (List ℕ)) (devices : List Desc) → IsSomeAnd board (λ text. IsBoard text devices) → (said : List ℕ) →
    said ≡ misfit_line (codes "place") ++ said_of (codes "place, of the words:") ++ devices_line devices →
    IsSomeAnd board (λ text. WithPart (IsCountOf text) (λ count. misfit_text (codes "place") ++ count) said)
place_told None devices is said s = is
place_told (Some text) devices is said s = record {
  part = devices_line devices;
  is = record { devices = devices; is = is; said_is = refl };
  said_is = s;
}

-- What is said of a fault, after its piece.
pub fault_after : (known : Known) (fault : RunFault) (piece : ℕ) (text : Option (List ℕ)) → known.program ≡ text → (part : List ℕ) (t : Unit {0}) →
    IsPartPut (IsPartOf (λ bytes. Shows (PieceAnswer bytes piece)) text) part t →
    Tells known (statuses.Fault fault piece) (part ++ fault_told fault piece) (statuses.Done (pos 0))
fault_after known fault piece text e part t is = record {
  told = record { part = part; is = subst (λ (o : Option (List ℕ)). IsPartOf (λ bytes. Shows (PieceAnswer bytes piece)) o part) (sym e) is; said_is = refl };
  done = refl;
}

-- The statuses of plays and of other work.

ending_outcome : (ending : Ending) → IsOutcome (done_with ending)
ending_outcome (endings.Exit code) = tt
ending_outcome (endings.Fault k piece) = tt
ending_outcome endings.Spent = tt

pub play_outcome : {choice : Choice} {placed : Bool} {plays : List ℕ → Run} {request : PlayRequest} {text : List ℕ} {status : Status} →
    Plays choice placed plays request text status → IsOutcome status
play_outcome (no_action e) = tt
play_outcome (bad_choice e) = tt
play_outcome (bad_place chosen e f) = tt
play_outcome (played chosen ending e f g) = ending_outcome ending

pub work_outcome : (work : Work) (bytes : List ℕ) (program : List StmtTree) (text : List ℕ) (status : Status) → Works work bytes program text status → status ≡ statuses.Done (pos 0)
work_outcome Check bytes program text status w = w.done
work_outcome Lists bytes program text status w = w.done
work_outcome Compile bytes program text status w = w.done
