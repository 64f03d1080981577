-- On words that ask why, and on the answer to them.
use Rattle.std.proofs.Common.{◌≡◌, ◌∙◌, ◌⊎◌, inl, inr, ℕ, Bool, true, false, not, ◌||◌, List, [], ◌∷◌, codes, map, Option, None, Some, Result, Ok, Err, refl, sym, ap, subst}
use Rattle.std.specs.Prelude.{IsErrOf, IfNone}
use Rattle.std.proofs.lemmas.Bool.{false≢true}
use Rattle.std.proofs.lemmas.Option.{none-some}
use Rattle.tool_frame.specs.declared.no_answer.NoAnswer.{NoAnswer}
use Rattle.tool_frame.specs.declared.no_answer.NoAnswer.TheVariants.{Read, Write, Memory}
use Rattle.play_words.specs.declared.status.Status.{Status}
use Rattle.play_words.specs.declared.status.Status.TheVariants.{Done, Usage}
use Rattle.play_words.specs.Statuses.{IsFault, ComesBeforeFitting}
use Rattle.play_tool.specs.TopCalls.{KeepsDevices}
use Rattle.play_tool.specs.FinalRacks.{AskForPlay}
use Rattle.tool_questions.specs.Questions.{ask_question}
use Rattle.why_tool.specs.Whys.{ask_why, WhyAnswer, no_command, of_command, CommandTold, word_refused, asked, Reads, cannot, did, Explains, KeepsKinds}
use Rattle.tool_command.specs.Commands.{are_of_tool, MayPlay, status_of}

-- Words that ask why are no question, and not the tool's.
pub why_no_question : {words rest : List (List ℕ)} → words ≡ codes "--why" ∷ rest → ask_question words ≡ true → ⊥
why_no_question {words = words} e q = false≢true (sym (ap ask_question e) ∙ q)

pub why_not_of_tool : {words rest : List (List ℕ)} → words ≡ codes "--why" ∷ rest → are_of_tool words ≡ true → ⊥
why_not_of_tool e t = false≢true (sym (ap are_of_tool e) ∙ t)

pub why_asks : {words rest : List (List ℕ)} → words ≡ codes "--why" ∷ rest → ask_why words ≡ true
why_asks e = ap ask_why e

not_of_tool : (q w : Bool) → q ≡ true → not (q || w) ≡ true → ⊥
not_of_tool q w e t = false≢true (sym (ap (λ b. not (b || w)) e) ∙ t)

-- A question is not the tool's.
pub question_not_of_tool : (words : List (List ℕ)) → ask_question words ≡ true → are_of_tool words ≡ true → ⊥
question_not_of_tool words q t = not_of_tool (ask_question words) (ask_why words) q t

abbrev tail_of : List (List ℕ) → List (List ℕ)
tail_of [] = []
tail_of (word ∷ words) = words

-- the words after the first are these
pub same_rest : {words rest others : List (List ℕ)} → words ≡ codes "--why" ∷ rest → words ≡ codes "--why" ∷ others → rest ≡ others
same_rest e f = ap tail_of (sym e ∙ f)

-- The answer to words that ask why has the status of no fault.

reads_status : {u : List ℕ → Type 0} {A : List ℕ → Status → Type 0} → ((said : List ℕ) (ending : Status) → A said ending → IsFault ending → ⊥) → {said : List ℕ} {ending : Status} →
    Reads u A said ending → IsFault ending → ⊥
reads_status none (cannot path rose t) p = subst IsFault t.done p
reads_status none {said = said} {ending = ending} (did a) p = none said ending a p

told_status : {u : List ℕ → Type 0} {words : List (List ℕ)} {contents : List (Option (List ℕ))} {said : List ℕ} {ending : Status} →
    CommandTold u words contents said ending → IsFault ending → ⊥
told_status (word_refused n refused t) p = subst IsFault t.done p
told_status (asked request asks r) p = reads_status (λ said ending e q. subst IsFault e.tells.done q) r p

pub why_status : (u : List ℕ → Type 0) (words : List (List ℕ)) (contents : List (Option (List ℕ))) (said : List ℕ) (ending : Status) →
    WhyAnswer u words contents said ending → IsFault ending → ⊥
why_status u words contents said ending (no_command asks usage) p = subst IsFault usage.status_is p
why_status u words contents said ending (of_command asks told) p = told_status told p

-- What is left of the rack.

early_kept : {D Kind : Type 0} {kind_of : D → Kind} {before after : List D} (r : Result Status NoAnswer) → (IsErrOf r Read → ⊥) → KeepsKinds kind_of before after r →
    ComesBeforeFitting (status_of r) → after ≡ before
early_kept (Ok status) read kept p = kept.early p
early_kept (Err Read) read kept p = absurd (read refl)
early_kept (Err Write) read kept p = absurd p
early_kept (Err Memory) read kept p = absurd p

pub why_rack : {D Kind : Type 0} {kind_of : D → Kind} {before after : List D} {words rest : List (List ℕ)} (r : Result Status NoAnswer) → words ≡ codes "--why" ∷ rest →
    (IsErrOf r Read → ⊥) → KeepsKinds kind_of before after r → KeepsDevices kind_of (MayPlay words) (status_of r) before after
why_rack r e read kept = record { early = early_kept r read kept; other = λ never. absurd (never (inr (why_asks e))); kinds = kept.kinds }

-- and of a play
pub play_rack : {D Kind : Type 0} {kind_of : D → Kind} {before after : List D} {words : List (List ℕ)} {status : Status} → KeepsDevices kind_of (AskForPlay words) status before after →
    KeepsDevices kind_of (MayPlay words) status before after
play_rack kept = record { early = kept.early; other = λ never. kept.other (λ playing. never (inl playing)); kinds = kept.kinds }

-- no words after a first one are given
pub none_after : {A : Type 0} {P : Type 0} (o : Option A) → o ≡ None → IfNone o P → P
none_after None e p = p
none_after (Some x) e p = absurd (none-some x (sym e))
