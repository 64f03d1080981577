-- On what calls say that answer.
use Rattle.std.proofs.Common.{◌≡◌, ℕ, List, [], Option, Result, Ok, Err, ap, sym, ◌∙◌}
use Rattle.std.specs.Prelude.{IsErrAnd, IfOk}
use Rattle.tool_io.specs.declared.lines.Lines.{Lines}
use Rattle.tool_io.specs.Lines.{gathered, taken, IsSilent, Puts, PutsBroken}
use Rattle.tool_io.specs.declared.outside.Sink.{Ghosts as SinkOf}
use Rattle.tool_io.proofs.PutLemmas.{puts_end, front_end, all_written, front_written}
use Rattle.tool_frame.specs.declared.no_answer.NoAnswer.{NoAnswer}
use Rattle.tool_frame.specs.declared.no_answer.NoAnswer.TheVariants.{Read, Write, Memory}
use Rattle.tool_frame.specs.Answers.{Said, SaidFront, Says, Wrote, WroteFront, HasWritten}

pub on_ok : {T E : Type 0} {P Q : T → Type 0} (r : Result T E) → ((x : T) → P x → Q x) → IfOk r P → IfOk r Q
on_ok (Ok x) f p = f x p
on_ok (Err e) f p = tt

-- each answer of the one relation is one of the other
pub record IsWithin {S : Type 0} (A B : List ℕ → S → Type 0) : Type 0 where
  pub to : (text : List ℕ) (status : S) → A text status → B text status

pub said_within : {K S : Type 0} {sink : SinkOf K} {A B : List ℕ → S → Type 0} {old new : Lines K} {status : S} → IsWithin A B →
    Said sink A old new status → Said sink B old new status
said_within {status = status} w p = record { text = p.text; answer = w.to p.text status p.answer; puts = p.puts }

pub front_within : {K S : Type 0} {sink : SinkOf K} {A B : List ℕ → S → Type 0} {old new : Lines K} → IsWithin A B →
    SaidFront sink A old new → SaidFront sink B old new
front_within w p = record { text = p.text; status = p.status; answer = w.to p.text p.status p.answer; puts = p.puts }

pub wrote_within : {S : Type 0} {A B : List ℕ → S → Type 0} {before after : Option (List ℕ)} {status : S} → IsWithin A B → Wrote A before after status →
    Wrote B before after status
wrote_within {status = status} w p = record { text = p.text; answer = w.to p.text status p.answer; written = p.written }

pub front_within_written : {S : Type 0} {A B : List ℕ → S → Type 0} {before after : Option (List ℕ)} → IsWithin A B → WroteFront A before after → WroteFront B before after
front_within_written w p = record { text = p.text; status = p.status; answer = w.to p.text p.status p.answer; front = p.front }

-- the same answers under another name
pub says_within : {K S : Type 0} (sink : SinkOf K) (A B : List ℕ → S → Type 0) {R Q : Type 0} (old new : Lines K) (r : Result S NoAnswer) →
    IsWithin A B → (R → Q) → Says sink A R old new r → Says sink B Q old new r
says_within sink A B old new (Ok status) w read says = said_within w says
says_within sink A B old new (Err Read) w read says = read says
says_within sink A B old new (Err Write) w read says = front_within w says
says_within sink A B old new (Err Memory) w read says = says

-- A text was put, or a front of it.
pub said_text : {K S : Type 0} {sink : SinkOf K} {A : List ℕ → S → Type 0} {old new : Lines K} {status : S} (text : List ℕ) → A text status →
    Puts sink old text new → Said sink A old new status
said_text text a p = record { text = text; answer = a; puts = p }

pub said_front : {K S : Type 0} {sink : SinkOf K} {A : List ℕ → S → Type 0} {old new : Lines K} (text : List ℕ) (status : S) → A text status →
    PutsBroken sink old text new → SaidFront sink A old new
said_front text status a p = record { text = text; status = status; answer = a; puts = p.put }

-- a write fault at the exit of a `?`
pub says_failed : {K S : Type 0} (sink : SinkOf K) (A : List ℕ → S → Type 0) (R : Type 0) (old new : Lines K) (r : Result S NoAnswer) →
    IsErrAnd r (λ e. e ≡ Write) → SaidFront sink A old new → Says sink A R old new r
says_failed sink A R old new (Ok status) is front = absurd is
says_failed sink A R old new (Err e) is front = rw is front

-- and want of memory
pub says_no_memory : {K S : Type 0} (sink : SinkOf K) (A : List ℕ → S → Type 0) (R : Type 0) (old new : Lines K) (r : Result S NoAnswer) →
    IsErrAnd r (λ e. e ≡ Memory) → IsSilent old new → Says sink A R old new r
says_no_memory sink A R old new (Ok status) is same = absurd is
says_no_memory sink A R old new (Err e) is same = rw is same

-- From new lines on, in words of the sink alone. The lines were finished, or `finish` failed, or a call failed before it.
module _ {K S : Type 0} {sink : SinkOf K} {A : List ℕ → S → Type 0} {old : Lines K} {before : Option (List ℕ)} (empty : gathered old ≡ [])
    (first : before ≡ taken sink old) where
  pub wrote_all : {new done : Lines K} {status : S} {after : Option (List ℕ)} → after ≡ taken sink done → Said sink A old new status →
      Puts sink new [] done → gathered done ≡ [] → Wrote A before after status
  wrote_all last p f none = record { text = p.text; answer = p.answer; written = rw (first, last) (all_written empty (puts_end p.puts f) none) }

  pub unfinished : {new torn : Lines K} {status : S} {after : Option (List ℕ)} (r : Result S NoAnswer) → IsErrAnd r (λ e. e ≡ Write) →
      after ≡ taken sink torn → Said sink A old new status → PutsBroken sink new [] torn → HasWritten A before after r
  unfinished (Ok other) is last p f = absurd is
  unfinished {status = status} (Err e) is last p f =
      rw is (record { text = p.text; status = status; answer = p.answer; front = rw (first, last) (front_written empty (front_end p.puts f).put) })

-- no answer, whatever the cause
pub not_answered : {K S : Type 0} (sink : SinkOf K) (A : List ℕ → S → Type 0) {R : Type 0} (old new : Lines K) {before after : Option (List ℕ)} (e : NoAnswer)
    (r : Result S NoAnswer) → IsErrAnd r (λ x. x ≡ e) → gathered old ≡ [] → before ≡ taken sink old → after ≡ taken sink new →
    (R → IsSilent old new) → Says sink A R old new (Err e) → HasWritten A before after r
not_answered sink A old new e (Ok status) is empty first last same says = absurd is
not_answered sink A old new Read (Err x) is empty first last same says = rw is (last ∙ ap sink.written (same says).1 ∙ sym first)
not_answered sink A old new Write (Err x) is empty first last same says =
    rw is (record { text = says.text; status = says.status; answer = says.answer; front = rw (first, last) (front_written empty says.puts) })
not_answered sink A old new Memory (Err x) is empty first last same says = rw is (last ∙ ap sink.written says.1 ∙ sym first)
