-- On bytes that are put one after another. An impl names these, and it may name no file of proofs/.
use Rattle.std.proofs.Common.{ℕ, List, [], ◌++◌, sym, ap, ◌∙◌, append_assoc, Option}
use Rattle.std.proofs.lemmas.List.{append-nil}
use Rattle.std.specs.Prelude.{Result, Ok, Err}
use Rattle.std.proofs.lemmas.Bool.{false≢true}
use Rattle.tool_io.specs.declared.lines.Lines.{Lines}
use Rattle.tool_io.specs.declared.outside.Sink.{Ghosts as SinkOf}
use Rattle.tool_io.specs.Bytes.{then_bytes}
use Rattle.tool_io.specs.Lines as io
use Rattle.tool_io.proofs.BytesLemmas.{then_bytes-twice, then_bytes-nothing}
use Rattle.written_cable.specs.Papers.{Shown, Begins, Puts, PutsFront, HasPutLine, shown_of, has_failed, faults_of, IsLastOf}

-- nothing is put
pub puts_nothing : {K : Type 0} (shown : K → Shown) (lines : K) → Puts shown lines [] lines
puts_nothing shown lines = record {
  front = [];
  parts = append-nil (shown lines).waiting_bytes;
  went = sym (then_bytes-nothing (shown lines).told_bytes);
}

-- one text after another
pub put_then : {K : Type 0} {shown : K → Shown} {a b c : K} {xs ys : List ℕ} →
    Puts shown a xs b → Puts shown b ys c → Puts shown a (xs ++ ys) c
put_then {shown = shown} {a = a} {c = c} {xs = xs} {ys = ys} first second = record {
  front = first.front ++ second.front;
  parts = sym (append_assoc ((shown a).waiting_bytes) xs ys) ∙ ap (λ (v : List ℕ). v ++ ys) first.parts ∙ append_assoc first.front _ ys
      ∙ ap (λ (v : List ℕ). first.front ++ v) second.parts ∙ sym (append_assoc first.front second.front ((shown c).waiting_bytes));
  went = second.went ∙ ap (λ (v : Option (List ℕ)). then_bytes v second.front) first.went ∙ then_bytes-twice _ first.front second.front;
}

-- what is put is a front of itself
pub put_front : {K : Type 0} {shown : K → Shown} {a b : K} {xs : List ℕ} → Puts shown a xs b → PutsFront shown a xs b
put_front {shown = shown} {b = b} p = record {
  front = p.front;
  rest = (shown b).waiting_bytes;
  parts = p.parts;
  went = p.went;
  waits = λ h. record { more = []; is = sym (append-nil (shown b).waiting_bytes) };
}

-- and where the second fails
pub put_then_front : {K : Type 0} {shown : K → Shown} {a b c : K} {xs ys : List ℕ} →
    Puts shown a xs b → PutsFront shown b ys c → PutsFront shown a (xs ++ ys) c
put_then_front {shown = shown} {a = a} {xs = xs} {ys = ys} first second = record {
  front = first.front ++ second.front;
  rest = second.rest;
  parts = sym (append_assoc ((shown a).waiting_bytes) xs ys) ∙ ap (λ (v : List ℕ). v ++ ys) first.parts ∙ append_assoc first.front _ ys
      ∙ ap (λ (v : List ℕ). first.front ++ v) second.parts ∙ sym (append_assoc first.front second.front second.rest);
  went = second.went ∙ ap (λ (v : Option (List ℕ)). then_bytes v second.front) first.went ∙ then_bytes-twice _ first.front second.front;
  waits = second.waits;
}

begins_with : {bytes front : List ℕ} (more : List ℕ) → Begins bytes front → Begins (bytes ++ more) front
begins_with {front = front} more b = record {
  more = b.more ++ more;
  is = ap (λ (v : List ℕ). v ++ more) b.is ∙ append_assoc front b.more more;
}

-- more text that was to be put after
pub front_with : {K : Type 0} {shown : K → Shown} {a b : K} {xs : List ℕ} (more : List ℕ) →
    PutsFront shown a xs b → PutsFront shown a (xs ++ more) b
front_with {shown = shown} {a = a} {xs = xs} more m = record {
  front = m.front;
  rest = m.rest ++ more;
  parts = sym (append_assoc ((shown a).waiting_bytes) xs more) ∙ ap (λ (v : List ℕ). v ++ more) m.parts ∙ append_assoc m.front m.rest more;
  went = m.went;
  waits = λ h. begins_with more (m.waits h);
}

-- of lines
module _ {K : Type 0} (sink : SinkOf K) (a b : Lines K) (bytes : List ℕ) where
  pub puts_on : io.Puts sink a bytes b → Puts (shown_of sink.written) a bytes b
  puts_on p = record { front = p.front; parts = p.parts; went = p.went }

  pub puts_front_on : io.PutsBroken sink a bytes b → PutsFront (shown_of sink.written) a bytes b
  puts_front_on p = record {
    front = p.put.front;
    rest = p.put.rest;
    parts = p.put.parts;
    went = p.put.went;
    waits = λ whole. absurd (false≢true (sym whole ∙ p.broken));
  }

  -- what a call puts on lines, as what it puts on a paper
  pub text_on : {T E : Type 0} (r : Result T E) → io.HasPut sink a bytes b r →
      HasPutLine (shown_of sink.written) has_failed (faults_of sink.faults) (IsLastOf sink.is_last) a bytes b r
  text_on (Ok x) p = record { put = puts_on p; same = p.same_sink; whole = p.whole; kept = p.kept }
  text_on (Err e) p = record { front = puts_front_on p; same = p.put.same_sink; kept = p.put.kept; rose = p.put.rose }

  pub puts_back : io.IsOverSame a b → io.IsWhole b → io.SinkNeverFalls sink a b → Puts (shown_of sink.written) a bytes b → io.Puts sink a bytes b
  puts_back same whole kept p =
      record { front = p.front; parts = p.parts; went = p.went; same_sink = same; whole = whole; kept = kept }

  pub front_back : io.IsOverSame a b → io.SinkNeverFalls sink a b → io.SinkHasRisen sink a b → PutsFront (shown_of sink.written) a bytes b →
      io.PutsFront sink a bytes b
  front_back same kept rose p =
      record { front = p.front; rest = p.rest; parts = p.parts; went = p.went; same_sink = same; kept = kept; rose = rose }
