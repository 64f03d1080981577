-- On calls of `Lines`, one after another.
use Rattle.std.proofs.Common.{◌≡◌, ℕ, ◌+◌, ◌<◌, length, take, drop, get_or, add-one, List, [], ◌∷◌, ◌++◌, refl, sym, ap, ◌∙◌, append_assoc, Option, Result, Ok, Err, subst}
use Rattle.std.specs.Prelude.{IsErr}
use Rattle.std.specs.List.{flat_map}
use Rattle.std.proofs.Math.Seq.{take-suc}
use Rattle.std.proofs.lemmas.List.{append-nil, take-append-drop}
use Rattle.std.proofs.lemmas.Grind.{flat_map-append}
use Rattle.tool_io.specs.declared.lines.Lines.{Lines}
use Rattle.tool_io.specs.Bytes.{then_bytes, MovesFront}
use Rattle.tool_io.specs.Lines.{gathered, taken, IsWhole, IsOverSame, IsSinkUntouched, Puts, PutsFront, PutsBroken, HasPut}
use Rattle.tool_io.specs.declared.outside.Sink.{Ghosts as SinkOf}
use Rattle.tool_io.proofs.BytesLemmas.{then_bytes-twice, then_bytes-nothing}
use Rattle.tool_io.proofs.CauseLemmas.{kept_start, kept_then, rose_after}

-- the text of one item more
pub flat_map_more : {A : Type 0} (text : A → List ℕ) (items : List A) (i : ℕ) (d : A) → i < length items →
    flat_map text (take (i + 1) items) ≡ flat_map text (take i items) ++ text (get_or items i d)
flat_map_more text items i d lt =
    ap (λ (k : ℕ). flat_map text (take k items)) (add-one i) ∙ ap (flat_map text) (take-suc items i d lt)
    ∙ flat_map-append text (take i items) (get_or items i d ∷ [])
    ∙ ap (λ (v : List ℕ). flat_map text (take i items) ++ v) (append-nil (text (get_or items i d)))

-- the text of the first items and of the others
pub flat_map_split : {A : Type 0} (text : A → List ℕ) (items : List A) (i : ℕ) →
    flat_map text items ≡ flat_map text (take i items) ++ flat_map text (drop i items)
flat_map_split text items i =
    ap (flat_map text) (sym (take-append-drop i items)) ∙ flat_map-append text (take i items) (drop i items)

-- nothing is put
pub puts_nothing : {K : Type 0} (sink : SinkOf K) (lines : Lines K) → IsWhole lines → Puts sink lines [] lines
puts_nothing sink lines whole = record {
  front = [];
  parts = append-nil (gathered lines);
  went = sym (then_bytes-nothing (taken sink lines));
  same_sink = refl;
  whole = whole;
  kept = kept_start _ _;
}

-- one text after another
pub put_then : {K : Type 0} {sink : SinkOf K} {a b c : Lines K} {xs ys : List ℕ} →
    Puts sink a xs b → Puts sink b ys c → Puts sink a (xs ++ ys) c
put_then {a = a} {c = c} {xs = xs} {ys = ys} first second = record {
  front = first.front ++ second.front;
  parts = sym (append_assoc (gathered a) xs ys) ∙ ap (λ (v : List ℕ). v ++ ys) first.parts ∙ append_assoc first.front _ ys
      ∙ ap (λ (v : List ℕ). first.front ++ v) second.parts ∙ sym (append_assoc first.front second.front (gathered c));
  went = second.went ∙ ap (λ (v : Option (List ℕ)). then_bytes v second.front) first.went ∙ then_bytes-twice _ first.front second.front;
  same_sink = second.same_sink ∙ first.same_sink;
  whole = second.whole;
  kept = kept_then first.kept second.kept;
}

-- a text, and a front of the next one
pub then_front : {K : Type 0} {sink : SinkOf K} {a b c : Lines K} {xs ys : List ℕ} →
    Puts sink a xs b → PutsFront sink b ys c → PutsFront sink a (xs ++ ys) c
then_front {a = a} {xs = xs} {ys = ys} first second = record {
  front = first.front ++ second.front;
  rest = second.rest;
  parts = sym (append_assoc (gathered a) xs ys) ∙ ap (λ (v : List ℕ). v ++ ys) first.parts ∙ append_assoc first.front _ ys
      ∙ ap (λ (v : List ℕ). first.front ++ v) second.parts ∙ sym (append_assoc first.front second.front second.rest);
  went = second.went ∙ ap (λ (v : Option (List ℕ)). then_bytes v second.front) first.went ∙ then_bytes-twice _ first.front second.front;
  same_sink = second.same_sink ∙ first.same_sink;
  kept = kept_then first.kept second.kept;
  rose = rose_after first.kept second.rose;
}

-- more text that was to be put after
pub front_more : {K : Type 0} {sink : SinkOf K} {a b : Lines K} {xs : List ℕ} (more : List ℕ) →
    PutsFront sink a xs b → PutsFront sink a (xs ++ more) b
front_more {a = a} {xs = xs} more m = record {
  front = m.front;
  rest = m.rest ++ more;
  parts = sym (append_assoc (gathered a) xs more) ∙ ap (λ (v : List ℕ). v ++ more) m.parts ∙ append_assoc m.front m.rest more;
  went = m.went;
  same_sink = m.same_sink;
  kept = m.kept;
  rose = m.rose;
}

-- the same where the lines are broken
pub put_then_front : {K : Type 0} {sink : SinkOf K} {a b c : Lines K} {xs ys : List ℕ} →
    Puts sink a xs b → PutsBroken sink b ys c → PutsBroken sink a (xs ++ ys) c
put_then_front first second = record { put = then_front first second.put; broken = second.broken }

pub front_with : {K : Type 0} {sink : SinkOf K} {a b : Lines K} {xs : List ℕ} (more : List ℕ) →
    PutsBroken sink a xs b → PutsBroken sink a (xs ++ more) b
front_with more m = record { put = front_more more m.put; broken = m.broken }

-- more text that is gathered
pub puts_gathered : {K : Type 0} {sink : SinkOf K} {a b : Lines K} {xs : List ℕ} → IsWhole b → IsOverSame a b → IsSinkUntouched a b →
    gathered b ≡ gathered a ++ xs → Puts sink a xs b
puts_gathered {sink = sink} {a = a} {b = b} whole same_sink same more = record {
  front = [];
  parts = sym more;
  went = ap sink.written same ∙ sym (then_bytes-nothing (taken sink a));
  same_sink = same_sink;
  whole = whole;
  kept = rw same (kept_start _ _);
}

-- A part of the bytes is put, and the rest is still to be put.
pub record PutsPart {K : Type 0} (sink : SinkOf K) (old : Lines K) (bytes rest : List ℕ) (new : Lines K) : Type 0 where
  pub part : List ℕ
  pub parts : bytes ≡ part ++ rest
  pub puts : Puts sink old part new

-- the same text
pub puts_same : {K : Type 0} {sink : SinkOf K} {a b : Lines K} {xs ys : List ℕ} → xs ≡ ys → Puts sink a xs b → Puts sink a ys b
puts_same {sink = sink} {a = a} {b = b} e m = subst (λ (zs : List ℕ). Puts sink a zs b) e m

pub front_same : {K : Type 0} {sink : SinkOf K} {a b : Lines K} {xs ys : List ℕ} → xs ≡ ys → PutsBroken sink a xs b → PutsBroken sink a ys b
front_same {sink = sink} {a = a} {b = b} e m = subst (λ (zs : List ℕ). PutsBroken sink a zs b) e m

-- one item more of a list, each of which is put by one call
pub puts_item : {K A : Type 0} {sink : SinkOf K} {a b c : Lines K} (text : A → List ℕ) (items : List A) (i : ℕ) (d : A) →
    i < length items → Puts sink a (flat_map text (take i items)) b → Puts sink b (text (get_or items i d)) c →
    Puts sink a (flat_map text (take (i + 1) items)) c
puts_item text items i d lt first second = rw (flat_map_more text items i d lt) (put_then first second)

-- and where that call fails, as a front of the text of all items
pub puts_item_front : {K A : Type 0} {sink : SinkOf K} {a b c : Lines K} (text : A → List ℕ) (items : List A) (i : ℕ) (d : A) →
    i < length items → Puts sink a (flat_map text (take i items)) b → PutsBroken sink b (text (get_or items i d)) c →
    PutsBroken sink a (flat_map text items) c
puts_item_front text items i d lt first second =
    rw (flat_map_split text items (i + 1), flat_map_more text items i d lt)
    (front_with (flat_map text (drop (i + 1) items)) (put_then_front first second))

-- a call that puts nothing, as `finish`
pub puts_end : {K : Type 0} {sink : SinkOf K} {a b c : Lines K} {xs : List ℕ} → Puts sink a xs b → Puts sink b [] c → Puts sink a xs c
puts_end {xs = xs} first second = puts_same (append-nil xs) (put_then first second)

-- and where it fails
pub front_end : {K : Type 0} {sink : SinkOf K} {a b c : Lines K} {xs : List ℕ} → Puts sink a xs b → PutsBroken sink b [] c → PutsBroken sink a xs c
front_end {xs = xs} first second = front_same (append-nil xs) (put_then_front first second)

-- n bytes more
pub part_more : {K : Type 0} {sink : SinkOf K} {a b c : Lines K} {bytes rest : List ℕ} (n : ℕ) → PutsPart sink a bytes rest b →
    Puts sink b (take n rest) c → PutsPart sink a bytes (drop n rest) c
part_more {rest = rest} n first second = record {
  part = first.part ++ take n rest;
  parts = first.parts ∙ ap (λ (v : List ℕ). first.part ++ v) (sym (take-append-drop n rest)) ∙ sym (append_assoc first.part (take n rest) (drop n rest));
  puts = put_then first.puts second;
}

-- a call that puts nothing more fails
pub part_front : {K : Type 0} {sink : SinkOf K} {a b c : Lines K} {bytes rest : List ℕ} → PutsPart sink a bytes rest b → PutsBroken sink b [] c →
    PutsBroken sink a bytes c
part_front {rest = rest} first second = front_same (sym first.parts) (front_with rest (front_end first.puts second))

-- from a new value on, until nothing is gathered, in words of the sink alone
pub all_written : {K : Type 0} {sink : SinkOf K} {a b : Lines K} {xs : List ℕ} → gathered a ≡ [] → Puts sink a xs b → gathered b ≡ [] →
    taken sink b ≡ then_bytes (taken sink a) xs
all_written {sink = sink} {a = a} {xs = xs} empty m none =
    m.went
    ∙ ap (then_bytes (taken sink a)) (sym (ap (λ (v : List ℕ). v ++ xs) (sym empty) ∙ m.parts ∙ ap (λ (v : List ℕ). m.front ++ v) none ∙ append-nil m.front))

pub front_written : {K : Type 0} {sink : SinkOf K} {a b : Lines K} {xs : List ℕ} → gathered a ≡ [] →
    PutsFront sink a xs b → MovesFront (taken sink a) xs (taken sink b)
front_written {xs = xs} empty m = record {
  rest = m.rest;
  moves = record { front = m.front; parts = ap (λ (v : List ℕ). v ++ xs) (sym empty) ∙ m.parts; written = m.went };
}

-- at the exit of a `?`
pub put_failed : {K T E : Type 0} {sink : SinkOf K} {a b : Lines K} {xs : List ℕ} (r : Result T E) → IsErr r →
    PutsBroken sink a xs b → HasPut sink a xs b r
put_failed (Ok x) is front = absurd cc
put_failed (Err e) is front = front

-- one text, and after it what a last call put
pub put_then_put : {K T E : Type 0} {sink : SinkOf K} {a b : Lines K} {xs : List ℕ} (ys : List ℕ) (c : Lines K) (r : Result T E) →
    Puts sink a xs b → HasPut sink b ys c r → HasPut sink a (xs ++ ys) c r
put_then_put ys c (Ok x) first second = put_then first second
put_then_put ys c (Err e) first second = put_then_front first second
