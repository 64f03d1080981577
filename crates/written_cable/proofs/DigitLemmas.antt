-- On the hexadecimal digits of bits.
use Rattle.std.proofs.Common.{◌≡◌, ◌≤◌, ℕ, ◌+◌, ◌-◌, ◌%◌, Bool, List, [], ◌++◌, length, take, drop, sym, ap, ◌∙◌, append_assoc, arith}
use Rattle.std.proofs.lemmas.List.{append-nil}
use Rattle.bit_list.specs.Hexadecimal.{all_hex_digits}
use Rattle.bit_list.proofs.HexDigits.{none_left, all_left}
use Rattle.tool_io.specs.declared.lines.Lines.{Lines}
use Rattle.tool_io.specs.declared.outside.Sink.{Ghosts as SinkOf}
use Rattle.tool_io.specs.Lines.{IsWhole, Puts, PutsBroken}
use Rattle.tool_io.proofs.PutLemmas.{put_then, put_then_front, puts_nothing, front_with}
use Rattle.written_cable.specs.HexTexts.{PutsDigits}

digits_more : (list : List Bool) (left at : ℕ) (part front whole : List ℕ) → all_hex_digits (take left list) ≡ part ++ all_hex_digits (take at list) →
    front ++ all_hex_digits (take left list) ≡ whole → (front ++ part) ++ all_hex_digits (take at list) ≡ whole
digits_more list left at part front whole e all =
    append_assoc front part (all_hex_digits (take at list)) ∙ ap (λ (l : List ℕ). front ++ l) (sym e) ∙ all

-- digits of words that are put one after another
module _ {K : Type 0} {sink : SinkOf K} (list : List Bool) where
  pub no_word : (lines : Lines K) (n : ℕ) → IsWhole lines → n ≡ length list → PutsDigits sink list (all_hex_digits list) lines n lines
  no_word lines n full e = record { front = []; put = puts_nothing sink lines full; rest = all_left n list e }

  pub word_more : {a b c : Lines K} {whole : List ℕ} (left at : ℕ) (part : List ℕ) → all_hex_digits (take left list) ≡ part ++ all_hex_digits (take at list) →
      PutsDigits sink list whole a left b → Puts sink b part c → PutsDigits sink list whole a at c
  word_more {whole = whole} left at part e first second = record {
    front = first.front ++ part;
    put = put_then first.put second;
    rest = digits_more list left at part first.front whole e first.rest;
  }

  pub word_front : {a b c : Lines K} {whole : List ℕ} (left at : ℕ) (part : List ℕ) → all_hex_digits (take left list) ≡ part ++ all_hex_digits (take at list) →
      PutsDigits sink list whole a left b → PutsBroken sink b part c → PutsBroken sink a whole c
  word_front {whole = whole} left at part e first second =
      rw (← digits_more list left at part first.front whole e first.rest) (front_with (all_hex_digits (take at list)) (put_then_front first.put second))

  pub digits_put : {a b : Lines K} {whole : List ℕ} (left : ℕ) → left ≤ 0 → PutsDigits sink list whole a left b → Puts sink a whole b
  digits_put left none done = rw (← done.rest, none_left left list none, append-nil done.front) done.put
