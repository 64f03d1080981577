-- On the token in front of some bytes.
use Rattle.std.proofs.Common.{◌≡◌, ◌≤◌, ◌<◌, ◌+◌, ◌-◌, ℕ, List, [], ◌∷◌, ◌++◌, length, take, drop, get_or, refl, sym, ap, ◌∙◌, Bool, true, false, ◌&&◌, ◌==◌, not, arith, subst, zero, suc, add-one, append-nil, append_assoc, nat_le, codes}
use Rattle.std.proofs.Math.ListN.{drop_of_length-le}
use Rattle.std.proofs.Math.Seq.{take-suc, take-length}
use Rattle.std.proofs.lemmas.Bool.{and_parts}
use Rattle.std.proofs.lemmas.Bool.Decides.{nat_tests}
use Rattle.std.proofs.lemmas.List.{drop-drop, length-drop, length-append}
use Rattle.std.specs.Char.{is_ascii_alphabetic}
use Rattle.stapl_lexer.specs.declared.token.TokenKind.{TokenKind}
use Rattle.stapl_lexer.specs.declared.token.TokenKind.TheVariants as kinds
use Rattle.stapl_lexer.specs.Names.{is_name_byte}
use Rattle.stapl_lexer.specs.Marks.{is_mark_spelling}
use Rattle.stapl_lexer.specs.ReservedWords.{spells_word}
use Rattle.stapl_lexer.specs.Cutting.{BeginsWithSegment}
use Rattle.stapl_lexer.specs.Segments.{Segment, Plain, Closed, Open, Comment, spelled, IsSegment, HasNone, ends_string}
use Rattle.stapl_lexer.specs.PieceTokens.{AreBlanks, HasNoDigit, SpacedDigits, AreFourDigits, is_closed}
use Rattle.stapl_lexer.specs.TokenReading.{IsRun, IsBlankFront, IsNumberFront, IsNextDigit, IsSpacedUpTo, IsSpacedFront, IsFront}
use Rattle.stapl_lexer.proofs.RunLemmas.{run_has}
use Rattle.stapl_lexer.proofs.PieceTokenLemmas.{clash, same_spaced, same_blanks}
use Rattle.stapl_lexer.proofs.SpellingLemmas.{no_zero_mark}
use Rattle.stapl_lexer.proofs.NumberLemmas.{passes_at}
use Rattle.stapl_lexer.proofs.NameLemmas.{letter_name}

-- words
letter_has : (bytes : List ℕ) → is_ascii_alphabetic (get_or bytes 0 0) ≡ true → 0 < length bytes
letter_has [] h = absurd cc
letter_has (b ∷ bs) h = omega arith

word_some : (bytes : List ℕ) (n : ℕ) → is_ascii_alphabetic (get_or bytes 0 0) ≡ true → IsRun is_name_byte bytes n → 0 < n
word_some bytes n letter run = run_has is_name_byte bytes n (letter_has bytes letter) (letter_name (get_or bytes 0 0) letter) run

get_or_at : (bytes : List ℕ) (n : ℕ) → get_or (drop n bytes) 0 0 ≡ get_or bytes n 0
get_or_at bytes zero = refl
get_or_at [] (suc n) = refl
get_or_at (b ∷ bs) (suc n) = get_or_at bs n

has_byte : (bytes : List ℕ) (n : ℕ) → 0 < get_or bytes n 0 → n < length bytes
has_byte [] n lt = absurd (omega arith)
has_byte (b ∷ bs) zero lt = omega arith
has_byte (b ∷ bs) (suc n) lt = let h = has_byte bs n lt in omega arith

pub plain_word : (bytes : List ℕ) (n : ℕ) → is_ascii_alphabetic (get_or bytes 0 0) ≡ true → IsRun is_name_byte bytes n →
    (spells_word (codes "CHR") (take n bytes) && get_or bytes n 0 == 36) ≡ false → IsFront kinds.Word bytes (record { good = true; len = n; value = 0 })
plain_word bytes n letter run plain = record {
  within = run.within;
  some = word_some bytes n letter run;
  spelled = (
    record {
      name = take n bytes;
      tail = [];
      parts = sym (append-nil (take n bytes));
      name_bytes = run.passes;
      ends = (run.stops, ap (λ (b : ℕ). spells_word (codes "CHR") (take n bytes) && b == 36) (get_or_at bytes n) ∙ plain);
    },
    refl,
  );
  value_is = refl;
}

dollar_is : (b : ℕ) → (b == 36) ≡ true → b ≡ 36
dollar_is b h = grind (arith, nat_tests, h)

pub dollar_word : (bytes : List ℕ) (n : ℕ) → is_ascii_alphabetic (get_or bytes 0 0) ≡ true → IsRun is_name_byte bytes n →
    (spells_word (codes "CHR") (take n bytes) && get_or bytes n 0 == 36) ≡ true → IsFront kinds.Word bytes (record { good = true; len = n + 1; value = 0 })
dollar_word bytes n letter run word =
    let parts = and_parts (spells_word (codes "CHR") (take n bytes)) (get_or bytes n 0 == 36) word in
    let dollar : get_or bytes n 0 ≡ 36 = dollar_is (get_or bytes n 0) parts.1 in
    let lt : n < length bytes = has_byte bytes n (omega arith) in
    record {
      within = omega arith;
      some = omega arith;
      spelled = (
        record {
          name = take n bytes;
          tail = 36 ∷ [];
          parts = ap (λ (k : ℕ). take k bytes) (add-one n) ∙ take-suc bytes n 0 lt ∙ ap (λ (b : ℕ). take n bytes ++ b ∷ []) dollar;
          name_bytes = run.passes;
          ends = (refl, parts.0);
        },
        refl,
      );
      value_is = refl;
    }

-- numbers
pub number_found : (bytes : List ℕ) (n value : ℕ) → IsNumberFront bytes n value →
    IsFront kinds.Number bytes (record { good = not (is_name_byte (get_or bytes n 0)); len = n; value = value })
number_found bytes n value front = record {
  within = front.within;
  some = front.some;
  spelled = (front.number, ap (λ (b : ℕ). not (is_name_byte b)) (sym (get_or_at bytes n)));
  value_is = front.value_is;
}

-- strings
get_or_front : (xs ys : List ℕ) (k : ℕ) → k < length xs → get_or (xs ++ ys) k 0 ≡ get_or xs k 0
get_or_front [] ys k lt = absurd (omega arith)
get_or_front (x ∷ xs) ys zero lt = refl
get_or_front (x ∷ xs) ys (suc k) lt = get_or_front xs ys k (omega arith)

at_seam : (xs ys : List ℕ) → get_or (xs ++ ys) (length xs) 0 ≡ get_or ys 0 0
at_seam [] ys = refl
at_seam (x ∷ xs) ys = at_seam xs ys

quote_fails : (b : ℕ) → not (ends_string b) ≡ true → (b == 34) ≡ false
quote_fails b h = grind (arith, nat_tests, h)

no_quote : (bs : List ℕ) (k : ℕ) → HasNone ends_string bs → k < length bs → (get_or bs k 0 == 34) ≡ false
no_quote bs k none lt = quote_fails (get_or bs k 0) (passes_at (λ b. not (ends_string b)) bs k none lt)

and_false : (b : Bool) → (b && false) ≡ false
and_false true = refl
and_false false = refl

head_differs : (bytes more : List ℕ) (a b : ℕ) → bytes ≡ a ∷ more → get_or bytes 0 0 ≡ b → a ≡ b
head_differs bytes more a b parts first = ap (λ (v : List ℕ). get_or v 0 0) (sym parts) ∙ first

-- a string is closed where it ends in a quote that is not its first byte
pub closed_by : (s : Segment) (bytes rest : List ℕ) (n : ℕ) → bytes ≡ spelled s ++ rest → length (spelled s) ≡ n → IsSegment s rest → get_or bytes 0 0 ≡ 34 →
    (nat_le 2 n && get_or bytes (n - 1) 0 == 34) ≡ is_closed s
closed_by (Plain b) bytes rest n parts len valid first = absurd (valid.0 (head_differs bytes rest b 34 parts first))
closed_by (Comment bs) bytes rest n parts len valid first = let c = head_differs bytes (bs ++ rest) 39 34 parts first in absurd (omega arith)
closed_by (Open []) bytes rest n parts len valid first = ap (λ (k : ℕ). nat_le 2 k && get_or bytes (k - 1) 0 == 34) (sym len)
closed_by (Open (b ∷ bs)) bytes rest n parts len valid first =
    let k : n - 1 ≡ suc (length bs) = omega arith in
    let last : (get_or bytes (n - 1) 0 == 34) ≡ false =
    ap (λ (j : ℕ). get_or bytes j 0 == 34) k ∙ ap (λ (v : List ℕ). get_or v (suc (length bs)) 0 == 34) parts
    ∙ ap (λ (q : ℕ). q == 34) (get_or_front (b ∷ bs) rest (length bs) (omega arith)) ∙ no_quote (b ∷ bs) (length bs) valid.0 (omega arith) in
    ap (λ (t : Bool). nat_le 2 n && t) last ∙ and_false (nat_le 2 n)
closed_by (Closed bs) bytes rest n parts len valid first =
    let count : length (bs ++ 34 ∷ []) ≡ suc (length bs) = omega (arith, length-append bs (34 ∷ [])) in
    let k : n ≡ suc (suc (length bs)) = omega arith in
    let last : get_or bytes (suc (length bs)) 0 ≡ 34 =
    ap (λ (v : List ℕ). get_or v (suc (length bs)) 0) parts ∙ ap (λ (v : List ℕ). get_or v (length bs) 0) (append_assoc bs (34 ∷ []) rest) ∙ at_seam bs (34 ∷ rest) in
    let at : n - 1 ≡ suc (length bs) = omega arith in
    ap (λ (j : ℕ). nat_le 2 n && get_or bytes j 0 == 34) at ∙ ap (λ (b : ℕ). nat_le 2 n && b == 34) last ∙ long n (omega arith)
  where
    long : (m : ℕ) → 2 ≤ m → (nat_le 2 m && true) ≡ true
    long m le = grind (arith, nat_tests)

pub take_front : (xs ys : List ℕ) → take (length xs) (xs ++ ys) ≡ xs
take_front [] ys = refl
take_front (x ∷ xs) ys = ap (λ (v : List ℕ). x ∷ v) (take_front xs ys)

segment_within : (bytes : List ℕ) (n : ℕ) → BeginsWithSegment bytes n → n ≤ length bytes
segment_within bytes n b =
    let parts = ap length b.parts in let len = b.len in omega (arith, length-append (spelled b.segment) (drop n bytes))

pub text_found : (bytes : List ℕ) (n : ℕ) → get_or bytes 0 0 ≡ 34 → 0 < n → BeginsWithSegment bytes n →
    IsFront kinds.Text bytes (record { good = nat_le 2 n && get_or bytes (n - 1) 0 == 34; len = n; value = 0 })
text_found bytes n quote some b = record {
  within = segment_within bytes n b;
  some = some;
  spelled = (
    b.segment,
    ap (take n) b.parts ∙ ap (λ (k : ℕ). take k (spelled b.segment ++ drop n bytes)) (sym b.len) ∙ take_front (spelled b.segment) (drop n bytes),
    b.valid,
    closed_by b.segment bytes (drop n bytes) n b.parts b.len b.valid quote,
  );
  value_is = refl;
}

-- literals
drop_at : (bytes : List ℕ) (n : ℕ) → n < length bytes → drop n bytes ≡ get_or bytes n 0 ∷ drop (n + 1) bytes
drop_at [] n lt = absurd (omega arith)
drop_at (b ∷ bs) zero lt = refl
drop_at (b ∷ bs) (suc n) lt =
    let e : suc (n + 1) ≡ suc n + 1 = omega arith in
    drop_at bs n (omega arith) ∙ ap (λ (k : ℕ). get_or bs n 0 ∷ drop k (b ∷ bs)) e

pub spaced_more : (kind : TokenKind) (bytes : List ℕ) (end count n : ℕ) → IsSpacedUpTo kind bytes end count → IsNextDigit kind (drop end bytes) n →
    IsSpacedUpTo kind bytes (end + (n + 1)) (count + 1)
spaced_more kind bytes end count n before next =
    let rest = drop end bytes in
    let d = get_or rest n 0 in
    let within = before.within in
    let next_within = next.within in
    let few = before.few in
    let count_is = before.count_is in
    let there : drop n rest ≡ d ∷ drop (end + (n + 1)) bytes = drop_at rest n next_within ∙ ap (λ (v : List ℕ). d ∷ v) (drop-drop (n + 1) end bytes) in
    record {
      within = omega (arith, next_within, length-drop end bytes);
      few = omega arith;
      digits = before.digits ++ d ∷ [];
      count_is = omega (arith, length-append before.digits (d ∷ []));
      forward = λ more after h.
          subst (λ (v : List ℕ). SpacedDigits kind bytes v after) (sym (append_assoc before.digits (d ∷ []) more))
          (before.forward (d ∷ more) after (drop (end + (n + 1)) bytes, subst (AreBlanks rest) there next.blank, next.digit, h));
    }

pub spaced_all : (kind : TokenKind) (bytes : List ℕ) (end count : ℕ) → IsSpacedUpTo kind bytes end count → HasNoDigit kind (drop end bytes) → IsSpacedFront kind bytes end count
spaced_all kind bytes end count before none = record {
  within = before.within;
  few = before.few;
  digits = before.digits;
  count_is = before.count_is;
  spaced = subst (λ (v : List ℕ). SpacedDigits kind bytes v (drop end bytes)) (append-nil before.digits) (before.forward [] (drop end bytes) (refl, none));
}

-- marks
pub double_mark : (bytes : List ℕ) → 0 < length bytes → is_mark_spelling (get_or bytes 0 0 ∷ get_or bytes 1 0 ∷ []) ≡ true →
    IsFront kinds.Mark bytes (record { good = true; len = 2; value = 0 })
double_mark [] some e = absurd (omega arith)
double_mark (a ∷ []) some e = absurd (clash (is_mark_spelling (a ∷ 0 ∷ [])) e (no_zero_mark a))
double_mark (a ∷ b ∷ bytes) some e = record { within = omega arith; some = omega arith; spelled = (e, sym e); value_is = refl }

-- after the word CRC
-- blanks that reach the end leave nothing
pub blank_reaches : (bytes : List ℕ) (n : ℕ) → n ≤ length bytes → IsBlankFront bytes n → AreBlanks bytes [] → n ≡ length bytes
blank_reaches bytes n within b blank =
    let none : [] ≡ drop n bytes = same_blanks bytes [] (drop n bytes) blank b.blank tt b.solid in
    omega (arith, ap length none, length-drop n bytes)

no_check : (bytes : List ℕ) (end count : ℕ) → IsSpacedFront kinds.Hex4 bytes end count → (count ≡ 4 → AreBlanks (drop end bytes) [] → ⊥) →
    (front rest : List ℕ) → bytes ≡ front ++ rest → AreFourDigits front rest → ⊥
no_check bytes end count found bad front rest e four =
    let m = same_spaced kinds.Hex4 bytes four.digits rest found.digits (drop end bytes) (subst (λ (v : List ℕ). SpacedDigits kinds.Hex4 v four.digits rest) (sym e) four.spaced) found.spaced in
    let lengths = ap length m.0 in
    let is_four = four.four in
    let count_is = found.count_is in
    bad (omega arith) (subst (λ (v : List ℕ). AreBlanks v []) m.1 four.ends)

pub check_missing : (bytes : List ℕ) (end count : ℕ) → 0 < length bytes → IsSpacedFront kinds.Hex4 bytes end count →
    (count ≡ 4 → AreBlanks (drop end bytes) [] → ⊥) → IsFront kinds.Hex4 bytes (record { good = false; len = length bytes; value = 0 })
check_missing bytes end count lt found bad =
    let whole : take (length bytes) bytes ≡ bytes = take-length bytes in
    record {
      within = omega arith;
      some = lt;
      spelled = (drop_of_length-le bytes (omega arith), λ front rest e four. no_check bytes end count found bad front rest (sym whole ∙ e) four);
      value_is = refl;
    }
