-- On names in upper case.
use Rattle.std.proofs.Common.{◌≡◌, ◌<◌, ◌≤◌, ◌+◌, ◌-◌, ℕ, List, [], ◌∷◌, ◌++◌, length, take, get_or, map, refl, sym, ap, ◌∙◌, true, false, Bool, ◌&&◌, nat_le, Option, Some, None, arith, slice_set, subst, add-one, suc, append_assoc}
use Rattle.std.proofs.lemmas.Bool.{and_parts, leb-true}
use Rattle.std.proofs.lemmas.Bool.Decides.{nat_tests}
use Rattle.std.proofs.lemmas.Grind.{common_steps}
use Rattle.std.proofs.Math.Seq.{take-suc, set-append_seam}
use Rattle.std.proofs.lemmas.List.{length-map, get_or-map, length-take-le}
use Rattle.std.proofs.lemmas.Str.Ascii.{uppercase-uppercase}
use Rattle.std.specs.Char.{to_ascii_uppercase, is_ascii_alphabetic, eq_ignore_ascii_case}
use Rattle.std.specs.List.{list_all}
use Rattle.std.specs.Prelude.{replicate, is_some, ◌↔◌}
use Rattle.std.specs.Str.{str_to_ascii_uppercase}
use Rattle.stapl_lexer.specs.declared.terminal.Terminal.{Terminal}
use Rattle.stapl_lexer.specs.ReservedWords.{reserved_words, spells_word, word_terminal, is_reserved_word}
use Rattle.stapl_lexer.specs.Terminals.{terminal_in}
use Rattle.stapl_lexer.specs.Names.{is_name_byte, is_name, IsUpperName, IsStored}

pub letter_name : (b : ℕ) → is_ascii_alphabetic b ≡ true → is_name_byte b ≡ true
letter_name b h = grind (arith, nat_tests, h)

-- one more byte of a name is stored
stored_more : (room name : List ℕ) (i b : ℕ) → i < length name → length name ≤ 32 → b ≡ get_or name i 0 →
    room ≡ take i name ++ replicate (32 - i) 0 → slice_set room i b ≡ take (i + 1) name ++ replicate (32 - (i + 1)) 0
stored_more room name i b lt short byte so_far =
    let front = take i name in
    let zeros : List ℕ = replicate (32 - (i + 1)) 0 in
    let fewer : 32 - i ≡ suc (32 - (i + 1)) = omega arith in
    let len : length front ≡ i = length-take-le i name (omega arith) in
    let more : take (i + 1) name ≡ front ++ b ∷ [] =
    ap (λ (k : ℕ). take k name) (add-one i) ∙ take-suc name i 0 lt ∙ ap (λ (q : ℕ). front ++ q ∷ []) (sym byte) in
    ap (λ (v : List ℕ). slice_set v i b) (so_far ∙ ap (λ (k : ℕ). front ++ replicate k 0) fewer)
    ∙ ap (λ (k : ℕ). slice_set (front ++ 0 ∷ zeros) k b) (sym len) ∙ set-append_seam front 0 zeros b
    ∙ sym (ap (λ (v : List ℕ). v ++ zeros) more ∙ append_assoc front (b ∷ []) zeros)

pub upper_more : (room bytes : List ℕ) (i b : ℕ) → i < length bytes → length bytes ≤ 32 → b ≡ to_ascii_uppercase (get_or bytes i 0) →
    room ≡ take i (str_to_ascii_uppercase bytes) ++ replicate (32 - i) 0 →
    slice_set room i b ≡ take (i + 1) (str_to_ascii_uppercase bytes) ++ replicate (32 - (i + 1)) 0
upper_more room bytes i b lt short byte so_far =
    let same : length (map to_ascii_uppercase bytes) ≡ length bytes = length-map bytes to_ascii_uppercase in
    stored_more room (map to_ascii_uppercase bytes) i b (omega arith) (omega arith)
    (byte ∙ sym (get_or-map to_ascii_uppercase bytes i 0 0 lt)) so_far

same_first : (b : ℕ) → is_ascii_alphabetic (to_ascii_uppercase b) ≡ is_ascii_alphabetic b
same_first b = grind (arith, nat_tests)

same_byte : (b : ℕ) → is_name_byte (to_ascii_uppercase b) ≡ is_name_byte b
same_byte b = grind (arith, nat_tests)

same_bytes : (bytes : List ℕ) → list_all is_name_byte (map to_ascii_uppercase bytes) ≡ list_all is_name_byte bytes
same_bytes [] = refl
same_bytes (b ∷ bs) =
    ap (λ (z : Bool). z && list_all is_name_byte (map to_ascii_uppercase bs)) (same_byte b) ∙ ap (λ (z : Bool). is_name_byte b && z) (same_bytes bs)

-- a spelling in upper case is a name if the spelling is
pub upper_is_name : (bytes : List ℕ) → is_name (str_to_ascii_uppercase bytes) ≡ is_name bytes
upper_is_name [] = refl
upper_is_name (b ∷ bs) =
    let long : length (map to_ascii_uppercase (b ∷ bs)) ≡ length (b ∷ bs) = length-map (b ∷ bs) to_ascii_uppercase in
    ap (λ (z : Bool). (z && list_all is_name_byte (map to_ascii_uppercase (b ∷ bs))) && nat_le (length (map to_ascii_uppercase (b ∷ bs))) 32) (same_first b)
    ∙ ap (λ (z : Bool). (is_ascii_alphabetic b && z) && nat_le (length (map to_ascii_uppercase (b ∷ bs))) 32) (same_bytes (b ∷ bs))
    ∙ ap (λ (z : ℕ). (is_ascii_alphabetic b && list_all is_name_byte (b ∷ bs)) && nat_le z 32) long

upper_upper : (bytes : List ℕ) → map to_ascii_uppercase (map to_ascii_uppercase bytes) ≡ map to_ascii_uppercase bytes
upper_upper [] = refl
upper_upper (b ∷ bs) = rw (uppercase-uppercase b) (ap (λ (v : List ℕ). to_ascii_uppercase b ∷ v) (upper_upper bs))

pub name_short : (bytes : List ℕ) → is_name bytes ≡ true → length bytes ≤ 32
name_short bytes e =
    leb-true (length bytes) 32 (and_parts (is_ascii_alphabetic (get_or bytes 0 0) && list_all is_name_byte bytes) _ e).1

-- a spelling in upper case is a name in upper case
pub upper_name : (bytes : List ℕ) → is_name bytes ≡ true → IsUpperName (str_to_ascii_uppercase bytes)
upper_name [] e = cc
upper_name (b ∷ bs) e =
    let same : length (map to_ascii_uppercase (b ∷ bs)) ≡ length (b ∷ bs) = length-map (b ∷ bs) to_ascii_uppercase in
    let short : length (b ∷ bs) ≤ 32 = name_short (b ∷ bs) e in
    record {
      spelled = upper_is_name (b ∷ bs) ∙ e;
      some = omega arith;
      short = omega arith;
      upper = upper_upper (b ∷ bs);
    }

-- what stands in front when all bytes are stored
pub stored_front : (room bytes : List ℕ) → room ≡ take (length bytes) (str_to_ascii_uppercase bytes) ++ replicate (32 - length bytes) 0 →
    take (length bytes) room ≡ str_to_ascii_uppercase bytes
stored_front room bytes e = grind (arith, common_steps, length-map bytes to_ascii_uppercase)

pub stored_name : (room bytes : List ℕ) → is_name bytes ≡ true →
    room ≡ take (length bytes) (str_to_ascii_uppercase bytes) ++ replicate (32 - length bytes) 0 → IsStored room (length bytes)
stored_name room bytes name e =
    let same : length (str_to_ascii_uppercase bytes) ≡ length bytes = length-map bytes to_ascii_uppercase in
    let front : take (length bytes) room ≡ str_to_ascii_uppercase bytes = stored_front room bytes e in
    record {
      within = sym (ap length front ∙ same);
      padded = grind (arith, common_steps, e, front, same);
      name = subst IsUpperName (sym front) (upper_name bytes name);
    }

-- words in either case
same_letter : (b k : ℕ) → eq_ignore_ascii_case (to_ascii_uppercase b) k ≡ eq_ignore_ascii_case b k
same_letter b k = grind (arith, nat_tests)

-- if letter case is ignored, upper case makes no difference
pub same_spelling : (word own : List ℕ) → spells_word word (str_to_ascii_uppercase own) ≡ spells_word word own
same_spelling [] [] = refl
same_spelling (c ∷ word) [] = refl
same_spelling [] (b ∷ own) = refl
same_spelling (c ∷ word) (b ∷ own) =
    ap (λ (z : Bool). z && spells_word word (str_to_ascii_uppercase own)) (same_letter b c)
    ∙ ap (λ (z : Bool). eq_ignore_ascii_case b c && z) (same_spelling word own)

-- a word in upper case is the same reserved word
pub upper_is_word : (own : List ℕ) → word_terminal (str_to_ascii_uppercase own) ≡ word_terminal own
unfolding word_terminal
upper_is_word own j = terminal_in (λ word. same_spelling word own j) reserved_words

none_if : (found : Option Terminal) → (found ≡ None) ↔ (is_some found ≡ false)
none_if None = (λ e. refl, λ e. refl)
none_if (Some terminal) = (λ e. absurd cc, λ e. absurd cc)

-- a word is no terminal exactly if it is not reserved in upper case
pub free_words : (own : List ℕ) → (word_terminal own ≡ None) ↔ (is_reserved_word (str_to_ascii_uppercase own) ≡ false)
free_words own =
    let same : is_some (word_terminal (str_to_ascii_uppercase own)) ≡ is_some (word_terminal own) = ap is_some (upper_is_word own) in
    (λ e. same ∙ (none_if (word_terminal own)).0 e, λ e. (none_if (word_terminal own)).1 (sym same ∙ e))
