-- On tokens that are read one after the other.
use Rattle.std.proofs.Common.{◌≡◌, ◌≢◌, ◌≤◌, ◌<◌, ◌+◌, ◌-◌, ℕ, pos, min, List, [], ◌∷◌, ◌++◌, length, take, drop, get_or, refl, sym, ap, ◌∙◌, Bool, true, false, ◌&&◌, ◌||◌, arith, subst, zero, suc, add-zero, append-nil, append_assoc, slice_range, slice_index, Option, None, nat_lt, nat_le, if◌then◌else◌, inl, inr}
use Rattle.std.proofs.lemmas.Bool.{cases_order}
use Rattle.std.proofs.lemmas.Bool.Decides.{nat_tests}
use Rattle.std.proofs.lemmas.List.{map-append, get_or-drop}
use Rattle.std.proofs.lemmas.List.Elements.{All-push}
use Rattle.std.proofs.lemmas.List.Folds.{list_all-append}
use Rattle.std.specs.Int.{cast_signed, w32}
use Rattle.std.specs.List.{list_all, list_any}
use Rattle.stapl_lexer.specs.declared.front.Front.{Front}
use Rattle.stapl_lexer.specs.declared.token.Token.{Token}
use Rattle.stapl_lexer.specs.declared.token.TokenKind.{TokenKind}
use Rattle.stapl_lexer.specs.declared.token.TokenKind.TheVariants as kinds
use Rattle.stapl_lexer.specs.Runs.{IsSolid}
use Rattle.stapl_lexer.specs.PieceTokens.{AreBlanks, Spells, number_value, value_of, terminal_of, kind_at, first_word, Lexeme, BeginsWith, HasLexemes, LiesBetween}
use Rattle.stapl_lexer.specs.PieceFaults.{is_number, is_large_number}
use Rattle.stapl_lexer.specs.TokenReading.{cap, capped_value, IsBlankFront, IsFront, held_value, IsReadUpTo, AreRead}
use Rattle.stapl_lexer.proofs.PieceTokenLemmas.{range_after, range_front, range_length}

-- the value that a token holds
held_number : (n value : ℕ) → value ≡ min n cap → held_value value ≡ (if nat_le n 2147483648 then cast_signed w32 n else pos 0)
held_number n value e = elim (cases_order n 2147483648) [
  | inl is ↦ small n value (omega arith) (omega arith)
  | inr (inl lt) ↦ small n value (omega arith) (omega arith)
  | inr (inr gt) ↦ large n value (omega arith) (omega arith)
]
  where
    test_small : (m : ℕ) → m ≤ 2147483648 → nat_lt 2147483648 m ≡ false
    test_small m le = grind (arith, nat_tests)

    other_small : (m : ℕ) → m ≤ 2147483648 → nat_le m 2147483648 ≡ true
    other_small m le = grind (arith, nat_tests)

    test_large : (m : ℕ) → 2147483648 < m → nat_lt 2147483648 m ≡ true
    test_large m le = grind (arith, nat_tests)

    other_large : (m : ℕ) → 2147483648 < m → nat_le m 2147483648 ≡ false
    other_large m le = grind (arith, nat_tests)

    small : (m v : ℕ) → m ≤ 2147483648 → v ≡ m → held_value v ≡ (if nat_le m 2147483648 then cast_signed w32 m else pos 0)
    small m v le is =
        ap held_value is ∙ ap (λ (b : Bool). if b then pos 0 else cast_signed w32 m) (test_small m le)
        ∙ sym (ap (λ (b : Bool). if b then cast_signed w32 m else pos 0) (other_small m le))

    large : (m v : ℕ) → 2147483648 < m → 2147483648 < v → held_value v ≡ (if nat_le m 2147483648 then cast_signed w32 m else pos 0)
    large m v lt above =
        ap (λ (b : Bool). if b then pos 0 else cast_signed w32 v) (test_large v above)
        ∙ sym (ap (λ (b : Bool). if b then cast_signed w32 m else pos 0) (other_large m lt))

held_other : (value : ℕ) → value ≡ 0 → held_value value ≡ pos 0
held_other value e = ap held_value e

held_is : (kind : TokenKind) (own : List ℕ) (value : ℕ) → value ≡ capped_value kind own → held_value value ≡ value_of kind own
held_is kinds.Word own value e = held_other value e
held_is kinds.Number own value e = held_number (number_value own) value e
held_is kinds.Text own value e = held_other value e
held_is kinds.Binary own value e = held_other value e
held_is kinds.Hexadecimal own value e = held_other value e
held_is kinds.Mark own value e = held_other value e
held_is kinds.Hex4 own value e = held_other value e

large_number : (n value : ℕ) → value ≡ min n cap → nat_lt 2147483648 value ≡ nat_lt 2147483648 n
large_number n value e = grind (arith, nat_tests)

large_other : (value : ℕ) → value ≡ 0 → nat_lt 2147483648 value ≡ false
large_other value e = ap (nat_lt 2147483648) e

large_is : (kind : TokenKind) (own : List ℕ) (value : ℕ) → value ≡ capped_value kind own → nat_lt 2147483648 value ≡ (is_number kind && nat_lt 2147483648 (number_value own))
large_is kinds.Word own value e = large_other value e
large_is kinds.Number own value e = large_number (number_value own) value e
large_is kinds.Text own value e = large_other value e
large_is kinds.Binary own value e = large_other value e
large_is kinds.Hexadecimal own value e = large_other value e
large_is kinds.Mark own value e = large_other value e
large_is kinds.Hex4 own value e = large_other value e

-- a token that is placed
pub record IsPlaced (token : Token) (kind : TokenKind) (front : Front) (start : ℕ) (bytes : List ℕ) : Type 0 where
  pub kind_is : token.kind ≡ kind
  pub start_is : token.start ≡ start
  pub end_is : token.end ≡ start + front.len
  pub value_is : token.value ≡ held_value front.value
  pub terminal_is : token.terminal ≡ terminal_of kind (take front.len bytes)

first_taken : (k : ℕ) (xs : List ℕ) → 0 < k → get_or (take k xs) 0 0 ≡ get_or xs 0 0
first_taken zero xs lt = absurd (omega arith)
first_taken (suc k) [] lt = refl
first_taken (suc k) (x ∷ xs) lt = refl

-- the first byte of a range
pub range_first : (text : List ℕ) (start limit : ℕ) → start < limit → get_or (slice_range text start limit) 0 0 ≡ get_or text start 0
range_first text start limit lt =
    first_taken (limit - start) (drop start text) (omega arith) ∙ get_or-drop start text 0 0 ∙ ap (λ (k : ℕ). get_or text k 0) (add-zero start)

pub before_limit : (text : List ℕ) (at limit skipped : ℕ) → at ≤ limit → limit ≤ length text → skipped ≤ length (slice_range text at limit) → at + skipped ≢ limit →
    at + skipped < limit
before_limit text at limit skipped le within in_range more = omega (arith, in_range, range_length text at limit le within)

-- the next token
pub next_begins : (text : List ℕ) (is_crc : Option Bool) (at limit skipped : ℕ) (kind : TokenKind) (front : Front) (token : Token) (good : Bool) →
    at + skipped < limit → limit ≤ length text → IsBlankFront (slice_range text at limit) skipped → kind ≡ kind_at is_crc (slice_index text (at + skipped)) →
    IsFront kind (slice_range text (at + skipped) limit) front → IsPlaced token kind front (at + skipped) (slice_range text (at + skipped) limit) → good ≡ front.good →
    BeginsWith text is_crc at limit (record { token = token; good = good })
next_begins text is_crc at limit skipped kind front token good lt within blank is_kind found placed is_good =
    let start : ℕ = at + skipped in
    let after : drop skipped (slice_range text at limit) ≡ slice_range text start limit = range_after text at limit skipped (omega arith) in
    let starts : token.start ≡ start = placed.start_is in
    let ends : token.end ≡ start + front.len = placed.end_is in
    let some = found.some in
    let found_within : front.len ≤ limit - start = omega (arith, found.within, range_length text start limit (omega arith) within) in
    let own : take front.len (slice_range text start limit) ≡ slice_range text token.start token.end =
    range_front text start limit front.len (omega arith) ∙ ap (λ (k : ℕ). slice_range text k (start + front.len)) (sym starts) ∙ ap (slice_range text token.start) (sym ends) in
    let rest : drop front.len (slice_range text start limit) ≡ slice_range text token.end limit =
    range_after text start limit front.len (omega arith) ∙ ap (λ (k : ℕ). slice_range text k limit) (sym ends) in
    let at_start : slice_range text start limit ≡ slice_range text token.start limit = ap (λ (k : ℕ). slice_range text k limit) (sym starts) in
    record {
      after = omega arith;
      some = omega arith;
      within = omega arith;
      blank = subst (AreBlanks (slice_range text at limit)) (after ∙ at_start) blank.blank;
      solid = subst IsSolid (after ∙ at_start) blank.solid;
      kind = placed.kind_is ∙ is_kind ∙ ap (λ (k : ℕ). kind_at is_crc (slice_index text k)) (sym starts);
      spelled = subst (λ (k : TokenKind). Spells k good (slice_range text token.start token.end) (slice_range text token.end limit)) (sym placed.kind_is)
          (subst (λ (g : Bool). Spells kind g (slice_range text token.start token.end) (slice_range text token.end limit)) (sym is_good)
          (subst (λ (v : List ℕ). Spells kind front.good (slice_range text token.start token.end) v) rest
          (subst (λ (v : List ℕ). Spells kind front.good v (drop front.len (slice_range text start limit))) own found.spelled)));
      value = placed.value_is ∙ held_is kind (take front.len (slice_range text start limit)) front.value found.value_is
          ∙ ap (value_of kind) own ∙ ap (λ (k : TokenKind). value_of k (slice_range text token.start token.end)) (sym placed.kind_is);
      terminal = placed.terminal_is ∙ ap (terminal_of kind) own ∙ ap (λ (k : TokenKind). terminal_of k (slice_range text token.start token.end)) (sym placed.kind_is);
    }

pub next_large : (text : List ℕ) (limit : ℕ) (kind : TokenKind) (front : Front) (token : Token) (start : ℕ) → start ≤ limit → limit ≤ length text →
    IsFront kind (slice_range text start limit) front → IsPlaced token kind front start (slice_range text start limit) → nat_lt 2147483648 front.value ≡ is_large_number text token
next_large text limit kind front token start le within found placed =
    let starts : token.start ≡ start = placed.start_is in
    let ends : token.end ≡ start + front.len = placed.end_is in
    let found_within : front.len ≤ limit - start = omega (arith, found.within, range_length text start limit le within) in
    let own : take front.len (slice_range text start limit) ≡ slice_range text token.start token.end =
    range_front text start limit front.len (omega arith) ∙ ap (λ (k : ℕ). slice_range text k (start + front.len)) (sym starts) ∙ ap (slice_range text token.start) (sym ends) in
    large_is kind (take front.len (slice_range text start limit)) front.value found.value_is
    ∙ ap (λ (v : List ℕ). is_number kind && nat_lt 2147483648 (number_value v)) own
    ∙ ap (λ (k : TokenKind). is_number k && nat_lt 2147483648 (number_value (slice_range text token.start token.end))) (sym placed.kind_is)

and_last : (a b : Bool) → (a && (b && true)) ≡ (a && b)
and_last a true = refl
and_last a false = refl

or_last : (a b : Bool) → (a || (b || false)) ≡ (a || b)
or_last a true = refl
or_last a false = refl

any_append : (p : Token → Bool) (xs : List Token) (y : Token) → list_any p (xs ++ y ∷ []) ≡ (list_any p xs || p y)
any_append p [] y = or_last false (p y)
any_append p (x ∷ xs) y = any_step (p x) (any_append p xs y)
  where
    any_step : (b : Bool) → list_any p (xs ++ y ∷ []) ≡ (list_any p xs || p y) → (b || list_any p (xs ++ y ∷ [])) ≡ ((b || list_any p xs) || p y)
    any_step true e = refl
    any_step false e = e

-- one token more
pub read_one : (text : List ℕ) (start limit : ℕ) (tokens : List Token) (good large : Bool) (is_crc : Option Bool) (at : ℕ) (token : Token) (its_good its_large : Bool) →
    IsReadUpTo text start limit tokens good large is_crc at → BeginsWith text is_crc at limit (record { token = token; good = its_good }) →
    its_large ≡ is_large_number text token →
    IsReadUpTo text start limit (tokens ++ token ∷ []) (good && its_good) (large || its_large) (first_word is_crc token.kind (slice_range text token.start token.end)) token.end
read_one text start limit tokens good large is_crc at token its_good its_large r b is_large =
    let after : at ≤ token.start = b.after in
    let some : token.start < token.end = b.some in
    let within : token.end ≤ limit = b.within in
    let from : start ≤ at = r.from in
    let lexeme : Lexeme = record { token = token; good = its_good } in
    record {
      within = within;
      from = omega arith;
      done = r.done ++ lexeme ∷ [];
      tokens_are = ap (λ (v : List Token). v ++ token ∷ []) r.tokens_are ∙ sym (map-append (λ (l : Lexeme). l.token) r.done (lexeme ∷ []));
      good_is = ap (λ (g : Bool). g && its_good) r.good_is ∙ sym (list_all-append (λ (l : Lexeme). l.good) r.done (lexeme ∷ []) ∙ and_last (list_all (λ (l : Lexeme). l.good) r.done) its_good);
      large_is = ap (λ (g : Bool). g || its_large) r.large_is ∙ ap (λ (g : Bool). list_any (is_large_number text) tokens || g) is_large
          ∙ sym (any_append (is_large_number text) tokens token);
      lie = All-push (LiesBetween start limit) tokens token r.lie (record { from = omega arith; some = some; within = within });
      forward = λ more h. subst (HasLexemes text None start limit) (sym (append_assoc r.done (lexeme ∷ []) more)) (r.forward (lexeme ∷ more) (b, h));
    }

-- all is read
pub read_all : (text : List ℕ) (start limit : ℕ) (tokens : List Token) (good large : Bool) (is_crc : Option Bool) (at : ℕ) →
    IsReadUpTo text start limit tokens good large is_crc at → AreBlanks (slice_range text at limit) [] → AreRead text start limit tokens good large
read_all text start limit tokens good large is_crc at r blank = record {
  lexemes = r.done;
  tokens_are = r.tokens_are;
  good_is = r.good_is;
  large_is = r.large_is;
  has = subst (HasLexemes text None start limit) (append-nil r.done) (r.forward [] blank);
}
