-- The bytes between two places of a text have at most one list of tokens.
use Rattle.std.proofs.Common.{◌≡◌, ℤ, ℕ, ◌≤◌, ◌<◌, ◌-◌, ◌+◌, List, [], ◌∷◌, ◌++◌, length, take, drop, refl, sym, ap, ◌∙◌, Bool, true, false, ◌&&◌, ◌||◌, ◌==◌, not, arith, subst, append_assoc, append-nil, slice_index, slice_range, Option, nat_le, codes}
use Rattle.std.proofs.lemmas.Bool.{and_parts}
use Rattle.std.proofs.lemmas.Bool.Decides.{nat_tests}
use Rattle.std.proofs.lemmas.List.{length-drop, take-append-drop, drop-take, drop-drop, length-take-le, append_cancel_right, take-take}
use Rattle.std.specs.Char.{is_ascii_digit, is_ascii_hexdigit}
use Rattle.stapl_lexer.specs.declared.terminal.Terminal.{Terminal}
use Rattle.stapl_lexer.specs.declared.token.Token.{Token}
use Rattle.stapl_lexer.specs.declared.token.TokenKind.{TokenKind}
use Rattle.stapl_lexer.specs.declared.token.TokenKind.TheVariants as kinds
use Rattle.stapl_lexer.specs.Names.{is_name_byte}
use Rattle.stapl_lexer.specs.Pieces.{is_white}
use Rattle.stapl_lexer.specs.Marks.{is_mark_spelling}
use Rattle.stapl_lexer.specs.ReservedWords.{spells_word}
use Rattle.stapl_lexer.specs.Segments.{spelled}
use Rattle.stapl_lexer.specs.Runs.{StartsWithout, IsSolid, IsDigits}
use Rattle.stapl_lexer.specs.PieceTokens.{AreBlanks, IsWordTail, IsWord, is_exponent_mark, begins_exponent, IsExponent, IsNumber, is_literal_digit, HasNoDigit, SpacedDigits, IsLiteral, IsCheckWord, IsMark, is_closed, Spells, kind_at, first_word, value_of, terminal_of, Lexeme, BeginsWith, HasLexemes}
use Rattle.stapl_lexer.proofs.EndLemmas.{same_run, same_solid}
use Rattle.stapl_lexer.proofs.Unique.{same_segment, tails}

pub same_blanks : (bytes x y : List ℕ) → AreBlanks bytes x → AreBlanks bytes y → IsSolid x → IsSolid y → x ≡ y
same_blanks bytes x y a b u v = same_solid a.blanks b.blanks bytes x y a.divides b.divides a.blank b.blank u v

pub clash : (b : Bool) → b ≡ true → b ≡ false → ⊥
clash true p q = cc
clash false p q = cc

same_head : {x y : ℕ} {xs ys : List ℕ} → x ∷ xs ≡ y ∷ ys → x ≡ y
same_head e = cc

-- words
tail_stops : (name tail after : List ℕ) → IsWordTail name tail after → StartsWithout is_name_byte (tail ++ after)
tail_stops name [] after e = e.0
tail_stops name (b ∷ bs) after e = subst (λ (v : List ℕ). StartsWithout is_name_byte (v ++ after)) (sym e.0) refl

dollar_clash : (name : List ℕ) (d : ℕ) → spells_word (codes "CHR") name ≡ true → d ≡ 36 → (spells_word (codes "CHR") name && d == 36) ≡ false → ⊥
dollar_clash name d p q e = clash _ (ap (λ (b : Bool). b && d == 36) p ∙ ap (λ (k : ℕ). k == 36) q) e

same_tail : (name ta tb r q : List ℕ) → IsWordTail name ta r → IsWordTail name tb q → ta ++ r ≡ tb ++ q → (ta ≡ tb) × (r ≡ q)
same_tail name [] [] r q a b e = (refl, e)
same_tail name [] (c ∷ cs) r q a b e =
    absurd (dollar_clash name (slice_index r 0) b.1 (ap (λ (v : List ℕ). slice_index v 0) (e ∙ ap (λ (v : List ℕ). v ++ q) b.0)) a.1)
same_tail name (c ∷ cs) [] r q a b e =
    absurd (dollar_clash name (slice_index q 0) a.1 (ap (λ (v : List ℕ). slice_index v 0) (sym e ∙ ap (λ (v : List ℕ). v ++ r) a.0)) b.1)
same_tail name (c ∷ cs) (d ∷ ds) r q a b e =
    let same : c ∷ cs ≡ d ∷ ds = a.0 ∙ sym b.0 in
    (same, tails (ap (λ (v : List ℕ). v ++ r) (sym a.0) ∙ e ∙ ap (λ (v : List ℕ). v ++ q) b.0))

pub same_word : (own other r q : List ℕ) → IsWord own r → IsWord other q → own ++ r ≡ other ++ q → (own ≡ other) × (r ≡ q)
same_word own other r q a b e =
    let m = same_run is_name_byte a.name b.name (a.tail ++ r) (b.tail ++ q) a.name_bytes b.name_bytes
    (tail_stops a.name a.tail r a.ends) (tail_stops b.name b.tail q b.ends)
    (sym (append_assoc a.name a.tail r) ∙ ap (λ (v : List ℕ). v ++ r) (sym a.parts) ∙ e ∙ ap (λ (v : List ℕ). v ++ q) b.parts ∙ append_assoc b.name b.tail q) in
    let t = same_tail a.name a.tail b.tail r q a.ends (subst (λ (v : List ℕ). IsWordTail v b.tail q) (sym m.0) b.ends) m.1 in
    let names = m.0 in let ends = t.0 in
    (a.parts ∙ ap (λ (v : List ℕ). v ++ a.tail) m.0 ∙ ap (λ (v : List ℕ). b.name ++ v) t.0 ∙ sym b.parts, t.1)

-- numbers
pub mark_no_digit : (b : ℕ) → is_exponent_mark b ≡ true → is_ascii_digit b ≡ false
mark_no_digit b e = grind (arith, nat_tests, e)

exponent_stops : (tail after : List ℕ) → IsExponent tail after → StartsWithout is_ascii_digit (tail ++ after)
exponent_stops [] after e = e.0
exponent_stops (b ∷ bs) after e = mark_no_digit b e.0

exponent_begins : (mark : ℕ) (power after : List ℕ) → is_exponent_mark mark ≡ true → IsDigits power → begins_exponent (mark ∷ power ++ after) ≡ true
exponent_begins mark [] after m d = absurd (d.0 refl)
exponent_begins mark (p ∷ ps) after m d = ap (λ (b : Bool). b && is_ascii_digit p) m ∙ (and_parts (is_ascii_digit p) _ d.1).0

same_exponent : (ta tb r q : List ℕ) → IsExponent ta r → IsExponent tb q → ta ++ r ≡ tb ++ q → (ta ≡ tb) × (r ≡ q)
same_exponent [] [] r q a b e = (refl, e)
same_exponent [] (m ∷ p) r q a b e = absurd (clash _ (ap begins_exponent e ∙ exponent_begins m p q b.0 b.1) a.1)
same_exponent (m ∷ p) [] r q a b e = absurd (clash _ (ap begins_exponent (sym e) ∙ exponent_begins m p r a.0 a.1) b.1)
same_exponent (m ∷ p) (n ∷ o) r q a b e =
    let more = same_run is_ascii_digit p o r q (a.1).1 (b.1).1 a.2 b.2 (tails e) in
    let first = same_head e in let powers = more.0 in (cc, more.1)

pub same_number : (own other r q : List ℕ) → IsNumber own r → IsNumber other q → own ++ r ≡ other ++ q → (own ≡ other) × (r ≡ q)
same_number own other r q a b e =
    let m = same_run is_ascii_digit a.digits b.digits (a.exponent ++ r) (b.exponent ++ q) (a.are_digits).1 (b.are_digits).1
    (exponent_stops a.exponent r a.ends) (exponent_stops b.exponent q b.ends)
    (sym (append_assoc a.digits a.exponent r) ∙ ap (λ (v : List ℕ). v ++ r) (sym a.parts) ∙ e ∙ ap (λ (v : List ℕ). v ++ q) b.parts ∙ append_assoc b.digits b.exponent q) in
    let t = same_exponent a.exponent b.exponent r q a.ends b.ends m.1 in
    (a.parts ∙ ap (λ (v : List ℕ). v ++ a.exponent) m.0 ∙ ap (λ (v : List ℕ). b.digits ++ v) t.0 ∙ sym b.parts, t.1)

-- literals
binary_solid : (d : ℕ) → ((d == 48) || (d == 49)) ≡ true → (is_white d || d == 39) ≡ false
binary_solid d e = grind (arith, nat_tests, e)

hex_solid : (d : ℕ) → is_ascii_hexdigit d ≡ true → (is_white d || d == 39) ≡ false
hex_solid d e = grind (arith, nat_tests, e)

pub digit_solid : (kind : TokenKind) (d : ℕ) → is_literal_digit kind d ≡ true → (is_white d || d == 39) ≡ false
digit_solid kinds.Word d e = hex_solid d e
digit_solid kinds.Number d e = hex_solid d e
digit_solid kinds.Text d e = hex_solid d e
digit_solid kinds.Binary d e = binary_solid d e
digit_solid kinds.Hexadecimal d e = hex_solid d e
digit_solid kinds.Mark d e = hex_solid d e
digit_solid kinds.Hex4 d e = hex_solid d e

no_digit_clash : (kind : TokenKind) (bytes rest : List ℕ) (d : ℕ) → HasNoDigit kind bytes → AreBlanks bytes (d ∷ rest) → is_literal_digit kind d ≡ true → ⊥
no_digit_clash kind bytes rest d none blank digit =
    let same : none.rest ≡ d ∷ rest = same_blanks bytes none.rest (d ∷ rest) none.blank blank none.solid (digit_solid kind d digit) in
    clash (is_literal_digit kind d) digit (subst (StartsWithout (is_literal_digit kind)) same none.stops)

pub same_spaced : (kind : TokenKind) (bytes ds r es q : List ℕ) → SpacedDigits kind bytes ds r → SpacedDigits kind bytes es q → (ds ≡ es) × (r ≡ q)
same_spaced kind bytes [] r [] q a b = (refl, sym a.0 ∙ b.0)
same_spaced kind bytes [] r (d ∷ es) q a b = absurd (no_digit_clash kind bytes b.0 d a.1 b.1 b.2)
same_spaced kind bytes (d ∷ ds) r [] q a b = absurd (no_digit_clash kind bytes a.0 d b.1 a.1 a.2)
same_spaced kind bytes (d ∷ ds) r (c ∷ es) q a b =
    let same : d ∷ a.0 ≡ c ∷ b.0 = same_blanks bytes (d ∷ a.0) (c ∷ b.0) a.1 b.1 (digit_solid kind d a.2) (digit_solid kind c b.2) in
    let more = same_spaced kind a.0 ds r es q a.3 (subst (λ (v : List ℕ). SpacedDigits kind v es q) (sym (tails same)) b.3) in
    let first = same_head same in let others = more.0 in (cc, more.1)

drop_first : (own r : List ℕ) → 0 < length own → drop 1 (own ++ r) ≡ drop 1 own ++ r
drop_first [] r some = absurd (omega arith)
drop_first (b ∷ bs) r some = refl

-- what two readings of one token have in common
pub record IsSame (g h : Bool) (own other r q : List ℕ) : Type 0 where
  pub good : g ≡ h
  pub bytes : own ≡ other
  pub after : r ≡ q

same_literal : (kind : TokenKind) (g h : Bool) (own other r q : List ℕ) → 0 < length own → 0 < length other → IsLiteral kind g own r → IsLiteral kind h other q →
    own ++ r ≡ other ++ q → IsSame g h own other r q
same_literal kind g h own other r q some more a b e =
    let rest : drop 1 own ++ r ≡ drop 1 other ++ q = sym (drop_first own r some) ∙ ap (drop 1) e ∙ drop_first other q more in
    let m = same_spaced kind (drop 1 other ++ q) a.0 r b.0 q (subst (λ (v : List ℕ). SpacedDigits kind v a.0 r) rest a.1) b.1 in
    record {
      good = a.2 ∙ ap (λ (v : List ℕ). nat_le 1 (length v)) m.0 ∙ sym b.2;
      bytes = append_cancel_right own other q (ap (λ (v : List ℕ). own ++ v) (sym m.1) ∙ e);
      after = m.1;
    }

same_check : (g h : Bool) (own other r q : List ℕ) → IsCheckWord g own r → IsCheckWord h other q → own ++ r ≡ other ++ q → IsSame g h own other r q
same_check true true own other r q a b e =
    let m = same_spaced kinds.Hex4 (other ++ q) a.digits r b.digits q (subst (λ (v : List ℕ). SpacedDigits kinds.Hex4 v a.digits r) e a.spaced) b.spaced in
    record { good = refl; bytes = append_cancel_right own other q (ap (λ (v : List ℕ). own ++ v) (sym m.1) ∙ e); after = m.1 }
same_check true false own other r q a b e =
    absurd (b.1 own r (sym (append-nil other) ∙ ap (λ (v : List ℕ). other ++ v) (sym b.0) ∙ sym e) a)
same_check false true own other r q a b e =
    absurd (a.1 other q (sym (append-nil own) ∙ ap (λ (v : List ℕ). own ++ v) (sym a.0) ∙ e) b)
same_check false false own other r q a b e = record {
  good = refl;
  bytes = sym (append-nil own) ∙ ap (λ (v : List ℕ). own ++ v) (sym a.0) ∙ e ∙ ap (λ (v : List ℕ). other ++ v) b.0 ∙ append-nil other;
  after = a.0 ∙ sym b.0;
}

-- marks
mark_clash : (a c : ℕ) (r : List ℕ) → slice_index r 0 ≡ c → is_mark_spelling (a ∷ slice_index r 0 ∷ []) ≡ false → is_mark_spelling (a ∷ c ∷ []) ≡ true → ⊥
mark_clash a c r e p q = clash _ q (ap (λ (k : ℕ). is_mark_spelling (a ∷ k ∷ [])) (sym e) ∙ p)

same_mark : (own other r q : List ℕ) → IsMark own r → IsMark other q → own ++ r ≡ other ++ q → (own ≡ other) × (r ≡ q)
same_mark [] other r q a b e = absurd a
same_mark (x ∷ xs) [] r q a b e = absurd b
same_mark (x ∷ []) (y ∷ []) r q a b e = let first = same_head e in (cc, tails e)
same_mark (x ∷ []) (y ∷ z ∷ []) r q a b e =
    let first : x ≡ y = same_head e in
    absurd (mark_clash y z r (ap (λ (v : List ℕ). slice_index v 0) (tails e)) (subst (λ (k : ℕ). is_mark_spelling (k ∷ slice_index r 0 ∷ []) ≡ false) first a) b)
same_mark (x ∷ w ∷ []) (y ∷ []) r q a b e =
    let first : y ≡ x = sym (same_head e) in
    absurd (mark_clash x w q (ap (λ (v : List ℕ). slice_index v 0) (sym (tails e))) (subst (λ (k : ℕ). is_mark_spelling (k ∷ slice_index q 0 ∷ []) ≡ false) first b) a)
same_mark (x ∷ w ∷ []) (y ∷ z ∷ []) r q a b e =
    let first = same_head e in let second = same_head (tails e) in (cc, tails (tails e))
same_mark (x ∷ w ∷ v ∷ vs) other r q a b e = absurd a
same_mark (x ∷ xs) (y ∷ z ∷ v ∷ vs) r q a b e = absurd b

-- bytes begin with one token of a kind
pub same_spelled : (kind : TokenKind) (g h : Bool) (own other r q : List ℕ) → 0 < length own → 0 < length other → Spells kind g own r → Spells kind h other q →
    own ++ r ≡ other ++ q → IsSame g h own other r q
same_spelled kinds.Word g h own other r q some more a b e =
    let m = same_word own other r q a.0 b.0 e in record { good = a.1 ∙ sym b.1; bytes = m.0; after = m.1 }
same_spelled kinds.Number g h own other r q some more a b e =
    let m = same_number own other r q a.0 b.0 e in
    record { good = a.1 ∙ ap (λ (v : List ℕ). not (is_name_byte (slice_index v 0))) m.1 ∙ sym b.1; bytes = m.0; after = m.1 }
same_spelled kinds.Text g h own other r q some more a b e =
    let m = same_segment a.0 b.0 r q a.2 b.2 (ap (λ (v : List ℕ). v ++ r) (sym a.1) ∙ e ∙ ap (λ (v : List ℕ). v ++ q) b.1) in
    let segments : a.0 ≡ b.0 = m.0 in
    record { good = a.3 ∙ ap is_closed segments ∙ sym b.3; bytes = a.1 ∙ ap spelled segments ∙ sym b.1; after = m.1 }
same_spelled kinds.Binary g h own other r q some more a b e = same_literal kinds.Binary g h own other r q some more a b e
same_spelled kinds.Hexadecimal g h own other r q some more a b e = same_literal kinds.Hexadecimal g h own other r q some more a b e
same_spelled kinds.Mark g h own other r q some more a b e =
    let m = same_mark own other r q a.0 b.0 e in
    let bytes : own ≡ other = m.0 in
    record { good = a.1 ∙ ap is_mark_spelling bytes ∙ sym b.1; bytes = bytes; after = m.1 }
same_spelled kinds.Hex4 g h own other r q some more a b e = same_check g h own other r q a b e

-- what stands after so many bytes of a range
pub range_after : (text : List ℕ) (at end k : ℕ) → at + k ≤ end → drop k (slice_range text at end) ≡ slice_range text (at + k) end
range_after text at end k le =
    ap (λ (m : ℕ). drop k (take m (drop at text))) (omega arith) ∙ drop-take k (end - (at + k)) (drop at text)
    ∙ ap (take (end - (at + k))) (drop-drop k at text)

-- so many bytes of a range
pub range_front : (text : List ℕ) (at end n : ℕ) → at + n ≤ end → take n (slice_range text at end) ≡ slice_range text at (at + n)
range_front text at end n le = take-take n (end - at) (drop at text) (omega arith) ∙ ap (λ (m : ℕ). take m (drop at text)) (omega arith)

pub range_length : (text : List ℕ) (at end : ℕ) → at ≤ end → end ≤ length text → length (slice_range text at end) ≡ end - at
range_length text at end le within = length-take-le (end - at) (drop at text) (omega (arith, length-drop at text))

range_split : (text : List ℕ) (at k end : ℕ) → at + k ≤ end → slice_range text at (at + k) ++ slice_range text (at + k) end ≡ slice_range text at end
range_split text at k end le =
    ap (λ (v : List ℕ). v ++ slice_range text (at + k) end) (sym (range_front text at end k le))
    ∙ ap (λ (v : List ℕ). take k (slice_range text at end) ++ v) (sym (range_after text at end k le))
    ∙ take-append-drop k (slice_range text at end)

-- two ranges that follow on one another
pub range_parts : (text : List ℕ) (at middle end : ℕ) → at ≤ middle → middle ≤ end →
    slice_range text at middle ++ slice_range text middle end ≡ slice_range text at end
range_parts text at middle end le within =
    let there : at + (middle - at) ≡ middle = omega arith in
    subst (λ (m : ℕ). slice_range text at m ++ slice_range text m end ≡ slice_range text at end) there
    (range_split text at (middle - at) end (omega arith))

same_start : (text : List ℕ) (a b limit : ℕ) → a ≤ limit → b ≤ limit → limit ≤ length text → slice_range text a limit ≡ slice_range text b limit → a ≡ b
same_start text a b limit p q within e =
    omega (arith, ap length e, range_length text a limit p within, range_length text b limit q within)

same_end : (text : List ℕ) (at a b : ℕ) → at ≤ a → at ≤ b → a ≤ length text → b ≤ length text → slice_range text at a ≡ slice_range text at b → a ≡ b
same_end text at a b p q u v e = omega (arith, ap length e, range_length text at a p u, range_length text at b q v)

abbrev token_with : TokenKind → ℕ → ℕ → ℤ → Option Terminal → Token
token_with kind start end value terminal = record { kind = kind; start = start; end = end; value = value; terminal = terminal }

abbrev lexeme_with : Token → Bool → Lexeme
lexeme_with token good = record { token = token; good = good }

token_is : (s t : Token) → s.kind ≡ t.kind → s.start ≡ t.start → s.end ≡ t.end → s.value ≡ t.value → s.terminal ≡ t.terminal → s ≡ t
token_is s t p q r v w j = token_with (p j) (q j) (r j) (v j) (w j)

lexeme_is : (a b : Lexeme) → a.token ≡ b.token → a.good ≡ b.good → a ≡ b
lexeme_is a b p q = ap (λ (t : Token). lexeme_with t a.good) p ∙ ap (λ (g : Bool). lexeme_with b.token g) q

-- the first token is one
pub same_first : (text : List ℕ) (first : Option Bool) (at limit : ℕ) (a b : Lexeme) → limit ≤ length text → BeginsWith text first at limit a →
    BeginsWith text first at limit b → a ≡ b
same_first text first at limit a b within f g =
    let s = a.token in let t = b.token in
    let s_some : s.start < s.end = f.some in
    let t_some : t.start < t.end = g.some in
    let s_within : s.end ≤ limit = f.within in
    let t_within : t.end ≤ limit = g.within in
    let starts : s.start ≡ t.start = same_start text s.start t.start limit (omega arith) (omega arith) within
    (same_blanks (slice_range text at limit) (slice_range text s.start limit) (slice_range text t.start limit) f.blank g.blank f.solid g.solid) in
    let same_kind : s.kind ≡ t.kind = f.kind ∙ ap (λ (k : ℕ). kind_at first (slice_index text k)) starts ∙ sym g.kind in
    let f_spelled : Spells t.kind a.good (slice_range text t.start s.end) (slice_range text s.end limit) =
    subst (λ (k : ℕ). Spells t.kind a.good (slice_range text k s.end) (slice_range text s.end limit)) starts
    (subst (λ (k : TokenKind). Spells k a.good (slice_range text s.start s.end) (slice_range text s.end limit)) same_kind f.spelled) in
    let same = same_spelled t.kind a.good b.good (slice_range text t.start s.end) (slice_range text t.start t.end) (slice_range text s.end limit) (slice_range text t.end limit)
    (omega (arith, range_length text t.start s.end (omega arith) (omega arith))) (omega (arith, range_length text t.start t.end (omega arith) (omega arith)))
    f_spelled g.spelled
    (range_parts text t.start s.end limit (omega arith) s_within ∙ sym (range_parts text t.start t.end limit (omega arith) t_within)) in
    let ends : s.end ≡ t.end = same_end text t.start s.end t.end (omega arith) (omega arith) (omega arith) (omega arith) same.bytes in
    let values : s.value ≡ t.value = f.value ∙ ap (λ (k : TokenKind). value_of k (slice_range text s.start s.end)) same_kind
    ∙ ap (λ (k : ℕ). value_of t.kind (slice_range text k s.end)) starts ∙ ap (value_of t.kind) same.bytes ∙ sym g.value in
    let terminals : s.terminal ≡ t.terminal = f.terminal ∙ ap (λ (k : TokenKind). terminal_of k (slice_range text s.start s.end)) same_kind
    ∙ ap (λ (k : ℕ). terminal_of t.kind (slice_range text k s.end)) starts ∙ ap (terminal_of t.kind) same.bytes ∙ sym g.terminal in
    lexeme_is a b (token_is s t same_kind starts ends values terminals) same.good

nothing_after : (text : List ℕ) (first : Option Bool) (at limit : ℕ) (a : Lexeme) → limit ≤ length text → AreBlanks (slice_range text at limit) [] →
    BeginsWith text first at limit a → ⊥
nothing_after text first at limit a within blank f =
    let some : a.token.start < a.token.end = f.some in
    let ends : a.token.end ≤ limit = f.within in
    let none : [] ≡ slice_range text a.token.start limit =
    same_blanks (slice_range text at limit) [] (slice_range text a.token.start limit) blank f.blank tt f.solid in
    omega (arith, ap length none, range_length text a.token.start limit (omega arith) within)

-- the bytes between two places have one list of tokens
pub same_lexemes : (text : List ℕ) (first : Option Bool) (at limit : ℕ) (xs ys : List Lexeme) → limit ≤ length text → HasLexemes text first at limit xs →
    HasLexemes text first at limit ys → xs ≡ ys
same_lexemes text first at limit [] [] within a b = refl
same_lexemes text first at limit [] (y ∷ ys) within a b = absurd (nothing_after text first at limit y within a b.0)
same_lexemes text first at limit (x ∷ xs) [] within a b = absurd (nothing_after text first at limit x within b a.0)
same_lexemes text first at limit (x ∷ xs) (y ∷ ys) within a b =
    let same : x ≡ y = same_first text first at limit x y within a.0 b.0 in
    let more : xs ≡ ys = same_lexemes text (first_word first y.token.kind (slice_range text y.token.start y.token.end)) y.token.end limit xs ys within
    (subst (λ (l : Lexeme). HasLexemes text (first_word first l.token.kind (slice_range text l.token.start l.token.end)) l.token.end limit xs) same a.1) b.1 in
    cc
