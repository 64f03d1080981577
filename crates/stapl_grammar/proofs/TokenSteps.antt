-- The steps past the first of the tokens that are still to be read.
use Rattle.std.proofs.Common.{◌≡◌, ℕ, suc, ◌-◌, ◌<◌, ◌≤◌, All, List, [], ◌∷◌, length, take, drop, Some, None, true, arith}
use Rattle.std.specs.Prelude.{slice_get}
use Rattle.std.proofs.lemmas.Bool.{le-leb, lt-leb}
use Rattle.std.proofs.lemmas.List.{take_rest}
use Rattle.stapl_lexer.specs.Pieces.{text_limit}
use Rattle.stapl_lexer.specs.PieceTokens.{LiesBetween}
use Rattle.stapl_lexer.specs.declared.terminal.BinOp.{BinOp}
use Rattle.stapl_lexer.specs.declared.terminal.JoinWord.{JoinWord}
use Rattle.stapl_lexer.specs.declared.terminal.Mark.{Mark}
use Rattle.stapl_lexer.specs.declared.token.Token.{Token}
use Rattle.stapl_syntax.specs.declared.signs.Sign.{Sign}
use Rattle.stapl_syntax.specs.Expressions.{level_of}
use Rattle.stapl_syntax.specs.Symbols.{Symbol, sign_of}
use Rattle.stapl_grammar.specs.Looks.{is_mark, after_mark, is_join, after_join}
use Rattle.stapl_grammar.specs.PartReading.{is_minus, after_minus, is_character, after_character, is_hz, after_hz}
use Rattle.stapl_grammar.specs.Reading.{next_sign, operator_of, next_operator}
use Rattle.stapl_grammar.specs.Seen.{seen, seen_as, first_seen}

-- the tokens after the first one
abbrev pub after_first : List Token → List Token
after_first rest = take (length rest - 1) (drop 1 rest)

after_first_is : (x : Token) (more : List Token) → after_first (x ∷ more) ≡ more
after_first_is x more = take_rest (x ∷ more) 1

all_after : (P : Token → Type 0) (rest : List Token) → All P rest → All P (after_first rest)
all_after P [] h = λ k d lt. absurd (omega (arith, lt))
all_after P (x ∷ more) h = rw (after_first_is x more) (λ k d lt. h (suc k) d (omega (arith, lt)))

-- they lie in the text, too
pub lie : (text : List ℕ) (rest : List Token) → (All (LiesBetween 0 (length text)) rest) × (length text ≤ text_limit) →
    (All (LiesBetween 0 (length text)) (after_first rest)) × (length text ≤ text_limit)
lie text rest h = (all_after (LiesBetween 0 (length text)) rest h.0, h.1)

-- the first symbol, and those after it
pub first_is : (text : List ℕ) (rest : List Token) (t : Token) (s : List Symbol) → Some t ≡ slice_get rest 0 → seen text rest ≡ s →
    s ≡ seen_as text t ∷ seen text (after_first rest)
unfolding seen
first_is text [] t s e v = absurd cc
first_is text (x ∷ more) t s e v = rw (after_first_is x more) (let x-is : t ≡ x = cc in cc)

-- by the token itself
pub is_shorter : (text : List ℕ) (rest : List Token) (t : Token) (s : List Symbol) → Some t ≡ slice_get rest 0 → seen text rest ≡ s →
    length (seen text (after_first rest)) < length s
is_shorter text rest t s e v = rw (first_is text rest t s e v) (omega arith)

pub mark_read : (text : List ℕ) (rest : List Token) (t : Token) (s : List Symbol) (m : Mark) → Some t ≡ slice_get rest 0 → seen text rest ≡ s →
    true ≡ is_mark (sign_of (seen_as text t)) m → after_mark m s ≡ Some (seen text (after_first rest))
unfolding after_mark
mark_read text rest t s m e v h = rw (first_is text rest t s e v, ← h)

pub join_read : (text : List ℕ) (rest : List Token) (t : Token) (s : List Symbol) (w : JoinWord) → Some t ≡ slice_get rest 0 → seen text rest ≡ s →
    true ≡ is_join (sign_of (seen_as text t)) w → after_join w s ≡ Some (seen text (after_first rest))
unfolding after_join
join_read text rest t s w e v h = rw (first_is text rest t s e v, ← h)

pub operator_read : (text : List ℕ) (rest : List Token) (t : Token) (s : List Symbol) (most : ℕ) (op : BinOp) → Some t ≡ slice_get rest 0 → seen text rest ≡ s →
    Some op ≡ operator_of (sign_of (seen_as text t)) → level_of op ≤ most → next_operator most s ≡ Some (op, seen text (after_first rest))
unfolding next_operator
operator_read text rest t s most op e v o le = rw (first_is text rest t s e v, ← o, le-leb (level_of op) most le)

pub operator_left : (text : List ℕ) (rest : List Token) (t : Token) (s : List Symbol) (most : ℕ) (op : BinOp) → Some t ≡ slice_get rest 0 → seen text rest ≡ s →
    Some op ≡ operator_of (sign_of (seen_as text t)) → most < level_of op → next_operator most s ≡ None
unfolding next_operator
operator_left text rest t s most op e v o lt = rw (first_is text rest t s e v, ← o, lt-leb (level_of op) most lt)

-- by its sign
sign_is : (text : List ℕ) (rest : List Token) (g : Sign) (s : List Symbol) → Some g ≡ first_seen s → seen text rest ≡ s →
    (t : Symbol) × (s ≡ t ∷ seen text (after_first rest)) × (sign_of t ≡ g)
unfolding seen
sign_is text [] g [] e v = absurd cc
sign_is text [] g (t ∷ s) e v = absurd cc
sign_is text (x ∷ more) g [] e v = absurd cc
sign_is text (x ∷ more) g (t ∷ s) e v = (t, rw (after_first_is x more) cc, cc)

pub sign_shorter : (text : List ℕ) (rest : List Token) (g : Sign) (s : List Symbol) → Some g ≡ first_seen s → seen text rest ≡ s →
    length (seen text (after_first rest)) < length s
sign_shorter text rest g s e v = rw (sign_is text rest g s e v).1 (omega arith)

pub sign_read : (text : List ℕ) (rest : List Token) (g : Sign) (s : List Symbol) → Some g ≡ first_seen s → seen text rest ≡ s →
    next_sign s ≡ Some (g, seen text (after_first rest))
unfolding next_sign
sign_read text rest g s e v = let i = sign_is text rest g s e v in rw (i.1, i.2)

pub minus_read : (text : List ℕ) (rest : List Token) (g : Sign) (s : List Symbol) → Some g ≡ first_seen s → seen text rest ≡ s →
    true ≡ is_minus g → after_minus s ≡ Some (seen text (after_first rest))
unfolding after_minus
minus_read text rest g s e v h = let i = sign_is text rest g s e v in rw (i.1, i.2, ← h)

pub character_read : (text : List ℕ) (rest : List Token) (g : Sign) (s : List Symbol) → Some g ≡ first_seen s → seen text rest ≡ s →
    true ≡ is_character g → after_character s ≡ Some (seen text (after_first rest))
unfolding after_character
character_read text rest g s e v h = let i = sign_is text rest g s e v in rw (i.1, i.2, ← h)

pub hz_passed : (text : List ℕ) (rest : List Token) (g : Sign) (s : List Symbol) → Some g ≡ first_seen s → seen text rest ≡ s →
    true ≡ is_hz g → seen text (after_first rest) ≡ after_hz s
unfolding after_hz
hz_passed text rest g s e v h = let i = sign_is text rest g s e v in rw (i.1, i.2, ← h)
