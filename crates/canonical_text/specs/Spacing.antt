-- Where spaces stand in canonical text, which is this profile's rule.
use Rattle.std.specs.Prelude.{ℕ, List, [], ◌∷◌, ◌++◌, Bool, true, false, ◌||◌, ◌&&◌, if◌then◌else◌}
use Rattle.stapl_lexer.specs.declared.terminal.Mark.TheVariants as marks
use Rattle.stapl_lexer.specs.declared.terminal.OuterWord.TheVariants as outers
use Rattle.stapl_syntax.specs.declared.signs.Sign.TheVariants as signs
use Rattle.stapl_syntax.specs.Symbols.{Plain, Literal, CheckWord}
use Rattle.canonical_text.specs.PrintedTokens.{Printed, Seen, UnaryMark, spelling}

-- no space stands before `,` `:` `)` `]` `[` and `..`
unfoldable pub leans_back : Printed → Bool
leans_back (Seen (Plain (signs.Mark marks.Comma))) = true
leans_back (Seen (Plain (signs.Mark marks.Colon))) = true
leans_back (Seen (Plain (signs.Mark marks.RightRound))) = true
leans_back (Seen (Plain (signs.Mark marks.RightSquare))) = true
leans_back (Seen (Plain (signs.Mark marks.LeftSquare))) = true
leans_back (Seen (Plain (signs.Mark marks.Dots))) = true
leans_back _ = false

-- none stands after `(`, `[`, `..` and the mark of an operator with one operand
unfoldable pub leans_on : Printed → Bool
leans_on (Seen (Plain (signs.Mark marks.LeftRound))) = true
leans_on (Seen (Plain (signs.Mark marks.LeftSquare))) = true
leans_on (Seen (Plain (signs.Mark marks.Dots))) = true
leans_on (UnaryMark op) = true
leans_on _ = false

-- ABS, INT, BOOL or CHR$
unfoldable pub is_function : Printed → Bool
is_function (Seen (Plain (signs.Function f))) = true
is_function _ = false

unfoldable pub is_left_round : Printed → Bool
is_left_round (Seen (Plain (signs.Mark marks.LeftRound))) = true
is_left_round _ = false

-- no space stands between two tokens
abbrev pub touches : Printed → Printed → Bool
touches t next = leans_on t || leans_back next || (is_function t && is_left_round next)

-- what stands between two tokens: one space (32), or nothing
abbrev pub gap : Printed → Printed → List ℕ
gap t next = if touches t next then [] else 32 ∷ []

-- the bytes of tokens with the spaces between them
abbrev pub spaced : List Printed → List ℕ
spaced [] = []
spaced (t ∷ []) = spelling t
spaced (t ∷ next ∷ ts) = spelling t ++ (gap t next ++ spaced (next ∷ ts))

-- a token with which an operand begins
unfoldable pub begins_operand : Printed → Bool
begins_operand (Seen (Plain (signs.Number z))) = true
begins_operand (Seen (Plain (signs.Name v))) = true
begins_operand (Seen (Plain (signs.Mark marks.LeftRound))) = true
begins_operand (Seen (Plain (signs.Function f))) = true
begins_operand (UnaryMark op) = true
begins_operand _ = false

-- Whether a token may stand after another, so that the two stay apart when they are read: an operand stands after the
-- mark of an operator with one operand, since `!` and `=` are one mark; and what stands after a literal touches it,
-- since white space and more digits go on with it.
unfoldable pub stays_apart : Printed → Printed → Bool
stays_apart (UnaryMark op) next = begins_operand next
stays_apart (Seen (Literal bits)) next = leans_back next
stays_apart _ next = true

-- each two neighbours stay apart
abbrev pub stay_apart : List Printed → Bool
stay_apart [] = true
stay_apart (t ∷ []) = true
stay_apart (t ∷ next ∷ ts) = stays_apart t next && stay_apart (next ∷ ts)

-- neither the word CRC nor what stands after it, which are read in a way of their own
unfoldable pub is_ordinary : Printed → Bool
is_ordinary (Seen (Plain (signs.Outer outers.Crc))) = false
is_ordinary (Seen (CheckWord n)) = false
is_ordinary _ = true
