-- What a reader looks at: the sign that stands first, and after a comma one more.
use Rattle.std.specs.Prelude.{ℕ, List, [], ◌∷◌, Option, Some, None, Bool, true, false, ◌&&◌, ◌==◌, not, is_some, if◌then◌else◌, option_and_then}
use Rattle.stapl_lexer.specs.declared.terminal.Mark.{Mark}
use Rattle.stapl_lexer.specs.declared.terminal.Mark.TheVariants as marks
use Rattle.stapl_lexer.specs.declared.terminal.JoinWord.{JoinWord}
use Rattle.stapl_lexer.specs.declared.terminal.JoinWord.TheVariants as joins
use Rattle.stapl_syntax.specs.declared.signs.Sign.{Sign}
use Rattle.stapl_syntax.specs.declared.signs.Sign.TheVariants as signs
use Rattle.stapl_syntax.specs.declared.statement.ItemChoice.{ItemChoice}
use Rattle.stapl_syntax.specs.declared.statement.ItemChoice.TheVariants as choices
use Rattle.stapl_syntax.specs.Symbols.{Symbol, Plain, Text, sign_of}
use Rattle.stapl_syntax.specs.Parts.{Part, a_state, a_text, a_choice, an_expr, after, before, maybe_hz, both}

-- ---- marks and words

-- the place of a mark among the marks
unfoldable pub mark_number : Mark → ℕ
mark_number marks.Tilde = 0
mark_number marks.Exclamation = 1
mark_number marks.LeftRound = 2
mark_number marks.RightRound = 3
mark_number marks.LeftSquare = 4
mark_number marks.RightSquare = 5
mark_number marks.Dots = 6
mark_number marks.Comma = 7
mark_number marks.Equals = 8
mark_number marks.Colon = 9

-- the place of a word that stands inside statements among those words
unfoldable pub join_number : JoinWord → ℕ
join_number joins.Capture = 0
join_number joins.Compare = 1
join_number joins.Cycles = 2
join_number joins.Optional = 3
join_number joins.Recommended = 4
join_number joins.Step = 5
join_number joins.Then = 6
join_number joins.To = 7
join_number joins.Usec = 8
join_number joins.Uses = 9

-- the sign is this mark
unfoldable pub is_mark : Sign → Mark → Bool
is_mark (signs.Mark m) k = mark_number m == mark_number k
is_mark _ k = false

-- the sign is this word
unfoldable pub is_join : Sign → JoinWord → Bool
is_join (signs.Join w) k = join_number w == join_number k
is_join _ k = false

-- the symbols after the mark, if it stands first
unfoldable pub after_mark : Mark → List Symbol → Option (List Symbol)
after_mark m [] = None
after_mark m (t ∷ s) = if is_mark (sign_of t) m then Some s else None

-- the symbols after the word, if it stands first
unfoldable pub after_join : JoinWord → List Symbol → Option (List Symbol)
after_join w [] = None
after_join w (t ∷ s) = if is_join (sign_of t) w then Some s else None

-- the symbols after a comma and the word, if both stand first
unfoldable pub after_comma_join : JoinWord → List Symbol → Option (List Symbol)
after_comma_join w s = option_and_then (after_join w) (after_mark marks.Comma s)

-- the symbols after this sign, if it is a mark or a word and stands first
abbrev pub after_sign : Sign → List Symbol → Option (List Symbol)
after_sign (signs.Mark m) s = after_mark m s
after_sign (signs.Join w) s = after_join w s
after_sign _ s = None

-- the same for a symbol
abbrev pub after_symbol : Symbol → List Symbol → Option (List Symbol)
after_symbol (Plain sign) s = after_sign sign s
after_symbol _ s = None

-- ---- what stands first

-- the symbol stands first, a mark or a word
abbrev pub begins_symbol : Symbol → List Symbol → Bool
begins_symbol t s = is_some (after_symbol t s)

-- a comma stands first, and then the word
abbrev pub begins_comma_join : JoinWord → List Symbol → Bool
begins_comma_join w s = is_some (after_comma_join w s)

-- the sign is a state
unfoldable pub is_state : Sign → Bool
is_state (signs.State k) = true
is_state _ = false

-- a state stands first
unfoldable pub begins_state : List Symbol → Bool
begins_state [] = false
begins_state (t ∷ s) = is_state (sign_of t)

-- a comma stands first, and no state after it
unfoldable pub begins_count : List Symbol → Bool
begins_count [] = false
begins_count (t ∷ s) = is_mark (sign_of t) marks.Comma && not (begins_state s)

-- a string stands first
unfoldable pub begins_text : List Symbol → Bool
begins_text (Text bytes ∷ s) = true
begins_text _ = false

-- the choice of an item that the sign is, OPTIONAL or RECOMMENDED
unfoldable pub choice_of : Sign → Option ItemChoice
choice_of (signs.Join joins.Optional) = Some choices.Optional
choice_of (signs.Join joins.Recommended) = Some choices.Recommended
choice_of _ = None

-- such a choice stands first
unfoldable pub begins_choice : List Symbol → Bool
begins_choice [] = false
begins_choice (t ∷ s) = is_some (choice_of (sign_of t))

-- something stands there
abbrev pub begins_anything : List Symbol → Bool
begins_anything [] = false
begins_anything (t ∷ s) = true

-- The symbols begin as the part does. By this a reader knows whether a part that may be missing stands there, and which
-- of two parts does. A word after a comma, or a state there, tells what the comma belongs to; any other part is told by
-- its first sign, or else by nothing but that something stands there.
abbrev pub begins : {A : Type 0} → Part A → List Symbol → Bool
begins a_state s = begins_state s
begins a_text s = begins_text s
begins a_choice s = begins_choice s
begins (after (Plain (signs.Mark marks.Comma)) (after (Plain (signs.Join w)) p)) s = begins_comma_join w s
begins (after (Plain (signs.Mark marks.Comma)) (before an_expr t)) s = begins_count s
begins (after t p) s = begins_symbol t s
begins (before p t) s = begins p s
begins (both p q) s = begins p s
begins (maybe_hz p) s = begins p s
begins _ s = begins_anything s
