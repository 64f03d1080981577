-- A reader can tell the parts of each statement apart.
use Rattle.std.proofs.Common.{◌≡◌, ℤ, ◌<◌, Bool, true, false, List, [], ◌∷◌, ◌++◌, length, Option, Some, None, inl, inr, refl, ap, arith, append_assoc, length-append}
use Rattle.std.specs.Prelude.{◌⊎◌}
use Rattle.stapl_lexer.specs.declared.terminal.Mark.TheVariants as marks
use Rattle.stapl_lexer.specs.declared.terminal.JoinWord.{JoinWord}
use Rattle.stapl_lexer.specs.declared.terminal.JoinWord.TheVariants as joins
use Rattle.stapl_syntax.specs.declared.statement.ItemChoice.{ItemChoice}
use Rattle.stapl_syntax.specs.Symbols.{Symbol}
use Rattle.stapl_syntax.specs.Trees.{ExprTree, PartTree}
use Rattle.stapl_syntax.specs.Expressions.{right_square, dots}
use Rattle.stapl_syntax.specs.Parts.{Part, IsPart, hz, a_name, a_signed, an_expr, a_print_part, some_states, after, maybe_hz, maybe, either, listed, IsChoice, optional_item, recommended_item, IsSigned, unsigned, minus, IsPrintPart, of_string, of_value, of_character, comma, join, note_part, item_part, action_part, procedure_part, size_part, for_part, print_part, export_part, capture_part, compare_part, scan_part, pad_part, last_part, usec_part, first_part, frequency_part}
use Rattle.stapl_grammar.specs.Looks.{after_mark, after_join, after_comma_join, is_mark, mark_number, is_join, join_number, begins_symbol, begins_state, is_state, begins_count, begins_text, begins_choice, choice_of, begins_anything}
use Rattle.stapl_grammar.specs.Reading.{next_operator, operator_of}
use Rattle.stapl_grammar.specs.PartReading.{after_hz, more_states_at}
use Rattle.stapl_grammar.specs.BodyReading.{boolean_part, integer_part, range_or_element_part, indexed_part, assign_part, units_part, wait_part}
use Rattle.stapl_grammar.proofs.LeafLaws.{begins_term, some_symbol}
use Rattle.stapl_grammar.proofs.ListLaws.{IsSign}
use Rattle.stapl_grammar.proofs.PartLaws.{Follows, CanFollow, Shows, HasSymbols, IsApart, mark_sign, join_sign}

-- ---- which parts may follow one another

-- after a part that begins with a sign which the part before can't go on with
before_sign : {A B : Type 0} {p : Part A} {t : Symbol} {q : Part B} → ((r : List Symbol) → Follows p (t ∷ r)) → CanFollow p (after t q)
before_sign h = record { by = λ y b r m f g. rw m.1 (h (m.0 ++ r)) }

-- a part that may be missing
before_maybe : {A B : Type 0} {p : Part A} {q : Part B} → CanFollow p q → CanFollow p (maybe q)
before_maybe {A} {B} {p} {q} h = record { by = go }
  where
    go : (y : Option B) (b r : List Symbol) → IsPart (maybe q) y b → Follows p r → Follows (maybe q) r → Follows p (b ++ r)
    go None b r m f g = rw m f
    go (Some y) b r m f g = h.by y b r m f g.1

before_either : {A B C : Type 0} {p : Part A} {q : Part B} {o : Part C} → CanFollow p q → CanFollow p o → CanFollow p (either q o)
before_either {A} {B} {C} {p} {q} {o} h k = record { by = go }
  where
    go : (y : B ⊎ C) (b r : List Symbol) → IsPart (either q o) y b → Follows p r → Follows (either q o) r → Follows p (b ++ r)
    go (inl y) b r m f g = h.by y b r m f g.0
    go (inr y) b r m f g = k.by y b r m f g.1

-- a part that takes no more, whatever follows
before_any : {A B : Type 0} {p : Part A} {q : Part B} → ((r : List Symbol) → Follows p r) → CanFollow p q
before_any h = record { by = λ y b r m f g. h (b ++ r) }

-- a mark or a word that ends an expression
join_ends : (w : JoinWord) (r : List Symbol) → Follows an_expr (join w ∷ r)
unfolding after_mark is_mark next_operator operator_of
join_ends w r = (refl, refl)

comma_ends : (r : List Symbol) → Follows an_expr (comma ∷ r)
unfolding after_mark is_mark mark_number next_operator operator_of
comma_ends r = (refl, refl)

dots_end : (r : List Symbol) → Follows an_expr (dots ∷ r)
unfolding after_mark is_mark mark_number next_operator operator_of
dots_end r = (refl, refl)

square_ends : (r : List Symbol) → Follows an_expr (right_square ∷ r)
unfolding after_mark is_mark mark_number next_operator operator_of
square_ends r = (refl, refl)

pub nothing_ends : Follows an_expr []
unfolding after_mark next_operator
nothing_ends = (refl, refl)

pub no_bracket : after_mark marks.LeftSquare [] ≡ None
unfolding after_mark
no_bracket = refl

-- ---- what shows by its first sign

shows_symbol : {A : Type 0} {p : Part A} {t : Symbol} → IsSign t → Shows (begins_symbol t) true (after t p)
shows_symbol {t = t} sign = record { by = λ x s r i h. rw (i.1, sign (i.0 ++ r)) refl }

shows_sign : {A : Type 0} {p : Part A} {look : List Symbol → Bool} {answer : Bool} {t : Symbol} → ((r : List Symbol) → look (t ∷ r) ≡ answer) → Shows look answer (after t p)
shows_sign h = record { by = λ x s r m n. rw m.1 (h (m.0 ++ r)) }

-- a part that may be missing is told from another sign
shows_not : {A : Type 0} {p : Part A} {look : List Symbol → Bool} {t : Symbol} → ((r : List Symbol) → look (t ∷ r) ≡ false) → Shows look false (maybe (after t p))
shows_not {A} {p} {look} {t} h = record { by = go }
  where
    go : (x : Option A) (s r : List Symbol) → IsPart (maybe (after t p)) x s → look r ≡ false → look (s ++ r) ≡ false
    go None s r m n = rw m n
    go (Some x) s r m n = rw m.1 (h (m.0 ++ r))

-- ---- lists

pub has_name : HasSymbols a_name
has_name = record { by = λ x s m. rw m (omega arith) }

signed_some : {s : List Symbol} {z : ℤ} → IsSigned s z → 0 < length s
signed_some unsigned = omega arith
signed_some minus = omega arith

pub has_signed : HasSymbols a_signed
has_signed = record { by = λ x s m. signed_some m }

print_part_some : {s : List Symbol} {p : PartTree} → IsPrintPart s p → 0 < length s
print_part_some of_string = omega arith
print_part_some (of_value {s = s} {e = e} m) = some_symbol s e m
print_part_some (of_character m) = omega arith

pub has_print_part : HasSymbols a_print_part
has_print_part = record { by = λ x s m. print_part_some m }

pub has_item : HasSymbols item_part
has_item = record { by = λ x s m. rw (m.2, m.3) (omega arith) }

names_apart : IsApart (listed comma a_name)
names_apart = (mark_sign marks.Comma, tt, has_name, λ r. tt)

signed_list_apart : IsApart (listed comma a_signed)
signed_list_apart = (mark_sign marks.Comma, tt, has_signed, λ r. tt)

pub print_apart : IsApart print_part
print_apart = (mark_sign marks.Comma, tt, has_print_part, comma_ends)

-- ---- statements outside procedures

pub note_apart : IsApart note_part
note_apart = (tt, tt, before_any (λ r. tt))

choice_shows : {s : List Symbol} {c : ItemChoice} → IsChoice s c → (r : List Symbol) → begins_choice (s ++ r) ≡ true
unfolding begins_choice choice_of
choice_shows optional_item r = refl
choice_shows recommended_item r = refl

item_apart : IsApart item_part
item_apart = (tt, (tt, record { by = λ x s r m h. choice_shows m r }), before_any (λ r. tt))

comma_after_item : (r : List Symbol) → Follows item_part (comma ∷ r)
unfolding begins_choice choice_of
comma_after_item r = (tt, (refl, tt))

pub action_apart : IsApart action_part
unfolding begins_text
action_apart = (
  tt,
  ((tt, record { by = λ x s r m h. rw m refl }), (mark_sign marks.Equals, (mark_sign marks.Comma, item_apart, has_item, comma_after_item)), before_sign (λ r. (refl, tt))),
  before_any (λ r. tt),
)

pub procedure_apart : IsApart procedure_part
procedure_apart = (tt, ((join_sign joins.Uses, names_apart), shows_symbol (join_sign joins.Uses)), before_any (λ r. tt))

-- ---- declarations

size_apart : IsApart size_part
size_apart = (mark_sign marks.LeftSquare, (mark_sign marks.RightSquare, tt, λ r. tt))

pub boolean_apart : IsApart boolean_part
unfolding after_mark is_mark mark_number
boolean_apart = (
  tt,
  (
    (size_apart, ((mark_sign marks.Equals, tt), shows_symbol (mark_sign marks.Equals)), before_any (λ r. tt)),
    ((mark_sign marks.Equals, tt), shows_symbol (mark_sign marks.Equals)),
    record { by = λ x s r m h. rw (m.2, m.3.1) refl },
    shows_not (λ r. refl),
  ),
  before_any (λ r. tt),
)

pub integer_apart : IsApart integer_part
unfolding after_mark is_mark mark_number
integer_apart = (
  tt,
  (
    (size_apart, ((mark_sign marks.Equals, signed_list_apart), shows_symbol (mark_sign marks.Equals)), before_any (λ r. tt)),
    ((mark_sign marks.Equals, tt), shows_symbol (mark_sign marks.Equals)),
    record { by = λ x s r m h. rw (m.2, m.3.1) refl },
    shows_not (λ r. refl),
  ),
  before_any (λ r. tt),
)

-- ---- assignments

range_or_element_apart : IsApart range_or_element_part
unfolding after_mark is_mark mark_number
range_or_element_apart = (
  (mark_sign marks.Dots, (tt, (mark_sign marks.RightSquare, (mark_sign marks.Equals, tt)), before_sign square_ends)),
  (mark_sign marks.RightSquare, (mark_sign marks.Equals, tt)),
  shows_symbol (mark_sign marks.Dots),
  shows_sign (λ r. refl),
)

indexed_apart : IsApart indexed_part
indexed_apart = (
  (mark_sign marks.RightSquare, (mark_sign marks.Equals, tt)),
  (tt, range_or_element_apart, before_either (before_sign dots_end) (before_sign square_ends)),
  shows_symbol (mark_sign marks.RightSquare),
  record { by = λ x s r m h. rw (m.2, append_assoc m.0 m.1 r, (begins_term m.0 x.0 m.3 (m.1 ++ r)).closing) refl },
)

pub assign_apart : IsApart assign_part
unfolding after_mark is_mark mark_number
assign_apart = ((mark_sign marks.Equals, tt), (mark_sign marks.LeftSquare, indexed_apart), shows_symbol (mark_sign marks.Equals), shows_sign (λ r. refl))

-- ---- other statements that may stand after THEN

pub for_apart : IsApart for_part
for_apart = (
  tt,
  (
    mark_sign marks.Equals,
    (
      tt,
      (
        join_sign joins.To,
        (
          tt,
          ((join_sign joins.Step, tt), shows_symbol (join_sign joins.Step)),
          before_maybe (before_sign (join_ends joins.Step)),
        ),
      ),
      before_sign (join_ends joins.To),
    ),
  ),
  before_any (λ r. tt),
)

pub export_apart : IsApart export_part
export_apart = (tt, (mark_sign marks.Comma, tt), before_any (λ r. tt))

-- ---- statements that drive the test access port

capture_apart : IsApart capture_part
unfolding after_comma_join after_mark is_mark mark_number after_join is_join join_number
capture_apart = ((mark_sign marks.Comma, (join_sign joins.Capture, tt)), record { by = λ x s r m h. rw (m.1, m.2.1) refl })

compare_apart : IsApart compare_part
unfolding after_comma_join after_mark is_mark mark_number after_join is_join join_number
compare_apart = (
  (mark_sign marks.Comma, (join_sign joins.Compare, (tt, (mark_sign marks.Comma, (tt, (mark_sign marks.Comma, tt), before_any (λ r. tt))), before_any (λ r. tt)))),
  record { by = λ x s r m h. rw (m.1, m.2.1) refl },
)

compare_after_capture : CanFollow capture_part compare_part
unfolding after_comma_join after_mark is_mark mark_number after_join is_join join_number
compare_after_capture = before_maybe (record { by = λ y b r m f g. rw (m.1, m.2.1) (refl, tt) })

pub scan_apart : IsApart scan_part
scan_apart = (tt, (mark_sign marks.Comma, (tt, (capture_apart, compare_apart, compare_after_capture), before_any (λ r. tt))), before_sign comma_ends)

pub pad_apart : IsApart pad_part
pad_apart = (tt, ((mark_sign marks.Comma, tt), shows_symbol (mark_sign marks.Comma)), before_maybe (before_sign comma_ends))

last_apart : IsApart last_part
last_apart = ((mark_sign marks.Comma, tt), shows_symbol (mark_sign marks.Comma))

usec_apart : IsApart usec_part
unfolding begins_count is_mark mark_number
usec_apart = (
  (mark_sign marks.Comma, (join_sign joins.Usec, tt, join_ends joins.Usec)),
  record { by = λ x s r m h. rw (m.1, m.2.1, append_assoc m.2.0 (join joins.Usec ∷ []) r, (begins_term m.2.0 x m.2.2 (join joins.Usec ∷ r)).state) refl },
)

last_after_usec : CanFollow usec_part last_part
unfolding begins_count is_mark mark_number begins_state is_state
last_after_usec = before_maybe (record { by = λ y b r m f g. rw (m.1, m.2) (refl, tt) })

units_apart : IsApart units_part
unfolding after_join is_join join_number
units_apart = (
  (join_sign joins.Cycles, (usec_apart, last_apart, last_after_usec)),
  (join_sign joins.Usec, last_apart),
  shows_symbol (join_sign joins.Cycles),
  shows_sign (λ r. refl),
)

first_apart : IsApart first_part
unfolding begins_state is_state
first_apart = ((mark_sign marks.Comma, tt, λ r. tt), record { by = λ x s r m h. rw (m.1, m.2) refl })

pub wait_apart : IsApart wait_part
wait_apart = (
  first_apart,
  (tt, units_apart, before_either (before_sign (join_ends joins.Cycles)) (before_sign (join_ends joins.Usec))),
  record { by = λ y b r m f g. rw (m.2, append_assoc m.0 m.1 r) ((begins_term m.0 y.0 m.3 (m.1 ++ r)).state, tt) },
)

anything_shows : (s r : List Symbol) → 0 < length s → begins_anything (s ++ r) ≡ true
anything_shows [] r lt = absurd (omega arith)
anything_shows (t ∷ s) r lt = refl

frequency_some : (e : ExprTree) (s : List Symbol) → IsPart (maybe_hz an_expr) e s → 0 < length s
frequency_some e s (inl m) = some_symbol s e m
frequency_some e s (inr m) = omega (arith, ap length m.1, length-append m.0 (hz ∷ []))

pub frequency_apart : IsApart frequency_part
frequency_apart = (tt, record { by = λ x s r m h. anything_shows s r (frequency_some x s m) })

-- ---- nothing stands after them

pub action_end : Follows action_part []
unfolding begins_text begins_choice after_mark
action_end = (tt, ((refl, tt), ((tt, (refl, tt)), refl)))

pub procedure_end : Follows procedure_part []
unfolding after_join after_mark
procedure_end = (tt, (refl, (tt, refl)))

pub boolean_end : Follows boolean_part []
unfolding after_mark
boolean_end = (tt, ((tt, (refl, tt)), (refl, tt), refl))

pub integer_end : Follows integer_part []
unfolding after_mark
integer_end = (tt, ((tt, (refl, (tt, refl))), (refl, tt), refl))

pub assign_end : Follows assign_part []
unfolding after_mark
assign_end = (nothing_ends, (tt, (nothing_ends, ((nothing_ends, tt), nothing_ends, refl)), refl), refl)

pub for_end : Follows for_part []
unfolding after_join
for_end = (tt, (nothing_ends, (nothing_ends, (refl, nothing_ends))))

pub print_end : Follows print_part []
unfolding after_mark
print_end = (nothing_ends, refl)

pub export_end : Follows export_part []
export_end = (tt, nothing_ends)

pub scan_end : Follows scan_part []
unfolding after_comma_join after_mark
scan_end = (nothing_ends, (tt, ((refl, tt), (refl, (tt, (tt, refl))))))

pub pad_end : Follows pad_part []
unfolding after_mark
pad_end = (nothing_ends, (refl, tt))

pub wait_end : Follows wait_part []
unfolding begins_state begins_count after_join after_mark
wait_end = ((refl, tt), (nothing_ends, (((refl, tt), (refl, tt)), (refl, tt), refl)))

pub frequency_end : Follows frequency_part []
unfolding after_mark is_mark next_operator operator_of after_hz
frequency_end = (refl, (nothing_ends, (refl, refl), refl))

pub states_end : Follows some_states []
unfolding more_states_at
states_end = refl
