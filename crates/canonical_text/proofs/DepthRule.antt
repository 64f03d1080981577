-- The depth rule does not stand against a printed statement.
use Rattle.std.proofs.Common.{◌≡◌, ℕ, ℤ, pos, negsuc, ◌+◌, ◌-◌, ◌<◌, ◌≤◌, Bool, true, false, cond, not, ◌&&◌, ◌||◌, List, [], ◌∷◌, ◌++◌, drop, Option, Some}
use Rattle.std.proofs.Common.{None, inl, inr, refl, sym, ap, subst, ◌∙◌, arith}
use Rattle.std.specs.Prelude.{nat_lt, nat_le, is_none}
use Rattle.std.specs.List.{list_any, list_all}
use Rattle.std.proofs.lemmas.Bool.{and_parts, cases_lt}
use Rattle.std.proofs.lemmas.Bool.Decides.{nat_tests}
use Rattle.std.proofs.lemmas.List.{map-append}
use Rattle.std.proofs.lemmas.List.Sums.{sum_by-cons}
use Rattle.stapl_lexer.specs.declared.piece.Piece.{Piece}
use Rattle.stapl_lexer.specs.declared.reason.Reason.TheVariants as reasons
use Rattle.stapl_lexer.specs.declared.terminal.Terminal.{Terminal}
use Rattle.stapl_lexer.specs.declared.terminal.Terminal.TheVariants as terminals
use Rattle.stapl_lexer.specs.declared.token.Token.{Token}
use Rattle.stapl_lexer.specs.declared.token.TokenKind.{TokenKind}
use Rattle.stapl_lexer.specs.declared.token.TokenKind.TheVariants as kinds
use Rattle.stapl_lexer.specs.Depth.{is_word, is_opening, is_closing, is_condition, is_operator, is_colon, is_integer, count_of, HasOpenBrackets, is_label_word}
use Rattle.stapl_lexer.specs.Depth.{after_label, begins_with_integer, IsTooDeep, Brackets, Conditions, Operators}
use Rattle.stapl_lexer.specs.Names.{is_name}
use Rattle.stapl_lexer.specs.PieceTokens.{token_bytes, terminal_of, first_word, Lexeme, HasLexemes}
use Rattle.stapl_lexer.specs.PieceFaults.{is_long_word, tokens_of, Deep, AreGoodTokens}
use Rattle.std.specs.Str.{str_to_ascii_uppercase}
use Rattle.stapl_syntax.specs.declared.signs.Sign.{Sign}
use Rattle.stapl_syntax.specs.declared.signs.Sign.TheVariants as signs
use Rattle.stapl_syntax.specs.Symbols.{Symbol, Plain, terminal_sign, word_sign, mark_sign, symbol_as, symbol_of, symbols_of}
use Rattle.stapl_syntax.specs.Expressions.{name, left_square}
use Rattle.stapl_lexer.specs.declared.terminal.InnerWord.TheVariants as inner_words
use Rattle.stapl_lexer.specs.declared.terminal.OuterWord.TheVariants as outer_words
use Rattle.stapl_lexer.specs.declared.terminal.PortWord.TheVariants as port_words
use Rattle.stapl_lexer.specs.declared.terminal.SimpleWord.TheVariants as simple_words
use Rattle.stapl_syntax.specs.Trees.{BodyTree, note, action, procedure, data_block, end_data, crc, end_procedure, boolean, boolean_array, integer}
use Rattle.stapl_syntax.specs.Trees.{integer_array, assign, assign_element, assign_array, assign_range, call, goto, if_then, for_loop, next, push, pop, print}
use Rattle.stapl_syntax.specs.Trees.{export, exit, scan, stop, pad, state_list, wait_cycles, wait_usec, frequency, StmtTree}
use Rattle.stapl_syntax.specs.Parts.{IsSigned, unsigned, minus, equals}
use Rattle.stapl_syntax.specs.Statements.{outer, inner, simple, if_word, port, IsBody, IsLabelled, IsPieceStatement, is_unconditional}
use Rattle.canonical_text.specs.PrintedTokens.{seen, unary_symbol}
use Rattle.canonical_text.specs.Spellable.{is_spellable}
use Rattle.canonical_text.specs.PrintedStatements.{signed_tokens, body_tokens, label_tokens, stmt_tokens}
use Rattle.canonical_text.specs.Printable.{sign_terminal, symbol_terminal, conditions, operators, one_if, weight, openings, closings, OpensMany, is_integer_body, CanBePrinted}
use Rattle.canonical_text.proofs.Grammar.{symbols}
use Rattle.canonical_text.proofs.Kept.{LeavesOpen, NeedsSigned, means_kept}
use Rattle.canonical_text.proofs.BodyNesting.{no_deeper}

-- ---- a token is the terminal that is seen of it

terminal_back : (t : Terminal) → sign_terminal (terminal_sign t) ≡ Some t
unfolding sign_terminal terminal_sign
terminal_back (terminals.Operator op) = refl
terminal_back (terminals.Mark m) = refl
terminal_back (terminals.Outer w) = refl
terminal_back (terminals.Inner w) = refl
terminal_back (terminals.Simple w) = refl
terminal_back terminals.If = refl
terminal_back (terminals.Port w) = refl
terminal_back (terminals.Join w) = refl
terminal_back (terminals.Function f) = refl
terminal_back (terminals.State k) = refl
terminal_back terminals.LeftOutStatement = refl
terminal_back terminals.LeftOutWord = refl

no_terminal : (b : Bool) (v : List ℕ) → sign_terminal (cond b (signs.Name v) signs.Other) ≡ None
unfolding sign_terminal
no_terminal true v = refl
no_terminal false v = refl

of_word : (terminal : Option Terminal) (own : List ℕ) → sign_terminal (word_sign terminal own) ≡ terminal
of_word (Some t) own = terminal_back t
of_word None own = no_terminal (is_name (str_to_ascii_uppercase own)) (str_to_ascii_uppercase own)

of_mark : (terminal : Option Terminal) → sign_terminal (mark_sign terminal) ≡ terminal
unfolding sign_terminal
of_mark (Some t) = terminal_back t
of_mark None = refl

terminal_seen : (kind : TokenKind) (z : ℤ) (terminal : Option Terminal) (own : List ℕ) → terminal ≡ terminal_of kind own →
    symbol_terminal (symbol_as kind z terminal own) ≡ terminal
unfolding symbol_terminal sign_terminal
terminal_seen kinds.Word z terminal own e = of_word terminal own
terminal_seen kinds.Number z terminal own e = sym e
terminal_seen kinds.Text z terminal own e = sym e
terminal_seen kinds.Mark z terminal own e = of_mark terminal
terminal_seen kinds.Binary z terminal own e = sym e
terminal_seen kinds.Hexadecimal z terminal own e = sym e
terminal_seen kinds.Hex4 z terminal own e = sym e

-- what is seen of each token is the terminal that it is
abbrev pub AreSeen : List ℕ → List Token → Type 0
AreSeen text [] = Unit {0}
AreSeen text (token ∷ tokens) = (symbol_terminal (symbol_of text token) ≡ token.terminal) × AreSeen text tokens

lexemes_seen : (text : List ℕ) (first : Option Bool) (at limit : ℕ) (lexemes : List Lexeme) → HasLexemes text first at limit lexemes → AreSeen text (tokens_of lexemes)
lexemes_seen text first at limit [] has = tt
lexemes_seen text first at limit (l ∷ ls) has = (
  terminal_seen l.token.kind l.token.value l.token.terminal (token_bytes text l.token) has.0.terminal,
  lexemes_seen text (first_word first l.token.kind (token_bytes text l.token)) l.token.end limit ls has.1,
)

pub tokens_seen : (text : List ℕ) (piece : Piece) (tokens : List Token) → AreGoodTokens text piece tokens → AreSeen text tokens
tokens_seen text piece tokens are =
    subst (AreSeen text) (sym are.tokens_are) (lexemes_seen text None piece.start piece.end are.lexemes are.has)

seen_left : (text : List ℕ) (a b : List Token) → AreSeen text (a ++ b) → AreSeen text a
seen_left text [] b are = tt
seen_left text (t ∷ a) b are = (are.0, seen_left text a b are.1)

seen_right : (text : List ℕ) (a b : List Token) → AreSeen text (a ++ b) → AreSeen text b
seen_right text [] b are = are
seen_right text (t ∷ a) b are = seen_right text a b are.1

pub count_seen : (test : Option Terminal → Bool) (text : List ℕ) (tokens : List Token) → AreSeen text tokens →
    count_of test tokens ≡ weight (λ t. test (symbol_terminal t)) (symbols_of text tokens)
count_seen test text [] are = refl
count_seen test text (t ∷ ts) are = sum_by-cons (λ (x : Token). cond (test x.terminal) 1 0) t ts
    ∙ by (test t.terminal) (test (symbol_terminal (symbol_of text t))) (ap test (sym are.0)) (count_seen test text ts are.1)
  where
    by : (a b : Bool) → a ≡ b → count_of test ts ≡ weight (λ t. test (symbol_terminal t)) (symbols_of text ts) →
        cond a 1 0 + count_of test ts ≡ one_if b + weight (λ t. test (symbol_terminal t)) (symbols_of text ts)
    by true true e h = omega (arith, h)
    by false false e h = omega (arith, h)
    by true false e h = absurd cc
    by false true e h = absurd cc

-- ---- brackets

pub opens_of : (text : List ℕ) (tokens : List Token) → AreSeen text tokens → HasOpenBrackets tokens → OpensMany (symbols_of text tokens)
opens_of text tokens are many =
    let all = subst (AreSeen text) many.parts are in
    let run_seen = seen_left text many.run many.rest (seen_right text many.front (many.run ++ many.rest) all) in
    let o = count_seen is_opening text many.run run_seen in
    let c = count_seen is_closing text many.run run_seen in
    record {
      front = symbols_of text many.front;
      run = symbols_of text many.run;
      rest = symbols_of text many.rest;
      parts = ap (symbols_of text) many.parts ∙ map-append (symbol_of text) many.front (many.run ++ many.rest)
          ∙ ap (λ (v : List Symbol). symbols_of text many.front ++ v) (map-append (symbol_of text) many.run many.rest);
      deep = omega (arith, many.deep, o, c);
    }

-- a split of what is seen splits the tokens
record SplitsAt (text : List ℕ) (tokens : List Token) (a b : List Symbol) : Type 0 where
  front : List Token
  rest : List Token
  parts : tokens ≡ front ++ rest
  front_is : symbols_of text front ≡ a
  rest_is : symbols_of text rest ≡ b

split_at : (text : List ℕ) (tokens : List Token) (a b : List Symbol) → symbols_of text tokens ≡ a ++ b → SplitsAt text tokens a b
split_at text tokens [] b e = record { front = []; rest = tokens; parts = refl; front_is = refl; rest_is = e }
split_at text [] (s ∷ a) b e = absurd cc
split_at text (t ∷ ts) (s ∷ a) b e =
    let more = split_at text ts a b (ap (drop 1) e) in
    let first : symbol_of text t ≡ s = heads e in
    record {
      front = t ∷ more.front;
      rest = more.rest;
      parts = ap (λ (v : List Token). t ∷ v) more.parts;
      front_is = ap (λ (v : Symbol). v ∷ symbols_of text more.front) first ∙ ap (λ (v : List Symbol). s ∷ v) more.front_is;
      rest_is = more.rest_is;
    }
  where
    heads : {x y : Symbol} {xs ys : List Symbol} → x ∷ xs ≡ y ∷ ys → x ≡ y
    heads e = cc

pub opens_back : (text : List ℕ) (tokens : List Token) → AreSeen text tokens → OpensMany (symbols_of text tokens) → HasOpenBrackets tokens
opens_back text tokens are many =
    let first = split_at text tokens many.front (many.run ++ many.rest) many.parts in
    let later = split_at text first.rest many.run many.rest first.rest_is in
    let all = subst (AreSeen text) first.parts are in
    let after = subst (AreSeen text) later.parts (seen_right text first.front first.rest all) in
    let run_seen = seen_left text later.front later.rest after in
    let o = count_seen is_opening text later.front run_seen ∙ ap openings later.front_is in
    let c = count_seen is_closing text later.front run_seen ∙ ap closings later.front_is in
    record {
      front = first.front;
      run = later.front;
      rest = later.rest;
      parts = first.parts ∙ ap (λ (v : List Token). first.front ++ v) later.parts;
      deep = omega (arith, many.deep, o, c);
    }

-- ---- how a statement begins

-- with a reserved word, which is INTEGER or not, or with a name that no colon follows
data Head (s : List Symbol) (b : BodyTree) : Type 0 where
  by_word : (w : Symbol) (r : List Symbol) → s ≡ w ∷ r → is_none (symbol_terminal w) ≡ false → is_integer (symbol_terminal w) ≡ is_integer_body b → Head s b
  by_name : (v : List ℕ) (w : Symbol) (r : List Symbol) → s ≡ name v ∷ w ∷ r → is_colon (symbol_terminal w) ≡ false → is_integer_body b ≡ false → Head s b

named : (s a b r : List Symbol) (v : List ℕ) (w : Symbol) → s ≡ a ++ b → a ≡ name v ∷ [] → b ≡ w ∷ r → s ≡ name v ∷ w ∷ r
named s a b r v w e p q = e ∙ ap (λ (x : List Symbol). x ++ b) p ∙ ap (λ (x : List Symbol). name v ∷ x) q

head_of : (s : List Symbol) (b : BodyTree) → IsBody s b → Head s b
unfolding symbol_terminal sign_terminal is_integer is_colon
head_of s (note key text) is = by_word (outer outer_words.Note) is.0 is.1 refl refl
head_of s (action v text items) is = by_word (outer outer_words.Action) is.0 is.1 refl refl
head_of s (procedure v uses) is = by_word (outer outer_words.Procedure) is.0 is.1 refl refl
head_of s (data_block v) is = by_word (outer outer_words.Data) is.0 is.1 refl refl
head_of s end_data is = by_word (outer outer_words.EndData) [] is refl refl
head_of s (crc n) is = by_word (outer outer_words.Crc) is.0 is.1 refl refl
head_of s end_procedure is = by_word (inner inner_words.EndProcedure) [] is refl refl
head_of s (boolean v start) is = by_word (inner inner_words.Boolean) is.0 is.1 refl refl
head_of s (boolean_array v n bits) is = by_word (inner inner_words.Boolean) is.0 is.1 refl refl
head_of s (integer v start) is = by_word (inner inner_words.Integer) is.0 is.1 refl refl
head_of s (integer_array v n start) is = by_word (inner inner_words.Integer) is.0 is.1 refl refl
head_of s (assign v e) is = by_name v equals is.4.0 (named s is.0 is.1 is.4.0 v equals is.2 is.3 is.4.1) refl refl
head_of s (assign_element v i e) is = by_name v left_square is.4.0 (named s is.0 is.1 is.4.0 v left_square is.2 is.3 is.4.1) refl refl
head_of s (assign_array v a) is = by_name v left_square is.4.0 (named s is.0 is.1 is.4.0 v left_square is.2 is.3 is.4.1) refl refl
head_of s (assign_range v h l a) is = by_name v left_square is.4.0 (named s is.0 is.1 is.4.0 v left_square is.2 is.3 is.4.1) refl refl
head_of s (call v) is = by_word (simple simple_words.Call) is.0 is.1 refl refl
head_of s (goto v) is = by_word (simple simple_words.Goto) is.0 is.1 refl refl
head_of s (if_then e b) is = by_word if_word _ is.2 refl refl
head_of s (for_loop v a b c) is = by_word (simple simple_words.For) is.0 is.1 refl refl
head_of s (next v) is = by_word (simple simple_words.Next) is.0 is.1 refl refl
head_of s (push e) is = by_word (simple simple_words.Push) is.0 is.1 refl refl
head_of s (pop e) is = by_word (simple simple_words.Pop) is.0 is.1 refl refl
head_of s (print parts) is = by_word (simple simple_words.Print) is.0 is.1 refl refl
head_of s (export key x) is = by_word (simple simple_words.Export) is.0 is.1 refl refl
head_of s (exit e) is = by_word (simple simple_words.Exit) is.0 is.1 refl refl
head_of s (scan k e a t c) is = by_word (port (port_words.Scan k)) is.0 is.1 refl refl
head_of s (stop k state) is = by_word (port (port_words.Stop k)) is.0 is.1 refl refl
head_of s (pad k e a) is = by_word (port (port_words.Pad k)) is.0 is.1 refl refl
head_of s (state_list states) is = by_word (port port_words.State) is.0 is.1 refl refl
head_of s (wait_cycles k e u l) is = by_word (port port_words.Wait) is.0 is.1 refl refl
head_of s (wait_usec k e l) is = by_word (port port_words.Wait) is.0 is.1 refl refl
head_of s (frequency e) is = by_word (port port_words.Frequency) is.0 is.1 refl refl

head_same : {x y : Symbol} {xs ys : List Symbol} → x ∷ xs ≡ y ∷ ys → x ≡ y
head_same e = cc

tail_same : {x y : Symbol} {xs ys : List Symbol} → x ∷ xs ≡ y ∷ ys → xs ≡ ys
tail_same e = ap (drop 1) e

clash : {P : Type 0} (b : Bool) → b ≡ true → b ≡ false → P
clash b e f = absurd cc

-- what begins with INTEGER declares one
integer_first : (t : Symbol) (s : List Symbol) (b : BodyTree) → Head (t ∷ s) b → is_integer (symbol_terminal t) ≡ true → is_integer_body b ≡ true
unfolding symbol_terminal sign_terminal is_integer
integer_first t s b (by_word w r e some is) i = sym is ∙ ap (λ (x : Symbol). is_integer (symbol_terminal x)) (sym (head_same e)) ∙ i
integer_first t s b (by_name v w r e colon not) i = clash (is_integer (symbol_terminal t)) i (ap (λ (x : Symbol). is_integer (symbol_terminal x)) (head_same e))

-- no statement without its label begins with a name and a colon
no_colon : (t u : Symbol) (s : List Symbol) (b : BodyTree) → Head (t ∷ u ∷ s) b → is_none (symbol_terminal t) ≡ true → is_colon (symbol_terminal u) ≡ true → ⊥
no_colon t u s b (by_word w r e some is) none colon = clash (is_none (symbol_terminal t)) none (ap (λ (x : Symbol). is_none (symbol_terminal x)) (head_same e) ∙ some)
no_colon t u s b (by_name v w r e free is) none colon = clash (is_colon (symbol_terminal u)) colon (ap (λ (x : Symbol). is_colon (symbol_terminal x)) (head_same (tail_same e)) ∙ free)

-- ---- INTEGER as the first word after a label

label_terminal : (a : Token) → is_label_word a ≡ true → is_none a.terminal ≡ true
label_terminal a e = (and_parts (is_word a.kind) (is_none a.terminal) (and_parts _ (nat_le (a.end - a.start) 32) e).0).1

begins_integer : (text : List ℕ) (tokens : List Token) (label : Option (List ℕ)) (b : BodyTree) → AreSeen text tokens → IsLabelled (symbols_of text tokens) label b →
    begins_with_integer (after_label tokens) ≡ true → is_integer_body b ≡ true
unfolding symbol_terminal sign_terminal is_integer
begins_integer text [] label b are is e = absurd cc
begins_integer text (a ∷ []) None b are is e =
    integer_first (symbol_of text a) [] b (head_of _ b is) (ap is_integer are.0 ∙ e)
begins_integer text (a ∷ []) (Some v) b are is e = absurd (let f = tail_same is.1 in cc)
begins_integer text (a ∷ c ∷ ts) None b are is e = by (is_label_word a && is_colon c.terminal) refl e
  where
    by : (k : Bool) → (is_label_word a && is_colon c.terminal) ≡ k → begins_with_integer (cond k ts (a ∷ c ∷ ts)) ≡ true → is_integer_body b ≡ true
    by true k e =
        let both = and_parts (is_label_word a) (is_colon c.terminal) k in
        absurd (no_colon (symbol_of text a) (symbol_of text c) (symbols_of text ts) b (head_of _ b is) (ap is_none are.0 ∙ label_terminal a both.0) (ap is_colon are.1.0 ∙ both.1))
    by false k e = integer_first (symbol_of text a) (symbols_of text (c ∷ ts)) b (head_of _ b is) (ap is_integer are.0 ∙ e)
begins_integer text (a ∷ c ∷ ts) (Some v) b are is e = by (is_label_word a && is_colon c.terminal) e
  where
    after : (us : List Token) → us ≡ ts → begins_with_integer us ≡ true → is_integer_body b ≡ true
    after [] same e = absurd cc
    after (u ∷ us) same e =
        let rest : symbols_of text (u ∷ us) ≡ is.0 = ap (symbols_of text) same ∙ tail_same (tail_same is.1) in
        let seen_u : AreSeen text (u ∷ us) = subst (AreSeen text) (sym same) are.1.1 in
        integer_first (symbol_of text u) (symbols_of text us) b (head_of (symbol_of text u ∷ symbols_of text us) b (subst (λ (x : List Symbol). IsBody x b) (sym rest) is.3))
        (ap is_integer seen_u.0 ∙ e)

    by : (k : Bool) → begins_with_integer (cond k ts (a ∷ c ∷ ts)) ≡ true → is_integer_body b ≡ true
    by true e = after ts refl e
    by false e = clash (is_integer a.terminal) e (ap is_integer (sym are.0) ∙ ap (λ (x : Symbol). is_integer (symbol_terminal x)) (head_same is.1))

-- the other way round for what is printed
plain_same : {x y : Sign} → Plain x ≡ Plain y → x ≡ y
plain_same e = cc

named_terminal : (t : Terminal) (v : List ℕ) → terminal_sign t ≡ signs.Name v → ⊥
unfolding sign_terminal
named_terminal t v e = let f = ap sign_terminal e in let g = terminal_back t in cc

word_of_name : (kind : TokenKind) (z : ℤ) (terminal : Option Terminal) (own v : List ℕ) → symbol_as kind z terminal own ≡ name v → is_word kind ≡ true
word_of_name kinds.Word z terminal own v e = refl
word_of_name kinds.Number z terminal own v e = absurd cc
word_of_name kinds.Text z terminal own v e = absurd cc
word_of_name kinds.Mark z (Some t) own v e = absurd (named_terminal t v (plain_same e))
word_of_name kinds.Mark z None own v e = absurd cc
word_of_name kinds.Binary z terminal own v e = absurd cc
word_of_name kinds.Hexadecimal z terminal own v e = absurd cc
word_of_name kinds.Hex4 z terminal own v e = absurd cc

short_label : (a : Token) (v : List ℕ) (text : List ℕ) → symbol_of text a ≡ name v → symbol_terminal (symbol_of text a) ≡ a.terminal → is_long_word a ≡ false → is_label_word a ≡ true
unfolding symbol_terminal sign_terminal
short_label a v text e is short =
    let word = word_of_name a.kind a.value a.terminal (token_bytes text a) v e in
    let none : is_none a.terminal ≡ true = ap is_none (sym is ∙ ap symbol_terminal e) in
    by (is_word a.kind) (is_none a.terminal) word none (length_of (a.end - a.start) (ap (λ (b : Bool). b && nat_lt 32 (a.end - a.start)) (sym word) ∙ short))
  where
    length_of : (n : ℕ) → (true && nat_lt 32 n) ≡ false → nat_le n 32 ≡ true
    length_of n e = grind (arith, nat_tests, e)

    by : (w n : Bool) → w ≡ true → n ≡ true → nat_le (a.end - a.start) 32 ≡ true → (w && n && nat_le (a.end - a.start) 32) ≡ true
    by true true p q h = h
    by false n p q h = absurd cc
    by true false p q h = absurd cc

or_parts : (a b : Bool) → (a || b) ≡ false → (a ≡ false) × (b ≡ false)
or_parts false b e = (refl, e)
or_parts true b e = absurd cc

-- an INTEGER declaration is printed with its word first, after the label
printed_integer : (text : List ℕ) (tokens : List Token) (label : Option (List ℕ)) (b : BodyTree) (r : List Symbol) → AreSeen text tokens →
    list_any is_long_word tokens ≡ false → symbols_of text tokens ≡ symbols (label_tokens label) ++ (inner inner_words.Integer ∷ r) → begins_with_integer (after_label tokens) ≡ true
unfolding symbol_terminal sign_terminal is_integer is_colon
printed_integer text [] None b r are short e = absurd cc
printed_integer text [] (Some v) b r are short e = absurd cc
printed_integer text (a ∷ []) None b r are short e = ap is_integer (sym are.0) ∙ ap (λ (x : Symbol). is_integer (symbol_terminal x)) (head_same e)
printed_integer text (a ∷ []) (Some v) b r are short e = absurd (let f = tail_same e in cc)
printed_integer text (a ∷ c ∷ ts) None b r are short e = by (is_label_word a && is_colon c.terminal) refl
  where
    some : is_none a.terminal ≡ false
    some = ap is_none (sym are.0) ∙ ap (λ (x : Symbol). is_none (symbol_terminal x)) (head_same e)

    by : (k : Bool) → (is_label_word a && is_colon c.terminal) ≡ k → begins_with_integer (cond k ts (a ∷ c ∷ ts)) ≡ true
    by true k = clash (is_none a.terminal) (label_terminal a (and_parts (is_label_word a) (is_colon c.terminal) k).0) some
    by false k = ap is_integer (sym are.0) ∙ ap (λ (x : Symbol). is_integer (symbol_terminal x)) (head_same e)
printed_integer text (a ∷ c ∷ ts) (Some v) b r are short e =
    let lengths = or_parts (is_long_word a) (list_any is_long_word (c ∷ ts)) short in
    let label = short_label a v text (head_same e) are.0 lengths.0 in
    let colon : is_colon c.terminal ≡ true = ap is_colon (sym are.1.0) ∙ ap (λ (x : Symbol). is_colon (symbol_terminal x)) (head_same (tail_same e)) in
    by (is_label_word a) (is_colon c.terminal) label colon (third ts (tail_same (tail_same e)) are.1.1)
  where
    third : (us : List Token) → symbols_of text us ≡ inner inner_words.Integer ∷ r → AreSeen text us → begins_with_integer us ≡ true
    third [] e are = absurd cc
    third (u ∷ us) e are = ap is_integer (sym are.0) ∙ ap (λ (x : Symbol). is_integer (symbol_terminal x)) (head_same e)

    by : (p q : Bool) → p ≡ true → q ≡ true → begins_with_integer ts ≡ true → begins_with_integer (cond (p && q) ts (a ∷ c ∷ ts)) ≡ true
    by true true p q h = h
    by false q e f h = absurd cc
    by true false e f h = absurd cc

integer_begins : (text : List ℕ) (tokens : List Token) (label : Option (List ℕ)) (b : BodyTree) → AreSeen text tokens →
    list_any is_long_word tokens ≡ false → symbols_of text tokens ≡ symbols (label_tokens label ++ body_tokens b) → is_integer_body b ≡ true → begins_with_integer (after_label tokens) ≡ true
integer_begins text tokens label (integer v z) are short e is = printed_integer text tokens label (integer v z) _ are short (e ∙ map-append seen (label_tokens label) (body_tokens (integer v z)))
integer_begins text tokens label (integer_array v n zs) are short e is =
    printed_integer text tokens label (integer_array v n zs) _ are short (e ∙ map-append seen (label_tokens label) (body_tokens (integer_array v n zs)))
integer_begins text tokens label _ are short e is = absurd cc

-- ---- the depth rule

conditions_out : LeavesOpen conditions (λ (m n : ℕ). m ≡ n)
unfolding symbol_terminal sign_terminal is_condition
conditions_out = record { wider = λ a b e. omega (arith, e); between = refl; unit = refl }

operators_out : LeavesOpen operators (λ (m n : ℕ). m ≡ n)
unfolding symbol_terminal sign_terminal is_operator
operators_out = record { wider = λ a b e. omega (arith, e); between = refl; unit = refl }

equal_sums : (a b c d : ℕ) → a ≡ b → c ≡ d → a + c ≡ b + d
equal_sums a b c d e f = omega arith

signed_conditions : (s : List Symbol) (z : ℤ) → IsSigned s z → weight conditions (symbols (signed_tokens z)) ≡ weight conditions s
unfolding is_condition symbol_terminal sign_terminal unary_symbol
signed_conditions s z is = printed z ∙ sym (written is)
  where
    printed : (z : ℤ) → weight conditions (symbols (signed_tokens z)) ≡ 0
    printed (pos n) = refl
    printed (negsuc n) = refl

    written : {s : List Symbol} {z : ℤ} → IsSigned s z → weight conditions s ≡ 0
    written unsigned = refl
    written minus = refl

needs_conditions : (b : BodyTree) → NeedsSigned conditions (λ (m n : ℕ). m ≡ n) conditions_out (λ n. refl) equal_sums b
needs_conditions (integer v z) = signed_conditions
needs_conditions (integer_array v n zs) = signed_conditions
needs_conditions (if_then e b) = needs_conditions b
needs_conditions _ = tt

needs_none : (s : List Symbol) (b : BodyTree) → IsBody s b → is_integer_body b ≡ false → NeedsSigned operators (λ (m n : ℕ). m ≡ n) operators_out (λ n. refl) equal_sums b
needs_none s (integer v z) is e = absurd cc
needs_none s (integer_array v n zs) is e = absurd cc
needs_none s (if_then e b) is no_integer = needs_none is.1 b is.6 (conditional b is.5)
  where
    conditional : (b : BodyTree) → is_unconditional b ≡ false → is_integer_body b ≡ false
    conditional (integer v z) e = absurd cc
    conditional (integer_array v n zs) e = absurd cc
    conditional _ e = refl
needs_none s _ is e = tt

body_of : (s : List Symbol) (label : Option (List ℕ)) (b : BodyTree) → IsLabelled s label b → (r : List Symbol) × IsBody r b
body_of s None b is = (s, is)
body_of s (Some v) b is = (is.0, is.3)

-- ---- what can be printed

-- what is printed for it is not too deep
pub not_too_deep : (text : List ℕ) (piece : Piece) (tokens : List Token) (st : StmtTree) → AreGoodTokens text piece tokens →
    list_any is_long_word tokens ≡ false → symbols_of text tokens ≡ symbols (stmt_tokens st) → CanBePrinted st → IsTooDeep tokens → ⊥
not_too_deep text piece tokens st good short sees can (Brackets many) =
    can.shallow (no_deeper can.writing st can.means (subst OpensMany sees (opens_of text tokens (tokens_seen text piece tokens good) many)))
not_too_deep text piece tokens st good short sees can (Conditions lt) =
    let few = can.conditions_few in
    let same = means_kept conditions (λ (m n : ℕ). m ≡ n) conditions_out (λ n. refl) equal_sums can.writing st (needs_conditions st.body) can.means in
    omega (arith, lt, few, count_seen is_condition text tokens (tokens_seen text piece tokens good), ap (weight conditions) sees, same)
not_too_deep text piece tokens st good short sees can (Operators plain lt) = by (is_integer_body st.body) refl
  where
    by : (i : Bool) → is_integer_body st.body ≡ i → ⊥
    by true i =
        clash (begins_with_integer (after_label tokens)) (integer_begins text tokens st.label st.body (tokens_seen text piece tokens good) short sees i) plain
    by false i =
        let own = body_of can.writing st.label st.body can.means in
        let few = can.operators_few i in
        let same = means_kept operators (λ (m n : ℕ). m ≡ n) operators_out (λ n. refl) equal_sums can.writing st (needs_none own.0 st.body own.1 i) can.means in
        omega (arith, lt, few, count_seen is_operator text tokens (tokens_seen text piece tokens good), ap (weight operators) sees, same)

not_less : (m n : ℕ) → (n < m → ⊥) → m ≤ n
not_less m n h = elim (cases_lt n m) [
  | inl lt ↦ absurd (h lt)
  | inr le ↦ omega arith
]

-- the statement of a piece can be printed, if its symbols can be spelled
pub by_piece : (text : List ℕ) (piece : Piece) (st : StmtTree) (is : IsPieceStatement text piece st) → list_all is_spellable (symbols_of text is.tokens) ≡ true → CanBePrinted st
by_piece text piece st is spelled = record {
  writing = symbols_of text is.tokens;
  means = is.means;
  spelled = spelled;
  shallow = λ many. refuse (Brackets (opens_back text is.tokens sees many));
  conditions_few = not_less _ 32 (λ lt. refuse (Conditions (omega (arith, lt, count_seen is_condition text is.tokens sees))));
  operators_few = λ i. not_less _ 256 (λ lt. refuse (Operators (begins (begins_with_integer (after_label is.tokens)) i refl) (omega (arith, lt, count_seen is_operator text is.tokens sees))));
}
  where
    sees : AreSeen text is.tokens
    sees = tokens_seen text piece is.tokens is.are.good

    refuse : IsTooDeep is.tokens → ⊥
    refuse d = is.are.faultless reasons.TooDeep (Deep is.are.good.lexemes is.are.good.has (subst IsTooDeep is.are.good.tokens_are d))

    begins : (k : Bool) → is_integer_body st.body ≡ false → begins_with_integer (after_label is.tokens) ≡ k → begins_with_integer (after_label is.tokens) ≡ false
    begins false i e = e
    begins true i e = clash (is_integer_body st.body) (begins_integer text is.tokens st.label st.body sees is.means e) i
