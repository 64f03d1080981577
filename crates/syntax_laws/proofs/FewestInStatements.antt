-- Of all symbols that mean a statement, those that are printed for it have the fewest brackets.
use Rattle.std.proofs.Common.{◌≡◌, ℕ, ℤ, pos, negsuc, ◌+◌, ◌≤◌, List, ◌++◌, refl, arith}
use Rattle.stapl_lexer.specs.Depth.{is_opening}
use Rattle.stapl_syntax.specs.Symbols.{Symbol}
use Rattle.stapl_syntax.specs.Trees.{BodyTree, integer, integer_array, if_then, StmtTree}
use Rattle.stapl_syntax.specs.Parts.{IsSigned}
use Rattle.stapl_syntax.specs.Statements.{Means}
use Rattle.canonical_text.specs.PrintedTokens.{unary_symbol}
use Rattle.canonical_text.specs.PrintedStatements.{signed_tokens}
use Rattle.canonical_text.specs.Printable.{sign_terminal, symbol_terminal, opens, openings}
use Rattle.canonical_text.proofs.Grammar.{symbols}
use Rattle.canonical_text.proofs.Kept.{LeavesOpen, NeedsSigned, means_kept}
use Rattle.syntax_laws.specs.Brackets.{printed_statement, in_brackets}
use Rattle.syntax_laws.proofs.Fewest.{left_out}

left_open : LeavesOpen opens (λ (m n : ℕ). m ≤ n)
unfolding symbol_terminal sign_terminal is_opening
left_open = record { wider = λ a b le. omega (arith, le); between = refl; unit = refl }

sums : (a b c d : ℕ) → a ≤ b → c ≤ d → a + c ≤ b + d
sums a b c d e f = omega arith

-- an initial value has no brackets
signed_none : (s : List Symbol) (z : ℤ) → IsSigned s z → openings (symbols (signed_tokens z)) ≤ openings s
unfolding symbol_terminal sign_terminal is_opening unary_symbol
signed_none s (pos n) is = omega arith
signed_none s (negsuc n) is = omega arith

needs_none : (b : BodyTree) → NeedsSigned opens (λ (m n : ℕ). m ≤ n) left_open (λ n. omega arith) sums b
needs_none (integer v z) = signed_none
needs_none (integer_array v n zs) = signed_none
needs_none (if_then e b) = needs_none b
needs_none _ = tt

pub fewest_in_statement : (s : List Symbol) (st : StmtTree) → Means s st → openings (printed_statement st) ≤ openings s
fewest_in_statement s st is =
    means_kept opens (λ (m n : ℕ). m ≤ n) left_open (λ n. omega arith) sums s st (needs_none st.body) is

pub none_left_out_of_statement : (st : StmtTree) (before own after : List Symbol) →
    printed_statement st ≡ before ++ (in_brackets own ++ after) → Means (before ++ (own ++ after)) st → ⊥
none_left_out_of_statement st before own after is d =
    left_out (printed_statement st) before own after is (fewest_in_statement _ st d)
