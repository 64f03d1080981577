-- The words that are printed are the tokens that they are printed for.
use Rattle.std.proofs.Common.{◌≡◌, ◌≢◌, ℕ, ◌<◌, ◌≤◌, ◌&&◌, zero, suc, Bool, true, false, cond, List, length, slice_index, Option, Some, refl, sym, ap, ◌∙◌, arith}
use Rattle.std.specs.Prelude.{nat_lt, nat_le, not, codes, is_some}
use Rattle.std.specs.Char.{is_ascii_alphabetic}
use Rattle.std.specs.List.{list_all}
use Rattle.std.specs.Str.{bytes_eq, str_to_ascii_uppercase}
use Rattle.std.proofs.lemmas.Bool.{and_parts}
use Rattle.std.proofs.lemmas.Bool.Decides.{nat_tests}
use Rattle.std.proofs.lemmas.Slice.Eq.{bytes_eq-Decides}
use Rattle.stapl_lexer.specs.declared.terminal.Function.TheVariants as functions
use Rattle.stapl_lexer.specs.declared.terminal.InnerWord.{InnerWord}
use Rattle.stapl_lexer.specs.declared.terminal.InnerWord.TheVariants as inners
use Rattle.stapl_lexer.specs.declared.terminal.JoinWord.{JoinWord}
use Rattle.stapl_lexer.specs.declared.terminal.JoinWord.TheVariants as joins
use Rattle.stapl_lexer.specs.declared.terminal.OuterWord.{OuterWord}
use Rattle.stapl_lexer.specs.declared.terminal.OuterWord.TheVariants as outers
use Rattle.stapl_lexer.specs.declared.terminal.Padding.TheVariants as paddings
use Rattle.stapl_lexer.specs.declared.terminal.PortWord.{PortWord}
use Rattle.stapl_lexer.specs.declared.terminal.PortWord.TheVariants as ports
use Rattle.stapl_lexer.specs.declared.terminal.Register.TheVariants as registers
use Rattle.stapl_lexer.specs.declared.terminal.SimpleWord.{SimpleWord}
use Rattle.stapl_lexer.specs.declared.terminal.SimpleWord.TheVariants as simples
use Rattle.stapl_lexer.specs.declared.terminal.Terminal.{Terminal}
use Rattle.stapl_lexer.specs.Names.{is_name, is_name_byte}
use Rattle.stapl_lexer.specs.ReservedWords.{spells_word, word_terminal, is_reserved_word, is_free_name}
use Rattle.stapl_lexer.proofs.NameLemmas.{name_short}
use Rattle.stapl_syntax.specs.declared.signs.Sign.{Sign}
use Rattle.stapl_syntax.specs.declared.signs.Sign.TheVariants as signs
use Rattle.stapl_syntax.specs.Symbols.{terminal_sign, word_sign}
use Rattle.stapl_syntax.proofs.SymbolLemmas.{seen_as_name}
use Rattle.canonical_text.specs.PrintedTokens.{outer_spelling, inner_spelling, simple_spelling, port_spelling, join_spelling, sign_spelling}
use Rattle.canonical_text.specs.Spellable.{is_printed_name}

-- a word other than CRC: a letter, then bytes of names, 32 at most
abbrev pub is_printed_word : List ℕ → Bool
is_printed_word own =
    is_ascii_alphabetic (slice_index own 0) && list_all is_name_byte own && not (nat_lt 32 (length own))
    && not (spells_word (codes "CRC") own)

-- the bytes are such a word, and it is seen so
pub record IsWordOf (own : List ℕ) (sign : Sign) : Type 0 where
  pub spelled : is_printed_word own ≡ true
  pub sees : word_sign (word_terminal own) own ≡ sign

pub outer_word : (w : OuterWord) → w ≢ outers.Crc → IsWordOf (outer_spelling w) (signs.Outer w)
unfolding outer_spelling word_terminal terminal_sign
outer_word outers.Note ne = record { spelled = refl; sees = refl }
outer_word outers.Action ne = record { spelled = refl; sees = refl }
outer_word outers.Procedure ne = record { spelled = refl; sees = refl }
outer_word outers.Data ne = record { spelled = refl; sees = refl }
outer_word outers.EndData ne = record { spelled = refl; sees = refl }
outer_word outers.Crc ne = absurd (ne refl)

pub inner_word : (w : InnerWord) → IsWordOf (inner_spelling w) (signs.Inner w)
unfolding inner_spelling word_terminal terminal_sign
inner_word inners.EndProcedure = record { spelled = refl; sees = refl }
inner_word inners.Boolean = record { spelled = refl; sees = refl }
inner_word inners.Integer = record { spelled = refl; sees = refl }

pub simple_word : (w : SimpleWord) → IsWordOf (simple_spelling w) (signs.Simple w)
unfolding simple_spelling word_terminal terminal_sign
simple_word simples.Call = record { spelled = refl; sees = refl }
simple_word simples.Goto = record { spelled = refl; sees = refl }
simple_word simples.For = record { spelled = refl; sees = refl }
simple_word simples.Next = record { spelled = refl; sees = refl }
simple_word simples.Push = record { spelled = refl; sees = refl }
simple_word simples.Pop = record { spelled = refl; sees = refl }
simple_word simples.Print = record { spelled = refl; sees = refl }
simple_word simples.Export = record { spelled = refl; sees = refl }
simple_word simples.Exit = record { spelled = refl; sees = refl }

pub port_word : (w : PortWord) → IsWordOf (port_spelling w) (signs.Port w)
unfolding port_spelling word_terminal terminal_sign
port_word (ports.Scan registers.Data) = record { spelled = refl; sees = refl }
port_word (ports.Scan registers.Instruction) = record { spelled = refl; sees = refl }
port_word (ports.Stop registers.Data) = record { spelled = refl; sees = refl }
port_word (ports.Stop registers.Instruction) = record { spelled = refl; sees = refl }
port_word (ports.Pad paddings.PreData) = record { spelled = refl; sees = refl }
port_word (ports.Pad paddings.PostData) = record { spelled = refl; sees = refl }
port_word (ports.Pad paddings.PreInstruction) = record { spelled = refl; sees = refl }
port_word (ports.Pad paddings.PostInstruction) = record { spelled = refl; sees = refl }
port_word ports.State = record { spelled = refl; sees = refl }
port_word ports.Wait = record { spelled = refl; sees = refl }
port_word ports.Frequency = record { spelled = refl; sees = refl }

pub join_word : (w : JoinWord) → IsWordOf (join_spelling w) (signs.Join w)
unfolding join_spelling word_terminal terminal_sign
join_word joins.Capture = record { spelled = refl; sees = refl }
join_word joins.Compare = record { spelled = refl; sees = refl }
join_word joins.Cycles = record { spelled = refl; sees = refl }
join_word joins.Optional = record { spelled = refl; sees = refl }
join_word joins.Recommended = record { spelled = refl; sees = refl }
join_word joins.Step = record { spelled = refl; sees = refl }
join_word joins.Then = record { spelled = refl; sees = refl }
join_word joins.To = record { spelled = refl; sees = refl }
join_word joins.Usec = record { spelled = refl; sees = refl }
join_word joins.Uses = record { spelled = refl; sees = refl }

pub if_word : IsWordOf (codes "IF") signs.If
unfolding word_terminal terminal_sign
if_word = record { spelled = refl; sees = refl }

pub abs_word : IsWordOf (codes "ABS") (signs.Function functions.Abs)
unfolding word_terminal terminal_sign
abs_word = record { spelled = refl; sees = refl }

pub bool_word : IsWordOf (codes "BOOL") (signs.Function functions.Bool)
unfolding word_terminal terminal_sign
bool_word = record { spelled = refl; sees = refl }

pub int_word : IsWordOf (codes "INT") (signs.Function functions.Int)
unfolding word_terminal terminal_sign
int_word = record { spelled = refl; sees = refl }

pub state_word : (k : ℕ) → k < 16 → IsWordOf (sign_spelling (signs.State k)) (signs.State k)
unfolding sign_spelling word_terminal terminal_sign
state_word zero lt = record { spelled = refl; sees = refl }
state_word (suc zero) lt = record { spelled = refl; sees = refl }
state_word (suc (suc zero)) lt = record { spelled = refl; sees = refl }
state_word (suc (suc (suc zero))) lt = record { spelled = refl; sees = refl }
state_word (suc (suc (suc (suc zero)))) lt = record { spelled = refl; sees = refl }
state_word (suc (suc (suc (suc (suc zero))))) lt = record { spelled = refl; sees = refl }
state_word (suc (suc (suc (suc (suc (suc zero)))))) lt = record { spelled = refl; sees = refl }
state_word (suc (suc (suc (suc (suc (suc (suc zero))))))) lt = record { spelled = refl; sees = refl }
state_word (suc (suc (suc (suc (suc (suc (suc (suc zero)))))))) lt = record { spelled = refl; sees = refl }
state_word (suc (suc (suc (suc (suc (suc (suc (suc (suc zero))))))))) lt = record { spelled = refl; sees = refl }
state_word (suc (suc (suc (suc (suc (suc (suc (suc (suc (suc zero)))))))))) lt = record { spelled = refl; sees = refl }
state_word (suc (suc (suc (suc (suc (suc (suc (suc (suc (suc (suc zero))))))))))) lt = record { spelled = refl; sees = refl }
state_word (suc (suc (suc (suc (suc (suc (suc (suc (suc (suc (suc (suc zero)))))))))))) lt = record { spelled = refl; sees = refl }
state_word (suc (suc (suc (suc (suc (suc (suc (suc (suc (suc (suc (suc (suc zero))))))))))))) lt = record { spelled = refl; sees = refl }
state_word (suc (suc (suc (suc (suc (suc (suc (suc (suc (suc (suc (suc (suc (suc zero)))))))))))))) lt = record { spelled = refl; sees = refl }
state_word (suc (suc (suc (suc (suc (suc (suc (suc (suc (suc (suc (suc (suc (suc (suc zero))))))))))))))) lt = record { spelled = refl; sees = refl }
state_word (suc (suc (suc (suc (suc (suc (suc (suc (suc (suc (suc (suc (suc (suc (suc (suc k)))))))))))))))) lt = absurd (omega arith)

-- ---- names

-- a word that is spelled CRC is reserved
crc_is_reserved : (own : List ℕ) → spells_word (codes "CRC") own ≡ true → is_reserved_word own ≡ true
unfolding word_terminal
crc_is_reserved own e = by (spells_word (codes "IF") own) (spells_word (codes "TO") own) (spells_word (codes "CRC") own) _ _ _ _ e
  where
    by : (a b c : Bool) (x y z : Terminal) (rest : Option Terminal) → c ≡ true →
        is_some (cond a (Some x) (cond b (Some y) (cond c (Some z) rest))) ≡ true
    by true b c x y z rest e = refl
    by false true c x y z rest e = refl
    by false false true x y z rest e = refl
    by false false false x y z rest e = absurd cc

not_true : (b : Bool) → not b ≡ true → b ≡ false
not_true true e = absurd cc
not_true false e = refl

is_not : (b : Bool) → b ≡ false → not b ≡ true
is_not true e = absurd cc
is_not false e = refl

no_crc : (own : List ℕ) → is_reserved_word own ≡ false → spells_word (codes "CRC") own ≡ false
no_crc own free = by (spells_word (codes "CRC") own) refl
  where
    by : (b : Bool) → spells_word (codes "CRC") own ≡ b → spells_word (codes "CRC") own ≡ false
    by false e = e
    by true e = let r = crc_is_reserved own e in absurd cc

four_true : (a b c d : Bool) → a ≡ true → b ≡ true → c ≡ true → d ≡ true → a && b && c && d ≡ true
four_true true true true true p q r s = refl
four_true false b c d p q r s = absurd cc
four_true true false c d p q r s = absurd cc
four_true true true false d p q r s = absurd cc
four_true true true true false p q r s = absurd cc

not_longer : (n : ℕ) → n ≤ 32 → nat_lt 32 n ≡ false
not_longer n le = grind (arith, nat_tests)

-- what is known of a name that is printed
pub record IsPrintedName (v : List ℕ) : Type 0 where
  pub named : is_name v ≡ true
  pub free : is_reserved_word v ≡ false
  pub upper : str_to_ascii_uppercase v ≡ v

pub printed_name : (v : List ℕ) → is_printed_name v ≡ true → IsPrintedName v
printed_name v e =
    let parts = and_parts (is_free_name v) (bytes_eq (str_to_ascii_uppercase v) v) e in
    let own = and_parts (is_name v) (not (is_reserved_word v)) parts.0 in
    record { named = own.0; free = not_true (is_reserved_word v) own.1; upper = (bytes_eq-Decides (str_to_ascii_uppercase v) v).0 parts.1 }

pub name_word : (v : List ℕ) → is_printed_name v ≡ true → IsWordOf v (signs.Name v)
name_word v e =
    let own = printed_name v e in
    let front = and_parts (is_ascii_alphabetic (slice_index v 0) && list_all is_name_byte v) (nat_le (length v) 32) own.named in
    let bytes = and_parts (is_ascii_alphabetic (slice_index v 0)) (list_all is_name_byte v) front.0 in
    record {
      spelled = four_true _ _ _ _ bytes.0 bytes.1 (is_not _ (not_longer (length v) (name_short v own.named))) (is_not _ (no_crc v own.free));
      sees = (seen_as_name v v).1 (own.named, ap is_reserved_word own.upper ∙ own.free, sym own.upper);
    }
