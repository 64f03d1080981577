-- On what a token is seen as.
use Rattle.std.proofs.Common.{◌≡◌, ℕ, List, Bool, true, false, None, refl, if◌then◌else◌}
use Rattle.stapl_lexer.specs.declared.terminal.JoinWord.{JoinWord}
use Rattle.stapl_lexer.specs.declared.terminal.Mark.{Mark}
use Rattle.stapl_lexer.specs.Names.{is_name}
use Rattle.stapl_syntax.specs.declared.signs.Sign.TheVariants as signs
use Rattle.stapl_syntax.specs.Symbols.{name_sign}
use Rattle.stapl_grammar.specs.Looks.{is_mark, is_join}
use Rattle.stapl_grammar.specs.Reading.{operator_of}

-- a name is no mark
pub no_name_is_mark : (own : List ℕ) (mark : Mark) → false ≡ is_mark (name_sign own) mark
unfolding is_mark
no_name_is_mark own mark = by (is_name own)
  where
    by : (b : Bool) → false ≡ is_mark (if b then signs.Name own else signs.Other) mark
    by true = refl
    by false = refl

-- a name is no word that stands inside statements
pub no_name_is_join : (own : List ℕ) (word : JoinWord) → false ≡ is_join (name_sign own) word
unfolding is_join
no_name_is_join own word = by (is_name own)
  where
    by : (b : Bool) → false ≡ is_join (if b then signs.Name own else signs.Other) word
    by true = refl
    by false = refl

-- a name is no operator
pub no_name_is_operator : (own : List ℕ) → None ≡ operator_of (name_sign own)
unfolding operator_of
no_name_is_operator own = by (is_name own)
  where
    by : (b : Bool) → None ≡ operator_of (if b then signs.Name own else signs.Other)
    by true = refl
    by false = refl
