-- What a value is said to be. These words are this page's own.
use Rattle.std.specs.Prelude.{◌≡◌, ◌↔◌, ℤ, Bool, true, false}
use Rattle.stapl_lexer.specs.declared.terminal.BinOp.{BinOp}
use Rattle.stapl_lexer.specs.declared.terminal.BinOp.TheVariants.{Divide, Remainder}
use Rattle.stapl_meaning.specs.declared.values.Value.{Value}
use Rattle.stapl_meaning.specs.declared.values.Value.TheVariants.{Int, Bit}
use Rattle.stapl_meaning.specs.Values.{Got, Known, combined}
use Rattle.meaning_laws.specs.Numbers.{IsDivided}

-- the value is an integer of which something holds
pub record GivesInteger (got : Got Value) (Holds : ℤ → Type 0) : Type 0 where
  pub number : ℤ
  pub is : got ≡ Known (Int number)
  pub holds : Holds number

-- the value is a bit, which is 1 exactly if something holds
pub record GivesTruth (got : Got Value) (Holds : Type 0) : Type 0 where
  pub bit : Bool
  pub is : got ≡ Known (Bit bit)
  pub holds : (bit ≡ true) ↔ Holds

-- the table of an operator between two bits: its values for 1 and 1, 1 and 0, 0 and 1, 0 and 0
pub record HasTable (op : BinOp) (both first second neither : Bool) : Type 0 where
  pub both_true : combined op (Bit true) (Bit true) ≡ Known (Bit both)
  pub first_true : combined op (Bit true) (Bit false) ≡ Known (Bit first)
  pub second_true : combined op (Bit false) (Bit true) ≡ Known (Bit second)
  pub none_true : combined op (Bit false) (Bit false) ≡ Known (Bit neither)

-- a quotient and a remainder have values, and are those of the division
pub record GivesDivision (a b : ℤ) : Type 0 where
  pub quotient : ℤ
  pub remainder : ℤ
  pub divides : combined Divide (Int a) (Int b) ≡ Known (Int quotient)
  pub leaves : combined Remainder (Int a) (Int b) ≡ Known (Int remainder)
  pub holds : IsDivided a b quotient remainder
