-- The operands of an operator of an expression that has a kind are of the kinds that the operator takes.
use Rattle.std.proofs.Common.{◌≡◌, Bool, true, false, List, ◌∷◌, Option, Some, None, refl, ap, ◌∙◌}
use Rattle.std.specs.Prelude.{◌&&◌, ◌||◌, if◌then◌else◌}
use Rattle.std.proofs.lemmas.Bool.{and_parts}
use Rattle.stapl_lexer.specs.declared.terminal.BinOp.{BinOp}
use Rattle.stapl_lexer.specs.declared.terminal.BinOp.TheVariants as operators
use Rattle.stapl_syntax.specs.declared.signs.UnOp.{UnOp}
use Rattle.stapl_syntax.specs.declared.signs.UnOp.TheVariants as signs
use Rattle.stapl_syntax.specs.declared.names.VarKind.{VarKind}
use Rattle.stapl_syntax.specs.declared.names.VarKind.TheVariants as variables
use Rattle.stapl_syntax.specs.declared.names.Kind.{Kind}
use Rattle.stapl_syntax.specs.declared.names.Kind.TheVariants.{Int, Bool as Bit, Either}
use Rattle.stapl_syntax.specs.Kinds.{is_int, is_bit, if_ints, if_bits, if_alike, binary_kind, unary_kind, scalar_kind, element_kind, indexed_kind}
use Rattle.stapl_meaning.specs.declared.values.ValueKind.{ValueKind}
use Rattle.stapl_meaning.specs.declared.values.ValueKind.TheVariants as kinds
use Rattle.stapl_meaning.specs.Values.{alike, side, unary_side}
use Rattle.stapl_code.specs.declared.instr.Instr.TheVariants.{Unary, Binary}
use Rattle.stapl_code.specs.declared.raw.VarDef.{VarDef}
use Rattle.stapl_code.specs.Kinds.{kinds_after}
use Rattle.stapl_codegen.specs.Emit.{operator_number, sign_number}

-- an expression of this kind, if it has one, may stand where a value of a kind is wanted
abbrev pub fits : ValueKind → Option Kind → Bool
fits kinds.Int k = is_int k
fits kinds.Bit k = is_bit k

-- the kind of what a scalar holds
abbrev pub held_kind : Option VarKind → Option ValueKind
held_kind (Some variables.Integer) = Some kinds.Int
held_kind (Some variables.Boolean) = Some kinds.Bit
held_kind _ = None

pub scalar_fits : (kind : ValueKind) (v : Option VarKind) → fits kind (scalar_kind v) ≡ true → held_kind v ≡ Some kind
scalar_fits kinds.Int (Some variables.Integer) h = refl
scalar_fits kinds.Bit (Some variables.Boolean) h = refl
scalar_fits kinds.Int None h = absurd cc
scalar_fits kinds.Int (Some variables.Boolean) h = absurd cc
scalar_fits kinds.Int (Some variables.IntegerArray) h = absurd cc
scalar_fits kinds.Int (Some variables.BooleanArray) h = absurd cc
scalar_fits kinds.Bit None h = absurd cc
scalar_fits kinds.Bit (Some variables.Integer) h = absurd cc
scalar_fits kinds.Bit (Some variables.IntegerArray) h = absurd cc
scalar_fits kinds.Bit (Some variables.BooleanArray) h = absurd cc

-- the kind of what an element of an array holds
abbrev pub item_kind : Option VarKind → Option ValueKind
item_kind (Some variables.IntegerArray) = Some kinds.Int
item_kind (Some variables.BooleanArray) = Some kinds.Bit
item_kind _ = None

pub element_fits : (kind : ValueKind) (v : Option VarKind) → fits kind (element_kind v) ≡ true → item_kind v ≡ Some kind
element_fits kinds.Int (Some variables.IntegerArray) h = refl
element_fits kinds.Bit (Some variables.BooleanArray) h = refl
element_fits kinds.Int None h = absurd cc
element_fits kinds.Int (Some variables.Integer) h = absurd cc
element_fits kinds.Int (Some variables.Boolean) h = absurd cc
element_fits kinds.Int (Some variables.BooleanArray) h = absurd cc
element_fits kinds.Bit None h = absurd cc
element_fits kinds.Bit (Some variables.Integer) h = absurd cc
element_fits kinds.Bit (Some variables.Boolean) h = absurd cc
element_fits kinds.Bit (Some variables.IntegerArray) h = absurd cc

-- an element: its index is an integer
pub indexed_fits : (kind : ValueKind) (index : Option Kind) (array : Option VarKind) → fits kind (indexed_kind array index) ≡ true →
    (is_int index ≡ true) × (fits kind (element_kind array) ≡ true)
indexed_fits kind index array h = by kind (is_int index) h
  where
    by : (kind : ValueKind) (b : Bool) → fits kind (if b then element_kind array else None) ≡ true → (b ≡ true) × (fits kind (element_kind array) ≡ true)
    by kind true h = (refl, h)
    by kinds.Int false h = absurd cc
    by kinds.Bit false h = absurd cc

-- what is an integer, and what is a Boolean
int_only : (kind : ValueKind) → fits kind (Some Int) ≡ true → kinds.Int ≡ kind
int_only kinds.Int h = refl
int_only kinds.Bit h = absurd cc

bit_only : (kind : ValueKind) → fits kind (Some Bit) ≡ true → kinds.Bit ≡ kind
bit_only kinds.Bit h = refl
bit_only kinds.Int h = absurd cc

-- a kind that is there under a test
tested : (kind : ValueKind) (r : Kind) (b : Bool) → fits kind (if b then Some r else None) ≡ true → (b ≡ true) × (fits kind (Some r) ≡ true)
tested kind r true h = (refl, h)
tested kinds.Int r false h = absurd cc
tested kinds.Bit r false h = absurd cc

-- an operator before a value
pub unary_fits : (op : UnOp) (kind : ValueKind) (a : Option Kind) → fits kind (unary_kind op a) ≡ true → (fits (unary_side op) a ≡ true) × (unary_side op ≡ kind)
unary_fits signs.Negate kind a h = let t = tested kind Int (is_int a) h in (t.0, int_only kind t.1)
unary_fits signs.Complement kind a h = let t = tested kind Int (is_int a) h in (t.0, int_only kind t.1)
unary_fits signs.Not kind a h = let t = tested kind Bit (is_bit a) h in (t.0, bit_only kind t.1)

-- an integer of what passes a test
pub integer_fits : (kind : ValueKind) (b : Bool) → fits kind (if b then Some Int else None) ≡ true → (b ≡ true) × (kinds.Int ≡ kind)
integer_fits kind b h = let t = tested kind Int b h in (t.0, int_only kind t.1)

-- two expressions of a kind
abbrev Both : ValueKind → Option Kind → Option Kind → Type 0
Both s a b = (fits s a ≡ true) × (fits s b ≡ true)

-- two integers that give this, and two Booleans
integers : (kind : ValueKind) (r : Kind) (a b : Option Kind) → fits kind (if_ints r a b) ≡ true → Both kinds.Int a b × (fits kind (Some r) ≡ true)
integers kind r a b h = let t = tested kind r (is_int a && is_int b) h in (and_parts (is_int a) (is_int b) t.0, t.1)

booleans : (kind : ValueKind) (a b : Option Kind) → fits kind (if_bits a b) ≡ true → Both kinds.Bit a b × (kinds.Bit ≡ kind)
booleans kind a b h = let t = tested kind Bit (is_bit a && is_bit b) h in (and_parts (is_bit a) (is_bit b) t.0, bit_only kind t.1)

equal_sides : (a b : Option Kind) → ((is_int a && is_int b) || (is_bit a && is_bit b)) ≡ true → Both (alike a b) a b
equal_sides (Some Int) (Some Int) h = (refl, refl)
equal_sides (Some Int) (Some Either) h = (refl, refl)
equal_sides (Some Either) (Some Int) h = (refl, refl)
equal_sides (Some Either) (Some Either) h = (refl, refl)
equal_sides (Some Bit) (Some Bit) h = (refl, refl)
equal_sides (Some Bit) (Some Either) h = (refl, refl)
equal_sides (Some Either) (Some Bit) h = (refl, refl)
equal_sides (Some Int) (Some Bit) h = absurd cc
equal_sides (Some Bit) (Some Int) h = absurd cc
equal_sides None b h = absurd cc
equal_sides (Some Int) None h = absurd cc
equal_sides (Some Bit) None h = absurd cc
equal_sides (Some Either) None h = absurd cc

alike_sides : (kind : ValueKind) (a b : Option Kind) → fits kind (if_alike a b) ≡ true → Both (alike a b) a b × (alike a b ≡ kind)
alike_sides kind (Some Int) (Some Int) h = ((refl, refl), int_only kind h)
alike_sides kind (Some Int) (Some Either) h = ((refl, refl), int_only kind h)
alike_sides kind (Some Either) (Some Int) h = ((refl, refl), int_only kind h)
alike_sides kind (Some Either) (Some Either) h = ((refl, refl), int_only kind h)
alike_sides kind (Some Bit) (Some Bit) h = ((refl, refl), bit_only kind h)
alike_sides kind (Some Bit) (Some Either) h = ((refl, refl), bit_only kind h)
alike_sides kind (Some Either) (Some Bit) h = ((refl, refl), bit_only kind h)
alike_sides kinds.Int (Some Int) (Some Bit) h = absurd cc
alike_sides kinds.Bit (Some Int) (Some Bit) h = absurd cc
alike_sides kinds.Int (Some Bit) (Some Int) h = absurd cc
alike_sides kinds.Bit (Some Bit) (Some Int) h = absurd cc
alike_sides kinds.Int None (Some Bit) h = absurd cc
alike_sides kinds.Bit None (Some Bit) h = absurd cc
alike_sides kinds.Int None (Some Int) h = absurd cc
alike_sides kinds.Bit None (Some Int) h = absurd cc
alike_sides kinds.Int None (Some Either) h = absurd cc
alike_sides kinds.Bit None (Some Either) h = absurd cc
alike_sides kinds.Int None None h = absurd cc
alike_sides kinds.Bit None None h = absurd cc
alike_sides kinds.Int (Some Int) None h = absurd cc
alike_sides kinds.Bit (Some Int) None h = absurd cc
alike_sides kinds.Int (Some Bit) None h = absurd cc
alike_sides kinds.Bit (Some Bit) None h = absurd cc
alike_sides kinds.Int (Some Either) None h = absurd cc
alike_sides kinds.Bit (Some Either) None h = absurd cc

module _ (variables : List VarDef) where
  pub unary_after : (op : UnOp) (ks : List ValueKind) → kinds_after variables (Unary (sign_number op)) (unary_side op ∷ ks) ≡ Some (unary_side op ∷ ks)
  unary_after signs.Negate ks = refl
  unary_after signs.Complement ks = refl
  unary_after signs.Not ks = refl

  -- the operands of an operator fit its sides, and it gives a value of this kind
  pub record Operates (op : BinOp) (kind : ValueKind) (a b : Option Kind) : Type 0 where
    pub both : Both (side op a b) a b
    pub after : (ks : List ValueKind) →
        kinds_after variables (Binary (operator_number op (side op a b))) (side op a b ∷ side op a b ∷ ks) ≡ Some (kind ∷ ks)

  -- with sides of either kind
  equal_after : (s : ValueKind) (ks : List ValueKind) → kinds_after variables (Binary (operator_number operators.Equal s)) (s ∷ s ∷ ks) ≡ Some (kinds.Bit ∷ ks)
  equal_after kinds.Int ks = refl
  equal_after kinds.Bit ks = refl

  unequal_after : (s : ValueKind) (ks : List ValueKind) → kinds_after variables (Binary (operator_number operators.NotEqual s)) (s ∷ s ∷ ks) ≡ Some (kinds.Bit ∷ ks)
  unequal_after kinds.Int ks = refl
  unequal_after kinds.Bit ks = refl

  and_after : (s : ValueKind) (ks : List ValueKind) → kinds_after variables (Binary (operator_number operators.BitAnd s)) (s ∷ s ∷ ks) ≡ Some (s ∷ ks)
  and_after kinds.Int ks = refl
  and_after kinds.Bit ks = refl

  xor_after : (s : ValueKind) (ks : List ValueKind) → kinds_after variables (Binary (operator_number operators.BitXor s)) (s ∷ s ∷ ks) ≡ Some (s ∷ ks)
  xor_after kinds.Int ks = refl
  xor_after kinds.Bit ks = refl

  or_after : (s : ValueKind) (ks : List ValueKind) → kinds_after variables (Binary (operator_number operators.BitOr s)) (s ∷ s ∷ ks) ≡ Some (s ∷ ks)
  or_after kinds.Int ks = refl
  or_after kinds.Bit ks = refl

  top : (s kind : ValueKind) (ks : List ValueKind) → s ≡ kind → Some (s ∷ ks) ≡ Some (kind ∷ ks)
  top s kind ks e = ap (λ k. Some (k ∷ ks)) e

  pub operates : (op : BinOp) (kind : ValueKind) (a b : Option Kind) → fits kind (binary_kind op a b) ≡ true → Operates op kind a b
  operates operators.Multiply kind a b h = let t = integers kind Int a b h in record { both = t.0; after = λ ks. top kinds.Int kind ks (int_only kind t.1) }
  operates operators.Divide kind a b h = let t = integers kind Int a b h in record { both = t.0; after = λ ks. top kinds.Int kind ks (int_only kind t.1) }
  operates operators.Remainder kind a b h = let t = integers kind Int a b h in record { both = t.0; after = λ ks. top kinds.Int kind ks (int_only kind t.1) }
  operates operators.Add kind a b h = let t = integers kind Int a b h in record { both = t.0; after = λ ks. top kinds.Int kind ks (int_only kind t.1) }
  operates operators.Subtract kind a b h = let t = integers kind Int a b h in record { both = t.0; after = λ ks. top kinds.Int kind ks (int_only kind t.1) }
  operates operators.ShiftLeft kind a b h = let t = integers kind Int a b h in record { both = t.0; after = λ ks. top kinds.Int kind ks (int_only kind t.1) }
  operates operators.ShiftRight kind a b h = let t = integers kind Int a b h in record { both = t.0; after = λ ks. top kinds.Int kind ks (int_only kind t.1) }
  operates operators.Less kind a b h = let t = integers kind Bit a b h in record { both = t.0; after = λ ks. top kinds.Bit kind ks (bit_only kind t.1) }
  operates operators.AtMost kind a b h = let t = integers kind Bit a b h in record { both = t.0; after = λ ks. top kinds.Bit kind ks (bit_only kind t.1) }
  operates operators.Greater kind a b h = let t = integers kind Bit a b h in record { both = t.0; after = λ ks. top kinds.Bit kind ks (bit_only kind t.1) }
  operates operators.AtLeast kind a b h = let t = integers kind Bit a b h in record { both = t.0; after = λ ks. top kinds.Bit kind ks (bit_only kind t.1) }
  operates operators.Equal kind a b h =
      let t = tested kind Bit ((is_int a && is_int b) || (is_bit a && is_bit b)) h in
      record { both = equal_sides a b t.0; after = λ ks. equal_after (alike a b) ks ∙ top kinds.Bit kind ks (bit_only kind t.1) }
  operates operators.NotEqual kind a b h =
      let t = tested kind Bit ((is_int a && is_int b) || (is_bit a && is_bit b)) h in
      record { both = equal_sides a b t.0; after = λ ks. unequal_after (alike a b) ks ∙ top kinds.Bit kind ks (bit_only kind t.1) }
  operates operators.BitAnd kind a b h = let t = alike_sides kind a b h in record { both = t.0; after = λ ks. and_after (alike a b) ks ∙ top (alike a b) kind ks t.1 }
  operates operators.BitXor kind a b h = let t = alike_sides kind a b h in record { both = t.0; after = λ ks. xor_after (alike a b) ks ∙ top (alike a b) kind ks t.1 }
  operates operators.BitOr kind a b h = let t = alike_sides kind a b h in record { both = t.0; after = λ ks. or_after (alike a b) ks ∙ top (alike a b) kind ks t.1 }
  operates operators.And kind a b h = let t = booleans kind a b h in record { both = t.0; after = λ ks. top kinds.Bit kind ks t.1 }
  operates operators.Or kind a b h = let t = booleans kind a b h in record { both = t.0; after = λ ks. top kinds.Bit kind ks t.1 }
