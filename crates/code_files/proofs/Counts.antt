-- A code with a short file has few enough items in each of its lists.
use Rattle.std.proofs.Common.{◌≤◌, ◌<◌, ◌^◌, ℕ, List, [], ◌∷◌, ◌++◌, length, All, arith}
use Rattle.std.specs.List.{flat_map}
use Rattle.std.proofs.lemmas.List.{length-append}
use Rattle.std.proofs.lemmas.List.Folds.{length-flat_map-take}
use Rattle.stapl_code.specs.declared.raw.ActionDef.{ActionDef}
use Rattle.stapl_code.specs.declared.raw.CodeLists.{CodeLists}
use Rattle.stapl_code.specs.declared.instr.PrintPart.{PrintPart}
use Rattle.stapl_code.specs.declared.instr.PrintPart.TheVariants as parts
use Rattle.stapl_code.specs.declared.instr.Instr.{Instr}
use Rattle.stapl_code.specs.declared.instr.Instr.TheVariants.{SetInts, Print, State as GoThrough}
use Rattle.stapl_code.specs.Fields.{integer, counted, literal, text}
use Rattle.stapl_code.specs.Instrs.{part, state, instr, IsCountableInstr}
use Rattle.stapl_code.specs.Files.{head, variable, procedure, item, action, file, most_bytes, IsCountable}

-- where no item is empty, there are at most as many items as bytes
many : {X : Type 0} (f : X → List ℕ) → ((x : X) → 1 ≤ length (f x)) → (xs : List X) → length xs ≤ length (flat_map f xs)
many f some [] = omega arith
many f some (x ∷ xs) = omega (arith, some x, many f some xs, length-append (f x) (flat_map f xs))

each_short : {X : Type 0} (f : X → List ℕ) (xs : List X) → All (λ x. length (f x) ≤ length (flat_map f xs)) xs
each_short f xs = λ k d lt. omega (arith, length-flat_map-take f xs k d lt)

counted_many : {X : Type 0} (f : X → List ℕ) → ((x : X) → 1 ≤ length (f x)) → (xs : List X) (n : ℕ) → length (counted f xs) ≤ n → length xs ≤ n
counted_many f some xs n short = omega (arith, many f some xs)

-- what a short item has, each item has
each_has : {X : Type 0} (f : X → List ℕ) (Q : X → Type 0) (xs : List X) (n : ℕ) → ((x : X) → length (f x) ≤ n → Q x)
    → length (counted f xs) ≤ n → All Q xs
each_has f Q xs n has short = λ k d lt. has _ (omega (arith, each_short f xs k d lt))

pub record AreShort (b c d e f g : List ℕ) (n : ℕ) : Type 0 where
  pub second : length b ≤ n
  pub third : length c ≤ n
  pub fourth : length d ≤ n
  pub fifth : length e ≤ n
  pub sixth : length f ≤ n
  pub last : length g ≤ n

parts_short : (a b c d e f g : List ℕ) (n : ℕ) → length (a ++ b ++ c ++ d ++ e ++ f ++ g) ≤ n → AreShort b c d e f g n
parts_short a b c d e f g n short =
    let l1 = length-append a b in
    let l2 = length-append (a ++ b) c in
    let l3 = length-append (a ++ b ++ c) d in
    let l4 = length-append (a ++ b ++ c ++ d) e in
    let l5 = length-append (a ++ b ++ c ++ d ++ e) f in
    let l6 = length-append (a ++ b ++ c ++ d ++ e ++ f) g in
    record { second = omega arith; third = omega arith; fourth = omega arith; fifth = omega arith; sixth = omega arith; last = omega arith }

part_some : (p : PrintPart) → 1 ≤ length (part p)
part_some (parts.Text n) = omega arith
part_some parts.Int = omega arith
part_some parts.Bit = omega arith
part_some parts.Char = omega arith

instr_countable : (x : Instr) → length (instr x) ≤ most_bytes → IsCountableInstr x
instr_countable (SetInts n values) short = omega (arith, many integer (λ z. omega arith) values)
instr_countable (Print list) short = omega (arith, many part part_some list)
instr_countable (GoThrough states) short = omega (arith, many state (λ t. omega arith) states)
instr_countable _ short = tt

action_countable : (a : ActionDef) → length (action a) ≤ most_bytes → length a.items < 2 ^ 32
action_countable a short = omega (arith, many item (λ i. omega arith) a.items, length-append a.name (counted item a.items))

pub countable : (code : CodeLists) → length (file code) ≤ most_bytes → length code.instrs < 2 ^ 32 → IsCountable code
unfolding file
countable code short few =
    let s = parts_short (head code.profile) (counted variable code.variables) (counted literal code.literals) (counted text code.texts)
    (counted procedure code.procedures) (counted action code.actions) (counted instr code.instrs) most_bytes short in
    record {
      variables = omega (arith, counted_many variable (λ v. omega arith) code.variables most_bytes s.second);
      literals = omega (arith, counted_many literal (λ bits. omega arith) code.literals most_bytes s.third);
      texts = each_has text (λ bytes. length bytes < 2 ^ 32) code.texts most_bytes (λ bytes h. omega arith) s.fourth;
      texts_counted = omega (arith, counted_many text (λ bytes. omega arith) code.texts most_bytes s.fourth);
      procedures = omega (arith, counted_many procedure (λ p. omega arith) code.procedures most_bytes s.fifth);
      actions = omega (arith, counted_many action (λ a. omega arith) code.actions most_bytes s.sixth);
      items = each_has action (λ (a : ActionDef). length a.items < 2 ^ 32) code.actions most_bytes action_countable s.sixth;
      instrs = few;
      counts = each_has instr IsCountableInstr code.instrs most_bytes instr_countable s.last;
    }
