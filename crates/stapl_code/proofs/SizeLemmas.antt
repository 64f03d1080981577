-- On the length of a code's file.
use Rattle.std.proofs.Common.{◌≡◌, ◌↔◌, ◌+◌, ◌*◌, ◌≤◌, ℕ, zero, suc, Bool, true, false, IsTrue, List, [], ◌∷◌, ◌++◌, length, drop, refl, arith, length-append}
use Rattle.std.specs.List.{flat_map}
use Rattle.std.specs.Int.{div_ceil}
use Rattle.std.proofs.lemmas.List.Sums.{sum_by-cons}
use Rattle.tap_states.specs.declared.Tap.{Tap}
use Rattle.stapl_code.specs.declared.raw.VarDef.{VarDef}
use Rattle.stapl_code.specs.declared.raw.ItemDef.{ItemDef}
use Rattle.stapl_code.specs.declared.raw.CodeLists.{CodeLists}
use Rattle.stapl_code.specs.Fields.{counted, bytes_of_bits, bytes_for, literal, text}
use Rattle.stapl_code.specs.Instrs.{state, instr}
use Rattle.stapl_code.specs.Files.{head, variable, procedure, item, action, file, most_bytes, IsShort}
use Rattle.stapl_code.specs.Sizes.{Takes, bytes_of}

pub length_of_packed : (n : ℕ) (bits : List Bool) → length (bytes_of_bits n bits) ≡ n
length_of_packed zero bits = refl
length_of_packed (suc n) bits = let more = length_of_packed n (drop 8 bits) in omega arith

pub length_of_literal : (bits : List Bool) → length (literal bits) ≡ 4 + div_ceil (length bits) 8
length_of_literal bits = let packed = length_of_packed (bytes_for (length bits)) bits in omega (arith, packed)

pub length_of_items : {A : Type 0} (spelled : A → List ℕ) (items : List A) → length (flat_map spelled items) ≡ bytes_of spelled items
length_of_items spelled [] = refl
length_of_items spelled (x ∷ items) =
    omega (arith, length-append (spelled x) (flat_map spelled items), length_of_items spelled items, sum_by-cons (λ x. length (spelled x)) x items)

pub length_of_variables : (variables : List VarDef) → bytes_of variable variables ≡ 5 * length variables
length_of_variables [] = refl
length_of_variables (v ∷ variables) = omega (arith, length_of_variables variables, sum_by-cons (λ x. length (variable x)) v variables)

pub length_of_action_items : (items : List ItemDef) → bytes_of item items ≡ 5 * length items
length_of_action_items [] = refl
length_of_action_items (i ∷ items) = omega (arith, length_of_action_items items, sum_by-cons (λ x. length (item x)) i items)

pub length_of_states : (states : List Tap) → bytes_of state states ≡ length states
length_of_states [] = refl
length_of_states (t ∷ states) = omega (arith, length_of_states states, sum_by-cons (λ x. length (state x)) t states)

pub length_of_counted : {A : Type 0} (spelled : A → List ℕ) (items : List A) → length (counted spelled items) ≡ 4 + bytes_of spelled items
length_of_counted spelled items = let all = length_of_items spelled items in omega (arith, all)

-- the bytes of two parts, one after the other
pub taken_both : (a b x y z : ℕ) (enough : Bool) → Takes a x y true → Takes b y z enough → Takes (a + b) x z enough
taken_both a b x y z true first second = omega arith
taken_both a b x y z false first second = omega arith

-- the same, where the first part was taken
pub taken_then : (a b n x y z : ℕ) (first second : Bool) → first ≡ true → n ≡ a + b → Takes a x y first → Takes b y z second → Takes n x z second
taken_then a b n x y z true true is all one two = omega arith
taken_then a b n x y z true false is all one two = omega arith
taken_then a b n x y z false second is all one two = absurd cc

-- there are too few bytes for a part, and so for the whole
pub too_few : (a n x y : ℕ) (first : Bool) → first ≡ false → a ≤ n → Takes a x y first → Takes n x y first
too_few a n x y false is le one = omega arith
too_few a n x y true is le one = absurd cc

joined_lengths : (a b c d e f g : List ℕ) →
    length (a ++ b ++ c ++ d ++ e ++ f ++ g) ≡ length a + length b + length c + length d + length e + length f + length g
joined_lengths a b c d e f g =
    let l1 = length-append a b in
    let l2 = length-append (a ++ b) c in
    let l3 = length-append (a ++ b ++ c) d in
    let l4 = length-append (a ++ b ++ c ++ d) e in
    let l5 = length-append (a ++ b ++ c ++ d ++ e) f in
    let l6 = length-append (a ++ b ++ c ++ d ++ e ++ f) g in
    omega arith

pub length_of_file : (code : CodeLists) →
    length (file code) ≡ (32 + bytes_of variable code.variables + bytes_of literal code.literals + bytes_of text code.texts)
    + (bytes_of procedure code.procedures + bytes_of action code.actions + bytes_of instr code.instrs)
unfolding file
length_of_file code =
    let all = joined_lengths (head code.profile) (counted variable code.variables) (counted literal code.literals) (counted text code.texts)
    (counted procedure code.procedures) (counted action code.actions) (counted instr code.instrs) in
    let a = length_of_counted variable code.variables in
    let b = length_of_counted literal code.literals in
    let c = length_of_counted text code.texts in
    let d = length_of_counted procedure code.procedures in
    let e = length_of_counted action code.actions in
    let f = length_of_counted instr code.instrs in
    omega arith

pub short_if_taken : (code : CodeLists) (after : ℕ) (enough : Bool) → Takes (length (file code)) most_bytes after enough → IsTrue enough ↔ IsShort code
short_if_taken code after true taken = (λ is. record { most = omega arith }, λ short. refl)
short_if_taken code after false taken = (λ is. absurd cc, λ short. absurd (omega (arith, short.most)))
