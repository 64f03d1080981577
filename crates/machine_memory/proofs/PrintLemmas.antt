-- On the text of a Print.
use Rattle.std.proofs.Common.{◌≡◌, ℕ, zero, suc, List, [], ◌∷◌, ◌++◌, refl, sym, ap, ◌∙◌, append_assoc, length, arith, get_or, ◌<◌, ◌≤◌}
use Rattle.std.proofs.lemmas.Option.{slice_get_read}
use Rattle.std.proofs.lemmas.List.{append-nil}
use Rattle.std.specs.Prelude.{Some, None, slice_get, Err}
use Rattle.stapl_meaning.specs.declared.values.Value.{Value}
use Rattle.stapl_code.specs.declared.instr.Instr.{Instr}
use Rattle.stapl_code.specs.Machine.{Constants, parts_text, does}
use Rattle.stapl_meaning.specs.States.{State}
use Rattle.stapl_meaning.specs.Effects.{printed}
use Rattle.machine_memory.specs.Acts.{IsMade, Told}
use Rattle.stapl_meaning.specs.Values.{Got, Known, Faults, Stuck, then_get}
use Rattle.machine_memory.specs.declared.operate.Stop.{Stop}
use Rattle.machine_memory.specs.declared.operate.Stop.TheVariants.{Fault, Wrong}
use Rattle.machine_memory.specs.Found.{IsStopped}
use Rattle.machine_memory.specs.Prints.{with_front, instr_room, print_room}

-- a text after the front
pub front_text : (front bytes : List ℕ) (rest : Got (List ℕ)) →
    with_front front (then_get rest (λ more. Known (bytes ++ more))) ≡ with_front (front ++ bytes) rest
front_text front bytes (Known more) = ap (λ (v : List ℕ). let g : Got (List ℕ) = Known v in g) (sym (append_assoc front bytes more))
front_text front bytes (Faults k) = refl
front_text front bytes Stuck = refl

pub nothing_in_front : (text : Got (List ℕ)) → with_front [] text ≡ text
nothing_in_front (Known more) = refl
nothing_in_front (Faults k) = refl
nothing_in_front Stuck = refl

-- a part that is not put is that of the whole
pub put_stops : (stop : Stop) (front : List ℕ) (part whole : Got (List ℕ)) → with_front front part ≡ whole → IsStopped stop part → IsStopped stop whole
put_stops (Fault k) front part whole e h = sym e ∙ ap (with_front front) h
put_stops Wrong front part whole e h = sym e ∙ ap (with_front front) h

-- and then there is no Print
pub print_stops : (stop : Stop) (told : Told) (s : State) (g : Got (List ℕ)) → IsStopped stop g → IsMade (Err stop) told s s (does (printed g s))
print_stops (Fault k) told s g h = (ap (λ g. does (printed g s)) h, refl)
print_stops Wrong told s g h = ap (λ g. does (printed g s)) h

-- values after the last part
pub left_over : (entries : List ℕ) (constants : Constants) (front : List ℕ) (vs : List Value) → 0 < length vs →
    with_front front (parts_text entries constants [] vs) ≡ Stuck
left_over entries constants front [] some = absurd (omega (arith, some))
left_over entries constants front (v ∷ vs) some = refl

pub none_left : (entries : List ℕ) (constants : Constants) (front : List ℕ) (vs : List Value) → length vs ≡ 0 →
    with_front front (parts_text entries constants [] vs) ≡ Known front
none_left entries constants front [] e = ap (λ (l : List ℕ). let g : Got (List ℕ) = Known l in g) (append-nil front)
none_left entries constants front (v ∷ vs) e = absurd (omega arith)

-- items by their numbers
pub item_at : {A : Type 0} (xs : List A) (n : ℕ) (x : A) → n < length xs → x ≡ get_or xs n x → slice_get xs n ≡ Some x
item_at xs n x inside is = slice_get_read xs (length xs) n x refl inside is

pub no_item : {A : Type 0} (xs : List A) (n : ℕ) → length xs ≤ n → slice_get xs n ≡ None
no_item [] n le = refl
no_item (x ∷ xs) zero le = absurd (omega arith)
no_item (x ∷ xs) (suc n) le = no_item xs n (omega arith)

-- there is room for the text of each instruction where there is room for the longest
pub print_fits : (texts : List (List ℕ)) (instrs : List Instr) (i : ℕ) (x : Instr) → i < length instrs → x ≡ get_or instrs i x →
    instr_room texts x ≤ print_room texts instrs
print_fits texts [] i x inside is = absurd (omega (arith, inside))
print_fits texts (y ∷ rest) zero x inside is =
    rw is (omega arith)
print_fits texts (y ∷ rest) (suc i) x inside is =
    let more = print_fits texts rest i x (omega (arith, inside)) is in omega (arith, more)
