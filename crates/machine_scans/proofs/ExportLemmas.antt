-- On what an Export exports.
use Rattle.std.proofs.Common.{◌≡◌, ◌<◌, ℕ, zero, suc, List, [], ◌∷◌, length, get_or, Some, refl, sym, ap, ◌∙◌, arith}
use Rattle.std.specs.Prelude.{slice_get}
use Rattle.stapl_meaning.specs.declared.events.Event.TheVariants as events
use Rattle.stapl_meaning.specs.declared.values.Held.{Held}
use Rattle.stapl_meaning.specs.declared.values.Value.{Value}
use Rattle.stapl_meaning.specs.Values.{Got, Known, then_get}
use Rattle.stapl_meaning.specs.Deeds.{Says}
use Rattle.stapl_meaning.specs.States.{State, Falls}
use Rattle.stapl_code.specs.declared.instr.ExportPart.{ExportPart}
use Rattle.stapl_code.specs.Machine.{Constants, Made, Does, does, known_text, part_exported}
use Rattle.machine_memory.specs.declared.effects.Export.{Export}
use Rattle.machine_memory.specs.Exports.{text_in, value_exported, export_event}

pub item_there : {A : Type 0} (xs : List A) (n : ℕ) (d : A) → n < length xs → slice_get xs n ≡ Some (get_or xs n d)
item_there [] n d h = absurd (omega (arith, h))
item_there (x ∷ xs) zero d h = refl
item_there (x ∷ xs) (suc n) d h = item_there xs n d (omega (arith, h))

-- the text is known, and what is exported
pub export_known : (constants : Constants) (variables : List Held) (e : Export) (part : ExportPart) (vs : List Value) (s : State) (bytes : List ℕ) →
    slice_get constants.texts e.key ≡ Some bytes →
    part_exported constants part bytes vs s ≡ Known (Falls (Says (events.Export bytes (value_exported constants.literals variables e.value)) ∷ []) s) →
    does (then_get (known_text (slice_get constants.texts e.key)) (λ b. part_exported constants part b vs s)) ≡ Known (Does (Falls (Says (export_event constants variables e) ∷ []) s))
export_known constants variables e part vs s bytes at is =
    ap (λ t. does (then_get (known_text t) (λ b. part_exported constants part b vs s))) at
    ∙ ap does is
    ∙ ap (λ (t : List ℕ). let g : Got Made = Known (Does (Falls (Says (events.Export t (value_exported constants.literals variables e.value)) ∷ []) s)) in g) (sym (ap text_in at))
