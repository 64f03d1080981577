-- What an Export exports, by where it lies.
use Rattle.std.specs.Prelude.{ℕ, Bool, List, [], Option, Some, None, slice_get}
use Rattle.bit_list.specs.Integers.{bits_of_int}
use Rattle.stapl_meaning.specs.declared.events.Event.{Event}
use Rattle.stapl_meaning.specs.declared.events.Event.TheVariants as events
use Rattle.stapl_meaning.specs.declared.events.ExportValue.{ExportValue}
use Rattle.stapl_meaning.specs.declared.events.ExportValue.TheVariants as exports
use Rattle.stapl_meaning.specs.declared.values.Held.{Held}
use Rattle.stapl_meaning.specs.Effects.{export_of}
use Rattle.stapl_code.specs.Machine.{Constants}
use Rattle.machine_memory.specs.declared.effects.BitsAt.{BitsAt}
use Rattle.machine_memory.specs.declared.effects.BitsAt.TheVariants as bits
use Rattle.machine_memory.specs.declared.effects.Exported.{Exported}
use Rattle.machine_memory.specs.declared.effects.Exported.TheVariants as exported
use Rattle.machine_memory.specs.declared.effects.Export.{Export}
use Rattle.stapl_meaning.specs.Values.{bits_in, span_bits}
use Rattle.machine_memory.specs.Arrays.{span_in}

-- a text or a literal, or nothing where there is none
abbrev pub text_in : Option (List ℕ) → List ℕ
text_in (Some bytes) = bytes
text_in None = []

abbrev pub literal_in : Option (List Bool) → List Bool
literal_in (Some literal) = literal
literal_in None = []

-- the bits that lie there
abbrev pub bits_at : List (List Bool) → List Held → BitsAt → List Bool
bits_at literals variables (bits.Literal n) = literal_in (slice_get literals n)
bits_at literals variables (bits.Part part) = span_bits (span_in part.span) (bits_in (slice_get variables part.array))
bits_at literals variables (bits.Integer z) = bits_of_int z

-- what is exported
abbrev pub value_exported : List (List Bool) → List Held → Exported → ExportValue
value_exported literals variables (exported.Value v) = export_of v
value_exported literals variables (exported.Bits at) = exports.Array (bits_at literals variables at)

-- and the event
abbrev pub export_event : Constants → List Held → Export → Event
export_event constants variables export =
    events.Export (text_in (slice_get constants.texts export.key)) (value_exported constants.literals variables export.value)
