-- Deeds on a device that stands alone, as examples of what is quiet and of what is not.
use Rattle.std.specs.Prelude.{Bool, true, false, List, [], ◌∷◌, replicate}
use Rattle.tap_states.specs.declared.Tap.{Tap}
use Rattle.tap_states.specs.declared.Tap.TheVariants.{Reset, Idle, DrShift, IrPause}
use Rattle.dev_card.specs.Padding.{Paddings}
use Rattle.dev_card.specs.ReportExample.{example_plain}
use Rattle.stapl_meaning.specs.Deeds.{Deed, Goes, Stays, Scans, Chain}
use Rattle.padded_plays.specs.QuietPlays.{first_chain}

-- the chain of a device without registers of its own, whose instruction has four bits
abbrev pub example_chain : Chain
example_chain = first_chain (example_plain.desc ∷ [])

abbrev pub example_scan : Bool → List Bool → Tap → Deed
example_scan ir bits stop =
    let none : Paddings = record { base_pre = 0; pre = []; post = []; base_post = 0 } in
    Scans (record { ir = ir; paddings = none; bits = bits; stop = stop })

-- the instruction of all ones, and one bit through the bypass register
abbrev pub instruction_scan : Deed
instruction_scan = example_scan true (replicate 4 true) IrPause

abbrev pub data_scan : Deed
data_scan = example_scan false (true ∷ []) Idle

abbrev pub quiet_deeds : List Deed
quiet_deeds = Goes Idle ∷ instruction_scan ∷ data_scan ∷ Stays 3 ∷ data_scan ∷ []

-- no instruction was loaded; none since the reset; a bit too many; a move into a shift state
abbrev pub without_instruction : List Deed
without_instruction = data_scan ∷ []

abbrev pub reset_between : List Deed
reset_between = instruction_scan ∷ Goes Reset ∷ data_scan ∷ []

abbrev pub too_long : List Deed
too_long = example_scan true (replicate 5 true) IrPause ∷ []

abbrev pub into_the_shift : List Deed
into_the_shift = Goes DrShift ∷ []
