-- Boards as texts: the devices that a text describes, or its first faulty line with the smallest of its reasons. The
-- notation is this profile's.
use Rattle.std.specs.Prelude.{◌≡◌, ◌≢◌, ◌<◌, ◌≤◌, ◌+◌, ◌-◌, ◌++◌, ℕ, false, List, [], ◌∷◌, length, take, fold, slice_get, slice_index_or, Option, Some, None, IsSomeAnd, All, AllPairs, Contains, ◌⊎◌, if◌then◌else◌, option_and_then}
use Rattle.std.specs.List.{Any}
use Rattle.std.specs.Option.{option_map_or}
use Rattle.std.specs.Str.Lines.{lines}
use Rattle.dev_card.specs.Board.{most_devices}
use Rattle.dev_card.specs.declared.desc.Kind.{Kind}
use Rattle.dev_card.specs.declared.desc.Kind.TheVariants as kinds
use Rattle.dev_card.specs.declared.desc.RegDesc.{RegDesc}
use Rattle.dev_card.specs.declared.desc.Desc.{Desc}
use Rattle.dev_card.specs.Descriptions.{opcodes_of, IsGood}
use Rattle.board_text.specs.declared.reason.BoardReason.{BoardReason}
use Rattle.board_text.specs.declared.reason.BoardReason.TheVariants as reasons
use Rattle.board_text.specs.Reasons.{reason_number}
use Rattle.board_text.specs.Lines.{words_of, is_skipped}
use Rattle.board_text.specs.Contents.{DeviceLine, RegisterLine, Content, device, register, line_content}
use Rattle.board_text.specs.Limits.{IsDeviceInRange, IsRegisterInRange}

-- the most bytes of a text
abbrev pub most_bytes : ℕ
most_bytes = 1048576

-- the most registers of a device
abbrev pub most_registers : ℕ
most_registers = 64

-- a device, if it is one of those that have registers
abbrev pub regs_only : Kind → Desc → Option Desc
regs_only kinds.Regs d = Some d
regs_only kinds.Plain d = None
regs_only kinds.Flash d = None

-- the device that the next register belongs to: the last one, if it is of kind Regs
abbrev pub open_device : List Desc → Option Desc
open_device earlier = option_and_then (λ (d : Desc). regs_only d.kind d) (slice_get earlier (length earlier - 1))

-- a device with one more register
abbrev pub with_register : RegDesc → Desc → Desc
with_register r d = record d { registers = d.registers ++ r ∷ [] }

-- some devices, the last of which has one more register
abbrev pub with_last_register : List Desc → RegDesc → Desc → List Desc
with_last_register earlier r d = take (length earlier - 1) earlier ++ with_register r d ∷ []

-- The devices after what a line says: a device stands after those of earlier lines, and a register goes into the open
-- one.
abbrev pub devices_with : List Desc → Option Content → List Desc
devices_with earlier None = earlier
devices_with earlier (Some (device l)) = earlier ++ l.description ∷ []
devices_with earlier (Some (register l)) = option_map_or (with_last_register earlier l.description) (open_device earlier) earlier

-- the devices after one more line; a line that is skipped changes none
abbrev pub devices_after : List Desc → List ℕ → List Desc
devices_after earlier line = if is_skipped line then earlier else devices_with earlier (line_content (words_of line))

-- the devices of some lines, which are read one after the other
abbrev pub devices_of : List (List ℕ) → List Desc
devices_of ls = fold devices_after [] ls

-- a device, or a register, of this name
abbrev pub HasName : List ℕ → Desc → Type 0
HasName name d = d.name ≡ name

abbrev pub HasRegisterName : List ℕ → RegDesc → Type 0
HasRegisterName name r = r.name ≡ name

-- the last device is a Regs, and no line has given it a register yet
abbrev pub AwaitsRegister : List Desc → Type 0
AwaitsRegister earlier = IsSomeAnd (open_device earlier) (λ (d : Desc). d.registers ≡ [])

-- the name of a device stands in the board already, or an opcode stands twice in its line
abbrev pub RepeatsInBoard : List Desc → Desc → Type 0
RepeatsInBoard earlier d = Any (HasName d.name) earlier ⊎ ¬ AllPairs ◌≢◌ (opcodes_of d)

-- the name of a register, or its opcode, stands in its device already
abbrev pub RepeatsInDevice : RegDesc → Desc → Type 0
RepeatsInDevice r d = Any (HasRegisterName r.name) d.registers ⊎ Contains (opcodes_of d) r.op

-- a fact of what a line says: one of a device's line, and one of a register's
abbrev pub IfSays : Option Content → (DeviceLine → Type 0) → (RegisterLine → Type 0) → Type 0
IfSays None P Q = ⊥
IfSays (Some (device l)) P Q = P l
IfSays (Some (register l)) P Q = Q l

-- The table of reasons: those against a line that says this, after lines that gave these devices. `TooLong` is a reason
-- against no line.
abbrev pub ReasonAgainst : List Desc → Option Content → BoardReason → Type 0
ReasonAgainst earlier content reasons.Form = content ≡ None
ReasonAgainst earlier content reasons.Range = IfSays content (λ l. ¬ IsDeviceInRange l) (λ l. ¬ IsRegisterInRange (open_device earlier) l)
ReasonAgainst earlier content reasons.Duplicate =
    IfSays content (λ l. RepeatsInBoard earlier l.description) (λ l. IsSomeAnd (open_device earlier) (RepeatsInDevice l.description))
ReasonAgainst earlier content reasons.Misplaced = IfSays content (λ _. ⊥) (λ _. open_device earlier ≡ None)
ReasonAgainst earlier content reasons.Empty = IfSays content (λ _. AwaitsRegister earlier) (λ _. ⊥)
ReasonAgainst earlier content reasons.TooMany =
    IfSays content (λ _. most_devices ≤ length earlier) (λ _. IsSomeAnd (open_device earlier) (λ (d : Desc). most_registers ≤ length d.registers))
ReasonAgainst earlier content reasons.TooLong = ⊥

-- a reason against a line that is not skipped
abbrev pub HasReason : List Desc → List ℕ → BoardReason → Type 0
HasReason earlier line reason = ReasonAgainst earlier (line_content (words_of line)) reason

-- of the reasons of which a fact holds, the one with the smallest number
pub record IsSmallest (Holds : BoardReason → Type 0) (reason : BoardReason) : Type 0 where
  pub holds : Holds reason
  pub smallest : (other : BoardReason) → Holds other → reason_number reason ≤ reason_number other

-- a reason holds of the line at a place, counted from 0, after those before it
pub record HasReasonAt (ls : List (List ℕ)) (at : ℕ) (reason : BoardReason) : Type 0 where
  pub not_skipped : is_skipped (slice_index_or ls at []) ≡ false
  pub holds : HasReason (devices_of (take at ls)) (slice_index_or ls at []) reason

-- no reason holds of any of so many lines, each after those before it
abbrev pub AreFaultless : List (List ℕ) → ℕ → Type 0
AreFaultless ls count = (at : ℕ) → at < count → (reason : BoardReason) → ¬ HasReasonAt ls at reason

-- the end may not come: there is no device, or the last one awaits a register
abbrev pub IsUnfinished : List Desc → Type 0
IsUnfinished devices = (devices ≡ []) ⊎ AwaitsRegister devices

-- the text is a board of these devices
pub record IsBoard (text : List ℕ) (devices : List Desc) : Type 0 where
  pub short : length text ≤ most_bytes
  pub faultless : AreFaultless (lines text) (length (lines text))
  pub described : devices ≡ devices_of (lines text)
  pub finished : ¬ IsUnfinished devices

-- the text is too long, whatever its lines are
pub record IsTooLong (text : List ℕ) (line : ℕ) (reason : BoardReason) : Type 0 where
  pub long : most_bytes < length text
  pub line_is : line ≡ 0
  pub reason_is : reason ≡ reasons.TooLong

-- the first line with a fault, counted from 1, and the smallest reason against it
pub record IsFaultyLine (text : List ℕ) (line : ℕ) (reason : BoardReason) : Type 0 where
  pub short : length text ≤ most_bytes
  -- how many lines stand in front, and none of them has a fault
  pub before : ℕ
  pub line_is : line ≡ before + 1
  pub inside : before < length (lines text)
  pub faultless : AreFaultless (lines text) before
  pub reason_is : IsSmallest (HasReasonAt (lines text) before) reason

-- the end comes too early; its line is the one after the last
pub record IsEmptyBoard (text : List ℕ) (line : ℕ) (reason : BoardReason) : Type 0 where
  pub short : length text ≤ most_bytes
  pub faultless : AreFaultless (lines text) (length (lines text))
  pub unfinished : IsUnfinished (devices_of (lines text))
  pub line_is : line ≡ length (lines text) + 1
  pub reason_is : reason ≡ reasons.Empty

-- the first fault of a text
abbrev pub IsFirstFault : List ℕ → ℕ → BoardReason → Type 0
IsFirstFault text line reason = IsTooLong text line reason ⊎ (IsFaultyLine text line reason ⊎ IsEmptyBoard text line reason)

-- These devices can be fitted into a rack.
pub record CanBeFitted (devices : List Desc) : Type 0 where
  pub some : 1 ≤ length devices
  pub most : length devices ≤ most_devices
  pub good : All IsGood devices
