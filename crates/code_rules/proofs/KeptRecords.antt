-- Effects that leave the records and the chosen procedures as they are.
use Rattle.std.proofs.Common.{◌≡◌, ℕ, Bool, true, false, List, [], ◌∷◌, length, Option, refl}
use Rattle.std.specs.Prelude.{ℤ, slice_get, if◌then◌else◌}
use Rattle.tap_states.specs.declared.Tap.{Tap}
use Rattle.tap_states.specs.Tap.{is_stable_state}
use Rattle.stapl_lexer.specs.declared.terminal.Padding.{Padding}
use Rattle.stapl_lexer.specs.declared.terminal.Padding.TheVariants as paddings
use Rattle.stapl_lexer.specs.declared.terminal.Register.{Register}
use Rattle.stapl_lexer.specs.declared.terminal.Register.TheVariants as registers
use Rattle.stapl_meaning.specs.declared.values.Held.{Held}
use Rattle.stapl_meaning.specs.declared.values.Value.{Value}
use Rattle.stapl_meaning.specs.declared.values.Value.TheVariants.{Int}
use Rattle.stapl_meaning.specs.declared.waits.WaitKind.{WaitKind}
use Rattle.stapl_meaning.specs.Values.{Got, Known, Faults, Stuck, then_get, Source, Span, span_of, whole_span, bits_held, source_bits, asked}
use Rattle.stapl_meaning.specs.States.{State, Did, Falls, Captures, Ends}
use Rattle.stapl_meaning.specs.Effects.{written, assigned, element_assigned, Target, IntoWhole, IntoRange, span_written, copied, integers_set, printed, exported, moved_through, waited_for, waited, hertz_of, tuned, exited}
use Rattle.stapl_meaning.specs.Scans.{ScanParts, Found, scan_limit, length_between, scan_found, target_asked, compare_asked, padding_bits, with_padding, with_stop, scan_asked, scanned, surrounded, stopped}
use Rattle.stapl_code.specs.declared.instr.ExportPart.{ExportPart}
use Rattle.stapl_code.specs.declared.instr.ExportPart.TheVariants as exports
use Rattle.stapl_code.specs.Machine.{Constants, part_exported, known_source}

-- what is known has this
abbrev pub IfKnown : {A : Type 0} → (A → Type 0) → Got A → Type 0
IfKnown P (Known x) = P x
IfKnown P (Faults k) = Unit {0}
IfKnown P Stuck = Unit {0}

pub known_then : {A B : Type 0} (P : B → Type 0) (g : Got A) (go : A → Got B) → ((x : A) → IfKnown P (go x)) → IfKnown P (then_get g go)
known_then P (Known x) go h = h x
known_then P (Faults k) go h = tt
known_then P Stuck go h = tt

pub known_if : {A : Type 0} (P : A → Type 0) (b : Bool) (g h : Got A) → IfKnown P g → IfKnown P h → IfKnown P (if b then g else h)
known_if P true g h a b = a
known_if P false g h a b = b

-- the second state has the records and the chosen procedures of the first one
pub record HasSameRecords (s t : State) : Type 0 where
  pub records_are : t.records ≡ s.records
  pub chosen_are : t.chosen ≡ s.chosen

-- an effect that goes on, and keeps both; or that ends the play
abbrev pub KeepsRecords : State → Did → Type 0
KeepsRecords s (Falls deeds t) = HasSameRecords s t
KeepsRecords s (Captures scan lands) = (bits : List Bool) → HasSameRecords s (lands bits)
KeepsRecords s (Ends ending t) = Unit {0}
KeepsRecords s _ = ⊥

module _ (s : State) where
  same : HasSameRecords s s
  same = record { records_are = refl; chosen_are = refl }

  written_keeps : (variables : Got (List Held)) → IfKnown (KeepsRecords s) (written s variables)
  written_keeps (Known list) = record { records_are = refl; chosen_are = refl }
  written_keeps (Faults k) = tt
  written_keeps Stuck = tt

  pub assigned_keeps : (n : ℕ) (vs : List Value) → IfKnown (KeepsRecords s) (assigned n vs s)
  assigned_keeps n [] = tt
  assigned_keeps n (v ∷ []) = written_keeps _
  assigned_keeps n (v ∷ w ∷ vs) = tt

  pub element_keeps : (n : ℕ) (vs : List Value) → IfKnown (KeepsRecords s) (element_assigned n vs s)
  element_keeps n (Int i ∷ v ∷ []) = written_keeps _
  element_keeps n _ = tt

  span_keeps : (n : ℕ) (old : List Bool) (source : Source) (vs : List Value) (span : Span) → IfKnown (KeepsRecords s) (span_written n old source vs s span)
  span_keeps n old source vs span =
      known_then (KeepsRecords s) (source_bits s.store.variables source vs) _ (λ bits.
      known_then (KeepsRecords s) (asked source span.count bits) _ (λ new. record { records_are = refl; chosen_are = refl }))

  pub copied_keeps : (target : Target) (source : Source) (vs : List Value) → IfKnown (KeepsRecords s) (copied target source vs s)
  copied_keeps (IntoWhole n) source vs =
      known_then (KeepsRecords s) (bits_held (slice_get s.store.variables n)) _ (λ old. span_keeps n old source vs (whole_span (length old)))
  copied_keeps (IntoRange profile n) source (first ∷ second ∷ vs) =
      known_then (KeepsRecords s) (bits_held (slice_get s.store.variables n)) _ (λ old.
      known_then (KeepsRecords s) (span_of profile (length old) first second) _ (λ span. span_keeps n old source vs span))
  copied_keeps (IntoRange profile n) source _ = tt

  pub set_keeps : (n : ℕ) (zs : List ℤ) (vs : List Value) → IfKnown (KeepsRecords s) (integers_set n zs vs s)
  set_keeps n zs [] = written_keeps _
  set_keeps n zs _ = tt

  pub printed_keeps : (text : Got (List ℕ)) → IfKnown (KeepsRecords s) (printed text s)
  printed_keeps text = known_then (KeepsRecords s) text _ (λ bytes. same)

  exported_keeps : (key : List ℕ) (vs : List Value) → IfKnown (KeepsRecords s) (exported key vs s)
  exported_keeps key (v ∷ []) = same
  exported_keeps key _ = tt

  pub part_keeps : (constants : Constants) (part : ExportPart) (key : List ℕ) (vs : List Value) →
      IfKnown (KeepsRecords s) (part_exported constants part key vs s)
  part_keeps constants exports.Int key vs = exported_keeps key vs
  part_keeps constants exports.Bit key vs = exported_keeps key vs
  part_keeps constants (exports.Array source) key vs =
      known_then (KeepsRecords s) (known_source constants source) _ (λ from.
      known_then (KeepsRecords s) (source_bits s.store.variables from vs) _ (λ bits. same))

  pub moved_keeps : (states : List Tap) (vs : List Value) → IfKnown (KeepsRecords s) (moved_through states vs s)
  moved_keeps states [] = same
  moved_keeps states _ = tt

  pub waited_keeps : (kind : WaitKind) (at last : Tap) (vs : List Value) → IfKnown (KeepsRecords s) (waited kind at last vs s)
  waited_keeps kind at last vs =
      known_if (KeepsRecords s) (is_stable_state at) (then_get (waited_for kind at last vs) (λ deeds. Known (Falls deeds s))) Stuck
      (known_then (KeepsRecords s) (waited_for kind at last vs) (λ deeds. Known (Falls deeds s)) (λ deeds. same)) tt

  pub tuned_keeps : (vs : List Value) → IfKnown (KeepsRecords s) (tuned vs s)
  tuned_keeps [] = same
  tuned_keeps (Int n ∷ []) = known_then (KeepsRecords s) (hertz_of n) _ (λ h. same)
  tuned_keeps _ = tt

  pub exited_keeps : (vs : List Value) → IfKnown (KeepsRecords s) (exited vs s)
  exited_keeps (Int code ∷ []) = tt
  exited_keeps _ = tt

  asked_keeps : (parts : ScanParts) (found : Found) (n : ℕ) → IfKnown (KeepsRecords s) (scan_asked parts found s n)
  asked_keeps parts found n =
      known_then (KeepsRecords s) (asked parts.source n found.data_bits) _ (λ bits.
      known_then (KeepsRecords s) (target_asked n found.target) _ (λ target.
      known_then (KeepsRecords s) (compare_asked n parts.compare found.compare) _ (λ compare captured. record { records_are = refl; chosen_are = refl })))

  pub scanned_keeps : (parts : ScanParts) (vs : List Value) → IfKnown (KeepsRecords s) (scanned parts vs s)
  scanned_keeps parts (Int z ∷ vs) =
      known_then (KeepsRecords s) (scan_found s.store.variables parts vs) _ (λ found.
      known_then (KeepsRecords s) (length_between 1 scan_limit z) _ (λ n. asked_keeps parts found n))
  scanned_keeps parts _ = tt

  padding_kept : (which : Padding) (bits : List Bool) → HasSameRecords s (with_padding which bits s)
  padding_kept paddings.PreData bits = record { records_are = refl; chosen_are = refl }
  padding_kept paddings.PostData bits = record { records_are = refl; chosen_are = refl }
  padding_kept paddings.PreInstruction bits = record { records_are = refl; chosen_are = refl }
  padding_kept paddings.PostInstruction bits = record { records_are = refl; chosen_are = refl }

  pub surrounded_keeps : (which : Padding) (source : Option Source) (vs : List Value) → IfKnown (KeepsRecords s) (surrounded which source vs s)
  surrounded_keeps which source (Int z ∷ vs) = known_then (KeepsRecords s) (padding_bits s.store.variables source vs z) _ (λ bits. padding_kept which bits)
  surrounded_keeps which source _ = tt

  stop_kept : (register : Register) (tap : Tap) → HasSameRecords s (with_stop register tap s)
  stop_kept registers.Data tap = record { records_are = refl; chosen_are = refl }
  stop_kept registers.Instruction tap = record { records_are = refl; chosen_are = refl }

  pub stopped_keeps : (register : Register) (tap : Tap) (vs : List Value) → IfKnown (KeepsRecords s) (stopped register tap vs s)
  stopped_keeps register tap [] = known_if (KeepsRecords s) (is_stable_state tap) (Known (Falls [] (with_stop register tap s))) Stuck (stop_kept register tap) tt
  stopped_keeps register tap _ = tt
