-- Faultless lines, one after the other.
use Rattle.std.proofs.Common.{◌≡◌, ◌≢◌, ◌<◌, ◌≤◌, ◌-◌, ◌++◌, ℕ, zero, suc, List, [], ◌∷◌, length, take, get_or, refl, sym, ap, subst, ◌∙◌, Bool, true, false, cond, Option, Some, None, All, arith, inl, inr}
use Rattle.std.specs.Prelude.{AllPairs}
use Rattle.std.specs.List.{find}
use Rattle.std.specs.Option.{option_map, option_map_or}
use Rattle.std.proofs.Math.Seq.{take-suc, get_or-append_seam}
use Rattle.std.proofs.lemmas.Bool.{cases_lt}
use Rattle.std.proofs.lemmas.List.{length-append}
use Rattle.std.proofs.lemmas.List.Sums.{fold-append}
use Rattle.dev_card.specs.Board.{most_devices}
use Rattle.dev_card.specs.declared.desc.Kind.{Kind}
use Rattle.dev_card.specs.declared.desc.Desc.{Desc}
use Rattle.dev_card.specs.Descriptions.{IsOpcode, opcodes_of}
use Rattle.board_text.specs.declared.reason.BoardReason.{BoardReason}
use Rattle.board_text.specs.declared.reason.BoardReason.TheVariants as reasons
use Rattle.board_text.specs.declared.shapes.Shape.{Shape}
use Rattle.board_text.specs.declared.shapes.Shape.TheVariants as shapes
use Rattle.board_text.specs.Lines.{words_of, is_skipped}
use Rattle.board_text.specs.Shapes.{fits, places_of, all_shapes, shape_of}
use Rattle.board_text.specs.Contents.{DeviceLine, RegisterLine, device, register, device_line, register_line, content_of, line_content}
use Rattle.board_text.specs.Limits.{IsDeviceInRange, IsRegisterInRange}
use Rattle.board_text.specs.Boards.{most_registers, open_device, with_register, with_last_register, devices_with, devices_after, devices_of, RepeatsInDevice, ReasonAgainst, AreFaultless}
use Rattle.board_text.specs.Reading.{IsNarrow}
use Rattle.board_text.proofs.Decisions.{holds_or_absurd, pairs_or_not, differs_or_not}
use Rattle.board_text.proofs.GoodDevices.{IsBegun, device_begun, register_good, register_begun}
use Rattle.board_text.proofs.RangeLemmas.{device_in_range_or_not, register_in_range_or_not}
use Rattle.board_text.proofs.ReasonLemmas.{owner_and}
use Rattle.board_text.proofs.Faultless.{AreBegun, IsLast, last_device, more_devices, more_of_last}

-- words have the shape that is found
found_at : {X : Type 0} (b : Bool) (test : X → Bool) (y x : X) (rest : Option X) → test y ≡ b → (rest ≡ Some x → test x ≡ true) → cond b (Some y) rest ≡ Some x → test x ≡ true
found_at true test y x rest passes after e = let same : y ≡ x = cc in ap test (sym same) ∙ passes
found_at false test y x rest passes after e = after e

found : {X : Type 0} (test : X → Bool) (xs : List X) (x : X) → find test xs ≡ Some x → test x ≡ true
found test [] x e = absurd cc
found test (y ∷ ys) x e = found_at (test y) test y x (find test ys) refl (found test ys x) e

pub shape_fits : (ws : List (List ℕ)) (shape : Shape) → shape_of ws ≡ Some shape → fits (places_of shape) ws ≡ true
shape_fits ws shape e = found (λ (s : Shape). fits (places_of s) ws) all_shapes shape e

-- the devices after a device's line
after_device : (ds : List Desc) (kind : Kind) (identified : Bool) (ws : List (List ℕ)) → AreBegun ds → fits (places_of (shapes.Device kind identified)) ws ≡ true →
    ((reason : BoardReason) → ¬ ReasonAgainst ds (Some (device (device_line kind identified ws))) reason) → AreBegun (ds ++ (device_line kind identified ws).description ∷ [])
after_device ds kind identified ws old shape none =
    let l : DeviceLine = device_line kind identified ws in
    let good : IsDeviceInRange l = holds_or_absurd (device_in_range_or_not l) (none reasons.Range) in
    let apart : AllPairs ◌≢◌ (opcodes_of l.description) = holds_or_absurd (pairs_or_not ◌≢◌ differs_or_not (opcodes_of l.description)) (λ n. none reasons.Duplicate (inr n)) in
    let few : length ds < most_devices = elim (cases_lt (length ds) most_devices) [ inl lt ↦ lt | inr ge ↦ absurd (none reasons.TooMany ge) ] in
    more_devices ds l.description old (device_begun kind identified ws shape good apart) (none reasons.Empty) (λ h. none reasons.Duplicate (inl h)) few

-- the devices after a register's line
last_begun : (front : List Desc) (d : Desc) → AreBegun (front ++ d ∷ []) → IsBegun d
last_begun front d all =
    subst IsBegun (get_or-append_seam front d [] d) (all.begun (length front) d (omega (arith, length-append front (d ∷ []))))

in_open : (ds : List Desc) (constant : Bool) (ws : List (List ℕ)) (d : Desc) → open_device ds ≡ Some d → AreBegun ds → fits (places_of (shapes.Register constant)) ws ≡ true →
    ((reason : BoardReason) → ¬ ReasonAgainst ds (Some (register (register_line constant ws))) reason) → AreBegun (with_last_register ds ((register_line constant ws).description) d)
in_open ds constant ws d owner_is old shape none =
    let l : RegisterLine = register_line constant ws in
    let last : IsLast ds d = last_device ds d owner_is in
    let front : List Desc = take (length ds - 1) ds in
    let good : IsRegisterInRange (open_device ds) l = holds_or_absurd (register_in_range_or_not (open_device ds) l) (none reasons.Range) in
    let op : IsOpcode d.ir_len l.description.op = good.opcode d owner_is in
    let fresh : RepeatsInDevice l.description d → ⊥ = λ h. none reasons.Duplicate (owner_and (open_device ds) (RepeatsInDevice l.description) d owner_is h) in
    let few : length d.registers < most_registers = elim (cases_lt (length d.registers) most_registers) [
      | inl lt ↦ lt
      | inr ge ↦ absurd (none reasons.TooMany (owner_and (open_device ds) (λ (x : Desc). most_registers ≤ length x.registers) d owner_is ge))
    ] in
    let split : AreBegun (front ++ d ∷ []) = subst AreBegun last.split old in
    let begun : IsBegun d = last_begun front d split in
    more_of_last front d (with_register l.description d) split (register_begun d l.description begun last.kind (register_good constant ws shape good.numbers) op fresh few) refl

after_register : (ds : List Desc) (constant : Bool) (ws : List (List ℕ)) (o : Option Desc) → open_device ds ≡ o → AreBegun ds → fits (places_of (shapes.Register constant)) ws ≡ true →
    ((reason : BoardReason) → ¬ ReasonAgainst ds (Some (register (register_line constant ws))) reason) →
    AreBegun (option_map_or (with_last_register ds ((register_line constant ws).description)) o ds)
after_register ds constant ws None owner_is old shape none = old
after_register ds constant ws (Some d) owner_is old shape none = in_open ds constant ws d owner_is old shape none

-- the devices after any line
after_shape : (ds : List Desc) (ws : List (List ℕ)) (o : Option Shape) → shape_of ws ≡ o → AreBegun ds → ((reason : BoardReason) → ¬ ReasonAgainst ds (option_map (content_of ws) o) reason) →
    AreBegun (devices_with ds (option_map (content_of ws) o))
after_shape ds ws None shape old none = old
after_shape ds ws (Some (shapes.Device kind identified)) shape old none = after_device ds kind identified ws old (shape_fits ws _ shape) none
after_shape ds ws (Some (shapes.Register constant)) shape old none = after_register ds constant ws (open_device ds) refl old (shape_fits ws _ shape) none

after_line : (ds : List Desc) (line : List ℕ) (skipped : Bool) → is_skipped line ≡ skipped → AreBegun ds →
    ((reason : BoardReason) → skipped ≡ false → ¬ ReasonAgainst ds (line_content (words_of line)) reason) → AreBegun (cond skipped ds (devices_with ds (line_content (words_of line))))
after_line ds line true skips old none = old
after_line ds line false skips old none = after_shape ds (words_of line) (shape_of (words_of line)) refl old (λ reason. none reason refl)

-- the devices of one more line
pub devices_more : (ls : List (List ℕ)) (n : ℕ) → n < length ls → devices_of (take (suc n) ls) ≡ devices_after (devices_of (take n ls)) (get_or ls n [])
devices_more ls n inside = ap devices_of (take-suc ls n [] inside) ∙ fold-append devices_after [] (take n ls) (get_or ls n [] ∷ [])

no_devices : AreBegun []
no_devices = record { begun = λ k d lt. absurd (omega arith); whole = λ k d lt. absurd (omega arith); few = omega arith; names_apart = λ i j d lt inside. absurd (omega arith) }

pub all_begun : (ls : List (List ℕ)) (n : ℕ) → n ≤ length ls → AreFaultless ls n → AreBegun (devices_of (take n ls))
all_begun ls zero le faultless = no_devices
all_begun ls (suc n) le faultless =
    let before : AreBegun (devices_of (take n ls)) = all_begun ls n (omega arith) (λ at lt. faultless at (omega arith)) in
    subst AreBegun (sym (devices_more ls n (omega arith)))
    (after_line (devices_of (take n ls)) (get_or ls n []) (is_skipped (get_or ls n [])) refl before
    (λ reason not_skipped h. faultless n (omega arith) reason (record { not_skipped = not_skipped; holds = h })))

pub all_narrow : (ds : List Desc) → AreBegun ds → All IsNarrow ds
all_narrow ds all k d lt = (all.begun k d lt).longest
