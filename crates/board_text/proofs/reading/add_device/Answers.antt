use Rattle.std.proofs.Common.{◌≡◌, ◌∙◌, ◌<◌, ◌≤◌, ◌++◌, List, [], ◌∷◌, Some, ap, sym, subst, length, arith}
use Rattle.std.proofs.lemmas.Grind.{common_steps}
use Rattle.dev_card.specs.Board.{most_devices}
use Rattle.dev_card.specs.declared.desc.Desc.{Desc}
use Rattle.board_text.specs.declared.reason.BoardReason.{BoardReason}
use Rattle.board_text.specs.declared.reason.BoardReason.TheVariants as reasons
use Rattle.board_text.specs.Contents.{DeviceLine, device, device_line}
use Rattle.board_text.specs.Limits.{IsDeviceInRange}
use Rattle.board_text.specs.Boards.{AwaitsRegister, RepeatsInBoard, ReasonAgainst, IsSmallest}
use Rattle.board_text.specs.Lines.{texts}
use Rattle.board_text.proofs.ReasonLemmas.{device_range, device_duplicate, device_empty, device_many, device_faultless, refuted, opcodes_in_range, in_range_opcodes, repeats_there, awaits_there}
use Rattle.board_text.proofs.reading.add_device.Goals as goal

pub returns-then-not-are_opcodes-clause-fault : goal.returns-then-not-are_opcodes-clause-fault
returns-then-not-are_opcodes-clause-fault c = λ r e.
    let earlier : List Desc = c.args.devices.now.items in
    let l : DeviceLine = device_line c.args.kind c.args.identified (texts c.args.words.now) in
    let same : reasons.Range ≡ r = cc in
    subst (λ (x : BoardReason). IsSmallest (ReasonAgainst earlier (Some (device l))) x) same (device_range earlier l
    (λ good. refuted c.are_opcodes.result c.are_opcodes.ensures.1 c.if-not-are_opcodes.true
    (in_range_opcodes l c.in-Some.device c.deref.result.now c.in-Ok.opcodes.items c.in-Some.ensures.1 c.deref.ensures.value c.in-Ok.ensures good)))

pub returns-then-repeats_in_board-clause-fault : goal.returns-then-repeats_in_board-clause-fault
returns-then-repeats_in_board-clause-fault c = λ r e.
    let earlier : List Desc = c.args.devices.now.items in
    let l : DeviceLine = device_line c.args.kind c.args.identified (texts c.args.words.now) in
    let good : IsDeviceInRange l =
    opcodes_in_range l c.in-Some.device c.deref.result.now c.in-Ok.opcodes.items c.in-Some.ensures.1 c.deref.ensures.value c.in-Ok.ensures c.in-Some.ensures.0
    (c.are_opcodes.ensures.0 c.if-not-are_opcodes.false) in
    let repeats : RepeatsInBoard earlier l.description =
    repeats_there c.deref-3.result.now earlier c.in-Some.device l.description c.deref-3.ensures.value c.in-Some.ensures.1 (c.repeats_in_board.ensures.0 c.if-repeats_in_board.true) in
    let same : reasons.Duplicate ≡ r = cc in
    subst (λ (x : BoardReason). IsSmallest (ReasonAgainst earlier (Some (device l))) x) same (device_duplicate earlier l good repeats)

pub returns-then-awaits_register-clause-fault : goal.returns-then-awaits_register-clause-fault
returns-then-awaits_register-clause-fault c = λ r e.
    let earlier : List Desc = c.args.devices.now.items in
    let l : DeviceLine = device_line c.args.kind c.args.identified (texts c.args.words.now) in
    let good : IsDeviceInRange l =
    opcodes_in_range l c.in-Some.device c.deref.result.now c.in-Ok.opcodes.items c.in-Some.ensures.1 c.deref.ensures.value c.in-Ok.ensures c.in-Some.ensures.0
    (c.are_opcodes.ensures.0 c.if-not-are_opcodes.false) in
    let new : RepeatsInBoard earlier l.description → ⊥ =
    λ h. refuted c.repeats_in_board.result c.repeats_in_board.ensures.1 c.if-repeats_in_board.false
    (repeats_there earlier c.deref-3.result.now l.description c.in-Some.device (sym c.deref-3.ensures.value) (sym c.in-Some.ensures.1) h) in
    let awaits : AwaitsRegister earlier = awaits_there c.deref-4.result.now earlier c.deref-4.ensures.value (c.awaits_register.ensures.0 c.if-awaits_register.true) in
    let same : reasons.Empty ≡ r = cc in
    subst (λ (x : BoardReason). IsSmallest (ReasonAgainst earlier (Some (device l))) x) same (device_empty earlier l good new awaits)

pub returns-then-len-ge-MOST_DEVICES-clause-fault : goal.returns-then-len-ge-MOST_DEVICES-clause-fault
returns-then-len-ge-MOST_DEVICES-clause-fault c = λ r e.
    let earlier : List Desc = c.args.devices.now.items in
    let l : DeviceLine = device_line c.args.kind c.args.identified (texts c.args.words.now) in
    let good : IsDeviceInRange l =
    opcodes_in_range l c.in-Some.device c.deref.result.now c.in-Ok.opcodes.items c.in-Some.ensures.1 c.deref.ensures.value c.in-Ok.ensures c.in-Some.ensures.0
    (c.are_opcodes.ensures.0 c.if-not-are_opcodes.false) in
    let new : RepeatsInBoard earlier l.description → ⊥ =
    λ h. refuted c.repeats_in_board.result c.repeats_in_board.ensures.1 c.if-repeats_in_board.false
    (repeats_there earlier c.deref-3.result.now l.description c.in-Some.device (sym c.deref-3.ensures.value) (sym c.in-Some.ensures.1) h) in
    let whole : AwaitsRegister earlier → ⊥ =
    λ h. refuted c.awaits_register.result c.awaits_register.ensures.1 c.if-awaits_register.false (awaits_there earlier c.deref-4.result.now (sym c.deref-4.ensures.value) h) in
    let many : most_devices ≤ length earlier = grind (arith, common_steps) in
    let same : reasons.TooMany ≡ r = cc in
    subst (λ (x : BoardReason). IsSmallest (ReasonAgainst earlier (Some (device l))) x) same (device_many earlier l good new whole many)

pub returns-clause-added : goal.returns-clause-added
returns-clause-added c =
    let earlier : List Desc = c.args.devices.now.items in
    let l : DeviceLine = device_line c.args.kind c.args.identified (texts c.args.words.now) in
    let good : IsDeviceInRange l =
    opcodes_in_range l c.in-Some.device c.deref.result.now c.in-Ok.opcodes.items c.in-Some.ensures.1 c.deref.ensures.value c.in-Ok.ensures c.in-Some.ensures.0
    (c.are_opcodes.ensures.0 c.if-not-are_opcodes.false) in
    let new : RepeatsInBoard earlier l.description → ⊥ =
    λ h. refuted c.repeats_in_board.result c.repeats_in_board.ensures.1 c.if-repeats_in_board.false
    (repeats_there earlier c.deref-3.result.now l.description c.in-Some.device (sym c.deref-3.ensures.value) (sym c.in-Some.ensures.1) h) in
    let whole : AwaitsRegister earlier → ⊥ =
    λ h. refuted c.awaits_register.result c.awaits_register.ensures.1 c.if-awaits_register.false (awaits_there earlier c.deref-4.result.now (sym c.deref-4.ensures.value) h) in
    let few : length earlier < most_devices = grind (arith, common_steps) in
    record { faultless = device_faultless earlier l good new whole few; later_is = c.in-Ok-push.ensures.items ∙ ap (λ (d : Desc). earlier ++ d ∷ []) c.in-Some.ensures.1 }
