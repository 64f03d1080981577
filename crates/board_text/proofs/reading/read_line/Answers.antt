use Rattle.std.proofs.Common.{◌≡◌, ◌∙◌, List, ℕ, Option, Some, true, Bor, ap, sym, subst}
use Rattle.board_text.specs.declared.shapes.Shape.{Shape}
use Rattle.board_text.specs.declared.shapes.Shape.TheVariants as shapes
use Rattle.board_text.specs.Shapes.{fits, places_of}
use Rattle.board_text.specs.Contents.{Content}
use Rattle.board_text.specs.Boards.{ReasonAgainst, IsSmallest}
use Rattle.board_text.specs.Lines.{texts}
use Rattle.board_text.proofs.LineSteps.{shape_fits}
use Rattle.board_text.proofs.BoardLemmas.{content_is}
use Rattle.board_text.proofs.reading.read_line.Goals as goal

pub add_device-requires : goal.add_device-requires
add_device-requires c =
    let shape = shapes.Device c.in-Some-Device.kind c.in-Some-Device.identified in
    subst (λ (words : List (Bor (List ℕ))). fits (places_of shape) (texts words) ≡ true) (c.deref.ensures.value ∙ sym c.deref-in-Some-Device.ensures.value)
    (shape_fits (texts c.deref.result.now) shape (sym (ap (λ (s : Shape). Some s) (sym c.in-Some-Device.field-0-is) ∙ c.in-Some-Device.ensures)))

pub returns-in-Some-Device-clause-fault : goal.returns-in-Some-Device-clause-fault
returns-in-Some-Device-clause-fault c = λ r e.
    let shape = shapes.Device c.in-Some-Device.kind c.in-Some-Device.identified in (
      sym c.is_skipped.ensures ∙ c.if-is_skipped.false,
      subst (λ (o : Option Content). IsSmallest (ReasonAgainst c.args.devices.now.items o) r)
          (content_is c.in-Ok.words.items c.deref.result.now c.deref-in-Some-Device.result.now c.args.line.now shape c.in-Ok.ensures c.deref.ensures.value c.deref-in-Some-Device.ensures.value
          (ap (λ (s : Shape). Some s) (sym c.in-Some-Device.field-0-is) ∙ c.in-Some-Device.ensures))
          (c.add_device.ensures.fault r e),
    )

pub add_register-requires-clause-shape : goal.add_register-requires-clause-shape
add_register-requires-clause-shape c =
    let shape = shapes.Register c.in-Some-Register.constant in
    subst (λ (words : List (Bor (List ℕ))). fits (places_of shape) (texts words) ≡ true) (c.deref.ensures.value ∙ sym c.deref-in-Some-Register.ensures.value)
    (shape_fits (texts c.deref.result.now) shape (sym (ap (λ (s : Shape). Some s) (sym c.in-Some-Register.field-0-is) ∙ c.in-Some-Register.ensures)))

pub returns-in-Some-Register-clause-fault : goal.returns-in-Some-Register-clause-fault
returns-in-Some-Register-clause-fault c = λ r e.
    let shape = shapes.Register c.in-Some-Register.constant in (
      sym c.is_skipped.ensures ∙ c.if-is_skipped.false,
      subst (λ (o : Option Content). IsSmallest (ReasonAgainst c.args.devices.now.items o) r)
          (content_is c.in-Ok.words.items c.deref.result.now c.deref-in-Some-Register.result.now c.args.line.now shape c.in-Ok.ensures c.deref.ensures.value c.deref-in-Some-Register.ensures.value
          (ap (λ (s : Shape). Some s) (sym c.in-Some-Register.field-0-is) ∙ c.in-Some-Register.ensures))
          (c.add_register.ensures.fault r e),
    )
