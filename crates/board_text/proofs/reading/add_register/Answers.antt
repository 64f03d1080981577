use Rattle.std.proofs.Common.{◌≡◌, List, Some, IsSome, ap, sym, subst, Err, Result}
use Rattle.std.proofs.lemmas.Result.{err_from_is_err_and}
use Rattle.dev_card.specs.declared.desc.Desc.{Desc}
use Rattle.board_text.specs.declared.reading.LineRefused.{LineRefused}
use Rattle.board_text.specs.Contents.{RegisterLine, register, register_line}
use Rattle.board_text.specs.Boards.{open_device, ReasonAgainst, IsSmallest}
use Rattle.board_text.specs.Lines.{texts}
use Rattle.board_text.proofs.BoardLemmas.{register_added}
use Rattle.board_text.proofs.reading.add_register.Goals as goal

same_error : {A : Type 0} (r : Result A LineRefused) (x y z : LineRefused) → r ≡ Err x → x ≡ y → r ≡ Err z → y ≡ z
same_error r x y z a b e = cc

pub returns-in_err-register-clause-fault : goal.returns-in_err-register-clause-fault
returns-in_err-register-clause-fault c = λ r e.
    let l : RegisterLine = register_line c.args.constant (texts c.args.words.now) in
    let p = err_from_is_err_and c.from_residual.result c.from_residual.ensures.1 in
    let smallest = c.in_err-register.ensures.fault r (ap (λ (x : LineRefused). Err x) (same_error c.from_residual.result p.0 _ _ p.1 p.2 e)) in
    subst (λ (ds : List Desc). IsSmallest (ReasonAgainst ds (Some (register l))) r) c.deref.ensures.value smallest

pub returns-clause-added : goal.returns-clause-added
returns-clause-added c =
    let earlier : List Desc = c.args.devices.now.items in
    let l : RegisterLine = register_line c.args.constant (texts c.args.words.now) in
    record {
      faultless = λ r h. c.in_ok-register.ensures.faultless r (subst (λ (ds : List Desc). ReasonAgainst ds (Some (register l)) r) (sym c.deref.ensures.value) h);
      later_is = register_added earlier c.pop.new.self.items c.push.new.self.items c.pop.result c.in_ok-register.register l.description c.unwrap-device.result c.in-Ok.device
          (subst (λ (ds : List Desc). IsSome (open_device ds)) c.deref.ensures.value c.in_ok-register.ensures.owner)
          c.pop.ensures.items c.unwrap-device.ensures c.in_ok-register.ensures.register c.in-Ok.ensures c.in-Ok-push.ensures.items;
    }
