use Rattle.std.proofs.Common.{◌≡◌, ◌∙◌, ℕ, List, Some, map, string_bytes, Global, refl, sym, ap}
use Rattle.std.proofs.lemmas.Option.{same_Some}
use Rattle.std.specs.Option.{option_map}
use Rattle.drive_tool.specs.Commands.{asked_text, all, prefix}
use Rattle.drive_tool.proofs.command.run_command.Goals as goal

pub returns-in-Ok-clause-shown : goal.returns-in-Ok-clause-shown
returns-in-Ok-clause-shown g c = λ text e.
    let words : List (List ℕ) = map (string_bytes {Z = Global}) c.args.words.now in
    let is : asked_text words ≡ Some c.in-Some.text.now = sym c.text_asked.ensures ∙ ap (option_map (λ text. text.now)) c.in-Some.is in
    let same : text ≡ c.in-Some.text.now = same_Some _ _ (sym e ∙ is) in
    rw same (record { shown = all c.in-Ok.ensures.ok; same_files = refl; same_peer = refl; count = c.in-Ok.ensures.cause.kept })

pub returns-in-Err-clause-shown : goal.returns-in-Err-clause-shown
returns-in-Err-clause-shown g c = λ text e.
    let words : List (List ℕ) = map (string_bytes {Z = Global}) c.args.words.now in
    let is : asked_text words ≡ Some c.in-Some.text.now = sym c.text_asked.ensures ∙ ap (option_map (λ text. text.now)) c.in-Some.is in
    let same : text ≡ c.in-Some.text.now = same_Some _ _ (sym e ∙ is) in
    rw same (record {
      shown = prefix c.in-Err.ensures.front c.in-Err.ensures.cause.failed;
      same_files = refl;
      same_peer = refl;
      count = c.in-Err.ensures.cause.kept;
    })
