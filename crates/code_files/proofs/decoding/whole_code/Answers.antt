use Rattle.std.proofs.Common.{◌≡◌, ◌<◌, [], ℕ, List, All, Ok, subst, ap, ◌∙◌}
use Rattle.std.proofs.lemmas.List.Elements.{All-from_get_or}
use Rattle.code_files.specs.declared.fault.Stop.{Stop}
use Rattle.code_files.specs.Reading.{ReadingFails}
use Rattle.code_files.specs.ReadFiles.{code_at}
use Rattle.code_files.proofs.FileFaults.{whole_file, none_left, some_left, names_broken, names_extra}
use Rattle.code_files.proofs.decoding.whole_code.Goals as goal

pub returns-in-Err-At-clause-refused : goal.returns-in-Err-At-clause-refused
returns-in-Err-At-clause-refused c =
    let read = subst (λ (s : Stop). ReadingFails s (code_at c.args.bytes.now)) c.in-Err-At.field-0-is c.in-Err-At.ensures in
    names_broken c.args.bytes.now c.in-Err-At.fault c.faulty.result c.requires read c.faulty.ensures

pub returns-then-is_empty-clause-file : goal.returns-then-is_empty-clause-file
returns-then-is_empty-clause-file c =
    let bytes = c.args.bytes.now in
    let are : All (λ b. b < 256) bytes = All-from_get_or (λ b. b < 256) bytes 0 (λ i _. (c.type_inv.bytes i).fits) in
    let none : c.in-Ok.rest.now ≡ [] = none_left c.in-Ok.rest.now c.if-is_empty.ensures in
    (whole_file bytes c.in-Ok.lists are c.requires (c.in-Ok.ensures ∙ ap (λ (r : List ℕ). Ok (c.in-Ok.lists, r)) none)).0

pub returns-then-is_empty-clause-has : goal.returns-then-is_empty-clause-has
returns-then-is_empty-clause-has c =
    let bytes = c.args.bytes.now in
    let are : All (λ b. b < 256) bytes = All-from_get_or (λ b. b < 256) bytes 0 (λ i _. (c.type_inv.bytes i).fits) in
    let none : c.in-Ok.rest.now ≡ [] = none_left c.in-Ok.rest.now c.if-is_empty.ensures in
    (whole_file bytes c.in-Ok.lists are c.requires (c.in-Ok.ensures ∙ ap (λ (r : List ℕ). Ok (c.in-Ok.lists, r)) none)).1

pub returns-else-is_empty-clause-refused : goal.returns-else-is_empty-clause-refused
returns-else-is_empty-clause-refused c =
    names_extra c.args.bytes.now c.in-Ok.lists c.in-Ok.rest.now c.faulty-else-is_empty.result c.requires c.in-Ok.ensures
    (some_left c.in-Ok.rest.now c.if-is_empty.ensures) c.faulty-else-is_empty.ensures
