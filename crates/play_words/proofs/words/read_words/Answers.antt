use Rattle.std.proofs.Common.{map, string_bytes, Global, List, ℕ, subst, ◌+◌, sym}
use Rattle.std.proofs.lemmas.List.{length-map}
use Rattle.play_words.specs.Words.{IsUsage, is_unread}
use Rattle.play_words.specs.ReadParts.{values_of}
use Rattle.play_words.proofs.WordLemmas.{read_so_far, no_mode, request_read, key_lacks}
use Rattle.play_words.proofs.words.read_words.Goals as goal

pub returns-in_default-clause-refused : goal.returns-in_default-clause-refused
returns-in_default-clause-refused c = no_mode (map (string_bytes {Z = Global}) c.args.words.now) c.in_default.ensures.none

pub returns-in-Err-clause-refused : goal.returns-in-Err-clause-refused
returns-in-Err-clause-refused c = is_unread c.in-Err.place c.in-Err.ensures.unread

pub returns-in-Ok-Some-clause-request : goal.returns-in-Ok-Some-clause-request
returns-in-Ok-Some-clause-request c =
    let count = sym (length-map c.args.words.now (string_bytes {Z = Global})) in
    request_read c.in-Ok-Some.request (values_of c.in-Ok.given) (read_so_far count c.in-Ok.ensures.read) (rw c.in-Ok-Some.field-0-is at c.in-Ok-Some.ensures.some)

pub returns-in-Ok-None-clause-refused : goal.returns-in-Ok-None-clause-refused
returns-in-Ok-None-clause-refused c =
    let ws : List (List ℕ) = map (string_bytes {Z = Global}) c.args.words.now in
    let count = sym (length-map c.args.words.now (string_bytes {Z = Global})) in
    subst (λ (n : ℕ). IsUsage ws (n + 1)) (sym count)
    (key_lacks (values_of c.in-Ok.given) (read_so_far count c.in-Ok.ensures.read) (rw c.in-Ok-None.field-0-is at c.in-Ok-None.ensures.none))
