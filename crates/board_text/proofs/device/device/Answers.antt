use Rattle.std.proofs.Common.{subst, sym, ◌≡◌, true, ℕ, List, Bor, arith}
use Rattle.std.proofs.lemmas.List.{length-map}
use Rattle.board_text.specs.Shapes.{fits, memory_places}
use Rattle.board_text.specs.Lines.{texts}
use Rattle.board_text.proofs.FieldLemmas.{device_words, device_name, device_number, device_identity, device_opcode, device_memory}
use Rattle.board_text.proofs.device.device.Goals as goal

pub number_within-requires-clause-spelled : goal.number_within-requires-clause-spelled
number_within-requires-clause-spelled c = device_number c.args.kind c.args.identified (texts c.args.words.now) c.requires

pub identity-requires-clause-value : goal.identity-requires-clause-value
identity-requires-clause-value c = device_identity c.args.kind c.args.identified (texts c.args.words.now) c.requires

pub identity-requires-clause-opcode : goal.identity-requires-clause-opcode
identity-requires-clause-opcode c = device_opcode c.args.kind c.args.identified (texts c.args.words.now) c.requires

pub last_words-requires : goal.last_words-requires
last_words-requires c =
    omega (arith, device_words c.args.kind c.args.identified (texts c.args.words.now) c.requires, length-map c.args.words.now (λ (w : Bor (List ℕ)). w.now))

pub own_memory-requires : goal.own_memory-requires
own_memory-requires c = λ flash. subst (λ (ws : List (List ℕ)). fits memory_places ws ≡ true) (sym c.last_words.ensures)
    (device_memory c.args.kind c.args.identified (texts c.args.words.now) c.requires flash)

pub name_at-requires : goal.name_at-requires
name_at-requires c = device_name c.args.kind c.args.identified (texts c.args.words.now) c.requires
