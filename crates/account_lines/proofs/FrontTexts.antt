-- The front of the line of a run says how many bits it has.
use Rattle.std.proofs.Common.{◌≡◌, ◌≤◌, ◌+◌, ℕ, Bool, List, ◌++◌, length, sym, ap}
use Rattle.std.specs.Prelude.{codes, pos}
use Rattle.tool_io.specs.Texts.{labelled}
use Rattle.bit_list.specs.Ranges.{taken}
use Rattle.bit_list.proofs.Splices.{length_taken}
use Rattle.scan_accounts.specs.AccountTexts.{passage_name}
use Rattle.run_cable.specs.declared.run_place.RunPlace.{RunPlace}
use Rattle.account_lines.specs.declared.lines.TurnPlace.{TurnPlace}

abbrev front_text : TurnPlace → RunPlace → ℕ → List ℕ
front_text turn at n =
    labelled (codes "S ") (pos turn.piece) ++ labelled (codes " line ") (pos turn.line) ++ codes " "
    ++ passage_name turn.scans at.ir ++ labelled (codes " ") (pos n)

pub bits_counted : (turn : TurnPlace) (at : RunPlace) (bits : List Bool) → at.low + at.count ≤ length bits →
    front_text turn at at.count ≡ front_text turn at (length (taken at.low at.count bits))
bits_counted turn at bits inside = ap (front_text turn at) (sym (length_taken at.low at.count bits inside))
