-- The devices of each board can be fitted: its lines are faultless and its end does not come too early.
use Rattle.std.proofs.Common.{◌≤◌, ℕ, List, length, sym, ap, subst, ◌∙◌, arith, inl, inr}
use Rattle.std.specs.Str.Lines.{lines}
use Rattle.std.proofs.Math.Seq.{take-length}
use Rattle.std.proofs.lemmas.Bool.{cases_lt}
use Rattle.std.proofs.lemmas.List.{nil_from_length}
use Rattle.dev_card.specs.declared.desc.Desc.{Desc}
use Rattle.board_text.specs.Boards.{devices_of, IsUnfinished, IsBoard, CanBeFitted}
use Rattle.board_text.proofs.Faultless.{AreBegun}
use Rattle.board_text.proofs.LineSteps.{all_begun}
use Rattle.board_text.proofs.BoardLemmas.{good_at_end}

-- the devices of all lines of a board
board_begun : (text : List ℕ) (devices : List Desc) → IsBoard text devices → AreBegun devices
board_begun text devices board =
    let ls : List (List ℕ) = lines text in
    subst AreBegun (ap devices_of (take-length ls) ∙ sym board.described) (all_begun ls (length ls) (omega arith) board.faultless)

some_at_end : (devices : List Desc) → ¬ IsUnfinished devices → 1 ≤ length devices
some_at_end devices finished = elim (cases_lt 0 (length devices)) [
  | inl some ↦ some
  | inr none ↦ absurd (finished (inl (nil_from_length devices (omega arith))))
]

pub board_fits : (text : List ℕ) (devices : List Desc) → IsBoard text devices → CanBeFitted devices
board_fits text devices board =
    let all : AreBegun devices = board_begun text devices board in
    record { some = some_at_end devices board.finished; most = all.few; good = good_at_end devices all board.finished }
