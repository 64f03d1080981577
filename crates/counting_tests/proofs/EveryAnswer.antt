-- Words whose file is held have an answer, whatever it holds.
use Rattle.std.proofs.Common.{ℕ, List, Some, ◌⊎◌, inl, inr}
use Rattle.dev_card.specs.declared.desc.Desc.{Desc}
use Rattle.board_text.specs.declared.reason.BoardReason.{BoardReason}
use Rattle.board_text.specs.Boards.{IsBoard, IsFirstFault}
use Rattle.named_files.specs.Texts.{board_refusal_line, usage_line}
use Rattle.counting_tests.specs.declared.status.CountStatus.{CountStatus}
use Rattle.counting_tests.specs.declared.status.CountStatus.TheVariants.{Counted, Refused, Usage}
use Rattle.counting_tests.specs.Words.{NamesBoard, NamesNone}
use Rattle.counting_tests.specs.Answers.{count_line, counted, refused, WordsAnswer, usage, asked}

pub words_answered : (words : List (List ℕ)) (bytes : List ℕ) → ((path : List ℕ) × NamesBoard words path) ⊎ NamesNone words →
    ((devices : List Desc) × IsBoard bytes devices) ⊎ ((line : ℕ) × (reason : BoardReason) × IsFirstFault bytes line reason) →
    (text : List ℕ) × (status : CountStatus) × WordsAnswer (Some bytes) words text status
words_answered words bytes (inl named) (inl board) = (count_line board.0, Counted, asked named.0 _ _ named.1 (counted board.0 board.1))
words_answered words bytes (inl named) (inr fault) =
    (board_refusal_line fault.0 fault.1, Refused fault.0 fault.1, asked named.0 _ _ named.1 (refused fault.0 fault.1 fault.2))
words_answered words bytes (inr none) _ = (usage_line 1, Usage, usage none)
