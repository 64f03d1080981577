use Rattle.std.proofs.Common.{ℕ, List, [], ◌∷◌, ◌++◌, codes, ap, ◌∙◌, arith}
use Rattle.std.specs.Fmt.{decimal}
use Rattle.std.proofs.lemmas.Fmt.{decimal_digit}
use Rattle.dev_card.specs.Reports.{named_text, report_line}
use Rattle.dev_card.specs.ReportExample.{example_plain, example_registers}
use Rattle.dev_card.proofs.laws.a_report_of_three_devices.Goals as goal

-- the report with these numbers of the words that are shown
abbrev numbered : List ℕ → List ℕ → List ℕ
numbered first second =
    report_line example_plain ++ (report_line example_registers ++ ((codes "D " ++ codes "U3" ++ named_text (codes "ir") (codes "13")
    ++ (named_text (codes "addr") (codes "0002") ++ (named_text first (codes "C3") ++ (named_text second (codes "5A") ++ []))) ++ 10 ∷ []) ++ []))

pub returns : goal.returns
returns c =
    ap (λ (first : List ℕ). numbered first (decimal 1)) (decimal_digit 0 (omega arith))
    ∙ ap (λ (second : List ℕ). numbered (codes "0") second) (decimal_digit 1 (omega arith))
