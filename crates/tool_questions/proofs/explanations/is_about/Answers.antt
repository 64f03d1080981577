use Rattle.std.proofs.Common.{rules, ◌≡◌, ◌∙◌, ℕ, List, length, take, ap}
use Rattle.std.specs.Str.{str_eq_ignore_ascii_case, str_to_ascii_lowercase}
use Rattle.std.proofs.lemmas.Bool.Decides.{same_from_decides}
use Rattle.std.proofs.lemmas.List.{take_min}
use Rattle.std.proofs.lemmas.Slice.Eq.{bytes_eq-Decides}
use Rattle.tool_questions.proofs.explanations.is_about.Goals as goal

pub returns : goal.returns
returns c =
    let front : List ℕ = take c.min-most.result c.as_bytes-bytes.result.now in
    let is : front ≡ take (length c.args.head.now) c.args.line.now = search (rules, take_min (length c.args.head.now) c.args.line.now) in
    same_from_decides c.eq_ignore_ascii_case.result (str_eq_ignore_ascii_case front c.args.head.now) c.eq_ignore_ascii_case.ensures.test
    (bytes_eq-Decides (str_to_ascii_lowercase front) (str_to_ascii_lowercase c.args.head.now))
    ∙ ap (λ (xs : List ℕ). str_eq_ignore_ascii_case xs c.args.head.now) is
