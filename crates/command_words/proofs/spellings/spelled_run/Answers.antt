use Rattle.std.proofs.Common.{codes, None, Some}
use Rattle.std.proofs.lemmas.Str.Pattern.{split_text_parts}
use Rattle.command_words.specs.KeyedWords.{of_two}
use Rattle.command_words.proofs.RunLemmas.{no_place, no_first, no_last, if_none}
use Rattle.command_words.proofs.spellings.spelled_run.Goals as goal

pub returns-in_err-place-clause-none : goal.returns-in_err-place-clause-none
returns-in_err-place-clause-none c = if_none c.from_residual.result (no_place (split_text_parts (codes "..") c.args.spelling.now None c.in_default.ensures.cases) c.in_err-place.ensures.none)

pub returns-in_err-first-clause-none : goal.returns-in_err-first-clause-none
returns-in_err-first-clause-none c =
    if_none c.from_residual-in_err-first.result (no_first c.in-Some.front.now c.in-Some.back.now
    (split_text_parts (codes "..") c.args.spelling.now (Some (c.in-Some.front, c.in-Some.back)) c.in-Some.ensures.cases)
    c.in_err-first.ensures.none)

pub returns-in_err-last-clause-none : goal.returns-in_err-last-clause-none
returns-in_err-last-clause-none c =
    if_none c.from_residual-in_err-last.result
    (no_last c.in-Some.front.now c.in-Some.back.now
    (split_text_parts (codes "..") c.args.spelling.now (Some (c.in-Some.front, c.in-Some.back)) c.in-Some.ensures.cases)
    c.in_ok-first.ensures.some c.in_err-last.ensures.none)

pub returns-clause-some : goal.returns-clause-some
returns-clause-some c = of_two c.in-Some.front.now c.in-Some.back.now
    (split_text_parts (codes "..") c.args.spelling.now (Some (c.in-Some.front, c.in-Some.back)) c.in-Some.ensures.cases)
    c.in_ok-first.ensures.some c.in_ok-last.ensures.some
