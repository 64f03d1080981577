use Rattle.tool_frame.proofs.AnswerLemmas.{says_within}
use Rattle.play_tool.proofs.RequestLemmas.{of_any_files, of_one_named}
use Rattle.why_tool.proofs.FileLemmas.{did_say, no_files}
use Rattle.why_tool.proofs.whys.tell_request.Goals as goal

pub returns-in-Play-clause-says : goal.returns-in-Play-clause-says
returns-in-Play-clause-says g c = rw c.in-Play.is c.tell_play.ensures.says

pub returns-in-Run-clause-says : goal.returns-in-Run-clause-says
returns-in-Run-clause-says g c = rw c.in-Run.is c.tell_play-in-Run.ensures.says

pub returns-in-Check-clause-says : goal.returns-in-Check-clause-says
returns-in-Check-clause-says g c =
    rw c.in-Check.is
    (of_one_named (g.S.Shelf.told c.args.shelf.now) c.in-Check.path (rw c.as_str.ensures at c.tell_work_on.ensures.says) (λ held says. says))

pub returns-in-List-clause-says : goal.returns-in-List-clause-says
returns-in-List-clause-says g c =
    rw c.in-List.is
    (of_one_named (g.S.Shelf.told c.args.shelf.now) c.in-List.path (rw c.as_str-in-List.ensures at c.tell_work_on-in-List.ensures.says) (λ held says. says))

pub returns-in-Compile-clause-says : goal.returns-in-Compile-clause-says
returns-in-Compile-clause-says g c =
    rw c.in-Compile.is
    (of_one_named (g.S.Shelf.told c.args.shelf.now) c.in-Compile.path (rw c.as_str-in-Compile.ensures at c.tell_work_on-in-Compile.ensures.says) (λ held says. says))

pub returns-in-Soak-clause-says : goal.returns-in-Soak-clause-says
returns-in-Soak-clause-says g c =
    rw c.in-Soak.is
    (of_any_files (g.S.Shelf.told c.args.shelf.now) _ (λ contents. says_within _ _ _ _ _ c.tell_soak.result did_say (λ none. none) c.tell_soak.ensures.says))

pub returns-in-Play-clause-files : goal.returns-in-Play-clause-files
returns-in-Play-clause-files g c = rw c.in-Play.is c.tell_play.ensures.files

pub returns-in-Run-clause-files : goal.returns-in-Run-clause-files
returns-in-Run-clause-files g c = rw c.in-Run.is c.tell_play-in-Run.ensures.files

pub returns-in-Check-clause-files : goal.returns-in-Check-clause-files
returns-in-Check-clause-files g c = rw (c.in-Check.is) (rw c.as_str.ensures at c.tell_work_on.ensures.files)

pub returns-in-List-clause-files : goal.returns-in-List-clause-files
returns-in-List-clause-files g c = rw (c.in-List.is) (rw c.as_str-in-List.ensures at c.tell_work_on-in-List.ensures.files)

pub returns-in-Compile-clause-files : goal.returns-in-Compile-clause-files
returns-in-Compile-clause-files g c = rw (c.in-Compile.is) (rw c.as_str-in-Compile.ensures at c.tell_work_on-in-Compile.ensures.files)

pub returns-in-Soak-clause-files : goal.returns-in-Soak-clause-files
returns-in-Soak-clause-files g c = no_files g.S.Shelf _ c.args.shelf.now
