use Rattle.std.proofs.Common.{◌≡◌, refl, false, true}
use Rattle.tool_frame.proofs.FileLemmas.{of_files_as}
use Rattle.play_tool.proofs.FileLemmas.{left_alone, said_and_left, said_and_left_as}
use Rattle.play_tool.proofs.RequestLemmas.{of_any_files, of_one_named}
use Rattle.play_tool.proofs.answering.answer_request.Goals as goal

not_playing : false ≡ true → ⊥
not_playing e = cc

pub returns-in-Play-clause-answers : goal.returns-in-Play-clause-answers
returns-in-Play-clause-answers g c =
    rw c.in-Play.is
    (of_files_as (λ contents a. said_and_left_as g.K.Sink c.answer_play.result (record { to = λ text status a. a }) (λ p. refl) (λ p. tt) (λ rack final. final) a)
    c.answer_play.ensures.answers)

pub returns-in-Play-clause-shelf : goal.returns-in-Play-clause-shelf
returns-in-Play-clause-shelf g c = rw c.in-Play.is c.answer_play.ensures.shelf

pub returns-in-Run-clause-answers : goal.returns-in-Run-clause-answers
returns-in-Run-clause-answers g c =
    rw c.in-Run.is
    (of_files_as (λ contents a. said_and_left_as g.K.Sink c.answer_play-in-Run.result (record { to = λ text status a. a }) (λ p. refl) (λ p. tt) (λ rack final. final) a)
    c.answer_play-in-Run.ensures.answers)

pub returns-in-Run-clause-shelf : goal.returns-in-Run-clause-shelf
returns-in-Run-clause-shelf g c = rw c.in-Run.is c.answer_play-in-Run.ensures.shelf

pub returns-in-Check-clause-answers : goal.returns-in-Check-clause-answers
returns-in-Check-clause-answers g c =
    rw c.in-Check.is
    (of_one_named (g.S.Shelf.told c.args.shelf.now) c.in-Check.path (rw c.as_str.ensures at c.work_on_file.ensures.says)
    (λ held says. record { says = says; left = left_alone c.work_on_file.result not_playing }))

pub returns-in-Check-clause-shelf : goal.returns-in-Check-clause-shelf
returns-in-Check-clause-shelf g c = rw (c.in-Check.is) (rw c.as_str.ensures at c.work_on_file.ensures.shelf)

pub returns-in-List-clause-answers : goal.returns-in-List-clause-answers
returns-in-List-clause-answers g c =
    rw c.in-List.is
    (of_one_named (g.S.Shelf.told c.args.shelf.now) c.in-List.path (rw c.as_str-in-List.ensures at c.work_on_file-in-List.ensures.says)
    (λ held says. record { says = says; left = left_alone c.work_on_file-in-List.result not_playing }))

pub returns-in-List-clause-shelf : goal.returns-in-List-clause-shelf
returns-in-List-clause-shelf g c = rw (c.in-List.is) (rw c.as_str-in-List.ensures at c.work_on_file-in-List.ensures.shelf)

pub returns-in-Compile-clause-answers : goal.returns-in-Compile-clause-answers
returns-in-Compile-clause-answers g c =
    rw c.in-Compile.is
    (of_one_named (g.S.Shelf.told c.args.shelf.now) c.in-Compile.path (rw c.as_str-in-Compile.ensures at c.work_on_file-in-Compile.ensures.says)
    (λ held says. record { says = says; left = left_alone c.work_on_file-in-Compile.result not_playing }))

pub returns-in-Compile-clause-shelf : goal.returns-in-Compile-clause-shelf
returns-in-Compile-clause-shelf g c = rw (c.in-Compile.is) (rw c.as_str-in-Compile.ensures at c.work_on_file-in-Compile.ensures.shelf)

pub returns-in-Soak-clause-answers : goal.returns-in-Soak-clause-answers
returns-in-Soak-clause-answers g c =
    rw c.in-Soak.is
    (of_any_files (g.S.Shelf.told c.args.shelf.now) _ (λ contents.
    said_and_left_as g.K.Sink c.answer_soak.result (record { to = λ text status a. a }) (λ p. refl) (λ p. tt) (λ rack final. final)
    (said_and_left g.K.Sink c.answer_soak.result (record { to = λ text status a. a }) (λ rack final. final) c.answer_soak.ensures.says c.answer_soak.ensures.rack)))
