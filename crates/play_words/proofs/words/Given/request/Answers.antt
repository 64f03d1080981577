use Rattle.std.proofs.Common.{◌≡◌, ◌∙◌, sym, refl, Option, None, Some, IfNone}
use Rattle.std.specs.Prelude.{is_some}
use Rattle.play_words.specs.declared.mode.Mode.TheVariants as modes
use Rattle.play_words.proofs.WordLemmas.{lacks_to_play, lacks_to_run, lacks_program, lacks_seed}
use Rattle.play_words.proofs.words.Given.request.Goals as goal

if_none : {A Q : Type 0} (made : Option A) → (made ≡ None → Q) → IfNone made Q
if_none None q = q refl
if_none (Some x) q = tt

none_made : {A B : Type 0} (made : Option A) (found : Option B) → is_some made ≡ is_some found → made ≡ None → found ≡ None
none_made None None e n = refl
none_made None (Some x) e n = absurd cc
none_made (Some x) found e n = absurd cc

told : {A P : Type 0} (found : Option A) → found ≡ None → IfNone found P → P
told None n p = p
told (Some x) n p = absurd cc

pub returns-in_ok-file_play-in-Play-clause-none : goal.returns-in_ok-file_play-in-Play-clause-none
returns-in_ok-file_play-in-Play-clause-none c =
    if_none c.map.result (λ n. lacks_to_play c.in-Play.is
    (told c.in_ok-file_play-in-Play.field-0 (none_made c.map.result c.in_ok-file_play-in-Play.field-0 c.map.ensures.variant n) c.in_ok-file_play-in-Play.ensures.none))

pub returns-in_ok-file_play-in-Run-clause-none : goal.returns-in_ok-file_play-in-Run-clause-none
returns-in_ok-file_play-in-Run-clause-none c =
    if_none c.map-in-Run.result (λ n. lacks_to_run c.in-Run.is
    (told c.in_ok-file_play-in-Run.field-0 (none_made c.map-in-Run.result c.in_ok-file_play-in-Run.field-0 c.map-in-Run.ensures.variant n) c.in_ok-file_play-in-Run.ensures.none))

pub returns-in_ok-file_named-in-Check-clause-none : goal.returns-in_ok-file_named-in-Check-clause-none
returns-in_ok-file_named-in-Check-clause-none c =
    if_none c.map-in-Check.result (λ n. lacks_program modes.Check c.in-Check.is refl
    (sym c.in_ok-file_named-in-Check.ensures ∙ none_made c.map-in-Check.result c.in_ok-file_named-in-Check.field-0 c.map-in-Check.ensures.variant n))

pub returns-in_ok-file_named-in-List-clause-none : goal.returns-in_ok-file_named-in-List-clause-none
returns-in_ok-file_named-in-List-clause-none c =
    if_none c.map-in-List.result (λ n. lacks_program modes.List c.in-List.is refl
    (sym c.in_ok-file_named-in-List.ensures ∙ none_made c.map-in-List.result c.in_ok-file_named-in-List.field-0 c.map-in-List.ensures.variant n))

pub returns-in_ok-file_named-in-Compile-clause-none : goal.returns-in_ok-file_named-in-Compile-clause-none
returns-in_ok-file_named-in-Compile-clause-none c =
    if_none c.map-in-Compile.result (λ n. lacks_program modes.Compile c.in-Compile.is refl
    (sym c.in_ok-file_named-in-Compile.ensures ∙ none_made c.map-in-Compile.result c.in_ok-file_named-in-Compile.field-0 c.map-in-Compile.ensures.variant n))

pub returns-in-Soak-clause-none : goal.returns-in-Soak-clause-none
returns-in-Soak-clause-none c =
    if_none c.map-in-Soak.result (λ n. lacks_seed c.in-Soak.is (none_made c.map-in-Soak.result c.args.self.now.seed c.map-in-Soak.ensures.variant n))
