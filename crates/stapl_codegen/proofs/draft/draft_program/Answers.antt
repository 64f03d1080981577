use Rattle.std.proofs.Common.{◌≡◌, ℕ, List, ◌+◌, ◌++◌, refl, ◌∙◌, ap, sym, subst, arith, drop, length, None}
use Rattle.std.proofs.lemmas.List.{length-map}
use Rattle.std.specs.Prelude.{if◌then◌else◌}
use Rattle.stapl_syntax.specs.Trees.{end_data, body_tree, stmt_tree, trees}
use Rattle.stapl_syntax.specs.Statements.{is_outer}
use Rattle.stapl_syntax.specs.Names.{Names}
use Rattle.stapl_meaning.specs.Scopes.{plays, idle, preset_of, program_names, as_played}
use Rattle.stapl_meaning.proofs.Blocks.{body_of, same_count}
use Rattle.stapl_code.specs.Machine.{nowhere}
use Rattle.stapl_codegen.specs.Emit.{row_literals, preset_items, body_texts, body_literals}
use Rattle.stapl_codegen.specs.Numbers.{numbers_from}
use Rattle.stapl_codegen.specs.Drafts.{with_code, with_texts, with_literals, passed, AreDrafted, IsDraft, piece_code_in}
use Rattle.stapl_codegen.proofs.Heads.{mapped_more}
use Rattle.stapl_codegen.proofs.Places.{at_start, piece, piece_first, preset_first, next, presets_count}
use Rattle.stapl_codegen.proofs.Drafts.{drafted_size, none_written, piece_more, is_draft}
use Rattle.stapl_codegen.proofs.draft.draft_program.Goals as goal

pub overflow_cast-program : goal.overflow_cast-program
overflow_cast-program c =
    let few = c.requires.accepted.typed.few in
    omega (arith, few, same_count None (trees c.args.program.now), length-map c.args.program.now stmt_tree)

pub draft_presets-requires : goal.draft_presets-requires
draft_presets-requires c =
    let sts = trees c.args.program.now in
    let given : ℕ = length c.args.program.now in
    let count : given ≡ length (as_played sts).pieces = omega (arith, same_count None sts, length-map c.args.program.now stmt_tree) in
    none_written (as_played sts) _ c.new-emitter.result c.new-emitter.ensures
    (ap (λ (l : List ℕ). record { names = c.args.numbers.now.names.now; next = l; count = given; inside = None; piece = 1 }) c.requires.next
    ∙ ap (λ (n : Names). record { names = n; next = numbers_from 0 n.blocks; count = given; inside = None; piece = 1 }) c.requires.names
    ∙ ap (λ (n : ℕ). record { names = program_names sts; next = numbers_from 0 (program_names sts).blocks; count = n; inside = None; piece = 1 }) count)

pub loop-st-init : goal.loop-st-init
loop-st-init c =
    let program = as_played (trees c.args.program.now) in
    record {
      drafted = subst (λ l. AreDrafted program 0 c.draft_presets.new.emitter l) (sym c.new-starts.ensures.items) c.in_ok-draft_presets.ensures;
      at = at_start (trees c.args.program.now);
    }

pub start_at-requires : goal.start_at-requires
start_at-requires c =
    let size = drafted_size (as_played (trees c.args.program.now)) c.loop-st.st-index c.loop-st.emitter c.loop-st.starts.items c.loop-st.invariant.drafted c.requires.accepted in
    omega (arith, size, c.len.ensures)

pub loop-st-preserved : goal.loop-st-preserved
loop-st-preserved c =
    let sts = trees c.args.program.now in
    let program = as_played sts in
    let i = c.loop-st.st-index in
    let st = c.st-item.result in
    let block = c.loop-st.block in
    let before = c.loop-st.emitter in
    let is = mapped_more stmt_tree i c.args.program.now st c.loop-st-test.true c.st-item.is in
    let at = c.loop-st.invariant.at in
    let own = piece sts i block (stmt_tree st) (drop (i + 1) sts) is at in
    let playing = c.plays-playing.ensures in
    let body = body_of (plays block (body_tree st.body)) (stmt_tree st) in
    record {
      drafted = piece_more program i before c.loop-st.starts.items c.loop-st.invariant.drafted c.requires.accepted.typed own (piece_first sts i block (stmt_tree st) (drop (i + 1) sts) is at)
          (preset_of block (body_tree st.body)) (preset_first sts i block (stmt_tree st) (drop (i + 1) sts) is at) c.draft_piece.new.emitter c.start_at.result c.push.new.self.items
          (c.in_ok-draft_piece.ensures
          ∙ ap (λ b. passed (with_literals (with_texts (with_code before (piece_code_in before (if b then stmt_tree st else idle))) (body_texts (if b then stmt_tree st else idle).body))
          (body_literals (if b then stmt_tree st else idle).body ++ preset_items row_literals (preset_of block (body_tree st.body)))) (if b then stmt_tree st else idle).body) playing)
          (c.start_at.ensures
          ∙ ap (λ b. if is_outer (if b then body_tree st.body else end_data) then nowhere else c.len.result) playing
          ∙ ap (λ b. if is_outer b then nowhere else c.len.result) (sym body)
          ∙ ap (λ n. if is_outer own.body then nowhere else n) c.len.ensures)
          c.in_ok-push.ensures.items;
      at = rw c.data_after-block.ensures (next sts i block (stmt_tree st) (drop (i + 1) sts) is at refl);
    }

pub returns : goal.returns
returns c =
    let sts = trees c.args.program.now in
    let program = as_played sts in
    let starts = c.loop-st.starts.items in
    let before = c.loop-st.auto.st-index-end in
    let past = c.loop-st-test.false in
    let all : c.loop-st.st-index ≡ length program.pieces = omega (arith, before, past, same_count None sts, length-map c.args.program.now stmt_tree) in
    let e = c.into_parts-code.ensures in
    let presets : c.loop-st.st-index ≡ length program.presets = omega (arith, before, past, presets_count None sts, length-map c.args.program.now stmt_tree) in
    let draft = is_draft program c.loop-st.st-index c.loop-st.emitter starts c.loop-st.invariant.drafted all presets in
    subst (λ code. IsDraft program code c.into_parts-code.result.1.items c.into_parts-code.result.2.items starts) (sym e.code)
    (subst (λ texts. IsDraft program c.loop-st.emitter.code texts c.into_parts-code.result.2.items starts) (sym e.texts)
    (subst (λ literals. IsDraft program c.loop-st.emitter.code c.loop-st.emitter.texts literals starts) (sym e.literals) draft))
