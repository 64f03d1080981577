use Rattle.std.proofs.Common.{◌≡◌, ℕ, ◌+◌, List, Option, Some, None, refl, sym, ap, ◌∙◌, drop, length, arith}
use Rattle.std.proofs.lemmas.List.{length-map}
use Rattle.stapl_syntax.specs.Trees.{BodyTree, body_tree, stmt_tree, trees}
use Rattle.stapl_meaning.specs.Scopes.{plays, Preset, preset_of, as_played}
use Rattle.stapl_meaning.proofs.Blocks.{body_of, preset_in}
use Rattle.stapl_codegen.specs.Emit.{body_literals}
use Rattle.stapl_codegen.specs.Correct.{Starts}
use Rattle.stapl_codegen.proofs.Heads.{mapped_more}
use Rattle.stapl_codegen.proofs.Places.{at_start, piece, piece_first, preset_first, next, presets_count}
use Rattle.stapl_codegen.proofs.Drafts.{preset_more, all_written}
use Rattle.stapl_codegen.proofs.draft.draft_presets.Goals as goal

starts : (now : Option (List ℕ)) (b : BodyTree) → Starts (preset_of now b)
starts now b = by (preset_of now b) refl
  where
    by : (o : Option Preset) → preset_of now b ≡ o → Starts o
    by None e = tt
    by (Some preset) e = (preset_in now b preset e).starts

pub loop-st-init : goal.loop-st-init
loop-st-init c = record { written = c.requires; at = at_start (trees c.args.program.now) }

pub loop-st-preserved : goal.loop-st-preserved
loop-st-preserved c =
    let sts = trees c.args.program.now in
    let program = as_played sts in
    let i = c.loop-st.st-index in
    let st = c.st-item.result in
    let block = c.loop-st.block in
    let is = mapped_more stmt_tree i c.args.program.now st c.loop-st-test.true c.st-item.is in
    let at = c.loop-st.invariant.at in
    let rest = drop (i + 1) sts in
    let own = piece sts i block (stmt_tree st) rest is at in
    let body = body_of (plays block (body_tree st.body)) (stmt_tree st) in
    record {
      written = preset_more program i c.loop-st.emitter c.draft_preset.new.emitter c.loop-st.literals c.own_literals.result c.in_ok-own.own c.preset_literals.result c.in_ok-literals.literals
          (preset_of block (body_tree st.body)) own
          (preset_first sts i block (stmt_tree st) rest is at) (piece_first sts i block (stmt_tree st) rest is at) (starts block (body_tree st.body)) c.loop-st.invariant.written
          (c.own_literals.ensures ∙ ap (λ b. length (body_literals b)) (sym body)) c.preset_literals.ensures c.in_ok-own.ensures c.in_ok-literals.ensures
          c.in_ok-draft_preset.ensures;
      at = rw c.data_after-block.ensures (next sts i block (stmt_tree st) rest is at refl);
    }

pub returns : goal.returns
returns c =
    let sts = trees c.args.program.now in
    let before = c.loop-st.auto.st-index-end in
    let past = c.loop-st-test.false in
    let all : c.loop-st.st-index ≡ length (as_played sts).presets = omega (arith, before, past, presets_count None sts, length-map c.args.program.now stmt_tree) in
    all_written (as_played sts) c.loop-st.st-index c.loop-st.emitter c.loop-st.literals all c.loop-st.invariant.written
