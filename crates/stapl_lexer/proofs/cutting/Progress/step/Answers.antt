use Rattle.std.proofs.Common.{◌∙◌, refl, sym}
use Rattle.std.proofs.lemmas.List.{take_rest}
use Rattle.stapl_lexer.proofs.CutLemmas.{cut_pass, cut_name_byte}
use Rattle.stapl_lexer.proofs.cutting.Progress.step.Goals as goal

pub returns-clause-cut_up_to : goal.returns-clause-cut_up_to
returns-clause-cut_up_to c = λ pieces s.
    cut_pass c.args.text.now c.args.self.now c.pass.new.self pieces c.segment_len-n.result _ s c.requires.inside
    (rw take_rest at c.segment_len-n.ensures.segment) refl c.if-byte-eq59.false
    c.pass.ensures.at c.pass.ensures.start c.pass.ensures.line c.pass.ensures.first

pub returns-then-is_name_byte-clause-cut_up_to : goal.returns-then-is_name_byte-clause-cut_up_to
returns-then-is_name_byte-clause-cut_up_to c = λ pieces s.
    cut_name_byte c.args.text.now c.args.self.now pieces s c.requires.inside (sym c.is_some.ensures ∙ c.if-is_some.true)
    (sym c.is_name_byte.ensures ∙ c.if-is_name_byte.true)
