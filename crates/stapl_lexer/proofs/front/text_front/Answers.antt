use Rattle.std.proofs.Common.{Bool, sym, subst}
use Rattle.stapl_lexer.specs.declared.token.TokenKind.TheVariants as kinds
use Rattle.stapl_lexer.specs.TokenReading.{IsFront}
use Rattle.stapl_lexer.proofs.FrontLemmas.{text_found}
use Rattle.stapl_lexer.proofs.front.text_front.Goals as goal

pub returns : goal.returns
returns c =
    subst (λ (g : Bool). IsFront kinds.Text c.args.bytes.now (record { good = g; len = c.segment_len-len.result; value = 0 })) (sym c.ends_in_quote.ensures)
    (text_found c.args.bytes.now c.segment_len-len.result c.requires.quote c.segment_len-len.ensures.some c.segment_len-len.ensures.segment)
