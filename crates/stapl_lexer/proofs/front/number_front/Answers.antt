use Rattle.std.proofs.Common.{◌∙◌, Bool, ap, not, sym, subst}
use Rattle.stapl_lexer.specs.declared.token.TokenKind.TheVariants as kinds
use Rattle.stapl_lexer.specs.Names.{is_name_byte}
use Rattle.stapl_lexer.specs.TokenReading.{IsFront}
use Rattle.stapl_lexer.proofs.FrontLemmas.{number_found}
use Rattle.stapl_lexer.proofs.front.number_front.Goals as goal

pub returns : goal.returns
returns c =
    subst (λ (g : Bool). IsFront kinds.Number c.args.bytes.now (record { good = g; len = c.number_in_front-len.result.0; value = c.number_in_front-len.result.1 }))
    (sym (ap not (c.is_name_byte.ensures ∙ ap is_name_byte c.byte_at.ensures)))
    (number_found c.args.bytes.now c.number_in_front-len.result.0 c.number_in_front-len.result.1 c.number_in_front-len.ensures)
