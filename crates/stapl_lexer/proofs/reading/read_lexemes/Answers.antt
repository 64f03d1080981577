use Rattle.std.proofs.Common.{◌++◌, ◌∷◌, [], ◌&&◌, ◌||◌, List, Bool, Option, sym, subst, ap, ◌∙◌}
use Rattle.stapl_lexer.specs.declared.token.Token.{Token}
use Rattle.stapl_lexer.specs.PieceTokens.{first_word}
use Rattle.stapl_lexer.specs.TokenReading.{IsReadUpTo}
use Rattle.stapl_lexer.proofs.LexemeLemmas.{read_one, read_all}
use Rattle.stapl_lexer.proofs.reading.read_lexemes.Goals as goal

pub lexemes-preserved : goal.lexemes-preserved
lexemes-preserved c =
    let text = c.args.text.now in
    let lexed = c.lexemes.lexed in
    let lexeme = c.in-Some.lexeme in
    let end = lexeme.token.end in
    subst (λ (ts : List Token). IsReadUpTo text c.args.start c.args.limit ts c.push.new.self.good c.push.new.self.large c.first_word-is_crc.result end) (sym c.in_ok-push.ensures.tokens)
    (subst (λ (g : Bool). IsReadUpTo text c.args.start c.args.limit (lexed.tokens.items ++ lexeme.token ∷ []) g c.push.new.self.large c.first_word-is_crc.result end) (sym c.in_ok-push.ensures.good)
    (subst (λ (g : Bool). IsReadUpTo text c.args.start c.args.limit (lexed.tokens.items ++ lexeme.token ∷ [])
    (lexed.good && lexeme.good) g c.first_word-is_crc.result end) (sym c.in_ok-push.ensures.large)
    (subst (λ (w : Option Bool). IsReadUpTo text c.args.start c.args.limit (lexed.tokens.items ++ lexeme.token ∷ []) (lexed.good && lexeme.good)
    (lexed.large || lexeme.large) w end) (sym (c.first_word-is_crc.ensures ∙ ap (first_word c.lexemes.is_crc lexeme.token.kind) c.bytes.ensures))
    (read_one text c.args.start c.args.limit lexed.tokens.items lexed.good lexed.large c.lexemes.is_crc c.lexemes.at lexeme.token lexeme.good lexeme.large
    c.lexemes.invariant c.in-Some.ensures.some c.in-Some.ensures.large))))

pub returns-clause-read : goal.returns-clause-read
returns-clause-read c =
    let lexed = c.lexemes.lexed in
    read_all c.args.text.now c.args.start c.args.limit lexed.tokens.items lexed.good lexed.large c.lexemes.is_crc c.lexemes.at c.lexemes.invariant c.in_default.ensures.none
