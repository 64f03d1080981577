use Rattle.board_text.specs.Lines.{texts}
use Rattle.board_text.proofs.FieldLemmas.{even_identity}
use Rattle.board_text.proofs.device.identity.Goals as goal

pub returns-else-value-eq1 : goal.returns-else-value-eq1
returns-else-value-eq1 c = even_identity c.args.identified (texts c.args.words.now) c.identity_at-value.result c.if-not-identified.false c.identity_at-value.ensures c.if-value-eq1.false
