use Rattle.std.proofs.Common.{[], ◌∷◌, Some, refl, ap}
use Rattle.named_files.specs.Contents.{both_of}
use Rattle.rewrite_tool.proofs.RequestLemmas.{told_answer}
use Rattle.rewrite_tool.proofs.laws.told_files_are_answered.Goals as goal

pub returns : goal.returns
returns c = λ words files text status o.
    (told_answer files words (both_of o.contents) (λ named asks.
    ap both_of (o.read (Some named.board ∷ Some named.file ∷ []) (record { files = named; asked = asks; both = refl })))).to text status o.holds
