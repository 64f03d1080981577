use Rattle.std.proofs.Common.{◌≡◌, ◌∙◌, ◌++◌, List, ℕ, codes, sym, ap}
use Rattle.std.proofs.lemmas.Bool.{true≢false}
use Rattle.carried_plays.specs.PadNames.{pad_name}
use Rattle.chain_rewrite.proofs.NameLemmas.{is_spelled, in_upper_case}
use Rattle.chain_rewrite.proofs.names.pad_name.Goals as goal

pub unreachable-requires : goal.unreachable-requires
unreachable-requires c =
    let spelled : c.deref.result.now ≡ pad_name c.args.number =
    c.deref.ensures.value ∙ c.in_ok-extend_from_slice.ensures.items ∙ ap (λ (l : List ℕ). l ++ c.as_bytes.result.now) c.in_ok-spelled.ensures.items
    ∙ ap (λ (l : List ℕ). codes "CHAIN_PAD_" ++ l) (c.as_bytes.ensures.value ∙ c.format.ensures.text) in
    true≢false (sym (is_spelled c.args.number c.deref.result.now c.requires spelled) ∙ c.in-None.ensures.none)

pub returns : goal.returns
returns c =
    let spelled : c.deref.result.now ≡ pad_name c.args.number =
    c.deref.ensures.value ∙ c.in_ok-extend_from_slice.ensures.items ∙ ap (λ (l : List ℕ). l ++ c.as_bytes.result.now) c.in_ok-spelled.ensures.items
    ∙ ap (λ (l : List ℕ). codes "CHAIN_PAD_" ++ l) (c.as_bytes.ensures.value ∙ c.format.ensures.text) in
    c.in-Some.ensures.value ∙ in_upper_case c.args.number c.deref.result.now c.requires spelled
