use Rattle.std.proofs.Common.{◌≡◌, ◌||◌, ℕ, Bool, true, false, List, refl, sym, ap, ap₂, ◌∙◌, true≢false}
use Rattle.std.specs.Str.{bytes_eq}
use Rattle.std.proofs.lemmas.Slice.Eq.{bytes_eq-Decides}
use Rattle.stapl_meaning.specs.declared.profiles.Profile.TheVariants.{One, Two}
use Rattle.stapl_code.specs.Files.{head}
use Rattle.code_files.proofs.reading.profile_of.Goals as goal

-- bytes that are not those of a list, the other way round
others : (own bytes : List ℕ) (r : Bool) → r ≡ bytes_eq bytes own → r ≡ false → bytes_eq own bytes ≡ false
others own bytes r is differs = by (bytes_eq own bytes) refl
  where
    by : (b : Bool) → bytes_eq own bytes ≡ b → bytes_eq own bytes ≡ false
    by false e = e
    by true e = absurd (true≢false (sym ((bytes_eq-Decides bytes own).1 (sym ((bytes_eq-Decides own bytes).0 e))) ∙ sym is ∙ differs))

pub returns-else-eq-2-clause-none : goal.returns-else-eq-2-clause-none
returns-else-eq-2-clause-none c =
    let front = c.args.front.now in
    let one = others (head One) front c.eq.result (c.eq.ensures ∙ ap (bytes_eq front) (c.as_slice.ensures ∙ c.head.ensures)) c.if-eq.false in
    let two = others (head Two) front c.eq-else-eq.result
    (c.eq-else-eq.ensures ∙ ap (bytes_eq front) (c.as_slice-else-eq.ensures ∙ c.head-else-eq.ensures)) c.if-eq-2.false in
    ap₂ (λ (a : Bool) (b : Bool). a || b) one two
