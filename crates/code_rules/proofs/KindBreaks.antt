-- An instruction that finds no kinds after it breaks a rule, and one that does breaks none of the rules on operands.
use Rattle.std.proofs.Common.{◌≡◌, ◌≢◌, ℕ, ◌⊎◌, inl, inr, true, List, [], reverse, Some, None, refl, sym, ap, subst, ◌∙◌}
use Rattle.std.proofs.lemmas.List.{reverse-reverse}
use Rattle.stapl_meaning.specs.declared.values.ValueKind.{ValueKind}
use Rattle.stapl_code.specs.declared.raw.CodeLists.{CodeLists}
use Rattle.stapl_code.specs.declared.instr.Instr.{Instr}
use Rattle.stapl_code.specs.declared.instr.Instr.TheVariants.{Turn}
use Rattle.stapl_code.specs.Machine.{takes, gives}
use Rattle.stapl_code.specs.Kinds.{clears, all_off, all_on, kinds_after}
use Rattle.code_rules.specs.Instructions.{IsTurnInstr, Empties}
use Rattle.code_rules.specs.KindMoves.{MovesKinds, KindsBefore}
use Rattle.code_rules.specs.Rules.{RuleBreak, operands_missing, variable_of_other_kind, left_before_turn, left_after}
use Rattle.code_rules.proofs.InstructionTests.{clears_agrees, gives_nothing}
use Rattle.code_rules.proofs.KindLemmas.{moves_kinds, kinds_are_moved, moves_once, FindsAll, LacksKinds, lacks_variable, lacks_operand, leaves_operand, lacks}
use Rattle.code_rules.proofs.PartLemmas.{kinds_once}

turn_takes : (x : Instr) → IsTurnInstr x → takes x ≡ []
turn_takes (Turn piece) h = refl
turn_takes _ h = absurd h

pub some_reversed : (ks : List ValueKind) → ks ≢ [] → reverse ks ≢ []
some_reversed ks some e = some (sym (reverse-reverse ks) ∙ ap reverse e)

none_reversed : (ks : List ValueKind) → ks ≡ [] → reverse ks ≡ []
none_reversed ks e = ap reverse e

module _ (code : CodeLists) (i : ℕ) (x : Instr) (ks : List ValueKind) (before : KindsBefore code i (reverse ks)) where
  turn_below : (below : List ValueKind) → IsTurnInstr x → all_off code.variables (takes x) ks ≡ Some below → ks ≡ below
  turn_below below t e = let same = ap (λ slots. all_off code.variables slots ks) (sym (turn_takes x t)) ∙ e in cc

  left_over : (below : List ValueKind) → clears x ≡ true → all_off code.variables (takes x) ks ≡ Some below → below ≢ [] →
      IsTurnInstr x ⊎ Empties x → RuleBreak code i x
  left_over below c off some (inl t) =
      left_before_turn (reverse ks) t before (some_reversed ks (λ e. some (sym (turn_below below t off) ∙ e)))
  left_over below c off some (inr h) =
      let on = ap (λ slots. all_on code.variables slots below) (gives_nothing x c) in
      let m = moves_kinds code.variables x ks below (record { below = below; takes_off = off; puts_on = on }) in
      left_after (reverse ks) (reverse below) h before m (some_reversed below some)

  lack_breaks : LacksKinds code.variables x ks → RuleBreak code i x
  lack_breaks (lacks_variable want c n) = variable_of_other_kind want c n
  lack_breaks (lacks_operand n) =
      operands_missing (reverse ks) before (λ after m. n (reverse after) (kinds_are_moved code.variables x ks after m))
  lack_breaks (leaves_operand below c off some) = left_over below c off some ((clears_agrees x).yes c)

  pub no_kinds_break : kinds_after code.variables x ks ≡ None → RuleBreak code i x
  no_kinds_break e = lack_breaks (lacks code.variables x ks e)

  pub kinds_are : (kinds : List ValueKind) → KindsBefore code i kinds → kinds ≡ reverse ks
  kinds_are kinds k = kinds_once code k before

  module _ (after : List ValueKind) (finds : FindsAll code.variables x ks after) where
    pub moves_on : MovesKinds code.variables x (reverse ks) (reverse after)
    moves_on = moves_kinds code.variables x ks after finds.moved

    pub moves_so : (kinds other : List ValueKind) → KindsBefore code i kinds → MovesKinds code.variables x kinds other → other ≡ reverse after
    moves_so kinds other k m =
        moves_once code.variables x (reverse ks) other (reverse after)
        (subst (λ l. MovesKinds code.variables x l other) (kinds_are kinds k) m) moves_on

    -- the four rules on operands
    pub none_missing : (kinds : List ValueKind) → KindsBefore code i kinds →
        ((other : List ValueKind) → MovesKinds code.variables x kinds other → ⊥) → ⊥
    none_missing kinds k n = n (reverse after) (subst (λ l. MovesKinds code.variables x l (reverse after)) (sym (kinds_are kinds k)) moves_on)

    pub none_before_turn : (kinds : List ValueKind) → IsTurnInstr x → KindsBefore code i kinds → kinds ≢ [] → ⊥
    none_before_turn kinds t k some =
        let clear = (clears_agrees x).is (inl t) in
        some (kinds_are kinds k ∙ none_reversed ks (turn_below finds.moved.below t finds.moved.takes_off ∙ finds.emptied clear))

    pub none_after : (kinds other : List ValueKind) → Empties x → KindsBefore code i kinds → MovesKinds code.variables x kinds other → other ≢ [] → ⊥
    none_after kinds other h k m some =
        let clear = (clears_agrees x).is (inr h) in
        let puts : all_on code.variables (gives x) finds.moved.below ≡ Some after = finds.moved.puts_on in
        let nothing : all_on code.variables (gives x) finds.moved.below ≡ Some finds.moved.below =
        ap (λ slots. all_on code.variables slots finds.moved.below) (gives_nothing x clear) in
        let same : after ≡ finds.moved.below = cc in
        some (moves_so kinds other k m ∙ none_reversed after (same ∙ finds.emptied clear))
