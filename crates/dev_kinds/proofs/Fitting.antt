-- Devices that are fitted, and stay so.
use Rattle.std.proofs.Common.{◌≡◌, ◌≤◌, ℕ, Bool, Option, refl, sym, ap, subst, ◌∙◌}
use Rattle.std.specs.Option.{MatchOption}
use Rattle.dev_card.specs.declared.desc.Kind.{Kind}
use Rattle.dev_card.specs.declared.desc.Desc.{Desc}
use Rattle.dev_card.specs.Descriptions.{IsGood}
use Rattle.dev_card.specs.Card.{fresh, step}
use Rattle.dev_card.specs.Sound.{IsSound}
use Rattle.dev_card.proofs.Soundness.{fresh_sound, sound_step}
use Rattle.dev_kinds.specs.Logic.{Logic, fresh_logic, IsBlockShifted}
use Rattle.dev_kinds.specs.DataRegisters.{RegisterContents, IsFitted, card_with, fresh_contents}
use Rattle.dev_kinds.proofs.LogicBlocks.{sound_block}

fresh_card : (d : Desc) (room : ℕ) (k : Logic) (r : RegisterContents) → k ≡ fresh_logic d room → r ≡ fresh_contents d →
    card_with k r ≡ fresh d
fresh_card d room k r a b = ap (λ x. card_with x r) a ∙ ap (card_with (fresh_logic d room)) b

module _ (own : Kind) (longest : ℕ) where
  pub fresh_fitted : (d : Desc) (room : ℕ) (k : Logic) (r : RegisterContents) → IsGood d → d.kind ≡ own → longest ≤ room →
      k ≡ fresh_logic d room → r ≡ fresh_contents d → IsFitted own longest k r
  fresh_fitted d room k r g e m a b = record {
    kind = ap (λ (x : Logic). x.desc.kind) a ∙ e;
    flash = ap (λ (x : Logic). x.desc.flash) a ∙ sym (ap (λ (x : RegisterContents). x.flash) b);
    room = subst (λ n. longest ≤ n) (sym (ap (λ (x : Logic). x.room) a)) m;
    sound = subst IsSound (sym (fresh_card d room k r a b)) (fresh_sound d g);
  }

  still_fitted : (k new : Logic) (r s : RegisterContents) → IsFitted own longest k r → new.desc ≡ k.desc → new.room ≡ k.room →
      s.flash ≡ r.flash → IsSound (card_with new s) → IsFitted own longest new s
  still_fitted k new r s h d m f c = record {
    kind = ap (λ (x : Desc). x.kind) d ∙ h.kind;
    flash = ap (λ (x : Desc). x.flash) d ∙ h.flash ∙ sym f;
    room = subst (λ n. longest ≤ n) (sym m) h.room;
    sound = c;
  }

  pub clocked_fitted : (k new : Logic) (r s : RegisterContents) (tms tdi : Bool) → IsFitted own longest k r →
      new.desc ≡ k.desc → new.room ≡ k.room → s.flash ≡ r.flash → card_with new s ≡ step (card_with k r) tms tdi →
      IsFitted own longest new s
  clocked_fitted k new r s tms tdi h d m f e =
      still_fitted k new r s h d m f (subst IsSound (sym e) (sound_step (card_with k r) tms tdi h.sound))

  pub block_fitted : (k new : Logic) (r : RegisterContents) (tdi n : ℕ) (last : Bool) (o : Option ℕ) →
      IsFitted own longest k r → new.desc ≡ k.desc → new.room ≡ k.room →
      MatchOption o (new ≡ k) (λ seen. IsBlockShifted k new tdi n last seen) → IsFitted own longest new r
  block_fitted k new r tdi n last o h d m e =
      still_fitted k new r r h d m refl (sound_block k new tdi n last o r.cells r.busy e h.sound)
