-- What a statement does with places of the code in the state: the same, with these places in it.
use Rattle.std.proofs.Common.{◌≡◌, ℕ, Bool, List, map, Option, refl}
use Rattle.stapl_lexer.specs.declared.terminal.Padding.{Padding}
use Rattle.stapl_lexer.specs.declared.terminal.Padding.TheVariants as paddings
use Rattle.stapl_syntax.specs.Trees.{BodyTree}
use Rattle.stapl_meaning.specs.declared.values.Value.{Value}
use Rattle.stapl_meaning.specs.Deeds.{Deed}
use Rattle.stapl_meaning.specs.Values.{Got}
use Rattle.stapl_meaning.specs.States.{State, Did, Turned, preceded, turn_of_piece, jumps_to}
use Rattle.stapl_meaning.specs.Effects.{assigned, element_assigned}
use Rattle.stapl_meaning.specs.Scans.{with_padding}
use Rattle.stapl_meaning.specs.Scopes.{Scope}
use Rattle.stapl_meaning.specs.Turns.{effect}
use Rattle.stapl_meaning.proofs.Walks.{WalkRule, plain_rule, PaddingRule, changed_did, changed_got, assigned_same, element_same, beside, effect_same, changed_target, changed_turned, changed_preceded, changed_piece, jumps_same}
use Rattle.stapl_codegen.specs.Correct.{placed_record, placed_state}

module _ (place : ℕ → ℕ) where
  -- the records keep places of the code; all else is as it was
  abbrev pub placing : WalkRule
  placing = record plain_rule {
    place = place;
    records = map (placed_record place);
    no_record = refl;
    on_value = λ z rs. refl;
    on_call = λ i rs. refl;
    on_loop = λ l rs. refl;
  }

  padding_placed : (which : Padding) (bits : List Bool) (s : State) → with_padding which bits (placed_state place s) ≡ placed_state place (with_padding which bits s)
  padding_placed paddings.PreData bits s = refl
  padding_placed paddings.PostData bits s = refl
  padding_placed paddings.PreInstruction bits s = refl
  padding_placed paddings.PostInstruction bits s = refl

  padding : PaddingRule placing
  padding = record { same = padding_placed; kept = λ which bits s h. (tt, tt, tt) }

  -- ---- what is done

  abbrev pub placed_did : Did → Did
  placed_did did = changed_did placing did

  abbrev pub placed_got : Got Did → Got Did
  placed_got g = changed_got placing g

  -- what a statement finds, with the place of the code after it
  abbrev pub placed_scope : Scope → Scope
  placed_scope scope = beside placing scope scope

  pub assigned_placed : (n : ℕ) (vs : List Value) (s : State) → assigned n vs (placed_state place s) ≡ placed_got (assigned n vs s)
  assigned_placed n vs s = (assigned_same placing n vs s (tt, tt, tt)).same

  pub element_placed : (n : ℕ) (vs : List Value) (s : State) → element_assigned n vs (placed_state place s) ≡ placed_got (element_assigned n vs s)
  element_placed n vs s = (element_same placing n vs s (tt, tt, tt)).same

  pub effect_placed : (scope : Scope) (b : BodyTree) (vs : List Value) (s : State) → effect (placed_scope scope) b vs (placed_state place s) ≡ placed_got (effect scope b vs s)
  effect_placed scope b vs s = (effect_same placing scope scope b (λ e. padding) vs s (tt, tt, tt)).same

  -- ---- turns

  -- a turn of the program, with places of the code in it
  abbrev pub placed : Turned → Turned
  placed t = changed_turned placing t

  abbrev pub target_placed : Option ℕ → Option ℕ
  target_placed to = changed_target placing to

  pub preceded_placed : (ds : List Deed) (t : Turned) → preceded ds (placed t) ≡ placed (preceded ds t)
  preceded_placed ds t = changed_preceded placing ds t

  pub jump_placed : (to : Option ℕ) (s : State) → jumps_to (target_placed to) (placed_state place s) ≡ placed (jumps_to to s)
  jump_placed to s = (jumps_same placing to s (tt, tt, tt)).same

  -- a fault names the same piece
  pub piece_placed : (piece : ℕ) (t : Turned) → turn_of_piece piece (placed t) ≡ placed (turn_of_piece piece t)
  piece_placed piece t = changed_piece placing piece t
