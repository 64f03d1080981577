-- The devices of the examples are good.
use Rattle.std.proofs.Common.{◌≡◌, ◌≢◌, ◌%◌, ℕ, List, [], ◌∷◌, true, length, codes, All, AllPairs, Some, None, refl, sym, ap, subst, nat_eq, arith}
use Rattle.std.proofs.lemmas.Bool.{false≢true}
use Rattle.std.proofs.lemmas.List.Elements.{All-nil, All-cons}
use Rattle.std.proofs.lemmas.List.Kept.{AllPairs-cons}
use Rattle.dev_card.specs.declared.desc.RegDesc.{RegDesc}
use Rattle.dev_card.specs.Descriptions.{IsGood, IsGoodRegister, IsOpcode}
use Rattle.quiet_laws.specs.Examples.{part, neighbour}

one_item : {A : Type 0} (R : A → A → Type 0) (x : A) → AllPairs R (x ∷ [])
one_item R x = λ i j d lt inside. absurd (omega arith)

-- two that differ
two_apart : {A : Type 0} (x y : A) → x ≢ y → AllPairs ◌≢◌ (x ∷ y ∷ [])
two_apart x y apart = AllPairs-cons ◌≢◌ x (y ∷ []) (All-cons (λ z. x ≢ z) y [] apart (All-nil (λ z. x ≢ z))) (one_item ◌≢◌ y)

good_neighbour : IsGood neighbour
good_neighbour = record {
  named = record { spelled = refl; some = omega arith; short = omega arith; upper = refl };
  shortest = omega arith;
  longest = omega arith;
  identity = λ id e. let same : 3 ≡ id.value = cc in
      record { width = omega arith; odd = subst (λ (v : ℕ). v % 2 ≡ 1) same refl };
  opcodes = All-cons (IsOpcode 2) 1 [] (omega arith) (All-nil (IsOpcode 2));
  opcodes_apart = one_item ◌≢◌ 1;
  parts = (refl, refl);
}

abbrev one : RegDesc
one = record { name = codes "ONE"; op = 7; len = 1; constant = Some (true ∷ []) }

abbrev held : RegDesc
held = record { name = codes "HELD"; op = 5; len = 2; constant = None }

good_one : IsGoodRegister one
good_one = record {
  named = record { spelled = refl; some = omega arith; short = omega arith; upper = refl };
  some = omega arith;
  limit = omega arith;
  constant_length = λ bits e. let same : true ∷ [] ≡ bits = cc in sym (ap length same);
}

good_held : IsGoodRegister held
good_held = record {
  named = record { spelled = refl; some = omega arith; short = omega arith; upper = refl };
  some = omega arith;
  limit = omega arith;
  constant_length = λ bits e. absurd cc;
}

lengths_apart : codes "ONE" ≢ codes "HELD"
lengths_apart e = absurd (false≢true (sym (ap (λ (bytes : List ℕ). nat_eq (length bytes) 3) e)))

good_part : IsGood part
good_part = record {
  named = record { spelled = refl; some = omega arith; short = omega arith; upper = refl };
  shortest = omega arith;
  longest = omega arith;
  identity = λ id e. absurd cc;
  opcodes = All-cons (IsOpcode 4) 7 (5 ∷ []) (omega arith) (All-cons (IsOpcode 4) 5 [] (omega arith) (All-nil (IsOpcode 4)));
  opcodes_apart = two_apart 7 5 (λ e. absurd (omega arith));
  parts = (
    record {
      some = omega arith;
      limit = omega arith;
      each = All-cons IsGoodRegister one (held ∷ []) good_one (All-cons IsGoodRegister held [] good_held (All-nil IsGoodRegister));
      names_apart = two_apart (codes "ONE") (codes "HELD") lengths_apart;
    },
    refl,
  );
}

pub good_before : All IsGood (neighbour ∷ part ∷ [])
good_before = All-cons IsGood neighbour (part ∷ []) good_neighbour (All-cons IsGood part [] good_part (All-nil IsGood))

pub good_after : All IsGood (part ∷ neighbour ∷ [])
good_after = All-cons IsGood part (neighbour ∷ []) good_part (All-cons IsGood neighbour [] good_neighbour (All-nil IsGood))
