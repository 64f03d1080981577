-- What a peer carries is as the relation of a wire must be: nothing is carried by no call, and what was carried can be
-- joined.
use Rattle.std.proofs.Common.{◌≡◌, ℕ, List, [], ◌++◌, Option, Some, None, refl, sym, ap, ◌∙◌, append_assoc}
use Rattle.tool_io.specs.Bytes.{then_bytes}
use Rattle.tool_io.proofs.BytesLemmas.{then_bytes-twice, then_bytes-nothing}
use Rattle.link_server.specs.DriveLaws.{NoneCarried, BothCarried}
use Rattle.drive_cable.specs.Peers.{with_before, PeerCarried}

before_nothing : (told : Option (List ℕ)) → with_before [] told ≡ told
before_nothing None = refl
before_nothing (Some xs) = refl

before_twice : (told : Option (List ℕ)) (a b : List ℕ) → with_before a (with_before b told) ≡ with_before (a ++ b) told
before_twice None a b = refl
before_twice (Some xs) a b = ap (λ v. Some v) (sym (append_assoc a b xs))

pub none_carried : {P : Type 0} (sent left : P → Option (List ℕ)) → NoneCarried (PeerCarried sent left)
none_carried sent left p = record {
  went = sym (then_bytes-nothing (sent p));
  came = sym (before_nothing (left p));
}

pub both_carried : {P : Type 0} (sent left : P → Option (List ℕ)) → BothCarried (PeerCarried sent left)
both_carried sent left a b c bytes more answers others first second = record {
  went = second.went ∙ ap (λ o. then_bytes o more) first.went ∙ then_bytes-twice (sent a) bytes more;
  came = first.came ∙ ap (λ o. with_before answers o) second.came ∙ before_twice (left c) answers others;
}
