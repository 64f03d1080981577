-- A peer in memory.
use Rattle.std.proofs.Common.{◌≡◌, ◌≢◌, ◌≤◌, ◌+◌, ℕ, Bool, List, ◌++◌, take, drop, length, Some, sym, ap, ◌∙◌, length-append, arith}
use Rattle.std.proofs.lemmas.List.{take-append-le, take-append-drop, drop-drop}
use Rattle.tool_io.proofs.BytesLemmas.{then_bytes-nothing}
use Rattle.drive_cable.specs.declared.mem_peer.MemPeer.{MemPeer}
use Rattle.drive_cable.specs.Peers.{digits_of, with_before, HasReceived}
use Rattle.drive_cable.specs.MemPeers.{mem_sent, mem_left}

-- the bits of digits that stand first among the answers left were received
pub received : (old new : MemPeer) (answers : List ℕ) (given n : ℕ) (front others : List Bool) → mem_sent new ≡ mem_sent old →
    mem_left old ≡ Some (drop given answers) → mem_left new ≡ Some (drop (given + n) answers) → n ≢ 0 → n ≤ length front →
    digits_of (take n front) ≡ take n (drop given answers) → HasReceived mem_sent mem_left old (front ++ others) n new
received old new answers given n front others sent before after some few bits = record {
  within = omega (arith, length-append front others, few);
  some = omega (arith, some);
  carried = record {
    went = sent ∙ sym (then_bytes-nothing (mem_sent old));
    came =
        before
        ∙ ap (λ v. Some v) (sym (take-append-drop n (drop given answers)) ∙ ap (λ v. take n (drop given answers) ++ v) (drop-drop n given answers)
        ∙ ap (λ v. v ++ drop (given + n) answers) (sym bits ∙ ap (λ v. digits_of v) (sym (take-append-le n front others few))))
        ∙ ap (λ o. with_before (digits_of (take n (front ++ others))) o) (sym after);
  };
}
