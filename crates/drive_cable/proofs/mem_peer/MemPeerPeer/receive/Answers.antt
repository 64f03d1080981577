use Rattle.std.proofs.Common.{◌≤◌, ◌∙◌, Some, length, take, drop, refl, sym, ap, arith}
use Rattle.std.proofs.lemmas.List.{take_rest}
use Rattle.drive_cable.proofs.MemLemmas.{received}
use Rattle.drive_cable.proofs.mem_peer.MemPeerPeer.receive.Goals as goal

pub returns-clause-received : goal.returns-clause-received
returns-clause-received c =
    let few : c.put_bits-n.result ≤ length c.put_bits-n.new.into = omega (arith, c.put_bits-n.ensures.count, c.put_bits-n.ensures.length) in
    received c.args.self.now _ c.begin.new.self.answers.items c.begin.new.self.given c.put_bits-n.result c.put_bits-n.new.into _
    (ap (λ b. Some b.written) c.in_ok-begin.ensures.bytes) (sym c.in_ok-begin.ensures.left) refl c.if-n-eq0.false few
    (c.put_bits-n.ensures.bits ∙ ap (λ v. take c.put_bits-n.result v)
    (take_rest c.deref.result.now c.begin.new.self.given ∙ ap (λ v. drop c.begin.new.self.given v) c.deref.ensures.value))
