use Rattle.std.proofs.Common.{◌∷◌, ◌++◌, ◌+◌, List, map, drop, ap, arith, slice_index_or}
use Rattle.tap_states.specs.declared.Tap.TheVariants.{Reset}
use Rattle.stapl_meaning.specs.Deeds.{Deed, Goes}
use Rattle.written_cable.proofs.DeedLemmas.{did_none, did_both, did_both_front, did_same, deeds_failed, kept_none, kept_both, next_goes, no_goes}
use Rattle.stapl_machine.proofs.turns.go_through.Goals as goal

pub loop-i-init : goal.loop-i-init
loop-i-init g c = record {
  open_now = c.requires;
  did = λ rest. did_none g.C.Cable g.O.Paper c.args.port.now (map Goes c.args.states.now ++ rest) (g.met.C.Cable.none_made c.args.port.now.cable.now) c.requires.whole_port;
  kept = kept_none c.args.port.now c.requires.whole_port;
}

pub loop-i-preserved : goal.loop-i-preserved
loop-i-preserved g c =
    let m = g.C.Cable in let p = g.O.Paper in let way = c.args.states.now in let i = c.loop-i.i in
    let to = slice_index_or way i Reset in let later : List Deed = map Goes (drop (i + 1) way) in let all : List Deed = map Goes way in
    let next = next_goes way i Reset (omega arith) in
    let one = c.in_ok-go.ensures.did in
    record {
      open_now = one.open_now;
      did = λ rest. did_both m p g.met.C.Cable.both_made c.args.port.now c.loop-i.port c.go.new.self (all ++ rest) (Goes to ∷ (later ++ rest)) (later ++ rest)
          (did_same m p c.args.port.now c.loop-i.port (all ++ rest) (map Goes (drop i way) ++ rest) (Goes to ∷ (later ++ rest)) (ap (λ (ds : List Deed). ds ++ rest) next)
          (c.loop-i.invariant.did rest)) (one.did (later ++ rest));
      kept = kept_both c.loop-i.invariant.kept one.kept;
    }

pub returns-in_err-go : goal.returns-in_err-go
returns-in_err-go g c =
    let m = g.C.Cable in let p = g.O.Paper in let way = c.args.states.now in let i = c.loop-i.i in
    let to = slice_index_or way i Reset in let later : List Deed = map Goes (drop (i + 1) way) in let all : List Deed = map Goes way in
    let next = next_goes way i Reset (omega arith) in
    let one = c.in_err-go.ensures.did in
    deeds_failed c.from_residual.result c.from_residual.ensures.0 (record {
      front = λ rest. did_both_front m p g.met.C.Cable.both_made c.args.port.now c.loop-i.port c.go.new.self (all ++ rest) (Goes to ∷ (later ++ rest))
          (did_same m p c.args.port.now c.loop-i.port (all ++ rest) (map Goes (drop i way) ++ rest) (Goes to ∷ (later ++ rest)) (ap (λ (ds : List Deed). ds ++ rest) next)
          (c.loop-i.invariant.did rest)) (one.front (later ++ rest));
      broken = one.broken;
      kept = kept_both c.loop-i.invariant.kept one.kept;
    })

pub returns : goal.returns
returns g c =
    let way = c.args.states.now in
    record {
      did = λ rest. did_same g.C.Cable g.O.Paper c.args.port.now c.loop-i.port (map Goes way ++ rest) (map Goes (drop c.loop-i.i way) ++ rest) rest
          (ap (λ (ds : List Deed). ds ++ rest) (no_goes way c.loop-i.i (omega arith))) (c.loop-i.invariant.did rest);
      open_now = c.loop-i.invariant.open_now;
      kept = c.loop-i.invariant.kept;
    }
