use Rattle.std.proofs.Common.{[], ◌∷◌, ◌++◌, List}
use Rattle.stapl_meaning.specs.Deeds.{Deed, Goes}
use Rattle.machine_memory.specs.Acts.{stays_for, pauses_for}
use Rattle.written_cable.proofs.DeedLemmas.{deeds_failed, part_with, does_then, does_then_part}
use Rattle.stapl_machine.proofs.turns.wait.Goals as goal

pub returns-in_err-go : goal.returns-in_err-go
returns-in_err-go g c =
    let m = g.C.Cable in let p = g.O.Paper in let both = g.met.C.Cable.both_made in let w = c.args.wait in
    let at : List Deed = Goes w.at ∷ [] in let stays = stays_for w.cycles in let pauses = pauses_for w.usec in let last : List Deed = Goes w.last ∷ [] in
    deeds_failed c.from_residual.result c.from_residual.ensures.0 (part_with m p at (stays ++ (pauses ++ last)) c.in_err-go.ensures.did)

pub returns-in_err-rest_if : goal.returns-in_err-rest_if
returns-in_err-rest_if g c =
    let m = g.C.Cable in let p = g.O.Paper in let both = g.met.C.Cable.both_made in let w = c.args.wait in
    let at : List Deed = Goes w.at ∷ [] in let stays = stays_for w.cycles in let pauses = pauses_for w.usec in let last : List Deed = Goes w.last ∷ [] in
    deeds_failed c.from_residual-in_err-rest_if.result c.from_residual-in_err-rest_if.ensures.0
    (does_then_part m p both c.args.port.now c.go.new.self c.rest_if.new.port at (stays ++ (pauses ++ last)) c.in_ok-go.ensures.did
    (part_with m p stays (pauses ++ last) c.in_err-rest_if.ensures))

pub returns-in_err-pause_if : goal.returns-in_err-pause_if
returns-in_err-pause_if g c =
    let m = g.C.Cable in let p = g.O.Paper in let both = g.met.C.Cable.both_made in let w = c.args.wait in
    let at : List Deed = Goes w.at ∷ [] in let stays = stays_for w.cycles in let pauses = pauses_for w.usec in let last : List Deed = Goes w.last ∷ [] in
    deeds_failed c.from_residual-in_err-pause_if.result c.from_residual-in_err-pause_if.ensures.0
    (does_then_part m p both c.args.port.now c.go.new.self c.pause_if.new.port at (stays ++ (pauses ++ last)) c.in_ok-go.ensures.did
    (does_then_part m p both c.go.new.self c.rest_if.new.port c.pause_if.new.port stays (pauses ++ last) c.in_ok-rest_if.ensures
    (part_with m p pauses last c.in_err-pause_if.ensures)))

pub returns-in_err-go-2 : goal.returns-in_err-go-2
returns-in_err-go-2 g c =
    let m = g.C.Cable in let p = g.O.Paper in let both = g.met.C.Cable.both_made in let w = c.args.wait in
    let at : List Deed = Goes w.at ∷ [] in let stays = stays_for w.cycles in let pauses = pauses_for w.usec in let last : List Deed = Goes w.last ∷ [] in
    deeds_failed c.from_residual-in_err-go-2.result c.from_residual-in_err-go-2.ensures.0
    (does_then_part m p both c.args.port.now c.go.new.self c.go-2.new.self at (stays ++ (pauses ++ last)) c.in_ok-go.ensures.did
    (does_then_part m p both c.go.new.self c.rest_if.new.port c.go-2.new.self stays (pauses ++ last) c.in_ok-rest_if.ensures
    (does_then_part m p both c.rest_if.new.port c.pause_if.new.port c.go-2.new.self pauses last c.in_ok-pause_if.ensures c.in_err-go-2.ensures.did)))

pub returns : goal.returns
returns g c =
    let m = g.C.Cable in let p = g.O.Paper in let both = g.met.C.Cable.both_made in let w = c.args.wait in
    let at : List Deed = Goes w.at ∷ [] in let stays = stays_for w.cycles in let pauses = pauses_for w.usec in let last : List Deed = Goes w.last ∷ [] in
    does_then m p both c.args.port.now c.go.new.self c.go-2.new.self at (stays ++ (pauses ++ last)) c.in_ok-go.ensures.did
    (does_then m p both c.go.new.self c.rest_if.new.port c.go-2.new.self stays (pauses ++ last) c.in_ok-rest_if.ensures
    (does_then m p both c.rest_if.new.port c.pause_if.new.port c.go-2.new.self pauses last c.in_ok-pause_if.ensures c.in_ok-go-2.ensures.did))
