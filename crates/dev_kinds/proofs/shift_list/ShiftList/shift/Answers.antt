use Rattle.dev_kinds.proofs.Rings.{ring_shifted}
use Rattle.dev_kinds.proofs.shift_list.ShiftList.shift.Goals as goal

pub returns : goal.returns
returns c =
    let e = ring_shifted c.self.inside.head c.self.inside.len c.self.inside.ring c.args.bit c.self.invariant.inside c.self.invariant.within in
    rw (← c.self.view_is, c.next_place-self-inside.ensures, c.set.ensures.length, c.set.ensures.changed, e)
