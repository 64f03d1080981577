-- What a chain stands over: a lent rack, and places in it. The rules are this profile's.
use Rattle.std.specs.Prelude.{◌≡◌, ℕ, List}
use Rattle.std.specs.Borrow.{MutBor}
use Rattle.chain_sim.specs.declared.chain.ChainOf.{ChainOf}

-- it stands over the rack that this reference points to
abbrev pub IsOver : {D R : Type 0} → ChainOf D → MutBor R → Type 0
IsOver chain rack = chain.rack.ghost_name ≡ rack.ghost_name

-- it stands over the same rack
abbrev pub IsOverSame : {D : Type 0} → ChainOf D → ChainOf D → Type 0
IsOverSame old new = new.rack.ghost_name ≡ old.rack.ghost_name

-- the devices of that rack, as they are now
abbrev pub devices_of : {D : Type 0} → ChainOf D → List D
devices_of chain = chain.rack.now.items

-- the places of its own devices, the first nearest TDO
abbrev pub chain_places : {D : Type 0} → ChainOf D → List ℕ
chain_places chain = chain.places.now
