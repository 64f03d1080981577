-- What calls over a peer do. All ghost members of the peer are one argument, `P.Peer`.
use Rattle.std.specs.Prelude.{◌≡◌, ℕ, Bool, List, [], ◌∷◌, map, length, Result, Ok, Err}
use Rattle.base.specs.Bits.{number_of}
use Rattle.dev_card.specs.Board.{Input, Clock, tdos}
use Rattle.scan_paths.specs.Cables.{input_of}
use Rattle.link_server.specs.Runs.{digit_of}
use Rattle.link_server.specs.Clients.{bytes_of_input, bytes_of_inputs}
use Rattle.drive_cable.specs.declared.peer.Peer.{Ghosts as PeerOf}
use Rattle.drive_cable.specs.Peers.{digits_of, PeerCarried, FrontCarried}

-- Calls broke off: a front of the bytes was sent, and some answers came.
pub record BrokeOff {P : Type 0} (peer : PeerOf P) (old : P) (bytes : List ℕ) (new : P) : Type 0 where
  pub answers : List ℕ
  pub part : FrontCarried peer.sent peer.left old bytes answers new

-- What calls do, by their result: all bytes were sent and these answers came, or they broke off.
abbrev pub HasCarried : {P T E : Type 0} → PeerOf P → P → List ℕ → List ℕ → P → Result T E → Type 0
HasCarried peer old bytes answers new (Ok x) = PeerCarried peer.sent peer.left old bytes answers new
HasCarried peer old bytes answers new (Err e) = BrokeOff peer old bytes new

-- the same of one clock with this input, by its TDO
abbrev pub HasClocked : {P E : Type 0} → PeerOf P → P → Input → P → Result Bool E → Type 0
HasClocked peer old i new (Ok tdo) = PeerCarried peer.sent peer.left old (bytes_of_input i) (digit_of tdo ∷ []) new
HasClocked peer old i new (Err e) = BrokeOff peer old (bytes_of_input i) new

-- all bytes were sent and so many bits were received, of which this is the number
pub record NumberCarried {P : Type 0} (peer : PeerOf P) (old : P) (bytes : List ℕ) (n number : ℕ) (new : P) : Type 0 where
  pub answered : List Bool
  pub count : length answered ≡ n
  pub number_is : number ≡ number_of answered
  pub carried : PeerCarried peer.sent peer.left old bytes (digits_of answered) new

-- the same by the result
abbrev pub HasAskedNumber : {P E : Type 0} → PeerOf P → P → List ℕ → ℕ → P → Result ℕ E → Type 0
HasAskedNumber peer old bytes n new (Ok number) = NumberCarried peer old bytes n number new
HasAskedNumber peer old bytes n new (Err e) = BrokeOff peer old bytes new

-- clocks with exactly these inputs, and the number of their TDO bits
pub record BlockCarried {P : Type 0} (peer : PeerOf P) (old : P) (inputs : List Input) (tdo : ℕ) (new : P) : Type 0 where
  pub clocks : List Clock
  pub went_in : map input_of clocks ≡ inputs
  pub bits : tdo ≡ number_of (tdos clocks)
  pub carried : PeerCarried peer.sent peer.left old (bytes_of_inputs inputs) (digits_of (tdos clocks)) new

-- the same of a block with these inputs
abbrev pub HasClockedBlock : {P E : Type 0} → PeerOf P → P → List Input → P → Result ℕ E → Type 0
HasClockedBlock peer old inputs new (Ok tdo) = BlockCarried peer old inputs tdo new
HasClockedBlock peer old inputs new (Err e) = BrokeOff peer old (bytes_of_inputs inputs) new
