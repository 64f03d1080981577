-- What calls on a peer carry: the bytes that it takes, and the answers that it gives (the protocol remote bitbang, as its
-- client). The rules of peers are this profile's.
use Rattle.std.specs.Prelude.{◌≡◌, ◌<◌, ◌≤◌, ℕ, Bool, List, [], ◌++◌, map, length, take, Option, Result, Ok, Err}
use Rattle.std.specs.Option.{option_map}
use Rattle.tool_io.specs.Bytes.{then_bytes}
use Rattle.link_server.specs.Runs.{digit_of}

-- these answers, and then what is told
abbrev pub with_before : List ℕ → Option (List ℕ) → Option (List ℕ)
with_before answers told = option_map (λ xs. answers ++ xs) told

-- the digits of bits
abbrev pub digits_of : List Bool → List ℕ
digits_of bits = map digit_of bits

-- A peer went on from one state to another: where it tells, these bytes were sent after all others, and these answers
-- were the next of those that it had left.
pub record PeerCarried {P : Type 0} (sent left : P → Option (List ℕ)) (old : P) (bytes answers : List ℕ)
    (new : P) : Type 0 where
  pub went : sent new ≡ then_bytes (sent old) bytes
  pub came : left old ≡ with_before answers (left new)

-- Of these bytes a front was sent, and these answers came.
pub record FrontCarried {P : Type 0} (sent left : P → Option (List ℕ)) (old : P) (bytes answers : List ℕ)
    (new : P) : Type 0 where
  pub front : List ℕ
  pub rest : List ℕ
  pub parts : bytes ≡ front ++ rest
  pub carried : PeerCarried sent left old front answers new

-- A send took so many of the bytes: none only if there are none.
pub record HasSent {P : Type 0} (sent left : P → Option (List ℕ)) (old : P) (bytes : List ℕ) (n : ℕ)
    (new : P) : Type 0 where
  pub within : n ≤ length bytes
  pub some : 0 < length bytes → 0 < n
  pub carried : PeerCarried sent left old (take n bytes) [] new

-- What a send does, by its result: it took so many of the bytes, or a front of them if it failed.
abbrev pub SendAnswer : {P E : Type 0} → (P → Option (List ℕ)) → (P → Option (List ℕ)) → P → List ℕ → P →
    Result ℕ E → Type 0
SendAnswer sent left old bytes new (Ok n) = HasSent sent left old bytes n new
SendAnswer sent left old bytes new (Err e) = FrontCarried sent left old bytes [] new

-- A receive gave so many bits, at least one: the first of the slice.
pub record HasReceived {P : Type 0} (sent left : P → Option (List ℕ)) (old : P) (bits : List Bool) (n : ℕ)
    (new : P) : Type 0 where
  pub within : n ≤ length bits
  pub some : 0 < n
  pub carried : PeerCarried sent left old [] (digits_of (take n bits)) new

-- What a receive does, by its result: it gave so many bits, or nothing if it failed.
abbrev pub ReceiveAnswer : {P E : Type 0} → (P → Option (List ℕ)) → (P → Option (List ℕ)) → P → List Bool → P →
    Result ℕ E → Type 0
ReceiveAnswer sent left old bits new (Ok n) = HasReceived sent left old bits n new
ReceiveAnswer sent left old bits new (Err e) = PeerCarried sent left old [] [] new
