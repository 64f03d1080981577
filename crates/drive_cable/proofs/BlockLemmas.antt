-- The bytes of a block, and its clocks.
use Rattle.std.proofs.Common.{◌≡◌, ◌≤◌, ◌+◌, ◌-◌, ◌*◌, ◌/◌, ◌%◌, ◌==◌, nat_eq, ℕ, suc, List, [], ◌∷◌, ◌++◌, map, length, take, drop, refl, sym, ap, subst, ◌∙◌, Bool, false, ◌&&◌, Result, Ok, Err, arith}
use borrow.Rule.Slice.PartMut.{put_mid}
use Rattle.std.specs.Prelude.{min, replicate}
use Rattle.std.proofs.lemmas.List.{replicate-append-replicate, take-replicate, take_at}
use Rattle.base.specs.Bits.{low_bits, number_of}
use Rattle.dev_card.specs.Clocks.{is_nil, clocks_with, with_zero}
use Rattle.dev_card.specs.Blocks.{block_inputs}
use Rattle.dev_card.specs.Board.{Input, tdos}
use Rattle.dev_card.proofs.Scanning.{tdos_of_with}
use Rattle.scan_paths.specs.Cables.{input_of}
use Rattle.link_server.proofs.Blocks.{last_of, length_of_block, length_of_moves}
use Rattle.link_server.specs.Clients.{bytes_of_input, bytes_of_inputs}
use Rattle.drive_cable.specs.declared.peer.Peer.{Ghosts as PeerOf}
use Rattle.drive_cable.specs.Peers.{digits_of, PeerCarried}
use Rattle.drive_cable.specs.PeerCalls.{BrokeOff, HasAskedNumber, HasClockedBlock}
use Rattle.drive_cable.proofs.PartLemmas.{put_end}

-- the bytes of the first clock, and those of the rest
pub block_put : (into front rest : List ℕ) (tdi n m : ℕ) (last tms : Bool) → n ≡ suc m → tms ≡ (last && (n == 1)) →
    front ≡ bytes_of_input (record { tms = tms; tdi = nat_eq (tdi % 2) 1 }) → rest ≡ bytes_of_inputs (block_inputs (tdi / 2) m last) →
    put_mid 3 (length (front ++ drop 3 into) - 3) (front ++ drop 3 into) rest ≡ bytes_of_inputs (block_inputs tdi n last)
block_put into front rest tdi n m last tms e t f r =
    ap (λ v. put_mid 3 (length (v ++ drop 3 into) - 3) (v ++ drop 3 into) rest)
    (f ∙ ap (λ t. bytes_of_input (record { tms = t; tdi = nat_eq (tdi % 2) 1 })) (t ∙ last_of n m (tdi / 2) last e))
    ∙ put_end 3 (bytes_of_input first ++ drop 3 into) rest (omega arith)
    ∙ ap (λ v. bytes_of_input first ++ v) r
    ∙ ap (λ n. bytes_of_inputs (block_inputs tdi n last)) (sym e)
  where
    first : Input
    first = record { tms = last && is_nil (low_bits m (tdi / 2)); tdi = nat_eq (tdi % 2) 1 }

-- the same of a move
pub move_put : (into front rest : List ℕ) (tms n m : ℕ) → n ≡ suc m →
    front ≡ bytes_of_input (record { tms = nat_eq (tms % 2) 1; tdi = false }) → rest ≡ bytes_of_inputs (with_zero (low_bits m (tms / 2))) →
    put_mid 3 (length (front ++ drop 3 into) - 3) (front ++ drop 3 into) rest ≡ bytes_of_inputs (with_zero (low_bits n tms))
move_put into front rest tms n m e f r =
    ap (λ v. put_mid 3 (length (v ++ drop 3 into) - 3) (v ++ drop 3 into) rest) f
    ∙ put_end 3 (bytes_of_input first ++ drop 3 into) rest (omega arith)
    ∙ ap (λ v. bytes_of_input first ++ v) r
    ∙ ap (λ n. bytes_of_inputs (with_zero (low_bits n tms))) (sym e)
  where
    first : Input
    first = record { tms = nat_eq (tms % 2) 1; tdi = false }

went_in : (is : List Input) (bits : List Bool) → length is ≡ length bits → map input_of (clocks_with is bits) ≡ is
went_in [] bits e = refl
went_in (i ∷ is) [] e = absurd (omega (arith, e))
went_in (i ∷ is) (b ∷ bits) e = ap (λ (z : List Input). i ∷ z) (went_in is bits (omega (arith, e)))

pub few_inputs : (tdi n : ℕ) (last : Bool) → n ≤ 64 → length (block_inputs tdi n last) ≤ 64
few_inputs tdi n last few = omega (arith, length_of_block tdi n last, few)

pub few_moves : (tms n : ℕ) → n ≤ 64 → length (with_zero (low_bits n tms)) ≤ 64
few_moves tms n few = omega (arith, length_of_moves tms n, few)

-- the bytes of a block were sent, and as many bits came
pub block_asked : {P E : Type 0} (peer : PeerOf P) (old new : P) (is : List Input) (n : ℕ) (bytes more : List ℕ) (result : Result ℕ E) →
    bytes ≡ bytes_of_inputs is → length bytes ≡ 3 * n → length is ≡ n → HasAskedNumber peer old (take (3 * n) (bytes ++ more)) n new result →
    HasClockedBlock peer old is new result
block_asked peer old new is n bytes more (Ok number) sent all len h =
    let same : length is ≡ length h.answered = len ∙ sym h.count in
    let out : tdos (clocks_with is h.answered) ≡ h.answered = tdos_of_with is h.answered same in
    record {
      clocks = clocks_with is h.answered;
      went_in = went_in is h.answered same;
      bits = h.number_is ∙ ap (λ bs. number_of bs) (sym out);
      carried = subst (λ v. PeerCarried peer.sent peer.left old v (digits_of (tdos (clocks_with is h.answered))) new)
          (take_at bytes more (3 * n) all ∙ sent)
          (subst (λ bs. PeerCarried peer.sent peer.left old (take (3 * n) (bytes ++ more)) (digits_of bs) new) (sym out) h.carried);
    }
block_asked peer old new is n bytes more (Err e) sent all len h =
    subst (λ v. BrokeOff peer old v new) (take_at bytes more (3 * n) all ∙ sent) h

-- so many of a byte, of which up to 192 are sent at once
pub many_more : (n rest byte : ℕ) → n ≡ min rest 192 → replicate rest byte ≡ take n (replicate 192 byte) ++ replicate (rest - n) byte
many_more n rest byte e =
    let few : n ≤ 192 = omega (arith, e) in
    let all : rest ≡ n + (rest - n) = omega (arith, e) in
    ap (λ k. replicate k byte) all ∙ sym (replicate-append-replicate n (rest - n) byte)
    ∙ ap (λ v. v ++ replicate (rest - n) byte) (sym (take-replicate n 192 byte few))
