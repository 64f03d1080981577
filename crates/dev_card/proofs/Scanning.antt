-- What a scan captures, by its clocks and by the line of its board, and the parts of its shift clocks.
use Rattle.std.proofs.Common.{◌≡◌, ◌≤◌, ◌+◌, ◌&&◌, ℕ, Bool, true, false, List, [], ◌∷◌, ◌++◌, take, drop, replicate, length, refl, sym, ap, ◌∙◌, arith, ◌<◌}
use Rattle.std.proofs.lemmas.List.{append-nil, length-append, length-map, length-take, length-drop, length-replicate, map-append, take-append-le, drop-append-le}
use Rattle.std.proofs.Math.Seq.{drop-append_seam}
use Rattle.tap_states.specs.declared.Tap.{Tap}
use Rattle.tap_states.specs.Tap.{is_stable_state}
use Rattle.dev_card.specs.Card.{Card}
use Rattle.dev_card.specs.Board.{Clock, Input, clocks_of, after_input, AllIn, tdos}
use Rattle.dev_card.specs.Line.{line_of, shifted_out}
use Rattle.dev_card.specs.Padding.{Paddings, program_bits, padded, at_data}
use Rattle.dev_card.specs.Clocks.{entry_tms, entry_inputs, is_nil, shift_inputs, part_inputs, pause_inputs, stop_inputs, clocks_with, at_shift, at_pause, shift_clocks, board_shifted}
use Rattle.dev_card.specs.Sound.{AllSound}
use Rattle.dev_card.specs.PaddedScan.{IsOneScan, without_base}
use Rattle.dev_card.specs.Scans.{BoardScan, scan_bits, inputs_of_scan, clocks_of_scan, captured_bits, captured_from, HasBaseAround, IsScanOfRun}
use Rattle.dev_card.proofs.OneScan.{one_scan}

-- the shift clocks of a whole scan, and of two parts in a row
pub inputs_of_whole : (bits : List Bool) → shift_inputs bits ≡ part_inputs true bits
inputs_of_whole [] = refl
inputs_of_whole (b ∷ []) = refl
inputs_of_whole (b ∷ c ∷ bs) = ap (λ t. record { tms = false; tdi = b } ∷ t) (inputs_of_whole (c ∷ bs))

nil_of_both : (last : Bool) (xs ys : List Bool) → last && is_nil (xs ++ ys) ≡ (last && is_nil ys) && is_nil xs
nil_of_both false xs ys = refl
nil_of_both true [] [] = refl
nil_of_both true [] (y ∷ ys) = refl
nil_of_both true (x ∷ xs) [] = refl
nil_of_both true (x ∷ xs) (y ∷ ys) = refl

pub inputs_of_both : (last : Bool) (xs ys : List Bool) → part_inputs last (xs ++ ys) ≡ part_inputs (last && is_nil ys) xs ++ part_inputs last ys
inputs_of_both last [] ys = refl
inputs_of_both last (x ∷ xs) ys =
    ap (λ t. record { tms = t; tdi = x } ∷ part_inputs last (xs ++ ys)) (nil_of_both last xs ys)
    ∙ ap (λ t. record { tms = (last && is_nil ys) && is_nil xs; tdi = x } ∷ t) (inputs_of_both last xs ys)

-- TDO of clocks, joined, of a board, and with given bits
pub tdos_of_both : (ks js : List Clock) → tdos (ks ++ js) ≡ tdos ks ++ tdos js
tdos_of_both ks js = map-append (λ (k : Clock). k.tdo) ks js

length_of_tdos : (is : List Input) (cs : List Card) → length (tdos (clocks_of cs is)) ≡ length is
length_of_tdos [] cs = refl
length_of_tdos (i ∷ is) cs = omega (arith, length_of_tdos is (after_input cs i))

pub tdos_of_with : (is : List Input) (out : List Bool) → length is ≡ length out → tdos (clocks_with is out) ≡ out
tdos_of_with [] [] h = refl
tdos_of_with [] (b ∷ out) h = absurd (omega arith)
tdos_of_with (i ∷ is) [] h = absurd (omega arith)
tdos_of_with (i ∷ is) (b ∷ out) h = ap (λ z. b ∷ z) (tdos_of_with is out (omega arith))

pub length_of_shift : (bits : List Bool) → length (shift_inputs bits) ≡ length bits
length_of_shift [] = refl
length_of_shift (b ∷ []) = refl
length_of_shift (b ∷ c ∷ bs) = omega (arith, length_of_shift (c ∷ bs))

-- the data's places are inside the padded bits
data_of_front : (p : Paddings) (n : ℕ) (out rest : List Bool) → p.base_pre + length p.pre + n ≤ length out → at_data p n (out ++ rest) ≡ at_data p n out
data_of_front p n out rest h =
    let a : ℕ = p.base_pre + length p.pre in
    ap (take n) (drop-append-le a out rest (omega (arith, h))) ∙ take-append-le n (drop a out) rest (omega (arith, h, length-drop a out))

pub length_of_padded : (p : Paddings) (bits : List Bool) → p.base_pre + length p.pre + length bits ≤ length (padded p bits)
length_of_padded p bits =
    let ones : List Bool = replicate p.base_pre true in
    let last : List Bool = replicate p.base_post true in
    let program : List Bool = p.pre ++ (bits ++ p.post) in
    omega (
      arith,
      length-append ones (program ++ last),
      length-append program last,
      length-append p.pre
          (bits ++ p.post),
      length-append bits p.post,
      length-replicate p.base_pre true,
    )

-- what the clocks of a scan show at the data's places is what comes out of the line there
pub captured_is_seen : (at : Tap) (s : BoardScan) (cs : List Card) → captured_from at s (clocks_of_scan at s cs) ≡ captured_bits at s cs
captured_is_seen at s cs =
    let M : List Bool = scan_bits s in
    let n : ℕ = length s.bits in
    let e : ℕ = length (entry_tms at s.ir) in
    let there : List Card = at_shift at s.ir cs in
    let out : List Bool = shifted_out (line_of s.ir there) M in
    let first : List Clock = clocks_of cs (entry_inputs at s.ir) in
    let shift : List Clock = shift_clocks s.ir there M in
    let rest : List Clock = clocks_of (board_shifted s.ir there M) pause_inputs ++ clocks_of (at_pause s.ir there M) (stop_inputs s.ir s.stop) in
    let k : length out ≡ length M = omega (arith, length-take (length M) (line_of s.ir there ++ M), length-append (line_of s.ir there) M) in
    let same : tdos shift ≡ out = tdos_of_with (shift_inputs M) out (length_of_shift M ∙ sym k) in
    let entry : e ≡ length (tdos first) = sym (length_of_tdos (entry_inputs at s.ir) cs ∙ length-map (entry_tms at s.ir) _) in
    ap (λ z. at_data s.paddings n (drop e z)) (tdos_of_both first (shift ++ rest)
    ∙ ap (λ z. tdos first ++ z) (tdos_of_both shift rest ∙ ap (λ z. z ++ tdos rest) same))
    ∙ ap (λ j. at_data s.paddings n (drop j (tdos first ++ (out ++ tdos rest)))) entry
    ∙ ap (at_data s.paddings n) (drop-append_seam (tdos first) (out ++ tdos rest))
    ∙ data_of_front s.paddings n out (tdos rest) (omega (arith, k, length_of_padded s.paddings s.bits))

-- as many bits as the data has, of any clocks
pub length_of_captured : (at : Tap) (s : BoardScan) (clocks : List Clock) →
    length clocks ≡ length (inputs_of_scan at s) → length (captured_from at s clocks) ≡ length s.bits
length_of_captured at s clocks h =
    let e : ℕ = length (entry_tms at s.ir) in
    let a : ℕ = s.paddings.base_pre + length s.paddings.pre in
    let seen : List Bool = tdos clocks in
    let M : List Bool = scan_bits s in
    let beyond : List Input = pause_inputs ++ stop_inputs s.ir s.stop in
    let entry : length (entry_inputs at s.ir) ≡ e = length-map (entry_tms at s.ir) _ in
    let all : length (inputs_of_scan at s) ≡ e + (length M + length beyond) =
    omega (arith, length-append (entry_inputs at s.ir) (shift_inputs M ++ beyond), entry, length-append (shift_inputs M) beyond, length_of_shift M) in
    omega (
      arith,
      h,
      all,
      length_of_padded s.paddings s.bits,
      length-map clocks (λ (k : Clock). k.tdo),
      length-drop e seen,
      length-drop a (drop e seen),
      length-take (length s.bits) (drop a (drop e seen)),
    )

-- what was captured of a board with base padding around a run is what is captured of the run alone
pub scan_of_run : (at : Tap) (before run after : List Card) (s : BoardScan) → is_stable_state at ≡ true → AllIn at (before ++ (run ++ after)) →
    AllSound (before ++ (run ++ after)) → HasBaseAround before after s → IsScanOfRun at before run after s (captured_bits at s (before ++ (run ++ after)))
scan_of_run at before run after s st a h base =
    let n : ℕ = length s.bits in
    let one : IsOneScan at s.ir before run after s.paddings s.bits = one_scan at s.ir before run after s.paddings s.bits st a h base.pre base.post in
    record {
      one = one;
      same_captured = λ b short.
          ap (λ z. at_data s.paddings n (shifted_out (line_of s.ir z) (scan_bits s))) one.whole ∙ (one.same b).captured_same short
          ∙ ap (λ z. at_data (without_base s.paddings) n (shifted_out (line_of s.ir (at_shift at s.ir run)) z))
          (sym (append-nil (program_bits s.paddings s.bits)));
    }

pub some_bits : (s : BoardScan) → 0 < length s.bits → 0 < length (scan_bits s)
some_bits s h = omega (arith, h, length_of_padded s.paddings s.bits)
