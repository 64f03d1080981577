-- The run of a scan without base padding, and what is captured of it.
use Rattle.std.proofs.Common.{◌≡◌, ◌<◌, ◌≤◌, ℕ, ◌+◌, ◌-◌, Bool, true, List, [], ◌∷◌, ◌++◌, length, take, drop, replicate, refl, sym, ap, ◌∙◌, arith, append-nil}
use Rattle.std.proofs.lemmas.List.{length-append, length-replicate, length-take, drop-take, take-take, drop-drop}
use Rattle.tap_states.specs.Tap.{is_stable_state}
use Rattle.dev_card.specs.Board.{tdos}
use Rattle.dev_card.specs.Padding.{base_pre_of, base_post_of, program_bits, between_ones}
use Rattle.dev_card.specs.Clocks.{entry_tms, scan_inputs}
use Rattle.dev_card.specs.Scans.{BoardScan, scan_bits, inputs_of_scan}
use Rattle.dev_card.specs.FarEnds.{far_clocks}
use Rattle.stapl_meaning.specs.Deeds.{Scans, Chain, based, deed_events, captured_on}
use Rattle.scan_accounts.specs.ShiftRuns.{ShiftRun, shift_runs}
use Rattle.scan_accounts.specs.MadeTurns.{clocks_among}
use Rattle.scan_accounts.specs.Accounts.{inner_bits, unpadded, HasScanRun}
use Rattle.scan_accounts.proofs.WalkedTurns.{clocks_of_pulses}
use Rattle.scan_accounts.proofs.ScanRuns.{seen_at_shift, scan_has_one_run, inner_padded, seen_counted}

-- a part of the front of a list
part_of_front : (a m b : ℕ) (xs : List Bool) → a + (m + b) ≤ length xs → inner_bits a b (take (a + (m + b)) xs) ≡ take m (drop a xs)
part_of_front a m b xs le =
    let n : ℕ = a + (m + b) in
    let l = length-take n xs in
    let long : length (take n xs) - (a + b) ≡ m = omega (arith, l, le) in
    ap (λ k. take k (drop a (take n xs))) long ∙ ap (take m) (drop-take a (m + b) xs) ∙ take_less m b (drop a xs)
  where
    take_less : (m b : ℕ) (xs : List Bool) → take m (take (m + b) xs) ≡ take m xs
    take_less m b xs = take-take m (m + b) xs (omega arith)

-- the program's bits as the data of a scan without paddings of the program
abbrev pub as_data : BoardScan → BoardScan
as_data scan = record {
  ir = scan.ir;
  paddings = record { base_pre = 0; pre = []; post = []; base_post = 0 };
  bits = program_bits scan.paddings scan.bits;
  stop = scan.stop;
}

module _ (k : Chain) (scan : BoardScan) (stable : is_stable_state k.tap ≡ true) (stops : is_stable_state scan.stop ≡ true) (some : 0 < length scan.bits) where
  abbrev s : BoardScan
  s = based k.base scan

  abbrev bits : List Bool
  bits = program_bits scan.paddings scan.bits

  abbrev pre : ℕ
  pre = base_pre_of scan.ir k.base

  abbrev post : ℕ
  post = base_post_of scan.ir k.base

  abbrev out : List Bool
  out = tdos (far_clocks k.far (inputs_of_scan k.tap s))

  abbrev later : List Bool
  later = drop (length (entry_tms k.tap scan.ir)) out

  abbrev pub scan_run : ShiftRun
  scan_run = record { ir = scan.ir; bits_in = scan_bits s; bits_out = seen_at_shift k.tap s out }

  pub one_run : shift_runs k.tap (clocks_among (deed_events k (Scans scan))) ≡ scan_run ∷ []
  one_run =
      ap (shift_runs k.tap) (clocks_of_pulses (far_clocks k.far (inputs_of_scan k.tap s)))
      ∙ scan_has_one_run k.tap k.far s stable stops some

  pub all_counted : length (scan_bits s) ≡ pre + (length bits + post)
  all_counted =
      let a = length-append (replicate pre true) (bits ++ replicate post true) in
      let b = length-append bits (replicate post true) in
      let c = length-replicate pre true in
      let d = length-replicate post true in
      omega (arith, a, b, c, d)

  enough : pre + (length bits + post) ≤ length later
  enough = let a = seen_counted k.tap k.far s stable stops some in let b = all_counted in omega (arith, a, b)

  pub shifted_alone : (unpadded k.base scan_run).bits_in ≡ bits
  shifted_alone = inner_padded pre post bits

  pub seen_alone : (unpadded k.base scan_run).bits_out ≡ take (length bits) (drop pre later)
  seen_alone = ap (λ n. inner_bits pre post (take n later)) all_counted ∙ part_of_front pre (length bits) post later enough

  -- what is seen of the program's bits is what the scan of these as its data captures
  same_inputs : inputs_of_scan k.tap (based k.base (as_data scan)) ≡ inputs_of_scan k.tap s
  same_inputs = ap (λ b. scan_inputs k.tap scan.ir scan.stop (between_ones pre b post)) (append-nil bits)

  pub seen_as_data : (unpadded k.base scan_run).bits_out ≡ captured_on k (as_data scan)
  seen_as_data =
      let none : pre + 0 ≡ pre = omega arith in
      seen_alone ∙ ap (λ n. take (length bits) (drop n later)) (sym none)
      ∙ ap (λ is. take (length bits) (drop (pre + 0) (drop (length (entry_tms k.tap scan.ir)) (tdos (far_clocks k.far is))))) (sym same_inputs)

  captured_part : take (length scan.bits) (drop (length scan.paddings.pre) (unpadded k.base scan_run).bits_out) ≡ captured_on k scan
  captured_part =
      let front : ℕ = length scan.paddings.pre in
      let own : ℕ = length scan.bits in
      let back : ℕ = length scan.paddings.post in
      let a = length-append scan.paddings.pre (scan.bits ++ scan.paddings.post) in
      let b = length-append scan.bits scan.paddings.post in
      let long : length bits ≡ front + (own + back) = omega (arith, a, b) in
      ap (λ x. take own (drop front x)) (seen_alone ∙ ap (λ n. take n (drop pre later)) long)
      ∙ ap (take own) (drop-take front (own + back) (drop pre later)) ∙ take-take own (own + back) (drop front (drop pre later)) (omega arith)
      ∙ ap (take own) (drop-drop front pre later)

  pub has_scan_run : HasScanRun k scan
  has_scan_run = record { run = scan_run; only = one_run; register = refl; shifted = shifted_alone; captured = captured_part }
