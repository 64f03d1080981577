-- What paddings and stop states leave for later scans, and that scans go by it.
use Rattle.std.proofs.Common.{◌≡◌, ◌≤◌, ℕ, ◌+◌, pos, Bool, true, false, List, [], ◌∷◌, length, take, replicate, Option, Some, None, refl, sym, ap, ◌∙◌, subst, arith, ◌&&◌}
use Rattle.std.specs.Prelude.{int_le}
use Rattle.std.proofs.lemmas.Bool.{le-leb}
use Rattle.std.proofs.lemmas.Int.{ints}
use Rattle.std.proofs.lemmas.List.{get_or-replicate, get_or-take, length-replicate, length-take-le}
use Rattle.std.proofs.lemmas.Option.{slice_get-get_or}
use Rattle.stapl_lexer.specs.declared.terminal.Padding.{Padding}
use Rattle.stapl_lexer.specs.declared.terminal.Padding.TheVariants as paddings
use Rattle.stapl_lexer.specs.declared.terminal.Register.{Register}
use Rattle.stapl_lexer.specs.declared.terminal.Register.TheVariants as registers
use Rattle.stapl_syntax.specs.Trees.{ExprTree, ArrayTree, whole, CompareTree, BodyTree, scan, pad, stop}
use Rattle.tap_states.specs.declared.Tap.{Tap}
use Rattle.dev_card.specs.Scans.{BoardScan}
use Rattle.stapl_meaning.specs.declared.events.RunFault.TheVariants.{BadLength, LengthMismatch}
use Rattle.stapl_meaning.specs.declared.values.ValueKind.TheVariants as kinds
use Rattle.stapl_meaning.specs.declared.values.Value.{Value}
use Rattle.stapl_meaning.specs.declared.values.Value.TheVariants.{Int, Bit}
use Rattle.stapl_meaning.specs.declared.values.Held.TheVariants as held
use Rattle.stapl_meaning.specs.Deeds.{Deed}
use Rattle.stapl_meaning.specs.Values.{Got, Known, Faults, Stuck, then_get, passed, bits_held, Source, Whole, asked}
use Rattle.stapl_meaning.specs.Operands.{an_integer, values_of}
use Rattle.stapl_meaning.specs.States.{State, Did, Falls, Captures, Jumps, Resumes, Returns, Ends, Turned, Leads, Over, Broken, Scanning, NoTurn, with_got, turn_of_piece, next_chosen, jumps_to, led}
use Rattle.stapl_meaning.specs.Scans.{settings_of, with_padding, with_stop, length_between, padding_limit, scan_limit, scan_of, ScanParts, scan_found, target_asked, compare_asked, scanned, stopped}
use Rattle.stapl_meaning.specs.ScanTrees.{scan_parts}
use Rattle.stapl_meaning.specs.Scopes.{Scope, Played, scope_at}
use Rattle.stapl_meaning.specs.Turns.{tap_of, operands, effect, rows_done, done, turn_of, turn}
use Rattle.effect_laws.specs.Given.{StandsAt, HasInteger, Holds, number_at}
use Rattle.effect_laws.specs.Scans.{AreOnes, AreFirst, IsPadded, pre_data, post_data, pre_instruction, post_instruction, IsStopped, data_scans, instruction_scans, SetsPadding, SetsStop, ScansAs, of_data, of_instruction}
use Rattle.effect_laws.specs.Chains.{IsStable, reset, idle, dr_pause, ir_pause}
use Rattle.effect_laws.proofs.Rows.{Has, any_has}
use Rattle.effect_laws.proofs.Singles.{plain_known, next_known, one_row}

-- ---- paddings

length_known : (n : ℕ) → n ≤ 65536 → length_between 0 padding_limit (pos n) ≡ Known n
length_known n most =
    let low : true ≡ int_le (pos 0) (pos n) = omega (arith, ints) in
    let high : true ≡ int_le (pos n) (pos 65536) = omega (arith, ints) in
    ap (λ c. passed (c && int_le (pos n) (pos 65536)) BadLength n) (sym low) ∙ ap (λ c. passed c BadLength n) (sym high)

ones : (n : ℕ) → AreOnes n (replicate n true)
ones n = record {
  count = length-replicate n true;
  each = λ k less.
      let size : length (replicate n true) ≡ n = length-replicate n true in
      slice_get-get_or (replicate n true) k false (omega (arith, size, less)) ∙ ap Some (get_or-replicate n k true false less);
}

pub first_bits : (n : ℕ) (bits : List Bool) → n ≤ length bits → AreFirst n bits (take n bits)
first_bits n bits most = record {
  count = length-take-le n bits most;
  each = λ k less.
      let size : length (take n bits) ≡ n = length-take-le n bits most in
      slice_get-get_or (take n bits) k false (omega (arith, size, less))
      ∙ ap Some (get_or-take n bits k false less)
      ∙ sym (slice_get-get_or bits k false (omega (arith, most, less)));
}

padded : (which : Padding) (bits : List Bool) (s : State) → IsPadded s (with_padding which bits s) bits which
padded paddings.PreData bits s = pre_data (record { pre = refl; post = refl; stop = refl }) refl
padded paddings.PostData bits s = post_data (record { pre = refl; post = refl; stop = refl }) refl
padded paddings.PreInstruction bits s = pre_instruction (record { pre = refl; post = refl; stop = refl }) refl
padded paddings.PostInstruction bits s = post_instruction (record { pre = refl; post = refl; stop = refl }) refl

module _ (program : Played) (i n : ℕ) (s : State) (which : Padding) (count : ExprTree) where
  counted : HasInteger (scope_at program i).look s count (pos n) →
      values_of (scope_at program i).look s.store.variables (an_integer count ∷ []) ≡ Known (Int (pos n) ∷ [])
  counted is =
      next_known (scope_at program i).look s.store.variables None (an_integer count) [] (Int (pos n)) []
      (plain_known (scope_at program i).look s.store.variables None kinds.Int count (Int (pos n)) is) refl

  pub pads_ones : StandsAt program i (pad which count None) → HasInteger (scope_at program i).look s count (pos n) → n ≤ 65536 →
      SetsPadding program i s which (AreOnes n)
  pads_ones stands is most =
      let set : Got (List Bool) → Got Did = λ g. then_get g (λ bits. Known (Falls [] (with_padding which bits s))) in
      record {
        bits = replicate n true;
        are = ones n;
        after = with_padding which (replicate n true) s;
        leads =
            one_row program i s (pad which count None) (Int (pos n) ∷ []) (Falls [] (with_padding which (replicate n true) s)) stands refl (counted is)
            (ap (λ g. set (then_get g (λ m. Known (replicate m true)))) (length_known n most));
        is = padded which (replicate n true) s;
      }

  pub pads_array : (name : List ℕ) (bits : List Bool) → StandsAt program i (pad which count (Some (whole name))) →
      HasInteger (scope_at program i).look s count (pos n) → n ≤ 65536 → Holds s (number_at program i name) (held.Bits bits) → n ≤ length bits →
      SetsPadding program i s which (AreFirst n bits)
  pads_array name bits stands is most there enough =
      let source : Source = Whole (number_at program i name) in
      let set : Got (List Bool) → Got Did = λ g. then_get g (λ found. Known (Falls [] (with_padding which found s))) in
      record {
        bits = take n bits;
        are = first_bits n bits enough;
        after = with_padding which (take n bits) s;
        leads =
            one_row program i s (pad which count (Some (whole name))) (Int (pos n) ∷ []) (Falls [] (with_padding which (take n bits) s)) stands refl (counted is)
            (ap (λ o. set (then_get (bits_held o) (λ found. then_get (length_between 0 padding_limit (pos n)) (λ m. asked source m found)))) there
            ∙ ap (λ g. set (then_get g (λ m. asked source m bits))) (length_known n most)
            ∙ ap (λ c. set (passed c LengthMismatch (take n bits))) (le-leb n (length bits) enough));
        is = padded which (take n bits) s;
      }

-- ---- stop states

stops_so : (register : Register) (tap : Tap) (s : State) → IsStopped s (with_stop register tap s) tap register
stops_so registers.Data tap s = data_scans (record { pre = refl; post = refl; stop = refl }) refl
stops_so registers.Instruction tap s = instruction_scans (record { pre = refl; post = refl; stop = refl }) refl

stop_known : (register : Register) (n : ℕ) (tap : Tap) (s : State) → IsStable n tap → stopped register (tap_of n) [] s ≡ Known (Falls [] (with_stop register tap s))
stop_known register _ _ s reset = refl
stop_known register _ _ s idle = refl
stop_known register _ _ s dr_pause = refl
stop_known register _ _ s ir_pause = refl

pub sets_stop : (program : Played) (i n : ℕ) (s : State) (register : Register) (tap : Tap) → StandsAt program i (stop register n) → IsStable n tap →
    SetsStop program i s register tap
sets_stop program i n s register tap stands stable = record {
  after = with_stop register tap s;
  leads = one_row program i s (stop register n) [] (Falls [] (with_stop register tap s)) stands refl refl (stop_known register n tap s stable);
  is = stops_so register tap s;
}

-- ---- scans

scans_so : (register : Register) (bits : List Bool) (s : State) → ScansAs s (scan_of register (settings_of register s) bits) register
scans_so registers.Data bits s = of_data refl (record { pre = refl; post = refl; stop = refl; no_pre = refl; no_post = refl })
scans_so registers.Instruction bits s = of_instruction refl (record { pre = refl; post = refl; stop = refl; no_pre = refl; no_post = refl })

-- what is done scans so, if it scans
abbrev JobIs : (BoardScan → Type 0) → Did → Type 0
JobIs P (Captures job lands) = P job
JobIs P _ = Unit {0}

abbrev FirstIs : (BoardScan → Type 0) → Turned → Type 0
FirstIs P (Scanning deeds job rest) = P job
FirstIs P _ = Unit {0}

module _ (P : BoardScan → Type 0) where
  after_jump : (to : Option ℕ) (t : State) → FirstIs P (jumps_to to t)
  after_jump None t = tt
  after_jump (Some place) t = tt

  after_all : (entry : ℕ → ℕ) (t : State) (chosen : List ℕ) → FirstIs P (next_chosen entry t chosen)
  after_all entry t [] = tt
  after_all entry t (p ∷ ps) = tt

  in_last : (scope : Scope) (to : Option ℕ) (s : State) (g : Got Did) → Has (JobIs P) g → FirstIs P (with_got g s (λ did. led scope.entry to did (rows_done scope [])))
  in_last scope to s (Known (Falls deeds t)) h = tt
  in_last scope to s (Known (Captures job lands)) h = h
  in_last scope to s (Known (Jumps t)) h = after_jump to t
  in_last scope to s (Known (Resumes place t)) h = tt
  in_last scope to s (Known (Returns t)) h = after_all scope.entry t t.chosen
  in_last scope to s (Known (Ends ending t)) h = tt
  in_last scope to s (Faults k) h = tt
  in_last scope to s Stuck h = tt

  in_piece : (piece : ℕ) (t : Turned) → FirstIs P t → FirstIs P (turn_of_piece piece t)
  in_piece piece (Leads deeds place t) h = tt
  in_piece piece (Over deeds ending t) h = tt
  in_piece piece (Broken deeds k t) h = tt
  in_piece piece (Scanning deeds job rest) h = h
  in_piece piece (NoTurn deeds) h = tt

  in_values : (scope : Scope) (to : Option ℕ) (s : State) (g : Got (List Value)) (f : List Value → Got Did) → ((vs : List Value) → Has (JobIs P) (f vs)) →
      FirstIs P (with_got g s (λ vs. with_got (f vs) s (λ did. led scope.entry to did (rows_done scope []))))
  in_values scope to s (Known vs) f h = in_last scope to s (f vs) (h vs)
  in_values scope to s (Faults k) f h = tt
  in_values scope to s Stuck f h = tt

scanned_so : (parts : ScanParts) (vs : List Value) (s : State) → Has (JobIs (λ job. ScansAs s job parts.register)) (scanned parts vs s)
scanned_so parts (Int z ∷ vs) s =
    let So : Did → Type 0 = JobIs (λ job. ScansAs s job parts.register) in
    any_has So (scan_found s.store.variables parts vs) _ (λ found. any_has So (length_between 1 scan_limit z) _ (λ n.
    any_has So (asked parts.source n found.data_bits) _ (λ bits. any_has So (target_asked n found.target) _ (λ target.
    any_has So (compare_asked n parts.compare found.compare) _ (λ compare. scans_so parts.register bits s)))))
scanned_so parts [] s = tt
scanned_so parts (Bit b ∷ vs) s = tt

pub goes_by : (program : Played) (i : ℕ) (s : State) (register : Register) (count : ExprTree) (source : ArrayTree) (target : Option ArrayTree)
    (compare : Option CompareTree) (deeds : List Deed) (job : BoardScan) (rest : List Bool → Turned) →
    StandsAt program i (scan register count source target compare) → turn program i s ≡ Scanning deeds job rest → ScansAs s job register
goes_by program i s register count source target compare deeds job rest stands e =
    let scope : Scope = scope_at program i in
    let b : BodyTree = scan register count source target compare in
    let P : BoardScan → Type 0 = λ job. ScansAs s job register in
    let first : FirstIs P (turn_of_piece (i + 1) (done scope s b)) =
    in_piece P (i + 1) (done scope s b)
    (in_values P scope None s (values_of scope.look s.store.variables (operands scope b)) (λ vs. effect scope b vs s)
    (λ vs. scanned_so (scan_parts scope.look register source target compare) vs s)) in
    subst (FirstIs P) (sym (ap (turn_of scope (i + 1) s) stands.1) ∙ e) first
