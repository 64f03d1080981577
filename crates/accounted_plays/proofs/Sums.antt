-- The account of the turns of a code, and its text.
use Rattle.std.proofs.Common.{inl, ◌≡◌, ◌<◌, ◌^◌, ◌+◌, ℕ, min, true, false, List, ◌++◌, length, Some, Result, Ok, Err, refl, sym, ap, subst, ◌∙◌, arith}
use Rattle.std.specs.Prelude.{IsErr}
use Rattle.tool_io.specs.declared.lines.Lines.{Lines}
use Rattle.tool_io.specs.declared.outside.Failed.{Failed}
use Rattle.tool_io.specs.declared.outside.Sink.{Ghosts as SinkOf}
use Rattle.tool_io.specs.Lines.{Puts, PutsBroken}
use Rattle.tool_io.proofs.PutLemmas.{put_then, put_then_front, front_with}
use Rattle.dev_card.specs.declared.desc.Desc.{Desc}
use Rattle.dev_card.specs.Padding.{BaseLengths}
use Rattle.stapl_meaning.specs.declared.events.Ending.{Ending}
use Rattle.stapl_meaning.specs.Texts.{ending_line}
use Rattle.stapl_code.specs.declared.raw.CodeLists.{CodeLists}
use Rattle.scan_accounts.specs.MadeTurns.{clocks_among, usec_among}
use Rattle.scan_accounts.specs.AccountTexts.{most_counted, sums_line, account_line, as_written}
use Rattle.account_lines.specs.declared.lines.Sums.{Sums}
use Rattle.account_lines.specs.declared.lines.TurnPlace.{TurnPlace}
use Rattle.account_lines.specs.RunLines.{account_in}
use Rattle.run_cable.specs.KeptRuns.{Kept}
use Rattle.account_plays.specs.declared.running.Over.{Over}
use Rattle.account_plays.specs.AccountedRuns.{turns_scans}
use Rattle.accounted_plays.specs.CodeAccounts.{plays_at, turns_put, account_in_turns, AreFirstRuns, AreSums, PlaysTurns, IsCodeAccount, PutsAccount}

-- a sum that was kept from 0 on is what is written
sum_is : (sum kept old n : ℕ) → sum ≡ kept → old ≡ 0 → min kept most_counted ≡ min (old + n) most_counted → sum < 2 ^ 63 → sum ≡ min n most_counted
sum_is sum kept old n same none e few = omega (arith, same, none, e, few)

module _ (code : CodeLists) (table : List TurnPlace) (chosen : List ℕ) (base : BaseLengths) (devices : List Desc) {K : Type 0} (sink : SinkOf K) (most : ℕ)
    (a b : Lines K) (runs new_runs : Kept) (over : Over) (ending : Ending) (some : over.ending ≡ Some ending) (states : ℕ) (first : AreFirstRuns base states runs)
    (p : PlaysTurns code table chosen base devices sink most 5 a runs over b new_runs) (s : Sums) (are : AreSums over.turns new_runs s) where
  -- they are the account of the turns
  account_is : account_in s ≡ as_written (account_in_turns code table chosen base devices most p.turns)
  account_is =
      let clocks = sum_is s.clocks new_runs.heard.clocks runs.heard.clocks (5 + length (clocks_among (plays_at code chosen base devices most).events))
      are.clocks_are first.clocks p.sums.more_clocks are.few_clocks in
      let usec = sum_is s.usec new_runs.heard.usec runs.heard.usec (usec_among (plays_at code chosen base devices most).events)
      are.usec_are first.usec p.sums.more_usec are.few_usec in
      let ir = sum_is s.ir_scans new_runs.heard.ir_scans runs.heard.ir_scans (turns_scans table true p.turns) are.ir_are first.ir_scans p.sums.more_ir are.few_ir in
      let dr = sum_is s.dr_scans new_runs.heard.dr_scans runs.heard.dr_scans (turns_scans table false p.turns) are.dr_are first.dr_scans p.sums.more_dr are.few_dr in
      let turns : s.turns ≡ length p.turns = are.turns_are ∙ sym p.counted in
      λ j. record { turns = turns j; clocks = clocks j; usec = usec j; ir_scans = ir j; dr_scans = dr j }

  abbrev account_put : List ℕ
  account_put = account_line (account_in_turns code table chosen base devices most p.turns)

  line_is : sums_line (account_in s) ≡ account_put
  line_is = ap sums_line account_is

  abbrev turns_text_put : List ℕ
  turns_text_put = turns_put code table chosen base devices p.turns

  answer : IsCodeAccount code table chosen base devices most (turns_text_put ++ account_put ++ ending_line ending) ending
  answer = record { turns = p.turns; all = p.all; ended = p.ended ∙ some; says = refl }

  module _ (c : Lines K) where
    -- the line of the sums failed
    pub sums_torn : (r : Result Ending Failed) → IsErr r → PutsBroken sink b (sums_line (account_in s)) c → PutsAccount code table chosen base devices sink most a c r
    sums_torn (Ok x) is front = absurd cc
    sums_torn (Err e) is front = inl (record {
      text = turns_text_put ++ account_put ++ ending_line ending;
      status = ending;
      answer = answer;
      puts = (front_with (ending_line ending) (put_then_front p.put (subst (λ (xs : List ℕ). PutsBroken sink b xs c) line_is front))).put;
    })

    module _ (puts : Puts sink b (sums_line (account_in s)) c) (d : Lines K) where
      both : Puts sink a (turns_text_put ++ account_put) c
      both = put_then p.put (subst (λ (xs : List ℕ). Puts sink b xs c) line_is puts)

      -- the line of the ending failed
      pub ending_torn : (r : Result Ending Failed) → IsErr r → PutsBroken sink c (ending_line ending) d → PutsAccount code table chosen base devices sink most a d r
      ending_torn (Ok x) is front = absurd cc
      ending_torn (Err e) is front = inl (record {
        text = turns_text_put ++ account_put ++ ending_line ending;
        status = ending;
        answer = answer;
        puts = (put_then_front both front).put;
      })

      -- all was put
      pub all_put : Puts sink c (ending_line ending) d → PutsAccount code table chosen base devices sink most a d (Ok ending)
      all_put last = record { text = turns_text_put ++ account_put ++ ending_line ending; answer = answer; puts = put_then both last }
