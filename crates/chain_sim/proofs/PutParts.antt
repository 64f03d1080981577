-- Texts that are put in parts.
use Rattle.std.proofs.Common.{◌≡◌, ℕ, List, [], ◌++◌, sym, ap, ◌∙◌, append_assoc}
use Rattle.std.proofs.lemmas.List.{append-nil}
use Rattle.tool_io.specs.declared.lines.Lines.{Lines}
use Rattle.tool_io.specs.declared.outside.Sink.{Ghosts as SinkOf}
use Rattle.tool_io.specs.Lines.{IsWhole, Puts, PutsBroken}
use Rattle.tool_io.proofs.PutLemmas.{put_then, put_then_front, puts_nothing, front_with}
use Rattle.chain_sim.specs.Reports.{PutsBut}

module _ {K : Type 0} {sink : SinkOf K} (whole : List ℕ) where
  -- nothing is put yet
  pub nothing_put : (lines : Lines K) (rest : List ℕ) → IsWhole lines → rest ≡ whole → PutsBut sink whole lines rest lines
  nothing_put lines rest full e = record { front = []; put = puts_nothing sink lines full; all = e }

  -- one part more
  pub part_put : {a b c : Lines K} (rest part left : List ℕ) → rest ≡ part ++ left → PutsBut sink whole a rest b → Puts sink b part c →
      PutsBut sink whole a left c
  part_put rest part left e first second = record {
    front = first.front ++ part;
    put = put_then first.put second;
    all = append_assoc first.front part left ∙ ap (λ (l : List ℕ). first.front ++ l) (sym e) ∙ first.all;
  }

  -- and where that fails
  pub part_failed : {a b c : Lines K} (rest part left : List ℕ) → rest ≡ part ++ left → PutsBut sink whole a rest b → PutsBroken sink b part c →
      PutsBroken sink a whole c
  part_failed rest part left e first second =
      let all : (first.front ++ part) ++ left ≡ whole = append_assoc first.front part left ∙ ap (λ (l : List ℕ). first.front ++ l) (sym e) ∙ first.all in
      rw (← all) (front_with left (put_then_front first.put second))

  -- nothing is left
  pub all_put : {a b : Lines K} (rest : List ℕ) → rest ≡ [] → PutsBut sink whole a rest b → Puts sink a whole b
  all_put rest e done = rw (← done.all, e, append-nil done.front) done.put
