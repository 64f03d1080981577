-- A run of n + m turns is a run of n turns and then one of m.
use Rattle.std.proofs.Common.{◌≡◌, ℕ, zero, suc, ◌+◌, List, ◌++◌, refl, sym, ap, arith, ◌∙◌, append_assoc}
use Rattle.stapl_meaning.specs.declared.events.Event.{Event}
use Rattle.stapl_meaning.specs.Deeds.{Chain}
use Rattle.stapl_meaning.specs.States.{State, Happened, Led, Finished, Broke, Lacks, happens}
use Rattle.stapl_meaning.specs.Scopes.{Played, zeros_of}
use Rattle.stapl_meaning.specs.Turns.{turn}
use Rattle.stapl_meaning.specs.Plays.{Outcome, Ended, Going, Stopped, Run, after, goes_on, run, continued, then_runs, start, beginning, procedures_run}

after_twice : (xs ys : List Event) (r : Run) → after (xs ++ ys) r ≡ after xs (after ys r)
after_twice xs ys r = ap (λ es. record r { events = es }) (append_assoc xs ys r.events)

continued_after : (o : Outcome) (events : List Event) (r : Run) (go : ℕ → State → Chain → Run) →
    continued o (after events r) go ≡ after events (continued o r go)
continued_after (Ended e) events r go = refl
continued_after (Going place) events r go = after_twice events r.events (go place r.state r.chain)
continued_after Stopped events r go = refl

on_turn : (program : Played) (n m : ℕ) (s : State) (k : Chain) (h : Happened) →
    ((i : ℕ) (s : State) (k : Chain) → run program (n + m) i s k ≡ then_runs (run program n i s k) (run program m)) →
    goes_on h s k (run program (n + m)) ≡ then_runs (goes_on h s k (run program n)) (run program m)
on_turn program n m s k (Led events place t l) more =
    ap (after events) (more place t l)
    ∙ sym (continued_after (run program n place t l).outcome events (run program n place t l) (run program m))
on_turn program n m s k (Finished events ending t l) more = refl
on_turn program n m s k (Broke events f t l) more = refl
on_turn program n m s k (Lacks events) more = refl

pub runs_add : (program : Played) (n m i : ℕ) (s : State) (k : Chain) →
    run program (n + m) i s k ≡ then_runs (run program n i s k) (run program m)
runs_add program zero m i s k =
    let same : 0 + m ≡ m = omega arith in
    ap (λ n. run program n i s k) same
runs_add program (suc n) m i s k =
    let same : suc n + m ≡ suc (n + m) = omega arith in
    ap (λ n. run program n i s k) same ∙ on_turn program n m s k (happens k (turn program i s)) (runs_add program n m)

-- the same of the chosen procedures
pub procedures_add : (program : Played) (chosen : List ℕ) (n m : ℕ) (k : Chain) →
    procedures_run program chosen (n + m) k ≡ then_runs (procedures_run program chosen n k) (run program m)
procedures_add program chosen n m k =
    let s = start chosen (zeros_of program) in on_turn program n m s k (happens k (beginning program s)) (runs_add program n m)
