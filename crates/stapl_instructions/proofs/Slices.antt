-- The topmost operands are the last items of the list that holds them.
use Rattle.std.proofs.Common.{◌≡◌, ℕ, zero, suc, ◌-◌, ◌<◌, ◌≤◌, List, [], ◌∷◌, ◌++◌, length, reverse, take, drop, Option, Some, None, arith, append_assoc}
use Rattle.std.proofs.Common.{refl, sym, ap, subst, ◌∙◌}
use Rattle.std.proofs.lemmas.List.{append-nil, reverse-append, length-reverse, length-drop}
use Rattle.std.specs.Prelude.{Ok, Err}
use Rattle.stapl_meaning.specs.declared.values.Value.{Value}
use Rattle.stapl_meaning.specs.Values.{Got}
use Rattle.stapl_meaning.specs.States.{State, Leads, Over, jumps_to, next_chosen}
use Rattle.stapl_code.specs.declared.instr.Instr.{Instr}
use Rattle.stapl_code.specs.declared.raw.CodeLists.{CodeLists}
use Rattle.stapl_code.specs.Machine.{Step, Falls, Scanned, Stops, Faulted, Wrong, taken, taken_onto, on_taken, on_made, takes, lands, made, entry_of}
use Rattle.stapl_code.specs.Machine as machine
use Rattle.stapl_code.specs.Safe.{entries_of, constants_of}
use Rattle.machine_memory.specs.declared.operate.Stop.{Stop}
use Rattle.machine_memory.specs.declared.operate.Stop.TheVariants as stops
use Rattle.machine_memory.specs.declared.effects.Made.{Made}
use Rattle.machine_memory.specs.declared.effects.Made.TheVariants as mades
use Rattle.machine_memory.specs.declared.memory.Workspace.{Workspace}
use Rattle.machine_memory.specs.Jobs.{job_scan, job_lands}
use Rattle.machine_memory.specs.Acts.{IsMade, IsActed, RestsAfter, told_by, deeds_told, operands_of, state_of, step_of, stepped}
use Rattle.stapl_code.proofs.PutOn.{onto, taken_back}

turned : (front back : List Value) → reverse (front ++ back) ≡ onto back (reverse front)
turned front [] = ap reverse (append-nil front)
turned front (v ∷ back) =
    sym (ap reverse (append_assoc front (v ∷ []) back))
    ∙ turned (front ++ v ∷ []) back
    ∙ ap (onto back) (reverse-append front (v ∷ []))

take_drop : (n : ℕ) (xs : List Value) → xs ≡ take n xs ++ drop n xs
take_drop zero xs = refl
take_drop (suc n) [] = refl
take_drop (suc n) (x ∷ xs) = ap (λ l. x ∷ l) (take_drop n xs)

slice_taken : (xs front back : List Value) → xs ≡ front ++ back → taken (length back) (reverse xs) ≡ Some (back, reverse front)
slice_taken xs front back e = ap (λ l. taken (length back) (reverse l)) e ∙ ap (taken (length back)) (turned front back) ∙ taken_back back (reverse front)

short : (n : ℕ) (done ops : List Value) → length ops < n → taken_onto n done ops ≡ None
short zero done ops h = absurd (omega (arith, h))
short (suc n) done [] h = refl
short (suc n) done (v ∷ ops) h = short n (v ∷ done) ops (omega (arith, h))

-- an instruction on the topmost operands
module _ (code : CodeLists) (i : Instr) (old : Workspace) (chosen : List ℕ) (here n len : ℕ) (takes_is : n ≡ length (takes i)) (len_is : len ≡ length old.operands.items) where
  abbrev pub acted : List Value → List Value → Step
  acted vs below =
      on_made (entries_of code.procedures) (lands (entries_of code.procedures) here i) below (state_of chosen old)
      (made (entries_of code.procedures) (constants_of code) here i vs (state_of chosen old))

  pub none_there : len < n → step_of code here i chosen old ≡ Wrong
  none_there h =
      let xs : List Value = old.operands.items in
      ap (λ t. on_taken t acted) (short (length (takes i)) [] (reverse xs) (omega (arith, h, takes_is, len_is, length-reverse xs)))

  pub all_there : n ≤ len → step_of code here i chosen old ≡ acted (drop (len - n) old.operands.items) (reverse (take (len - n) old.operands.items))
  all_there h =
      let xs : List Value = old.operands.items in
      let back : List Value = drop (len - n) xs in
      let front : List Value = take (len - n) xs in
      let count : length (takes i) ≡ length back = omega (arith, h, takes_is, len_is, length-drop (len - n) xs) in
      ap (λ m. on_taken (taken m (reverse xs)) acted) count
      ∙ ap (λ t. on_taken t acted) (slice_taken xs front back (take_drop (len - n) xs))

-- what was made, above the operands that are left
module _ (code : CodeLists) (i : Instr) (to : Option ℕ) (chosen : List ℕ) (old : State) (new : Workspace) (below : List Value) (st : Step) (g : Got machine.Made) where
  abbrev from_made : Got machine.Made → Step
  from_made g = on_made (entries_of code.procedures) to below old g

  abbrev Above : Made → Type 0
  Above m = IsMade (Ok m) (told_by code i new.text.items new.memory) old (state_of chosen new) g → (from_made g ≡ stepped code i to chosen m new) × RestsAfter m new.memory

  above : below ≡ operands_of new → (m : Made) → Above m
  above e (mades.Put v) h =
      (ap from_made h.0 ∙ ap (λ b. Falls (v ∷ b) old) e ∙ ap (λ s. Falls (v ∷ operands_of new) s) (sym h.1), tt)
  above e (mades.PutTwo v w) h =
      (ap from_made h.0 ∙ ap (λ b. Falls (w ∷ v ∷ b) old) e ∙ ap (λ s. Falls (w ∷ v ∷ operands_of new) s) (sym h.1), tt)
  above e (mades.Popped v) h = (ap from_made h ∙ ap (λ b. Falls (v ∷ b) (state_of chosen new)) e, tt)
  above e mades.On h = (ap from_made h ∙ ap (λ b. Falls b (state_of chosen new)) e, tt)
  above e (mades.Acts d) h =
      (ap from_made h.0 ∙ ap (λ b. machine.acted (deeds_told (told_by code i new.text.items new.memory) new.memory.variables.items d) b (state_of chosen new)) e, h.1)
  above e (mades.Scans job) h = (
    ap from_made h.0
        ∙ ap (λ b. Scanned (job_scan new.memory.shifted job (state_of chosen new)) b (job_lands new.memory.shifted job (state_of chosen new))) e,
    h.1,
  )
  above e mades.Jump h = (ap from_made h ∙ ap (λ b. Stops b (jumps_to to (state_of chosen new))) e, tt)
  above e (mades.Resume place) h = (ap from_made h ∙ ap (λ b. Stops b (Leads [] place (state_of chosen new))) e, tt)
  above e mades.Returned h =
      (ap from_made h ∙ ap (λ b. Stops b (next_chosen (entry_of (entries_of code.procedures)) (state_of chosen new) (drop new.next chosen))) e, tt)
  above e (mades.Over ending) h = (ap from_made h ∙ ap (λ b. Stops b (Over [] ending (state_of chosen new))) e, tt)

  stopped : (stop : Stop) → IsMade (Err stop) (told_by code i new.text.items new.memory) old (state_of chosen new) g → IsActed (Err stop) code i to chosen new (from_made g)
  stopped (stops.Fault k) h = ap from_made h.0 ∙ ap (Faulted k) (sym h.1)
  stopped stops.Wrong h = ap from_made h

  pub acts : (m : Made) → below ≡ operands_of new → st ≡ from_made g → IsMade (Ok m) (told_by code i new.text.items new.memory) old (state_of chosen new) g → IsActed (Ok m) code i to chosen new st
  acts m e same h = let a = above e m h in (same ∙ a.0, a.1)

  pub acts_not : (stop : Stop) → st ≡ from_made g → IsMade (Err stop) (told_by code i new.text.items new.memory) old (state_of chosen new) g → IsActed (Err stop) code i to chosen new st
  acts_not stop same h = subst (λ s. IsActed (Err stop) code i to chosen new s) (sym same) (stopped stop h)
