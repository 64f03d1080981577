-- A code that was written is read again, so its file is of no other code.
use Rattle.std.proofs.Common.{◌≡◌, ◌≢◌, ◌≤◌, ◌<◌, ◌^◌, ℕ, zero, suc, List, [], ◌∷◌, ◌++◌, length, Result, Ok, refl, sym, ap, ◌∙◌, append_assoc, arith}
use Rattle.std.specs.Prelude.{slice_get}
use Rattle.std.specs.List.{AllByRecursion}
use Rattle.std.proofs.lemmas.List.Elements.{recursion_from_All}
use Rattle.stapl_syntax.specs.Contents.{IsFreeName}
use Rattle.stapl_code.specs.declared.instr.Instr.{Instr}
use Rattle.stapl_code.specs.declared.raw.VarDef.{VarDef}
use Rattle.stapl_code.specs.declared.raw.ProcDef.{ProcDef}
use Rattle.stapl_code.specs.declared.raw.ActionDef.{ActionDef}
use Rattle.stapl_code.specs.declared.raw.CodeLists.{CodeLists}
use Rattle.stapl_code.specs.Ranges.{IsVariable, IsAction, size_of, IsInstr, IsLiteral, IsInRange}
use Rattle.code_files.specs.declared.fault.Fault.{Fault}
use Rattle.stapl_code.specs.Fields.{counted, literal, text}
use Rattle.stapl_code.specs.Instrs.{instr, IsCountableInstr, FitsInstr}
use Rattle.stapl_meaning.specs.declared.profiles.Profile.{Profile}
use Rattle.stapl_meaning.specs.declared.profiles.Profile.TheVariants.{One, Two}
use Rattle.stapl_code.specs.Files.{head, variable, procedure, action, file, IsCountable, IsFitting, HasFile}
use Rattle.code_files.specs.Reading.{field, listed_in, any_end}
use Rattle.code_files.specs.ReadInstrs.{instr_at}
use Rattle.code_files.specs.ReadFiles.{is_head, profile_of, head_at, variable_at, literal_at, text_at, procedure_at, action_at, code_at}
use Rattle.code_files.proofs.Counts.{countable}
use Rattle.code_files.proofs.FieldsAgain.{field_again, listed_again}
use Rattle.code_files.proofs.PartsAgain.{made_again, followed_again, each_again}
use Rattle.code_files.proofs.InstrsAgain.{AreFew, instr_again}
use Rattle.code_files.proofs.LiteralsAgain.{literal_again}
use Rattle.code_files.proofs.ListsAgain.{FitsAfter, variable_again, ends_wide, variables_after, text_again, pairs_after, ComesAfter, procedure_again, ActsAfter, action_again}

regroup : (a b c d e f g rest : List ℕ) → (a ++ b ++ c ++ d ++ e ++ f ++ g) ++ rest ≡ a ++ (b ++ (c ++ (d ++ (e ++ (f ++ (g ++ rest))))))
regroup a b c d e f g rest = simp append_assoc

sizes_few : (variables : List VarDef) (n : ℕ) → AllByRecursion (λ (v : VarDef). v.size < 2 ^ 32) variables → size_of (slice_get variables n) < 2 ^ 32
sizes_few [] n each = omega arith
sizes_few (v ∷ variables) zero each = each.0
sizes_few (v ∷ variables) (suc n) each = sizes_few variables n each.1

-- the lists of a code, each with what stands after it
module _ (code : CodeLists) (h : IsInRange code) (few : IsCountable code) (fits : IsFitting code) where
  variables_again : (rest : List ℕ) → listed_in variable_at 0 any_end (counted variable code.variables ++ rest) ≡ Ok (code.variables, rest)
  variables_again rest =
      listed_again variable_at variable FitsAfter (λ earlier v r fit. variable_again earlier v r (ends_wide earlier v.kind) fit) 0 any_end code.variables rest
      (omega arith) (omega arith) few.variables
      (variables_after [] code.variables (recursion_from_All IsVariable code.variables h.variables.each) h.variables.integers h.variables.booleans)

  literals_again : (rest : List ℕ) → listed_in (λ _. literal_at) 0 any_end (counted literal code.literals ++ rest) ≡ Ok (code.literals, rest)
  literals_again rest = each_again literal_at literal IsLiteral literal_again 0 any_end code.literals rest (omega arith) (omega arith) few.literals h.literals

  texts_again : (rest : List ℕ) → listed_in (λ _. text_at) 0 any_end (counted text code.texts ++ rest) ≡ Ok (code.texts, rest)
  texts_again rest =
      each_again text_at text (λ bytes. length bytes ≤ 4194304) text_again 0 any_end code.texts rest (omega arith) (omega arith) few.texts_counted h.texts

  procedures_again : (rest : List ℕ) → listed_in procedure_at 1 any_end (counted procedure code.procedures ++ rest) ≡ Ok (code.procedures, rest)
  procedures_again rest =
      listed_again procedure_at procedure ComesAfter procedure_again 1 any_end code.procedures rest (omega arith) h.procedures.some few.procedures
      (pairs_after (λ (p q : ProcDef). (p.name ≢ q.name) × (p.entry < q.entry)) (λ (p : ProcDef). IsFreeName p.name × (p.entry < 2 ^ 32)) [] code.procedures
      h.procedures.in_order (recursion_from_All (λ (p : ProcDef). IsFreeName p.name × (p.entry < 2 ^ 32)) code.procedures
      (λ k d lt. (h.procedures.named k d lt, fits.entries k d lt))))

  actions_again : (rest : List ℕ) → listed_in (action_at (length code.procedures)) 1 any_end (counted action code.actions ++ rest) ≡ Ok (code.actions, rest)
  actions_again rest =
      listed_again (action_at (length code.procedures)) action (ActsAfter (length code.procedures))
      (λ earlier a r acts. action_again (length code.procedures) earlier a r (omega (arith, few.procedures)) acts) 1 any_end code.actions rest
      (omega arith) h.actions.some few.actions
      (pairs_after (λ (a b : ActionDef). a.name ≢ b.name) (λ (a : ActionDef). IsAction (length code.procedures) a × (length a.items < 2 ^ 32)) [] code.actions
      h.actions.names_apart (recursion_from_All (λ (a : ActionDef). IsAction (length code.procedures) a × (length a.items < 2 ^ 32)) code.actions
      (λ k d lt. (h.actions.each k d lt, few.items k d lt))))

  are_few : AreFew code.variables (length code.literals) (length code.texts) (length code.procedures)
  are_few = record {
    few_variables = omega (arith, few.variables);
    few_literals = omega (arith, few.literals);
    few_texts = omega (arith, few.texts_counted);
    few_procedures = omega (arith, few.procedures);
    few_sizes = λ n. sizes_few code.variables n (recursion_from_All (λ (v : VarDef). v.size < 2 ^ 32) code.variables fits.sizes);
  }

  abbrev Written : Instr → Type 0
  Written x = IsInstr code.variables (length code.literals) (length code.texts) (length code.procedures) x × (IsCountableInstr x × FitsInstr x)

  instrs_again : (rest : List ℕ)
      → listed_in (λ _. instr_at code.variables (length code.literals) (length code.texts) (length code.procedures)) 0 any_end (counted instr code.instrs ++ rest)
      ≡ Ok (code.instrs, rest)
  instrs_again rest =
      each_again (instr_at code.variables (length code.literals) (length code.texts) (length code.procedures)) instr Written
      (λ x r w. instr_again code.variables (length code.literals) (length code.texts) (length code.procedures) are_few x r w.0 w.1.0 w.1.1)
      0 any_end code.instrs rest (omega arith) (omega arith) few.instrs (λ k d lt. (h.instrs k d lt, (few.counts k d lt, fits.numbers k d lt)))

  head_again : (profile : Profile) (rest : List ℕ) → head_at (head profile ++ rest) ≡ Ok (profile, rest)
  head_again One rest = made_again profile_of (field 8 is_head) (head One ++ rest) (head One) rest (field_again 8 is_head (head One) rest refl refl)
  head_again Two rest = made_again profile_of (field 8 is_head) (head Two ++ rest) (head Two) rest (field_again 8 is_head (head Two) rest refl refl)

  pub code_again : (rest : List ℕ) → code_at (file code ++ rest) ≡ Ok (code, rest)
  unfolding file
  code_again rest =
      let instrs = counted instr code.instrs ++ rest in
      let actions = counted action code.actions ++ instrs in
      let procedures = counted procedure code.procedures ++ actions in
      let texts = counted text code.texts ++ procedures in
      let literals = counted literal code.literals ++ texts in
      let variables = counted variable code.variables ++ literals in
      let regrouped : file code ++ rest ≡ head code.profile ++ variables =
      regroup (head code.profile) (counted variable code.variables) (counted literal code.literals) (counted text code.texts)
      (counted procedure code.procedures) (counted action code.actions) (counted instr code.instrs) rest in
      ap code_at regrouped
      ∙ followed_again head_at _ (head code.profile ++ variables) code.profile variables (head_again code.profile variables)
      ∙ followed_again (listed_in variable_at 0 any_end) _ variables code.variables literals (variables_again literals)
      ∙ followed_again (listed_in (λ _. literal_at) 0 any_end) _ literals code.literals texts (literals_again texts)
      ∙ followed_again (listed_in (λ _. text_at) 0 any_end) _ texts code.texts procedures (texts_again procedures)
      ∙ followed_again (listed_in procedure_at 1 any_end) _ procedures code.procedures actions (procedures_again actions)
      ∙ followed_again (listed_in (action_at (length code.procedures)) 1 any_end) _ actions code.actions instrs (actions_again instrs)
      ∙ made_again (λ xs. record {
        profile = code.profile;
        variables = code.variables;
        literals = code.literals;
        texts = code.texts;
        procedures = code.procedures;
        actions = code.actions;
        instrs = xs;
      })
      (listed_in (λ _. instr_at code.variables (length code.literals) (length code.texts) (length code.procedures)) 0 any_end) instrs code.instrs rest (instrs_again rest)

abbrev read_of : {A : Type 0} → A → Result A Fault
read_of x = Ok x

read_is : {A : Type 0} (x y : A) → read_of x ≡ read_of y → x ≡ y
read_is x y e = cc

pub read_again : (code : CodeLists) (rest : List ℕ) → HasFile code → code_at (file code ++ rest) ≡ Ok (code, rest)
read_again code rest h = code_again code h.in_range (countable code h.short.most h.in_range.countable) h.fitting rest

pub one_code : (a b : CodeLists) (x y : List ℕ) → HasFile a → HasFile b → file a ++ x ≡ file b ++ y → (a ≡ b) × (x ≡ y)
one_code a b x y ha hb same =
    let read : (a, x) ≡ (b, y) = read_is (a, x) (b, y) (sym (read_again a x ha) ∙ ap code_at same ∙ read_again b y hb) in
    (ap (λ (p : CodeLists × List ℕ). p.0) read, ap (λ (p : CodeLists × List ℕ). p.1) read)
