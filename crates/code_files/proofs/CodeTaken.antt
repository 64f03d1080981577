-- A code that is read is in range, and its file is the bytes that were read.
use Rattle.std.proofs.Common.{◌≡◌, ◌≢◌, ◌<◌, ◌^◌, ◌||◌, if◌then◌else◌, Bool, true, false, ℕ, List, [], length, All, Ok, refl, sym, arith, true≢false}
use Rattle.std.specs.Str.{bytes_eq}
use Rattle.std.proofs.lemmas.Slice.Eq.{bytes_eq-Decides}
use Rattle.stapl_syntax.specs.Contents.{IsFreeName}
use Rattle.stapl_code.specs.declared.raw.VarDef.{VarDef}
use Rattle.stapl_code.specs.declared.raw.ProcDef.{ProcDef}
use Rattle.stapl_code.specs.declared.raw.ActionDef.{ActionDef}
use Rattle.stapl_code.specs.declared.raw.CodeLists.{CodeLists}
use Rattle.stapl_code.specs.Ranges.{AreVariables, AreProcedures, IsAction, AreActions, IsLiteral, IsInRange}
use Rattle.stapl_code.specs.Fields.{counted, literal, text}
use Rattle.stapl_code.specs.Instrs.{instr}
use Rattle.stapl_meaning.specs.declared.profiles.Profile.TheVariants.{One, Two}
use Rattle.stapl_code.specs.Files.{head, variable, procedure, action, file, IsFitting}
use Rattle.code_files.specs.Reading.{field, listed_in, any_end}
use Rattle.code_files.specs.ReadInstrs.{instr_at}
use Rattle.code_files.specs.ReadFiles.{is_head, profile_of, head_at, variable_at, literal_at, text_at, procedure_at, action_at, code_at}
use Rattle.code_files.proofs.FieldsAgain.{AllAfter}
use Rattle.code_files.proofs.ListsAgain.{FitsAfter, ComesAfter}
use Rattle.code_files.proofs.FieldsTaken.{Takes, IsRead, IsFrom, IsField, AreEach, field_takes, respelled, made_takes, followed_takes, listed_takes, each_takes, all_of}
use Rattle.code_files.proofs.PartsTaken.{Any}
use Rattle.code_files.proofs.InstrsTaken.{IsGood, instr_takes}
use Rattle.code_files.proofs.LiteralsTaken.{literal_takes}
use Rattle.code_files.proofs.ListsTaken.{KeepLimits, limits_kept, size_small, variable_takes, IsText, text_takes, pairs_of, no_pairs, StartsAfter, procedure_takes, in_order, none_below, ActsAfterOthers, action_takes}

-- a code whose fields are in range
pub record IsWhole (code : CodeLists) : Type 0 where
  pub in_range : IsInRange code
  pub fitting : IsFitting code

abbrev Variables : List VarDef → Type 0
Variables xs = IsFrom 0 any_end (length xs) × AllAfter FitsAfter [] xs

abbrev Procedures : List ProcDef → Type 0
Procedures xs = IsFrom 1 any_end (length xs) × AllAfter StartsAfter [] xs

abbrev Actions : ℕ → List ActionDef → Type 0
Actions procedures xs = IsFrom 1 any_end (length xs) × AllAfter (ActsAfterOthers procedures) [] xs

variables_are : (xs : List VarDef) → Variables xs → AreVariables xs
variables_are xs h = let kept : KeepLimits [] xs = limits_kept [] xs (omega arith) (omega arith) h.1 in
    record { each = kept.each; integers = kept.ints; booleans = kept.bits }

sizes_are : (xs : List VarDef) → Variables xs → All (λ (v : VarDef). v.size < 2 ^ 32) xs
sizes_are xs h = all_of FitsAfter (λ (v : VarDef). v.size < 2 ^ 32) size_small [] xs h.1

procedures_are : (xs : List ProcDef) → Procedures xs → AreProcedures xs
procedures_are xs h =
    let ordered : AllAfter ComesAfter [] xs = in_order [] xs none_below h.1 in
    record {
      some = h.0.0;
      named = all_of StartsAfter (λ (p : ProcDef). IsFreeName p.name) (λ _ p is. is.0.1) [] xs h.1;
      in_order = pairs_of (λ (p q : ProcDef). (p.name ≢ q.name) × (p.entry < q.entry)) (λ (p : ProcDef). IsFreeName p.name × (p.entry < 2 ^ 32)) [] xs
          (no_pairs (λ (p q : ProcDef). (p.name ≢ q.name) × (p.entry < q.entry))) ordered;
    }

entries_are : (xs : List ProcDef) → Procedures xs → All (λ (p : ProcDef). p.entry < 2 ^ 32) xs
entries_are xs h = all_of StartsAfter (λ (p : ProcDef). p.entry < 2 ^ 32) (λ _ p is. is.1.1) [] xs h.1

actions_are : (procedures : ℕ) (xs : List ActionDef) → Actions procedures xs → AreActions procedures xs
actions_are procedures xs h = record {
  some = h.0.0;
  each = all_of (ActsAfterOthers procedures) (IsAction procedures) (λ _ a is. is.1) [] xs h.1;
  names_apart = pairs_of (λ (a b : ActionDef). a.name ≢ b.name) (IsAction procedures) [] xs (no_pairs (λ (a b : ActionDef). a.name ≢ b.name)) h.1;
}

whole_code : (code : CodeLists) → Variables code.variables → AreEach IsLiteral 0 any_end code.literals → AreEach IsText 0 any_end code.texts → Procedures code.procedures
    → Actions (length code.procedures) code.actions
    → AreEach (IsGood code.variables (length code.literals) (length code.texts) (length code.procedures)) 0 any_end code.instrs → IsWhole code
whole_code code variables literals texts procedures actions instrs = record {
  in_range = record {
    variables = variables_are code.variables variables;
    literals = literals.1;
    texts = texts.1;
    procedures = procedures_are code.procedures procedures;
    actions = actions_are (length code.procedures) code.actions actions;
    instrs = λ k d lt. (instrs.1 k d lt).0;
    countable = instrs.0.1;
  };
  fitting = record {
    sizes = sizes_are code.variables variables;
    entries = entries_are code.procedures procedures;
    numbers = λ k d lt. (instrs.1 k d lt).1;
  };
}

-- a head is that of its profile
head_is : (x : List ℕ) → is_head x ≡ true → head (profile_of x) ≡ x
head_is x is = by (bytes_eq (head One) x) refl (bytes_eq (head Two) x) refl is
  where
    by : (one : Bool) → bytes_eq (head One) x ≡ one → (two : Bool) → bytes_eq (head Two) x ≡ two → one || two ≡ true → head (if one then One else Two) ≡ x
    by true e two f is = (bytes_eq-Decides (head One) x).0 e
    by false e true f is = (bytes_eq-Decides (head Two) x).0 f
    by false e false f is = absurd (true≢false (sym is))

head_takes : Takes [] head_at head Any
head_takes =
    made_takes [] profile_of (field 8 is_head) (λ x. head (profile_of x)) Any head Any
    (respelled [] (field 8 is_head) (λ x. x) (IsField 8 is_head) (λ x. head (profile_of x)) Any (field_takes 8 is_head) (λ x h. head_is x h.1) (λ x h. tt))
    (λ x. refl) (λ x h. tt)

code_takes : Takes [] code_at file IsWhole
unfolding file
code_takes =
    followed_takes [] head_at _ head Any file IsWhole head_takes (λ profile _.
    followed_takes _ (listed_in variable_at 0 any_end) _ (counted variable) Variables file IsWhole (listed_takes variable_at variable FitsAfter variable_takes 0 any_end) (λ variables v.
    followed_takes _ (listed_in (λ _. literal_at) 0 any_end) _ (counted literal) (AreEach IsLiteral 0 any_end) file IsWhole
    (each_takes literal_at literal IsLiteral literal_takes 0 any_end) (λ literals l.
    followed_takes _ (listed_in (λ _. text_at) 0 any_end) _ (counted text) (AreEach IsText 0 any_end) file IsWhole
    (each_takes text_at text IsText text_takes 0 any_end) (λ texts t.
    followed_takes _ (listed_in procedure_at 1 any_end) _ (counted procedure) Procedures file IsWhole
    (listed_takes procedure_at procedure StartsAfter procedure_takes 1 any_end) (λ procedures p.
    followed_takes _ (listed_in (action_at (length procedures)) 1 any_end) _ (counted action) (Actions (length procedures)) file IsWhole
    (listed_takes (action_at (length procedures)) action (ActsAfterOthers (length procedures)) (action_takes (length procedures)) 1 any_end) (λ actions a.
    made_takes _ (λ xs. record { profile = profile; variables = variables; literals = literals; texts = texts; procedures = procedures; actions = actions; instrs = xs })
    (listed_in (λ _. instr_at variables (length literals) (length texts) (length procedures)) 0 any_end) (counted instr)
    (AreEach (IsGood variables (length literals) (length texts) (length procedures)) 0 any_end) file IsWhole
    (each_takes (instr_at variables (length literals) (length texts) (length procedures)) instr (IsGood variables (length literals) (length texts) (length procedures))
    (instr_takes variables (length literals) (length texts) (length procedures)) 0 any_end)
    (λ xs. refl)
    (λ xs i. whole_code (record { profile = profile; variables = variables; literals = literals; texts = texts; procedures = procedures; actions = actions; instrs = xs }) v l t p a i)))))))

pub code_taken : (bytes : List ℕ) (code : CodeLists) (rest : List ℕ) → All (λ b. b < 256) bytes → code_at bytes ≡ Ok (code, rest) → IsRead file IsWhole bytes code rest
code_taken bytes code rest are read = code_takes.takes bytes code rest (record { each = are }) read
