-- Steps of what is written for a scan or a padding.
use Rattle.std.proofs.Common.{◌≡◌, ℕ, List, [], ◌∷◌, ◌++◌, length, append_assoc, refl, sym, ap, ◌∙◌, Bool, Option, Some}
use Rattle.stapl_lexer.specs.declared.terminal.Register.{Register}
use Rattle.stapl_syntax.specs.Trees.{ExprTree, element, ArrayTree, CompareTree, scan}
use Rattle.stapl_meaning.specs.declared.values.ValueKind.TheVariants as kinds
use Rattle.stapl_meaning.specs.Values.{Lookup}
use Rattle.stapl_meaning.specs.Operands.{Operand, an_integer, an_index, array_operands, target_operands, compare_operands}
use Rattle.stapl_code.specs.declared.instr.Instr.{Instr}
use Rattle.stapl_code.specs.declared.instr.Instr.TheVariants.{Scan as Scans}
use Rattle.stapl_code.specs.declared.instr.Dest.{Dest}
use Rattle.stapl_code.specs.declared.instr.Source.{Source}
use Rattle.stapl_code.specs.declared.instr.Compare.{Compare}
use Rattle.stapl_codegen.specs.Emit.{past, array_literals, compare_literals, expr_code, operands_code, source_code, target_code, compare_code}
use Rattle.stapl_codegen.specs.Drafts.{Draft, scope_of_site, with_code, with_literals, expr_code_in, operands_code_in, array_operands_in, source_in, target_operands_in, target_in, compare_operands_in, compare_in, body_code_in}
use Rattle.stapl_codegen.proofs.Drafts.{after_items}
use Rattle.stapl_codegen.proofs.Lists.{expr_before, operands_both, operands_before}

-- operands with their literals, and others after them that depend on what names stand for
pub both_written : (os : List Operand) (more : Lookup → List Operand) (xs ys : List (List Bool)) (start first second : Draft) →
    first ≡ with_literals (with_code start (operands_code_in start os)) xs → second ≡ with_literals (with_code first (operands_code_in first (more (scope_of_site first.site).look))) ys →
    second ≡ with_literals (with_code start (operands_code_in start (os ++ more (scope_of_site start.site).look))) (xs ++ ys)
both_written os more xs ys start first second own others =
    let look : Lookup = (scope_of_site start.site).look in
    let before : List Instr = operands_code look os [] in
    let after : List Instr = operands_code look (more look) [] in
    others
    ∙ ap (λ (d : Draft). with_literals (with_code d (operands_code_in d (more (scope_of_site d.site).look))) ys) own
    ∙ ap (λ c. record start { code = c; literals = (start.literals ++ xs) ++ ys })
    (append_assoc start.code before after ∙ ap (λ c. start.code ++ c) (sym (operands_both look os (more look) [] ∙ operands_before look os after)))
    ∙ ap (λ l. record start { code = start.code ++ operands_code look (os ++ more look) []; literals = l }) (append_assoc start.literals xs ys)

-- both arrays of a comparison, and then the index of its cell
pub element_written : (expected mask : ArrayTree) (name : List ℕ) (index : ExprTree) (n : ℕ) (start both d : Draft) →
    both ≡ with_literals (with_code start (operands_code_in start (array_operands_in start expected ++ array_operands_in start mask))) (array_literals expected ++ array_literals mask) →
    n ≡ (scope_of_site start.site).look.variable name → d ≡ with_code both (operands_code_in both (an_index n index ∷ [])) →
    d ≡ with_literals (with_code start (operands_code_in start (compare_operands_in start (Some (expected, (mask, element name index)))))) (array_literals expected ++ array_literals mask)
element_written expected mask name index n start both d own number more =
    let look : Lookup = (scope_of_site start.site).look in
    let e : List Operand = array_operands_in start expected in
    let m : List Operand = array_operands_in start mask in
    let before : List Instr = operands_code look (e ++ m) [] in
    let after : List Instr = operands_code look (an_index n index ∷ []) [] in
    let with : List Instr → Draft = λ c. with_literals (with_code start c) (array_literals expected ++ array_literals mask) in
    more
    ∙ ap (λ (d : Draft). with_code d (operands_code_in d (an_index n index ∷ []))) own
    ∙ ap (λ c. record start { code = c; literals = start.literals ++ (array_literals expected ++ array_literals mask) })
    (append_assoc start.code before after ∙ ap (λ c. start.code ++ c) (sym (operands_both look (e ++ m) (an_index n index ∷ []) [] ∙ operands_before look (e ++ m) after)))
    ∙ ap (λ os. with (operands_code_in start os)) (append_assoc e m (an_index n index ∷ []))
    ∙ ap (λ k. with (operands_code_in start (e ++ (m ++ an_index k index ∷ [])))) number

-- the code of an expression and of operands in three parts, and the instruction after them
parts_code : (look : Lookup) (before : List Instr) (e : ExprTree) (a t c : List Operand) (x : List Instr) →
    ((((before ++ expr_code look kinds.Int e []) ++ operands_code look a []) ++ operands_code look t []) ++ operands_code look c []) ++ x
    ≡ before ++ operands_code look (an_integer e ∷ (a ++ (t ++ c))) x
parts_code look before e a t c x =
    let one : List Instr = expr_code look kinds.Int e [] in
    let two : List Instr = operands_code look a [] in
    let three : List Instr = operands_code look t [] in
    let four : List Instr = operands_code look c [] in
    append_assoc (((before ++ one) ++ two) ++ three) four x
    ∙ append_assoc ((before ++ one) ++ two) three (four ++ x)
    ∙ append_assoc (before ++ one) two (three ++ (four ++ x))
    ∙ append_assoc before one (two ++ (three ++ (four ++ x)))
    ∙ ap (λ l. before ++ l)
    (sym
    (expr_before look kinds.Int e (operands_code look (a ++ (t ++ c)) x)
    ∙ ap (λ l. one ++ l)
    (operands_both look a (t ++ c) x
    ∙ operands_before look a (operands_code look (t ++ c) x)
    ∙ ap (λ l. two ++ l) (operands_both look t c x ∙ operands_before look t (operands_code look c x) ∙ ap (λ l. three ++ l) (operands_before look c x)))))

-- what a draft was before a scan, and what it is after each part of it
pub record AreDrafts (start counted shifted caught compared : Draft) (count : ExprTree) (source : ArrayTree) (target : Option ArrayTree) (compare : Option CompareTree) : Type 0 where
  pub count_written : counted ≡ with_code start (expr_code_in start kinds.Int count)
  pub source_written : shifted ≡ with_literals (with_code counted (operands_code_in counted (array_operands_in counted source))) (array_literals source)
  pub target_written : caught ≡ with_code shifted (operands_code_in shifted (target_operands_in shifted target))
  pub compare_written : compared ≡ with_literals (with_code caught (operands_code_in caught (compare_operands_in caught compare))) (compare_literals compare)

-- the parts of a scan, and then its instruction
pub scan_written : (start counted shifted caught compared done : Draft) (register : Register) (count : ExprTree) (source : ArrayTree) (target : Option ArrayTree) (compare : Option CompareTree)
    (from : Source) (to : Option Dest) (against : Option Compare) → AreDrafts start counted shifted caught compared count source target compare →
    from ≡ source_in counted source → to ≡ target_in shifted target → against ≡ compare_in caught compare →
    done ≡ with_code compared (Scans (record { register = register; source = from; target = to; compare = against }) ∷ []) →
    done ≡ with_literals (with_code start (body_code_in start (scan register count source target compare))) (array_literals source ++ compare_literals compare)
scan_written start counted shifted caught compared done register count source target compare from to against are from_is to_is against_is more =
    let look : Lookup = (scope_of_site start.site).look in
    let xs : List (List Bool) = array_literals source in
    let ys : List (List Bool) = compare_literals compare in
    let scans : Source → Option Dest → Option Compare → List Instr = λ f t c. Scans (record { register = register; source = f; target = t; compare = c }) ∷ [] in
    let after_caught : Draft → Draft = λ d. with_literals (with_code d (operands_code_in d (compare_operands_in d compare))) ys in
    let after_shifted : Draft → Draft = λ d. with_code d (operands_code_in d (target_operands_in d target)) in
    let after_counted : Draft → Draft = λ d. with_literals (with_code d (operands_code_in d (array_operands_in d source))) xs in
    let n : ℕ = length start.literals in
    let put : ℕ → List Instr = λ k. scans (source_code look n source) (target_code look target) (compare_code look k compare) in
    let all : List Instr = operands_code look (an_integer count ∷ (array_operands look source ++ (target_operands look target ++ compare_operands look compare))) (put (past n xs)) in
    more
    ∙ ap (λ f. with_code compared (scans f to against)) from_is
    ∙ ap (λ t. with_code compared (scans (source_in counted source) t against)) to_is
    ∙ ap (λ c. with_code compared (scans (source_in counted source) (target_in shifted target) c)) against_is
    ∙ ap (λ (d : Draft). with_code d (scans (source_in counted source) (target_in shifted target) (compare_in caught compare))) are.compare_written
    ∙ ap (λ (d : Draft). with_code (after_caught d) (scans (source_in counted source) (target_in shifted target) (compare_in d compare))) are.target_written
    ∙ ap (λ (d : Draft). with_code (after_caught (after_shifted d)) (scans (source_in counted source) (target_in d target) (compare_in d compare))) are.source_written
    ∙ ap (λ (d : Draft). with_code (after_caught (after_shifted (after_counted d))) (scans (source_in d source) (target_in d target) (compare_in (after_counted d) compare))) are.count_written
    ∙ ap (λ k. with_code (after_caught (after_shifted (after_counted (with_code start (expr_code_in start kinds.Int count))))) (put k))
    (sym (after_items start.literals xs (start.literals ++ xs) refl))
    ∙ ap (λ c. record start { code = c; literals = (start.literals ++ xs) ++ ys })
    (parts_code look start.code count (array_operands look source) (target_operands look target) (compare_operands look compare) (put (past n xs)))
    ∙ ap (λ l. record start { code = start.code ++ all; literals = l }) (append_assoc start.literals xs ys)
