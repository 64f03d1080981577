-- Steps of what is written for a statement.
use Rattle.std.proofs.Common.{◌≡◌, ℕ, suc, ◌<◌, Bool, false, List, [], ◌∷◌, ◌++◌, length, take, drop, arith, append_assoc, refl, sym, ap, ◌∙◌}
use Rattle.std.specs.Prelude.{if◌then◌else◌}
use Rattle.std.proofs.lemmas.List.{append-nil, take_all}
use Rattle.stapl_syntax.specs.Trees.{ExprTree, ArrayTree, BodyTree, if_then, PartTree, string, value, character}
use Rattle.stapl_meaning.specs.declared.values.ValueKind.TheVariants as kinds
use Rattle.stapl_meaning.specs.Values.{Lookup}
use Rattle.stapl_meaning.specs.Operands.{a_range, array_operands, part_operands}
use Rattle.stapl_code.specs.declared.instr.Source.{Source}
use Rattle.stapl_code.specs.declared.instr.Instr.{Instr}
use Rattle.stapl_code.specs.declared.instr.Instr.TheVariants.{Turn, JumpIfZero, CheckChar}
use Rattle.stapl_code.specs.declared.instr.PrintPart.{PrintPart}
use Rattle.stapl_codegen.specs.Emit.{array_literals, operands_code, print_parts, part_texts, body_texts, body_literals}
use Rattle.stapl_codegen.specs.Drafts.{Draft, Site, scope_of_site, with_code, with_texts, with_literals, expr_code_in, operands_code_in, array_operands_in, source_in, part_operands_in, print_parts_in, body_code_in}
use Rattle.stapl_codegen.proofs.Lists.{expr_append, expr_before, operands_before}

-- what a draft was before a PRINT, what it is after some of its parts, and which parts are left
pub record AreWritten (start : Draft) (all : List PartTree) (d : Draft) (list : List PrintPart) (rest : List PartTree) : Type 0 where
  pub code : d.code ++ operands_code_in start (part_operands_in start rest) ≡ start.code ++ operands_code_in start (part_operands_in start all)
  pub texts : d.texts ++ part_texts rest ≡ start.texts ++ part_texts all
  pub literals : d.literals ≡ start.literals
  pub printed : list ++ print_parts_in d rest ≡ print_parts_in start all
  pub site : d.site ≡ start.site

one_longer : {A : Type 0} (xs : List A) (x : A) → length (xs ++ x ∷ []) ≡ suc (length xs)
one_longer [] x = refl
one_longer (y ∷ xs) x = ap suc (one_longer xs x)

-- a part, and then the others
module _ (part : PartTree) (rest : List PartTree) where
  operands_first : (part : PartTree) (look : Lookup) → operands_code look (part_operands look (part ∷ rest)) [] ≡ operands_code look
      (part_operands look (part ∷ [])) [] ++ operands_code look (part_operands look rest) []
  operands_first (string bytes) look = refl
  operands_first (value e) look = expr_append look _ e [] (operands_code look (part_operands look rest) [])
  operands_first (character e) look = expr_append look _ e (CheckChar ∷ []) (operands_code look (part_operands look rest) [])

  texts_first : (part : PartTree) → part_texts (part ∷ rest) ≡ part_texts (part ∷ []) ++ part_texts rest
  texts_first (string bytes) = refl
  texts_first (value e) = refl
  texts_first (character e) = refl

  printed_first : (look : Lookup) (part : PartTree) (texts texts' : List (List ℕ)) → texts' ≡ texts ++ part_texts (part ∷ []) →
      print_parts look (length texts) (part ∷ rest) ≡ print_parts look (length texts) (part ∷ []) ++ print_parts look (length texts') rest
  printed_first look (string bytes) texts texts' is = ap (λ n. print_parts look (length texts) (string bytes ∷ []) ++ print_parts look n rest) (sym (ap length is ∙ one_longer texts bytes))
  printed_first look (value e) texts texts' is = ap (λ n. print_parts look (length texts) (value e ∷ []) ++ print_parts look n rest) (sym (ap length (is ∙ append-nil texts)))
  printed_first look (character e) texts texts' is = ap (λ n. print_parts look (length texts) (character e ∷ []) ++ print_parts look n rest) (sym (ap length (is ∙ append-nil texts)))

  module _ (start d d' : Draft) (all : List PartTree) (list list' : List PrintPart) (printed : PrintPart) (so_far : AreWritten start all d list (part ∷ rest)) where
    code_more : d'.code ≡ d.code ++ operands_code_in d (part_operands_in d (part ∷ [])) →
        d'.code ++ operands_code_in start (part_operands_in start rest) ≡ start.code ++ operands_code_in start (part_operands_in start all)
    code_more code =
        let look : Lookup = (scope_of_site start.site).look in
        let one : List Instr = operands_code look (part_operands look (part ∷ [])) [] in
        let others : List Instr = operands_code look (part_operands look rest) [] in
        ap (λ c. c ++ others) (code ∙ ap (λ (s : Site). d.code ++ operands_code (scope_of_site s).look (part_operands (scope_of_site s).look (part ∷ [])) []) so_far.site)
        ∙ append_assoc d.code one others
        ∙ ap (λ c. d.code ++ c) (sym (operands_first part look))
        ∙ so_far.code

    texts_more : d'.texts ≡ d.texts ++ part_texts (part ∷ []) → d'.texts ++ part_texts rest ≡ start.texts ++ part_texts all
    texts_more texts =
        ap (λ t. t ++ part_texts rest) texts
        ∙ append_assoc d.texts (part_texts (part ∷ [])) (part_texts rest)
        ∙ ap (λ t. d.texts ++ t) (sym (texts_first part))
        ∙ so_far.texts

    list_more : d'.texts ≡ d.texts ++ part_texts (part ∷ []) → d'.site ≡ d.site → printed ∷ [] ≡ print_parts_in d (part ∷ []) → list' ≡ list ++ printed ∷ [] →
        list' ++ print_parts_in d' rest ≡ print_parts_in start all
    list_more texts site print more =
        let look : Lookup = (scope_of_site d.site).look in
        ap (λ (s : Site). list' ++ print_parts (scope_of_site s).look (length d'.texts) rest) site
        ∙ ap (λ l. l ++ print_parts look (length d'.texts) rest) more
        ∙ append_assoc list (printed ∷ []) (print_parts look (length d'.texts) rest)
        ∙ ap (λ l. list ++ (l ++ print_parts look (length d'.texts) rest)) print
        ∙ ap (λ l. list ++ l) (sym (printed_first look part d.texts d'.texts texts))
        ∙ so_far.printed

    pub part_more : d' ≡ with_texts (with_code d (operands_code_in d (part_operands_in d (part ∷ [])))) (part_texts (part ∷ [])) →
        printed ∷ [] ≡ print_parts_in d (part ∷ []) → list' ≡ list ++ printed ∷ [] → AreWritten start all d' list' rest
    part_more is print more =
        let site : d'.site ≡ d.site = ap (λ (d : Draft). d.site) is in
        let texts = ap (λ (d : Draft). d.texts) is in
        record {
          code = code_more (ap (λ (d : Draft). d.code) is);
          texts = texts_more texts;
          literals = ap (λ (d : Draft). d.literals) is ∙ so_far.literals;
          printed = list_more texts site print more;
          site = site ∙ so_far.site;
        }

-- a literal of fewer bits than an integer has
pub short_literal : (bits : List Bool) (n : ℕ) → n ≡ length bits → n < 32 → take n (drop 0 bits) ≡ take 32 bits
short_literal bits n is below = take_all n bits (omega (arith, is)) ∙ sym (take_all 32 bits (omega (arith, is, below)))

-- a statement with its texts and literals
abbrev written : Draft → BodyTree → List Instr → Draft
written d b code = with_literals (with_texts (with_code d code) (body_texts b)) (body_literals b)

-- the turn of a statement, and then what it does
pub turn_written : (outer : Bool) (b : BodyTree) (start d done : Draft) → outer ≡ false → d ≡ with_code start (Turn start.site.piece ∷ []) →
    done ≡ with_literals (with_texts (with_code d (body_code_in d b)) (body_texts b)) (body_literals b) →
    done ≡ with_literals (with_texts (with_code start (if outer then [] else Turn start.site.piece ∷ body_code_in start b)) (body_texts b)) (body_literals b)
turn_written outer b start d done inner put more =
    more
    ∙ ap (λ (d : Draft). written d b (body_code_in d b)) put
    ∙ ap (λ c. with_literals (with_texts (record start { code = c }) (body_texts b)) (body_literals b)) (append_assoc start.code (Turn start.site.piece ∷ []) (body_code_in start b))
    ∙ ap (λ (o : Bool). written start b (if o then [] else Turn start.site.piece ∷ body_code_in start b)) (sym inner)

-- an IF, and then its inner statement
pub if_written : (e : ExprTree) (b : BodyTree) (start d done : Draft) → d ≡ with_code start (expr_code_in start kinds.Bit e ++ JumpIfZero start.site.piece ∷ []) →
    done ≡ with_literals (with_texts (with_code d (body_code_in d b)) (body_texts b)) (body_literals b) →
    done ≡ with_literals (with_texts (with_code start (body_code_in start (if_then e b))) (body_texts b)) (body_literals b)
if_written e b start d done tested more =
    let test : List Instr = expr_code_in start kinds.Bit e in
    let jump : List Instr = JumpIfZero start.site.piece ∷ [] in
    let inner : List Instr = body_code_in start b in
    more
    ∙ ap (λ (d : Draft). written d b (body_code_in d b)) tested
    ∙ ap (λ c. with_literals (with_texts (record start { code = c }) (body_texts b)) (body_literals b))
    (append_assoc start.code (test ++ jump) inner
    ∙ ap (λ c. start.code ++ c) (append_assoc test jump inner ∙ sym (expr_before (scope_of_site start.site).look kinds.Bit e (jump ++ inner))))

-- the indexes of a range, the operands of an array, and the copy
pub range_written : (n : ℕ) (high low : ExprTree) (a : ArrayTree) (i : Source → Instr) (start ranged placed done : Draft) (source : Source) →
    ranged ≡ with_code start (operands_code_in start (a_range n high low)) →
    placed ≡ with_literals (with_code ranged (operands_code_in ranged (array_operands_in ranged a))) (array_literals a) →
    source ≡ source_in ranged a → done ≡ with_code placed (i source ∷ []) →
    done ≡ with_literals (with_code start (operands_code (scope_of_site start.site).look (a_range n high low ++ array_operands_in start a) (i (source_in start a) ∷ []))) (array_literals a)
range_written n high low a i start ranged placed done source range array from more =
    let look : Lookup = (scope_of_site start.site).look in
    let own : List Instr = operands_code look (a_range n high low) [] in
    let others : List Instr = operands_code look (array_operands look a) [] in
    let copy : List Instr = i (source_in start a) ∷ [] in
    more
    ∙ ap (λ (s : Source). with_code placed (i s ∷ [])) from
    ∙ ap (λ (d : Draft). with_code d (i (source_in ranged a) ∷ [])) array
    ∙ ap (λ (d : Draft). with_code (with_literals (with_code d (operands_code_in d (array_operands_in d a))) (array_literals a)) (i (source_in d a) ∷ [])) range
    ∙ ap (λ c. with_literals (record start { code = c }) (array_literals a))
    (append_assoc (start.code ++ own) others copy
    ∙ append_assoc start.code own (others ++ copy)
    ∙ ap (λ c. start.code ++ (own ++ c)) (sym (operands_before look (array_operands look a) copy))
    ∙ ap (λ c. start.code ++ c) (sym (operands_before look (a_range n high low) (operands_code look (array_operands look a) copy))))
