-- The code of an accepted program is valid: one procedure after the other breaks no rule, and their entries rise.
use Rattle.std.proofs.Common.{◌≡◌, ℕ, suc, ◌+◌, ◌-◌, ◌<◌, ◌≤◌, true, false, cond, List, [], ◌∷◌, ◌++◌, length, length-append, drop, take, Option, Some, None, arith, refl, sym, ap, subst, ◌∙◌, nat_lt, add-one}
use Rattle.std.specs.Prelude.{All, slice_range, if◌then◌else◌}
use Rattle.std.specs.List.{list_all}
use Rattle.std.proofs.lemmas.List.{take_at, drop_all}
use Rattle.std.proofs.lemmas.Bool.{lt-ltb, and_from}
use Rattle.stapl_syntax.specs.Trees.{BodyTree, procedure, StmtTree}
use Rattle.stapl_syntax.specs.Statements.{is_outer, begins_procedure}
use Rattle.stapl_shapes.specs.Shapes.{HasShape}
use Rattle.stapl_meaning.specs.Scopes.{Played, scope_at}
use Rattle.stapl_meaning.specs.Typed.{IsTyped}
use Rattle.stapl_code.specs.declared.instr.Instr.{Instr}
use Rattle.stapl_code.specs.declared.instr.Instr.TheVariants.{Turn}
use Rattle.stapl_code.specs.declared.raw.VarDef.{VarDef}
use Rattle.stapl_code.specs.declared.raw.ProcDef.{ProcDef}
use Rattle.stapl_code.specs.Valid.{next_entry, procedure_break, procedures_break, prologue_break, entry_break, first_of, IsValid}
use Rattle.stapl_codegen.specs.Emit.{body_code, firsts_at, presets_code, procedure_def, procedures_from, procedures_of, pieces_code, program_code, start_of}
use Rattle.stapl_codegen.specs.Generated.{lists_of}
use Rattle.stapl_code.proofs.Heads.{drop_tail}
use Rattle.stapl_codegen.proofs.Heads.{drop_front}
use Rattle.stapl_codegen.proofs.Lists.{presets_before, pieces_append}
use Rattle.stapl_codegen.proofs.Ordered.{AreOwn, Part, ArePartsOf, IsOwnOf, statements_in, cut}
use Rattle.stapl_codegen.proofs.Opened.{IsProcedure}
use Rattle.stapl_codegen.proofs.PrologueFine.{prologue_fine}
use Rattle.stapl_codegen.proofs.Ranges.{Each}
use Rattle.stapl_codegen.proofs.Valid as valid

-- a statement that is no PROCEDURE begins none
passes_by : (entry : ℕ) (b : BodyTree) (others : List ProcDef) → begins_procedure b ≡ false → procedure_def entry b others ≡ others
passes_by entry (procedure name uses) others h = absurd cc
passes_by entry _ others h = refl

inner_begins_none : (b : BodyTree) → is_outer b ≡ false → begins_procedure b ≡ false
inner_begins_none (procedure name uses) h = absurd cc
inner_begins_none _ h = refl

none_in : (place : ℕ → ℕ) (j : ℕ) (own back : List StmtTree) → AreOwn own → procedures_from place j (own ++ back) ≡ procedures_from place (j + length own) back
none_in place j [] back are = absurd are
none_in place j (st ∷ []) back are =
    passes_by (place (j + 1)) st.body (procedures_from place (j + 1) back) (inner_begins_none st.body are.0)
none_in place j (st ∷ next ∷ rest) back are =
    let at : j + 1 + suc (length rest) ≡ j + suc (suc (length rest)) = omega arith in
    passes_by (place (j + 1)) st.body (procedures_from place (j + 1) (next ∷ rest ++ back)) (inner_begins_none st.body are.0)
    ∙ none_in place (j + 1) (next ∷ rest) back are.2
    ∙ ap (λ n. procedures_from place n back) at

each_map : {A : Type 0} (P Q : A → Type 0) (xs : List A) → ((x : A) → P x → Q x) → Each P xs → Each Q xs
each_map P Q [] go each = tt
each_map P Q (x ∷ xs) go each = (go x each.0, each_map P Q xs go each.1)

-- each entry is below all later ones
abbrev pub Rising : List ProcDef → Type 0
Rising [] = Unit {0}
Rising (p ∷ ps) = Each (λ (q : ProcDef). p.entry < q.entry) ps × Rising ps

module _ (program : Played) (shaped : All HasShape program.pieces) (typed : IsTyped program) where
  abbrev code : List Instr
  code = program_code program

  abbrev From : ℕ → List StmtTree → List Instr
  From i sts = pieces_code program (start_of program) i sts

  abbrev defs : List VarDef
  defs = valid.defs program shaped typed

  abbrev procedures : ℕ → List StmtTree → List ProcDef
  procedures i sts = procedures_from (start_of program) i sts

  -- a procedure begins among the instructions, and not before these
  abbrev pub BeginsFrom : ℕ → ProcDef → Type 0
  BeginsFrom start p = (start ≤ p.entry) × (p.entry < length code)

  -- the procedures of the last instructions, which begin at this one
  pub record AreFine (start : ℕ) (procedures : List ProcDef) : Type 0 where
    pub next : next_entry (length code) procedures ≡ start
    pub unbroken : procedures_break defs code procedures ≡ None
    pub begin : Each (BeginsFrom start) procedures
    pub rise : Rising procedures

  -- those from a place on
  abbrev pub AreFineFrom : ℕ → List StmtTree → Type 0
  AreFineFrom i sts = AreFine (length code - length (From i sts)) (procedures i sts)

  outer_code : (h : ℕ) (head : StmtTree) (rest : List StmtTree) → is_outer head.body ≡ true → From h (head ∷ rest) ≡ From (h + 1) rest
  outer_code h head rest outer =
      ap (λ b. cond b (From (h + 1) rest) (Turn (h + 1) ∷ body_code (scope_at program h) (start_of program) (firsts_at program h) head.body (From (h + 1) rest))) outer

  -- a statement outside procedures that is no PROCEDURE
  alone : (h : ℕ) (head : StmtTree) (back : List StmtTree) → is_outer head.body ≡ true → begins_procedure head.body ≡ false → AreFineFrom (h + 1) back →
      AreFineFrom h (head ∷ back)
  alone h head back outer none fine =
      subst (λ (c : List Instr). AreFine (length code - length c) (procedures h (head ∷ back))) (sym (outer_code h head back outer))
      (subst (AreFine (length code - length (From (h + 1) back))) (sym (passes_by (start_of program (h + 1)) head.body (procedures (h + 1) back) none)) fine)

  -- a procedure
  begun : (h : ℕ) (head : StmtTree) (name : List ℕ) (uses : Option (List (List ℕ))) (own back : List StmtTree) → head.body ≡ procedure name uses → is_outer head.body ≡ true →
      drop h program.pieces ≡ head ∷ own ++ back → AreOwn own → AreFineFrom (h + 1 + length own) back → AreFineFrom h (head ∷ own ++ back)
  begun h head name uses own back is outer at are fine =
      let is_head : IsProcedure name head.body = subst (IsProcedure name) (sym is) refl in
      let entry : ℕ = start_of program (h + 1) in
      let own_code : List Instr = From (h + 1) own in
      let beyond : ℕ = h + 1 + length own in
      let total : ℕ = length code in
      let p : ProcDef = record { name = name; entry = entry } in
      let list : procedures h (head ∷ own ++ back) ≡ p ∷ procedures beyond back =
      ap (λ b. procedure_def entry b (procedures (h + 1) (own ++ back))) is ∙ ap (λ l. p ∷ l) (none_in (start_of program) (h + 1) own back are) in
      let head_code : From h (head ∷ own ++ back) ≡ From (h + 1) (own ++ back) = outer_code h head (own ++ back) outer in
      let split : From (h + 1) (own ++ back) ≡ own_code ++ From beyond back = pieces_append program (start_of program) (h + 1) own back in
      let entry_is : entry ≡ total - length (From (h + 1) (own ++ back)) = valid.entry_is program shaped typed head name is_head h own back at are in
      let within : length (From (h + 1) (own ++ back)) ≤ total = valid.code_within program shaped typed (h + 1) (own ++ back) (valid.own_at program shaped typed head name is_head h own back at are) in
      let some : 0 < length own_code = valid.code_some program shaped typed head name is_head h own back at are in
      let lengths : length (From (h + 1) (own ++ back)) ≡ length own_code + length (From beyond back) = ap length split ∙ length-append own_code (From beyond back) in
      let after : next_entry total (procedures beyond back) - entry ≡ length own_code = omega (arith, fine.next, entry_is, within, lengths) in
      let slice : slice_range code entry (next_entry total (procedures beyond back)) ≡ own_code =
      ap (λ n. take n (drop entry code)) after
      ∙ ap (take (length own_code)) (valid.code_at program shaped typed head name is_head h own back at are ∙ split)
      ∙ take_at own_code (From beyond back) (length own_code) refl in
      let whole : List ProcDef = p ∷ procedures beyond back in
      let fine_whole : AreFine (total - length (From (h + 1) (own ++ back))) whole = record {
        next = entry_is;
        unbroken = ap (λ c. first_of (procedure_break defs entry c) (procedures_break defs code (procedures beyond back))) slice
            ∙ ap (λ o. first_of o (procedures_break defs code (procedures beyond back))) (valid.procedure_fine program shaped typed head name is_head h own back at are)
            ∙ fine.unbroken;
        begin = (
          (omega (arith, entry_is), omega (arith, entry_is, within, lengths, some)),
          each_map (BeginsFrom (total - length (From beyond back))) (BeginsFrom (total - length (From (h + 1) (own ++ back)))) (procedures beyond back)
              (λ q b. (omega (arith, b.0, lengths), b.1)) fine.begin,
        );
        rise = (
          each_map (BeginsFrom (total - length (From beyond back))) (λ (q : ProcDef). entry < q.entry) (procedures beyond back)
              (λ q b. omega (arith, b.0, entry_is, lengths, within, some)) fine.begin,
          fine.rise,
        );
      } in
      subst (λ (c : List Instr). AreFine (total - length c) (procedures h (head ∷ own ++ back))) (sym head_code)
      (subst (AreFine (total - length (From (h + 1) (own ++ back)))) (sym list) fine_whole)

  parts_fine : (parts : List Part) (h : ℕ) → drop h program.pieces ≡ statements_in parts → ArePartsOf parts → AreFineFrom h (statements_in parts)
  parts_fine [] h at are = record { next = omega arith; unbroken = refl; begin = tt; rise = tt }
  parts_fine (p ∷ ps) h at are = by p.head.body refl (parts_fine ps (h + 1 + length p.own) rest_at are.1)
    where
      own_at : drop (h + 1) program.pieces ≡ p.own ++ statements_in ps
      own_at = rw add-one (drop_tail h program.pieces ∙ ap (drop 1) at)

      rest_at : drop (h + 1 + length p.own) program.pieces ≡ statements_in ps
      rest_at = drop_front (length p.own) (h + 1) program.pieces p.own (statements_in ps) own_at (omega arith) ∙ ap (λ l. l ++ statements_in ps) (drop_all (length p.own) p.own (omega arith))

      by : (b : BodyTree) → p.head.body ≡ b → AreFineFrom (h + 1 + length p.own) (statements_in ps) → AreFineFrom h (p.head ∷ p.own ++ statements_in ps)
      by (procedure name uses) is fine =
          begun h p.head name uses p.own (statements_in ps) is are.0.outer at (subst (λ (b : BodyTree). IsOwnOf (begins_procedure b) p.own) is are.0.own) fine
      by b is fine =
          let none : p.own ≡ [] = subst (λ (b : BodyTree). IsOwnOf (begins_procedure b) p.own) is are.0.own in
          let next : h + 1 + length p.own ≡ h + 1 = omega (arith, ap length none) in
          subst (λ (own : List StmtTree). AreFineFrom h (p.head ∷ own ++ statements_in ps)) (sym none)
          (alone h p.head (statements_in ps) are.0.outer (ap begins_procedure is) (subst (λ (n : ℕ). AreFineFrom n (statements_in ps)) next fine))

  -- the prologue, which ends where the first procedure begins
  abbrev prologue : List Instr
  prologue = presets_code program (start_of program) 0 program.presets []

  prologue_first : code ≡ prologue ++ From 0 program.pieces
  prologue_first = presets_before program (start_of program) 0 program.presets (From 0 program.pieces)

  -- all procedures, after the prologue
  pub procedures_fine : AreFine (length prologue) (procedures_of program)
  procedures_fine =
      let c = cut false program.pieces typed.ordered in
      let is : program.pieces ≡ statements_in c.parts = c.is ∙ ap (λ l. l ++ statements_in c.parts) c.own_is in
      let fine = parts_fine c.parts 0 is c.are in
      let beyond : length code - length (From 0 program.pieces) ≡ length prologue =
      omega (arith, ap length prologue_first, length-append prologue (From 0 program.pieces)) in
      subst (λ (n : ℕ). AreFine n (procedures_of program)) beyond
      (subst (λ (sts : List StmtTree). AreFine (length code - length (From 0 sts)) (procedures 0 sts)) (sym is) fine)

  begin_all : (start : ℕ) (ps : List ProcDef) → Each (BeginsFrom start) ps → list_all (λ (p : ProcDef). nat_lt p.entry (length code)) ps ≡ true
  begin_all start [] each = refl
  begin_all start (p ∷ ps) each =
      and_from (nat_lt p.entry (length code)) (list_all (λ (q : ProcDef). nat_lt q.entry (length code)) ps) (lt-ltb p.entry (length code) each.0.1) (begin_all start ps each.1)

  pub is_valid : IsValid (lists_of program)
  is_valid =
      let fine = procedures_fine in
      let ps = procedures_of program in
      let total = length code in
      let count : length prologue - 0 ≡ length prologue = omega arith in
      let slice : slice_range code 0 (length prologue) ≡ prologue =
      ap (λ n. take n code) count ∙ ap (take (length prologue)) prologue_first ∙ take_at prologue (From 0 program.pieces) (length prologue) refl in
      ap (λ n. first_of (prologue_break defs 0 [] (slice_range code 0 n)) (first_of (procedures_break defs code ps) (entry_break total ps))) fine.next
      ∙ ap (λ c. first_of (prologue_break defs 0 [] c) (first_of (procedures_break defs code ps) (entry_break total ps))) slice
      ∙ ap (λ o. first_of o (first_of (procedures_break defs code ps) (entry_break total ps))) (prologue_fine program (start_of program) 0 program.presets typed.presets 0)
      ∙ ap (λ o. first_of o (entry_break total ps)) fine.unbroken
      ∙ ap (λ b. if b then None else Some (total - 1)) (begin_all (length prologue) ps fine.begin)
