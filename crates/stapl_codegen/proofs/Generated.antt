-- The lists of the code of an accepted program are in their ranges and valid, and stand for it.
use Rattle.std.proofs.Common.{◌≡◌, ◌≢◌, ℕ, ◌+◌, ◌<◌, ◌≤◌, Bool, true, false, cond, List, [], ◌∷◌, ◌++◌, length, length-append, map, drop, arith, refl, ap, ◌∙◌, add-one}
use Rattle.std.specs.Prelude.{All, IfSome, Some, None, Option, nat_abs, slice_get}
use Rattle.std.specs.Option.{option_map}
use Rattle.std.proofs.lemmas.Option.{slice_get-map}
use Rattle.stapl_syntax.specs.declared.names.Declaration.{Declaration}
use Rattle.stapl_syntax.specs.Names.{declaration}
use Rattle.stapl_syntax.specs.Trees.{BodyTree, call, if_then, StmtTree}
use Rattle.stapl_syntax.specs.Statements.{is_outer}
use Rattle.stapl_syntax.specs.Programs.{piece_limit}
use Rattle.stapl_meaning.specs.Scopes.{Played, scope_at}
use Rattle.stapl_meaning.specs.Typed.{IsDeclared, NamesProcedures, IsTyped}
use Rattle.stapl_code.specs.declared.instr.Instr.TheVariants.{Turn}
use Rattle.stapl_code.specs.declared.raw.ProcDef.{ProcDef}
use Rattle.stapl_code.specs.declared.raw.VarDef.{VarDef}
use Rattle.stapl_code.specs.declared.instr.Instr.{Instr}
use Rattle.stapl_code.specs.Ranges.{AreProcedures, IsInstr, IsInRange}
use Rattle.stapl_codegen.specs.Emit.{body_code, firsts_at, literals_of, texts_of, presets_code, pieces_code, program_code, start_of, procedures_of}
use Rattle.stapl_codegen.specs.Accepted.{IsAccepted}
use Rattle.stapl_codegen.specs.Generated.{lists_of, IsCodeOf}
use Rattle.stapl_code.proofs.Heads.{head_of, get_head, drop_tail}
use Rattle.stapl_codegen.proofs.Accepted.{all_start}
use Rattle.stapl_codegen.proofs.Texts.{texts_below, literals_below}
use Rattle.stapl_codegen.proofs.Lists.{presets_before}
use Rattle.stapl_codegen.proofs.PrologueFine.{presets_range}
use Rattle.stapl_codegen.proofs.Ordered.{closed}
use Rattle.stapl_codegen.proofs.Ranges.{Each, each_all, InRange, CallsThere, body_range, variables_are, agrees_from}
use Rattle.stapl_shapes.specs.Shapes.{HasShape}
use Rattle.stapl_meaning.proofs.Resolved.{inner_has_shape}
use Rattle.stapl_meaning.proofs.Entries.{all_at}
use Rattle.stapl_meaning.specs.Scopes.{block_at}
use Rattle.stapl_codegen.specs.Generated.{kind_number, variable_def}
use Rattle.stapl_codegen.proofs.Sizes.{code_length}
use Rattle.stapl_codegen.proofs.Runs.{stands}
use Rattle.stapl_codegen.proofs.Whole.{AreFine, procedures_fine}
use Rattle.stapl_codegen.proofs.Defined.{count_same, procedures_are, actions_are}

-- each instruction of the pieces from a place on is in its range
module _ (program : Played) (shaped : All HasShape program.pieces) (typed : IsTyped program) where
  abbrev defs : List VarDef
  defs = map variable_def program.names.variables

  pieces_range : (sts : List StmtTree) (i : ℕ) → drop i program.pieces ≡ sts → i + length sts ≤ piece_limit →
      InRange defs (length (literals_of program)) (length (texts_of program)) (length (procedures_of program)) (pieces_code program (start_of program) i sts)
  pieces_range [] i e few = tt
  pieces_range (st ∷ rest) i e few =
      by (is_outer st.body) refl (pieces_range rest (i + 1) (rw add-one (drop_tail i program.pieces ∙ ap (drop 1) e)) (omega (arith, few)))
    where
      defined : (block : List ℕ) (o : Option Declaration) → IfSome o (IsDeclared program (scope_at program i).look (1 + i) block) →
          IfSome o (λ (d : Declaration). slice_get defs ((scope_at program i).look.variable d.name) ≡ Some (record { kind = kind_number d.kind; size = nat_abs d.size }))
      defined block None is = tt
      defined block (Some d) is =
          slice_get-map variable_def program.names.variables ((scope_at program i).look.variable d.name) ∙ ap (option_map variable_def) is.entry

      calls_there : (b : BodyTree) → NamesProcedures program b → CallsThere defs (length (literals_of program)) (length (texts_of program)) (length (procedures_of program)) (scope_at program i)
          (agrees_from program.names (block_at program.pieces i)) (start_of program) b
      calls_there (call name) is = omega (arith, is, count_same (start_of program) 0 program.pieces)
      calls_there (if_then c b) is = calls_there b is
      calls_there _ is = tt

      after : List Instr
      after = pieces_code program (start_of program) (i + 1) rest

      by : (b : Bool) → is_outer st.body ≡ b → InRange defs (length (literals_of program)) (length (texts_of program)) (length (procedures_of program)) after →
          InRange defs (length (literals_of program)) (length (texts_of program)) (length (procedures_of program))
          (cond b after (Turn (i + 1) ∷ body_code (scope_at program i) (start_of program) (firsts_at program i) st.body after))
      by true outer more = more
      by false inner more =
          let at = get_head i program.pieces ∙ ap head_of e in
          let t = typed.statements i st at inner in (
            (omega arith, omega (arith, few)),
            body_range defs (length (literals_of program)) (length (texts_of program)) (length (procedures_of program)) (scope_at program i)
                (agrees_from program.names (block_at program.pieces i)) (start_of program) (firsts_at program i) st.body after
                (inner_has_shape st (all_at HasShape program.pieces i st shaped at) inner) t.suits (defined t.block (declaration st.body) t.declares) t.few_values
                (record {
                  few_texts = texts_below i program st rest e;
                  few_literals = literals_below i program st rest e;
                  calls = calls_there st.body (all_at (λ (s : StmtTree). NamesProcedures program s.body) program.pieces i st typed.items at);
                }) more,
          )

-- there is a procedure, which begins at an instruction
begins_somewhere : (total start : ℕ) (ps : List ProcDef) → 1 ≤ length ps → Each (λ (p : ProcDef). (start ≤ p.entry) × (p.entry < total)) ps → start < total
begins_somewhere total start [] some each = absurd (omega (arith, some))
begins_somewhere total start (p ∷ ps) some each = let from = each.0.0 in let below = each.0.1 in omega (arith, from, below)

not_empty : {A : Type 0} (xs : List A) → 0 < length xs → xs ≢ []
not_empty [] below e = absurd (omega (arith, below))
not_empty (x ∷ xs) below e = absurd cc

module _ (program : Played) (accepted : IsAccepted program) where
  abbrev variables : List VarDef
  variables = map variable_def program.names.variables

  size : length (program_code program) ≤ 8488608
  size = code_length program (start_of program) accepted

  fine : AreFine program accepted.shaped accepted.typed (length (presets_code program (start_of program) 0 program.presets [])) (procedures_of program)
  fine = procedures_fine program accepted.shaped accepted.typed

  procedures : AreProcedures (procedures_of program)
  procedures = procedures_are program accepted.typed accepted.named fine.rise

  -- the first procedure begins after the prologue, so the pieces have code
  code_some : pieces_code program (start_of program) 0 program.pieces ≢ []
  code_some =
      let prologue : List Instr = presets_code program (start_of program) 0 program.presets [] in
      let pieces : List Instr = pieces_code program (start_of program) 0 program.pieces in
      let all : length (program_code program) ≡ length (prologue ++ pieces) = ap length (presets_before program (start_of program) 0 program.presets pieces) in
      let below = begins_somewhere (length (program_code program)) (length prologue) (procedures_of program) procedures.some fine.begin in
      not_empty pieces (omega (arith, below, all, length-append prologue pieces))

  instrs_range : InRange variables (length (literals_of program)) (length (texts_of program)) (length (procedures_of program)) (program_code program)
  instrs_range =
      let limit = accepted.typed.few in
      presets_range program (start_of program) (length (literals_of program)) (length (texts_of program)) (length (procedures_of program)) 0 program.presets
      (pieces_code program (start_of program) 0 program.pieces) refl (omega arith) accepted.typed.presets accepted.presets_shaped
      (pieces_range program accepted.shaped accepted.typed program.pieces 0 refl (omega (arith, limit)))

  pub in_range : IsInRange (lists_of program)
  in_range =
      record {
        variables = variables_are program.names.variables accepted.typed.sized;
        literals = accepted.literals;
        texts = accepted.texts;
        procedures = procedures;
        actions = actions_are program accepted.typed accepted.named;
        instrs = each_all (IsInstr variables (length (literals_of program)) (length (texts_of program)) (length (procedures_of program))) (program_code program) instrs_range;
        countable = omega (arith, size);
      }

  pub code : IsCodeOf program (lists_of program)
  code = record {
    lists = refl;
    stands = stands program (closed false program.pieces accepted.typed.ordered) (omega (arith, size)) (all_start program accepted.typed) code_some;
  }
