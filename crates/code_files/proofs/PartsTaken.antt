-- The parts of an instruction that are read are spelled by the bytes that were read.
use Rattle.std.proofs.Common.{◌≡◌, ◌<◌, ◌^◌, ℕ, Fits, Bool, List, [], ◌∷◌, ◌++◌, Option, Some, None, refl, sym, ap, ◌∙◌, append_assoc}
use Rattle.std.specs.Int.{w32, cast_signed, cast_unsigned}
use Rattle.std.specs.Int.RustNames.{FitsSigned}
use Rattle.std.proofs.Math.Facts.{sfits_to_z}
use Rattle.std.proofs.lemmas.Int.{of_z-to_z}
use Rattle.std.proofs.lemmas.List.{append-nil}
use Rattle.stapl_code.specs.Ranges.{IsPart, IsSource, IsExport, IsDest, IsGiven, IsCell, IsCompare, IsScan}
use Rattle.stapl_code.specs.Fields.{number, integer}
use Rattle.stapl_code.specs.Instrs.{source, dest, cell, part, export_part, register_number, padding_number, kind_number, wait_number, flag_number, if_given, given, compare, scan, state}
use Rattle.code_files.specs.Reading.{number_in, any_end}
use Rattle.code_files.specs.ReadInstrs.{register_at, padding_at, kind_at, wait_at, flag_at, state_at, integer_at, given_at, part_at, source_at, dest_at, cell_at, export_part_at, compare_at, scan_parts_at, scan_at}
use Rattle.code_files.proofs.FieldsTaken.{Takes, IsFrom, number_takes, nothing_takes, made_takes_if, made_takes, followed_takes, numbers_take, tagged_takes}
use Rattle.stapl_lexer.specs.declared.terminal.Register.{Register}
use Rattle.stapl_lexer.specs.declared.terminal.Padding.{Padding}
use Rattle.stapl_meaning.specs.declared.values.ValueKind.{ValueKind}
use Rattle.stapl_meaning.specs.declared.waits.WaitKind.{WaitKind}
use Rattle.stapl_code.specs.declared.instr.PrintPart.TheVariants as parts
use Rattle.stapl_code.specs.declared.instr.ExportPart.TheVariants as exports
use Rattle.stapl_code.specs.declared.instr.Source.{Source}
use Rattle.stapl_code.specs.declared.instr.Source.TheVariants as sources
use Rattle.stapl_code.specs.declared.instr.Dest.TheVariants as dests
use Rattle.stapl_code.specs.declared.instr.Cell.TheVariants as cells

-- nothing more is said of what was read
abbrev pub Any : {A : Type 0} → A → Type 0
Any x = Unit {0}

abbrev pub register : Register → List ℕ
register r = register_number r ∷ []

abbrev pub which_padding : Padding → List ℕ
which_padding p = padding_number p ∷ []

abbrev pub kind : ValueKind → List ℕ
kind k = kind_number k ∷ []

abbrev pub waits : WaitKind → List ℕ
waits w = wait_number w ∷ []

abbrev pub flag : Bool → List ℕ
flag b = flag_number b ∷ []

pub register_takes : Takes [] register_at register Any
register_takes = tagged_takes [] 0 _ register Any (nothing_takes _ _ _ _ refl tt, (nothing_takes _ _ _ _ refl tt, tt))

pub padding_takes : Takes [] padding_at which_padding Any
padding_takes = tagged_takes [] 0 _ which_padding Any
    (nothing_takes _ _ _ _ refl tt, (nothing_takes _ _ _ _ refl tt, (nothing_takes _ _ _ _ refl tt, (nothing_takes _ _ _ _ refl tt, tt))))

pub kind_takes : Takes [] kind_at kind Any
kind_takes = tagged_takes [] 0 _ kind Any (nothing_takes _ _ _ _ refl tt, (nothing_takes _ _ _ _ refl tt, tt))

pub wait_takes : Takes [] wait_at waits Any
wait_takes = tagged_takes [] 1 _ waits Any (nothing_takes _ _ _ _ refl tt, (nothing_takes _ _ _ _ refl tt, (nothing_takes _ _ _ _ refl tt, tt)))

pub flag_takes : Takes [] flag_at flag Any
flag_takes = tagged_takes [] 0 _ flag Any (nothing_takes _ _ _ _ refl tt, (nothing_takes _ _ _ _ refl tt, tt))

pub state_takes : Takes [] state_at state Any
state_takes = tagged_takes [] 0 _ state Any (
  nothing_takes _ _ _ _ refl tt,
  (
    nothing_takes _ _ _ _ refl tt,
    (
      nothing_takes _ _ _ _ refl tt,
      (
        nothing_takes _ _ _ _ refl tt,
        (
          nothing_takes _ _ _ _ refl tt,
          (
            nothing_takes _ _ _ _ refl tt,
            (
              nothing_takes _ _ _ _ refl tt,
              (
                nothing_takes _ _ _ _ refl tt,
                (
                  nothing_takes _ _ _ _ refl tt,
                  (
                    nothing_takes _ _ _ _ refl tt,
                    (
                      nothing_takes _ _ _ _ refl tt,
                      (
                        nothing_takes _ _ _ _ refl tt,
                        (nothing_takes _ _ _ _ refl tt, (nothing_takes _ _ _ _ refl tt, (nothing_takes _ _ _ _ refl tt, (nothing_takes _ _ _ _ refl tt, tt)))),
                      ),
                    ),
                  ),
                ),
              ),
            ),
          ),
        ),
      ),
    ),
  ),
)

integer_is : (n : ℕ) → n < 2 ^ 32 → cast_unsigned w32 (cast_signed w32 n) ≡ n
integer_is n h = of_z-to_z w32 n h

fits_word : (n : ℕ) → n < 2 ^ 32 → Fits w32 n
fits_word n h = record { fits = h }

pub integer_takes : Takes [] integer_at integer (FitsSigned w32)
integer_takes = made_takes_if [] (cast_signed w32) (number_in 0 any_end) number (IsFrom 0 any_end) integer (FitsSigned w32) (number_takes 0 any_end)
    (λ n h. ap number (integer_is n h.1)) (λ n h. sfits_to_z (fits_word n h.1))

pub part_takes : (texts : ℕ) → Takes [] (part_at texts) part (IsPart texts)
part_takes texts = tagged_takes [] 0 _ part (IsPart texts) (
  numbers_take _ 0 texts parts.Text part (IsPart texts) (λ n. refl) (λ n h. h.1),
  (nothing_takes _ _ _ _ refl tt, (nothing_takes _ _ _ _ refl tt, (nothing_takes _ _ _ _ refl tt, tt))),
)

module _ (v : ℕ) where
  pub dest_takes : Takes [] (dest_at v) dest (IsDest v)
  dest_takes = tagged_takes [] 1 _ dest (IsDest v) (
    numbers_take _ 0 v dests.Whole dest (IsDest v) (λ n. refl) (λ n h. h.1),
    (numbers_take _ 0 v dests.Range dest (IsDest v) (λ n. refl) (λ n h. h.1), tt),
  )

  cell_takes : Takes [] (cell_at v) cell (IsCell v)
  cell_takes = tagged_takes [] 0 _ cell (IsCell v) (
    numbers_take _ 0 v cells.Scalar cell (IsCell v) (λ n. refl) (λ n h. h.1),
    (numbers_take _ 0 v cells.Element cell (IsCell v) (λ n. refl) (λ n h. h.1), tt),
  )

module _ (v l : ℕ) where
  pub source_takes : Takes [] (source_at v l) source (IsSource v l)
  source_takes = tagged_takes [] 0 _ source (IsSource v l) (
    numbers_take _ 0 l sources.Literal source (IsSource v l) (λ n. refl) (λ n h. h.1),
    (
      numbers_take _ 0 v sources.Whole source (IsSource v l) (λ n. refl) (λ n h. h.1),
      (numbers_take _ 0 v sources.Range source (IsSource v l) (λ n. refl) (λ n h. h.1), (nothing_takes _ _ _ _ refl tt, tt)),
    ),
  )

  pub export_takes : Takes [] (export_part_at v l) export_part (IsExport v l)
  export_takes = tagged_takes [] 0 _ export_part (IsExport v l) (
    nothing_takes _ _ _ _ refl tt,
    (
      nothing_takes _ _ _ _ refl tt,
      (made_takes _ exports.Array (source_at v l) source (IsSource v l) export_part (IsExport v l) source_takes (λ s. refl) (λ s h. h), tt),
    ),
  )

  -- a source that may be left out, after these bytes
  abbrev pub given_source : Option Source → List ℕ
  given_source s = if_given 1 s ∷ given source s

  pub given_takes : Takes [] (given_at (source_at v l)) given_source (IsGiven (IsSource v l))
  given_takes = tagged_takes [] 0 _ given_source (IsGiven (IsSource v l)) (
    nothing_takes _ _ _ _ refl tt,
    (made_takes _ Some (source_at v l) source (IsSource v l) given_source (IsGiven (IsSource v l)) source_takes (λ s. refl) (λ s h. h), tt),
  )

  compare_takes : Takes [] (compare_at v l) compare (IsCompare v l)
  compare_takes =
      followed_takes [] (source_at v l) _ source (IsSource v l) compare (IsCompare v l) source_takes (λ expected e.
      followed_takes ([] ++ source expected) (source_at v l) _ source (IsSource v l) compare (IsCompare v l) source_takes (λ mask m.
      made_takes (([] ++ source expected) ++ source mask) (λ x. record { expected = expected; mask = mask; cell = x }) (cell_at v) cell (IsCell v) compare (IsCompare v l)
      (cell_takes v) (λ x. refl) (λ x h. record { expected = e; mask = m; cell = h })))

  -- what stands in front of a scan's parts
  module _ (r : Register) (s : Source) (is : IsSource v l s) where
    abbrev front : List ℕ
    front = (([] ++ register r) ++ source s)

    of_target : (n : ℕ) (a b : List ℕ) → (front ++ (n ∷ a)) ++ b ≡ ((front ++ n ∷ []) ++ a) ++ b
    of_target n a b = ap (λ (z : List ℕ). z ++ b) (sym (append_assoc front (n ∷ []) a))

    scan_parts_take : Takes front (scan_parts_at v l r s) scan (IsScan v l)
    scan_parts_take = tagged_takes front 0 _ scan (IsScan v l) (
      nothing_takes _ _ _ _ (append-nil (front ++ 0 ∷ [])) (record { source = is; target = tt; compare = tt }),
      (
        made_takes _ (λ target. record { register = r; source = s; target = Some target; compare = None }) (dest_at v) dest (IsDest v) scan (IsScan v l) (dest_takes v)
            (λ d. append-nil (front ++ (1 ∷ dest d)) ∙ sym (append_assoc front (1 ∷ []) (dest d))) (λ d h. record { source = is; target = h; compare = tt }),
        (
          made_takes _ (λ compare. record { register = r; source = s; target = None; compare = Some compare }) (compare_at v l) compare (IsCompare v l) scan (IsScan v l) compare_takes
              (λ c. refl) (λ c h. record { source = is; target = tt; compare = h }),
          (
            followed_takes _ (dest_at v) _ dest (IsDest v) scan (IsScan v l) (dest_takes v) (λ d dh.
                made_takes _ (λ compare. record { register = r; source = s; target = Some d; compare = Some compare }) (compare_at v l) compare (IsCompare v l) scan (IsScan v l) compare_takes
                (λ c. of_target 3 (dest d) (compare c)) (λ c h. record { source = is; target = dh; compare = h })),
            tt,
          ),
        ),
      ),
    )

  pub scan_takes : Takes [] (scan_at v l) scan (IsScan v l)
  scan_takes =
      followed_takes [] register_at _ register Any scan (IsScan v l) register_takes (λ r _.
      followed_takes ([] ++ register r) (source_at v l) _ source (IsSource v l) scan (IsScan v l) source_takes (λ s is. scan_parts_take r s is))
