-- The examples of programs that carry their padding.
use Rattle.std.proofs.Common.{◌≡◌, ℕ, zero, suc, ◌<◌, true, false, ◌++◌, refl, arith}
use Rattle.std.specs.Prelude.{codes}
use Rattle.std.specs.Fmt.{digits}
use Rattle.stapl_syntax.specs.Expressions.{level_of}
use Rattle.canonical_text.specs.PrintedTokens.{operator_spelling, mark_spelling, outer_spelling, inner_spelling, simple_spelling, port_spelling}
use Rattle.canonical_text.specs.PrintedTokens.{join_spelling, function_spelling, sign_spelling}
use Rattle.canonical_text.specs.Spacing.{leans_back, leans_on, is_function, is_left_round}
use Rattle.canonical_text.specs.PrintedStatements.{choice_tokens}
use Rattle.canonical_text.specs.CanonicalText.{lines}
use Rattle.carried_plays.specs.CarriedPrograms.{carried_program}
use Rattle.carried_plays.specs.CarriedTexts.{carried_text}
use Rattle.carried_plays.specs.Examples.{scanning_program, middle_base, named_program, padding_program}
use Rattle.carried_plays.specs.OwnPaddings.{sets_padding_at, IsFirstPadding}
use Rattle.carried_plays.specs.PadNames.{pad_name, has_block, IsPadNumber}

pub scanning_text : carried_text 0 middle_base scanning_program
    ≡ codes "ACTION A = CHAIN_PAD_0, P;\nPROCEDURE P;\nBOOLEAN X[8];\nIRSCAN 4, $2;\nDRSCAN 8, $A5;\n"
    ++ codes "DRSCAN 8, $3C, CAPTURE X[];\nEXPORT \"X\", X[];\nENDPROC;\nPROCEDURE CHAIN_PAD_0;\nPREIR 2;\n"
    ++ codes "POSTIR 5;\nPREDR 1;\nPOSTDR 1;\nENDPROC;\n"
unfolding operator_spelling mark_spelling outer_spelling inner_spelling simple_spelling port_spelling join_spelling function_spelling sign_spelling
    leans_back leans_on is_function is_left_round level_of digits choice_tokens
scanning_text = refl

pub named_lines : lines (carried_program (pad_name 1) middle_base named_program)
    ≡ codes "ACTION A \"t\" = CHAIN_PAD_1, CHAIN_PAD_0 OPTIONAL;\nACTION B = CHAIN_PAD_1, CHAIN_PAD_0;\n"
    ++ codes "PROCEDURE CHAIN_PAD_0;\nENDPROC;\nDATA CHAIN_PAD_2;\nENDDATA;\nPROCEDURE CHAIN_PAD_1;\nPREIR 2;\n"
    ++ codes "POSTIR 5;\nPREDR 1;\nPOSTDR 1;\nENDPROC;\nCRC 1234;\n"
unfolding operator_spelling mark_spelling outer_spelling inner_spelling simple_spelling port_spelling join_spelling function_spelling sign_spelling
    leans_back leans_on is_function is_left_round level_of digits choice_tokens
named_lines = refl

taken : (m : ℕ) → m < 1 → has_block named_program (pad_name m) ≡ true
unfolding digits
taken zero lt = refl
taken (suc m) lt = absurd (omega (arith, lt))

free : has_block named_program (pad_name 1) ≡ false
unfolding digits
free = refl

pub named_number : IsPadNumber named_program 1
named_number = record { free = free; least = taken }

none_before : (i : ℕ) → i < 3 → sets_padding_at padding_program i ≡ false
none_before zero lt = refl
none_before (suc zero) lt = refl
none_before (suc (suc zero)) lt = refl
none_before (suc (suc (suc i))) lt = absurd (omega (arith, lt))

pub padding_inside : IsFirstPadding padding_program 4
padding_inside = record { counted = omega arith; sets = refl; least = none_before }
