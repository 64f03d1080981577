-- The canonical texts of the examples.
use Rattle.std.proofs.Common.{◌≡◌, ◌++◌, refl}
use Rattle.std.specs.Prelude.{codes}
use Rattle.std.specs.Fmt.{digits}
use Rattle.stapl_syntax.specs.Expressions.{level_of}
use Rattle.canonical_text.specs.PrintedTokens.{operator_spelling, mark_spelling, outer_spelling, inner_spelling, simple_spelling, port_spelling}
use Rattle.canonical_text.specs.PrintedTokens.{join_spelling, function_spelling, sign_spelling}
use Rattle.canonical_text.specs.Spacing.{leans_back, leans_on, is_function, is_left_round}
use Rattle.canonical_text.specs.PrintedStatements.{choice_tokens}
use Rattle.canonical_text.specs.CanonicalText.{canonical_text}
use Rattle.canonical_text.specs.Examples.{first_example, second_example, third_example}

pub first_row : canonical_text first_example ≡ codes "ACTION A = P;\nPROCEDURE P;\nPRINT \"x\", CHR$(65), (1 + 2) * 3, -4;\nENDPROC;\n"
unfolding operator_spelling mark_spelling outer_spelling inner_spelling simple_spelling port_spelling join_spelling function_spelling sign_spelling
    leans_back leans_on is_function is_left_round level_of digits choice_tokens
first_row = refl

pub second_row : canonical_text second_example ≡ codes "BOOLEAN X[4] = $A;\nFREQUENCY 1000000 HZ;\n"
unfolding operator_spelling mark_spelling outer_spelling inner_spelling simple_spelling port_spelling join_spelling function_spelling sign_spelling
    leans_back leans_on is_function is_left_round level_of digits choice_tokens
second_row = refl

pub third_row : canonical_text third_example ≡ codes "L: IF !OK && I == --4 THEN IF 1 THEN GOTO BAD;\n"
    ++ codes "DRSCAN 8, #11100, CAPTURE X[7 - (1 - 2)..0], COMPARE E[], BOOL(2147483648), R[3];\n"
    ++ codes "INTEGER N[3] = -5, -2147483648, 7;\nWAIT IDLE, 3 CYCLES, 10 USEC, IRPAUSE;\n"
    ++ codes "STATE RESET, IDLE;\nFOR I = 3 TO 1 STEP -1;\nACTION A \"t\" = P OPTIONAL, Q;\n"
unfolding operator_spelling mark_spelling outer_spelling inner_spelling simple_spelling port_spelling join_spelling function_spelling sign_spelling
    leans_back leans_on is_function is_left_round level_of digits choice_tokens
third_row = refl
