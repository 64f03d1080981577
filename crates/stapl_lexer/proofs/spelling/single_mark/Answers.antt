use Rattle.std.proofs.Common.{sym, arith}
use Rattle.stapl_lexer.proofs.SpellingLemmas.{no_single_mark}
use Rattle.stapl_lexer.proofs.spelling.single_mark.Goals as goal

pub returns-in_default : goal.returns-in_default
returns-in_default c =
    let o = c.in_default in
    sym (no_single_mark c.args.byte (
      omega arith,
      (
        omega arith,
        (
          omega arith,
          (
            omega arith,
            (
              omega arith,
              (
                omega arith,
                (
                  omega arith,
                  (
                    omega arith,
                    (
                      omega arith,
                      (omega arith, (omega arith, (omega arith, (omega arith, (omega arith, (omega arith, (omega arith, (omega arith, (omega arith, (omega arith, tt)))))))))),
                    ),
                  ),
                ),
              ),
            ),
          ),
        ),
      ),
    ))
