-- On the answer for a trace that is too long, whose bytes a store tells or not.
use Rattle.std.proofs.Common.{◌<◌, ℕ, List, length, Option, None, Some, IsSomeAnd}
use Rattle.trace_tool.specs.Texts.{too_long_line}
use Rattle.trace_check.specs.Limits.{trace_limit}
use Rattle.wave_tool.specs.declared.status.WaveStatus.TheVariants.{TooLong}
use Rattle.wave_tool.specs.Answers.{too_long, FileAnswer}

pub long_answer : (held : Option (List ℕ)) → IsSomeAnd held (λ bytes. trace_limit < length bytes) → FileAnswer held too_long_line TooLong
long_answer None long = absurd long
long_answer (Some bytes) long = too_long long
