-- What the tool answers: a text and a status, by the words and the contents of the file that they name. It is defined
-- where that file is held.
use Rattle.std.specs.Prelude.{◌≡◌, ◌<◌, ◌≤◌, ℕ, false, List, length, Option, IsSomeAnd}
use Rattle.named_files.specs.Texts.{usage_line}
use Rattle.pin_lines.specs.PinLines.{has_bad_line}
use Rattle.pin_lines.specs.FirstFaults.{IsFirstBadLine}
use Rattle.trace_tool.specs.Texts.{bad_line_text, too_long_line}
use Rattle.wave_tool.specs.Items.{items_in}
use Rattle.wave_tool.specs.Waves.{wave_text}
use Rattle.trace_check.specs.Limits.{trace_limit}
use Rattle.wave_tool.specs.declared.status.WaveStatus.{WaveStatus}
use Rattle.wave_tool.specs.declared.status.WaveStatus.TheVariants.{Written, BadLine, TooLong, Usage}
use Rattle.wave_tool.specs.Words.{IsRequest, IsUsage}

-- What is written of the text of a trace, and the status: it is too long, or it has a first bad line, or its clocks and
-- waits are written as a wave.
pub data WaveAnswer (text : List ℕ) : List ℕ → WaveStatus → Type 0 where
  too_long : trace_limit < length text → WaveAnswer text too_long_line TooLong
  bad_line : (n : ℕ) → length text ≤ trace_limit → IsFirstBadLine text n → WaveAnswer text (bad_line_text n) (BadLine n)
  written : length text ≤ trace_limit → has_bad_line text ≡ false → WaveAnswer text (wave_text (items_in text)) Written

-- The same for a file, where it is held.
abbrev pub FileAnswer : Option (List ℕ) → List ℕ → WaveStatus → Type 0
FileAnswer held said status = IsSomeAnd held (λ text. WaveAnswer text said status)

-- The answer to the words, if the file that they name holds this: they are refused, or their file is answered.
pub data WordsAnswer (held : Option (List ℕ)) (words : List (List ℕ)) : List ℕ → WaveStatus → Type 0 where
  usage : (n : ℕ) → IsUsage words n → WordsAnswer held words (usage_line n) (Usage n)
  asked : (path said : List ℕ) (status : WaveStatus) → IsRequest words path → FileAnswer held said status →
      WordsAnswer held words said status
