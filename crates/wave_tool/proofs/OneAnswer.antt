-- The words have one answer.
use Rattle.std.proofs.Common.{◌≡◌, ◌<◌, ◌≤◌, ◌⊎◌, inl, inr, ℕ, false, List, length, Option, None, Some, refl, ap, arith}
use Rattle.std.proofs.lemmas.Bool.{cases_lt}
use Rattle.named_files.specs.Texts.{usage_line}
use Rattle.pin_lines.specs.PinLines.{has_bad_line}
use Rattle.pin_lines.specs.FirstFaults.{IsFirstBadLine}
use Rattle.pin_lines.proofs.FirstFaults.{a_bad_line, one_bad_line, not_both_lines}
use Rattle.trace_tool.specs.Texts.{bad_line_text, too_long_line}
use Rattle.wave_tool.specs.Items.{items_in}
use Rattle.wave_tool.specs.Waves.{wave_text}
use Rattle.trace_check.specs.Limits.{trace_limit}
use Rattle.wave_tool.specs.declared.status.WaveStatus.{WaveStatus}
use Rattle.wave_tool.specs.declared.status.WaveStatus.TheVariants.{Written, BadLine, TooLong, Usage}
use Rattle.wave_tool.specs.Words.{IsRequest, IsUsage}
use Rattle.wave_tool.specs.Answers.{WaveAnswer, too_long, bad_line, written, FileAnswer, WordsAnswer, usage, asked}
use Rattle.wave_tool.proofs.WordLemmas.{one_usage, no_usage, request_or_usage}

abbrev AreSame : List ℕ → WaveStatus → List ℕ → WaveStatus → Type 0
AreSame a s b t = (a ≡ b) × (s ≡ t)

one_wave : (text a b : List ℕ) (s t : WaveStatus) → WaveAnswer text a s → WaveAnswer text b t → AreSame a s b t
one_wave text a b s t (too_long x) (too_long y) = (refl, refl)
one_wave text a b s t (too_long x) (bad_line n y f) = absurd (omega (arith, x, y))
one_wave text a b s t (too_long x) (written y g) = absurd (omega (arith, x, y))
one_wave text a b s t (bad_line n x f) (too_long y) = absurd (omega (arith, x, y))
one_wave text a b s t (bad_line n x f) (bad_line m y g) = let e : n ≡ m = one_bad_line text n m f g in (ap bad_line_text e, ap BadLine e)
one_wave text a b s t (bad_line n x f) (written y g) = absurd (not_both_lines text n f g)
one_wave text a b s t (written x g) (too_long y) = absurd (omega (arith, x, y))
one_wave text a b s t (written x g) (bad_line n y f) = absurd (not_both_lines text n f g)
one_wave text a b s t (written x g) (written y h) = (refl, refl)

one_file : (held : Option (List ℕ)) (a b : List ℕ) (s t : WaveStatus) → FileAnswer held a s → FileAnswer held b t → AreSame a s b t
one_file None a b s t x y = absurd x
one_file (Some text) a b s t x y = one_wave text a b s t x y

pub one_words : (held : Option (List ℕ)) (words : List (List ℕ)) (a b : List ℕ) (s t : WaveStatus) → WordsAnswer held words a s → WordsAnswer held words b t → AreSame a s b t
one_words held words a b s t (usage n x) (usage m y) = let e : n ≡ m = one_usage words n m x y in (ap usage_line e, ap Usage e)
one_words held words a b s t (usage n x) (asked path other status2 y z) = absurd (no_usage words path n y x)
one_words held words a b s t (asked path said status x z) (usage m y) = absurd (no_usage words path m x y)
one_words held words a b s t (asked path said status x z) (asked path2 other status2 y w) = one_file held a b s t z w

-- and there is one

abbrev HasAnswer : (List ℕ → WaveStatus → Type 0) → Type 0
HasAnswer A = (said : List ℕ) × (status : WaveStatus) × A said status

every_wave : (text : List ℕ) → HasAnswer (WaveAnswer text)
every_wave text = by_length (cases_lt trace_limit (length text))
  where
    by_lines : length text ≤ trace_limit → (has_bad_line text ≡ false) ⊎ ((n : ℕ) × IsFirstBadLine text n) → HasAnswer (WaveAnswer text)
    by_lines short (inl none) = (wave_text (items_in text), Written, written short none)
    by_lines short (inr first) = (bad_line_text first.0, BadLine first.0, bad_line first.0 short first.1)

    by_length : (trace_limit < length text) ⊎ (length text ≤ trace_limit) → HasAnswer (WaveAnswer text)
    by_length (inl long) = (too_long_line, TooLong, too_long long)
    by_length (inr short) = by_lines short (a_bad_line text)

pub every_words : (bytes : List ℕ) (words : List (List ℕ)) → HasAnswer (WordsAnswer (Some bytes) words)
every_words bytes words = by (request_or_usage words)
  where
    by : ((path : List ℕ) × IsRequest words path) ⊎ ((n : ℕ) × IsUsage words n) → HasAnswer (WordsAnswer (Some bytes) words)
    by (inl asks) = let a = every_wave bytes in (a.0, a.1, asked asks.0 a.0 a.1 asks.1 a.2)
    by (inr other) = (usage_line other.0, Usage other.0, usage other.0 other.1)
