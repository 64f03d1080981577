-- The words of the program: those that follow the word `play` in a play by the tool, without two of them. The rules are
-- this tool's own.
use Rattle.std.specs.Prelude.{ℕ, ◌+◌, ◌||◌, Bool, List, [], ◌∷◌, map, codes, Option, if◌then◌else◌}
use Rattle.std.specs.Str.{bytes_eq}
use Rattle.play_words.specs.declared.requests.FilePlay.{FilePlay}
use Rattle.play_words.specs.declared.requests.Request.TheVariants as requests
use Rattle.play_words.specs.declared.words.WordsRefused.{WordsRefused}
use Rattle.play_words.specs.declared.words.WordsRefused.TheVariants as refusals
use Rattle.play_words.specs.Words.{IsRequest, IsUsage}
use Rattle.play_tool.specs.ReadContents.{ArePlayFiles, IsPlayFile}

-- the words of a play by the tool
abbrev pub play_words : List (List ℕ) → List (List ℕ)
play_words words = codes "play" ∷ words

-- the word asks for the clocks of a play, or for its report
abbrev pub asks_more : List ℕ → Bool
asks_more word = bytes_eq word (codes "pins=yes") || bytes_eq word (codes "report=yes")

-- the word, or an empty one in place of a word that asks for more: an empty word is none of a play
abbrev pub plain_word : List ℕ → List ℕ
plain_word word = if asks_more word then [] else word

-- the words that are read in place of these
abbrev pub plain_words : List (List ℕ) → List (List ℕ)
plain_words words = play_words (map plain_word words)

-- the words ask for this play
abbrev pub AskFor : List (List ℕ) → FilePlay → Type 0
AskFor words play = IsRequest (plain_words words) (requests.Play play)

-- The first word, counted from 1, that is not read as a word of a play or asks for more; or the number of words plus 1
-- if one is missing: one less than in the words of the play.
abbrev pub HasUsage : List (List ℕ) → ℕ → Type 0
HasUsage words n = IsUsage (plain_words words) (n + 1)

-- why they are refused; want of memory needs no cause
abbrev pub AreRefused : List (List ℕ) → WordsRefused → Type 0
AreRefused words (refusals.Usage n) = HasUsage words n
AreRefused words refusals.Memory = Unit {0}

-- The files of the play that the words ask for: the board, and the program.
pub record NamesFiles (words : List (List ℕ)) (named : List (Option (List ℕ))) : Type 0 where
  pub play : FilePlay
  pub asked : AskFor words play
  pub are : ArePlayFiles play named

-- A file that the words name and that is read.
pub record IsReachedBy (told : Option (List (List ℕ × List ℕ))) (words : List (List ℕ)) (path : List ℕ) : Type 0 where
  pub play : FilePlay
  pub asked : AskFor words play
  pub reached : IsPlayFile told play path
