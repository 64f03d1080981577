-- The words of the program: those that follow the word `play` in a play by the tool, of which the action may be missing.
-- The rules are this tool's own.
use Rattle.std.specs.Prelude.{ℕ, ◌+◌, List, ◌∷◌, codes, Option}
use Rattle.play_words.specs.declared.requests.FilePlay.{FilePlay}
use Rattle.play_words.specs.declared.requests.Request.TheVariants as requests
use Rattle.play_words.specs.declared.words.WordsRefused.{WordsRefused}
use Rattle.play_words.specs.declared.words.WordsRefused.TheVariants as refusals
use Rattle.play_words.specs.Words.{IsRequest, IsUsage}
use Rattle.play_tool.specs.ReadContents.{ArePlayFiles, IsPlayFile}
use Rattle.quiet_tool.specs.declared.words.Actions.{Actions}
use Rattle.quiet_tool.specs.declared.words.Actions.TheVariants.{Named, Each}
use Rattle.quiet_tool.specs.declared.words.Question.{Question}

-- the words of the play that they ask about
abbrev pub play_words : List (List ℕ) → List (List ℕ)
play_words words = codes "play" ∷ words

-- and the same with an action named before them
abbrev pub named_words : List (List ℕ) → List (List ℕ)
named_words words = codes "play" ∷ codes "action=A" ∷ words

-- the words ask about this play
abbrev pub AskAbout : List (List ℕ) → FilePlay → Type 0
AskAbout words play = IsRequest (play_words words) (requests.Play play)

-- The first word, counted from 1, that is not read as a word of one play, or the number of words plus 1 if one is
-- missing: one less than in the words of the play.
abbrev pub AreNoPlay : List (List ℕ) → ℕ → Type 0
AreNoPlay words n = IsUsage (play_words words) (n + 1)

-- The words ask about a play of each action: they are not those of one play, and with an action named before them they
-- are. What they ask of each play is what they ask then, but for the action.
pub record AskAboutEach (words : List (List ℕ)) (play : FilePlay) : Type 0 where
  pub refused_at : ℕ
  pub no_play : AreNoPlay words refused_at
  pub with_action : IsRequest (named_words words) (requests.Play play)

-- the words ask about this play of the action that they name, or of each action
abbrev pub AskFor : List (List ℕ) → Actions → FilePlay → Type 0
AskFor words Named play = AskAbout words play
AskFor words Each play = AskAboutEach words play

abbrev pub Ask : List (List ℕ) → Question → Type 0
Ask words question = AskFor words question.actions question.play

-- The words are refused at this one: it is the one at which they are no play, and they are no question about each
-- action.
pub record HasUsage (words : List (List ℕ)) (n : ℕ) : Type 0 where
  pub no_play : AreNoPlay words n
  pub not_each : (play : FilePlay) → IsRequest (named_words words) (requests.Play play) → ⊥

-- why they are refused; want of memory needs no cause
abbrev pub AreRefused : List (List ℕ) → WordsRefused → Type 0
AreRefused words (refusals.Usage n) = HasUsage words n
AreRefused words refusals.Memory = Unit {0}

-- The files of the question that the words are: the board, and the program.
pub record NamesFiles (words : List (List ℕ)) (named : List (Option (List ℕ))) : Type 0 where
  pub question : Question
  pub asked : Ask words question
  pub are : ArePlayFiles question.play named

-- A file that the words name and that is read.
pub record IsReachedBy (told : Option (List (List ℕ × List ℕ))) (words : List (List ℕ)) (path : List ℕ) : Type 0 where
  pub question : Question
  pub asked : Ask words question
  pub reached : IsPlayFile told question.play path
