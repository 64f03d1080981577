-- The words of the program: those that name the wire, in a fixed order, and after them those of a play by the tool,
-- without its first word, in any order. The rules are this tool's own.
use Rattle.std.specs.Prelude.{◌<◌, ℕ, ◌+◌, Bool, false, List, ◌∷◌, drop, length, codes, slice_get, IsSomeAnd}
use Rattle.command_words.specs.KeyedWords.{SaysAnswer}
use Rattle.named_files.specs.Words.{NamesAt}
use Rattle.play_words.specs.declared.requests.FilePlay.{FilePlay}
use Rattle.play_words.specs.declared.requests.Request.TheVariants as requests
use Rattle.play_words.specs.declared.words.WordsRefused.{WordsRefused}
use Rattle.play_words.specs.declared.words.WordsRefused.TheVariants as refusals
use Rattle.play_words.specs.Words.{IsRequest, IsUsage}

-- the word at a place, counted from 0, is there and gives this answer under this key
abbrev pub SaysAt : List ℕ → List (List ℕ) → ℕ → Bool → Type 0
SaysAt key words place answer = IsSomeAnd (slice_get words place) (λ word. SaysAnswer key word answer)

-- the file that takes the bytes, the file that gives the answers, and whether waits are sent
pub record WireNames : Type 0 where
  pub send : List ℕ
  pub receive : List ℕ
  pub sleeps : Bool

-- The third word says whether waits are sent, and three words name the wire; or it does not, they are not, and two do.
pub data AskWaits (words : List (List ℕ)) : Bool → ℕ → Type 0 where
  waits_said : (answer : Bool) → SaysAt (codes "sleep=") words 2 answer → AskWaits words answer 3
  waits_unsaid : ((answer : Bool) → SaysAt (codes "sleep=") words 2 answer → ⊥) → AskWaits words false 2

-- The first words, so many of them, name this wire.
pub record NamesWire (words : List (List ℕ)) (wire : WireNames) (count : ℕ) : Type 0 where
  pub sends : NamesAt (codes "send=") words 0 wire.send
  pub receives : NamesAt (codes "receive=") words 1 wire.receive
  pub waits : AskWaits words wire.sleeps count

-- the words of a play by the tool, by those that follow its first word
abbrev pub play_words : List (List ℕ) → List (List ℕ)
play_words words = codes "play" ∷ words

-- the word at a place, counted from 0, asks for a report, or for none
abbrev pub AsksForReport : List (List ℕ) → ℕ → Type 0
AsksForReport words place = (answer : Bool) × SaysAt (codes "report=") words place answer

-- none of the first n words does
abbrev pub HasNoReport : List (List ℕ) → ℕ → Type 0
HasNoReport words n = (place : ℕ) → place < n → AsksForReport words place → ⊥

-- The words after the wire are those of this play. None of them asks for a report: nothing is known of devices at the
-- other end.
pub record AskForPlay (words : List (List ℕ)) (play : FilePlay) : Type 0 where
  pub asked : IsRequest (play_words words) (requests.Play play)
  pub no_report : HasNoReport words (length words)

-- The first of them, counted from 1, that is not read, or their number plus 1 if one is missing: it is none of a play by
-- the tool, or it is the first that asks for a report.
pub data HasPlayUsage (words : List (List ℕ)) : ℕ → Type 0 where
  not_read : (n : ℕ) → IsUsage (play_words words) (n + 1) → HasNoReport words n → HasPlayUsage words n
  reports : (place : ℕ) → AsksForReport words place → HasNoReport words place →
      ((n : ℕ) → IsUsage (play_words words) (n + 1) → place < n) → HasPlayUsage words (place + 1)

-- The words ask for this play over this wire.
pub record AskToDrive (words : List (List ℕ)) (wire : WireNames) (play : FilePlay) : Type 0 where
  pub count : ℕ
  pub named : NamesWire words wire count
  pub asked : AskForPlay (drop count words) play

-- The first word, counted from 1, that is not as stated, or the number of words plus 1 if one is missing.
pub data HasUsage (words : List (List ℕ)) : ℕ → Type 0 where
  no_send : ((path : List ℕ) → NamesAt (codes "send=") words 0 path → ⊥) → HasUsage words 1
  no_receive : (send : List ℕ) → NamesAt (codes "send=") words 0 send →
      ((path : List ℕ) → NamesAt (codes "receive=") words 1 path → ⊥) → HasUsage words 2
  no_play : (wire : WireNames) (count n : ℕ) → NamesWire words wire count → HasPlayUsage (drop count words) n →
      HasUsage words (count + n)

-- why they are refused; want of memory needs no cause
abbrev pub AreRefused : List (List ℕ) → WordsRefused → Type 0
AreRefused words (refusals.Usage n) = HasUsage words n
AreRefused words refusals.Memory = Unit {0}

-- the same of the words after the wire
abbrev pub IsPlayRefused : List (List ℕ) → WordsRefused → Type 0
IsPlayRefused words (refusals.Usage n) = HasPlayUsage words n
IsPlayRefused words refusals.Memory = Unit {0}
