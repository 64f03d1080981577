-- What is written of a play with its account. The rules are this profile's.
use Rattle.std.specs.Prelude.{◌≡◌, ℕ, List, map, Some}
use Rattle.stapl_lexer.specs.declared.piece.Piece.{Piece}
use Rattle.stapl_lexer.specs.Pieces.{IsCut}
use Rattle.stapl_meaning.specs.declared.events.Ending.{Ending}
use Rattle.stapl_meaning.specs.Plays.{play, ending_of}
use Rattle.stapl_meaning.specs.Scopes.{Played}
use Rattle.dev_card.specs.declared.desc.Desc.{Desc}
use Rattle.dev_card.specs.Card.{fresh}
use Rattle.dev_card.specs.FarEnds.{Told}
use Rattle.scan_accounts.specs.MadeTurns.{MadePlay, made_play}
use Rattle.scan_accounts.specs.AccountTexts.{account_text}
use Rattle.play_words.specs.declared.requests.PlayRequest.{PlayRequest}
use Rattle.code_plays.specs.Plays.{base_at}

-- The play of chosen procedures that a request asks for, as it was made on a board of these devices after power-up: for
-- at most its turns, and with base padding around its run of devices, if it names one.
abbrev pub made_for : Played → PlayRequest → List Desc → List ℕ → MadePlay
made_for program request devices chosen =
    made_play program chosen request.turns (base_at devices request.place) (Told (map fresh devices))

-- The text of such a play with its account, and its ending: of a program, whose text is cut into its pieces.
pub record IsAccounted (bytes : List ℕ) (program : Played) (request : PlayRequest) (devices : List Desc) (chosen : List ℕ)
    (text : List ℕ) (ending : Ending) : Type 0 where
  pub pieces : List Piece
  pub cut : IsCut bytes pieces
  pub ended : ending_of (play program chosen request.turns (base_at devices request.place) (Told (map fresh devices))).outcome
      ≡ Some ending
  pub says : text ≡ account_text (record { text = bytes; pieces = pieces }) (made_for program request devices chosen) ending
