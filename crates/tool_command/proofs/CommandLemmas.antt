-- On the words that ask for a text.
use Rattle.std.proofs.Common.{◌≡◌, ℕ, List, [], ◌∷◌, None, Some, refl, sym, ap, ◌∙◌}
use Rattle.std.proofs.lemmas.Option.{none-some}
use Rattle.tool_frame.specs.Commands.{text_of_word, text_asked}
use Rattle.play_words.specs.declared.mode.Mode.{Mode}
use Rattle.play_words.specs.declared.mode.Mode.TheVariants as modes
use Rattle.play_words.specs.Words.{mode_word, HasMode}
use Rattle.play_words.specs.declared.help.TheConstants.{HELP, VERSION}

-- the word of a mode asks for no text
no_text : (mode : Mode) → text_of_word HELP.now VERSION.now (mode_word mode) ≡ None
no_text modes.Play = refl
no_text modes.Check = refl
no_text modes.List = refl
no_text modes.Compile = refl
no_text modes.Run = refl
no_text modes.Soak = refl

-- words that ask for a text have no mode
pub has_no_mode : (words : List (List ℕ)) (text : List ℕ) (mode : Mode) → text_asked HELP.now VERSION.now words ≡ Some text → HasMode words mode → ⊥
has_no_mode [] text mode e has = none-some text e
has_no_mode (word ∷ []) text mode e has = none-some text (sym (no_text mode) ∙ sym (ap (text_of_word HELP.now VERSION.now) has) ∙ e)
has_no_mode (word ∷ other ∷ words) text mode e has = none-some text e
