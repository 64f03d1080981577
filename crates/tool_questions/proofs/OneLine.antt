-- A line of a board, and a board alone, have at most one answer.
use Rattle.std.proofs.Common.{◌≡◌, ◌++◌, ℕ, pos, List, Option, Some, None, refl, sym, ap, ◌∙◌, subst, arith}
use Rattle.board_text.specs.declared.reason.BoardReason.{BoardReason}
use Rattle.board_text.proofs.OneAnswer.{one_board, one_first_fault, no_board_has_a_fault}
use Rattle.named_files.specs.Texts.{usage_line}
use Rattle.play_words.specs.declared.status.Status.{Status}
use Rattle.play_words.specs.declared.status.Status.TheVariants.{Done, Usage}
use Rattle.tool_questions.specs.BoardLines.{numbered_line, FaultAt, fault_text, line_text, KnownLineAnswer, shown, ended, lacking, IsLongBoardAnswer, too_long, LineAnswer, known, long, devices_line, CheckAnswer, good, faulty, HeldLineAnswer, HeldCheckAnswer}
use Rattle.tool_questions.proofs.Said.{Said, said}

one_fault : (text : List ℕ) (number : ℕ) (a b : Option BoardReason) → FaultAt text number a → FaultAt text number b → a ≡ b
one_fault text number None None x y = refl
one_fault text number None (Some b) x y = absurd (x b y)
one_fault text number (Some a) None x y = absurd (y a x)
one_fault text number (Some a) (Some b) x y = ap Some ((one_first_fault text number number a b x y).1)

abbrev said_of : ℕ → Option (List ℕ) → Option BoardReason → Said
said_of number (Some line) fault = said (line_text number line ++ fault_text number fault) (Done (pos 0))
said_of number None (Some reason) = said (fault_text number (Some reason)) (Done (pos 0))
said_of number None None = said (usage_line 2) (Usage 2)

record IsKnown (text : List ℕ) (number : ℕ) (all : Said) : Type 0 where
  fault : Option BoardReason
  is : FaultAt text number fault
  same : all ≡ said_of number (numbered_line number text) fault

known_said : (text : List ℕ) (number : ℕ) (t : List ℕ) (s : Status) → KnownLineAnswer text number t s → IsKnown text number (said t s)
known_said text number t s (shown line fault at is) =
    record { fault = fault; is = is; same = sym (ap (λ (p : Option (List ℕ)). said_of number p fault) at) }
known_said text number t s (ended reason none is) =
    record { fault = Some reason; is = is; same = sym (ap (λ (p : Option (List ℕ)). said_of number p (Some reason)) none) }
known_said text number t s (lacking none is) = record { fault = None; is = is; same = sym (ap (λ (p : Option (List ℕ)). said_of number p None) none) }

one_known : (text : List ℕ) (number : ℕ) (a b : Said) → IsKnown text number a → IsKnown text number b → a ≡ b
one_known text number a b x y =
    x.same ∙ ap (said_of number (numbered_line number text)) (one_fault text number x.fault y.fault x.is y.is) ∙ sym y.same

one_long : (a b : List ℕ) (s t : Status) → IsLongBoardAnswer a s → IsLongBoardAnswer b t → said a s ≡ said b t
one_long a b s t too_long too_long = refl

one_line : (text : List ℕ) (number : ℕ) (a b : List ℕ) (s t : Status) → LineAnswer text number a s → LineAnswer text number b t → said a s ≡ said b t
one_line text number a b s t (known short x) (known few y) = one_known text number (said a s) (said b t) (known_said text number a s x) (known_said text number b t y)
one_line text number a b s t (known short x) (long more_bytes y) = absurd (omega (arith, short, more_bytes))
one_line text number a b s t (long more_bytes x) (known short y) = absurd (omega (arith, short, more_bytes))
one_line text number a b s t (long x_long x) (long y_long y) = one_long a b s t x y

pub one_held_line : (held : Option (List ℕ)) (number : ℕ) (a b : List ℕ) (s t : Status) → HeldLineAnswer number held a s → HeldLineAnswer number held b t → said a s ≡ said b t
one_held_line None number a b s t x y = absurd x
one_held_line (Some text) number a b s t x y = one_line text number a b s t x y

one_check : (text : List ℕ) (a b : List ℕ) (s t : Status) → CheckAnswer text a s → CheckAnswer text b t → said a s ≡ said b t
one_check text a b s t (good devices x e f) (good others y g h) =
    ap (λ (l : List ℕ). said l s) (e ∙ ap devices_line (one_board text devices others x y) ∙ sym g) ∙ ap (said b) (f ∙ sym h)
one_check text a b s t (good devices x e f) (faulty line reason fault y) = absurd (no_board_has_a_fault text devices line reason x fault)
one_check text a b s t (faulty line reason fault x) (good devices y g h) = absurd (no_board_has_a_fault text devices line reason y fault)
one_check text a b s t (faulty line reason fault x) (faulty other also second y) =
    one_line text other a b s t (subst (λ (n : ℕ). LineAnswer text n a s) ((one_first_fault text line other reason also fault second).0) x) y

pub one_held_check : (held : Option (List ℕ)) (a b : List ℕ) (s t : Status) → HeldCheckAnswer held a s → HeldCheckAnswer held b t → said a s ≡ said b t
one_held_check None a b s t x y = absurd x
one_held_check (Some text) a b s t x y = one_check text a b s t x y
