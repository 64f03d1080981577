-- On soaks: a line, and then the answer to a play whose files have the bytes of a number.
use Rattle.std.proofs.Common.{◌≡◌, ◌∙◌, ◌++◌, ◌==◌, ◌≤◌, count_by, length, ℕ, List, Bool, true, Option, None, Some, Result, Ok, Err, codes, refl, ap, subst}
use Rattle.std.proofs.lemmas.List.Sums.{count_by-le-length}
use Rattle.std.specs.Prelude.{IfNone, false}
use Rattle.tool_io.specs.declared.lines.Lines.{Lines}
use Rattle.tool_io.specs.declared.outside.Sink.{Ghosts as SinkOf}
use Rattle.tool_io.specs.Lines.{IsSinkUntouched, Puts}
use Rattle.tool_io.proofs.PutLemmas.{put_then, then_front}
use Rattle.stapl_lexer.specs.ReservedWords.{word_terminal, is_free_name}
use Rattle.board_text.specs.declared.reason.BoardReason.{BoardReason}
use Rattle.board_text.specs.Boards.{IsFirstFault}
use Rattle.soak_texts.specs.Boards.{soak_devices, soak_place}
use Rattle.soak_texts.specs.Soak.{soak_program}
use Rattle.tool_frame.specs.declared.no_answer.NoAnswer.{NoAnswer}
use Rattle.tool_frame.specs.declared.no_answer.NoAnswer.TheVariants.{Read, Write, Memory}
use Rattle.tool_frame.specs.Answers.{Says}
use Rattle.play_words.specs.declared.status.Status.{Status}
use Rattle.play_tool.specs.Texts.{soak_line}
use Rattle.play_tool.specs.Answers.{soak_head, SoakPlayAnswer, SoakAnswer}

pub board_fault_is : {bytes : List ℕ} (m n : ℕ) (r s : BoardReason) → m ≡ n → r ≡ s → IsFirstFault bytes m r → IsFirstFault bytes n s
board_fault_is {bytes = bytes} m n r s e f x = subst (λ (k : ℕ). IsFirstFault bytes k s) e (subst (IsFirstFault bytes m) f x)

not_both : (b : Bool) → b ≡ true → b ≡ false → ⊥
not_both b e f = cc

a_free : is_free_name (codes "A") ≡ true
unfolding word_terminal
a_free = refl

-- The name of the action of a soak is one.
pub a_is_free : {A : Type 0} (found : Option A) → found ≡ None → IfNone found (is_free_name (codes "A") ≡ false) → ⊥
a_is_free None e taken = not_both (is_free_name (codes "A")) a_free taken
a_is_free (Some x) e taken = cc

-- No more are counted than there are.
pub few_counted : (p : ℕ → Bool) (xs : List ℕ) → count_by p xs ≤ length xs
few_counted p xs = count_by-le-length p xs

-- The texts that were made are those of the number.

pub line_is : (seed devices place pieces : ℕ) (program : List ℕ) → devices ≡ soak_devices seed → place ≡ soak_place seed →
    pieces ≡ count_by (λ (b : ℕ). b == 59) program → program ≡ soak_program seed → soak_line seed devices place pieces ≡ soak_head seed
line_is seed devices place pieces program d p n e =
    rw (d, p, n ∙ ap (λ (text : List ℕ). count_by (λ (b : ℕ). b == 59) text) e) refl

-- The line was put, and waits; and then the play's answer is said.
pub soak_says : {K : Type 0} (sink : SinkOf K) (a b c : Lines K) (seed : ℕ) (r : Result Status NoAnswer) →
    Puts sink a (soak_head seed) b → IsSinkUntouched a b → Says sink (SoakPlayAnswer seed) ⊥ b c r → Says sink (SoakAnswer seed) ⊥ a c r
soak_says sink a b c seed (Ok status) put same w = record {
  text = soak_head seed ++ w.text;
  answer = record { rest = w.text; text_is = refl; play = w.answer };
  puts = put_then put w.puts;
}
soak_says sink a b c seed (Err Read) put same w = w
soak_says sink a b c seed (Err Write) put same w = record {
  text = soak_head seed ++ w.text;
  status = w.status;
  answer = record { rest = w.text; text_is = refl; play = w.answer };
  puts = then_front put w.puts;
}
soak_says sink a b c seed (Err Memory) put same w = (w.0 ∙ put.same_sink, w.1 ∙ same)
