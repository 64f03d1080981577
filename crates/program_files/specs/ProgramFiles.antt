-- The program in a file that is named. The rules are the tools' own.
use Rattle.std.specs.Prelude.{◌≡◌, ℕ, List, Option, Some, IsSomeAnd}
use Rattle.stapl_lexer.specs.declared.reason.Reason.{Reason}
use Rattle.stapl_syntax.specs.Programs.{IsProgram, FirstFault}
use Rattle.stapl_syntax.specs.ProgramValues.{ProgramValue, trees_of}
use Rattle.tool_frame.specs.Files.{AreRead, OfFile}

-- The program has these bytes as its text, and its statements are exactly those of the text.
pub record IsProgramOf (bytes : List ℕ) (program : ProgramValue) : Type 0 where
  pub text_is : program.text ≡ bytes
  pub is : IsProgram program.text (trees_of program)

-- The bytes that were read are this text.
abbrev pub ReadsText : Option (List (List ℕ × List ℕ)) → List ℕ → List ℕ → Type 0
ReadsText told path text = AreRead told (Some path) (Some text)

-- Some bytes are held, and this is their first fault as a program.
abbrev pub HasProgramFault : Option (List ℕ) → ℕ → ℕ → Reason → Type 0
HasProgramFault held piece line reason = IsSomeAnd held (λ bytes. FirstFault bytes piece line reason)

-- The bytes that were read are no program, and this is their first fault.
abbrev pub ReadsProgramFault : Option (List (List ℕ × List ℕ)) → List ℕ → ℕ → ℕ → Reason → Type 0
ReadsProgramFault told path piece line reason = OfFile told (Some path) (λ held. HasProgramFault held piece line reason)
