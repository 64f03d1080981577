-- Which bytes are the file of a valid code, and the first fault of bytes that are not. The rules are this profile's.
use Rattle.std.specs.Prelude.{◌≡◌, ◌≢◌, ℕ, ◌-◌, ◌<◌, ◌≤◌, List, [], length, drop, Some, Ok, Err}
use Rattle.std.specs.List.{flat_map}
use Rattle.stapl_code.specs.declared.raw.CodeLists.{CodeLists}
use Rattle.stapl_code.specs.Instrs.{instr}
use Rattle.stapl_code.specs.Files.{file, most_bytes, HasFile}
use Rattle.stapl_code.specs.Valid.{first_break, IsValid}
use Rattle.stapl_code.specs.declared.reason.CodeReason.{CodeReason}
use Rattle.stapl_code.specs.declared.reason.CodeReason.TheVariants.{Extra, Invalid, TooLong}
use Rattle.code_files.specs.declared.fault.Fault.{Fault}
use Rattle.code_files.specs.declared.decoding.DecodeRefused.{DecodeRefused}
use Rattle.code_files.specs.declared.decoding.DecodeRefused.TheVariants.{At, Memory}
use Rattle.code_files.specs.ReadFiles.{code_at}

-- the bytes are the file of this code, which is valid
pub record IsFileOf (bytes : List ℕ) (code : CodeLists) : Type 0 where
  pub file : bytes ≡ file code
  pub has : HasFile code
  pub valid : IsValid code

-- The first fault of bytes that are no file: its offset and its reason. An instruction that breaks a rule is told by
-- its first byte; if there is no instruction, that is the end.
pub data IsCodeFault (bytes : List ℕ) : ℕ → CodeReason → Type 0 where
  too_long : most_bytes < length bytes → IsCodeFault bytes most_bytes TooLong
  broken : (f : Fault) → length bytes ≤ most_bytes → code_at bytes ≡ Err f
      → IsCodeFault bytes (length bytes - f.left) f.reason
  extra : (code : CodeLists) (rest : List ℕ) → length bytes ≤ most_bytes → code_at bytes ≡ Ok (code, rest) → rest ≢ []
      → IsCodeFault bytes (length bytes - length rest) Extra
  invalid : (code : CodeLists) (i : ℕ) → length bytes ≤ most_bytes → code_at bytes ≡ Ok (code, [])
      → first_break code ≡ Some i
      → IsCodeFault bytes (length bytes - length (flat_map instr (drop i code.instrs))) Invalid

-- a refusal names the first fault; want of memory says nothing of the bytes
abbrev pub NamesFault : List ℕ → DecodeRefused → Type 0
NamesFault bytes (At offset reason) = IsCodeFault bytes offset reason
NamesFault bytes Memory = Unit {0}
