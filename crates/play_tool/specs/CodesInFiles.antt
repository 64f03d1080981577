-- The code in a file that is named. The rules are this tool's own.
use Rattle.std.specs.Prelude.{ℕ, List, Option, Some, IsSomeAnd}
use Rattle.stapl_code.specs.declared.raw.CodeLists.{CodeLists}
use Rattle.stapl_code.specs.declared.reason.CodeReason.{CodeReason}
use Rattle.code_files.specs.CodeFaults.{IsFileOf, IsCodeFault}
use Rattle.tool_frame.specs.Files.{OfFile}

-- The bytes that were read are the file of this code.
abbrev pub ReadsCode : Option (List (List ℕ × List ℕ)) → List ℕ → CodeLists → Type 0
ReadsCode told path code = OfFile told (Some path) (λ held. IsSomeAnd held (λ bytes. IsFileOf bytes code))

-- The bytes that were read are no code, and this is their first fault.
abbrev pub ReadsCodeFault : Option (List (List ℕ × List ℕ)) → List ℕ → ℕ → CodeReason → Type 0
ReadsCodeFault told path offset reason = OfFile told (Some path) (λ held. IsSomeAnd held (λ bytes. IsCodeFault bytes offset reason))
