-- The file of a code: a head, and the lists of the code, each with its count. The format is this profile's.
use Rattle.std.specs.Prelude.{ℕ, pos, ◌≤◌, ◌<◌, ◌^◌, List, [], ◌∷◌, ◌++◌, length, All}
use Rattle.stapl_meaning.specs.declared.profiles.Profile.{Profile}
use Rattle.stapl_meaning.specs.declared.profiles.Profile.TheVariants.{One, Two}
use Rattle.stapl_code.specs.declared.raw.VarDef.{VarDef}
use Rattle.stapl_code.specs.declared.raw.ProcDef.{ProcDef}
use Rattle.stapl_code.specs.declared.raw.ItemDef.{ItemDef}
use Rattle.stapl_code.specs.declared.raw.ActionDef.{ActionDef}
use Rattle.stapl_code.specs.declared.raw.CodeLists.{CodeLists}
use Rattle.stapl_code.specs.declared.instr.Instr.TheVariants.{Turn, Push, Exit, EndProc}
use Rattle.stapl_code.specs.Ranges.{IsInRange}
use Rattle.stapl_code.specs.Fields.{number, counted, name, text, literal}
use Rattle.stapl_code.specs.Instrs.{instr, IsCountableInstr, FitsInstr}

-- the version says the profile
abbrev pub version : Profile → ℕ
version One = 1
version Two = 2

-- `STAPLC`, and the version in two bytes
abbrev pub head : Profile → List ℕ
head profile = 83 ∷ 84 ∷ 65 ∷ 80 ∷ 76 ∷ 67 ∷ 0 ∷ version profile ∷ []

abbrev pub variable : VarDef → List ℕ
variable v = v.kind ∷ number v.size

abbrev pub procedure : ProcDef → List ℕ
procedure p = name p.name ++ number p.entry

abbrev pub item : ItemDef → List ℕ
item i = number i.procedure ++ i.flag ∷ []

abbrev pub action : ActionDef → List ℕ
action a = name a.name ++ counted item a.items

-- the file of a code
unfoldable pub file : CodeLists → List ℕ
file code =
    head code.profile ++ counted variable code.variables ++ counted literal code.literals ++ counted text code.texts
    ++ counted procedure code.procedures ++ counted action code.actions ++ counted instr code.instrs

-- the most bytes of a file
abbrev pub most_bytes : ℕ
most_bytes = 268435520

-- the file of the code is not too long
pub record IsShort (code : CodeLists) : Type 0 where
  pub most : length (file code) ≤ most_bytes

-- each count of a code has four bytes
pub record IsCountable (code : CodeLists) : Type 0 where
  pub variables : length code.variables < 2 ^ 32
  pub literals : length code.literals < 2 ^ 32
  pub texts : All (λ bytes. length bytes < 2 ^ 32) code.texts
  pub texts_counted : length code.texts < 2 ^ 32
  pub procedures : length code.procedures < 2 ^ 32
  pub actions : length code.actions < 2 ^ 32
  pub items : All (λ (a : ActionDef). length a.items < 2 ^ 32) code.actions
  pub instrs : length code.instrs < 2 ^ 32
  pub counts : All IsCountableInstr code.instrs

-- the code of `ACTION A=P;PROCEDURE P;EXIT 0;ENDPROC;`
abbrev pub example : Profile → CodeLists
example profile = record {
  profile = profile;
  variables = [];
  literals = [];
  texts = [];
  procedures = record { name = 80 ∷ []; entry = 0 } ∷ [];
  actions = record { name = 65 ∷ []; items = record { procedure = 0; flag = 0 } ∷ [] } ∷ [];
  instrs = Turn 3 ∷ Push (pos 0) ∷ Exit ∷ Turn 4 ∷ EndProc ∷ [];
}

-- the 66 bytes of its file
abbrev pub example_bytes : Profile → List ℕ
example_bytes profile =
    83 ∷ 84 ∷ 65 ∷ 80 ∷ 76 ∷ 67 ∷ 0 ∷ version profile ∷ 0 ∷ 0 ∷ 0 ∷ 0 ∷ 0 ∷ 0 ∷ 0 ∷ 0 ∷ 0 ∷ 0 ∷ 0 ∷ 0
    ∷ 0 ∷ 0 ∷ 0 ∷ 1 ∷ 1 ∷ 80 ∷ 0 ∷ 0 ∷ 0 ∷ 0
    ∷ 0 ∷ 0 ∷ 0 ∷ 1 ∷ 1 ∷ 65 ∷ 0 ∷ 0 ∷ 0 ∷ 1 ∷ 0 ∷ 0 ∷ 0 ∷ 0 ∷ 0
    ∷ 0 ∷ 0 ∷ 0 ∷ 5 ∷ 1 ∷ 0 ∷ 0 ∷ 0 ∷ 3 ∷ 2 ∷ 0 ∷ 0 ∷ 0 ∷ 0 ∷ 27 ∷ 1 ∷ 0 ∷ 0 ∷ 0 ∷ 4 ∷ 23 ∷ []

-- the other numbers of a code have four bytes, too
pub record IsFitting (code : CodeLists) : Type 0 where
  pub sizes : All (λ (v : VarDef). v.size < 2 ^ 32) code.variables
  pub entries : All (λ (p : ProcDef). p.entry < 2 ^ 32) code.procedures
  pub numbers : All FitsInstr code.instrs

-- a code that has a file
pub record HasFile (code : CodeLists) : Type 0 where
  pub in_range : IsInRange code
  pub fitting : IsFitting code
  pub short : IsShort code
