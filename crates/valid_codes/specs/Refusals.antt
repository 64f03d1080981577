-- How a code is refused that is not valid.
use Rattle.std.specs.Prelude.{◌≡◌, Some}
use Rattle.stapl_code.specs.declared.raw.CodeLists.{CodeLists}
use Rattle.stapl_code.specs.Valid.{first_break}
use Rattle.valid_codes.specs.declared.valid.ValidateRefused.{ValidateRefused}
use Rattle.valid_codes.specs.declared.valid.ValidateRefused.TheVariants.{Invalid, Memory}

-- a refusal names the first instruction that breaks a rule; want of memory says nothing of the code
abbrev pub NamesFirst : ValidateRefused → CodeLists → Type 0
NamesFirst (Invalid i) code = first_break code ≡ Some i
NamesFirst Memory code = Unit {0}
