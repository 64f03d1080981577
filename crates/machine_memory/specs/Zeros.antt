-- What variables hold before a run.
use Rattle.std.specs.Prelude.{pos, false, List, map, replicate, ◌==◌, if◌then◌else◌}
use Rattle.stapl_meaning.specs.declared.values.Held.{Held}
use Rattle.stapl_meaning.specs.declared.values.Held.TheVariants as held
use Rattle.stapl_code.specs.declared.raw.VarDef.{VarDef}
use Rattle.stapl_code.specs.declared.raw.CodeLists.{CodeLists}

-- the zero of a variable's kind and size
abbrev pub zero_of : VarDef → Held
zero_of v =
    if v.kind == 0 then held.Int (pos 0) else
    (if v.kind == 1 then held.Bit false else
    (if v.kind == 2 then held.Ints (replicate v.size (pos 0)) else held.Bits (replicate v.size false)))

-- the variables of a code before a run
abbrev pub zeros_of_code : CodeLists → List Held
zeros_of_code code = map zero_of code.variables
