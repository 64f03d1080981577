-- Where the machine goes when a procedure is over.
use Rattle.std.specs.Prelude.{ℕ, Option, Some, None}
use Rattle.stapl_meaning.specs.States.{State, Did, Resumes, Returns}

-- where a procedure returns to: the place of a record, or what follows the procedure
abbrev pub returns_to : Option ℕ → State → Did
returns_to (Some place) s = Resumes place s
returns_to None s = Returns s
