use Rattle.effect_laws.proofs.Assignments.{gives_integer, gives_boolean, gives_of_integers, gives_of_booleans}
use Rattle.effect_laws.proofs.laws.assignments.an_assignment_gives_its_value.Goals as goal

pub returns : goal.returns
returns c = record {
  integer = gives_integer;
  boolean = gives_boolean;
  of_integers = λ program i k s name index e old z. gives_of_integers program i s name e k index old z;
  of_booleans = λ program i k s name index e old b. gives_of_booleans program i s name e k index old b;
}
