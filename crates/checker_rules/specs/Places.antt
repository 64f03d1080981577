-- The place of a statement as the checker keeps it, as that of the rules.
use Rattle.stapl_syntax.specs.Rules as rules
use Rattle.checker_rules.specs.declared.order.Place.{Place}

abbrev pub place_of : Place → rules.Place
place_of p = record {
  in_procedure = p.in_procedure;
  in_data = p.in_data;
  after_action = p.after_action;
  after_block = p.after_block;
  after_crc = p.after_crc;
}
