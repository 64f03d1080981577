use Rattle.effect_laws.proofs.Frames.{keeps_variable, keeps_records, keeps_scans, keeps_chosen}
use Rattle.effect_laws.proofs.laws.frame.a_turn_changes_only_what_its_statement_names.Goals as goal

pub returns : goal.returns
returns c = record {
  variables = λ program i n s st stands others. keeps_variable program i s st stands n others;
  records = keeps_records;
  scans = keeps_scans;
  procedures = keeps_chosen;
}
