use Rattle.stapl_meaning.specs.declared.events.RunFault.TheVariants as faults
use Rattle.meaning_laws.proofs.NamedFaults.{part_table, never_reversed, short_table, length_table, count_table, step_table, record_table, full_table}
use Rattle.meaning_laws.proofs.laws.faults.where_each_fault_comes.Goals as goal

pub returns : goal.returns
returns c = record {
  divide_by_zero = part_table faults.DivideByZero tt;
  index_out_of_range = part_table faults.IndexOutOfRange tt;
  range_reversed = never_reversed;
  length_mismatch = short_table;
  bad_length = length_table;
  bad_count = count_table;
  shift_count = part_table faults.ShiftCount tt;
  zero_step = step_table;
  no_record = record_table;
  records_full = full_table;
  bad_char = part_table faults.BadChar tt;
}
