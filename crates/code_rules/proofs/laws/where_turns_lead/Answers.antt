use Rattle.code_rules.proofs.PlayLeads.{first_turn_begins, turns_begin, turns_lead}
use Rattle.code_rules.proofs.laws.where_turns_lead.Goals as goal

pub returns : goal.returns
returns c = record { first = first_turn_begins; begin = turns_begin; lead = turns_lead }
