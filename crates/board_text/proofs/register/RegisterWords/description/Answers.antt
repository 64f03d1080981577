use Rattle.std.proofs.Common.{ap}
use Rattle.std.specs.Option.{option_map}
use Rattle.board_text.proofs.register.RegisterWords.description.Goals as goal

pub constant_bits-requires-clause-constant : goal.constant_bits-requires-clause-constant
constant_bits-requires-clause-constant c = c.requires.constant _ (ap (option_map (λ d. d.now)) c.in-Some.is)
