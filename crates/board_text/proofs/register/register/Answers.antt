use Rattle.std.proofs.Common.{◌≡◌, arith, Bor, List, ℕ, Option, None, SomeIff, ap, sym, subst}
use Rattle.std.specs.Option.{option_map}
use Rattle.std.proofs.lemmas.List.{length-map}
use Rattle.board_text.specs.Contents.{RegisterLine, register_line}
use Rattle.board_text.specs.Limits.{HasGoodLength}
use Rattle.board_text.specs.Reading.{line_of}
use Rattle.board_text.specs.Lines.{texts}
use Rattle.board_text.proofs.FieldLemmas.{register_word, register_digits, register_words}
use Rattle.board_text.proofs.ConstantLemmas.{bad_constant}
use Rattle.board_text.proofs.register.register.Goals as goal

pub number_within-requires-clause-spelled : goal.number_within-requires-clause-spelled
number_within-requires-clause-spelled c = register_word c.args.constant (texts c.args.words.now) 3 c.requires (omega arith)

pub own_constant-requires-clause-spelled : goal.own_constant-requires-clause-spelled
own_constant-requires-clause-spelled c = register_digits c.args.constant (texts c.args.words.now) c.requires

pub own_constant-requires-clause-inside : goal.own_constant-requires-clause-inside
own_constant-requires-clause-inside c =
    λ known. omega (arith, register_words c.args.constant (texts c.args.words.now) c.requires known, length-map c.args.words.now (λ (w : Bor (List ℕ)). w.now))

pub returns-in_err-digits : goal.returns-in_err-digits
returns-in_err-digits c =
    let none : option_map line_of c.from_residual-in_err-digits.result ≡ None = ap (option_map line_of) c.from_residual-in_err-digits.ensures in
    subst (λ (o : Option RegisterLine). SomeIff o (HasGoodLength (register_line c.args.constant (texts c.args.words.now))) (register_line c.args.constant (texts c.args.words.now))) (sym none)
    (bad_constant c.args.constant (texts c.args.words.now) c.in_ok-len.len c.in_ok-len.ensures.1 c.in_err-digits.ensures)

pub name_at-requires : goal.name_at-requires
name_at-requires c = register_word c.args.constant (texts c.args.words.now) 1 c.requires (omega arith)

pub opcode_at-requires : goal.opcode_at-requires
opcode_at-requires c = register_word c.args.constant (texts c.args.words.now) 2 c.requires (omega arith)
