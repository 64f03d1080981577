-- Programs and devices as examples: each program is not quiet at one point, and ends with what it captured last.
use Rattle.std.specs.Prelude.{pos, ℕ, Bool, List, [], ◌∷◌, ◌++◌, true, false, Some, None, codes, map, replicate}
use Rattle.stapl_lexer.specs.declared.terminal.Register.{Register}
use Rattle.stapl_lexer.specs.declared.terminal.Register.TheVariants.{Instruction, Data}
use Rattle.stapl_syntax.specs.Trees.{number, int, literal, whole, BodyTree, action, procedure, end_procedure}
use Rattle.stapl_syntax.specs.Trees.{boolean_array, exit, scan, stop, state_list}
use Rattle.canonical_text.specs.Examples.{bare_statement}
use Rattle.dev_card.specs.declared.desc.Kind.TheVariants.{Plain, Regs}
use Rattle.dev_card.specs.declared.desc.Desc.{Desc}
use Rattle.stapl_meaning.specs.Scopes.{Played, as_played}

-- The device for which the programs are. One register captures a one, and the other one what it holds.
abbrev pub part : Desc
part = record {
  name = codes "U1";
  kind = Regs;
  ir_len = 4;
  id = None;
  registers = record { name = codes "ONE"; op = 7; len = 1; constant = Some (true ∷ []) }
      ∷ record { name = codes "HELD"; op = 5; len = 2; constant = None } ∷ [];
  flash = None;
}

-- A neighbour with an identity, which is selected by the opcode that a capture of the instruction register gives.
abbrev pub neighbour : Desc
neighbour = record {
  name = codes "U2";
  kind = Plain;
  ir_len = 2;
  id = Some (record { value = 3; op = 1 });
  registers = [];
  flash = None;
}

-- A program with two bits, which does this, then scans the data registers, and ends with the bits that this scan
-- captured, as a number.
abbrev pub ends_with_scan : ℕ → List BodyTree → Played
ends_with_scan bits body = as_played (map bare_statement (
    action (codes "A") None ((codes "P", None) ∷ []) ∷ procedure (codes "P") None
    ∷ boolean_array (codes "V") (pos 2) None
    ∷ (body ++ (scan Data (number (pos bits)) (literal (replicate bits false)) (Some (whole (codes "V"))) None
    ∷ exit (int (whole (codes "V"))) ∷ end_procedure ∷ []))))

-- a scan of these bits, of which none is kept
abbrev pub shift : Register → ℕ → List Bool → BodyTree
shift register n bits = scan register (number (pos n)) (literal bits) None None

-- the instruction of all ones
abbrev pub bypass : BodyTree
bypass = shift Instruction 4 (replicate 4 true)

-- numbers of states, in the order in which the language lists them
abbrev pub reset : ℕ
reset = 0

abbrev pub idle : ℕ
idle = 1

abbrev pub dr_shift : ℕ
dr_shift = 4

abbrev pub dr_pause : ℕ
dr_pause = 6

abbrev pub ir_shift : ℕ
ir_shift = 11

abbrev pub ir_pause : ℕ
ir_pause = 13

-- more turns than each of the programs has
abbrev pub enough : ℕ
enough = 12

-- the instruction has a bit too many
abbrev pub too_long_instruction : Played
too_long_instruction = ends_with_scan 1 (shift Instruction 5 (false ∷ replicate 4 true) ∷ [])

-- the data has a bit too many
abbrev pub too_long_data : Played
too_long_data = ends_with_scan 2 (bypass ∷ [])

-- no instruction was loaded
abbrev pub without_instruction : Played
without_instruction = ends_with_scan 1 []

-- none since a reset
abbrev pub instruction_reset : Played
instruction_reset = ends_with_scan 1 (bypass ∷ state_list (reset ∷ []) ∷ [])

-- a move leads through Capture-IR
abbrev pub through_capture : Played
through_capture = ends_with_scan 1 (bypass ∷ state_list (ir_pause ∷ []) ∷ [])

-- a move leads through Shift-IR, after a scan
abbrev pub through_instruction_shift : Played
through_instruction_shift = ends_with_scan 1
    (stop Instruction ir_pause ∷ bypass ∷ state_list (ir_shift ∷ ir_pause ∷ []) ∷ [])

-- a move leads through Shift-DR, after a scan
abbrev pub through_data_shift : Played
through_data_shift = ends_with_scan 2
    (shift Instruction 4 (true ∷ false ∷ true ∷ false ∷ []) ∷ stop Data dr_pause
    ∷ shift Data 2 (true ∷ true ∷ []) ∷ state_list (dr_shift ∷ dr_pause ∷ []) ∷ [])

-- the way from a scan to its stop state leads through Capture-IR
abbrev pub stop_behind_capture : Played
stop_behind_capture = ends_with_scan 1
    (bypass ∷ stop Data ir_pause ∷ shift Data 1 (false ∷ []) ∷ stop Data idle ∷ [])
