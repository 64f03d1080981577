-- The parts of a scan, by its tree. Source: JESD71, IRSCAN and DRSCAN. Captured bits go to an array or to a range of
-- one, and the result of a comparison goes to a scalar or an element; no program has another form.
use Rattle.std.specs.Prelude.{Option, Some, None}
use Rattle.std.specs.Option.{option_map}
use Rattle.stapl_lexer.specs.declared.terminal.Register.{Register}
use Rattle.stapl_syntax.specs.Trees.{scalar, element, ArrayTree, whole, range, CompareTree}
use Rattle.stapl_meaning.specs.Values.{Source, Lookup, source_of, of_programs}
use Rattle.stapl_meaning.specs.Effects.{Target, IntoWhole, IntoRange}
use Rattle.stapl_meaning.specs.Scans.{ScalarCell, ElementCell, CompareParts, ScanParts}

module _ (look : Lookup) where
  abbrev pub given_source : Option ArrayTree → Option Source
  given_source a = option_map (source_of look) a

  abbrev pub given_target : Option ArrayTree → Option Target
  given_target (Some (whole name)) = Some (IntoWhole (look.variable name))
  given_target (Some (range name first second)) = Some (IntoRange of_programs (look.variable name))
  given_target _ = None

  abbrev pub compare_parts : Option CompareTree → Option CompareParts
  compare_parts (Some (expected, (mask, scalar name))) =
      Some (record { expected = source_of look expected; mask = source_of look mask; cell = ScalarCell (look.variable name) })
  compare_parts (Some (expected, (mask, element name index))) =
      Some (record { expected = source_of look expected; mask = source_of look mask; cell = ElementCell (look.variable name) })
  compare_parts _ = None

  abbrev pub scan_parts : Register → ArrayTree → Option ArrayTree → Option CompareTree → ScanParts
  scan_parts register source target compare =
      record { register = register; source = source_of look source; target = given_target target; compare = compare_parts compare }
