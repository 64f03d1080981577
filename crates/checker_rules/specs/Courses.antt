-- What the checker keeps of the statements before a piece.
use Rattle.std.specs.Prelude.{◌≡◌, ◌≤◌, ◌+◌, ◌*◌, ◌^◌, not, ◌&&◌, ◌||◌, ℕ, List, true, Option, is_some}
use Rattle.stapl_syntax.specs.Trees.{BodyTree, procedure, data_block}
use Rattle.stapl_syntax.specs.Names.{Names, Numbered, inside_next, inside_after, block_named}
use Rattle.stapl_syntax.specs.Rules as rules
use Rattle.stapl_syntax.specs.Rules.{is_action, is_block, is_crc, in_data_block, known_from, place_after, Facts}
use Rattle.checker_rules.specs.declared.course.Course.{Course}
use Rattle.checker_rules.specs.Counts.{totals_of, totals_after}
use Rattle.checker_rules.specs.Places.{place_of}
use Rattle.checker_rules.specs.Scopes.{named, IsInside}
use Rattle.checker_rules.specs.Earlier.{declared_below}

-- the block that a statement begins, if it begins one, is in the table
abbrev pub BeginsListed : Names → BodyTree → Type 0
BeginsListed names (procedure name uses) = is_some (block_named names name) ≡ true
BeginsListed names (data_block name) = is_some (block_named names name) ≡ true
BeginsListed names _ = Unit {0}

-- the place after a statement after which this block is open
abbrev pub place_next : Names → Option (List ℕ) → rules.Place → BodyTree → rules.Place
place_next names inside before body = record {
  in_procedure = is_some inside && not (in_data_block names inside);
  in_data = in_data_block names inside;
  after_action = before.after_action || is_action body;
  after_block = before.after_block || is_block body;
  after_crc = before.after_crc || is_crc body;
}

-- what is kept after one more statement
pub record GoesOn (names : Names) (body : BodyTree) (old new : Course) : Type 0 where
  pub inside : named names new.inside ≡ inside_next (named names old.inside) body
  pub within : IsInside names new.inside
  pub place : place_of new.place ≡ place_next names (inside_next (named names old.inside) body) (place_of old.place) body
  pub totals : totals_of new.before ≡ totals_after (totals_of old.before) body
  pub booleans : new.before.booleans ≤ old.before.booleans + 2 ^ 31
  pub integers : new.before.integers ≤ old.before.integers + 2 ^ 31

-- what is kept after these n statements
pub record IsCourse (names : Names) (before : List Numbered) (n : ℕ) (c : Course) : Type 0 where
  pub inside : named names c.inside ≡ inside_after before
  pub within : IsInside names c.inside
  pub place : place_of c.place ≡ place_after names before
  pub totals : totals_of c.before ≡ rules.totals_of before
  pub booleans : c.before.booleans ≤ n * 2 ^ 31
  pub integers : c.before.integers ≤ n * 2 ^ 31

-- the facts that are kept for the statement of the piece with this number
abbrev pub facts_in : Names → Course → ℕ → Facts
facts_in names c number = record {
  place = place_of c.place;
  inside = named names c.inside;
  earlier = declared_below names number;
  known = known_from names (named names c.inside);
  before = totals_of c.before;
}
