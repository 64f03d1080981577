-- Lines of statements after a text.
use Rattle.std.specs.Prelude.{ℕ, List, ◌++◌}
use Rattle.stapl_syntax.specs.Trees.{StmtTree}
use Rattle.canonical_text.specs.CanonicalText.{lines, checked_from}

-- the text with the lines of these statements after it, with their check words
abbrev pub with_lines : List ℕ → List StmtTree → List ℕ
with_lines text sts = text ++ lines (checked_from text sts)
