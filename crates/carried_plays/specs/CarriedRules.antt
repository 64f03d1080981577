-- What a text of these statements has to be a program, apart from its size and from how its pieces are read: no
-- statement breaks a rule, no block is open at the end, and there is an ACTION.
use Rattle.std.specs.Prelude.{◌≡◌, ℕ, true, false, List, Some, map, take, length, slice_get, is_some}
use Rattle.stapl_lexer.specs.declared.reason.Reason.{Reason}
use Rattle.stapl_syntax.specs.Trees.{StmtTree}
use Rattle.stapl_syntax.specs.Names.{numbered, inside_after}
use Rattle.stapl_syntax.specs.Rules.{is_action, any_body, breaks}
use Rattle.stapl_syntax.specs.Programs.{facts_at}

pub record BreaksNoRule (program : List StmtTree) : Type 0 where
  pub keeps : (i : ℕ) (st : StmtTree) (reason : Reason) → slice_get program i ≡ Some st →
      breaks (facts_at (map Some program) i) st reason ≡ false
  pub closed : is_some (inside_after (numbered (take (length program) (map Some program)))) ≡ false
  pub acts : any_body is_action (numbered (take (length program) (map Some program))) ≡ true
