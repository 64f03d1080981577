-- Statements as trees: what is kept of them, without where it lies in memory (JESD71, statements).
use Rattle.std.specs.Prelude.{ℕ, ℤ, List, Option, Bool, map}
use Rattle.std.specs.Box.{box_value}
use Rattle.std.specs.Option.{option_map}
use Rattle.stapl_lexer.specs.declared.terminal.BinOp.{BinOp}
use Rattle.stapl_syntax.specs.declared.signs.UnOp.{UnOp}
use Rattle.stapl_lexer.specs.declared.terminal.Register.{Register}
use Rattle.stapl_lexer.specs.declared.terminal.Padding.{Padding}
use Rattle.stapl_syntax.specs.declared.statement.Expr.{Expr}
use Rattle.stapl_syntax.specs.declared.statement.Expr.TheVariants as exprs
use Rattle.stapl_syntax.specs.declared.statement.ArrayExpr.{ArrayExpr}
use Rattle.stapl_syntax.specs.declared.statement.ArrayExpr.TheVariants as arrays
use Rattle.stapl_syntax.specs.declared.statement.Item.{Item}
use Rattle.stapl_syntax.specs.declared.statement.ItemChoice.{ItemChoice}
use Rattle.stapl_syntax.specs.declared.statement.PrintPart.{PrintPart}
use Rattle.stapl_syntax.specs.declared.statement.PrintPart.TheVariants as parts
use Rattle.stapl_syntax.specs.declared.statement.Exported.{Exported}
use Rattle.stapl_syntax.specs.declared.statement.Exported.TheVariants as exported
use Rattle.stapl_syntax.specs.declared.statement.Compare.{Compare}
use Rattle.stapl_syntax.specs.declared.statement.Scan.{Scan}
use Rattle.stapl_syntax.specs.declared.statement.Body.{Body}
use Rattle.stapl_syntax.specs.declared.statement.Body.TheVariants as bodies
use Rattle.stapl_syntax.specs.declared.statement.Stmt.{Stmt}

mutual
  -- an expression
  pub data ExprTree : Type 0 where
    number : ℤ → ExprTree
    scalar : List ℕ → ExprTree
    element : List ℕ → ExprTree → ExprTree
    unary : UnOp → ExprTree → ExprTree
    binary : BinOp → ExprTree → ExprTree → ExprTree
    abs : ExprTree → ExprTree
    int : ArrayTree → ExprTree

  -- an expression that stands for a list of bits
  pub data ArrayTree : Type 0 where
    literal : List Bool → ArrayTree
    whole : List ℕ → ArrayTree
    range : List ℕ → ExprTree → ExprTree → ArrayTree
    of_int : ExprTree → ArrayTree

-- an item of an action: the name of its procedure, and its choice
abbrev pub ItemTree : Type 0
ItemTree = List ℕ × Option ItemChoice

-- a part of what PRINT prints
pub data PartTree : Type 0 where
  string : List ℕ → PartTree
  value : ExprTree → PartTree
  character : ExprTree → PartTree

-- what EXPORT exports
pub data ExportTree : Type 0 where
  exported_value : ExprTree → ExportTree
  exported_array : ArrayTree → ExportTree

-- what a scan compares with: the expected bits, the mask and the cell
abbrev pub CompareTree : Type 0
CompareTree = ArrayTree × (ArrayTree × ExprTree)

-- a statement without its label, the fields in the written order
pub data BodyTree : Type 0 where
  note : (key text : List ℕ) → BodyTree
  action : (name : List ℕ) (text : Option (List ℕ)) (items : List ItemTree) → BodyTree
  procedure : (name : List ℕ) (uses : Option (List (List ℕ))) → BodyTree
  data_block : (name : List ℕ) → BodyTree
  end_data : BodyTree
  crc : ℕ → BodyTree
  end_procedure : BodyTree
  boolean : (name : List ℕ) → Option Bool → BodyTree
  boolean_array : (name : List ℕ) (size : ℤ) → Option (List Bool) → BodyTree
  integer : (name : List ℕ) → Option ℤ → BodyTree
  integer_array : (name : List ℕ) (size : ℤ) → Option (List ℤ) → BodyTree
  assign : (name : List ℕ) → ExprTree → BodyTree
  assign_element : (name : List ℕ) (index : ExprTree) → ExprTree → BodyTree
  assign_array : (name : List ℕ) → ArrayTree → BodyTree
  assign_range : (name : List ℕ) (high low : ExprTree) → ArrayTree → BodyTree
  call : (name : List ℕ) → BodyTree
  goto : (name : List ℕ) → BodyTree
  if_then : ExprTree → BodyTree → BodyTree
  for_loop : (name : List ℕ) (from to : ExprTree) (step : Option ExprTree) → BodyTree
  next : (name : List ℕ) → BodyTree
  push : ExprTree → BodyTree
  pop : (cell : ExprTree) → BodyTree
  print : List PartTree → BodyTree
  export : (key : List ℕ) → ExportTree → BodyTree
  exit : ExprTree → BodyTree
  scan : Register → (count : ExprTree) (source : ArrayTree) (target : Option ArrayTree) → Option CompareTree → BodyTree
  stop : Register → (state : ℕ) → BodyTree
  pad : Padding → (count : ExprTree) → Option ArrayTree → BodyTree
  state_list : (states : List ℕ) → BodyTree
  wait_cycles : (state : Option ℕ) (cycles : ExprTree) (usec : Option ExprTree) (last : Option ℕ) → BodyTree
  wait_usec : (state : Option ℕ) (usec : ExprTree) (last : Option ℕ) → BodyTree
  frequency : Option ExprTree → BodyTree

-- a statement, with the name of its label
pub record StmtTree : Type 0 where
  pub label : Option (List ℕ)
  pub body : BodyTree

abbrev mutual
  pub expr_tree : Expr → ExprTree
  expr_tree (exprs.Number n) = number n
  expr_tree (exprs.Scalar v) = scalar v
  expr_tree (exprs.Element' v p e) = element (box_value v) (expr_tree e)
  expr_tree (exprs.Unary' op p e) = unary op (expr_tree e)
  expr_tree (exprs.Binary' op p a q b) = binary op (expr_tree a) (expr_tree b)
  expr_tree (exprs.Abs' p e) = abs (expr_tree e)
  expr_tree (exprs.Int' p a) = int (array_tree a)

  pub array_tree : ArrayExpr → ArrayTree
  array_tree (arrays.Literal bits) = literal bits
  array_tree (arrays.Whole v) = whole v
  array_tree (arrays.Range' v p a q b) = range (box_value v) (expr_tree a) (expr_tree b)
  array_tree (arrays.OfInt' p e) = of_int (expr_tree e)

abbrev pub item_tree : Item → ItemTree
item_tree item = (item.procedure, item.choice)

abbrev pub part_tree : PrintPart → PartTree
part_tree (parts.Text bytes) = string bytes
part_tree (parts.Value e) = value (expr_tree e)
part_tree (parts.Character e) = character (expr_tree e)

abbrev pub export_tree : Exported → ExportTree
export_tree (exported.Value e) = exported_value (expr_tree e)
export_tree (exported.Array a) = exported_array (array_tree a)

abbrev pub compare_tree : Compare → CompareTree
compare_tree c = (array_tree c.expected, (array_tree c.mask, expr_tree c.cell))

abbrev pub scan_tree : Scan → BodyTree
scan_tree s = scan s.register (expr_tree s.length) (array_tree s.source) (option_map (λ a. array_tree (box_value a)) s.target) (option_map (λ c. compare_tree (box_value c)) s.compare)

abbrev pub body_tree : Body → BodyTree
body_tree (bodies.Note key text) = note key text
body_tree (bodies.Action v text items) = action (box_value v) text (map item_tree (box_value items))
body_tree (bodies.Procedure v uses) = procedure v (option_map box_value uses)
body_tree (bodies.Data v) = data_block v
body_tree bodies.EndData = end_data
body_tree (bodies.Crc n) = crc n
body_tree bodies.EndProcedure = end_procedure
body_tree (bodies.Boolean v start) = boolean v start
body_tree (bodies.BooleanArray v n bits) = boolean_array v n (option_map box_value bits)
body_tree (bodies.Integer v start) = integer v start
body_tree (bodies.IntegerArray v n values) = integer_array v n (option_map box_value values)
body_tree (bodies.Assign v e) = assign v (expr_tree (box_value e))
body_tree (bodies.AssignElement v i e) = assign_element v (expr_tree (box_value i)) (expr_tree (box_value e))
body_tree (bodies.AssignArray v a) = assign_array v (array_tree (box_value a))
body_tree (bodies.AssignRange v h l a) = assign_range (box_value v) (expr_tree (box_value h)) (expr_tree (box_value l)) (array_tree (box_value a))
body_tree (bodies.Call v) = call v
body_tree (bodies.Goto v) = goto v
body_tree (bodies.If' e p b) = if_then (expr_tree e) (body_tree b)
body_tree (bodies.For v a b c) = for_loop (box_value v) (expr_tree (box_value a)) (expr_tree (box_value b)) (option_map (λ e. expr_tree (box_value e)) c)
body_tree (bodies.Next v) = next v
body_tree (bodies.Push e) = push (expr_tree e)
body_tree (bodies.Pop e) = pop (expr_tree e)
body_tree (bodies.Print list) = print (map part_tree list)
body_tree (bodies.Export key x) = export key (export_tree (box_value x))
body_tree (bodies.Exit e) = exit (expr_tree e)
body_tree (bodies.Scan s) = scan_tree (box_value s)
body_tree (bodies.Stop k state) = stop k state
body_tree (bodies.Pad k e a) = pad k (expr_tree (box_value e)) (option_map (λ a. array_tree (box_value a)) a)
body_tree (bodies.State states) = state_list states
body_tree (bodies.WaitCycles k e u l) = wait_cycles k (expr_tree (box_value e)) (option_map (λ e. expr_tree (box_value e)) u) l
body_tree (bodies.WaitUsec k e l) = wait_usec k (expr_tree e) l
body_tree (bodies.Frequency e) = frequency (option_map (λ e. expr_tree (box_value e)) e)

abbrev pub stmt_tree : Stmt → StmtTree
stmt_tree st = record { label = option_map box_value st.label; body = body_tree st.body }

-- the trees of statements
abbrev pub trees : List Stmt → List StmtTree
trees statements = map stmt_tree statements
