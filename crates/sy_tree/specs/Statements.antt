-- Statements and blocks.
use Rattle.std.specs.Prelude.{List, Some, None}
use Rattle.sy_lex.specs.declared.Row.TheVariants as row
use Rattle.sy_lex.specs.declared.Token.{Token}
use Rattle.sy_tree.specs.declared.tree.Argument.TheOpen.{FullExpression-F, Printed-F, Stmt-F}
use Rattle.sy_tree.specs.declared.tree.Block.{out-Block}
use Rattle.sy_tree.specs.declared.tree.Declaration.{out-Declaration}
use Rattle.sy_tree.specs.declared.tree.FullExpression.{FullExpression, out-FullExpression}
use Rattle.sy_tree.specs.declared.tree.Printed.{Printed, out-Printed}
use Rattle.sy_tree.specs.declared.tree.Stmt.{Stmt, out-Stmt}
use Rattle.sy_tree.specs.declared.parts.Qualified.{Qualified}
use Rattle.sy_tree.specs.Declarations.{DeclarationRule}
use Rattle.sy_tree.specs.Expressions.{Node, an_expr, a_full, a_block, a_stmt, AnyExpr, InParentheses}
use Rattle.sy_tree.specs.Layers.{BlockLayer, FullExpressionLayer, PrintedLayer, StmtLayer}
use Rattle.sy_tree.specs.Lists.{Rule, Maybe, Optional, Each, OneOrMore}
use Rattle.sy_tree.specs.Types.{TypeSpecified}
use Rattle.sy_tree.specs.Words.{At, Sees, Lexed, Identifier, Std, Sycl, mark, keyword, assignment_spelling}

-- what a `for` may begin with
abbrev pub IsInitStatement : StmtLayer → Type 0
IsInitStatement (Stmt-F.Null s) = Unit
IsInitStatement (Stmt-F.Expression x e) = Unit
IsInitStatement (Stmt-F.Declaration d) = Unit
IsInitStatement _ = ⊥

module _ (Sub : Rule Node) where
  -- stmt, a node of its own
  abbrev pub Substatement : Rule Stmt
  Substatement x from rest = Sub (a_stmt x) from rest

  -- full, a node of its own
  abbrev pub AnyFull : Rule FullExpression
  AnyFull x from rest = Sub (a_full x) from rest

  -- "{" stmt* "}"
  abbrev pub BlockRule : BlockLayer → List Token → List Token → Type 0
  BlockRule b from rest = (m k : List Token) × At (mark "{") b.spot from m × Each Substatement b.statements m k × At (mark "}") b.close k rest

  abbrev pub FullRule : FullExpressionLayer → List Token → List Token → Type 0
  -- expr
  FullRule (FullExpression-F.Plain x) from rest = AnyExpr Sub x from rest
  -- expr asg expr
  FullRule (FullExpression-F.Assignment x s o y) from rest = (m k : List Token) ×
      AnyExpr Sub x from m × At (mark (assignment_spelling o)) s m k × AnyExpr Sub y k rest

  abbrev pub PrintedRule : PrintedLayer → List Token → List Token → Type 0
  -- "<<" add
  PrintedRule (Printed-F.Operand s x) from rest = (m : List Token) × At (mark "<<") s from m × Sub (an_expr 10 x) m rest
  -- "<<" STRING
  PrintedRule (Printed-F.Text s x) from rest = (m : List Token) × At (mark "<<") s from m × Lexed row.Str x m rest
  -- "<<" V(endl)
  PrintedRule (Printed-F.EndLine s q) from rest = (m : List Token) × At (mark "<<") s from m × Std "endl" q m rest

  abbrev pub OnePrinted : Rule Printed
  OnePrinted x from rest = PrintedRule (out-Printed x) from rest

  -- decl | full ";" | ";"
  abbrev pub InitStatement : Rule Stmt
  InitStatement x from rest = IsInitStatement (out-Stmt x) × Substatement x from rest

  abbrev pub StmtRule : StmtLayer → List Token → List Token → Type 0
  -- block, which is the same node
  StmtRule (Stmt-F.Compound b) from rest = BlockRule (out-Block b) from rest
  -- ";"
  StmtRule (Stmt-F.Null s) from rest = At (mark ";") s from rest
  -- decl, which is the same node
  StmtRule (Stmt-F.Declaration d) from rest = DeclarationRule Sub (out-Declaration d) from rest
  -- full ";", one node
  StmtRule (Stmt-F.Expression x e) from rest = (m : List Token) × FullRule (out-FullExpression x) from m × At (mark ";") e m rest
  -- V(cout) ("<<" (add | STRING | V(endl)))+ ";"
  StmtRule (Stmt-F.Print q xs e) from rest = (m k : List Token) ×
      Std "cout" q from m × OneOrMore OnePrinted xs m k × At (mark ";") e k rest
  -- "break" ";"
  StmtRule (Stmt-F.Break s e) from rest = (m : List Token) × At (keyword "break") s from m × At (mark ";") e m rest
  -- "continue" ";"
  StmtRule (Stmt-F.Continue s e) from rest = (m : List Token) × At (keyword "continue") s from m × At (mark ";") e m rest
  -- "return" expr? ";"
  StmtRule (Stmt-F.Return s x e) from rest = (m k : List Token) ×
      At (keyword "return") s from m × Optional (AnyExpr Sub) x m k × At (mark ";") e k rest
  -- "if" "(" expr ")" stmt, where no `else` follows: an `else` belongs to the nearest `if`
  StmtRule (Stmt-F.If s c x None) from rest = (m k : List Token) ×
      At (keyword "if") s from m × InParentheses Sub c m k × Substatement x k rest × ((after : List Token) → Sees (keyword "else") rest after → ⊥)
  -- "if" "(" expr ")" stmt "else" stmt
  StmtRule (Stmt-F.If s c x (Some y)) from rest = (m k i j : List Token) ×
      At (keyword "if") s from m × InParentheses Sub c m k × Substatement x k i × Sees (keyword "else") i j × Substatement y j rest
  -- "while" "(" expr ")" stmt
  StmtRule (Stmt-F.While s c x) from rest = (m k : List Token) ×
      At (keyword "while") s from m × InParentheses Sub c m k × Substatement x k rest
  -- "do" stmt "while" "(" expr ")" ";"
  StmtRule (Stmt-F.Do s x c e) from rest = (m k i j : List Token) ×
      At (keyword "do") s from m × Substatement x m k × Sees (keyword "while") k i × InParentheses Sub c i j × At (mark ";") e j rest
  -- "for" "(" (decl | full ";" | ";") expr? ";" full? ")" stmt
  StmtRule (Stmt-F.For s a c b x) from rest = (m k i j p u v : List Token) ×
      At (keyword "for") s from m × Sees (mark "(") m k × InitStatement a k i × Optional (AnyExpr Sub) c i j ×
      Sees (mark ";") j p × Optional AnyFull b p u × Sees (mark ")") u v × Substatement x v rest
  -- "for" "(" "const"? ("auto" | ktype) "&"? IDENT ":" IDENT ")" stmt
  StmtRule (Stmt-F.RangeFor s fixed t by_reference name range x) from rest = (m k i j p u v w : List Token) ×
      At (keyword "for") s from m × Sees (mark "(") m k × Maybe (keyword "const") fixed k i × TypeSpecified t i j ×
      Maybe (mark "&") by_reference j p × Identifier name p u × Sees (mark ":") u v ×
      ((z : List Token) × Identifier range v z × Sees (mark ")") z w × Substatement x w rest)
  -- "try" block "catch" "(" "const" T(exception) "&" IDENT ")" block
  StmtRule (Stmt-F.Try s b name c) from rest = (m k i j p u v w : List Token) × (q : Qualified) ×
      At (keyword "try") s from m × Sub (a_block b) m k × Sees (keyword "catch") k i × Sees (mark "(") i j ×
      Sees (keyword "const") j p × Sycl "exception" q p u × Sees (mark "&") u v ×
      ((z : List Token) × Identifier name v z × Sees (mark ")") z w × Sub (a_block c) w rest)
