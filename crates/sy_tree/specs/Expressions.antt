-- Expressions, their arguments, and lambdas.
use Rattle.std.specs.Prelude.{ℕ, ◌+◌, ◌≤◌, true, false, List}
use Rattle.sy_lex.specs.declared.Row.TheVariants as row
use Rattle.sy_lex.specs.declared.Token.{Token}
use Rattle.sy_note.specs.declared.Spot.{Spot}
use Rattle.sy_tree.specs.declared.parts.Brackets.{Brackets}
use Rattle.sy_tree.specs.declared.tree.Argument.{Argument, out-Argument}
use Rattle.sy_tree.specs.declared.tree.Argument.TheOpen.{Argument-F, Expr-F}
use Rattle.sy_tree.specs.declared.tree.Block.{Block}
use Rattle.sy_tree.specs.declared.tree.Expr.{Expr}
use Rattle.sy_tree.specs.declared.tree.FullExpression.{FullExpression}
use Rattle.sy_tree.specs.declared.tree.Lambda.{Lambda}
use Rattle.sy_tree.specs.declared.tree.Stmt.{Stmt}
use Rattle.sy_tree.specs.Layers.{ArgumentLayer, ExprLayer, LambdaLayer}
use Rattle.sy_tree.specs.Lists.{Rule, Optional, Listed, MaybeListed}
use Rattle.sy_tree.specs.Types.{Integral, OneWordIntegral, Object, Captured, LambdaParameters, TemplateArguments}
use Rattle.sy_tree.specs.Words.{At, Sees, Lexed, Identifier, Sycl, mark, keyword, identifier, spelling, level, unary_spelling, step_spelling, opening, closing, tag_spelling, object_spelling, function_spelling}

-- What counts for the height of a tree. An expression is given with the loosest level at which it may stand: 1 where any
-- may, 2 to 11 for the operators with two operands, 12 for unary and 13 for postfix expressions.
pub data Node : Type 0 where
  an_expr : ℕ → Expr → Node
  a_lambda : Lambda → Node
  a_full : FullExpression → Node
  a_block : Block → Node
  a_stmt : Stmt → Node

-- `Sub` says of the nodes below which tokens are theirs.
module _ (Sub : Rule Node) where
  -- expr
  abbrev pub AnyExpr : Rule Expr
  AnyExpr x from rest = Sub (an_expr 1 x) from rest

  -- "(" expr ")", without the places
  abbrev pub InParentheses : Rule Expr
  InParentheses x from rest = (m k : List Token) × Sees (mark "(") from m × AnyExpr x m k × Sees (mark ")") k rest

  abbrev pub ArgumentRule : ArgumentLayer → List Token → List Token → Type 0
  -- expr
  ArgumentRule (Argument-F.Value x) from rest = AnyExpr x from rest
  -- "{" list(expr) "}"
  ArgumentRule (Argument-F.Braced s xs e) from rest = (m k : List Token) ×
      At (mark "{") s from m × Listed AnyExpr xs m k × At (mark "}") e k rest
  -- lambda
  ArgumentRule (Argument-F.Lambda l) from rest = Sub (a_lambda l) from rest

  -- arg
  abbrev pub OneArgument : Rule Argument
  OneArgument a from rest = ArgumentRule (out-Argument a) from rest

  -- "{" list(arg)? "}" | "(" list(arg)? ")"
  abbrev pub BracketedArguments : Brackets → Spot → List Argument → Spot → List Token → List Token → Type 0
  BracketedArguments b s xs e from rest = (m k : List Token) ×
      At (mark (opening b)) s from m × MaybeListed OneArgument xs m k × At (mark (closing b)) e k rest

  abbrev pub ExprRule : ℕ → ExprLayer → List Token → List Token → Type 0
  -- ---- primary
  -- INT
  ExprRule least (Expr-F.Integer x) from rest = Lexed row.Int x from rest
  -- CHAR
  ExprRule least (Expr-F.Character x) from rest = Lexed row.Char x from rest
  -- "true" | "false"
  ExprRule least (Expr-F.Boolean s true) from rest = At (keyword "true") s from rest
  ExprRule least (Expr-F.Boolean s false) from rest = At (keyword "false") s from rest
  -- IDENT
  ExprRule least (Expr-F.Name x) from rest = Identifier x from rest
  -- IDENT "(" list(expr)? ")"
  ExprRule least (Expr-F.Call f xs e) from rest = (m k i : List Token) ×
      Identifier f from m × Sees (mark "(") m k × MaybeListed AnyExpr xs k i × At (mark ")") e i rest
  -- "(" expr ")"
  ExprRule least (Expr-F.Parenthesized s x e) from rest = (m k : List Token) ×
      At (mark "(") s from m × AnyExpr x m k × At (mark ")") e k rest
  -- "static_cast" "<" ktype ">" "(" expr ")"
  ExprRule least (Expr-F.StaticCast s t x e) from rest = (m k i j p q : List Token) ×
      At (keyword "static_cast") s from m × Sees (mark "<") m k × Integral t k i × Sees (mark ">") i j ×
      Sees (mark "(") j p × AnyExpr x p q × At (mark ")") e q rest
  -- word "(" expr ")"
  ExprRule least (Expr-F.FunctionalCast t x e) from rest = (m k i : List Token) ×
      OneWordIntegral t from m × Sees (mark "(") m k × AnyExpr x k i × At (mark ")") e i rest
  -- otype ("{" list(arg)? "}" | "(" list(arg)? ")")
  ExprRule least (Expr-F.Construct t b s xs e) from rest = (m : List Token) ×
      Object t from m × BracketedArguments b s xs e m rest
  -- T(group_barrier) "(" expr ")"
  ExprRule least (Expr-F.GroupBarrier q x e) from rest = (m k i : List Token) ×
      Sycl "group_barrier" q from m × Sees (mark "(") m k × AnyExpr x k i × At (mark ")") e i rest
  -- T(read_only) | T(write_only) | T(read_write) | T(no_init)
  ExprRule least (Expr-F.AccessTag q t) from rest = Sycl (tag_spelling t) q from rest
  -- T(property) "::" "queue" "::" "in_order" ("{" "}" | "(" ")")
  ExprRule least (Expr-F.InOrder q b e) from rest = (m k i j p u : List Token) ×
      Sycl "property" q from m × Sees (mark "::") m k × Sees (identifier "queue") k i × Sees (mark "::") i j ×
      Sees (identifier "in_order") j p × Sees (mark (opening b)) p u × At (mark (closing b)) e u rest
  -- T(errc) "::" IDENT
  ExprRule least (Expr-F.ErrorCode q x) from rest = (m k : List Token) ×
      Sycl "errc" q from m × Sees (mark "::") m k × Identifier x k rest
  -- T(property) "::" "reduction" "::" "initialize_to_identity" ("{" "}" | "(" ")")
  ExprRule least (Expr-F.InitializeToIdentity q b e) from rest = (m k i j p u : List Token) ×
      Sycl "property" q from m × Sees (mark "::") m k × Sees (identifier "reduction") k i × Sees (mark "::") i j ×
      Sees (identifier "initialize_to_identity") j p × Sees (mark (opening b)) p u × At (mark (closing b)) e u rest
  -- T(opname) "<" ktype? ">" ("{" "}" | "(" ")")
  ExprRule least (Expr-F.FunctionObject q f t b e) from rest = (m k i j p : List Token) ×
      Sycl (object_spelling f) q from m × Sees (mark "<") m k × Optional Integral t k i × Sees (mark ">") i j ×
      Sees (mark (opening b)) j p × At (mark (closing b)) e p rest
  -- T(libcall) "(" list(arg)? ")"
  ExprRule least (Expr-F.LibraryCall q f xs e) from rest = (m k i : List Token) ×
      Sycl (function_spelling f) q from m × Sees (mark "(") m k × MaybeListed OneArgument xs k i × At (mark ")") e i rest
  -- ---- postfix
  -- postfix "[" expr "]"
  ExprRule least (Expr-F.Subscript a s x e) from rest = (m k i : List Token) ×
      Sub (an_expr 13 a) from m × At (mark "[") s m k × AnyExpr x k i × At (mark "]") e i rest
  -- postfix "." IDENT targ? "(" list(arg)? ")"
  ExprRule least (Expr-F.MemberCall a x t xs e) from rest = (m k i j p q : List Token) ×
      Sub (an_expr 13 a) from m × Sees (mark ".") m k × Identifier x k i × Optional (TemplateArguments x) t i j ×
      Sees (mark "(") j p × MaybeListed OneArgument xs p q × At (mark ")") e q rest
  -- postfix ("++" | "--")
  ExprRule least (Expr-F.Postfix a s o) from rest = (m : List Token) ×
      Sub (an_expr 13 a) from m × At (mark (step_spelling o)) s m rest
  -- ---- unary
  -- ("++" | "--") unary
  ExprRule least (Expr-F.Prefix s o a) from rest = (least ≤ 12) × ((m : List Token) ×
      At (mark (step_spelling o)) s from m × Sub (an_expr 12 a) m rest)
  -- ("+" | "-" | "!" | "~") unary
  ExprRule least (Expr-F.Unary s o a) from rest = (least ≤ 12) × ((m : List Token) ×
      At (mark (unary_spelling o)) s from m × Sub (an_expr 12 a) m rest)
  -- "(" ktype ")" unary
  ExprRule least (Expr-F.Cast s t a) from rest = (least ≤ 12) × ((m k i : List Token) ×
      At (mark "(") s from m × Integral t m k × Sees (mark ")") k i × Sub (an_expr 12 a) i rest)
  -- ---- two operands
  -- A chain groups to the left: its left side may be of the same level, and its right side is tighter.
  ExprRule least (Expr-F.Binary a s o b) from rest = (least ≤ level o) × ((m k : List Token) ×
      Sub (an_expr (level o) a) from m × At (mark (spelling o)) s m k × Sub (an_expr (level o + 1) b) k rest)
  -- lor "?" expr ":" expr
  ExprRule least (Expr-F.Conditional a s b c) from rest = (least ≤ 1) × ((m k i j : List Token) ×
      Sub (an_expr 2 a) from m × At (mark "?") s m k × AnyExpr b k i × Sees (mark ":") i j × AnyExpr c j rest)

  -- "[" list(cap)? "]" ("(" list(lparam)? ")")? block
  abbrev pub LambdaRule : LambdaLayer → List Token → List Token → Type 0
  LambdaRule l from rest = (m k i j : List Token) ×
      At (mark "[") l.spot from m × MaybeListed Captured l.captures m k × Sees (mark "]") k i ×
      Optional LambdaParameters l.parameters i j × Sub (a_block l.body) j rest
