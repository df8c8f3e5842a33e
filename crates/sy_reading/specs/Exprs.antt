-- Readers of expressions, their arguments, and lambdas.
use Rattle.std.specs.Prelude.{ℕ, zero, suc, ◌+◌, max, Bool, true, false, not, ◌&&◌, ◌||◌, if◌then◌else◌, nat_lt, List, [], ◌∷◌, ◌++◌, length, Option, Some, None, codes}
use Rattle.std.specs.Str.{bytes_eq}
use Rattle.sy_lex.specs.declared.Row.TheVariants as row
use Rattle.sy_lex.specs.declared.Token.{Token}
use Rattle.sy_note.specs.declared.Spot.{Spot}
use Rattle.sy_num.specs.declared.UnOp.{UnOp}
use Rattle.sy_tree.specs.declared.operators.Operator.{Operator}
use Rattle.sy_tree.specs.declared.parts.AccessTag.{AccessTag}
use Rattle.sy_tree.specs.declared.parts.FunctionObject.{FunctionObject}
use Rattle.sy_tree.specs.declared.parts.IntegerType.{IntegerType}
use Rattle.sy_tree.specs.declared.parts.Lexeme.{Lexeme}
use Rattle.sy_tree.specs.declared.parts.LibraryFunction.{LibraryFunction}
use Rattle.sy_tree.specs.declared.parts.Qualified.{Qualified}
use Rattle.sy_tree.specs.declared.parts.Step.{Step}
use Rattle.sy_tree.specs.declared.tree.Argument.{Argument}
use Rattle.sy_tree.specs.declared.tree.Argument.TheVariants as argument
use Rattle.sy_tree.specs.declared.tree.Block.{Block}
use Rattle.sy_tree.specs.declared.tree.Expr.{Expr}
use Rattle.sy_tree.specs.declared.tree.Expr.TheVariants as tree
use Rattle.sy_tree.specs.declared.tree.Lambda.{Lambda}
use Rattle.sy_tree.specs.declared.tree.Stmt.{Stmt}
use Rattle.sy_tree.specs.Words.{level}
use Rattle.sy_reading.specs.Input.{Reader, WithHeight, ◌>>=◌, ◌>>◌, pure, refuse, check_height, next, sees, sees_row, sees_namespace, mark_text, expect, advance, expect_row, expect_name, qualified_name, comma_list, maybe_comma_list}
use Rattle.sy_reading.specs.Parts.{expect_open, closing_text, expect_close, empty_brackets, integral, one_word, sees_type, object_by, one_capture, maybe_parameters, maybe_template_argument}
use Rattle.sy_reading.specs.Tables.{unary_of, step_of, operator_of, tag_of, object_of, function_of}

-- how tightly a mark binds what stands before it: 1 `?`, 2 to 11 the operators with two operands, 13 what goes on with a
-- primary expression, and 0 what doesn't go on with an expression
abbrev pub binds_as : Option Operator → List ℕ → ℕ
binds_as (Some o) text = level o
binds_as None text = if bytes_eq text (codes "?") then 1
    else (if bytes_eq text (codes "(") || bytes_eq text (codes "[") || bytes_eq text (codes ".") || bytes_eq text (codes "::") || bytes_eq text (codes "++") || bytes_eq text (codes "--") then 13 else 0)

unfoldable pub binds_by : List ℕ → ℕ
binds_by text = binds_as (operator_of text) text

unfoldable pub binds : List Token → ℕ
binds ts = binds_by (mark_text ts)

-- whether a cast comes next, and not an expression in parentheses
unfoldable pub sees_cast : List Token → Bool
sees_cast ts = sees row.Mark (codes "(") ts && sees_type (next ts) && not (sees row.Mark (codes "(") (next (next ts)))

-- A chain has a level for each of its operators, and so takes no more turns.
abbrev pub turns : ℕ
turns = 65

-- The readers of the expressions, from that level on, and of the statements below.
module _ (expr : ℕ → Reader (WithHeight Expr)) (stmt : Reader (WithHeight Stmt)) where
  -- ---- blocks and lambdas

  -- stmt*, up to the bracket; the number bounds the turns
  unfoldable pub statements : ℕ → List Stmt → ℕ → Reader (WithHeight (List Stmt))
  statements zero xs h = refuse
  statements (suc n) xs h = λ ts. if sees row.Mark (codes "}") ts then Some ((xs, h), ts) else (do x ← stmt; statements n (xs ++ x.0 ∷ []) (max h x.1)) ts

  abbrev pub all_statements : Reader (WithHeight (List Stmt))
  all_statements = λ ts. statements (length ts) [] 0 ts

  -- block
  unfoldable pub one_block : Reader (WithHeight Block)
  one_block = do
    s ← expect row.Mark (codes "{")
    xs ← all_statements
    e ← expect row.Mark (codes "}")
    check_height (record { spot = s; statements = xs.0; close = e }) xs.1

  -- lambda
  unfoldable pub one_lambda : Reader (WithHeight Lambda)
  one_lambda = do
    s ← expect row.Mark (codes "[")
    cs ← maybe_comma_list one_capture (codes "]")
    expect row.Mark (codes "]")
    ps ← maybe_parameters
    b ← one_block
    check_height (record { spot = s; captures = cs.0; parameters = ps; body = b.0 }) b.1

  -- ---- arguments

  -- "{" list(expr) "}"
  unfoldable pub braced_list : Reader (WithHeight Argument)
  braced_list = do
    s ← expect row.Mark (codes "{")
    xs ← comma_list (expr 1)
    e ← expect row.Mark (codes "}")
    pure (argument.Braced s xs.0 e, xs.1)

  -- arg
  unfoldable pub one_argument : Reader (WithHeight Argument)
  one_argument = λ ts. if sees row.Mark (codes "{") ts then braced_list ts
      else (if sees row.Mark (codes "[") ts then (do l ← one_lambda; pure (argument.Lambda l.0, l.1)) ts
      else (do x ← expr 1; pure (argument.Value x.0, x.1)) ts)

  -- list(arg)?, up to that mark
  unfoldable pub arguments : List ℕ → Reader (WithHeight (List Argument))
  arguments close = maybe_comma_list one_argument close

  -- "(" expr ")", with the place of the bracket at its end
  unfoldable pub parenthesis : Reader (WithHeight Expr × Spot)
  parenthesis = do
    expect row.Mark (codes "(")
    x ← expr 1
    e ← expect row.Mark (codes ")")
    pure (x, e)

  -- ---- primary expressions

  unfoldable pub parenthesis_expr : Reader (WithHeight Expr)
  parenthesis_expr = do
    s ← expect row.Mark (codes "(")
    x ← expr 1
    e ← expect row.Mark (codes ")")
    check_height (tree.Parenthesized s x.0 e) x.1

  -- IDENT | IDENT "(" list(expr)? ")"
  unfoldable pub function_call : Lexeme → Reader (WithHeight Expr)
  function_call f = do
    expect row.Mark (codes "(")
    xs ← maybe_comma_list (expr 1) (codes ")")
    e ← expect row.Mark (codes ")")
    check_height (tree.Call f xs.0 e) xs.1

  unfoldable pub named_primary : Reader (WithHeight Expr)
  named_primary = do
    x ← expect_row row.Ident
    λ ts. if sees row.Mark (codes "(") ts then function_call x ts else check_height (tree.Name x) 0 ts

  -- "static_cast" "<" ktype ">" "(" expr ")"
  unfoldable pub static_cast : Reader (WithHeight Expr)
  static_cast = do
    s ← expect row.Reserved (codes "static_cast")
    expect row.Mark (codes "<")
    t ← integral
    expect row.Mark (codes ">")
    p ← parenthesis
    check_height (tree.StaticCast s t p.0.0 p.1) p.0.1

  -- word "(" expr ")"
  unfoldable pub functional_cast : Reader (WithHeight Expr)
  functional_cast = do
    t ← one_word
    p ← parenthesis
    check_height (tree.FunctionalCast t p.0.0 p.1) p.0.1

  unfoldable pub reserved_primary : Reader (WithHeight Expr)
  reserved_primary = λ ts. if sees row.Reserved (codes "true") ts then (do s ← expect row.Reserved (codes "true"); check_height (tree.Boolean s true) 0) ts
      else (if sees row.Reserved (codes "false") ts then (do s ← expect row.Reserved (codes "false"); check_height (tree.Boolean s false) 0) ts
      else (if sees row.Reserved (codes "static_cast") ts then static_cast ts else functional_cast ts))

  -- otype with its arguments, after its name
  unfoldable pub construct : Qualified → List ℕ → Reader (WithHeight Expr)
  construct q text = do
    t ← object_by q text
    b ← expect_open
    xs ← arguments (closing_text b.0)
    e ← expect_close b.0
    check_height (tree.Construct t b.0 b.1 xs.0 e) xs.1

  unfoldable pub in_order : Qualified → Reader (WithHeight Expr)
  in_order q = do
    expect row.Ident (codes "queue")
    expect row.Mark (codes "::")
    expect row.Ident (codes "in_order")
    b ← empty_brackets
    check_height (tree.InOrder q b.0 b.1) 0

  unfoldable pub initialize_to_identity : Qualified → Reader (WithHeight Expr)
  initialize_to_identity q = do
    expect row.Ident (codes "reduction")
    expect row.Mark (codes "::")
    expect row.Ident (codes "initialize_to_identity")
    b ← empty_brackets
    check_height (tree.InitializeToIdentity q b.0 b.1) 0

  unfoldable pub property : Qualified → Reader (WithHeight Expr)
  property q = do
    expect row.Mark (codes "::")
    λ ts. if sees row.Ident (codes "queue") ts then in_order q ts else initialize_to_identity q ts

  unfoldable pub group_barrier : Qualified → Reader (WithHeight Expr)
  group_barrier q = do
    p ← parenthesis
    check_height (tree.GroupBarrier q p.0.0 p.1) p.0.1

  unfoldable pub error_code : Qualified → Reader (WithHeight Expr)
  error_code q = do
    expect row.Mark (codes "::")
    x ← expect_row row.Ident
    check_height (tree.ErrorCode q x) 0

  -- ktype?, up to ">"
  unfoldable pub maybe_integral : Reader (Option IntegerType)
  maybe_integral = λ ts. if sees row.Mark (codes ">") ts then Some (None, ts) else (do t ← integral; pure (Some t)) ts

  unfoldable pub function_object : Qualified → FunctionObject → Reader (WithHeight Expr)
  function_object q f = do
    expect row.Mark (codes "<")
    t ← maybe_integral
    expect row.Mark (codes ">")
    b ← empty_brackets
    check_height (tree.FunctionObject q f t b.0 b.1) 0

  unfoldable pub library_call : Qualified → LibraryFunction → Reader (WithHeight Expr)
  library_call q f = do
    expect row.Mark (codes "(")
    xs ← arguments (codes ")")
    e ← expect row.Mark (codes ")")
    check_height (tree.LibraryCall q f xs.0 e) xs.1

  -- a name of the library that is no access tag, no function object and no function with a value
  unfoldable pub other_name : Qualified → List ℕ → Reader (WithHeight Expr)
  other_name q text = if bytes_eq text (codes "group_barrier") then group_barrier q
      else (if bytes_eq text (codes "property") then property q
      else (if bytes_eq text (codes "errc") then error_code q else construct q text))

  abbrev pub function_or : Qualified → List ℕ → Option LibraryFunction → Reader (WithHeight Expr)
  function_or q text (Some f) = library_call q f
  function_or q text None = other_name q text

  abbrev pub object_or : Qualified → List ℕ → Option FunctionObject → Reader (WithHeight Expr)
  object_or q text (Some f) = function_object q f
  object_or q text None = function_or q text (function_of text)

  abbrev pub tag_or : Qualified → List ℕ → Option AccessTag → Reader (WithHeight Expr)
  tag_or q text (Some t) = check_height (tree.AccessTag q t) 0
  tag_or q text None = object_or q text (object_of text)

  unfoldable pub library_by : Qualified → List ℕ → Reader (WithHeight Expr)
  library_by q text = tag_or q text (tag_of text)

  unfoldable pub library : Reader (WithHeight Expr)
  library = do
    p ← expect_name (codes "sycl")
    library_by (qualified_name p) p.1.text

  unfoldable pub primary : Reader (WithHeight Expr)
  primary = λ ts. if sees_row row.Int ts then (do x ← expect_row row.Int; check_height (tree.Integer x) 0) ts
      else (if sees_row row.Char ts then (do x ← expect_row row.Char; check_height (tree.Character x) 0) ts
      else (if sees_row row.Reserved ts then reserved_primary ts
      else (if sees row.Mark (codes "(") ts then parenthesis_expr ts
      else (if sees_namespace (codes "sycl") ts then library ts else named_primary ts))))

  -- ---- postfix expressions

  unfoldable pub subscript : WithHeight Expr → Reader (WithHeight Expr)
  subscript a = do
    s ← expect row.Mark (codes "[")
    x ← expr 1
    e ← expect row.Mark (codes "]")
    check_height (tree.Subscript a.0 s x.0 e) (max a.1 x.1)

  unfoldable pub member : WithHeight Expr → Reader (WithHeight Expr)
  member a = do
    expect row.Mark (codes ".")
    x ← expect_row row.Ident
    t ← maybe_template_argument x.text
    expect row.Mark (codes "(")
    xs ← arguments (codes ")")
    e ← expect row.Mark (codes ")")
    check_height (tree.MemberCall a.0 x t xs.0 e) (max a.1 xs.1)

  abbrev pub postfix_step_as : WithHeight Expr → Option Step → Reader (WithHeight Expr)
  postfix_step_as a None = refuse
  postfix_step_as a (Some o) = do
    s ← advance
    check_height (tree.Postfix a.0 s o) a.1

  unfoldable pub postfix_step : WithHeight Expr → Reader (WithHeight Expr)
  postfix_step a = λ ts. postfix_step_as a (step_of (mark_text ts)) ts

  unfoldable pub postfix : WithHeight Expr → Reader (WithHeight Expr)
  postfix a = λ ts. if sees row.Mark (codes "[") ts then subscript a ts
      else (if sees row.Mark (codes ".") ts then member a ts else postfix_step a ts)

  unfoldable pub postfixes : ℕ → WithHeight Expr → Reader (WithHeight Expr)
  postfixes zero a = refuse
  postfixes (suc n) a = λ ts. if nat_lt (binds ts) 13 then Some (a, ts) else (do b ← postfix a; postfixes n b) ts

  -- ---- unary expressions

  unfoldable pub whole_postfix : Reader (WithHeight Expr)
  whole_postfix = primary >>= postfixes turns

  unfoldable pub cast : Reader (WithHeight Expr)
  cast = do
    s ← expect row.Mark (codes "(")
    t ← integral
    expect row.Mark (codes ")")
    a ← expr 12
    check_height (tree.Cast s t a.0) a.1

  unfoldable pub prefix_step : Step → Reader (WithHeight Expr)
  prefix_step o = do
    s ← advance
    a ← expr 12
    check_height (tree.Prefix s o a.0) a.1

  unfoldable pub unary : UnOp → Reader (WithHeight Expr)
  unary o = do
    s ← advance
    a ← expr 12
    check_height (tree.Unary s o a.0) a.1

  unfoldable pub cast_or_postfix : Reader (WithHeight Expr)
  cast_or_postfix = λ ts. if sees_cast ts then cast ts else whole_postfix ts

  abbrev pub unary_or : Option UnOp → Reader (WithHeight Expr)
  unary_or (Some o) = unary o
  unary_or None = cast_or_postfix

  abbrev pub step_or : Option Step → List ℕ → Reader (WithHeight Expr)
  step_or (Some o) text = prefix_step o
  step_or None text = unary_or (unary_of text)

  unfoldable pub prefix : Reader (WithHeight Expr)
  prefix = λ ts. step_or (step_of (mark_text ts)) (mark_text ts) ts

  -- ---- operators with two operands

  unfoldable pub binary : Operator → WithHeight Expr → Reader (WithHeight Expr)
  binary o a = do
    s ← advance
    b ← expr (level o + 1)
    check_height (tree.Binary a.0 s o b.0) (max a.1 b.1)

  unfoldable pub conditional : WithHeight Expr → Reader (WithHeight Expr)
  conditional a = do
    s ← expect row.Mark (codes "?")
    b ← expr 1
    expect row.Mark (codes ":")
    c ← expr 1
    check_height (tree.Conditional a.0 s b.0 c.0) (max a.1 (max b.1 c.1))

  abbrev pub binary_as : WithHeight Expr → Option Operator → Reader (WithHeight Expr)
  binary_as a None = refuse
  binary_as a (Some o) = binary o a

  unfoldable pub operation : WithHeight Expr → Reader (WithHeight Expr)
  operation a = λ ts. if sees row.Mark (codes "?") ts then conditional a ts else binary_as a (operator_of (mark_text ts)) ts

  unfoldable pub climb : ℕ → ℕ → WithHeight Expr → Reader (WithHeight Expr)
  climb zero least a = refuse
  climb (suc n) least a = λ ts. if nat_lt (binds ts) least then Some (a, ts) else (do b ← operation a; climb n least b) ts

  unfoldable pub chain : ℕ → Reader (WithHeight Expr)
  chain least = prefix >>= climb turns least
