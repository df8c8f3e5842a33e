-- Readers of declarations and statements.
use Rattle.std.specs.Prelude.{ℕ, zero, suc, max, Bool, not, ◌&&◌, ◌||◌, if◌then◌else◌, List, [], ◌∷◌, ◌++◌, length, Option, Some, None, codes}
use Rattle.std.specs.Str.{bytes_eq}
use Rattle.sy_lex.specs.declared.Row.TheVariants as row
use Rattle.sy_lex.specs.declared.Token.{Token}
use Rattle.sy_note.specs.declared.Spot.{Spot}
use Rattle.sy_tree.specs.declared.operators.AssignmentOperator.{AssignmentOperator}
use Rattle.sy_tree.specs.declared.parts.Brackets.{Brackets}
use Rattle.sy_tree.specs.declared.parts.Brackets.TheVariants as brackets
use Rattle.sy_tree.specs.declared.parts.Lexeme.{Lexeme}
use Rattle.sy_tree.specs.declared.parts.Qualified.{Qualified}
use Rattle.sy_tree.specs.declared.parts.TypeSpecifier.{TypeSpecifier}
use Rattle.sy_tree.specs.declared.tree.Argument.{Argument}
use Rattle.sy_tree.specs.declared.tree.Declaration.{Declaration}
use Rattle.sy_tree.specs.declared.tree.Declaration.TheVariants as declaration
use Rattle.sy_tree.specs.declared.tree.Declarator.{Declarator}
use Rattle.sy_tree.specs.declared.tree.Declarator.TheVariants as declarator
use Rattle.sy_tree.specs.declared.tree.Expr.{Expr}
use Rattle.sy_tree.specs.declared.tree.FullExpression.{FullExpression}
use Rattle.sy_tree.specs.declared.tree.FullExpression.TheVariants as f
use Rattle.sy_tree.specs.declared.tree.Initializer.{Initializer}
use Rattle.sy_tree.specs.declared.tree.Initializer.TheVariants as initializer
use Rattle.sy_tree.specs.declared.tree.Printed.{Printed}
use Rattle.sy_tree.specs.declared.tree.Printed.TheVariants as item
use Rattle.sy_tree.specs.declared.tree.Stmt.{Stmt}
use Rattle.sy_tree.specs.declared.tree.Stmt.TheVariants as t
use Rattle.sy_reading.specs.Input.{Reader, WithHeight, ◌>>=◌, ◌>>◌, pure, refuse, check_height, next, sees, sees_row, sees_namespace, mark_text, expect, advance, expect_row, eat, expect_name, within, qualified_name, comma_list}
use Rattle.sy_reading.specs.Parts.{expect_open, expect_close, integral, sees_type, type_specifier, const_specifier, object_type, declares_object}
use Rattle.sy_reading.specs.Tables.{assignment_of}
use Rattle.sy_reading.specs.Exprs.{one_block, one_lambda, one_argument, arguments}

-- what a range-for begins with: whether the element is const, its type, whether it is a reference, and its name
abbrev pub RangeHeader : Type 0
RangeHeader = (Bool × TypeSpecifier) × (Bool × Lexeme)

unfoldable pub range_header : Reader RangeHeader
range_header = do
  c ← eat row.Reserved (codes "const")
  t ← type_specifier
  r ← eat row.Mark (codes "&")
  x ← expect_row row.Ident
  expect row.Mark (codes ":")
  pure ((c, t), (r, x))

-- what is read, if it is there; else nothing is taken
abbrev pub attempt_of : {A : Type 0} → List Token → Option (A × List Token) → Option (Option A × List Token)
attempt_of ts None = Some (None, ts)
attempt_of ts (Some p) = Some (Some p.0, p.1)

unfoldable pub maybe_range_header : Reader (Option RangeHeader)
maybe_range_header ts = attempt_of ts (range_header ts)

-- whether a declaration of integers begins, and no cast
unfoldable pub declares_integers : List Token → Bool
declares_integers ts = sees row.Reserved (codes "const") ts || sees row.Reserved (codes "constexpr") ts || sees row.Reserved (codes "auto") ts
    || (sees_type ts && not (sees row.Mark (codes "(") (next ts)))

-- whether `std::cout` comes next
unfoldable pub sees_print : List Token → Bool
sees_print ts = sees_namespace (codes "std") ts && sees row.Ident (codes "cout") (next (next ts))

module _ (expr : ℕ → Reader (WithHeight Expr)) (stmt : Reader (WithHeight Stmt)) where
  -- ---- declarations

  unfoldable pub bracketed_declarator : Lexeme → Reader (WithHeight Declarator)
  bracketed_declarator x = do
    b ← expect_open
    v ← expr 1
    e ← expect_close b.0
    pure (declarator.Bracketed x b.0 b.1 v.0 e, v.1)

  unfoldable pub equal_declarator : Lexeme → Reader (WithHeight Declarator)
  equal_declarator x = do
    s ← expect row.Mark (codes "=")
    v ← expr 1
    pure (declarator.Equal x s v.0, v.1)

  -- kdecl
  unfoldable pub one_declarator : Reader (WithHeight Declarator)
  one_declarator = do
    x ← expect_row row.Ident
    λ ts. if sees row.Mark (codes "=") ts then equal_declarator x ts
        else (if sees row.Mark (codes "(") ts || sees row.Mark (codes "{") ts then bracketed_declarator x ts
        else Some ((declarator.Uninitialized x, 0), ts))

  unfoldable pub integers : Reader (WithHeight Declaration)
  integers = do
    c ← const_specifier
    t ← type_specifier
    ds ← comma_list one_declarator
    e ← expect row.Mark (codes ";")
    pure (declaration.Integers c t ds.0 e, ds.1)

  -- the arguments of an initializer: none only in braces
  unfoldable pub direct_arguments : Brackets → Reader (WithHeight (List Argument))
  direct_arguments brackets.Parentheses = comma_list (one_argument expr stmt)
  direct_arguments brackets.Braces = arguments expr stmt (codes "}")

  unfoldable pub direct_initializer : Reader (WithHeight Initializer)
  direct_initializer = do
    b ← expect_open
    xs ← direct_arguments b.0
    e ← expect_close b.0
    pure (initializer.Direct b.0 b.1 xs.0 e, xs.1)

  -- init?
  unfoldable pub maybe_initializer : Reader (WithHeight (Option Initializer))
  maybe_initializer = λ ts. if sees row.Mark (codes "=") ts then (do s ← expect row.Mark (codes "="); x ← expr 1; pure (Some (initializer.Copy s x.0), x.1)) ts
      else (if sees row.Mark (codes "(") ts || sees row.Mark (codes "{") ts then (do x ← direct_initializer; pure (Some x.0, x.1)) ts
      else Some ((None, 0), ts))

  unfoldable pub object_declaration : Reader (WithHeight Declaration)
  object_declaration = do
    t ← object_type
    x ← expect_row row.Ident
    v ← maybe_initializer
    e ← expect row.Mark (codes ";")
    pure (declaration.Object t x v.0 e, v.1)

  -- vectors, after the `<`
  unfoldable pub integer_vector : Qualified → Reader (WithHeight Declaration)
  integer_vector q = do
    t ← integral
    expect row.Mark (codes ">")
    x ← expect_row row.Ident
    v ← maybe_initializer
    e ← expect row.Mark (codes ";")
    pure (declaration.Vector q t x v.0 e, v.1)

  unfoldable pub device_vector : Qualified → Reader (WithHeight Declaration)
  device_vector q = do
    within (codes "sycl") (codes "device")
    expect row.Mark (codes ">")
    x ← expect_row row.Ident
    v ← maybe_initializer
    e ← expect row.Mark (codes ";")
    pure (declaration.DeviceVector q x v.0 e, v.1)

  unfoldable pub thread_vector : Qualified → Reader (WithHeight Declaration)
  thread_vector q = do
    within (codes "std") (codes "thread")
    expect row.Mark (codes ">")
    x ← expect_row row.Ident
    e ← expect row.Mark (codes ";")
    pure (declaration.ThreadVector q x e, 0)

  unfoldable pub vector : Qualified → Reader (WithHeight Declaration)
  vector q = do
    expect row.Mark (codes "<")
    λ ts. if sees_namespace (codes "std") ts then thread_vector q ts
        else (if sees_namespace (codes "sycl") ts then device_vector q ts else integer_vector q ts)

  unfoldable pub thread : Qualified → Reader (WithHeight Declaration)
  thread q = do
    x ← expect_row row.Ident
    b ← expect_open
    l ← one_lambda expr stmt
    expect_close b.0
    e ← expect row.Mark (codes ";")
    pure (declaration.Thread q x b.0 l.0 e, l.1)

  -- a declaration whose type is of the library of C++
  unfoldable pub standard_declaration : Reader (WithHeight Declaration)
  standard_declaration = do
    p ← expect_name (codes "std")
    if bytes_eq p.1.text (codes "vector") then vector (qualified_name p) else (if bytes_eq p.1.text (codes "thread") then thread (qualified_name p) else refuse)

  abbrev pub declaration_stmt : Reader (WithHeight Declaration) → Reader (WithHeight Stmt)
  declaration_stmt p = do
    d ← p
    check_height (t.Declaration d.0) d.1

  -- ---- expressions that are evaluated by themselves

  abbrev pub assignment_rest : WithHeight Expr → Option AssignmentOperator → Reader (WithHeight FullExpression)
  assignment_rest x None = pure (f.Plain x.0, x.1)
  assignment_rest x (Some o) = do
    s ← advance
    y ← expr 1
    pure (f.Assignment x.0 s o y.0, max x.1 y.1)

  -- the parts of a full, which is no node here
  unfoldable pub full_parts : Reader (WithHeight FullExpression)
  full_parts = do
    x ← expr 1
    λ ts. assignment_rest x (assignment_of (mark_text ts)) ts

  unfoldable pub full : Reader (WithHeight FullExpression)
  full = do
    x ← full_parts
    check_height x.0 x.1

  unfoldable pub expression : Reader (WithHeight Stmt)
  expression = do
    x ← full_parts
    e ← expect row.Mark (codes ";")
    check_height (t.Expression x.0 e) x.1

  unfoldable pub null : Reader (WithHeight Stmt)
  null = do
    s ← expect row.Mark (codes ";")
    check_height (t.Null s) 0

  -- what begins with a name of the library of SYCL
  unfoldable pub library_statement : Reader (WithHeight Stmt)
  library_statement = λ ts. if declares_object ts then declaration_stmt object_declaration ts else expression ts

  -- decl | full ";" | ";"
  unfoldable pub simple : Reader (WithHeight Stmt)
  simple = λ ts. if sees row.Mark (codes ";") ts then null ts
      else (if declares_integers ts then declaration_stmt integers ts
      else (if sees_namespace (codes "std") ts then declaration_stmt standard_declaration ts
      else (if sees_namespace (codes "sycl") ts then library_statement ts else expression ts)))

  -- ---- statements

  unfoldable pub compound : Reader (WithHeight Stmt)
  compound = do
    b ← one_block expr stmt
    pure (t.Compound b.0, b.1)

  -- "<<" and what is printed
  unfoldable pub one_print_item : Reader (WithHeight Printed)
  one_print_item = do
    s ← expect row.Mark (codes "<<")
    λ ts. if sees_row row.Str ts then (do x ← expect_row row.Str; pure (item.Text s x, 0)) ts
        else (if sees_namespace (codes "std") ts then (do q ← within (codes "std") (codes "endl"); pure (item.EndLine s q, 0)) ts
        else (do x ← expr 10; pure (item.Operand s x.0, x.1)) ts)

  -- one or more; the number bounds the turns
  unfoldable pub print_items_from : ℕ → List Printed → ℕ → Reader (WithHeight (List Printed))
  print_items_from zero xs h = refuse
  print_items_from (suc n) xs h = do
    x ← one_print_item
    λ ts. if sees row.Mark (codes "<<") ts then print_items_from n (xs ++ x.0 ∷ []) (max h x.1) ts else Some ((xs ++ x.0 ∷ [], max h x.1), ts)

  abbrev pub print_items : Reader (WithHeight (List Printed))
  print_items = λ ts. print_items_from (length ts) [] 0 ts

  unfoldable pub print : Reader (WithHeight Stmt)
  print = do
    q ← within (codes "std") (codes "cout")
    xs ← print_items
    e ← expect row.Mark (codes ";")
    check_height (t.Print q xs.0 e) xs.1

  unfoldable pub break_loop : Reader (WithHeight Stmt)
  break_loop = do
    s ← expect row.Reserved (codes "break")
    e ← expect row.Mark (codes ";")
    check_height (t.Break s e) 0

  unfoldable pub continue_loop : Reader (WithHeight Stmt)
  continue_loop = do
    s ← expect row.Reserved (codes "continue")
    e ← expect row.Mark (codes ";")
    check_height (t.Continue s e) 0

  -- expr?, up to ";"
  unfoldable pub maybe_expr : Reader (WithHeight (Option Expr))
  maybe_expr = λ ts. if sees row.Mark (codes ";") ts then Some ((None, 0), ts) else (do x ← expr 1; pure (Some x.0, x.1)) ts

  -- full?, up to ")"
  unfoldable pub maybe_full : Reader (WithHeight (Option FullExpression))
  maybe_full = λ ts. if sees row.Mark (codes ")") ts then Some ((None, 0), ts) else (do x ← full; pure (Some x.0, x.1)) ts

  unfoldable pub return_value : Reader (WithHeight Stmt)
  return_value = do
    s ← expect row.Reserved (codes "return")
    x ← maybe_expr
    e ← expect row.Mark (codes ";")
    check_height (t.Return s x.0 e) x.1

  -- "(" expr ")"
  unfoldable pub condition : Reader (WithHeight Expr)
  condition = do
    expect row.Mark (codes "(")
    x ← expr 1
    expect row.Mark (codes ")")
    pure x

  unfoldable pub else_branch : Spot → WithHeight Expr → WithHeight Stmt → Reader (WithHeight Stmt)
  else_branch s c a = do
    more ← eat row.Reserved (codes "else")
    if more then (do b ← stmt; check_height (t.If s c.0 a.0 (Some b.0)) (max c.1 (max a.1 b.1))) else check_height (t.If s c.0 a.0 None) (max c.1 a.1)

  unfoldable pub branch : Reader (WithHeight Stmt)
  branch = do
    s ← expect row.Reserved (codes "if")
    c ← condition
    a ← stmt
    else_branch s c a

  unfoldable pub while_loop : Reader (WithHeight Stmt)
  while_loop = do
    s ← expect row.Reserved (codes "while")
    c ← condition
    a ← stmt
    check_height (t.While s c.0 a.0) (max c.1 a.1)

  unfoldable pub do_loop : Reader (WithHeight Stmt)
  do_loop = do
    s ← expect row.Reserved (codes "do")
    a ← stmt
    expect row.Reserved (codes "while")
    c ← condition
    e ← expect row.Mark (codes ";")
    check_height (t.Do s a.0 c.0 e) (max a.1 c.1)

  -- after its header
  unfoldable pub range_for : Spot → RangeHeader → Reader (WithHeight Stmt)
  range_for s h = do
    y ← expect_row row.Ident
    expect row.Mark (codes ")")
    x ← stmt
    check_height (t.RangeFor s h.0.0 h.0.1 h.1.0 h.1.1 y x.0) x.1

  -- after its "("
  unfoldable pub plain_for : Spot → Reader (WithHeight Stmt)
  plain_for s = do
    a ← simple
    c ← maybe_expr
    expect row.Mark (codes ";")
    b ← maybe_full
    expect row.Mark (codes ")")
    x ← stmt
    check_height (t.For s a.0 c.0 b.0 x.0) (max (max a.1 c.1) (max b.1 x.1))

  abbrev pub for_by : Spot → Option RangeHeader → Reader (WithHeight Stmt)
  for_by s None = plain_for s
  for_by s (Some h) = range_for s h

  unfoldable pub for_loop : Reader (WithHeight Stmt)
  for_loop = do
    s ← expect row.Reserved (codes "for")
    expect row.Mark (codes "(")
    h ← maybe_range_header
    for_by s h

  -- "catch" "(" "const" T(exception) "&" IDENT ")"
  unfoldable pub handler : Reader Lexeme
  handler = do
    expect row.Reserved (codes "catch")
    expect row.Mark (codes "(")
    expect row.Reserved (codes "const")
    within (codes "sycl") (codes "exception")
    expect row.Mark (codes "&")
    x ← expect_row row.Ident
    expect row.Mark (codes ")")
    pure x

  unfoldable pub try_block : Reader (WithHeight Stmt)
  try_block = do
    s ← expect row.Reserved (codes "try")
    b ← one_block expr stmt
    x ← handler
    c ← one_block expr stmt
    check_height (t.Try s b.0 x c.0) (max b.1 c.1)

  -- a loop, a `try`, or what isn't a word of a statement
  unfoldable pub loop_or_try : Reader (WithHeight Stmt)
  loop_or_try = λ ts. if sees row.Reserved (codes "while") ts then while_loop ts
      else (if sees row.Reserved (codes "do") ts then do_loop ts
      else (if sees row.Reserved (codes "for") ts then for_loop ts
      else (if sees row.Reserved (codes "try") ts then try_block ts else simple ts)))

  unfoldable pub reserved_stmt : Reader (WithHeight Stmt)
  reserved_stmt = λ ts. if sees row.Reserved (codes "if") ts then branch ts
      else (if sees row.Reserved (codes "break") ts then break_loop ts
      else (if sees row.Reserved (codes "continue") ts then continue_loop ts
      else (if sees row.Reserved (codes "return") ts then return_value ts else loop_or_try ts)))

  unfoldable pub one_stmt : Reader (WithHeight Stmt)
  one_stmt = λ ts. if sees row.Mark (codes "{") ts then compound ts
      else (if sees_row row.Reserved ts then reserved_stmt ts
      else (if sees_print ts then print ts else simple ts))
