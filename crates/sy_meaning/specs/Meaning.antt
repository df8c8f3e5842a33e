-- What each part of a typed tree means: a fold over the tree, with one line per form.
use Rattle.std.specs.List.{list_any}
use Rattle.std.specs.Prelude.{Bool, List, None, Option, Some, [], false, if◌then◌else◌, map, pos, ℕ, ℤ, ◌||◌, ◌∷◌}
use Rattle.sy_note.specs.declared.Spot.{Spot}
use Rattle.sy_tree.specs.declared.parts.LibraryFunction.{LibraryFunction}
use Rattle.sy_tree.specs.declared.parts.LibraryFunction.TheVariants as library
use Rattle.sy_typed.specs.declared.things.Member.{Member}
use Rattle.sy_typed.specs.declared.things.Member.TheVariants as member
use Rattle.sy_typed.specs.declared.things.Thing.{Thing}
use Rattle.sy_typed.specs.declared.things.Thing.TheVariants as thing
use Rattle.sy_typed.specs.declared.tree.TypedArgument.TheOpen.{Typed-F, TypedArgument-F, TypedBlock-F, TypedDeclaration-F, TypedDeclarator-F, TypedFull-F, TypedInitializer-F, TypedLambda-F, TypedNode-F, TypedPrinted-F, TypedStmt-F}
use Rattle.sy_typed.specs.declared.tree.TypedBlock.{TypedBlock, fold-TypedBlock}
use Rattle.sy_work.specs.Reductions.{step}
use Rattle.sy_meaning.specs.declared.outcomes.Flow.TheVariants as flow
use Rattle.sy_meaning.specs.Words.{Object, kind_in, nothing, scalar_of}
use Rattle.sy_meaning.specs.Outcomes.{Ex, Op, St, and_then, gives, in_turn, inside, with_list}
use Rattle.sy_meaning.specs.Ends.{in_full, in_scope}
use Rattle.sy_meaning.specs.Locations.{element_of}
use Rattle.sy_meaning.specs.Combining.{combines}
use Rattle.sy_meaning.specs.Expressions.{Argument, Block, Calls, Exp, Lambda, assignment, binary, braced, call, cast, conditional, full, indexed, lambda, literal, makes_of, name, plain, postfix_step, prefix_step, reference, subscript, unary, value}
use Rattle.sy_meaning.specs.Making.{Given, has_end, make_temporary, type_at, value_at}
use Rattle.sy_meaning.specs.Library.{barrier, group_function, library_member}
use Rattle.sy_meaning.specs.Lambdas.{captures_of, copy, depends_on, emplace_back, fill, make_reduction, parallel_for, single_task, submit}
use Rattle.sy_meaning.specs.Statements.{Initializer, Printing, Statement, any_makes, choose, copied, declare_object, declare_team, declare_thread, declare_value, declare_vector, declare_zero, direct, discarded, do_loop, error_object, error_of, for_loop, normal, print_all, print_operand, prints, range_for, returned, scoped, scoped_or_nothing, try_block, while_loop, with_arguments}

-- what a node means, with the type and the place in the source of its expression
abbrev pub Node : Type 0
Node = Thing → Spot → Exp

abbrev pub number_of : Bool → ℤ
number_of b = if b then pos 1 else pos 0

-- what stands for itself, as a tag
abbrev pub sign : ℕ → Node
sign last t s = plain t s.line last false (gives nothing)

abbrev pub construct : List Argument → Spot → Node
construct xs last t s =
    plain t s.line last.line (has_end t || any_makes xs) (with_arguments xs (λ ys. inside (make_temporary t s.line ys)))

abbrev pub library_call : LibraryFunction → Spot → Thing → List Given → Op
library_call library.Reduction s t xs = make_reduction s.line xs
library_call f s t xs = group_function f s (kind_in t) xs

abbrev pub call_library : LibraryFunction → List Argument → Spot → Node
call_library f xs last t s =
    plain t s.line last.line (any_makes xs) (with_arguments xs (λ ys. inside (library_call f s t ys)))

-- ---- members

-- those of a handler that take no lambda, of a reduction's variable, and of all other objects
abbrev pub plain_member : Member → ℕ → Exp → Object → List Given → Ex
plain_member member.Fill line a o xs = inside (fill line xs)
plain_member member.Copy line a o xs = inside (copy line xs)
plain_member member.DependsOn line a o xs = inside (depends_on (value_at 0 xs))
plain_member m line a o xs = inside (library_member m line a.what o xs)

abbrev pub combine_member : ℕ → Exp → Thing → List Given → Ex
combine_member line a (thing.Reducer k f) xs r =
    and_then (a.locate r) (λ p. combines f k line a.location p (scalar_of (type_at 0 xs) (value_at 0 xs)))
combine_member line a t xs r = gives nothing r

abbrev pub called_member : Member → ℕ → Exp → List Argument → Ex
called_member member.Combine line a xs = with_arguments xs (combine_member line a a.what)
called_member m line a xs = λ r. and_then (a.run r) (λ o. with_arguments xs (plain_member m line a o))

abbrev pub first_lambda : List Argument → Option Lambda
first_lambda [] = None
first_lambda (lambda l ∷ xs) = Some l
first_lambda (x ∷ xs) = first_lambda xs

abbrev pub with_kernel : Lambda → List Argument → (List Given → List Object → Ex) → Ex
with_kernel l xs go = with_arguments xs (λ ys r. with_list (captures_of l r) (go ys))

-- the members that take a lambda
abbrev pub lambda_member : ℕ → Member → ℕ → List Argument → Lambda → Object → Ex
lambda_member limit member.Submit line xs l o = submit line l o
lambda_member limit member.EmplaceBack line xs l o = emplace_back line l o
lambda_member limit member.SingleTask line xs l o = with_kernel l [] (λ ys os. inside (single_task limit line l os))
lambda_member limit member.ParallelFor line xs l o = with_kernel l xs (λ ys os. inside (parallel_for limit line l ys os))
lambda_member limit m line xs l o = gives nothing

-- ---- the forms

module _ (calls : Calls) (limit : ℕ) where
  abbrev pub member_call : Option Lambda → Exp → Member → ℕ → List Argument → Ex
  member_call (Some l) a m line xs r = and_then (a.run r) (lambda_member limit m line xs l)
  member_call None a m line xs r = called_member m line a xs r

  -- calls of functions, objects and members
  abbrev pub call_step : TypedNode-F Argument Statement St Statement Initializer Node Printing Statement Exp Block Lambda → Node
  call_step (TypedNode-F.Call f es last) = λ t s. plain t s.line last.line (list_any makes_of es) (call calls s.line f es)
  call_step (TypedNode-F.Construct xs last) = construct xs last
  call_step (TypedNode-F.LibraryCall f xs last) = call_library f xs last
  call_step (TypedNode-F.GroupBarrier a last) = λ t s. plain t s.line last.line a.makes (inside (barrier s))
  call_step (TypedNode-F.Subscript a i last) = λ t s. indexed t s.line last.line (a.makes || i.makes) (element_of a.what a.location) (subscript s.line a i)
  call_step (TypedNode-F.MemberCall a m xs last) = λ t s. plain t s.line last.line (a.makes || any_makes xs) (member_call (first_lambda xs) a m s.line xs)
  call_step (TypedNode-F.InOrder last) = sign last.line
  call_step (TypedNode-F.InitializeToIdentity last) = sign last.line
  call_step (TypedNode-F.FunctionObject f k last) = sign last.line
  call_step n = λ t s. sign s.line t s

  -- operators
  abbrev pub operator_step : TypedNode-F Argument Statement St Statement Initializer Node Printing Statement Exp Block Lambda → Node
  operator_step (TypedNode-F.Parenthesized a last) = λ t s. record a { last = last.line }
  operator_step (TypedNode-F.StaticCast a last) = λ t s. plain t s.line last.line a.makes (cast t a)
  operator_step (TypedNode-F.FunctionalCast a last) = λ t s. plain t s.line last.line a.makes (cast t a)
  operator_step (TypedNode-F.Cast a) = λ t s. plain t s.line a.last a.makes (cast t a)
  operator_step (TypedNode-F.Postfix a step) = λ t s. plain t s.line s.line a.makes (postfix_step step s.line a)
  operator_step (TypedNode-F.Prefix step a) = λ t s. plain t s.line a.last a.makes (prefix_step step s.line a)
  operator_step (TypedNode-F.Unary op a) = λ t s. plain t s.line a.last a.makes (unary op s.line a)
  operator_step (TypedNode-F.Binary a op b) = λ t s. plain t s.line b.last (a.makes || b.makes) (binary op s.line a b)
  operator_step (TypedNode-F.Conditional c a b) = λ t s. plain t s.line b.last (c.makes || (a.makes || b.makes)) (conditional t c a b)
  operator_step n = call_step n

  -- literals and names, and all other forms
  abbrev pub node_step : TypedNode-F Argument Statement St Statement Initializer Node Printing Statement Exp Block Lambda → Node
  node_step (TypedNode-F.Integer z) = λ t s. literal t s.line z
  node_step (TypedNode-F.Character z) = λ t s. literal t s.line z
  node_step (TypedNode-F.Boolean b) = λ t s. literal t s.line (number_of b)
  node_step (TypedNode-F.Name n) = λ t s. name t s.line n
  node_step (TypedNode-F.Reference n) = λ t s. reference t s.line n
  node_step (TypedNode-F.ErrorCode e last) = λ t s. plain t s.line last.line false (gives (error_object (error_of e)))
  node_step n = operator_step n

  abbrev pub typed_step : Typed-F Argument Statement St Statement Initializer Node Printing Statement Exp Block Lambda → Exp
  typed_step x = x.node x.what x.spot

  abbrev pub argument_step : TypedArgument-F Argument Statement St Statement Initializer Node Printing Statement Exp Block Lambda → Argument
  argument_step (TypedArgument-F.Value e) = value e
  argument_step (TypedArgument-F.Braced es last) = braced es last.line
  argument_step (TypedArgument-F.Lambda l) = lambda l

  abbrev pub lambda_step : TypedLambda-F Argument Statement St Statement Initializer Node Printing Statement Exp Block Lambda → Lambda
  lambda_step l =
      record { number = l.number; spot = l.spot; captures = l.captures; parameters = l.parameters; body = l.body }

  abbrev pub statement_run : Statement → St
  statement_run s = s.run

  abbrev pub block_step : TypedBlock-F Argument Statement St Statement Initializer Node Printing Statement Exp Block Lambda → Block
  block_step b =
      record { run = in_scope b.close.line (in_turn (map statement_run b.statements)); last = b.close.line }

  -- the value of a full expression is dropped
  abbrev pub full_step : TypedFull-F Argument Statement St Statement Initializer Node Printing Statement Exp Block Lambda → Statement
  full_step (TypedFull-F.Plain e) = record { run = discarded (full e); last = e.last }
  full_step (TypedFull-F.Assignment a s op b) =
      record { run = discarded (in_full (a.makes || b.makes) b.last (assignment a.what op s.line a b)); last = b.last }

  abbrev pub declarator_step : TypedDeclarator-F Argument Statement St Statement Initializer Node Printing Statement Exp Block Lambda → St
  declarator_step (TypedDeclarator-F.Uninitialized x) = declare_zero x
  declarator_step (TypedDeclarator-F.Equal x e) = declare_value x e
  declarator_step (TypedDeclarator-F.Bracketed x e close) = declare_value x e

  abbrev pub initializer_step : TypedInitializer-F Argument Statement St Statement Initializer Node Printing Statement Exp Block Lambda → Initializer
  initializer_step (TypedInitializer-F.Copy e) = copied e
  initializer_step (TypedInitializer-F.Direct b xs close) = direct b xs

  abbrev pub declaration_step : TypedDeclaration-F Argument Statement St Statement Initializer Node Printing Statement Exp Block Lambda → Statement
  declaration_step (TypedDeclaration-F.Values ds s) = record { run = in_turn ds; last = s.line }
  declaration_step (TypedDeclaration-F.Vector x i s) = record { run = declare_vector x i; last = s.line }
  declaration_step (TypedDeclaration-F.DeviceVector x i s) = record { run = declare_object x i; last = s.line }
  declaration_step (TypedDeclaration-F.ThreadVector x s) = record { run = declare_team x; last = s.line }
  declaration_step (TypedDeclaration-F.Thread x l s) = record { run = declare_thread x l; last = s.line }
  declaration_step (TypedDeclaration-F.Object x i s) = record { run = declare_object x i; last = s.line }

  abbrev pub printed_step : TypedPrinted-F Argument Statement St Statement Initializer Node Printing Statement Exp Block Lambda → Printing
  printed_step (TypedPrinted-F.Operand s e) = record { run = print_operand s.line e; makes = e.makes; last = e.last }
  printed_step (TypedPrinted-F.Bytes s text last) =
      record { run = discarded (inside (prints s.line text)); makes = false; last = last.line }
  printed_step (TypedPrinted-F.EndLine s last) =
      record { run = discarded (inside (prints s.line (10 ∷ []))); makes = false; last = last.line }

  abbrev pub last_of_if : Statement → Option Statement → ℕ
  last_of_if a None = a.last
  last_of_if a (Some b) = b.last

  abbrev pub stmt_step : TypedStmt-F Argument Statement St Statement Initializer Node Printing Statement Exp Block Lambda → Statement
  stmt_step (TypedStmt-F.Compound b) = record { run = b.run; last = b.last }
  stmt_step (TypedStmt-F.Null s) = record { run = normal; last = s.line }
  stmt_step (TypedStmt-F.Declaration d) = d
  stmt_step (TypedStmt-F.Expression f s) = record { run = f.run; last = s.line }
  stmt_step (TypedStmt-F.Print ps s) = record { run = print_all ps; last = s.line }
  stmt_step (TypedStmt-F.Break s e) = record { run = λ r. (flow.Broke s.line, r); last = e.line }
  stmt_step (TypedStmt-F.Continue s e) = record { run = λ r. (flow.Continued s.line, r); last = e.line }
  stmt_step (TypedStmt-F.Return s e last) = record { run = returned s.line e; last = last.line }
  stmt_step (TypedStmt-F.If s c a b) = record { run = choose c (scoped a) (scoped_or_nothing b); last = last_of_if a b }
  stmt_step (TypedStmt-F.While s c b) = record { run = while_loop s.line c b; last = b.last }
  stmt_step (TypedStmt-F.Do s b c last) = record { run = do_loop s.line c b; last = last.line }
  stmt_step (TypedStmt-F.For s head c step b) = record { run = for_loop s.line head c step b; last = b.last }
  stmt_step (TypedStmt-F.RangeFor s x by_reference v b) = record { run = range_for s.line x by_reference v b; last = b.last }
  stmt_step (TypedStmt-F.Try s b x h) = record { run = try_block b.run x h.run; last = h.last }

  -- what a block means
  abbrev pub block : TypedBlock → Block
  block =
      fold-TypedBlock Argument Statement St Statement Initializer Node Printing Statement Exp Block Lambda argument_step declaration_step declarator_step full_step initializer_step node_step printed_step stmt_step typed_step block_step lambda_step
