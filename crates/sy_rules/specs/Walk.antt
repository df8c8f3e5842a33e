-- Every part of a tree is looked at once, from left to right, with the names that are declared before it.
use Rattle.std.specs.Prelude.{ℕ, ◌+◌, Bool, true, false, not, ◌&&◌, ◌||◌, if◌then◌else◌, List, [], ◌∷◌, ◌++◌, Option, Some, None, map, is_some, unwrap_or, pos}
use Rattle.sy_note.specs.declared.Code.TheVariants as code
use Rattle.sy_note.specs.declared.Diagnostic.{Diagnostic}
use Rattle.sy_note.specs.declared.Spot.{Spot}
use Rattle.sy_tree.specs.declared.operators.Operator.{Operator}
use Rattle.sy_tree.specs.declared.parts.Brackets.{Brackets}
use Rattle.sy_tree.specs.declared.parts.Capture.{Capture}
use Rattle.sy_tree.specs.declared.parts.Capture.TheVariants as capture
use Rattle.sy_tree.specs.declared.parts.ConstSpecifier.{ConstSpecifier}
use Rattle.sy_tree.specs.declared.parts.ConstSpecifier.TheVariants as specifier
use Rattle.sy_tree.specs.declared.parts.LambdaParameter.{LambdaParameter}
use Rattle.sy_tree.specs.declared.parts.Lexeme.{Lexeme}
use Rattle.sy_tree.specs.declared.parts.LibraryFunction.{LibraryFunction}
use Rattle.sy_tree.specs.declared.parts.LibraryFunction.TheVariants as function
use Rattle.sy_tree.specs.declared.parts.ObjectType.{ObjectType}
use Rattle.sy_tree.specs.declared.parts.ObjectType.TheVariants as object
use Rattle.sy_tree.specs.declared.parts.Qualified.{Qualified}
use Rattle.sy_tree.specs.declared.parts.TemplateArgument.{TemplateArgument}
use Rattle.sy_tree.specs.declared.parts.TypeSpecifier.{TypeSpecifier}
use Rattle.sy_tree.specs.declared.parts.TypeSpecifier.TheVariants as type
use Rattle.sy_tree.specs.declared.tree.Argument.TheOpen.{Argument-F, Block-F, Declaration-F, Declarator-F, Expr-F, FullExpression-F, Initializer-F, Lambda-F, Printed-F, Stmt-F}
use Rattle.sy_tree.specs.declared.tree.Block.{Block, fold-Block}
use Rattle.sy_tree.specs.declared.tree.Declarator.{Declarator, fold-Declarator}
use Rattle.sy_tree.specs.declared.tree.Expr.{Expr, fold-Expr}
use Rattle.sy_tree.specs.declared.tree.Stmt.{Stmt, fold-Stmt}
use Rattle.sy_typed.specs.declared.things.Member.{Member}
use Rattle.sy_typed.specs.declared.things.Member.TheVariants as member
use Rattle.sy_typed.specs.declared.things.Thing.{Thing}
use Rattle.sy_typed.specs.declared.things.Thing.TheVariants as thing
use Rattle.sy_typed.specs.declared.things.ErrorName.{ErrorName}
use Rattle.sy_typed.specs.declared.things.ErrorName.TheVariants as error_name
use Rattle.sy_typed.specs.declared.tree.Typed.{Typed}
use Rattle.sy_typed.specs.declared.tree.TypedArgument.{TypedArgument}
use Rattle.sy_typed.specs.declared.tree.TypedArgument.TheVariants as argument
use Rattle.sy_typed.specs.declared.tree.TypedBlock.{TypedBlock, roll-TypedBlock}
use Rattle.sy_typed.specs.declared.tree.TypedCapture.{TypedCapture}
use Rattle.sy_typed.specs.declared.tree.TypedDeclaration.{TypedDeclaration}
use Rattle.sy_typed.specs.declared.tree.TypedDeclaration.TheVariants as declaration
use Rattle.sy_typed.specs.declared.tree.TypedDeclarator.{TypedDeclarator}
use Rattle.sy_typed.specs.declared.tree.TypedDeclarator.TheVariants as declarator
use Rattle.sy_typed.specs.declared.tree.TypedFull.{TypedFull}
use Rattle.sy_typed.specs.declared.tree.TypedFull.TheVariants as full
use Rattle.sy_typed.specs.declared.tree.TypedInitializer.{TypedInitializer}
use Rattle.sy_typed.specs.declared.tree.TypedInitializer.TheVariants as initializer
use Rattle.sy_typed.specs.declared.tree.TypedLambda.{TypedLambda, roll-TypedLambda}
use Rattle.sy_typed.specs.declared.tree.TypedNode.{TypedNode}
use Rattle.sy_typed.specs.declared.tree.TypedNode.TheVariants as node
use Rattle.sy_typed.specs.declared.tree.TypedPrinted.{TypedPrinted}
use Rattle.sy_typed.specs.declared.tree.TypedPrinted.TheVariants as printed
use Rattle.sy_typed.specs.declared.tree.TypedStmt.{TypedStmt}
use Rattle.sy_typed.specs.declared.tree.TypedStmt.TheVariants as typed_stmt
use Rattle.sy_typed.specs.declared.tree.Variable.{Variable}
use Rattle.sy_rules.specs.declared.names.Named.{Named}
use Rattle.sy_rules.specs.declared.names.Names.{Names}
use Rattle.sy_rules.specs.declared.names.Setting.{Setting}
use Rattle.sy_rules.specs.declared.names.Taken.{Taken}
use Rattle.sy_rules.specs.declared.names.Taken.TheVariants as taken
use Rattle.sy_rules.specs.declared.names.ThreadScope.{ThreadScope}
use Rattle.sy_rules.specs.declared.names.Within.TheVariants as within
use Rattle.sy_rules.specs.declared.seen.Constant.TheVariants as constant
use Rattle.sy_rules.specs.declared.seen.Seen.{Seen}
use Rattle.sy_rules.specs.declared.seen.SeenLambda.{SeenLambda}
use Rattle.sy_rules.specs.declared.library.Role.{Role}
use Rattle.sy_rules.specs.declared.library.Role.TheVariants as role
use Rattle.sy_rules.specs.declared.seen.SeenArgument.{SeenArgument}
use Rattle.sy_rules.specs.declared.seen.SeenArgument.TheVariants as seen
use Rattle.sy_rules.specs.declared.seen.SeenInitializer.{SeenInitializer}
use Rattle.sy_rules.specs.declared.seen.SeenInitializer.TheVariants as seen_initializer
use Rattle.sy_rules.specs.declared.statements.Shared.{Shared}
use Rattle.sy_rules.specs.declared.statements.Shared.TheVariants as shared
use Rattle.sy_rules.specs.declared.statements.Standing.{Standing}
use Rattle.sy_rules.specs.declared.statements.Standing.TheVariants as standing
use Rattle.sy_rules.specs.ExprRules.{is_equality, is_misused_in}
use Rattle.sy_rules.specs.ExprTypes.{seen_as, found_at, typed, named_node, called_number, member_or_wait, variable, is_empty, kind_written, use_of}
use Rattle.sy_rules.specs.Faults.{at}
use Rattle.sy_rules.specs.Foreign.{is_host, is_made_in, made_in_kernels, made_in_groups, foreign_everywhere, type_start, type_word}
use Rattle.sy_rules.specs.Lambdas.{listed_faults, thread_scope, parameter_type, lambda_parameter_faults, bad_lambda, first_dimensions, listed, is_integer_type, copy_of, reference_to, captures_given}
use Rattle.sy_rules.specs.Layers.{Skipped, SeenExpr, SeenFull, SeenStmt}
use Rattle.sy_rules.specs.Constants.{literal_value, number_in}
use Rattle.sy_rules.specs.Literals.{character_value, string_bytes_of}
use Rattle.sy_rules.specs.Members.{member_role}
use Rattle.sy_rules.specs.Names.{look_up, declared, declared_as, declared_variable, with_entry, in_setting, where_taken, scoped}
use Rattle.sy_rules.specs.Objects.{object_row, arguments_of}
use Rattle.sy_rules.specs.Outcome.{Finding, Outcome, Look, outcome, plainly, after, and_then, known_as, in_turn, faults_found, foreign_in, at_statement, all_broken, all_used}
use Rattle.sy_rules.specs.Seen.{when, fails, passes, no_integer, unread}
use Rattle.sy_rules.specs.StmtRules.{shared_after, full_faults, Given, declarator_faults, declared_type, declared_constant, object_faults, vector_faults, device_vector_faults, plain_faults, goes_over, element_given, stmt_faults}
use Rattle.sy_rules.specs.Words.{error_named, member_named}

-- ---- what each sort of tree is looked at as

abbrev pub Ex : Type 0
Ex = Look (Seen × Typed)

abbrev pub La : Type 0
La = Role → Look (SeenLambda × TypedLambda)

-- a declaration and a full expression with their first tokens; the flag says whether it stands as a statement
abbrev pub De : Type 0
De = Look (Spot × TypedDeclaration)

abbrev pub Fu : Type 0
Fu = Bool → Look (Spot × TypedFull)

abbrev pub Pr : Type 0
Pr = Look TypedPrinted

abbrev pub St : Type 0
St = Standing → Look TypedStmt

abbrev pub Bl : Type 0
Bl = Look TypedBlock

-- what holds them looks at these
abbrev pub Ar : Type 0
Ar = Argument-F Skipped Skipped Skipped Ex Skipped Skipped Skipped Skipped Skipped La

abbrev pub Dr : Type 0
Dr = Declarator-F Skipped Skipped Skipped Ex Skipped Skipped Skipped Skipped Skipped Skipped

abbrev pub In : Type 0
In = Initializer-F Ar Skipped Skipped Ex Skipped Skipped Skipped Skipped Skipped Skipped

-- ---- expressions

-- a construct, after its parts were looked at
abbrev pub judged : SeenExpr → TypedNode → Spot → Ex
judged x t s n = outcome (seen_as n x, typed t (seen_as n x).what s) (found_at n x) n

abbrev pub part : Ex → Ex
part a n = where_taken taken.Nothing a n

abbrev pub one_part : Taken → Ex → (Seen → SeenExpr) → (Typed → TypedNode) → Spot → Ex
one_part k a f t s n = and_then (where_taken k a n) (λ p. judged (f p.0) (t p.1) s)

abbrev pub two_parts : Taken → Ex → Ex → (Seen → Seen → SeenExpr) → (Typed → Typed → TypedNode) → Spot → Ex
two_parts k a b f t s n =
    and_then (where_taken k a n) (λ p m. and_then (where_taken k b m) (λ q. judged (f p.0 q.0) (t p.1 q.1) s))

abbrev pub three_parts : Ex → Ex → Ex → (Seen → Seen → Seen → SeenExpr) → (Typed → Typed → Typed → TypedNode) → Spot → Ex
three_parts a b c f t s n =
    and_then (part a n) (λ p m. and_then (part b m) (λ q k. and_then (part c k) (λ r. judged (f p.0 q.0 r.0) (t p.1 q.1 r.1) s)))

abbrev pub seen_of : Seen × Typed → Seen
seen_of p = p.0

abbrev pub typed_of : Seen × Typed → Typed
typed_of p = p.1

abbrev pub parts : List Ex → Look (List (Seen × Typed))
parts xs n = in_turn (map part xs) n

-- ---- arguments

-- a lambda where none is taken isn't looked at
abbrev pub nowhere : Spot
nowhere = record { line = 1; column = 1 }

abbrev pub untaken : SeenArgument × TypedArgument
untaken = (seen.Lambda (record { is_sound = true; dimensions = None }), argument.Lambda (roll-TypedLambda (record { spot = nowhere; number = 0; captures = []; parameters = []; body = roll-TypedBlock (record { statements = []; close = nowhere }) })))

abbrev pub one_argument : Taken → Option Role → Ar → Look (SeenArgument × TypedArgument)
one_argument k r (Argument-F.Value a) n = known_as (λ p. (seen.Value p.0, argument.Value p.1)) (where_taken k a n)
one_argument k r (Argument-F.Braced s xs e) n = known_as (λ ps. (seen.Braced (map seen_of ps), argument.Braced (map typed_of ps) e)) (parts xs n)
one_argument k None (Argument-F.Lambda l) n = plainly untaken n
one_argument k (Some r) (Argument-F.Lambda l) n = known_as (λ p. (seen.Lambda p.0, argument.Lambda p.1)) (l r n)

-- `role` says what a lambda is for, behind the arguments before it
abbrev pub arguments : Taken → (List SeenArgument → Option Role) → List SeenArgument → List Ar → Look (List SeenArgument × List TypedArgument)
arguments k role before [] n = plainly ([], []) n
arguments k role before (a ∷ more) n =
    and_then (one_argument k (role before) a n)
    (λ p m. known_as (λ q. (p.0 ∷ q.0, p.1 ∷ q.1)) (arguments k role (before ++ (p.0 ∷ [])) more m))

abbrev pub no_role : List SeenArgument → Option Role
no_role before = None

-- what the arguments of these may be beyond values
abbrev pub taken_by_object : ObjectType → Taken
taken_by_object (object.Buffer q t) = taken.Data
taken_by_object (object.Accessor q) = taken.Source
taken_by_object (object.HostAccessor q) = taken.Source
taken_by_object _ = taken.Nothing

abbrev pub taken_by_library : LibraryFunction → Taken
taken_by_library function.Reduction = taken.Source
taken_by_library _ = taken.Nothing

abbrev pub taken_by_member : Option Member → Taken
taken_by_member (Some member.DependsOn) = taken.Dependency
taken_by_member _ = taken.Nothing

-- the object of a member
abbrev pub taken_before_member : Taken → Option Member → Taken
taken_before_member taken.Statement (Some member.Combine) = taken.Reducer
taken_before_member k (Some member.GetRange) = taken.Source
taken_before_member k (Some member.Size) = taken.Source
taken_before_member k m = taken.Nothing

-- parentheses hide `data()` and what is to be a statement
abbrev pub taken_inside : Taken → Taken
taken_inside taken.Compared = taken.Compared
taken_inside taken.Dependency = taken.Dependency
taken_inside taken.Source = taken.Source
taken_inside _ = taken.Nothing

abbrev pub taken_beside : Operator → Taken
taken_beside op = if is_equality op then taken.Compared else taken.Nothing

abbrev pub role_for : Option Thing → ℕ → Option Member → List SeenArgument → Option Role
role_for (Some t) v (Some m) before = member_role t v m before
role_for _ v _ before = None

abbrev pub role_in : Seen → Option Member → List SeenArgument → Option Role
role_in a m before = role_for a.what (unwrap_or a.variable 0) m before

abbrev pub error_or_runtime : List ℕ → ErrorName
error_or_runtime text = unwrap_or (error_named text) error_name.Runtime

-- ---- one clause for each construct

abbrev pub call : Lexeme → List Ex → Spot → Ex
call f xs e n =
    and_then (parts xs n) (λ ps m. judged (Expr-F.Call f (map seen_of ps) e) (node.Call (called_number (look_up m.entries f.text)) (map typed_of ps) e) f.spot m)

abbrev pub construct : ObjectType → Brackets → Spot → List Ar → Spot → Ex
construct t b s xs e n =
    and_then (arguments (taken_by_object t) no_role [] xs n) (λ p. judged (Expr-F.Construct t b s p.0 e) (node.Construct p.1 e) (type_word t))

abbrev pub library_call : Qualified → LibraryFunction → List Ar → Spot → Ex
library_call q f xs e n =
    and_then (arguments (taken_by_library f) no_role [] xs n) (λ p. judged (Expr-F.LibraryCall q f p.0 e) (node.LibraryCall f p.1 e) q.name)

abbrev pub member_call : Ex → Lexeme → Option TemplateArgument → List Ar → Spot → Ex
member_call a x t xs e n =
    and_then (where_taken (taken_before_member n.setting.taken (member_named x.text)) a n)
    (λ p m. and_then (arguments (taken_by_member (member_named x.text)) (role_in p.0 (member_named x.text)) [] xs m)
    (λ q. judged (Expr-F.MemberCall p.0 x t q.0 e) (node.MemberCall p.1 (member_or_wait x.text) q.1 e) x.spot))

abbrev pub expr_step : Expr-F Ar De Dr Ex Fu In Pr St Bl La → Ex
expr_step (Expr-F.Integer x) = judged (Expr-F.Integer x) (node.Integer (number_in (literal_value x.text))) x.spot
expr_step (Expr-F.Character x) = judged (Expr-F.Character x) (node.Character (pos (character_value x.text))) x.spot
expr_step (Expr-F.Boolean s b) = judged (Expr-F.Boolean s b) (node.Boolean b) s
expr_step (Expr-F.Name x) = λ n. judged (Expr-F.Name x) (named_node n.setting.kernel (look_up n.entries x.text)) x.spot n
expr_step (Expr-F.Call f xs e) = call f xs e
expr_step (Expr-F.Parenthesized s a e) = λ n. one_part (taken_inside n.setting.taken) a (λ a. Expr-F.Parenthesized s a e) (λ a. node.Parenthesized a e) s n
expr_step (Expr-F.StaticCast s t a e) = one_part taken.Nothing a (λ a. Expr-F.StaticCast s t a e) (λ a. node.StaticCast a e) s
expr_step (Expr-F.FunctionalCast t a e) = one_part taken.Nothing a (λ a. Expr-F.FunctionalCast t a e) (λ a. node.FunctionalCast a e) t.spot
expr_step (Expr-F.Construct t b s xs e) = construct t b s xs e
expr_step (Expr-F.GroupBarrier q a e) = one_part taken.Nothing a (λ a. Expr-F.GroupBarrier q a e) (λ a. node.GroupBarrier a e) q.name
expr_step (Expr-F.AccessTag q t) = judged (Expr-F.AccessTag q t) (node.AccessTag t) q.name
expr_step (Expr-F.InOrder q b e) = judged (Expr-F.InOrder q b e) (node.InOrder e) q.name
expr_step (Expr-F.ErrorCode q x) = judged (Expr-F.ErrorCode q x) (node.ErrorCode (error_or_runtime x.text) x.spot) q.name
expr_step (Expr-F.InitializeToIdentity q b e) = judged (Expr-F.InitializeToIdentity q b e) (node.InitializeToIdentity e) q.name
expr_step (Expr-F.FunctionObject q f t b e) = judged (Expr-F.FunctionObject q f t b e) (node.FunctionObject f (kind_written t) e) q.name
expr_step (Expr-F.LibraryCall q f xs e) = library_call q f xs e
expr_step (Expr-F.Subscript a s i e) = two_parts taken.Nothing a i (λ a i. Expr-F.Subscript a s i e) (λ a i. node.Subscript a i e) s
expr_step (Expr-F.MemberCall a x t xs e) = member_call a x t xs e
expr_step (Expr-F.Postfix a s step) = one_part taken.Nothing a (λ a. Expr-F.Postfix a s step) (λ a. node.Postfix a step) s
expr_step (Expr-F.Prefix s step a) = one_part taken.Nothing a (λ a. Expr-F.Prefix s step a) (λ a. node.Prefix step a) s
expr_step (Expr-F.Unary s op a) = one_part taken.Nothing a (λ a. Expr-F.Unary s op a) (λ a. node.Unary op a) s
expr_step (Expr-F.Cast s t a) = one_part taken.Nothing a (λ a. Expr-F.Cast s t a) (λ a. node.Cast a) s
expr_step (Expr-F.Binary a s op b) = two_parts (taken_beside op) a b (λ a b. Expr-F.Binary a s op b) (λ a b. node.Binary a op b) s
expr_step (Expr-F.Conditional a s b c) = three_parts a b c (λ a b c. Expr-F.Conditional a s b c) (λ a b c. node.Conditional a b c) s

-- ---- full expressions

abbrev pub full_judged : Spot → SeenFull → TypedFull → Look (Spot × TypedFull)
full_judged s x t n = outcome (s, t) (faults_found (full_faults x)) n

abbrev pub taken_as : Taken → Bool → Taken
taken_as k stands = if stands then k else taken.Nothing

abbrev pub full_step : FullExpression-F Ar De Dr Ex Fu In Pr St Bl La → Fu
full_step (FullExpression-F.Plain a) = λ stands n.
    and_then (where_taken (taken_as taken.Statement stands) a n) (λ p. full_judged p.0.first (FullExpression-F.Plain p.0) (full.Plain p.1))
full_step (FullExpression-F.Assignment t s op v) = λ stands n.
    and_then (where_taken (taken_as taken.Reducer stands) t n)
    (λ p m. and_then (part v m) (λ q. full_judged p.0.first (FullExpression-F.Assignment p.0 s op q.0) (full.Assignment p.1 s op q.1)))

-- ---- declared integers

-- a name is declared after its own initializer
abbrev pub declared_value : {T : Type 0} → Bool → Option ConstSpecifier → TypeSpecifier → Shared → Lexeme → Given → (Variable → T) → Look (Option Thing × T)
declared_value must c t first x i make n =
    outcome (declared_type t i, make (variable n.next (declared_type t i) x.spot))
    (faults_found (declarator_faults n must c t first x i))
    (declared x (declared_type t i) (is_some c) (declared_constant must t i) n)

abbrev pub one_declarator : Bool → Option ConstSpecifier → TypeSpecifier → Shared → Dr → Look (Option Thing × TypedDeclarator)
one_declarator must c t first (Declarator-F.Uninitialized x) n = declared_value must c t first x None (λ v. declarator.Uninitialized v) n
one_declarator must c t first (Declarator-F.Equal x s a) n =
    and_then (part a n) (λ p. declared_value must c t first x (Some (p.0, true)) (λ v. declarator.Equal v p.1))
one_declarator must c t first (Declarator-F.Bracketed x b s a e) n =
    and_then (part a n) (λ p. declared_value must c t first x (Some (p.0, false)) (λ v. declarator.Bracketed v p.1 e))

-- `first` is what the names share so far
abbrev pub declarators : Bool → Option ConstSpecifier → TypeSpecifier → Shared → List Dr → Look (List TypedDeclarator)
declarators must c t first [] n = plainly [] n
declarators must c t first (d ∷ more) n =
    and_then (one_declarator must c t first d n) (λ p m. known_as (λ ds. p.1 ∷ ds) (declarators must c t (shared_after first p.0) more m))

abbrev pub is_constexpr : Option ConstSpecifier → Bool
is_constexpr (Some (specifier.Constexpr s)) = true
is_constexpr _ = false

abbrev pub start_of_type : TypeSpecifier → Spot
start_of_type (type.Auto s) = s
start_of_type (type.Integer t) = t.spot

abbrev pub start_of : Option ConstSpecifier → TypeSpecifier → Spot
start_of (Some (specifier.Const s)) t = s
start_of (Some (specifier.Constexpr s)) t = s
start_of None t = start_of_type t

-- ---- declared objects

abbrev pub one_initializer : Taken → In → Look (Option SeenInitializer × Option TypedInitializer)
one_initializer k (Initializer-F.Copy s a) n = known_as (λ p. (Some (seen_initializer.Copy p.0), Some (initializer.Copy p.1))) (where_taken k a n)
one_initializer k (Initializer-F.Direct b s xs e) n =
    known_as (λ p. (Some (seen_initializer.Direct b p.0), Some (initializer.Direct b p.1 e))) (arguments k no_role [] xs n)

abbrev pub initialized : Taken → Option In → Look (Option SeenInitializer × Option TypedInitializer)
initialized k None n = plainly (None, None) n
initialized k (Some i) n = one_initializer k i n

abbrev pub if_none : List Diagnostic → Option Thing → Option Thing
if_none ds t = if is_empty ds then t else None

-- the declaration of x: its faults, which count unless the place forbids it, and what else is found
abbrev pub declared_object : Bool → List Diagnostic → List Finding → Option Thing → Spot → Lexeme → (Variable → TypedDeclaration) → Look (Spot × TypedDeclaration)
declared_object allowed ds found t s x make n =
    outcome (s, make (variable n.next (if allowed then if_none ds t else t) x.spot))
    (faults_found (if allowed then ds else []) ++ found)
    (declared_variable x (if allowed then if_none ds t else t) false n)

abbrev pub foreign_object : ObjectType → List Finding
foreign_object t = foreign_in (not (made_in_kernels t)) within.Kernel ++ foreign_in (not (made_in_groups t)) within.Group

abbrev pub declaration_step : Declaration-F Ar De Dr Ex Fu In Pr St Bl La → De
declaration_step (Declaration-F.Integers c t ds e) = λ n.
    known_as (λ xs. (start_of c t, declaration.Values xs e)) (declarators (is_constexpr c) c t shared.Unknown ds n)
declaration_step (Declaration-F.Vector q t x i e) = λ n.
    and_then (initialized taken.Nothing i n)
    (λ p m. declared_object (is_host m.setting.within) (vector_faults m t.kind x p.0) foreign_everywhere (Some (thing.Vector t.kind)) q.namespace x (λ v. declaration.Vector v p.1 e) m)
declaration_step (Declaration-F.DeviceVector q x i e) = λ n.
    and_then (initialized taken.Nothing i n)
    (λ p m. declared_object (is_host m.setting.within) (device_vector_faults m x p.0) foreign_everywhere (Some thing.DeviceVector) q.namespace x (λ v. declaration.DeviceVector v p.1 e) m)
declaration_step (Declaration-F.ThreadVector q x e) = λ n.
    declared_object (is_host n.setting.within) (plain_faults n x) foreign_everywhere (Some thing.ThreadVector) q.namespace x (λ v. declaration.ThreadVector v e) n
declaration_step (Declaration-F.Thread q x b l e) = λ n.
    and_then (l (role.Thread n.next) n)
    (λ p m. declared_object (is_host m.setting.within) (plain_faults m x) foreign_everywhere (Some thing.Thread) q.namespace x (λ v. declaration.Thread v p.1 e) m)
declaration_step (Declaration-F.Object t x i e) = λ n.
    and_then (initialized (taken_by_object t) i n)
    (λ p m. declared_object (is_made_in m.setting.within t) (object_faults m t x p.0) (foreign_object t) (object_row t (arguments_of p.0)).gives (type_start t) x (λ v. declaration.Object v p.1 e) m)

-- ---- statements

-- what a statement of this place finds; one in the head of a `for` leaves its uses to that
abbrev pub placed_at : Standing → Spot → Names → Outcome TypedStmt → Outcome TypedStmt
placed_at standing.InHead s n o = o
placed_at _ s n o = at_statement n.setting.within s o

abbrev pub stmt_judged : SeenStmt → TypedStmt → Look TypedStmt
stmt_judged x t n = outcome t (faults_found (stmt_faults n.setting x)) n

-- a body is a scope, be it a block or not
abbrev pub body : St → Look TypedStmt
body s n = scoped (s standing.AsBody) n

abbrev pub looped : {T : Type 0} → Look T → Look T
looped a n = in_setting (λ s. record s { in_loop = true }) a n

abbrev pub maybe : {S T : Type 0} → (S → Look T) → Option S → Look (Option T)
maybe f None n = plainly None n
maybe f (Some x) n = known_as (λ y. Some y) (f x n)

abbrev pub first_seen : Option (Seen × Typed) → Option Seen
first_seen None = None
first_seen (Some p) = Some p.0

abbrev pub first_typed : Option (Seen × Typed) → Option Typed
first_typed None = None
first_typed (Some p) = Some p.1

abbrev pub full_typed : Option (Spot × TypedFull) → Option TypedFull
full_typed None = None
full_typed (Some p) = Some p.1

abbrev pub returning : Spot → Option Ex → Spot → Look TypedStmt
returning s a e n =
    and_then (maybe part a n) (λ p. stmt_judged (Stmt-F.Return s (first_seen p) e) (typed_stmt.Return s (first_typed p) e))

abbrev pub branching : Spot → Ex → St → Option St → Look TypedStmt
branching s c a b n =
    and_then (part c n)
    (λ p m. and_then (body a m)
    (λ x k. and_then (maybe body b k) (λ y. stmt_judged (Stmt-F.If s p.0 tt None) (typed_stmt.If s p.1 x y))))

abbrev pub while_loop : Spot → Ex → St → Look TypedStmt
while_loop s c a n =
    and_then (part c n) (λ p m. and_then (looped (body a) m) (λ x. stmt_judged (Stmt-F.While s p.0 tt) (typed_stmt.While s p.1 x)))

abbrev pub do_loop : Spot → St → Ex → Spot → Look TypedStmt
do_loop s a c e n =
    and_then (looped (body a) n) (λ x m. and_then (part c m) (λ p. stmt_judged (Stmt-F.Do s tt p.0 e) (typed_stmt.Do s x p.1 e)))

-- what the head declares belongs to the scope of the body
abbrev pub for_loop : Spot → St → Option Ex → Option Fu → St → Look TypedStmt
for_loop s i c f a n =
    and_then (i standing.InHead n)
    (λ x m. and_then (maybe part c m)
    (λ p k. and_then (maybe (λ g. g false) f k)
    (λ q j. and_then (looped (a standing.AsBody) j)
    (λ y. stmt_judged (Stmt-F.For s tt (first_seen p) None tt) (typed_stmt.For s x (first_typed p) (full_typed q) y)))))

-- ---- range-for

abbrev pub ranged_type : Option Named → Option Thing
ranged_type None = None
ranged_type (Some v) = v.what

abbrev pub ranged_fixed : Option Named → Bool
ranged_fixed None = false
ranged_fixed (Some v) = v.fixed

abbrev pub ranged_variable : Option Named → Spot → Variable
ranged_variable None s = variable 0 None s
ranged_variable (Some v) s = variable v.number v.what s

abbrev pub range_faults : Names → Bool → TypeSpecifier → Bool → Lexeme → Lexeme → Option Named → List Diagnostic
range_faults n c t r x v found =
    at code.UnknownName (when (not (is_some found)) v.spot)
    ++ (at code.BadDeclaration (when (fails (goes_over t c r) (ranged_type found)) x.spot)
    ++ at code.ThreadCapture (when (is_misused_in n.threads found) v.spot))

abbrev pub range_found : Names → Bool → TypeSpecifier → Bool → Lexeme → Lexeme → Option Named → List Finding
range_found n c t r x v found =
    faults_found (if is_host n.setting.within then range_faults n c t r x v found else []) ++ (foreign_everywhere ++ use_of found)

-- by reference over integers the name stands for an element
abbrev pub ranged_name : Bool → Lexeme → Option Thing → Bool → Names → Names
ranged_name by_reference x t fixed n = declared_as (by_reference && passes is_integer_type t) x t fixed constant.Varying n

abbrev pub range_for_over : Spot → Bool → TypeSpecifier → Bool → Lexeme → Lexeme → Option Named → St → Look TypedStmt
range_for_over s c t r x v found a n =
    after (range_found n c t r x v found)
    (known_as (λ y. typed_stmt.RangeFor s (variable n.next (element_given t (ranged_type found)) x.spot) r (ranged_variable found v.spot) y)
    (looped (a standing.AsBody) (ranged_name r x (element_given t (ranged_type found)) (c || (r && ranged_fixed found)) n)))

abbrev pub range_for : Spot → Bool → TypeSpecifier → Bool → Lexeme → Lexeme → St → Look TypedStmt
range_for s c t r x v a n = range_for_over s c t r x v (look_up n.entries v.text) a n

-- ---- try

abbrev pub handler : Lexeme → Bl → Look (Variable × TypedBlock)
handler x b n = known_as (λ y. (variable n.next (Some thing.Exception) x.spot, y)) (b (declared_variable x (Some thing.Exception) true n))

abbrev pub trying : Spot → Bl → Lexeme → Bl → Look TypedStmt
trying s a x b n =
    after foreign_everywhere (and_then (scoped a n) (λ y m. known_as (λ h. typed_stmt.Try s y h.0 h.1) (scoped (handler x b) m)))

-- ---- one clause for each statement

abbrev pub block_as : Standing → Bl → Look TypedBlock
block_as standing.AsBody b n = b n
block_as _ b n = scoped b n

abbrev pub declared_at : Standing → Names → Outcome (Spot × TypedDeclaration) → Outcome TypedStmt
declared_at own n o = placed_at own o.what.0 n (known_as (λ p. typed_stmt.Declaration p.1) o)

abbrev pub expressed_at : Standing → Spot → Names → Outcome (Spot × TypedFull) → Outcome TypedStmt
expressed_at own e n o = placed_at own o.what.0 n (known_as (λ p. typed_stmt.Expression p.1 e) o)

abbrev pub stmt_step : Stmt-F Ar De Dr Ex Fu In Pr St Bl La → St
stmt_step (Stmt-F.Compound b) = λ own n. known_as (λ b. typed_stmt.Compound b) (block_as own b n)
stmt_step (Stmt-F.Null s) = λ own n. plainly (typed_stmt.Null s) n
stmt_step (Stmt-F.Declaration d) = λ own n. declared_at own n (d n)
stmt_step (Stmt-F.Expression f e) = λ own n. expressed_at own e n (f true n)
stmt_step (Stmt-F.Print q xs e) = λ own n.
    placed_at own q.namespace n (after (foreign_in true within.Kernel) (known_as (λ ps. typed_stmt.Print ps e) (in_turn xs n)))
stmt_step (Stmt-F.Break s e) = λ own. stmt_judged (Stmt-F.Break s e) (typed_stmt.Break s e)
stmt_step (Stmt-F.Continue s e) = λ own. stmt_judged (Stmt-F.Continue s e) (typed_stmt.Continue s e)
stmt_step (Stmt-F.Return s a e) = λ own n. placed_at own s n (returning s a e n)
stmt_step (Stmt-F.If s c a b) = λ own n. placed_at own s n (branching s c a b n)
stmt_step (Stmt-F.While s c a) = λ own n. placed_at own s n (while_loop s c a n)
stmt_step (Stmt-F.Do s a c e) = λ own n. placed_at own s n (do_loop s a c e n)
stmt_step (Stmt-F.For s i c f a) = λ own n. placed_at own s n (scoped (for_loop s i c f a) n)
stmt_step (Stmt-F.RangeFor s c t r x v a) = λ own n. placed_at own s n (scoped (range_for s c t r x v a) n)
stmt_step (Stmt-F.Try s a x b) = λ own n. placed_at own s n (trying s a x b n)

abbrev pub block_step : Block-F Ar De Dr Ex Fu In Pr St Bl La → Bl
block_step b = λ n. known_as (λ xs. roll-TypedBlock (record { statements = xs; close = b.close })) (in_turn (map (λ s. s standing.InList) b.statements) n)

-- ---- printed items: integers, texts and ends of lines

abbrev pub printed_faults : Seen → List Diagnostic
printed_faults a = at code.WrongOperand (no_integer a) ++ at code.ModeBroken (unread a)

abbrev pub printed_step : Printed-F Ar De Dr Ex Fu In Pr St Bl La → Pr
printed_step (Printed-F.Operand s a) = λ n.
    and_then (part a n) (λ p. outcome (printed.Operand s p.1) (faults_found (printed_faults p.0)))
printed_step (Printed-F.Text s x) = plainly (printed.Bytes s (string_bytes_of x.text) x.spot)
printed_step (Printed-F.EndLine s q) = plainly (printed.EndLine s q.name)

-- ---- lambdas

-- a name that a thread's lambda lists is one of its own; a copy is constant, and stands for no element
abbrev pub captured : Bool → Lexeme → Option Named → Names → Names
captured by_reference x None n = n
captured by_reference x (Some v) n = with_entry x.text (record v { depth = n.depth; fixed = v.fixed || not by_reference; names_element = v.names_element && by_reference }) n

abbrev pub captured_by : Option ThreadScope → Bool → Lexeme → Option Named → Names → Names
captured_by None by_reference x v n = n
captured_by (Some t) by_reference x v n = captured by_reference x v n

abbrev pub capture_of : Bool → Option Named → List TypedCapture
capture_of by_reference None = []
capture_of true (Some v) = reference_to v ∷ []
capture_of false (Some v) = copy_of v ∷ []

-- outside, the name is looked up where the lambda stands
abbrev pub one_listed : Names → Option ThreadScope → Bool → Lexeme → Look (List TypedCapture)
one_listed outside t by_reference x n =
    outcome (capture_of by_reference (look_up outside.entries x.text))
    (faults_found (listed_faults outside t by_reference x) ++ use_of (look_up outside.entries x.text))
    (captured_by t by_reference x (look_up outside.entries x.text) n)

abbrev pub one_capture : Names → Option ThreadScope → Capture → Look (List TypedCapture)
one_capture outside t (capture.Reference s x) n = one_listed outside t true x n
one_capture outside t (capture.Copy x) n = one_listed outside t false x n
one_capture outside t _ n = plainly [] n

abbrev pub joined : {T : Type 0} → List (List T) → List T
joined [] = []
joined (xs ∷ more) = xs ++ joined more

abbrev pub all_captures : Names → Option ThreadScope → List Capture → Look (List TypedCapture)
all_captures outside t cs n = known_as joined (in_turn (map (one_capture outside t) cs) n)

abbrev pub one_lambda_parameter : Role → LambdaParameter → Look Variable
one_lambda_parameter r p n =
    outcome (variable n.next (parameter_type r p.of) p.name.spot)
    (faults_found (lambda_parameter_faults n p))
    (declared_variable p.name (parameter_type r p.of) false n)

-- where the body of a lambda stands, with so many scopes outside it
abbrev pub inside : Role → ℕ → Setting → Setting
inside role.Group d s = record s { within = within.Group; returned = None; in_loop = false; taken = taken.Nothing }
inside (role.Thread v) d s = record s { returned = None; in_loop = false; taken = taken.Nothing }
inside (role.Kernel i r) d s = record s { within = within.Kernel; returned = None; in_loop = false; kernel = Some d; taken = taken.Nothing }

abbrev pub within_thread : Option ThreadScope → Names → Names
within_thread None n = n
within_thread (Some t) n = record n { threads = t ∷ n.threads }

-- what follows a lambda is in no thread more than what stands before it
abbrev pub out_of_threads : {T : Type 0} → Names → Outcome T → Outcome T
out_of_threads n o = outcome o.what o.found (record o.names { threads = n.threads })

-- its parameters belong to the scope of its body
abbrev pub parameters_and_body : Role → List LambdaParameter → Bl → Look (List Variable × TypedBlock)
parameters_and_body r ps b n = and_then (in_turn (map (one_lambda_parameter r) ps) n) (λ vs m. known_as (λ y. (vs, y)) (b m))

abbrev pub lambda_inside : Role → List LambdaParameter → Bl → Names → Look (List Variable × TypedBlock)
lambda_inside r ps b outside n =
    in_setting (inside r outside.depth) (λ m. scoped (parameters_and_body r ps b) m) n

abbrev pub lambda_parts : Role → Option ThreadScope → List Capture → List LambdaParameter → Bl → Names → Look (List TypedCapture × (List Variable × TypedBlock))
lambda_parts r t cs ps b outside n =
    scoped (λ m. and_then (all_captures outside t cs m) (λ xs k. known_as (λ y. (xs, y)) (lambda_inside r ps b outside (within_thread t k)))) n

abbrev pub lambda_found : Role → Spot → List Capture → List LambdaParameter → List Finding → List Finding
lambda_found r s cs ps found = faults_found (at code.BadLambda (bad_lambda r s cs ps (all_broken found))) ++ found

abbrev pub seen_lambda : List LambdaParameter → List Diagnostic → SeenLambda
seen_lambda ps ds = record { is_sound = is_empty ds; dimensions = if is_empty ds then first_dimensions ps else None }

abbrev pub typed_lambda : Role → Spot → Names → List TypedCapture × (List Variable × TypedBlock) → List Finding → TypedLambda
typed_lambda r s n p found = roll-TypedLambda (record {
  spot = s;
  number = n.next_body;
  captures = captures_given r n.next p.0 (all_used found);
  parameters = p.1.0;
  body = p.1.1;
})

abbrev pub lambda_judged : Role → Spot → List Capture → List LambdaParameter → Names → Outcome (List TypedCapture × (List Variable × TypedBlock)) → Outcome (SeenLambda × TypedLambda)
lambda_judged r s cs ps n o =
    outcome (seen_lambda ps (all_broken (lambda_found r s cs ps o.found)), typed_lambda r s n o.what o.found) (lambda_found r s cs ps o.found) o.names

abbrev pub lambda_step : Lambda-F Ar De Dr Ex Fu In Pr St Bl La → La
lambda_step l = λ r n.
    lambda_judged r l.spot l.captures (listed l.parameters) n
    (out_of_threads n (lambda_parts r (thread_scope n r l.captures) l.captures (listed l.parameters) l.body n (record n { next_body = n.next_body + 1 })))

-- ---- the tree

abbrev pub argument_step : Argument-F Ar De Dr Ex Fu In Pr St Bl La → Ar
argument_step (Argument-F.Value e) = Argument-F.Value e
argument_step (Argument-F.Braced s es e) = Argument-F.Braced s es e
argument_step (Argument-F.Lambda l) = Argument-F.Lambda l

abbrev pub declarator_step : Declarator-F Ar De Dr Ex Fu In Pr St Bl La → Dr
declarator_step (Declarator-F.Uninitialized x) = Declarator-F.Uninitialized x
declarator_step (Declarator-F.Equal x s a) = Declarator-F.Equal x s a
declarator_step (Declarator-F.Bracketed x b s a e) = Declarator-F.Bracketed x b s a e

abbrev pub initializer_step : Initializer-F Ar De Dr Ex Fu In Pr St Bl La → In
initializer_step (Initializer-F.Copy s a) = Initializer-F.Copy s a
initializer_step (Initializer-F.Direct b s xs e) = Initializer-F.Direct b s xs e

abbrev pub expr : Expr → Ex
expr = fold-Expr Ar De Dr Ex Fu In Pr St Bl La argument_step declaration_step declarator_step expr_step full_step initializer_step printed_step stmt_step block_step lambda_step

abbrev pub declarator_of : Declarator → Dr
declarator_of = fold-Declarator Ar De Dr Ex Fu In Pr St Bl La argument_step declaration_step declarator_step expr_step full_step initializer_step printed_step stmt_step block_step lambda_step

abbrev pub stmt : Stmt → St
stmt = fold-Stmt Ar De Dr Ex Fu In Pr St Bl La argument_step declaration_step declarator_step expr_step full_step initializer_step printed_step stmt_step block_step lambda_step

abbrev pub block : Block → Bl
block = fold-Block Ar De Dr Ex Fu In Pr St Bl La argument_step declaration_step declarator_step expr_step full_step initializer_step printed_step stmt_step block_step lambda_step
