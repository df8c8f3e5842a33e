-- Parts of trees, for the examples: a body has 99 turns, and no function is called unless it is given.
use Rattle.std.specs.Prelude.{List, None, Some, [], map, pos, replicate, ℕ, ℤ, ◌∷◌}
use Rattle.sy_access.specs.declared.access.Mode.TheVariants as mode
use Rattle.sy_num.specs.declared.BinOp.{BinOp}
use Rattle.sy_num.specs.declared.Kind.TheVariants as kinds
use Rattle.sy_note.specs.declared.Spot.{Spot}
use Rattle.sy_tree.specs.declared.operators.AssignmentOperator.{AssignmentOperator}
use Rattle.sy_tree.specs.declared.operators.Operator.TheVariants as operator
use Rattle.sy_tree.specs.declared.parts.Brackets.{Brackets}
use Rattle.sy_tree.specs.declared.parts.Brackets.TheVariants as brackets
use Rattle.sy_typed.specs.declared.things.Dimensions.TheVariants as dimensions
use Rattle.sy_typed.specs.declared.things.Member.{Member}
use Rattle.sy_typed.specs.declared.things.Thing.{Thing}
use Rattle.sy_typed.specs.declared.things.Thing.TheVariants as thing
use Rattle.sy_typed.specs.declared.tree.TypedArgument.TheOpen.{TypedDeclaration-F, TypedFull-F, TypedNode-F, TypedPrinted-F, TypedStmt-F}
use Rattle.sy_typed.specs.declared.tree.TypedCapture.{TypedCapture}
use Rattle.sy_typed.specs.declared.tree.Variable.{Variable}
use Rattle.sy_work.specs.Programs.{Input}
use Rattle.sy_work.specs.declared.asks.Answer.{Answer}
use Rattle.sy_work.specs.declared.asks.Ask.{Ask}
use Rattle.sy_work.specs.declared.commands.Kernel.{Kernel}
use Rattle.sy_meaning.specs.Words.{nothing}
use Rattle.sy_meaning.specs.Outcomes.{St, gives}
use Rattle.sy_meaning.specs.Expressions.{Argument, Block, Calls, Exp, Lambda, value}
use Rattle.sy_meaning.specs.Lambdas.{variable_of}
use Rattle.sy_meaning.specs.Statements.{Initializer, Printing, Statement, declare_value, direct}
use Rattle.sy_meaning.specs.Meaning.{Node, block_step, declaration_step, full_step, node_step, printed_step, stmt_step}
use Rattle.sy_meaning.specs.Next.{ask_of, bound_all, bound_item, item_end, item_start, objects_from, result_of, start}
use Rattle.sy_meaning.specs.Kernels.{Items}

abbrev pub Layer : Type 0
Layer = TypedNode-F Argument Statement St Statement Initializer Node Printing Statement Exp Block Lambda

abbrev pub StmtLayer : Type 0
StmtLayer = TypedStmt-F Argument Statement St Statement Initializer Node Printing Statement Exp Block Lambda

abbrev pub no_calls : Calls
no_calls f os r = gives nothing r

abbrev pub spot : ℕ → Spot
spot l = record { line = l; column = 1 }

abbrev pub node : Layer → Thing → ℕ → Exp
node n t l = node_step no_calls 99 n t (spot l)

abbrev pub stmt : StmtLayer → Statement
stmt s = stmt_step no_calls 99 s

-- ---- types

abbrev pub int : Thing
int = thing.Integer kinds.Int

abbrev pub size_t : Thing
size_t = thing.Integer kinds.ULong

abbrev pub ints : Thing
ints = thing.Vector kinds.Int

abbrev pub buffer : Thing
buffer = thing.Buffer kinds.Int dimensions.One

abbrev pub accessor_type : Thing
accessor_type = thing.Accessor kinds.Int dimensions.One mode.ReadWrite

abbrev pub host_type : Thing
host_type = thing.HostAccessor kinds.Int dimensions.One mode.ReadWrite

abbrev pub range_type : Thing
range_type = thing.Range dimensions.One

-- ---- expressions, with their line

abbrev pub num : ℕ → ℕ → Exp
num z l = node (TypedNode-F.Integer (pos z)) int l

abbrev pub nam : Thing → ℕ → ℕ → Exp
nam t n l = node (TypedNode-F.Name n) t l

abbrev pub binary_of : BinOp → Exp → Exp → Thing → ℕ → Exp
binary_of op a b t l = node (TypedNode-F.Binary a (operator.Strict op) b) t l

abbrev pub index_of : Exp → Exp → ℕ → Exp
index_of a i l = node (TypedNode-F.Subscript a i (spot l)) int l

abbrev pub member_of : Exp → Member → List Argument → Thing → ℕ → Exp
member_of a m xs t l = node (TypedNode-F.MemberCall a m xs (spot l)) t l

abbrev pub made : Thing → List Argument → ℕ → Exp
made t xs l = node (TypedNode-F.Construct xs (spot l)) t l

abbrev pub range_of_one : ℕ → ℕ → Exp
range_of_one n l = made range_type (value (num n l) ∷ []) l

abbrev pub call_of : Calls → ℕ → Exp
call_of calls l = node_step calls 99 (TypedNode-F.Call 0 [] (spot l)) thing.Void (spot l)

-- a function without parameters, whose body this is
abbrev pub function_of : Statement → Calls
function_of s f os r = result_of None r.frame (s.run (record r { frame = [] }))

-- ---- statements, with the line of their end

abbrev pub variable : ℕ → Thing → ℕ → Variable
variable n t l = record { number = n; what = t; spot = spot l }

abbrev pub body : List Statement → ℕ → Block
body ss l = block_step no_calls 99 (record { statements = ss; close = spot l })

abbrev pub compound : List Statement → ℕ → Statement
compound ss l = stmt (TypedStmt-F.Compound (body ss l))

abbrev pub expr : Exp → ℕ → Statement
expr e l = stmt (TypedStmt-F.Expression (full_step no_calls 99 (TypedFull-F.Plain e)) (spot l))

abbrev pub assign_of : Exp → AssignmentOperator → Exp → ℕ → Statement
assign_of a op b l =
    stmt (TypedStmt-F.Expression (full_step no_calls 99 (TypedFull-F.Assignment a (spot l) op b)) (spot l))

abbrev pub declaration : TypedDeclaration-F Argument Statement St Statement Initializer Node Printing Statement Exp Block Lambda → Statement
declaration d = stmt (TypedStmt-F.Declaration (declaration_step no_calls 99 d))

abbrev pub object_of : ℕ → Thing → List Argument → ℕ → Statement
object_of n t xs l = declaration (TypedDeclaration-F.Object (variable n t l) (Some (direct brackets.Braces xs)) (spot l))

abbrev pub ints_of : ℕ → Brackets → List Argument → ℕ → Statement
ints_of n b xs l = declaration (TypedDeclaration-F.Vector (variable n ints l) (Some (direct b xs)) (spot l))

abbrev pub int_of : ℕ → Exp → ℕ → Statement
int_of n e l = declaration (TypedDeclaration-F.Values (declare_value (variable n int l) e ∷ []) (spot l))

abbrev pub printing : Exp → Statement
printing e =
    stmt (TypedStmt-F.Print (printed_step no_calls 99 (TypedPrinted-F.Operand (spot e.line) e) ∷ []) (spot e.line))

abbrev pub try_of : List Statement → ℕ → List Statement → ℕ → Statement
try_of ss l hs m = stmt (TypedStmt-F.Try (spot 1) (body ss l) (variable 90 thing.Exception l) (body hs m))

abbrev pub lambda_of : ℕ → List TypedCapture → List Variable → List Statement → ℕ → Lambda
lambda_of n cs xs ss l = record { number = n; spot = spot l; captures = cs; parameters = xs; body = body ss l }

-- ---- what a main asks

abbrev pub ask_after : List Statement → List Answer → Ask
ask_after ss answers = ask_of (Some kinds.Int) ((compound ss 9).run (start 99 answers))

-- ---- what a kernel does

abbrev pub items_with : List TypedCapture → List Variable → List Statement → Items
items_with cs xs ss k p stores answers =
    item_end 9 xs ((compound ss 9).run (bound_item xs (bound_all (map variable_of cs) (objects_from (map variable_of cs) k.captures) (item_start 99 p stores answers))))

abbrev pub kernel_on : List ℤ → List ℕ → Kernel
kernel_on captures locals = record { code = 0; captures = captures; locals = locals; turns = 99 }

abbrev pub zeros : ℕ → List Input
zeros n = (2, 0, replicate n (pos 0)) ∷ []
