-- What a main that prints sums asks.
use Rattle.std.specs.Prelude.{ℕ, zero, suc, pos, Bool, true, false, nat_le, nat_lt, if◌then◌else◌, List, [], ◌∷◌, length, slice_get, filter_map, flat_map, Option, Some, None, Result, Ok, Err}
use Rattle.std.specs.Fmt.{signed_decimal}
use Rattle.sy_num.specs.declared.BinOp.{BinOp}
use Rattle.sy_num.specs.declared.BinOp.TheVariants.{Add, Sub}
use Rattle.sy_num.specs.declared.Kind.TheVariants.{Int, Long}
use Rattle.sy_num.specs.declared.Undefined.{Undefined}
use Rattle.sy_num.specs.Operators.{applied}
use Rattle.sy_num.specs.Scalars.{Scalar, scalar}
use Rattle.sy_tree.specs.declared.operators.Operator.TheVariants.{Strict}
use Rattle.sy_tree.specs.declared.tree.Argument.TheOpen.{Expr-F, Printed-F, Stmt-F}
use Rattle.sy_tree.specs.declared.tree.Block.{out-Block}
use Rattle.sy_tree.specs.declared.tree.Expr.{Expr, out-Expr}
use Rattle.sy_tree.specs.declared.tree.FileItem.{FileItem}
use Rattle.sy_tree.specs.declared.tree.FileItem.TheVariants as item
use Rattle.sy_tree.specs.declared.tree.Printed.{Printed, out-Printed}
use Rattle.sy_tree.specs.declared.tree.Stmt.{Stmt, out-Stmt}
use Rattle.sy_tree.specs.declared.tree.Unit.{Unit as SourceUnit}
use Rattle.sy_tree.specs.Grammar.{max_height}
use Rattle.sy_tree.specs.Layers.{ExprLayer, PrintedLayer, StmtLayer}
use Rattle.sy_work.specs.declared.asks.Ask.{Ask}
use Rattle.sy_work.specs.declared.asks.Ask.TheVariants.{Print, Finish, Halt}
use Rattle.sy_work.specs.declared.asks.Halt.TheVariants.{Trapped, TurnsSpent}
use Rattle.sy_work.specs.declared.commands.Outcome.TheVariants.{Wrote}
use Rattle.sy_work.specs.declared.endings.Cause.TheVariants.{Overflow}
use Rattle.sy_work.specs.Programs.{Program}
use Rattle.sy_sums.specs.declared.sums.Given.{Given}
use Rattle.sy_sums.specs.declared.sums.Given.TheVariants as given
use Rattle.sy_sums.specs.declared.sums.Operand.{Operand}
use Rattle.sy_sums.specs.declared.sums.Summed.{Summed}
use Rattle.sy_sums.specs.declared.sums.Summed.TheVariants.{Holds, Overflowed}
use Rattle.sy_sums.specs.Numerals.{number_of}

-- ---- sums

-- a decimal literal without suffix has the first kind of Int and Long that can represent it
abbrev pub literal : ℕ → Scalar
literal n = if nat_le n 2147483647 then scalar Int (pos n) else scalar Long (pos n)

abbrev pub summed : Result Scalar Undefined → ℕ → Summed
summed (Ok value) line = Holds value
summed (Err e) line = Overflowed line

-- the sum after an operator of this line and a number. A sum that has overflowed stays so
abbrev pub add : BinOp → ℕ → Summed → ℕ → Summed
add o line (Overflowed at) n = Overflowed at
add o line (Holds value) n = summed (applied o value (literal n)) line

-- the same where both parts are there
abbrev pub added : BinOp → ℕ → Option Summed → Option ℕ → Option Summed
added o line None n = None
added o line (Some sum) None = None
added o line (Some sum) (Some n) = Some (add o line sum n)

abbrev pub is_additive : BinOp → Bool
is_additive Add = true
is_additive Sub = true
is_additive o = false

abbrev pub number_at : ExprLayer → Option ℕ
number_at (Expr-F.Integer x) = number_of x.text
number_at _ = None

-- the number that an expression is, if it is one of a sum
unfoldable pub number_in : Expr → Option ℕ
number_in x = number_at (out-Expr x)

-- a number by itself
abbrev pub lone : Option ℕ → Option Summed
lone None = None
lone (Some n) = Some (Holds (literal n))

-- sum = number | sum ("+" | "-") number, where `sub` says what the sums below come to
abbrev pub sum_at : (Expr → Option Summed) → Expr → ExprLayer → Option Summed
sum_at sub x (Expr-F.Binary a s (Strict o) b) = if is_additive o then added o s.line (sub a) (number_in b) else None
sum_at sub x _ = lone (number_in x)

-- what an expression of such a height comes to, if it is a sum
unfoldable pub sum_of : ℕ → Expr → Option Summed
sum_of zero x = None
sum_of (suc n) x = sum_at (sum_of n) x (out-Expr x)

-- ---- operands

abbrev pub given_by : Summed → Given
given_by (Holds value) = given.Number value.num
given_by (Overflowed line) = given.Overflow line

abbrev pub operand_from : ℕ → Option Summed → Option Operand
operand_from line None = None
operand_from line (Some sum) = Some (record { line = line; given = given_by sum })

abbrev pub operand_at : PrintedLayer → Option Operand
operand_at (Printed-F.Operand s x) = operand_from s.line (sum_of max_height x)
operand_at _ = None

-- a printed sum, with the line of its `<<`
unfoldable pub operand_of : Printed → Option Operand
operand_of p = operand_at (out-Printed p)

abbrev pub printed_at : StmtLayer → List Printed
printed_at (Stmt-F.Print q xs e) = xs
printed_at _ = []

-- what a statement prints by itself
unfoldable pub printed_by : Stmt → List Printed
printed_by x = printed_at (out-Stmt x)

abbrev pub statements_of : List FileItem → List Stmt
statements_of (item.Function f ∷ more) = (out-Block f.body).statements
statements_of items = []

-- the sums that the first function prints, in source order
abbrev pub operands : SourceUnit → List Operand
operands u = filter_map operand_of (flat_map printed_by (statements_of u.items))

-- ---- the program

-- printing it is an ask that takes a turn; a sum that overflows is none
abbrev pub ask_of_sum : Bool → ℕ → Given → Ask
ask_of_sum in_turns line (given.Overflow at) = Halt (Trapped Overflow at)
ask_of_sum in_turns line (given.Number z) = if in_turns then Print (signed_decimal z) else Halt (TurnsSpent line)

abbrev pub ask_here : Bool → Option Operand → Ask
ask_here in_turns None = Finish (pos 0)
ask_here in_turns (Some o) = ask_of_sum in_turns o.line o.given

-- main asks one print after another, and then finishes. There are no commands
abbrev pub program_of : ℕ → List Operand → Program
program_of turns ops = record {
  main = 0;
  next = λ body captures answers. ask_here (nat_lt (length answers) turns) (slice_get ops (length answers));
  outcome = λ command inputs. Wrote [];
}

abbrev pub sums_program : ℕ → SourceUnit → Program
sums_program turns u = program_of turns (operands u)
