-- A reduction's variable takes a value in. (SYCL 2020, "reducer class")
use Rattle.std.specs.Prelude.{ℕ}
use Rattle.sy_num.specs.Scalars.{Scalar, converted, scalar}
use Rattle.sy_num.specs.declared.Kind.{Kind}
use Rattle.sy_tree.specs.declared.parts.FunctionObject.{FunctionObject}
use Rattle.sy_tree.specs.declared.parts.FunctionObject.TheVariants as functions
use Rattle.sy_work.specs.Reductions.{combined}
use Rattle.sy_work.specs.declared.commands.RedOp.{RedOp}
use Rattle.sy_work.specs.declared.commands.RedOp.TheVariants as red
use Rattle.sy_meaning.specs.declared.runs.Location.{Location}
use Rattle.sy_meaning.specs.Words.{Object, word}
use Rattle.sy_meaning.specs.Outcomes.{Ex, and_then, computed}
use Rattle.sy_meaning.specs.Locations.{load, store}

abbrev pub operator_of : FunctionObject → RedOp
operator_of functions.Plus = red.Plus
operator_of functions.Multiplies = red.Times
operator_of functions.Minimum = red.Min
operator_of functions.Maximum = red.Max
operator_of functions.BitAnd = red.And
operator_of functions.BitOr = red.Or
operator_of functions.BitXor = red.Xor

-- the value is first converted to the variable's kind
abbrev pub combines : FunctionObject → Kind → ℕ → Location → Object → Scalar → Ex
combines f k line a p x r =
    and_then (load line k a p r) (λ y r. and_then (computed line (combined (operator_of f) k (scalar k (word 0 y)) (converted k x)) r) (λ z. store line a p (scalar k (word 0 z))))
