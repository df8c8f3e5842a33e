-- What expressions mean, one definition per form. (C++17, "Expressions")
use Rattle.std.specs.Prelude.{Bool, List, None, Option, Some, false, if◌then◌else◌, map, not, pos, true, ℕ, ℤ}
use Rattle.sy_num.specs.Operators.{applied, applied_one}
use Rattle.sy_num.specs.Scalars.{Scalar, converted_num, scalar}
use Rattle.sy_num.specs.declared.BinOp.{BinOp}
use Rattle.sy_num.specs.declared.BinOp.TheVariants as operators
use Rattle.sy_num.specs.declared.Kind.TheVariants as kinds
use Rattle.sy_num.specs.declared.UnOp.{UnOp}
use Rattle.sy_note.specs.declared.Spot.{Spot}
use Rattle.sy_tree.specs.declared.operators.AssignmentOperator.{AssignmentOperator}
use Rattle.sy_tree.specs.declared.operators.AssignmentOperator.TheVariants as assign
use Rattle.sy_tree.specs.declared.operators.Operator.{Operator}
use Rattle.sy_tree.specs.declared.operators.Operator.TheVariants as operator
use Rattle.sy_tree.specs.declared.parts.FunctionObject.{FunctionObject}
use Rattle.sy_tree.specs.declared.parts.Step.{Step as TreeStep}
use Rattle.sy_tree.specs.declared.parts.Step.TheVariants as way
use Rattle.sy_typed.specs.declared.things.Thing.{Thing}
use Rattle.sy_typed.specs.declared.things.Thing.TheVariants as thing
use Rattle.sy_typed.specs.declared.tree.TypedCapture.{TypedCapture}
use Rattle.sy_typed.specs.declared.tree.Variable.{Variable}
use Rattle.sy_meaning.specs.declared.runs.Location.{Location}
use Rattle.sy_meaning.specs.declared.runs.Location.TheVariants as location
use Rattle.sy_meaning.specs.Words.{Object, as_thing, is_zero, kind_in, nothing, scalar_of, taken_as, truth_of, word}
use Rattle.sy_meaning.specs.Frame.{local}
use Rattle.sy_meaning.specs.Outcomes.{Ex, St, and_then, computed, each, gives, inside, on_turn, turn, with_list}
use Rattle.sy_meaning.specs.Ends.{in_full}
use Rattle.sy_meaning.specs.Locations.{index_into, load, store}
use Rattle.sy_meaning.specs.Combining.{combines}

-- what is known of an expression, and what it means
pub record Exp : Type 0 where
  pub what : Thing
  -- the lines of its own token and of its last one
  pub line : ℕ
  pub last : ℕ
  -- whether a temporary in it has to be ended
  pub makes : Bool
  -- what it designates, and the words that say which of these it is; of a value alone these are the value
  pub location : Location
  pub locate : Ex
  pub run : Ex

-- a block in its scope, with the line of its end
pub record Block : Type 0 where
  pub run : St
  pub last : ℕ

pub record Lambda : Type 0 where
  pub number : ℕ
  pub spot : Spot
  pub captures : List TypedCapture
  pub parameters : List Variable
  pub body : Block

-- the values of a braced list stand with the line of its `}`
pub data Argument : Type 0 where
  value : Exp → Argument
  braced : List Exp → ℕ → Argument
  lambda : Lambda → Argument

abbrev pub run_of : Exp → Ex
run_of e = e.run

abbrev pub makes_of : Exp → Bool
makes_of e = e.makes

-- a value alone
abbrev pub plain : Thing → ℕ → ℕ → Bool → Ex → Exp
plain t line last makes run =
    record { what = t; line = line; last = last; makes = makes; location = location.Nowhere; locate = run; run = run }

-- an lvalue; its value is what it designates
abbrev pub located : Thing → ℕ → ℕ → Bool → Location → Ex → Exp
located t line last makes l locate =
    record { what = t; line = line; last = last; makes = makes; location = l; locate = locate; run = λ r. and_then (locate r) (load line (kind_in t) l) }

-- what indexes give: an element, or what has fewer indexes than dimensions, which is read by no one
abbrev pub indexed : Thing → ℕ → ℕ → Bool → Location → Ex → Exp
indexed (thing.Integer k) line last makes l locate = located (thing.Integer k) line last makes l locate
indexed t line last makes l locate = record (plain t line last makes locate) { location = l }

-- a full expression
abbrev pub full : Exp → Ex
full e = in_full e.makes e.last e.run

-- ---- leaves

abbrev pub literal : Thing → ℕ → ℤ → Exp
literal t line z = plain t line line false (gives (taken_as (kind_in t) z))

abbrev pub name : Thing → ℕ → ℕ → Exp
name t line n = located t line line false (location.Local n) (gives nothing)

-- a name for an element of a vector
abbrev pub reference : Thing → ℕ → ℕ → Exp
reference (thing.Integer k) line n = located (thing.Integer k) line line false location.Element (λ r. gives (local n r) r)
reference t line n = name t line n

-- ---- operators ("Unary operators" to "Conditional operator")

abbrev pub strict : BinOp → ℕ → Exp → Exp → Ex
strict op line a b r =
    and_then (a.run r) (λ x r. and_then (b.run r) (λ y. computed line (applied op (scalar_of a.what x) (scalar_of b.what y))))

abbrev pub as_truth : Object → Ex
as_truth x = gives (truth_of (not (is_zero x)))

-- the right operand is evaluated only where it is needed
abbrev pub logical_and : Exp → Exp → Ex
logical_and a b r = and_then (a.run r) (λ x r. if is_zero x then gives (truth_of false) r else and_then (b.run r) as_truth)

abbrev pub logical_or : Exp → Exp → Ex
logical_or a b r = and_then (a.run r) (λ x r. if is_zero x then and_then (b.run r) as_truth else gives (truth_of true) r)

abbrev pub binary : Operator → ℕ → Exp → Exp → Ex
binary (operator.Strict op) line a b = strict op line a b
binary operator.LogicalAnd line a b = logical_and a b
binary operator.LogicalOr line a b = logical_or a b

abbrev pub unary : UnOp → ℕ → Exp → Ex
unary op line a r = and_then (a.run r) (λ x. computed line (applied_one op (scalar_of a.what x)))

abbrev pub conditional : Thing → Exp → Exp → Exp → Ex
conditional t c a b r =
    and_then (c.run r) (λ x r. and_then (if is_zero x then b.run r else a.run r) (λ y. gives (as_thing t y)))

abbrev pub cast : Thing → Exp → Ex
cast t a r = and_then (a.run r) (λ x. gives (as_thing t x))

-- ---- assignments ("Assignment and compound assignment operators", "Increment and decrement")

-- the operator of a compound assignment
abbrev pub assignment_operator : AssignmentOperator → Option BinOp
assignment_operator assign.Assign = None
assignment_operator assign.Add = Some operators.Add
assignment_operator assign.Sub = Some operators.Sub
assignment_operator assign.Mul = Some operators.Mul
assignment_operator assign.Div = Some operators.Div
assignment_operator assign.Rem = Some operators.Rem
assignment_operator assign.And = Some operators.And
assignment_operator assign.Or = Some operators.Or
assignment_operator assign.Xor = Some operators.Xor
assignment_operator assign.Shl = Some operators.Shl
assignment_operator assign.Shr = Some operators.Shr

abbrev pub step_operator : TreeStep → BinOp
step_operator way.Increment = operators.Add
step_operator way.Decrement = operators.Sub

abbrev pub one : Scalar
one = scalar kinds.Int (pos 1)

-- what the lvalue a holds, where these words say which one it is
abbrev pub held_at : Exp → Object → Ex
held_at a p = load a.line (kind_in a.what) a.location p

-- the lvalue a then holds the number, converted to a's kind
abbrev pub put_into : Exp → Object → ℤ → Ex
put_into a p z = store a.line a.location p (scalar (kind_in a.what) (converted_num (kind_in a.what) z))

-- a = a op y, with the lvalue found once
abbrev pub changed : BinOp → ℕ → Exp → Object → Scalar → Ex
changed op line a p y r =
    and_then (held_at a p r) (λ x r. and_then (computed line (applied op (scalar_of a.what x) y) r) (λ z. put_into a p (word 0 z)))

-- the right side first
abbrev pub assigned : Option BinOp → ℕ → Exp → Exp → Ex
assigned None line a b r = and_then (b.run r) (λ y r. and_then (a.locate r) (λ p. put_into a p (word 0 y)))
assigned (Some op) line a b r =
    and_then (b.run r) (λ y r. and_then (a.locate r) (λ p. changed op line a p (scalar_of b.what y)))

-- a reduction's variable takes the right side in
abbrev pub reduction_assigned : FunctionObject → ℕ → Exp → Exp → Ex
reduction_assigned f line a b r =
    and_then (b.run r) (λ y r. and_then (a.locate r) (λ p. combines f (kind_in a.what) line a.location p (scalar_of b.what y)))

abbrev pub assignment : Thing → AssignmentOperator → ℕ → Exp → Exp → Ex
assignment (thing.Reducer k f) op line a b = reduction_assigned f line a b
assignment t op line a b = assigned (assignment_operator op) line a b

abbrev pub prefix_step : TreeStep → ℕ → Exp → Ex
prefix_step s line a r = and_then (a.locate r) (λ p. changed (step_operator s) line a p one)

-- the old value
abbrev pub postfix_step : TreeStep → ℕ → Exp → Ex
postfix_step s line a r =
    and_then (a.locate r) (λ p r. and_then (held_at a p r) (λ x r. and_then (computed line (applied (step_operator s) (scalar_of a.what x) one) r) (λ z r. and_then (put_into a p (word 0 z) r) (λ w. gives x))))

-- ---- indexes and calls ("Subscripting", "Function call")

abbrev pub subscript : ℕ → Exp → Exp → Ex
subscript line a i r = and_then (a.run r) (λ x r. and_then (i.run r) (λ y. inside (index_into line a.what i.what x y)))

-- what a function does with its arguments
abbrev pub Calls : Type 0
Calls = ℕ → List Object → Ex

-- a call is a turn, after its arguments
abbrev pub call : Calls → ℕ → ℕ → List Exp → Ex
call calls line f es r = with_list (each (map run_of es) r) (λ os r. on_turn line r (turn r.world) (calls f os))
