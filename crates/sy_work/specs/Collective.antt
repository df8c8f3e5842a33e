-- *Collective stop*: where the items of a work-group stop together, and what a group function gives each.
-- (SYCL 2020, "Group functions", "Group algorithms library"; that the order is that of linear ids is own)
use Rattle.std.specs.Prelude.{ℕ, ◌+◌, ◌-◌, ℤ, pos, Bool, true, false, ◌&&◌, ◌==◌, List, [], ◌∷◌, length, replicate, take, slice_index_or, Option, Some, None, Result, Ok, Err}
use Rattle.sy_num.specs.declared.Kind.{Kind}
use Rattle.sy_num.specs.declared.Kind.TheVariants as kinds
use Rattle.sy_num.specs.declared.Undefined.{Undefined}
use Rattle.sy_num.specs.Scalars.{Scalar}
use Rattle.sy_work.specs.declared.asks.Ask.{Ask}
use Rattle.sy_work.specs.declared.asks.Ask.TheVariants as asks
use Rattle.sy_work.specs.declared.commands.Collect.{Collect}
use Rattle.sy_work.specs.declared.commands.Form.{Form}
use Rattle.sy_work.specs.declared.commands.Form.TheVariants.{Reduce, Inclusive, Exclusive, Broadcast}
use Rattle.sy_work.specs.declared.commands.RedOp.{RedOp}
use Rattle.sy_work.specs.declared.commands.RedOp.TheVariants as operators
use Rattle.sy_work.specs.Reductions.{identity, step}

-- ---- stops

abbrev pub same_form : Form → Form → Bool
same_form Reduce Reduce = true
same_form Inclusive Inclusive = true
same_form Exclusive Exclusive = true
same_form (Broadcast n) (Broadcast m) = n == m
same_form f g = false

abbrev pub same_operator : RedOp → RedOp → Bool
same_operator operators.Plus operators.Plus = true
same_operator operators.Times operators.Times = true
same_operator operators.Min operators.Min = true
same_operator operators.Max operators.Max = true
same_operator operators.And operators.And = true
same_operator operators.Or operators.Or = true
same_operator operators.Xor operators.Xor = true
same_operator o p = false

-- a number for each kind
abbrev pub kind_number : Kind → ℕ
kind_number kinds.Bool = 0
kind_number kinds.Char = 1
kind_number kinds.SChar = 2
kind_number kinds.UChar = 3
kind_number kinds.Short = 4
kind_number kinds.UShort = 5
kind_number kinds.Int = 6
kind_number kinds.UInt = 7
kind_number kinds.Long = 8
kind_number kinds.ULong = 9
kind_number kinds.LLong = 10
kind_number kinds.ULLong = 11

-- two calls of one group function, whatever the values are
abbrev pub same_call : Collect → Collect → Bool
same_call x y = same_form x.form y.form && (same_operator x.op y.op && kind_number x.kind == kind_number y.kind)

-- two stops are one: both items have ended, or both stand at one place of the source
abbrev pub same_stop : Ask → Ask → Bool
same_stop (asks.Finish v) (asks.Finish w) = true
same_stop (asks.Barrier c l) (asks.Barrier d m) = c == d && l == m
same_stop (asks.Collect c l x) (asks.Collect d m y) = c == d && (l == m && same_call x y)
same_stop a b = false

-- the line of a barrier or group function; none where the item has ended
abbrev pub stop_line : Ask → Option ℕ
stop_line (asks.Barrier c line) = Some line
stop_line (asks.Collect c line x) = Some line
stop_line a = None

-- ---- values

-- what each item gets, or the number of the item at whose value the step overflows
abbrev pub Collected : Type 0
Collected = Result (List ℤ) ℕ

-- what comes behind a step that was taken at item k
abbrev pub go_on : Result Scalar Undefined → ℕ → (ℤ → Collected) → Collected
go_on (Ok s) k go = go s.num
go_on (Err u) k go = Err k

abbrev pub with_first : ℤ → Collected → Collected
with_first z (Ok zs) = Ok (z ∷ zs)
with_first z (Err k) = Err k

-- a, a op x, a op x op y and so on through the last, where x is the value of item k
abbrev pub running : RedOp → Kind → ℕ → ℤ → List ℤ → Collected
running op kind k a [] = Ok (a ∷ [])
running op kind k a (x ∷ xs) = with_first a (go_on (step op kind a x) k (λ b. running op kind (k + 1) b xs))

-- x0, x0 op x1 and so on
abbrev pub inclusive : RedOp → Kind → List ℤ → Collected
inclusive op kind [] = Ok []
inclusive op kind (x ∷ xs) = running op kind 1 x xs

-- the identity, and then the same but for the last
abbrev pub exclusive : RedOp → Kind → List ℤ → Collected
exclusive op kind xs = with_first (identity op kind) (inclusive op kind (take (length xs - 1) xs))

abbrev pub last_of : List ℤ → ℤ
last_of [] = pos 0
last_of (z ∷ []) = z
last_of (z ∷ y ∷ zs) = last_of (y ∷ zs)

abbrev pub last_to_all : Collected → Collected
last_to_all (Ok zs) = Ok (replicate (length zs) (last_of zs))
last_to_all (Err k) = Err k

-- what a group function gives its items, from their values in the order of local linear ids
abbrev pub collective : Form → RedOp → Kind → List ℤ → Collected
collective Reduce op kind xs = last_to_all (inclusive op kind xs)
collective Inclusive op kind xs = inclusive op kind xs
collective Exclusive op kind xs = exclusive op kind xs
collective (Broadcast n) op kind xs = Ok (replicate (length xs) (slice_index_or xs n (pos 0)))
