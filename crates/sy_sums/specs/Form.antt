-- A main that prints sums, and nothing else.
--
--     unit  = INCLUDE* int "main" "(" ")" "{" (print ";")* "}", where int is a type of the kind Int in whichever words
--     print = "std" "::" "cout" ("<<" sum)+
--     sum   = number | sum ("+" | "-") number
use Rattle.std.specs.Prelude.{ℕ, zero, suc, Bool, true, false, ◌&&◌, nat_eq, if◌then◌else◌, List, [], ◌∷◌, length, slice_get, codes, Option, Some, None, option_map}
use Rattle.std.specs.Option.{option_or}
use Rattle.std.specs.Str.{bytes_eq}
use Rattle.sy_note.specs.declared.Spot.{Spot}
use Rattle.sy_num.specs.declared.Kind.{Kind}
use Rattle.sy_num.specs.declared.Kind.TheVariants.{Int}
use Rattle.sy_tree.specs.declared.operators.Operator.TheVariants.{Strict}
use Rattle.sy_tree.specs.declared.parts.ReturnType.{ReturnType}
use Rattle.sy_tree.specs.declared.parts.ReturnType.TheVariants as returned
use Rattle.sy_tree.specs.declared.tree.Argument.TheOpen.{Expr-F, Printed-F, Stmt-F}
use Rattle.sy_tree.specs.declared.tree.Block.{out-Block}
use Rattle.sy_tree.specs.declared.tree.Expr.{Expr, out-Expr}
use Rattle.sy_tree.specs.declared.tree.FileItem.{FileItem}
use Rattle.sy_tree.specs.declared.tree.FileItem.TheVariants as item
use Rattle.sy_tree.specs.declared.tree.Function.{Function}
use Rattle.sy_tree.specs.declared.tree.Printed.{Printed, out-Printed}
use Rattle.sy_tree.specs.declared.tree.Stmt.{Stmt, out-Stmt}
use Rattle.sy_tree.specs.declared.tree.Unit.{Unit as SourceUnit}
use Rattle.sy_tree.specs.Grammar.{max_height}
use Rattle.sy_tree.specs.Layers.{ExprLayer, PrintedLayer, StmtLayer}
use Rattle.sy_sums.specs.Spots.{first_token, returned_spot, statement_spot, item_spot}
use Rattle.sy_sums.specs.Sums.{is_additive, number_in}

-- the first place that `f` gives for one of a list
abbrev pub first_given : {A : Type 0} → (A → Option Spot) → List A → Option Spot
first_given f [] = None
first_given f (x ∷ xs) = option_or (f x) (first_given f xs)

-- ---- what is printed

abbrev pub unless_number : Option ℕ → Spot → Option Spot
unless_number None s = Some s
unless_number (Some n) s = None

-- the first token of what is no number of a sum
abbrev pub unbuilt_number : Expr → Option Spot
unbuilt_number x = unless_number (number_in x) (first_token x)

abbrev pub unbuilt_sum_at : (Expr → Option Spot) → Expr → ExprLayer → Option Spot
unbuilt_sum_at sub x (Expr-F.Binary a s (Strict o) b) = if is_additive o then option_or (sub a) (unbuilt_number b) else Some (first_token x)
unbuilt_sum_at sub x _ = unbuilt_number x

-- the first token of the first part of an expression that keeps it from being a sum of such a height
unfoldable pub unbuilt_sum : ℕ → Expr → Option Spot
unbuilt_sum zero x = Some (first_token x)
unbuilt_sum (suc n) x = unbuilt_sum_at (unbuilt_sum n) x (out-Expr x)

abbrev pub unbuilt_printed_at : PrintedLayer → Option Spot
unbuilt_printed_at (Printed-F.Operand s x) = unbuilt_sum max_height x
unbuilt_printed_at (Printed-F.Text s x) = Some x.spot
unbuilt_printed_at (Printed-F.EndLine s q) = Some q.namespace

unfoldable pub unbuilt_printed : Printed → Option Spot
unbuilt_printed p = unbuilt_printed_at (out-Printed p)

-- ---- main

abbrev pub unbuilt_statement_at : Stmt → StmtLayer → Option Spot
unbuilt_statement_at x (Stmt-F.Print q xs e) = first_given unbuilt_printed xs
unbuilt_statement_at x _ = Some (statement_spot x)

unfoldable pub unbuilt_statement : Stmt → Option Spot
unbuilt_statement x = unbuilt_statement_at x (out-Stmt x)

abbrev pub is_int_kind : Kind → Bool
is_int_kind Int = true
is_int_kind k = false

abbrev pub is_int : ReturnType → Bool
is_int (returned.Void s) = false
is_int (returned.Integer t) = is_int_kind t.kind

-- int main(), or signed main() and the like: the kind decides
unfoldable pub is_main : Function → Bool
is_main f = is_int f.returned && (bytes_eq f.name.text (codes "main") && nat_eq (length f.parameters) 0)

unfoldable pub unbuilt_item : FileItem → Option Spot
unbuilt_item (item.Constant c) = Some (item_spot (item.Constant c))
unbuilt_item (item.Function f) = if is_main f then first_given unbuilt_statement (out-Block f.body).statements else Some (returned_spot f.returned)

-- ---- the unit

-- without a main the source is not of the form at its start
abbrev pub unbuilt_items : List FileItem → Option Spot
unbuilt_items [] = Some (record { line = 1; column = 1 })
unbuilt_items (i ∷ more) = option_or (unbuilt_item i) (option_map item_spot (slice_get more 0))

-- the first token of the first part of a source that is not of the form, if there is one. Includes mean nothing
abbrev pub first_unbuilt : SourceUnit → Option Spot
first_unbuilt u = option_or (slice_get u.usings 0) (unbuilt_items u.items)
