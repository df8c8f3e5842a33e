-- Where a source is of the form, what is printed is a sum.
use Rattle.std.proofs.Common.{◌≡◌, ℕ, zero, suc, Bool, true, false, List, [], ◌∷◌, ◌++◌, Option, Some, None, refl, sym, ap, ◌∙◌}
use Rattle.std.specs.Prelude.{◌&&◌, if◌then◌else◌, map, filter_map, flat_map, slice_get, option_map}
use Rattle.std.specs.Option.{option_or}
use Rattle.sy_note.specs.declared.Spot.{Spot}
use Rattle.sy_num.specs.declared.BinOp.{BinOp}
use Rattle.sy_tree.specs.declared.operators.Operator.TheVariants.{Strict}
use Rattle.sy_tree.specs.declared.tree.Argument.TheOpen.{Expr-F, Printed-F, Stmt-F}
use Rattle.sy_tree.specs.declared.tree.Block.{out-Block}
use Rattle.sy_tree.specs.declared.tree.Expr.{Expr, out-Expr}
use Rattle.sy_tree.specs.declared.tree.FileItem.{FileItem}
use Rattle.sy_tree.specs.declared.tree.FileItem.TheVariants as item
use Rattle.sy_tree.specs.declared.tree.Function.{Function}
use Rattle.sy_tree.specs.declared.tree.Printed.{Printed, out-Printed}
use Rattle.sy_tree.specs.declared.tree.Stmt.{Stmt, out-Stmt}
use Rattle.sy_tree.specs.declared.tree.Unit.{Unit as SourceUnit}
use Rattle.sy_tree.specs.Grammar.{max_height}
use Rattle.sy_tree.specs.Layers.{ExprLayer, PrintedLayer, StmtLayer}
use Rattle.sy_sums.specs.declared.sums.Operand.{Operand}
use Rattle.sy_sums.specs.declared.sums.Summed.{Summed}
use Rattle.sy_sums.specs.Form.{first_given, unless_number, unbuilt_number, unbuilt_sum_at, unbuilt_sum, unbuilt_printed_at, unbuilt_printed, unbuilt_statement_at, unbuilt_statement, unbuilt_item, unbuilt_items, first_unbuilt, is_main}
use Rattle.sy_sums.specs.Laws.{AllIsPrinted}
use Rattle.sy_sums.specs.Spots.{first_token, returned_spot}
use Rattle.sy_sums.specs.Sums.{add, added, is_additive, number_in, lone, sum_at, sum_of, operand_from, operand_at, operand_of, printed_at, printed_by, statements_of, operands}

-- ---- sums

both_none : (o p : Option Spot) → option_or o p ≡ None → (o ≡ None) × (p ≡ None)
both_none None p h = (refl, h)
both_none (Some s) p h = absurd cc

abbrev Sums : Option Summed → Type 0
Sums o = (s : Summed) × (o ≡ Some s)

lone_there : (n : Option ℕ) (s : Spot) → unless_number n s ≡ None → Sums (lone n)
lone_there None s h = absurd cc
lone_there (Some n) s h = (_, refl)

number_there : (n : Option ℕ) (s : Spot) → unless_number n s ≡ None → (k : ℕ) × (n ≡ Some k)
number_there None s h = absurd cc
number_there (Some n) s h = (n, refl)

added_there : (o : BinOp) (line : ℕ) (a : Option Summed) (n : Option ℕ) → Sums a → ((k : ℕ) × (n ≡ Some k)) → Sums (added o line a n)
added_there o line None n a k = absurd (let e = a.1 in cc)
added_there o line (Some s) None a k = absurd (let e = k.1 in cc)
added_there o line (Some s) (Some n) a k = (_, refl)

module _ (f : Expr → Option Spot) (g : Expr → Option Summed) (below : (y : Expr) → f y ≡ None → Sums (g y)) (x : Expr) where
  additive : (v : Bool) (o : BinOp) (line : ℕ) (a b : Expr) → (if v then option_or (f a) (unbuilt_number b) else Some (first_token x)) ≡ None →
      Sums (if v then added o line (g a) (number_in b) else None)
  additive true o line a b h =
      let parts = both_none (f a) (unbuilt_number b) h in
      added_there o line (g a) (number_in b) (below a parts.0) (number_there (number_in b) (first_token b) parts.1)
  additive false o line a b h = absurd cc

  at_layer : (l : ExprLayer) → unbuilt_sum_at f x l ≡ None → Sums (sum_at g x l)
  at_layer (Expr-F.Binary a s (Strict o) b) h = additive (is_additive o) o s.line a b h
  at_layer l h = lone_there (number_in x) (first_token x) h

sum_there : (n : ℕ) (x : Expr) → unbuilt_sum n x ≡ None → Sums (sum_of n x)
unfolding unbuilt_sum sum_of
sum_there zero x h = absurd cc
sum_there (suc n) x h = at_layer (unbuilt_sum n) (sum_of n) (sum_there n) x (out-Expr x) h

-- ---- what is printed

abbrev Prints : Option Operand → Type 0
Prints o = (p : Operand) × (o ≡ Some p)

operand_there : (line : ℕ) (o : Option Summed) → Sums o → Prints (operand_from line o)
operand_there line None s = absurd (let e = s.1 in cc)
operand_there line (Some x) s = (_, refl)

printed_at_there : (l : PrintedLayer) → unbuilt_printed_at l ≡ None → Prints (operand_at l)
printed_at_there (Printed-F.Operand s x) h = operand_there s.line (sum_of max_height x) (sum_there max_height x h)
printed_at_there (Printed-F.Text s x) h = absurd cc
printed_at_there (Printed-F.EndLine s q) h = absurd cc

printed_there : (p : Printed) → unbuilt_printed p ≡ None → Prints (operand_of p)
unfolding unbuilt_printed operand_of
printed_there p h = printed_at_there (out-Printed p) h

one_more : (p : Printed) (ps : List Printed) (o : Option Operand) → o ≡ operand_of p → Prints o → map Some (filter_map operand_of ps) ≡ map operand_of ps →
    map Some (filter_map operand_of (p ∷ ps)) ≡ map operand_of (p ∷ ps)
one_more p ps None e there h = absurd (let f = there.1 in cc)
one_more p ps (Some x) e there h = rw (sym e) (ap (λ l. Some x ∷ l) h)

all_there : (ps : List Printed) → first_given unbuilt_printed ps ≡ None → map Some (filter_map operand_of ps) ≡ map operand_of ps
all_there [] h = refl
all_there (p ∷ ps) h =
    let parts = both_none (unbuilt_printed p) (first_given unbuilt_printed ps) h in
    one_more p ps (operand_of p) refl (printed_there p parts.0) (all_there ps parts.1)

-- ---- statements

none_of_both : (xs ys : List Printed) → first_given unbuilt_printed xs ≡ None → first_given unbuilt_printed ys ≡ None → first_given unbuilt_printed (xs ++ ys) ≡ None
none_of_both [] ys a b = b
none_of_both (x ∷ xs) ys a b =
    let parts = both_none (unbuilt_printed x) (first_given unbuilt_printed xs) a in
    ap (λ o. option_or o (first_given unbuilt_printed (xs ++ ys))) parts.0 ∙ none_of_both xs ys parts.1 b

statement_at_there : (x : Stmt) (l : StmtLayer) → unbuilt_statement_at x l ≡ None → first_given unbuilt_printed (printed_at l) ≡ None
statement_at_there x (Stmt-F.Print q ps e) h = h
statement_at_there x l h = absurd cc

statement_there : (x : Stmt) → unbuilt_statement x ≡ None → first_given unbuilt_printed (printed_by x) ≡ None
unfolding unbuilt_statement printed_by
statement_there x h = statement_at_there x (out-Stmt x) h

block_there : (xs : List Stmt) → first_given unbuilt_statement xs ≡ None → first_given unbuilt_printed (flat_map printed_by xs) ≡ None
block_there [] h = refl
block_there (x ∷ xs) h =
    let parts = both_none (unbuilt_statement x) (first_given unbuilt_statement xs) h in
    none_of_both (printed_by x) (flat_map printed_by xs) (statement_there x parts.0) (block_there xs parts.1)

-- ---- sources

function_there : (v : Bool) (f : Function) → (if v then first_given unbuilt_statement (out-Block f.body).statements else Some (returned_spot f.returned)) ≡ None →
    first_given unbuilt_statement (out-Block f.body).statements ≡ None
function_there true f h = h
function_there false f h = absurd cc

items_there : (is : List FileItem) → unbuilt_items is ≡ None → first_given unbuilt_statement (statements_of is) ≡ None
unfolding unbuilt_item
items_there [] h = absurd cc
items_there (item.Constant c ∷ more) h = absurd cc
items_there (item.Function f ∷ more) h =
    function_there (is_main f) f (both_none (unbuilt_item (item.Function f)) _ h).0

pub all_is_printed : AllIsPrinted
all_is_printed u h =
    all_there (flat_map printed_by (statements_of u.items)) (block_there (statements_of u.items) (items_there u.items (both_none (slice_get u.usings 0) (unbuilt_items u.items) h).1))
