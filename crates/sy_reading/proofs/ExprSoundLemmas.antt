-- Expressions that are read stand there, where what is read below does.
use Prim.Native.String.{String}
use Rattle.std.proofs.Common.{◌≡◌, ℕ, zero, suc, ◌+◌, ◌≤◌, ◌<◌, max, nat_lt, Bool, true, false, cond, List, [], ◌∷◌, ⊎_elim, Option, Some, None, refl, sym, ap, ◌∙◌, subst, arith, add-one, codes}
use Rattle.std.proofs.lemmas.Bool.{ltb-true, ltb-false}
use Rattle.std.proofs.lemmas.Slice.Eq.{bytes_eq-Decides}
use Rattle.std.specs.Str.{bytes_eq}
use Rattle.sy_lex.specs.declared.Row.TheVariants as row
use Rattle.sy_lex.specs.declared.Token.{Token}
use Rattle.sy_note.specs.declared.Spot.{Spot}
use Rattle.sy_num.specs.declared.UnOp.{UnOp}
use Rattle.sy_num.specs.declared.UnOp.TheVariants as un
use Rattle.sy_tree.specs.declared.operators.Operator.{Operator}
use Rattle.sy_tree.specs.declared.parts.AccessTag.{AccessTag}
use Rattle.sy_tree.specs.declared.parts.AccessTag.TheVariants as tag
use Rattle.sy_tree.specs.declared.parts.FunctionObject.{FunctionObject}
use Rattle.sy_tree.specs.declared.parts.FunctionObject.TheVariants as fun
use Rattle.sy_tree.specs.declared.parts.IntegerType.{IntegerType}
use Rattle.sy_tree.specs.declared.parts.LibraryFunction.{LibraryFunction}
use Rattle.sy_tree.specs.declared.parts.LibraryFunction.TheVariants as lib
use Rattle.sy_tree.specs.declared.parts.Qualified.{Qualified}
use Rattle.sy_tree.specs.declared.parts.Step.{Step}
use Rattle.sy_tree.specs.declared.tree.Argument.{Argument, out-Argument}
use Rattle.sy_tree.specs.declared.tree.Argument.TheOpen.{Argument-F}
use Rattle.sy_tree.specs.declared.tree.Argument.TheVariants as argument
use Rattle.sy_tree.specs.declared.tree.Expr.{Expr, out-Expr}
use Rattle.sy_tree.specs.declared.tree.Expr.TheVariants as tree
use Rattle.sy_tree.specs.declared.tree.Lambda.{Lambda}
use Rattle.sy_tree.specs.declared.tree.Stmt.{Stmt}
use Rattle.sy_tree.specs.Expressions.{Node, an_expr, a_lambda, a_stmt, AnyExpr, ArgumentRule, OneArgument, ExprRule}
use Rattle.sy_tree.specs.Grammar.{NodeRule, Derives}
use Rattle.sy_tree.specs.Layers.{ArgumentLayer, ExprLayer}
use Rattle.sy_tree.specs.Lists.{Optional, Listed, MaybeListed}
use Rattle.sy_tree.specs.Words.{At, Sees, Sycl, mark, keyword, identifier, level, spelling, step_spelling, unary_spelling, tag_spelling, object_spelling, function_spelling}
use Rattle.sy_tree.proofs.Maps.{Listed-map, MaybeListed-map}
use Rattle.sy_tree.proofs.Theorems.{Derives-taller, Derives-looser}
use Rattle.sy_reading.specs.Exprs as r
use Rattle.sy_reading.specs.Input.{Reader, WithHeight, check_height, expect, expect_row, sees, sees_row, sees_namespace, mark_text, advance, expect_name, qualified_name, comma_list, maybe_comma_list}
use Rattle.sy_reading.specs.Parts.{expect_open, closing_text, expect_close, empty_brackets, integral, one_word, object_by, maybe_template_argument}
use Rattle.sy_reading.proofs.StepLemmas.{bind_some, one, choice, which, finish, grew, word, expected, expects, expect_row_is, comma_list_stand, maybe_comma_list_stand, placed, same_row_is, seen}
use Rattle.sy_reading.proofs.PartsSoundLemmas.{Library, library_is, library_name, expect_open_is, expect_close_is, empty_brackets_are, integral_is, one_word_integral_is, maybe_template_argument_is, object_by_is}
use Rattle.sy_reading.specs.Tables.{tag_of, object_of, function_of, unary_of, step_of, operator_of, or_else, arithmetic_of, comparison_of, bitwise_of, logical_of}
use Rattle.sy_tree.specs.Qualification.{same_row}
use Rattle.sy_num.specs.declared.BinOp.{BinOp}
use Rattle.sy_num.specs.declared.BinOp.TheVariants as bin
use Rattle.sy_tree.specs.declared.operators.Operator.TheVariants as operator
use Rattle.sy_tree.specs.declared.parts.Step.TheVariants as step
use Rattle.sy_tree.specs.Types.{Integral}

-- ---- what was read stands there

abbrev pub ExprStands : ℕ → WithHeight Expr → List Token → List Token → Type 0
ExprStands l t from rest = Derives t.1 (an_expr l t.0) from rest × (t.1 ≤ 64)

-- the same, and what follows doesn't go on with it
abbrev pub ExprSound : ℕ → WithHeight Expr → List Token → List Token → Type 0
ExprSound l t from rest = ExprStands l t from rest × (r.binds rest < l)

abbrev pub StmtStands : WithHeight Stmt → List Token → List Token → Type 0
StmtStands t from rest = Derives t.1 (a_stmt t.0) from rest × (t.1 ≤ 64)

-- a node that was built over its children
pub node_built : {A : Type 0} (node : A → Node) (h : ℕ) (x : A) (from ts rest : List Token) (z : WithHeight A) → NodeRule (Derives h) (node x) from ts →
    (h < 64) × (z ≡ (x, h + 1)) × (rest ≡ ts) → Derives z.1 (node z.0) from rest × (z.1 ≤ 64)
unfolding Derives
node_built {A} node h x from ts rest z d g =
    let top : Derives (h + 1) (node x) from ts = rw add-one d in
    let whole : Derives (h + 1) (node x) from ts × (h + 1 ≤ 64) = (top, omega (arith, g.0)) in
    subst (λ u. Derives u.1 (node u.0) from rest × (u.1 ≤ 64)) (sym g.1) (subst (λ us. Derives (h + 1) (node x) from us × (h + 1 ≤ 64)) (sym g.2) whole)

-- an expression that was built, by the layer that it opens to
expr_built : (l h : ℕ) (x : Expr) (y : ExprLayer) (from ts rest : List Token) (z : WithHeight Expr) → out-Expr x ≡ y → ExprRule (Derives h) l y from ts →
    check_height x h ts ≡ Some (z, rest) → ExprStands l z from rest
expr_built l h x y from ts rest z o d g =
    let rule : NodeRule (Derives h) (an_expr l x) from ts = rw o d in
    node_built (an_expr l) h x from ts rest z rule (grew x h ts z rest g)

pub argument_taller : (m n : ℕ) → m ≤ n → (x : Argument) (from rest : List Token) → OneArgument (Derives m) x from rest → OneArgument (Derives n) x from rest
argument_taller m n le x from rest h = by (out-Argument x) h
  where
    by : (a : ArgumentLayer) → ArgumentRule (Derives m) a from rest → ArgumentRule (Derives n) a from rest
    by (Argument-F.Value v) h = Derives-taller m n le (an_expr 1 v) from rest h
    by (Argument-F.Braced s xs e) h = (h.0, h.1, h.2, Listed-map (AnyExpr (Derives m)) (AnyExpr (Derives n)) (λ v us ts d. Derives-taller m n le (an_expr 1 v) us ts d) xs h.0 h.1 h.3, h.4)
    by (Argument-F.Lambda l) h = Derives-taller m n le (a_lambda l) from rest h

-- ---- marks that are operators

-- the mark that comes next, when it is taken
pub mark_there : (text : List ℕ) (from rest : List Token) (s : Spot) (b : ℕ) (more : List ℕ) → text ≡ b ∷ more → mark_text from ≡ text → advance from ≡ Some (s, rest) → At (word row.Mark text) s from rest
unfolding mark_text advance
mark_there text [] rest s b more some is h = absurd cc
mark_there text (t ∷ ts) rest s b more some is h = by (same_row t.word.row row.Mark) refl is
  where
    by : (v : Bool) → same_row t.word.row row.Mark ≡ v → cond v t.word.text [] ≡ text → At (word row.Mark text) s (t ∷ ts) rest
    by true row_is is =
        let same = one {Y = Spot × List Token} (t.spot, ts) (s, rest) h in
        placed (word row.Mark text) s t ts rest (ap (λ a. word a t.word.text) (same_row_is t.word.row row.Mark row_is) ∙ ap (λ w. word row.Mark w) is) (ap (λ p. p.0) same) (ap (λ p. p.1) same)
    by false row_is is = let clash : [] ≡ b ∷ more = is ∙ some in absurd cc

-- a row of a table of marks
pub mark_row : {A : Type 0} (text : List ℕ) (spelled : A → String) (x : A) (o : Option A) (a : A) →
    (o ≡ Some a → text ≡ codes (spelled a)) → cond (bytes_eq text (codes (spelled x))) (Some x) o ≡ Some a → text ≡ codes (spelled a)
mark_row text spelled x o a on h = by (bytes_eq text (codes (spelled x))) refl h
  where
    by : (b : Bool) → bytes_eq text (codes (spelled x)) ≡ b → cond b (Some x) o ≡ Some a → text ≡ codes (spelled a)
    by true is h = (bytes_eq-Decides text (codes (spelled x))).0 is ∙ ap (λ y. codes (spelled y)) (one x a h)
    by false is h = on h

step_text : (text : List ℕ) (o : Step) → step_of text ≡ Some o → text ≡ codes (step_spelling o)
unfolding step_of
step_text text o h = let row = mark_row text step_spelling in row step.Increment _ o (row step.Decrement _ o (λ h. absurd cc)) h

unary_text : (text : List ℕ) (o : UnOp) → unary_of text ≡ Some o → text ≡ codes (unary_spelling o)
unfolding unary_of
unary_text text o h = let row = mark_row text unary_spelling in row un.Plus _ o (row un.Minus _ o (row un.Not _ o (row un.Flip _ o (λ h. absurd cc)))) h

or_else_is : {A : Type 0} (P : A → Type 0) (o p : Option A) (a : A) → ((o ≡ Some a) → P a) → ((p ≡ Some a) → P a) → or_else o p ≡ Some a → P a
or_else_is P (Some b) p a f g h = f h
or_else_is P None p a f g h = g h

operator_text : (text : List ℕ) (o : Operator) → operator_of text ≡ Some o → text ≡ codes (spelling o)
unfolding operator_of arithmetic_of comparison_of bitwise_of logical_of
operator_text text o h =
    let row = mark_row text spelling in
    let strict : BinOp → Operator = λ b. operator.Strict b in
    let P : Operator → Type 0 = λ a. text ≡ codes (spelling a) in
    or_else_is P (arithmetic_of text) _ o
    (row (strict bin.Add) _ o (row (strict bin.Sub) _ o (row (strict bin.Mul) _ o (row (strict bin.Div) _ o (row (strict bin.Rem) _ o (λ h. absurd cc))))))
    (or_else_is P (comparison_of text) _ o
    (row (strict bin.Eq) _ o (row (strict bin.Ne) _ o (row (strict bin.Lt) _ o (row (strict bin.Le) _ o (row (strict bin.Gt) _ o (row (strict bin.Ge) _ o (λ h. absurd cc)))))))
    (or_else_is P (bitwise_of text) _ o
    (row (strict bin.Or) _ o (row (strict bin.Xor) _ o (row (strict bin.And) _ o (row (strict bin.Shl) _ o (row (strict bin.Shr) _ o (λ h. absurd cc))))))
    (row operator.LogicalOr _ o (row operator.LogicalAnd _ o (λ h. absurd cc))))) h

step_there : (o : Step) (from rest : List Token) (s : Spot) → step_of (mark_text from) ≡ Some o → advance from ≡ Some (s, rest) → At (mark (step_spelling o)) s from rest
unfolding mark
step_there step.Increment from rest s is h = mark_there (codes "++") from rest s _ _ refl (step_text (mark_text from) step.Increment is) h
step_there step.Decrement from rest s is h = mark_there (codes "--") from rest s _ _ refl (step_text (mark_text from) step.Decrement is) h

unary_there : (o : UnOp) (from rest : List Token) (s : Spot) → unary_of (mark_text from) ≡ Some o → advance from ≡ Some (s, rest) → At (mark (unary_spelling o)) s from rest
unfolding mark
unary_there un.Plus from rest s is h = mark_there (codes "+") from rest s _ _ refl (unary_text (mark_text from) un.Plus is) h
unary_there un.Minus from rest s is h = mark_there (codes "-") from rest s _ _ refl (unary_text (mark_text from) un.Minus is) h
unary_there un.Not from rest s is h = mark_there (codes "!") from rest s _ _ refl (unary_text (mark_text from) un.Not is) h
unary_there un.Flip from rest s is h = mark_there (codes "~") from rest s _ _ refl (unary_text (mark_text from) un.Flip is) h

operator_there : (o : Operator) (from rest : List Token) (s : Spot) → operator_of (mark_text from) ≡ Some o → advance from ≡ Some (s, rest) → At (mark (spelling o)) s from rest
unfolding mark
operator_there (operator.Strict bin.Add) from rest s is h = mark_there (codes "+") from rest s _ _ refl (operator_text (mark_text from) (operator.Strict bin.Add) is) h
operator_there (operator.Strict bin.Sub) from rest s is h = mark_there (codes "-") from rest s _ _ refl (operator_text (mark_text from) (operator.Strict bin.Sub) is) h
operator_there (operator.Strict bin.Mul) from rest s is h = mark_there (codes "*") from rest s _ _ refl (operator_text (mark_text from) (operator.Strict bin.Mul) is) h
operator_there (operator.Strict bin.Div) from rest s is h = mark_there (codes "/") from rest s _ _ refl (operator_text (mark_text from) (operator.Strict bin.Div) is) h
operator_there (operator.Strict bin.Rem) from rest s is h = mark_there (codes "%") from rest s _ _ refl (operator_text (mark_text from) (operator.Strict bin.Rem) is) h
operator_there (operator.Strict bin.Shl) from rest s is h = mark_there (codes "<<") from rest s _ _ refl (operator_text (mark_text from) (operator.Strict bin.Shl) is) h
operator_there (operator.Strict bin.Shr) from rest s is h = mark_there (codes ">>") from rest s _ _ refl (operator_text (mark_text from) (operator.Strict bin.Shr) is) h
operator_there (operator.Strict bin.And) from rest s is h = mark_there (codes "&") from rest s _ _ refl (operator_text (mark_text from) (operator.Strict bin.And) is) h
operator_there (operator.Strict bin.Or) from rest s is h = mark_there (codes "|") from rest s _ _ refl (operator_text (mark_text from) (operator.Strict bin.Or) is) h
operator_there (operator.Strict bin.Xor) from rest s is h = mark_there (codes "^") from rest s _ _ refl (operator_text (mark_text from) (operator.Strict bin.Xor) is) h
operator_there (operator.Strict bin.Eq) from rest s is h = mark_there (codes "==") from rest s _ _ refl (operator_text (mark_text from) (operator.Strict bin.Eq) is) h
operator_there (operator.Strict bin.Ne) from rest s is h = mark_there (codes "!=") from rest s _ _ refl (operator_text (mark_text from) (operator.Strict bin.Ne) is) h
operator_there (operator.Strict bin.Lt) from rest s is h = mark_there (codes "<") from rest s _ _ refl (operator_text (mark_text from) (operator.Strict bin.Lt) is) h
operator_there (operator.Strict bin.Le) from rest s is h = mark_there (codes "<=") from rest s _ _ refl (operator_text (mark_text from) (operator.Strict bin.Le) is) h
operator_there (operator.Strict bin.Gt) from rest s is h = mark_there (codes ">") from rest s _ _ refl (operator_text (mark_text from) (operator.Strict bin.Gt) is) h
operator_there (operator.Strict bin.Ge) from rest s is h = mark_there (codes ">=") from rest s _ _ refl (operator_text (mark_text from) (operator.Strict bin.Ge) is) h
operator_there operator.LogicalAnd from rest s is h = mark_there (codes "&&") from rest s _ _ refl (operator_text (mark_text from) operator.LogicalAnd is) h
operator_there operator.LogicalOr from rest s is h = mark_there (codes "||") from rest s _ _ refl (operator_text (mark_text from) operator.LogicalOr is) h

level_bounds : (o : Operator) → (2 ≤ level o) × (level o ≤ 11)
level_bounds (operator.Strict bin.Add) = (omega arith, omega arith)
level_bounds (operator.Strict bin.Sub) = (omega arith, omega arith)
level_bounds (operator.Strict bin.Mul) = (omega arith, omega arith)
level_bounds (operator.Strict bin.Div) = (omega arith, omega arith)
level_bounds (operator.Strict bin.Rem) = (omega arith, omega arith)
level_bounds (operator.Strict bin.Shl) = (omega arith, omega arith)
level_bounds (operator.Strict bin.Shr) = (omega arith, omega arith)
level_bounds (operator.Strict bin.And) = (omega arith, omega arith)
level_bounds (operator.Strict bin.Or) = (omega arith, omega arith)
level_bounds (operator.Strict bin.Xor) = (omega arith, omega arith)
level_bounds (operator.Strict bin.Eq) = (omega arith, omega arith)
level_bounds (operator.Strict bin.Ne) = (omega arith, omega arith)
level_bounds (operator.Strict bin.Lt) = (omega arith, omega arith)
level_bounds (operator.Strict bin.Le) = (omega arith, omega arith)
level_bounds (operator.Strict bin.Gt) = (omega arith, omega arith)
level_bounds (operator.Strict bin.Ge) = (omega arith, omega arith)
level_bounds operator.LogicalAnd = (omega arith, omega arith)
level_bounds operator.LogicalOr = (omega arith, omega arith)

operator_binds : (o : Operator) (from : List Token) → operator_of (mark_text from) ≡ Some o → r.binds from ≡ level o
unfolding r.binds r.binds_by
operator_binds o from is = ap (λ x. r.binds_as x (mark_text from)) is

question_binds : (from : List Token) → sees row.Mark (codes "?") from ≡ true → r.binds from ≡ 1
unfolding r.binds r.binds_by mark_text operator_of arithmetic_of comparison_of bitwise_of logical_of
question_binds from h = let at = seen row.Mark (codes "?") from h in rw at.1.2 refl

-- a row of a table of names
named_row : {A : Type 0} (text : List ℕ) (q : Qualified) (from m : List Token) (there : Library text q from m) (spelled : A → String) (x : A) (o : Option A) (a : A) →
    (o ≡ Some a → Sycl (spelled a) q from m) → cond (bytes_eq text (codes (spelled x))) (Some x) o ≡ Some a → Sycl (spelled a) q from m
named_row text q from m there spelled x o a on h =
    by (bytes_eq text (codes (spelled x))) refl h
  where
    by : (b : Bool) → bytes_eq text (codes (spelled x)) ≡ b → cond b (Some x) o ≡ Some a → Sycl (spelled a) q from m
    by true is h = subst (λ y. Sycl (spelled y) q from m) (one x a h) (library_name text (spelled x) q from m there is)
    by false is h = on h

module _ (text : List ℕ) (q : Qualified) (from m : List Token) (there : Library text q from m) where
  tag_named : (t : AccessTag) → tag_of text ≡ Some t → Sycl (tag_spelling t) q from m
  unfolding tag_of
  tag_named t h =
      let row = named_row text q from m there tag_spelling in
      row tag.ReadOnly _ t (row tag.WriteOnly _ t (row tag.ReadWrite _ t (row tag.NoInit _ t (λ h. absurd cc)))) h

  object_named : (f : FunctionObject) → object_of text ≡ Some f → Sycl (object_spelling f) q from m
  unfolding object_of
  object_named f h =
      let row = named_row text q from m there object_spelling in
      row fun.Plus _ f (row fun.Multiplies _ f (row fun.Minimum _ f (row fun.Maximum _ f (row fun.BitAnd _ f (row fun.BitOr _ f (row fun.BitXor _ f (λ h. absurd cc))))))) h

  function_named : (f : LibraryFunction) → function_of text ≡ Some f → Sycl (function_spelling f) q from m
  unfolding function_of
  function_named f h =
      let row = named_row text q from m there function_spelling in
      row lib.Reduction _ f (row lib.ReduceOverGroup _ f (row lib.ExclusiveScanOverGroup _ f (row lib.InclusiveScanOverGroup _ f (row lib.GroupBroadcast _ f (λ h. absurd cc))))) h

maybe_integral_is : (E : ℕ → Reader (WithHeight Expr)) (S : Reader (WithHeight Stmt)) (from rest : List Token) (t : Option IntegerType) → r.maybe_integral E S from ≡ Some (t, rest) → Optional Integral t from rest
unfolding r.maybe_integral
maybe_integral_is E S from rest t h =
    ⊎_elim (λ p. finish (λ z vs. Optional Integral z from vs) None t from rest p.1 refl)
    (λ p. let i = bind_some (integral from) _ _ p.1 in
    finish (λ z vs. Optional Integral z from vs) (Some i.0.0) t i.0.1 rest i.2 (integral_is from i.0.1 i.0.0 i.1))
    (choice (sees row.Mark (codes ">") from) _ _ (t, rest) h)

module _ (E : ℕ → Reader (WithHeight Expr)) (S : Reader (WithHeight Stmt))
    (we : (l : ℕ) (from rest : List Token) (t : WithHeight Expr) → 1 ≤ l → l ≤ 12 → E l from ≡ Some (t, rest) → ExprSound l t from rest)
    (wl : (from rest : List Token) (t : WithHeight Lambda) → r.one_lambda E S from ≡ Some (t, rest) → Derives t.1 (a_lambda t.0) from rest) where
  any : (from rest : List Token) (t : WithHeight Expr) → E 1 from ≡ Some (t, rest) → Derives t.1 (an_expr 1 t.0) from rest
  any from rest t h = (we 1 from rest t (omega arith) (omega arith) h).0.0

  -- the same, no higher than m
  child : (l : ℕ) (from rest : List Token) (t : WithHeight Expr) → 1 ≤ l → l ≤ 12 → E l from ≡ Some (t, rest) → (m : ℕ) → t.1 ≤ m → Derives m (an_expr l t.0) from rest
  child l from rest t one top h m le = Derives-taller t.1 m le (an_expr l t.0) from rest (we l from rest t one top h).0.0

  exprs_stand : (close : List ℕ) (from rest : List Token) (xs : WithHeight (List Expr)) → maybe_comma_list (E 1) close from ≡ Some (xs, rest) → MaybeListed (AnyExpr (Derives xs.1)) xs.0 from rest
  exprs_stand close from rest xs h =
      maybe_comma_list_stand (E 1) (λ n. AnyExpr (Derives n)) (λ m n le x us ts d. Derives-taller m n le (an_expr 1 x) us ts d) any close from rest xs h

  -- ---- arguments

  braced_list_is : (from rest : List Token) (x : WithHeight Argument) → r.braced_list E S from ≡ Some (x, rest) → OneArgument (Derives x.1) x.0 from rest
  unfolding r.braced_list mark
  braced_list_is from rest x h =
      let o = bind_some (expect row.Mark (codes "{") from) _ _ h in
      let xs = bind_some (comma_list (E 1) o.0.1) _ _ o.2 in
      let c = bind_some (expect row.Mark (codes "}") xs.0.1) _ _ xs.2 in
      let all = comma_list_stand (E 1) (λ n. AnyExpr (Derives n)) (λ m n le x us ts d. Derives-taller m n le (an_expr 1 x) us ts d) any o.0.1 xs.0.1 xs.0.0 xs.1 in
      finish {A = WithHeight Argument} (λ z vs. OneArgument (Derives z.1) z.0 from vs) (argument.Braced o.0.0 xs.0.0.0 c.0.0, xs.0.0.1) x c.0.1 rest c.2
      (rw (argument.outs-Braced o.0.0 xs.0.0.0 c.0.0) (o.0.1, xs.0.1, expected _ _ _ _ _ o.1, all, expected _ _ _ _ _ c.1))

  one_argument_is : (from rest : List Token) (x : WithHeight Argument) → r.one_argument E S from ≡ Some (x, rest) → OneArgument (Derives x.1) x.0 from rest
  unfolding r.one_argument
  one_argument_is from rest x h =
      ⊎_elim (λ p. braced_list_is from rest x p.1)
      (λ p. ⊎_elim
      (λ p. let l = bind_some (r.one_lambda E S from) _ _ p.1 in
      finish {A = WithHeight Argument} (λ z vs. OneArgument (Derives z.1) z.0 from vs) (argument.Lambda l.0.0.0, l.0.0.1) x l.0.1 rest l.2
      (rw (argument.outs-Lambda l.0.0.0) (wl from l.0.1 l.0.0 l.1)))
      (λ p. let v = bind_some (E 1 from) _ _ p.1 in
      finish {A = WithHeight Argument} (λ z vs. OneArgument (Derives z.1) z.0 from vs) (argument.Value v.0.0.0, v.0.0.1) x v.0.1 rest v.2
      (rw (argument.outs-Value v.0.0.0) (any from v.0.1 v.0.0 v.1)))
      (choice (sees row.Mark (codes "[") from) _ _ (x, rest) p.1))
      (choice (sees row.Mark (codes "{") from) _ _ (x, rest) h)

  pub arguments_stand : (close : List ℕ) (from rest : List Token) (xs : WithHeight (List Argument)) → r.arguments E S close from ≡ Some (xs, rest) →
      MaybeListed (OneArgument (Derives xs.1)) xs.0 from rest
  unfolding r.arguments
  arguments_stand close from rest xs h = maybe_comma_list_stand (r.one_argument E S) (λ n. OneArgument (Derives n)) argument_taller one_argument_is close from rest xs h

  pub argument_list_stands : (from rest : List Token) (xs : WithHeight (List Argument)) → comma_list (r.one_argument E S) from ≡ Some (xs, rest) →
      Listed (OneArgument (Derives xs.1)) xs.0 from rest
  argument_list_stands from rest xs h = comma_list_stand (r.one_argument E S) (λ n. OneArgument (Derives n)) argument_taller one_argument_is from rest xs h

  parenthesis_is : (from rest : List Token) (p : WithHeight Expr × Spot) → r.parenthesis E S from ≡ Some (p, rest) →
      (m k : List Token) × Sees (mark "(") from m × Derives p.0.1 (an_expr 1 p.0.0) m k × At (mark ")") p.1 k rest
  unfolding r.parenthesis mark
  parenthesis_is from rest p h =
      let o = bind_some (expect row.Mark (codes "(") from) _ _ h in
      let x = bind_some (E 1 o.0.1) _ _ o.2 in
      let c = bind_some (expect row.Mark (codes ")") x.0.1) _ _ x.2 in
      finish {A = WithHeight Expr × Spot} (λ z vs. (m k : List Token) × Sees (mark "(") from m × Derives z.0.1 (an_expr 1 z.0.0) m k × At (mark ")") z.1 k vs) (x.0.0, c.0.0) p c.0.1 rest c.2
      (o.0.1, x.0.1, expects _ _ _ _ _ o.1, any o.0.1 x.0.1 x.0.0 x.1, expected _ _ _ _ _ c.1)

  -- ---- primary expressions

  parenthesis_expr_is : (l : ℕ) (from rest : List Token) (z : WithHeight Expr) → r.parenthesis_expr E S from ≡ Some (z, rest) → ExprStands l z from rest
  unfolding r.parenthesis_expr mark
  parenthesis_expr_is l from rest z h =
      let o = bind_some (expect row.Mark (codes "(") from) _ _ h in
      let x = bind_some (E 1 o.0.1) _ _ o.2 in
      let c = bind_some (expect row.Mark (codes ")") x.0.1) _ _ x.2 in
      expr_built l x.0.0.1 _ _ from c.0.1 rest z (tree.outs-Parenthesized o.0.0 x.0.0.0 c.0.0)
      (o.0.1, x.0.1, expected _ _ _ _ _ o.1, any o.0.1 x.0.1 x.0.0 x.1, expected _ _ _ _ _ c.1) c.2

  named_primary_is : (l : ℕ) (from rest : List Token) (z : WithHeight Expr) → r.named_primary E S from ≡ Some (z, rest) → ExprStands l z from rest
  unfolding r.named_primary r.function_call mark
  named_primary_is l from rest z h =
      let n = bind_some (expect_row row.Ident from) _ _ h in
      ⊎_elim
      (λ p. let o = bind_some (expect row.Mark (codes "(") n.0.1) _ _ p.1 in
      let xs = bind_some (maybe_comma_list (E 1) (codes ")") o.0.1) _ _ o.2 in
      let c = bind_some (expect row.Mark (codes ")") xs.0.1) _ _ xs.2 in
      expr_built l xs.0.0.1 _ _ from c.0.1 rest z (tree.outs-Call n.0.0 xs.0.0.0 c.0.0)
      (n.0.1, o.0.1, xs.0.1, expect_row_is _ _ _ _ n.1, expects _ _ _ _ _ o.1, exprs_stand (codes ")") o.0.1 xs.0.1 xs.0.0 xs.1, expected _ _ _ _ _ c.1) c.2)
      (λ p. expr_built l 0 _ _ from n.0.1 rest z (tree.outs-Name n.0.0) (expect_row_is _ _ _ _ n.1) p.1)
      (choice (sees row.Mark (codes "(") n.0.1) _ _ (z, rest) n.2)

  static_cast_is : (l : ℕ) (from rest : List Token) (z : WithHeight Expr) → r.static_cast E S from ≡ Some (z, rest) → ExprStands l z from rest
  unfolding r.static_cast mark keyword
  static_cast_is l from rest z h =
      let s = bind_some (expect row.Reserved (codes "static_cast") from) _ _ h in
      let o = bind_some (expect row.Mark (codes "<") s.0.1) _ _ s.2 in
      let t = bind_some (integral o.0.1) _ _ o.2 in
      let c = bind_some (expect row.Mark (codes ">") t.0.1) _ _ t.2 in
      let p = bind_some (r.parenthesis E S c.0.1) _ _ c.2 in
      let q = parenthesis_is c.0.1 p.0.1 p.0.0 p.1 in
      expr_built l p.0.0.0.1 _ _ from p.0.1 rest z (tree.outs-StaticCast s.0.0 t.0.0 p.0.0.0.0 p.0.0.1)
      (s.0.1, o.0.1, t.0.1, c.0.1, q.0, q.1, expected _ _ _ _ _ s.1, expects _ _ _ _ _ o.1, integral_is _ _ _ t.1, expects _ _ _ _ _ c.1, q.2, q.3, q.4) p.2

  functional_cast_is : (l : ℕ) (from rest : List Token) (z : WithHeight Expr) → r.functional_cast E S from ≡ Some (z, rest) → ExprStands l z from rest
  unfolding r.functional_cast
  functional_cast_is l from rest z h =
      let t = bind_some (one_word from) _ _ h in
      let p = bind_some (r.parenthesis E S t.0.1) _ _ t.2 in
      let q = parenthesis_is t.0.1 p.0.1 p.0.0 p.1 in
      expr_built l p.0.0.0.1 _ _ from p.0.1 rest z (tree.outs-FunctionalCast t.0.0 p.0.0.0.0 p.0.0.1)
      (t.0.1, q.0, q.1, one_word_integral_is from t.0.1 t.0.0 t.1, q.2, q.3, q.4) p.2

  reserved_primary_is : (l : ℕ) (from rest : List Token) (z : WithHeight Expr) → r.reserved_primary E S from ≡ Some (z, rest) → ExprStands l z from rest
  unfolding r.reserved_primary keyword
  reserved_primary_is l from rest z h =
      ⊎_elim
      (λ p. let s = bind_some (expect row.Reserved (codes "true") from) _ _ p.1 in
      expr_built l 0 _ _ from s.0.1 rest z (tree.outs-Boolean s.0.0 true) (expected _ _ _ _ _ s.1) s.2)
      (λ p. ⊎_elim
      (λ p. let s = bind_some (expect row.Reserved (codes "false") from) _ _ p.1 in
      expr_built l 0 _ _ from s.0.1 rest z (tree.outs-Boolean s.0.0 false) (expected _ _ _ _ _ s.1) s.2)
      (λ p. ⊎_elim (λ p. static_cast_is l from rest z p.1) (λ p. functional_cast_is l from rest z p.1)
      (choice (sees row.Reserved (codes "static_cast") from) _ _ (z, rest) p.1))
      (choice (sees row.Reserved (codes "false") from) _ _ (z, rest) p.1))
      (choice (sees row.Reserved (codes "true") from) _ _ (z, rest) h)

  -- ---- names of the library

  module _ (text : List ℕ) (q : Qualified) (from m : List Token) (there : Library text q from m) (l : ℕ) (rest : List Token) (z : WithHeight Expr) where
    wrote : (w : String) → bytes_eq text (codes w) ≡ true → Sycl w q from m
    wrote w e = library_name text w q from m there e

    construct_is : r.construct E S q text m ≡ Some (z, rest) → ExprStands l z from rest
    unfolding r.construct
    construct_is h =
        let t = bind_some (object_by q text m) _ _ h in
        let b = bind_some (expect_open t.0.1) _ _ t.2 in
        let xs = bind_some (r.arguments E S (closing_text b.0.0.0) b.0.1) _ _ b.2 in
        let c = bind_some (expect_close b.0.0.0 xs.0.1) _ _ xs.2 in
        expr_built l xs.0.0.1 _ _ from c.0.1 rest z (tree.outs-Construct t.0.0 b.0.0.0 b.0.0.1 xs.0.0.0 c.0.0) (
          t.0.1,
          object_by_is text q from m there t.0.0 t.0.1 t.1,
          (b.0.1, xs.0.1, expect_open_is t.0.1 b.0.1 b.0.0 b.1, arguments_stand (closing_text b.0.0.0) b.0.1 xs.0.1 xs.0.0 xs.1, expect_close_is b.0.0.0 xs.0.1 c.0.1 c.0.0 c.1),
        ) c.2

    property_is : bytes_eq text (codes "property") ≡ true → r.property E S q m ≡ Some (z, rest) → ExprStands l z from rest
    unfolding r.property r.in_order r.initialize_to_identity mark identifier
    property_is e h =
        let a = bind_some (expect row.Mark (codes "::") m) _ _ h in
        ⊎_elim
        (λ p. let n = bind_some (expect row.Ident (codes "queue") a.0.1) _ _ p.1 in
        let d = bind_some (expect row.Mark (codes "::") n.0.1) _ _ n.2 in
        let k = bind_some (expect row.Ident (codes "in_order") d.0.1) _ _ d.2 in
        let b = bind_some (empty_brackets k.0.1) _ _ k.2 in
        let two = empty_brackets_are k.0.1 b.0.1 b.0.0 b.1 in
        expr_built l 0 _ _ from b.0.1 rest z (tree.outs-InOrder q b.0.0.0 b.0.0.1)
        (m, a.0.1, n.0.1, d.0.1, k.0.1, two.0, wrote "property" e, expects _ _ _ _ _ a.1, expects _ _ _ _ _ n.1, expects _ _ _ _ _ d.1, expects _ _ _ _ _ k.1, two.1, two.2) b.2)
        (λ p. let n = bind_some (expect row.Ident (codes "reduction") a.0.1) _ _ p.1 in
        let d = bind_some (expect row.Mark (codes "::") n.0.1) _ _ n.2 in
        let k = bind_some (expect row.Ident (codes "initialize_to_identity") d.0.1) _ _ d.2 in
        let b = bind_some (empty_brackets k.0.1) _ _ k.2 in
        let two = empty_brackets_are k.0.1 b.0.1 b.0.0 b.1 in
        expr_built l 0 _ _ from b.0.1 rest z (tree.outs-InitializeToIdentity q b.0.0.0 b.0.0.1)
        (m, a.0.1, n.0.1, d.0.1, k.0.1, two.0, wrote "property" e, expects _ _ _ _ _ a.1, expects _ _ _ _ _ n.1, expects _ _ _ _ _ d.1, expects _ _ _ _ _ k.1, two.1, two.2) b.2)
        (choice (sees row.Ident (codes "queue") a.0.1) _ _ (z, rest) a.2)

    group_barrier_is : bytes_eq text (codes "group_barrier") ≡ true → r.group_barrier E S q m ≡ Some (z, rest) → ExprStands l z from rest
    unfolding r.group_barrier
    group_barrier_is e h =
        let p = bind_some (r.parenthesis E S m) _ _ h in
        let k = parenthesis_is m p.0.1 p.0.0 p.1 in
        expr_built l p.0.0.0.1 _ _ from p.0.1 rest z (tree.outs-GroupBarrier q p.0.0.0.0 p.0.0.1)
        (m, k.0, k.1, wrote "group_barrier" e, k.2, k.3, k.4) p.2

    error_code_is : bytes_eq text (codes "errc") ≡ true → r.error_code E S q m ≡ Some (z, rest) → ExprStands l z from rest
    unfolding r.error_code mark
    error_code_is e h =
        let a = bind_some (expect row.Mark (codes "::") m) _ _ h in
        let x = bind_some (expect_row row.Ident a.0.1) _ _ a.2 in
        expr_built l 0 _ _ from x.0.1 rest z (tree.outs-ErrorCode q x.0.0)
        (m, a.0.1, wrote "errc" e, expects _ _ _ _ _ a.1, expect_row_is _ _ _ _ x.1) x.2

    other_name_is : r.other_name E S q text m ≡ Some (z, rest) → ExprStands l z from rest
    unfolding r.other_name
    other_name_is h =
        ⊎_elim (λ p. group_barrier_is p.0 p.1)
        (λ p. ⊎_elim (λ p. property_is p.0 p.1)
        (λ p. ⊎_elim (λ p. error_code_is p.0 p.1) (λ p. construct_is p.1)
        (which (bytes_eq text (codes "errc")) _ _ m (z, rest) p.1))
        (which (bytes_eq text (codes "property")) _ _ m (z, rest) p.1))
        (which (bytes_eq text (codes "group_barrier")) _ _ m (z, rest) h)

    function_object_is : (f : FunctionObject) → Sycl (object_spelling f) q from m → r.function_object E S q f m ≡ Some (z, rest) → ExprStands l z from rest
    unfolding r.function_object mark
    function_object_is f n h =
        let o = bind_some (expect row.Mark (codes "<") m) _ _ h in
        let t = bind_some (r.maybe_integral E S o.0.1) _ _ o.2 in
        let c = bind_some (expect row.Mark (codes ">") t.0.1) _ _ t.2 in
        let b = bind_some (empty_brackets c.0.1) _ _ c.2 in
        let two = empty_brackets_are c.0.1 b.0.1 b.0.0 b.1 in
        expr_built l 0 _ _ from b.0.1 rest z (tree.outs-FunctionObject q f t.0.0 b.0.0.0 b.0.0.1)
        (m, o.0.1, t.0.1, c.0.1, two.0, n, expects _ _ _ _ _ o.1, maybe_integral_is E S o.0.1 t.0.1 t.0.0 t.1, expects _ _ _ _ _ c.1, two.1, two.2) b.2

    library_call_is : (f : LibraryFunction) → Sycl (function_spelling f) q from m → r.library_call E S q f m ≡ Some (z, rest) → ExprStands l z from rest
    unfolding r.library_call mark
    library_call_is f n h =
        let o = bind_some (expect row.Mark (codes "(") m) _ _ h in
        let xs = bind_some (r.arguments E S (codes ")") o.0.1) _ _ o.2 in
        let c = bind_some (expect row.Mark (codes ")") xs.0.1) _ _ xs.2 in
        expr_built l xs.0.0.1 _ _ from c.0.1 rest z (tree.outs-LibraryCall q f xs.0.0.0 c.0.0)
        (m, o.0.1, xs.0.1, n, expects _ _ _ _ _ o.1, arguments_stand (codes ")") o.0.1 xs.0.1 xs.0.0 xs.1, expected _ _ _ _ _ c.1) c.2

    library_by_is : r.library_by E S q text m ≡ Some (z, rest) → ExprStands l z from rest
    unfolding r.library_by
    library_by_is h = by_tag (tag_of text) refl h
      where
        by_function : (o : Option LibraryFunction) → function_of text ≡ o → r.function_or E S q text o m ≡ Some (z, rest) → ExprStands l z from rest
        by_function (Some f) is h = library_call_is f (function_named text q from m there f is) h
        by_function None is h = other_name_is h

        by_object : (o : Option FunctionObject) → object_of text ≡ o → r.object_or E S q text o m ≡ Some (z, rest) → ExprStands l z from rest
        by_object (Some f) is h = function_object_is f (object_named text q from m there f is) h
        by_object None is h = by_function (function_of text) refl h

        by_tag : (o : Option AccessTag) → tag_of text ≡ o → r.tag_or E S q text o m ≡ Some (z, rest) → ExprStands l z from rest
        by_tag (Some t) is h = expr_built l 0 _ _ from m rest z (tree.outs-AccessTag q t) (tag_named text q from m there t is) h
        by_tag None is h = by_object (object_of text) refl h

  primary_is : (l : ℕ) (from rest : List Token) (z : WithHeight Expr) → r.primary E S from ≡ Some (z, rest) → ExprStands l z from rest
  unfolding r.primary r.library
  primary_is l from rest z h =
      ⊎_elim
      (λ p. let x = bind_some (expect_row row.Int from) _ _ p.1 in expr_built l 0 _ _ from x.0.1 rest z (tree.outs-Integer x.0.0) (expect_row_is _ _ _ _ x.1) x.2)
      (λ p. ⊎_elim
      (λ p. let x = bind_some (expect_row row.Char from) _ _ p.1 in expr_built l 0 _ _ from x.0.1 rest z (tree.outs-Character x.0.0) (expect_row_is _ _ _ _ x.1) x.2)
      (λ p. ⊎_elim (λ p. reserved_primary_is l from rest z p.1)
      (λ p. ⊎_elim (λ p. parenthesis_expr_is l from rest z p.1)
      (λ p. ⊎_elim
      (λ p. let n = bind_some (expect_name (codes "sycl") from) _ _ p.1 in
      library_by_is n.0.0.1.text (qualified_name n.0.0) from n.0.1 (library_is from n.0.1 n.0.0 n.1) l rest z n.2)
      (λ p. named_primary_is l from rest z p.1)
      (choice (sees_namespace (codes "sycl") from) _ _ (z, rest) p.1))
      (choice (sees row.Mark (codes "(") from) _ _ (z, rest) p.1))
      (choice (sees_row row.Reserved from) _ _ (z, rest) p.1))
      (choice (sees_row row.Char from) _ _ (z, rest) p.1))
      (choice (sees_row row.Int from) _ _ (z, rest) h)

  -- ---- postfix expressions

  raised : (l : ℕ) (a : WithHeight Expr) (from rest : List Token) → ExprStands l a from rest → (m : ℕ) → a.1 ≤ m → Derives m (an_expr l a.0) from rest
  raised l a from rest d m le = Derives-taller a.1 m le (an_expr l a.0) from rest d.0

  subscript_is : (a : WithHeight Expr) (from mid rest : List Token) (z : WithHeight Expr) → ExprStands 13 a from mid → r.subscript E S a mid ≡ Some (z, rest) → ExprStands 13 z from rest
  unfolding r.subscript mark
  subscript_is a from mid rest z left h =
      let o = bind_some (expect row.Mark (codes "[") mid) _ _ h in
      let x = bind_some (E 1 o.0.1) _ _ o.2 in
      let c = bind_some (expect row.Mark (codes "]") x.0.1) _ _ x.2 in
      let high = max a.1 x.0.0.1 in
      expr_built 13 high _ _ from c.0.1 rest z (tree.outs-Subscript a.0 o.0.0 x.0.0.0 c.0.0)
      (mid, o.0.1, x.0.1, raised 13 a from mid left high (omega arith), expected _ _ _ _ _ o.1, child 1 o.0.1 x.0.1 x.0.0 (omega arith) (omega arith) x.1 high (omega arith), expected _ _ _ _ _ c.1) c.2

  member_is : (a : WithHeight Expr) (from mid rest : List Token) (z : WithHeight Expr) → ExprStands 13 a from mid → r.member E S a mid ≡ Some (z, rest) → ExprStands 13 z from rest
  unfolding r.member mark
  member_is a from mid rest z left h =
      let o = bind_some (expect row.Mark (codes ".") mid) _ _ h in
      let x = bind_some (expect_row row.Ident o.0.1) _ _ o.2 in
      let t = bind_some (maybe_template_argument x.0.0.text x.0.1) _ _ x.2 in
      let p = bind_some (expect row.Mark (codes "(") t.0.1) _ _ t.2 in
      let xs = bind_some (r.arguments E S (codes ")") p.0.1) _ _ p.2 in
      let c = bind_some (expect row.Mark (codes ")") xs.0.1) _ _ xs.2 in
      let high = max a.1 xs.0.0.1 in
      let all = MaybeListed-map (OneArgument (Derives xs.0.0.1)) (OneArgument (Derives high)) (argument_taller xs.0.0.1 high (omega arith)) xs.0.0.0 p.0.1 xs.0.1
      (arguments_stand (codes ")") p.0.1 xs.0.1 xs.0.0 xs.1) in
      expr_built 13 high _ _ from c.0.1 rest z (tree.outs-MemberCall a.0 x.0.0 t.0.0 xs.0.0.0 c.0.0) (
        mid,
        o.0.1,
        x.0.1,
        t.0.1,
        p.0.1,
        xs.0.1,
        raised 13 a from mid left high (omega arith),
        expects _ _ _ _ _ o.1,
        expect_row_is _ _ _ _ x.1,
        maybe_template_argument_is x.0.0 x.0.1 t.0.1 t.0.0 t.1,
        expects _ _ _ _ _ p.1,
        all,
        expected _ _ _ _ _ c.1,
      ) c.2

  postfix_step_is : (a : WithHeight Expr) (from mid rest : List Token) (z : WithHeight Expr) → ExprStands 13 a from mid → r.postfix_step E S a mid ≡ Some (z, rest) → ExprStands 13 z from rest
  unfolding r.postfix_step
  postfix_step_is a from mid rest z left h = by (step_of (mark_text mid)) refl h
    where
      by : (o : Option Step) → step_of (mark_text mid) ≡ o → r.postfix_step_as E S a o mid ≡ Some (z, rest) → ExprStands 13 z from rest
      by None is h = absurd cc
      by (Some o) is h =
          let s = bind_some (advance mid) _ _ h in
          expr_built 13 a.1 _ _ from s.0.1 rest z (tree.outs-Postfix a.0 s.0.0 o) (mid, left.0, step_there o mid s.0.1 s.0.0 is s.1) s.2

  postfix_is : (a : WithHeight Expr) (from mid rest : List Token) (z : WithHeight Expr) → ExprStands 13 a from mid → r.postfix E S a mid ≡ Some (z, rest) → ExprStands 13 z from rest
  unfolding r.postfix
  postfix_is a from mid rest z left h =
      ⊎_elim (λ p. subscript_is a from mid rest z left p.1)
      (λ p. ⊎_elim (λ p. member_is a from mid rest z left p.1) (λ p. postfix_step_is a from mid rest z left p.1)
      (choice (sees row.Mark (codes ".") mid) _ _ (z, rest) p.1))
      (choice (sees row.Mark (codes "[") mid) _ _ (z, rest) h)

  postfixes_are : (k : ℕ) (a : WithHeight Expr) (from mid rest : List Token) (z : WithHeight Expr) → ExprStands 13 a from mid → r.postfixes E S k a mid ≡ Some (z, rest) →
      ExprStands 13 z from rest × (r.binds rest < 13)
  unfolding r.postfixes
  postfixes_are zero a from mid rest z left h = absurd cc
  postfixes_are (suc k) a from mid rest z left h =
      ⊎_elim
      (λ p. let same = one {Y = WithHeight Expr × List Token} (a, mid) (z, rest) p.1 in
      (subst (λ q. ExprStands 13 q.0 from q.1) same left, subst (λ q. r.binds q.1 < 13) same (ltb-true (r.binds mid) 13 p.0)))
      (λ p. let b = bind_some (r.postfix E S a mid) _ _ p.1 in postfixes_are k b.0.0 from b.0.1 rest z (postfix_is a from mid b.0.1 b.0.0 left b.1) b.2)
      (choice (nat_lt (r.binds mid) 13) _ _ (z, rest) h)

  looser : (tight loose : ℕ) → loose ≤ tight → (t : WithHeight Expr) (from rest : List Token) → ExprStands tight t from rest → ExprStands loose t from rest
  looser tight loose le t from rest d = (Derives-looser t.1 tight loose le t.0 from rest d.0, d.1)

  -- ---- unary expressions

  -- what was read down to a unary expression
  abbrev Prefixed : WithHeight Expr → List Token → List Token → Type 0
  Prefixed t from rest = (r.binds rest ≤ 12) × ExprStands 12 t from rest

  whole_postfix_is : (from rest : List Token) (z : WithHeight Expr) → r.whole_postfix E S from ≡ Some (z, rest) → Prefixed z from rest
  unfolding r.whole_postfix
  whole_postfix_is from rest z h =
      let p = bind_some (r.primary E S from) _ _ h in
      let q = postfixes_are r.turns p.0.0 from p.0.1 rest z (primary_is 13 from p.0.1 p.0.0 p.1) p.2 in
      (omega (arith, q.1), looser 13 12 (omega arith) z from rest q.0)

  cast_is : (from rest : List Token) (z : WithHeight Expr) → r.cast E S from ≡ Some (z, rest) → Prefixed z from rest
  unfolding r.cast mark
  cast_is from rest z h =
      let o = bind_some (expect row.Mark (codes "(") from) _ _ h in
      let t = bind_some (integral o.0.1) _ _ o.2 in
      let c = bind_some (expect row.Mark (codes ")") t.0.1) _ _ t.2 in
      let a = bind_some (E 12 c.0.1) _ _ c.2 in
      let w = we 12 c.0.1 a.0.1 a.0.0 (omega arith) (omega arith) a.1 in
      let g = grew _ _ _ z rest a.2 in
      let low : r.binds a.0.1 ≤ 12 = omega (arith, w.1) in (
        subst (λ us. r.binds us ≤ 12) (sym g.2) low,
        expr_built 12 a.0.0.1 _ _ from a.0.1 rest z (tree.outs-Cast o.0.0 t.0.0 a.0.0.0)
            (omega arith, (o.0.1, t.0.1, c.0.1, expected _ _ _ _ _ o.1, integral_is o.0.1 t.0.1 t.0.0 t.1, expects _ _ _ _ _ c.1, w.0.0)) a.2,
      )

  prefix_step_is : (o : Step) (from rest : List Token) (z : WithHeight Expr) → step_of (mark_text from) ≡ Some o → r.prefix_step E S o from ≡ Some (z, rest) → Prefixed z from rest
  unfolding r.prefix_step
  prefix_step_is o from rest z is h =
      let s = bind_some (advance from) _ _ h in
      let a = bind_some (E 12 s.0.1) _ _ s.2 in
      let w = we 12 s.0.1 a.0.1 a.0.0 (omega arith) (omega arith) a.1 in
      let g = grew _ _ _ z rest a.2 in
      let low : r.binds a.0.1 ≤ 12 = omega (arith, w.1) in (
        subst (λ us. r.binds us ≤ 12) (sym g.2) low,
        expr_built 12 a.0.0.1 _ _ from a.0.1 rest z (tree.outs-Prefix s.0.0 o a.0.0.0)
            (omega arith, (s.0.1, step_there o from s.0.1 s.0.0 is s.1, w.0.0)) a.2,
      )

  unary_is : (o : UnOp) (from rest : List Token) (z : WithHeight Expr) → unary_of (mark_text from) ≡ Some o → r.unary E S o from ≡ Some (z, rest) → Prefixed z from rest
  unfolding r.unary
  unary_is o from rest z is h =
      let s = bind_some (advance from) _ _ h in
      let a = bind_some (E 12 s.0.1) _ _ s.2 in
      let w = we 12 s.0.1 a.0.1 a.0.0 (omega arith) (omega arith) a.1 in
      let g = grew _ _ _ z rest a.2 in
      let low : r.binds a.0.1 ≤ 12 = omega (arith, w.1) in (
        subst (λ us. r.binds us ≤ 12) (sym g.2) low,
        expr_built 12 a.0.0.1 _ _ from a.0.1 rest z (tree.outs-Unary s.0.0 o a.0.0.0)
            (omega arith, (s.0.1, unary_there o from s.0.1 s.0.0 is s.1, w.0.0)) a.2,
      )

  cast_or_postfix_is : (from rest : List Token) (z : WithHeight Expr) → r.cast_or_postfix E S from ≡ Some (z, rest) → Prefixed z from rest
  unfolding r.cast_or_postfix
  cast_or_postfix_is from rest z h =
      ⊎_elim (λ p. cast_is from rest z p.1) (λ p. whole_postfix_is from rest z p.1) (choice (r.sees_cast from) _ _ (z, rest) h)

  prefix_is : (from rest : List Token) (z : WithHeight Expr) → r.prefix E S from ≡ Some (z, rest) → Prefixed z from rest
  unfolding r.prefix
  prefix_is from rest z h = by_step (step_of (mark_text from)) refl h
    where
      by_unary : (o : Option UnOp) → unary_of (mark_text from) ≡ o → r.unary_or E S o from ≡ Some (z, rest) → Prefixed z from rest
      by_unary (Some o) is h = unary_is o from rest z is h
      by_unary None is h = cast_or_postfix_is from rest z h

      by_step : (o : Option Step) → step_of (mark_text from) ≡ o → r.step_or E S o (mark_text from) from ≡ Some (z, rest) → Prefixed z from rest
      by_step (Some o) is h = prefix_step_is o from rest z is h
      by_step None is h = by_unary (unary_of (mark_text from)) refl h

  -- ---- operators with two operands

  -- what was read so far, and how tightly what follows may bind it
  abbrev Reached : ℕ → WithHeight Expr → List Token → List Token → Type 0
  Reached l t from rest = (v : ℕ) × (l ≤ v) × (r.binds rest ≤ v) × (r.binds rest ≡ 1 → 2 ≤ v) × ExprStands v t from rest

  binary_is : (l : ℕ) (o : Operator) (a : WithHeight Expr) (from mid rest : List Token) (z : WithHeight Expr) → operator_of (mark_text mid) ≡ Some o → l ≤ level o →
      ExprStands (level o) a from mid → r.binary E S o a mid ≡ Some (z, rest) → Reached l z from rest
  unfolding r.binary
  binary_is l o a from mid rest z is le left h =
      let s = bind_some (advance mid) _ _ h in
      let b = bind_some (E (level o + 1) s.0.1) _ _ s.2 in
      let bounds = level_bounds o in
      let w = we (level o + 1) s.0.1 b.0.1 b.0.0 (omega arith) (omega (arith, bounds)) b.1 in
      let g = grew _ _ _ z rest b.2 in
      let high = max a.1 b.0.0.1 in
      let right = child (level o + 1) s.0.1 b.0.1 b.0.0 (omega arith) (omega (arith, bounds)) b.1 high (omega arith) in
      let low : r.binds rest < level o + 1 = subst (λ us. r.binds us < level o + 1) (sym g.2) w.1 in (
        level o,
        le,
        omega (arith, low),
        λ q. omega (arith, bounds),
        expr_built (level o) high _ _ from b.0.1 rest z (tree.outs-Binary a.0 s.0.0 o b.0.0.0)
            (omega arith, (mid, s.0.1, raised (level o) a from mid left high (omega arith), operator_there o mid s.0.1 s.0.0 is s.1, right)) b.2,
      )

  conditional_is : (l : ℕ) (a : WithHeight Expr) (from mid rest : List Token) (z : WithHeight Expr) → l ≤ 1 → 1 ≤ l → ExprStands 2 a from mid → r.conditional E S a mid ≡ Some (z, rest) →
      Reached l z from rest
  unfolding r.conditional mark
  conditional_is l a from mid rest z le some left h =
      let s = bind_some (expect row.Mark (codes "?") mid) _ _ h in
      let b = bind_some (E 1 s.0.1) _ _ s.2 in
      let c = bind_some (expect row.Mark (codes ":") b.0.1) _ _ b.2 in
      let d = bind_some (E 1 c.0.1) _ _ c.2 in
      let g = grew _ _ _ z rest d.2 in
      let w = we 1 c.0.1 d.0.1 d.0.0 (omega arith) (omega arith) d.1 in
      let high = max a.1 (max b.0.0.1 d.0.0.1) in
      let low : r.binds rest < 1 = subst (λ us. r.binds us < 1) (sym g.2) w.1 in (
        1,
        le,
        omega (arith, low),
        λ q. absurd (omega (arith, q, low)),
        expr_built 1 high _ _ from d.0.1 rest z (tree.outs-Conditional a.0 s.0.0 b.0.0.0 d.0.0.0) (
          omega arith,
          (
            mid,
            s.0.1,
            b.0.1,
            c.0.1,
            raised 2 a from mid left high (omega arith),
            expected _ _ _ _ _ s.1,
            child 1 s.0.1 b.0.1 b.0.0 (omega arith) (omega arith) b.1 high (omega arith),
            expects _ _ _ _ _ c.1,
            child 1 c.0.1 d.0.1 d.0.0 (omega arith) (omega arith) d.1 high (omega arith),
          ),
        ) d.2,
      )

  operation_is : (l : ℕ) (a : WithHeight Expr) (from mid rest : List Token) (z : WithHeight Expr) → 1 ≤ l → l ≤ r.binds mid → Reached l a from mid → r.operation E S a mid ≡ Some (z, rest) →
      Reached l z from rest
  unfolding r.operation
  operation_is l a from mid rest z some le left h =
      ⊎_elim
      (λ p. let one_ : r.binds mid ≡ 1 = question_binds mid p.0 in
      conditional_is l a from mid rest z (omega (arith, one_, le)) some (looser left.0 2 (left.3 one_) a from mid left.4) p.1)
      (λ p. by (operator_of (mark_text mid)) refl p.1)
      (choice (sees row.Mark (codes "?") mid) _ _ (z, rest) h)
    where
      by : (o : Option Operator) → operator_of (mark_text mid) ≡ o → r.binary_as E S a o mid ≡ Some (z, rest) → Reached l z from rest
      by None is h = absurd cc
      by (Some o) is h =
          let binds : r.binds mid ≡ level o = operator_binds o mid is in
          binary_is l o a from mid rest z is (omega (arith, binds, le)) (looser left.0 (level o) (omega (arith, binds, left.2)) a from mid left.4) h

  climb_is : (k l : ℕ) (a : WithHeight Expr) (from mid rest : List Token) (z : WithHeight Expr) → 1 ≤ l → Reached l a from mid → r.climb E S k l a mid ≡ Some (z, rest) → ExprSound l z from rest
  unfolding r.climb
  climb_is zero l a from mid rest z some left h = absurd cc
  climb_is (suc k) l a from mid rest z some left h =
      ⊎_elim
      (λ p. let same = one {Y = WithHeight Expr × List Token} (a, mid) (z, rest) p.1 in
      (subst (λ q. ExprStands l q.0 from q.1) same (looser left.0 l left.1 a from mid left.4), subst (λ q. r.binds q.1 < l) same (ltb-true (r.binds mid) l p.0)))
      (λ p. let b = bind_some (r.operation E S a mid) _ _ p.1 in
      climb_is k l b.0.0 from b.0.1 rest z some (operation_is l a from mid b.0.1 b.0.0 some (ltb-false (r.binds mid) l p.0) left b.1) b.2)
      (choice (nat_lt (r.binds mid) l) _ _ (z, rest) h)

  pub chain_is : (l : ℕ) → 1 ≤ l → l ≤ 12 → (from rest : List Token) (z : WithHeight Expr) → r.chain E S l from ≡ Some (z, rest) → ExprSound l z from rest
  unfolding r.chain
  chain_is l some top from rest z h =
      let p = bind_some (r.prefix E S from) _ _ h in
      let q = prefix_is from p.0.1 p.0.0 p.1 in
      climb_is r.turns l p.0.0 from p.0.1 rest z some (12, top, q.0, λ o. omega arith, q.1) p.2
