-- Blocks, lambdas, declarations and statements that are read stand there, where what is read below does.
use Prim.Native.String.{String}
use Rattle.std.proofs.Common.{◌≡◌, ℕ, zero, suc, ◌≤◌, max, if◌then◌else◌, Bool, true, false, ◌||◌, List, [], ◌∷◌, ◌++◌, length, ⊎_elim, Option, Some, None, refl, sym, ap, ◌∙◌, subst, arith, append_assoc, append-nil, codes}
use Rattle.std.proofs.lemmas.Slice.Eq.{bytes_eq-Decides}
use Rattle.std.specs.Str.{bytes_eq}
use Rattle.sy_lex.specs.declared.Row.TheVariants as row
use Rattle.sy_lex.specs.declared.Token.{Token}
use Rattle.sy_note.specs.declared.Spot.{Spot}
use Rattle.sy_tree.specs.declared.operators.AssignmentOperator.{AssignmentOperator}
use Rattle.sy_tree.specs.declared.operators.AssignmentOperator.TheVariants as asg
use Rattle.sy_tree.specs.declared.parts.Brackets.{Brackets}
use Rattle.sy_tree.specs.declared.parts.Brackets.TheVariants as brackets
use Rattle.sy_tree.specs.declared.parts.Lexeme.{Lexeme}
use Rattle.sy_tree.specs.declared.parts.Qualified.{Qualified}
use Rattle.sy_tree.specs.declared.tree.Argument.{Argument}
use Rattle.sy_tree.specs.declared.tree.Block.{Block}
use Rattle.sy_tree.specs.declared.tree.Declaration.{Declaration, out-Declaration}
use Rattle.sy_tree.specs.declared.tree.Declaration.TheVariants as declaration
use Rattle.sy_tree.specs.declared.tree.Declarator.{Declarator}
use Rattle.sy_tree.specs.declared.tree.Declarator.TheVariants as declarator
use Rattle.sy_tree.specs.declared.tree.Expr.{Expr}
use Rattle.sy_tree.specs.declared.tree.FullExpression.{FullExpression, out-FullExpression}
use Rattle.sy_tree.specs.declared.tree.FullExpression.TheVariants as full
use Rattle.sy_tree.specs.declared.tree.Initializer.{Initializer, out-Initializer}
use Rattle.sy_tree.specs.declared.tree.Initializer.TheVariants as initializer
use Rattle.sy_tree.specs.declared.tree.Lambda.{Lambda}
use Rattle.sy_tree.specs.declared.tree.Printed.{Printed, out-Printed}
use Rattle.sy_tree.specs.declared.tree.Printed.TheVariants as item
use Rattle.sy_tree.specs.declared.tree.Stmt.{Stmt, out-Stmt}
use Rattle.sy_tree.specs.declared.tree.Stmt.TheVariants as t
use Rattle.sy_tree.specs.Declarations.{IsNoFunction, OneDeclarator, Initialized, DeclarationRule}
use Rattle.sy_tree.specs.Expressions.{an_expr, a_lambda, a_full, a_block, a_stmt, AnyExpr, InParentheses, OneArgument}
use Rattle.sy_tree.specs.Grammar.{NodeRule, Derives}
use Rattle.sy_tree.specs.Layers.{StmtLayer}
use Rattle.sy_tree.specs.Lists.{Rule, Maybe, Optional, Each, OneOrMore, Listed, MaybeListed}
use Rattle.sy_tree.specs.Statements.{IsInitStatement, Substatement, AnyFull, FullRule, PrintedRule, OnePrinted, StmtRule}
use Rattle.sy_tree.specs.Types.{TypeSpecified}
use Rattle.sy_tree.specs.Words.{At, Sees, Identifier, Std, mark, keyword, identifier, assignment_spelling}
use Rattle.sy_tree.proofs.Maps.{Optional-map, OneDeclarator-map, MaybeListed-map}
use Rattle.sy_tree.proofs.Theorems.{Derives-taller}
use Rattle.sy_reading.specs.Exprs as e
use Rattle.sy_reading.specs.Stmts as r
use Rattle.sy_reading.specs.Input.{Reader, WithHeight, and_then, ◌>>=◌, next, check_height, expect, expect_row, sees, sees_row, sees_namespace, mark_text, advance, after, expect_name, within, qualified_name, comma_list, maybe_comma_list}
use Rattle.sy_reading.specs.Parts.{one_capture, maybe_parameters, expect_open, expect_close, integral, type_specifier, const_specifier, object_type, declares_object}
use Rattle.sy_reading.proofs.StepLemmas.{bind_some, one, choice, which, finish, grew, word, expected, expects, expect_row_is, seen, eaten, within_is, expect_name_is, comma_list_stand}
use Rattle.sy_reading.proofs.PartsSoundLemmas.{captures_are, maybe_parameters_are, expect_open_is, expect_close_is, integral_is, type_specifier_is, const_specifier_is, object_type_is}
use Rattle.sy_reading.proofs.ExprSoundLemmas.{ExprSound, StmtStands, node_built, argument_taller, arguments_stand, argument_list_stands, mark_there, mark_row}
use Rattle.sy_reading.specs.Tables.{assignment_of}
use Rattle.sy_tree.specs.declared.tree.Argument.TheOpen.{Initializer-F, Printed-F}
use Rattle.sy_tree.specs.Layers.{InitializerLayer, PrintedLayer}
use Rattle.sy_tree.specs.Declarations.{InitializerRule}

-- ---- blocks and lambdas

module _ (E : ℕ → Reader (WithHeight Expr)) (S : Reader (WithHeight Stmt)) (ws : (from rest : List Token) (t : WithHeight Stmt) → S from ≡ Some (t, rest) → StmtStands t from rest) where
  abbrev StatementsStand : List Stmt → ℕ → List Token → WithHeight (List Stmt) → List Token → Type 0
  StatementsStand xs h from all rest = (more : List Stmt) × (h ≤ all.1) × (all.0 ≡ xs ++ more) × Each (Substatement (Derives all.1)) more from rest

  statements_stand : (n : ℕ) (xs : List Stmt) (h : ℕ) (from rest : List Token) (all : WithHeight (List Stmt)) → e.statements E S n xs h from ≡ Some (all, rest) → StatementsStand xs h from all rest
  unfolding e.statements
  statements_stand zero xs h from rest all d = absurd cc
  statements_stand (suc n) xs h from rest all d =
      ⊎_elim
      (λ p. finish {A = WithHeight (List Stmt)} (λ z vs. StatementsStand xs h from z vs) (xs, h) all from rest p.1 ([], omega arith, sym (append-nil xs), refl))
      (λ p. let x = bind_some (S from) _ _ p.1 in
      let others = statements_stand n (xs ++ x.0.0.0 ∷ []) (max h x.0.0.1) x.0.1 rest all x.2 in
      let le : x.0.0.1 ≤ all.1 = omega (arith, others.1) in (
        x.0.0.0 ∷ others.0,
        omega (arith, others.1),
        others.2 ∙ append_assoc xs (x.0.0.0 ∷ []) others.0,
        (x.0.1, Derives-taller x.0.0.1 all.1 le (a_stmt x.0.0.0) from x.0.1 (ws from x.0.1 x.0.0 x.1).0, others.3),
      ))
      (choice (sees row.Mark (codes "}") from) _ _ (all, rest) d)

  pub one_block_is : (from rest : List Token) (z : WithHeight Block) → e.one_block E S from ≡ Some (z, rest) → Derives z.1 (a_block z.0) from rest × (z.1 ≤ 64)
  unfolding e.one_block mark
  one_block_is from rest z h =
      let o = bind_some (expect row.Mark (codes "{") from) _ _ h in
      let xs = bind_some (e.statements E S (length o.0.1) [] 0 o.0.1) _ _ o.2 in
      let c = bind_some (expect row.Mark (codes "}") xs.0.1) _ _ xs.2 in
      let all = statements_stand (length o.0.1) [] 0 o.0.1 xs.0.1 xs.0.0 xs.1 in
      let each = subst (λ ys. Each (Substatement (Derives xs.0.0.1)) ys o.0.1 xs.0.1) (sym all.2) all.3 in
      node_built a_block xs.0.0.1 (record { spot = o.0.0; statements = xs.0.0.0; close = c.0.0 }) from c.0.1 rest z
      (o.0.1, xs.0.1, expected _ _ _ _ _ o.1, each, expected _ _ _ _ _ c.1) (grew _ _ _ z rest c.2)

  pub one_lambda_is : (from rest : List Token) (z : WithHeight Lambda) → e.one_lambda E S from ≡ Some (z, rest) → Derives z.1 (a_lambda z.0) from rest
  unfolding e.one_lambda mark
  one_lambda_is from rest z h =
      let o = bind_some (expect row.Mark (codes "[") from) _ _ h in
      let cs = bind_some (maybe_comma_list one_capture (codes "]") o.0.1) _ _ o.2 in
      let c = bind_some (expect row.Mark (codes "]") cs.0.1) _ _ cs.2 in
      let ps = bind_some (maybe_parameters c.0.1) _ _ c.2 in
      let b = bind_some (e.one_block E S ps.0.1) _ _ ps.2 in
      (node_built a_lambda b.0.0.1 (record { spot = o.0.0; captures = cs.0.0.0; parameters = ps.0.0; body = b.0.0.0 }) from b.0.1 rest z (
        o.0.1,
        cs.0.1,
        c.0.1,
        ps.0.1,
        expected _ _ _ _ _ o.1,
        captures_are (codes "]") o.0.1 cs.0.1 cs.0.0 cs.1,
        expects _ _ _ _ _ c.1,
        maybe_parameters_are c.0.1 ps.0.1 ps.0.0 ps.1,
        (one_block_is ps.0.1 b.0.1 b.0.0 b.1).0,
      ) (grew _ _ _ z rest b.2)).0

-- ---- declarations

assignment_text : (text : List ℕ) (o : AssignmentOperator) → assignment_of text ≡ Some o → text ≡ codes (assignment_spelling o)
unfolding assignment_of
assignment_text text o h =
    let row = mark_row text assignment_spelling in
    row asg.Assign _ o (row asg.Add _ o (row asg.Sub _ o (row asg.Mul _ o (row asg.Div _ o (row asg.Rem _ o (row asg.And _ o (row asg.Or _ o (row asg.Xor _ o (row asg.Shl _ o (row asg.Shr _ o (λ h. absurd cc))))))))))) h

assignment_there : (o : AssignmentOperator) (from rest : List Token) (s : Spot) → assignment_of (mark_text from) ≡ Some o → advance from ≡ Some (s, rest) →
    At (mark (assignment_spelling o)) s from rest
unfolding mark
assignment_there asg.Assign from rest s is h = mark_there (codes "=") from rest s _ _ refl (assignment_text (mark_text from) asg.Assign is) h
assignment_there asg.Add from rest s is h = mark_there (codes "+=") from rest s _ _ refl (assignment_text (mark_text from) asg.Add is) h
assignment_there asg.Sub from rest s is h = mark_there (codes "-=") from rest s _ _ refl (assignment_text (mark_text from) asg.Sub is) h
assignment_there asg.Mul from rest s is h = mark_there (codes "*=") from rest s _ _ refl (assignment_text (mark_text from) asg.Mul is) h
assignment_there asg.Div from rest s is h = mark_there (codes "/=") from rest s _ _ refl (assignment_text (mark_text from) asg.Div is) h
assignment_there asg.Rem from rest s is h = mark_there (codes "%=") from rest s _ _ refl (assignment_text (mark_text from) asg.Rem is) h
assignment_there asg.And from rest s is h = mark_there (codes "&=") from rest s _ _ refl (assignment_text (mark_text from) asg.And is) h
assignment_there asg.Or from rest s is h = mark_there (codes "|=") from rest s _ _ refl (assignment_text (mark_text from) asg.Or is) h
assignment_there asg.Xor from rest s is h = mark_there (codes "^=") from rest s _ _ refl (assignment_text (mark_text from) asg.Xor is) h
assignment_there asg.Shl from rest s is h = mark_there (codes "<<=") from rest s _ _ refl (assignment_text (mark_text from) asg.Shl is) h
assignment_there asg.Shr from rest s is h = mark_there (codes ">>=") from rest s _ _ refl (assignment_text (mark_text from) asg.Shr is) h

initializer_taller : (m n : ℕ) → m ≤ n → (x : Initializer) (from rest : List Token) → Initialized (Derives m) x from rest → Initialized (Derives n) x from rest
initializer_taller m n le x from rest h = by (out-Initializer x) h
  where
    by : (a : InitializerLayer) → InitializerRule (Derives m) a from rest → InitializerRule (Derives n) a from rest
    by (Initializer-F.Copy s v) h = (h.0, h.1, Derives-taller m n le (an_expr 1 v) h.0 rest h.2)
    by (Initializer-F.Direct b s xs e) h =
        (h.0, (h.1.0, h.1.1, h.1.2, MaybeListed-map (OneArgument (Derives m)) (OneArgument (Derives n)) (argument_taller m n le) xs h.1.0 h.1.1 h.1.3, h.1.4))

printed_taller : (m n : ℕ) → m ≤ n → (x : Printed) (from rest : List Token) → OnePrinted (Derives m) x from rest → OnePrinted (Derives n) x from rest
printed_taller m n le x from rest h = by (out-Printed x) h
  where
    by : (a : PrintedLayer) → PrintedRule (Derives m) a from rest → PrintedRule (Derives n) a from rest
    by (Printed-F.Operand s v) h = (h.0, h.1, Derives-taller m n le (an_expr 10 v) h.0 rest h.2)
    by (Printed-F.Text s v) h = h
    by (Printed-F.EndLine s q) h = h

-- a statement that was built, by the layer that it opens to
stmt_built : (h : ℕ) (x : Stmt) (y : StmtLayer) (from ts rest : List Token) (z : WithHeight Stmt) → out-Stmt x ≡ y → StmtRule (Derives h) y from ts →
    check_height x h ts ≡ Some (z, rest) → StmtStands z from rest
stmt_built h x y from ts rest z o d g =
    let rule : NodeRule (Derives h) (a_stmt x) from ts = rw o d in
    node_built a_stmt h x from ts rest z rule (grew x h ts z rest g)

-- the same of what a `for` may begin with
abbrev SimpleStands : WithHeight Stmt → List Token → List Token → Type 0
SimpleStands z from rest = IsInitStatement (out-Stmt z.0) × StmtStands z from rest

simple_built : (h : ℕ) (x : Stmt) (y : StmtLayer) (from ts rest : List Token) (z : WithHeight Stmt) → out-Stmt x ≡ y → IsInitStatement y → StmtRule (Derives h) y from ts →
    check_height x h ts ≡ Some (z, rest) → SimpleStands z from rest
simple_built h x y from ts rest z o i d g =
    let init : IsInitStatement (out-Stmt x) = rw o i in
    (subst (λ u. IsInitStatement (out-Stmt u.0)) (sym (grew x h ts z rest g).1) init, stmt_built h x y from ts rest z o d g)

-- a name of the library of C++, of which the text is known
abbrev Standard : List ℕ → Qualified → List Token → List Token → Type 0
Standard text q from rest = (m k : List Token) × At (word row.Ident (codes "std")) q.namespace from m × Sees (word row.Mark (codes "::")) m k × At (word row.Ident text) q.name k rest

standard_name : (text : List ℕ) (w : String) (q : Qualified) (from rest : List Token) → Standard text q from rest → bytes_eq text (codes w) ≡ true → Std w q from rest
unfolding identifier mark
standard_name text w q from rest h e = subst (λ t. Standard t q from rest) ((bytes_eq-Decides text (codes w)).0 e) h

-- a block is the same node as a statement
block_stmt : (h : ℕ) (b : Block) (us ts : List Token) → Derives h (a_block b) us ts → Derives h (a_stmt (t.Compound b)) us ts
unfolding Derives
block_stmt zero b us ts d = absurd d
block_stmt (suc h) b us ts d = rw (t.outs-Compound b) d

unseen : (mid us : List Token) → sees row.Reserved (codes "else") mid ≡ false → Sees (word row.Reserved (codes "else")) mid us → ⊥
unfolding sees
unseen mid us is there = let clash : true ≡ false = sym (ap (sees row.Reserved (codes "else")) there.1.2) ∙ is in cc

module _ (E : ℕ → Reader (WithHeight Expr)) (S : Reader (WithHeight Stmt))
    (we : (l : ℕ) (from rest : List Token) (t : WithHeight Expr) → 1 ≤ l → l ≤ 12 → E l from ≡ Some (t, rest) → ExprSound l t from rest)
    (ws : (from rest : List Token) (t : WithHeight Stmt) → S from ≡ Some (t, rest) → StmtStands t from rest) where
  value : (from rest : List Token) (t : WithHeight Expr) → E 1 from ≡ Some (t, rest) → Derives t.1 (an_expr 1 t.0) from rest
  value from rest t h = (we 1 from rest t (omega arith) (omega arith) h).0.0

  value_at : (from rest : List Token) (t : WithHeight Expr) → E 1 from ≡ Some (t, rest) → (m : ℕ) → t.1 ≤ m → Derives m (an_expr 1 t.0) from rest
  value_at from rest t h m le = Derives-taller t.1 m le (an_expr 1 t.0) from rest (value from rest t h)

  stmt_at : (from rest : List Token) (t : WithHeight Stmt) → S from ≡ Some (t, rest) → (m : ℕ) → t.1 ≤ m → Derives m (a_stmt t.0) from rest
  stmt_at from rest t h m le = Derives-taller t.1 m le (a_stmt t.0) from rest (ws from rest t h).0

  lambdas : (from rest : List Token) (t : WithHeight Lambda) → e.one_lambda E S from ≡ Some (t, rest) → Derives t.1 (a_lambda t.0) from rest
  lambdas = one_lambda_is E S ws

  one_declarator_is : (from rest : List Token) (x : WithHeight Declarator) → r.one_declarator E S from ≡ Some (x, rest) → OneDeclarator (Derives x.1) x.0 from rest
  unfolding r.one_declarator r.equal_declarator r.bracketed_declarator mark
  one_declarator_is from rest x h =
      let n = bind_some (expect_row row.Ident from) _ _ h in
      ⊎_elim
      (λ p. let s = bind_some (expect row.Mark (codes "=") n.0.1) _ _ p.1 in
      let v = bind_some (E 1 s.0.1) _ _ s.2 in
      finish {A = WithHeight Declarator} (λ z vs. OneDeclarator (Derives z.1) z.0 from vs) (declarator.Equal n.0.0 s.0.0 v.0.0.0, v.0.0.1) x v.0.1 rest v.2
      (rw (declarator.outs-Equal n.0.0 s.0.0 v.0.0.0) (n.0.1, s.0.1, expect_row_is _ _ _ _ n.1, expected _ _ _ _ _ s.1, value s.0.1 v.0.1 v.0.0 v.1)))
      (λ p. ⊎_elim
      (λ p. let b = bind_some (expect_open n.0.1) _ _ p.1 in
      let v = bind_some (E 1 b.0.1) _ _ b.2 in
      let c = bind_some (expect_close b.0.0.0 v.0.1) _ _ v.2 in
      finish {A = WithHeight Declarator} (λ z vs. OneDeclarator (Derives z.1) z.0 from vs) (declarator.Bracketed n.0.0 b.0.0.0 b.0.0.1 v.0.0.0 c.0.0, v.0.0.1) x c.0.1 rest c.2
      (rw (declarator.outs-Bracketed n.0.0 b.0.0.0 b.0.0.1 v.0.0.0 c.0.0)
      (n.0.1, b.0.1, v.0.1, expect_row_is _ _ _ _ n.1, expect_open_is n.0.1 b.0.1 b.0.0 b.1, value b.0.1 v.0.1 v.0.0 v.1, expect_close_is b.0.0.0 v.0.1 c.0.1 c.0.0 c.1)))
      (λ p. finish {A = WithHeight Declarator} (λ z vs. OneDeclarator (Derives z.1) z.0 from vs) (declarator.Uninitialized n.0.0, 0) x n.0.1 rest p.1
      (rw (declarator.outs-Uninitialized n.0.0) (expect_row_is _ _ _ _ n.1)))
      (choice (sees row.Mark (codes "(") n.0.1 || sees row.Mark (codes "{") n.0.1) _ _ (x, rest) p.1))
      (choice (sees row.Mark (codes "=") n.0.1) _ _ (x, rest) n.2)

  -- what a declaration is, with the height of what it holds
  abbrev Declares : WithHeight Declaration → List Token → List Token → Type 0
  Declares d from rest = DeclarationRule (Derives d.1) (out-Declaration d.0) from rest

  integers_are : (from rest : List Token) (d : WithHeight Declaration) → r.integers E S from ≡ Some (d, rest) → Declares d from rest
  unfolding r.integers mark
  integers_are from rest d h =
      let c = bind_some (const_specifier from) _ _ h in
      let t = bind_some (type_specifier c.0.1) _ _ c.2 in
      let ds = bind_some (comma_list (r.one_declarator E S) t.0.1) _ _ t.2 in
      let end = bind_some (expect row.Mark (codes ";") ds.0.1) _ _ ds.2 in
      let all = comma_list_stand (r.one_declarator E S) (λ n. OneDeclarator (Derives n)) (λ m n le x us ts k. OneDeclarator-map (Derives m) (Derives n) (Derives-taller m n le) x us ts k)
      one_declarator_is t.0.1 ds.0.1 ds.0.0 ds.1 in
      finish {A = WithHeight Declaration} (λ z vs. Declares z from vs) (declaration.Integers c.0.0 t.0.0 ds.0.0.0 end.0.0, ds.0.0.1) d end.0.1 rest end.2
      (rw (declaration.outs-Integers c.0.0 t.0.0 ds.0.0.0 end.0.0)
      (c.0.1, t.0.1, ds.0.1, const_specifier_is from c.0.1 c.0.0 c.1, type_specifier_is c.0.1 t.0.1 t.0.0 t.1, all, expected _ _ _ _ _ end.1))

  direct_initializer_is : (from rest : List Token) (x : WithHeight Initializer) → r.direct_initializer E S from ≡ Some (x, rest) → Initialized (Derives x.1) x.0 from rest
  unfolding r.direct_initializer r.direct_arguments
  direct_initializer_is from rest x h =
      let b = bind_some (expect_open from) _ _ h in
      let xs = bind_some (r.direct_arguments E S b.0.0.0 b.0.1) _ _ b.2 in
      let c = bind_some (expect_close b.0.0.0 xs.0.1) _ _ xs.2 in
      let all = with_brackets b.0.0.0 b.0.1 xs.0.1 xs.0.0 xs.1 in
      finish {A = WithHeight Initializer} (λ z vs. Initialized (Derives z.1) z.0 from vs) (initializer.Direct b.0.0.0 b.0.0.1 xs.0.0.0 c.0.0, xs.0.0.1) x c.0.1 rest c.2
      (rw (initializer.outs-Direct b.0.0.0 b.0.0.1 xs.0.0.0 c.0.0)
      (all.0, (b.0.1, xs.0.1, expect_open_is from b.0.1 b.0.0 b.1, all.1, expect_close_is b.0.0.0 xs.0.1 c.0.1 c.0.0 c.1)))
    where
      some_args : (xs : List Argument) (P : Rule Argument) (us ts : List Token) → Listed P xs us ts → IsNoFunction brackets.Parentheses xs × MaybeListed P xs us ts
      some_args [] P us ts d = absurd d
      some_args (y ∷ ys) P us ts d = (tt, d)

      with_brackets : (b : Brackets) (us ts : List Token) (xs : WithHeight (List Argument)) → r.direct_arguments E S b us ≡ Some (xs, ts) →
          IsNoFunction b xs.0 × MaybeListed (OneArgument (Derives xs.1)) xs.0 us ts
      with_brackets brackets.Parentheses us ts xs h = some_args xs.0 (OneArgument (Derives xs.1)) us ts (argument_list_stands E S we lambdas us ts xs h)
      with_brackets brackets.Braces us ts xs h = (tt, arguments_stand E S we lambdas (codes "}") us ts xs h)

  maybe_initializer_is : (from rest : List Token) (x : WithHeight (Option Initializer)) → r.maybe_initializer E S from ≡ Some (x, rest) → Optional (Initialized (Derives x.1)) x.0 from rest
  unfolding r.maybe_initializer mark
  maybe_initializer_is from rest x h =
      ⊎_elim
      (λ p. let s = bind_some (expect row.Mark (codes "=") from) _ _ p.1 in
      let v = bind_some (E 1 s.0.1) _ _ s.2 in
      finish {A = WithHeight (Option Initializer)} (λ z vs. Optional (Initialized (Derives z.1)) z.0 from vs) (Some (initializer.Copy s.0.0 v.0.0.0), v.0.0.1) x v.0.1 rest v.2
      (rw (initializer.outs-Copy s.0.0 v.0.0.0) (s.0.1, expected _ _ _ _ _ s.1, value s.0.1 v.0.1 v.0.0 v.1)))
      (λ p. ⊎_elim
      (λ p. let d = bind_some (r.direct_initializer E S from) _ _ p.1 in
      finish {A = WithHeight (Option Initializer)} (λ z vs. Optional (Initialized (Derives z.1)) z.0 from vs) (Some d.0.0.0, d.0.0.1) x d.0.1 rest d.2 (direct_initializer_is from d.0.1 d.0.0 d.1))
      (λ p. finish {A = WithHeight (Option Initializer)} (λ z vs. Optional (Initialized (Derives z.1)) z.0 from vs) (None, 0) x from rest p.1 refl)
      (choice (sees row.Mark (codes "(") from || sees row.Mark (codes "{") from) _ _ (x, rest) p.1))
      (choice (sees row.Mark (codes "=") from) _ _ (x, rest) h)

  object_declaration_is : (from rest : List Token) (d : WithHeight Declaration) → r.object_declaration E S from ≡ Some (d, rest) → Declares d from rest
  unfolding r.object_declaration mark
  object_declaration_is from rest d h =
      let t = bind_some (object_type from) _ _ h in
      let n = bind_some (expect_row row.Ident t.0.1) _ _ t.2 in
      let v = bind_some (r.maybe_initializer E S n.0.1) _ _ n.2 in
      let end = bind_some (expect row.Mark (codes ";") v.0.1) _ _ v.2 in
      finish {A = WithHeight Declaration} (λ z vs. Declares z from vs) (declaration.Object t.0.0 n.0.0 v.0.0.0 end.0.0, v.0.0.1) d end.0.1 rest end.2
      (rw (declaration.outs-Object t.0.0 n.0.0 v.0.0.0 end.0.0)
      (t.0.1, n.0.1, v.0.1, object_type_is from t.0.1 t.0.0 t.1, expect_row_is _ _ _ _ n.1, maybe_initializer_is n.0.1 v.0.1 v.0.0 v.1, expected _ _ _ _ _ end.1))

  thread_is : (q : Qualified) (from m rest : List Token) (d : WithHeight Declaration) → Std "thread" q from m → r.thread E S q m ≡ Some (d, rest) → Declares d from rest
  unfolding r.thread mark
  thread_is q from m rest d there h =
      let n = bind_some (expect_row row.Ident m) _ _ h in
      let b = bind_some (expect_open n.0.1) _ _ n.2 in
      let l = bind_some (e.one_lambda E S b.0.1) _ _ b.2 in
      let c = bind_some (expect_close b.0.0.0 l.0.1) _ _ l.2 in
      let end = bind_some (expect row.Mark (codes ";") c.0.1) _ _ c.2 in
      finish {A = WithHeight Declaration} (λ z vs. Declares z from vs) (declaration.Thread q n.0.0 b.0.0.0 l.0.0.0 end.0.0, l.0.0.1) d end.0.1 rest end.2
      (rw (declaration.outs-Thread q n.0.0 b.0.0.0 l.0.0.0 end.0.0) (
        m,
        n.0.1,
        b.0.1,
        l.0.1,
        c.0.1,
        there,
        expect_row_is _ _ _ _ n.1,
        (b.0.0.1, expect_open_is n.0.1 b.0.1 b.0.0 b.1),
        lambdas b.0.1 l.0.1 l.0.0 l.1,
        (c.0.0, expect_close_is b.0.0.0 l.0.1 c.0.1 c.0.0 c.1),
        expected _ _ _ _ _ end.1,
      ))

  vector_is : (q : Qualified) (from m rest : List Token) (d : WithHeight Declaration) → Std "vector" q from m → r.vector E S q m ≡ Some (d, rest) → Declares d from rest
  unfolding r.vector r.thread_vector r.device_vector r.integer_vector mark identifier
  vector_is q from m rest d there h =
      let o = bind_some (expect row.Mark (codes "<") m) _ _ h in
      ⊎_elim
      (λ p. let t = bind_some (within (codes "std") (codes "thread") o.0.1) _ _ p.1 in
      let c = bind_some (expect row.Mark (codes ">") t.0.1) _ _ t.2 in
      let n = bind_some (expect_row row.Ident c.0.1) _ _ c.2 in
      let end = bind_some (expect row.Mark (codes ";") n.0.1) _ _ n.2 in
      finish {A = WithHeight Declaration} (λ z vs. Declares z from vs) (declaration.ThreadVector q n.0.0 end.0.0, 0) d end.0.1 rest end.2
      (rw (declaration.outs-ThreadVector q n.0.0 end.0.0)
      (m, o.0.1, t.0.1, c.0.1, n.0.1, t.0.0, there, expects _ _ _ _ _ o.1, within_is _ _ _ _ _ t.1, expects _ _ _ _ _ c.1, expect_row_is _ _ _ _ n.1, expected _ _ _ _ _ end.1)))
      (λ p. ⊎_elim
      (λ p. let t = bind_some (within (codes "sycl") (codes "device") o.0.1) _ _ p.1 in
      let c = bind_some (expect row.Mark (codes ">") t.0.1) _ _ t.2 in
      let n = bind_some (expect_row row.Ident c.0.1) _ _ c.2 in
      let v = bind_some (r.maybe_initializer E S n.0.1) _ _ n.2 in
      let end = bind_some (expect row.Mark (codes ";") v.0.1) _ _ v.2 in
      finish {A = WithHeight Declaration} (λ z vs. Declares z from vs) (declaration.DeviceVector q n.0.0 v.0.0.0 end.0.0, v.0.0.1) d end.0.1 rest end.2
      (rw (declaration.outs-DeviceVector q n.0.0 v.0.0.0 end.0.0) (
        m,
        o.0.1,
        t.0.1,
        c.0.1,
        n.0.1,
        v.0.1,
        t.0.0,
        there,
        expects _ _ _ _ _ o.1,
        within_is _ _ _ _ _ t.1,
        expects _ _ _ _ _ c.1,
        expect_row_is _ _ _ _ n.1,
        maybe_initializer_is n.0.1 v.0.1 v.0.0 v.1,
        expected _ _ _ _ _ end.1,
      )))
      (λ p. let t = bind_some (integral o.0.1) _ _ p.1 in
      let c = bind_some (expect row.Mark (codes ">") t.0.1) _ _ t.2 in
      let n = bind_some (expect_row row.Ident c.0.1) _ _ c.2 in
      let v = bind_some (r.maybe_initializer E S n.0.1) _ _ n.2 in
      let end = bind_some (expect row.Mark (codes ";") v.0.1) _ _ v.2 in
      finish {A = WithHeight Declaration} (λ z vs. Declares z from vs) (declaration.Vector q t.0.0 n.0.0 v.0.0.0 end.0.0, v.0.0.1) d end.0.1 rest end.2
      (rw (declaration.outs-Vector q t.0.0 n.0.0 v.0.0.0 end.0.0) (
        c.0.1,
        n.0.1,
        v.0.1,
        (m, o.0.1, t.0.1, there, expects _ _ _ _ _ o.1, integral_is o.0.1 t.0.1 t.0.0 t.1, expects _ _ _ _ _ c.1),
        expect_row_is _ _ _ _ n.1,
        maybe_initializer_is n.0.1 v.0.1 v.0.0 v.1,
        expected _ _ _ _ _ end.1,
      )))
      (choice (sees_namespace (codes "sycl") o.0.1) _ _ (d, rest) p.1))
      (choice (sees_namespace (codes "std") o.0.1) _ _ (d, rest) o.2)

  standard_declaration_is : (from rest : List Token) (d : WithHeight Declaration) → r.standard_declaration E S from ≡ Some (d, rest) → Declares d from rest
  unfolding r.standard_declaration
  standard_declaration_is from rest d h =
      let p = bind_some (expect_name (codes "std") from) _ _ h in
      let there : Standard p.0.0.1.text (qualified_name p.0.0) from p.0.1 = expect_name_is (codes "std") from p.0.1 p.0.0 p.1 in
      ⊎_elim (λ q. vector_is (qualified_name p.0.0) from p.0.1 rest d (standard_name p.0.0.1.text "vector" (qualified_name p.0.0) from p.0.1 there q.0) q.1)
      (λ q. ⊎_elim (λ q. thread_is (qualified_name p.0.0) from p.0.1 rest d (standard_name p.0.0.1.text "thread" (qualified_name p.0.0) from p.0.1 there q.0) q.1)
      (λ q. absurd (let clash : None ≡ Some (d, rest) = q.1 in cc))
      (which (bytes_eq p.0.0.1.text (codes "thread")) _ _ p.0.1 (d, rest) q.1))
      (which (bytes_eq p.0.0.1.text (codes "vector")) _ _ p.0.1 (d, rest) p.2)

  declaration_stmt_is : (read : Reader (WithHeight Declaration)) (from rest : List Token) (z : WithHeight Stmt) → ((us : List Token) (d : WithHeight Declaration) → read from ≡ Some (d, us) → Declares d from us) →
      r.declaration_stmt E S read from ≡ Some (z, rest) → SimpleStands z from rest
  declaration_stmt_is read from rest z f h =
      let d = bind_some (read from) _ _ h in
      simple_built d.0.0.1 _ _ from d.0.1 rest z (t.outs-Declaration d.0.0.0) tt (f d.0.1 d.0.0 d.1) d.2

  -- ---- expressions that are evaluated by themselves

  full_parts_are : (from rest : List Token) (x : WithHeight FullExpression) → r.full_parts E S from ≡ Some (x, rest) → FullRule (Derives x.1) (out-FullExpression x.0) from rest
  unfolding r.full_parts
  full_parts_are from rest x h =
      let a = bind_some (E 1 from) _ _ h in
      by a.0.0 a.0.1 (value from a.0.1 a.0.0 a.1) (assignment_of (mark_text a.0.1)) refl a.2
    where
      by : (a : WithHeight Expr) (mid : List Token) → Derives a.1 (an_expr 1 a.0) from mid → (o : Option AssignmentOperator) → assignment_of (mark_text mid) ≡ o →
          r.assignment_rest E S a o mid ≡ Some (x, rest) → FullRule (Derives x.1) (out-FullExpression x.0) from rest
      by a mid left None is h =
          finish {A = WithHeight FullExpression} (λ z vs. FullRule (Derives z.1) (out-FullExpression z.0) from vs) (full.Plain a.0, a.1) x mid rest h (rw (full.outs-Plain a.0) left)
      by a mid left (Some o) is h =
          let s = bind_some (advance mid) _ _ h in
          let y = bind_some (E 1 s.0.1) _ _ s.2 in
          let high = max a.1 y.0.0.1 in
          finish {A = WithHeight FullExpression} (λ z vs. FullRule (Derives z.1) (out-FullExpression z.0) from vs) (full.Assignment a.0 s.0.0 o y.0.0.0, high) x y.0.1 rest y.2
          (rw (full.outs-Assignment a.0 s.0.0 o y.0.0.0)
          (mid, s.0.1, Derives-taller a.1 high (omega arith) (an_expr 1 a.0) from mid left, assignment_there o mid s.0.1 s.0.0 is s.1, value_at s.0.1 y.0.1 y.0.0 y.1 high (omega arith)))

  full_is : (from rest : List Token) (z : WithHeight FullExpression) → r.full E S from ≡ Some (z, rest) → Derives z.1 (a_full z.0) from rest
  unfolding r.full
  full_is from rest z h =
      let x = bind_some (r.full_parts E S from) _ _ h in
      (node_built a_full x.0.0.1 x.0.0.0 from x.0.1 rest z (full_parts_are from x.0.1 x.0.0 x.1) (grew _ _ _ z rest x.2)).0

  expression_is : (from rest : List Token) (z : WithHeight Stmt) → r.expression E S from ≡ Some (z, rest) → SimpleStands z from rest
  unfolding r.expression mark
  expression_is from rest z h =
      let x = bind_some (r.full_parts E S from) _ _ h in
      let end = bind_some (expect row.Mark (codes ";") x.0.1) _ _ x.2 in
      simple_built x.0.0.1 _ _ from end.0.1 rest z (t.outs-Expression x.0.0.0 end.0.0) tt (x.0.1, full_parts_are from x.0.1 x.0.0 x.1, expected _ _ _ _ _ end.1) end.2

  null_is : (from rest : List Token) (z : WithHeight Stmt) → r.null E S from ≡ Some (z, rest) → SimpleStands z from rest
  unfolding r.null mark
  null_is from rest z h =
      let s = bind_some (expect row.Mark (codes ";") from) _ _ h in
      simple_built 0 _ _ from s.0.1 rest z (t.outs-Null s.0.0) tt (expected _ _ _ _ _ s.1) s.2

  simple_is : (from rest : List Token) (z : WithHeight Stmt) → r.simple E S from ≡ Some (z, rest) → SimpleStands z from rest
  unfolding r.simple r.library_statement
  simple_is from rest z h =
      ⊎_elim (λ p. null_is from rest z p.1)
      (λ p. ⊎_elim (λ p. declaration_stmt_is (r.integers E S) from rest z (λ us d k. integers_are from us d k) p.1)
      (λ p. ⊎_elim (λ p. declaration_stmt_is (r.standard_declaration E S) from rest z (λ us d k. standard_declaration_is from us d k) p.1)
      (λ p. ⊎_elim
      (λ p. ⊎_elim (λ p. declaration_stmt_is (r.object_declaration E S) from rest z (λ us d k. object_declaration_is from us d k) p.1) (λ p. expression_is from rest z p.1)
      (choice (declares_object from) _ _ (z, rest) p.1))
      (λ p. expression_is from rest z p.1)
      (choice (sees_namespace (codes "sycl") from) _ _ (z, rest) p.1))
      (choice (sees_namespace (codes "std") from) _ _ (z, rest) p.1))
      (choice (r.declares_integers from) _ _ (z, rest) p.1))
      (choice (sees row.Mark (codes ";") from) _ _ (z, rest) h)

  -- ---- statements

  compound_is : (from rest : List Token) (z : WithHeight Stmt) → r.compound E S from ≡ Some (z, rest) → StmtStands z from rest
  unfolding r.compound
  compound_is from rest z h =
      let b = bind_some (e.one_block E S from) _ _ h in
      let d = one_block_is E S ws from b.0.1 b.0.0 b.1 in
      finish {A = WithHeight Stmt} (λ u vs. StmtStands u from vs) (t.Compound b.0.0.0, b.0.0.1) z b.0.1 rest b.2
      (block_stmt b.0.0.1 b.0.0.0 from b.0.1 d.0, d.1)

  one_print_item_is : (from rest : List Token) (x : WithHeight Printed) → r.one_print_item E S from ≡ Some (x, rest) → OnePrinted (Derives x.1) x.0 from rest
  unfolding r.one_print_item mark identifier
  one_print_item_is from rest x h =
      let s = bind_some (expect row.Mark (codes "<<") from) _ _ h in
      ⊎_elim
      (λ p. let n = bind_some (expect_row row.Str s.0.1) _ _ p.1 in
      finish {A = WithHeight Printed} (λ z vs. OnePrinted (Derives z.1) z.0 from vs) (item.Text s.0.0 n.0.0, 0) x n.0.1 rest n.2
      (rw (item.outs-Text s.0.0 n.0.0) (s.0.1, expected _ _ _ _ _ s.1, expect_row_is _ _ _ _ n.1)))
      (λ p. ⊎_elim
      (λ p. let q = bind_some (within (codes "std") (codes "endl") s.0.1) _ _ p.1 in
      finish {A = WithHeight Printed} (λ z vs. OnePrinted (Derives z.1) z.0 from vs) (item.EndLine s.0.0 q.0.0, 0) x q.0.1 rest q.2
      (rw (item.outs-EndLine s.0.0 q.0.0) (s.0.1, expected _ _ _ _ _ s.1, within_is _ _ _ _ _ q.1)))
      (λ p. let v = bind_some (E 10 s.0.1) _ _ p.1 in
      finish {A = WithHeight Printed} (λ z vs. OnePrinted (Derives z.1) z.0 from vs) (item.Operand s.0.0 v.0.0.0, v.0.0.1) x v.0.1 rest v.2
      (rw (item.outs-Operand s.0.0 v.0.0.0) (s.0.1, expected _ _ _ _ _ s.1, (we 10 s.0.1 v.0.1 v.0.0 (omega arith) (omega arith) v.1).0.0)))
      (choice (sees_namespace (codes "std") s.0.1) _ _ (x, rest) p.1))
      (choice (sees_row row.Str s.0.1) _ _ (x, rest) s.2)

  abbrev PrintedStand : List Printed → ℕ → List Token → WithHeight (List Printed) → List Token → Type 0
  PrintedStand xs h from all rest = (x : Printed) × (more : List Printed) × (h ≤ all.1) × (all.0 ≡ xs ++ (x ∷ more)) × Each (OnePrinted (Derives all.1)) (x ∷ more) from rest

  print_items_stand : (n : ℕ) (xs : List Printed) (h : ℕ) (from rest : List Token) (all : WithHeight (List Printed)) → r.print_items_from E S n xs h from ≡ Some (all, rest) → PrintedStand xs h from all rest
  unfolding r.print_items_from
  print_items_stand zero xs h from rest all d = absurd cc
  print_items_stand (suc n) xs h from rest all d =
      let x = bind_some (r.one_print_item E S from) _ _ d in
      let first = one_print_item_is from x.0.1 x.0.0 x.1 in
      ⊎_elim
      (λ p. let others = print_items_stand n (xs ++ x.0.0.0 ∷ []) (max h x.0.0.1) x.0.1 rest all p.1 in (
        x.0.0.0,
        others.0 ∷ others.1,
        omega (arith, others.2),
        others.3 ∙ append_assoc xs (x.0.0.0 ∷ []) (others.0 ∷ others.1),
        (x.0.1, printed_taller x.0.0.1 all.1 (omega (arith, others.2)) x.0.0.0 from x.0.1 first, others.4),
      ))
      (λ p. finish {A = WithHeight (List Printed)} (λ z vs. PrintedStand xs h from z vs) (xs ++ x.0.0.0 ∷ [], max h x.0.0.1) all x.0.1 rest p.1
      (x.0.0.0, [], omega arith, refl, (x.0.1, printed_taller x.0.0.1 (max h x.0.0.1) (omega arith) x.0.0.0 from x.0.1 first, refl)))
      (choice (sees row.Mark (codes "<<") x.0.1) _ _ (all, rest) x.2)

  print_is : (from rest : List Token) (z : WithHeight Stmt) → r.print E S from ≡ Some (z, rest) → StmtStands z from rest
  unfolding r.print mark identifier
  print_is from rest z h =
      let q = bind_some (within (codes "std") (codes "cout") from) _ _ h in
      let xs = bind_some (r.print_items_from E S (length q.0.1) [] 0 q.0.1) _ _ q.2 in
      let end = bind_some (expect row.Mark (codes ";") xs.0.1) _ _ xs.2 in
      let all = print_items_stand (length q.0.1) [] 0 q.0.1 xs.0.1 xs.0.0 xs.1 in
      let each = subst (λ ys. OneOrMore (OnePrinted (Derives xs.0.0.1)) ys q.0.1 xs.0.1) (sym all.3) all.4 in
      stmt_built xs.0.0.1 _ _ from end.0.1 rest z (t.outs-Print q.0.0 xs.0.0.0 end.0.0) (q.0.1, xs.0.1, within_is _ _ _ _ _ q.1, each, expected _ _ _ _ _ end.1) end.2

  break_is : (from rest : List Token) (z : WithHeight Stmt) → r.break_loop E S from ≡ Some (z, rest) → StmtStands z from rest
  unfolding r.break_loop mark keyword
  break_is from rest z h =
      let s = bind_some (expect row.Reserved (codes "break") from) _ _ h in
      let end = bind_some (expect row.Mark (codes ";") s.0.1) _ _ s.2 in
      stmt_built 0 _ _ from end.0.1 rest z (t.outs-Break s.0.0 end.0.0) (s.0.1, expected _ _ _ _ _ s.1, expected _ _ _ _ _ end.1) end.2

  continue_is : (from rest : List Token) (z : WithHeight Stmt) → r.continue_loop E S from ≡ Some (z, rest) → StmtStands z from rest
  unfolding r.continue_loop mark keyword
  continue_is from rest z h =
      let s = bind_some (expect row.Reserved (codes "continue") from) _ _ h in
      let end = bind_some (expect row.Mark (codes ";") s.0.1) _ _ s.2 in
      stmt_built 0 _ _ from end.0.1 rest z (t.outs-Continue s.0.0 end.0.0) (s.0.1, expected _ _ _ _ _ s.1, expected _ _ _ _ _ end.1) end.2

  maybe_expr_is : (from rest : List Token) (x : WithHeight (Option Expr)) → r.maybe_expr E S from ≡ Some (x, rest) → Optional (AnyExpr (Derives x.1)) x.0 from rest
  unfolding r.maybe_expr
  maybe_expr_is from rest x h =
      ⊎_elim (λ p. finish {A = WithHeight (Option Expr)} (λ z vs. Optional (AnyExpr (Derives z.1)) z.0 from vs) (None, 0) x from rest p.1 refl)
      (λ p. let v = bind_some (E 1 from) _ _ p.1 in
      finish {A = WithHeight (Option Expr)} (λ z vs. Optional (AnyExpr (Derives z.1)) z.0 from vs) (Some v.0.0.0, v.0.0.1) x v.0.1 rest v.2 (value from v.0.1 v.0.0 v.1))
      (choice (sees row.Mark (codes ";") from) _ _ (x, rest) h)

  maybe_full_is : (from rest : List Token) (x : WithHeight (Option FullExpression)) → r.maybe_full E S from ≡ Some (x, rest) → Optional (AnyFull (Derives x.1)) x.0 from rest
  unfolding r.maybe_full
  maybe_full_is from rest x h =
      ⊎_elim (λ p. finish {A = WithHeight (Option FullExpression)} (λ z vs. Optional (AnyFull (Derives z.1)) z.0 from vs) (None, 0) x from rest p.1 refl)
      (λ p. let v = bind_some (r.full E S from) _ _ p.1 in
      finish {A = WithHeight (Option FullExpression)} (λ z vs. Optional (AnyFull (Derives z.1)) z.0 from vs) (Some v.0.0.0, v.0.0.1) x v.0.1 rest v.2 (full_is from v.0.1 v.0.0 v.1))
      (choice (sees row.Mark (codes ")") from) _ _ (x, rest) h)

  return_is : (from rest : List Token) (z : WithHeight Stmt) → r.return_value E S from ≡ Some (z, rest) → StmtStands z from rest
  unfolding r.return_value mark keyword
  return_is from rest z h =
      let s = bind_some (expect row.Reserved (codes "return") from) _ _ h in
      let x = bind_some (r.maybe_expr E S s.0.1) _ _ s.2 in
      let end = bind_some (expect row.Mark (codes ";") x.0.1) _ _ x.2 in
      stmt_built x.0.0.1 _ _ from end.0.1 rest z (t.outs-Return s.0.0 x.0.0.0 end.0.0)
      (s.0.1, x.0.1, expected _ _ _ _ _ s.1, maybe_expr_is s.0.1 x.0.1 x.0.0 x.1, expected _ _ _ _ _ end.1) end.2

  condition_is : (from rest : List Token) (c : WithHeight Expr) → r.condition E S from ≡ Some (c, rest) → (m : ℕ) → c.1 ≤ m → InParentheses (Derives m) c.0 from rest
  unfolding r.condition mark
  condition_is from rest c h m le =
      let o = bind_some (expect row.Mark (codes "(") from) _ _ h in
      let x = bind_some (E 1 o.0.1) _ _ o.2 in
      let d = bind_some (expect row.Mark (codes ")") x.0.1) _ _ x.2 in
      let same = one {Y = WithHeight Expr × List Token} (x.0.0, d.0.1) (c, rest) d.2 in
      let top : x.0.0.1 ≤ m = omega (arith, le, ap (λ p. p.0.1) same) in
      subst (λ q. InParentheses (Derives m) q.0.0 from q.1) same
      (o.0.1, x.0.1, expects _ _ _ _ _ o.1, value_at o.0.1 x.0.1 x.0.0 x.1 m top, expects _ _ _ _ _ d.1)

  branch_is : (from rest : List Token) (z : WithHeight Stmt) → r.branch E S from ≡ Some (z, rest) → StmtStands z from rest
  unfolding r.branch r.else_branch keyword after
  branch_is from rest z h =
      let s = bind_some (expect row.Reserved (codes "if") from) _ _ h in
      let c = bind_some (r.condition E S s.0.1) _ _ s.2 in
      let a = bind_some (S c.0.1) _ _ c.2 in
      by s.0.0 c.0.0 a.0.0 s.0.1 c.0.1 a.0.1 (expected _ _ _ _ _ s.1) (condition_is s.0.1 c.0.1 c.0.0 c.1) (stmt_at c.0.1 a.0.1 a.0.0 a.1) (sees row.Reserved (codes "else") a.0.1) refl a.2
    where
      by : (s : Spot) (c : WithHeight Expr) (a : WithHeight Stmt) (m k mid : List Token) → At (word row.Reserved (codes "if")) s from m →
          ((n : ℕ) → c.1 ≤ n → InParentheses (Derives n) c.0 m k) → ((n : ℕ) → a.1 ≤ n → Derives n (a_stmt a.0) k mid) →
          (b : Bool) → sees row.Reserved (codes "else") mid ≡ b →
          (if b then (S >>= (λ y. check_height (t.If s c.0 a.0 (Some y.0)) (max c.1 (max a.1 y.1)))) else check_height (t.If s c.0 a.0 None) (max c.1 a.1)) (if b then next mid else mid) ≡ Some (z, rest) →
          StmtStands z from rest
      by s c a m k mid at test taken true is h =
          let y = bind_some (S (next mid)) _ _ h in
          let high = max c.1 (max a.1 y.0.0.1) in
          stmt_built high _ _ from y.0.1 rest z (t.outs-If s c.0 a.0 (Some y.0.0.0))
          (m, k, mid, next mid, at, test high (omega arith), taken high (omega arith), seen row.Reserved (codes "else") mid is, stmt_at (next mid) y.0.1 y.0.0 y.1 high (omega arith)) y.2
      by s c a m k mid at test taken false is h =
          let high = max c.1 a.1 in
          stmt_built high _ _ from mid rest z (t.outs-If s c.0 a.0 None) (m, k, at, test high (omega arith), taken high (omega arith), λ us there. unseen mid us is there) h

  while_is : (from rest : List Token) (z : WithHeight Stmt) → r.while_loop E S from ≡ Some (z, rest) → StmtStands z from rest
  unfolding r.while_loop keyword
  while_is from rest z h =
      let s = bind_some (expect row.Reserved (codes "while") from) _ _ h in
      let c = bind_some (r.condition E S s.0.1) _ _ s.2 in
      let a = bind_some (S c.0.1) _ _ c.2 in
      let high = max c.0.0.1 a.0.0.1 in
      stmt_built high _ _ from a.0.1 rest z (t.outs-While s.0.0 c.0.0.0 a.0.0.0)
      (s.0.1, c.0.1, expected _ _ _ _ _ s.1, condition_is s.0.1 c.0.1 c.0.0 c.1 high (omega arith), stmt_at c.0.1 a.0.1 a.0.0 a.1 high (omega arith)) a.2

  do_is : (from rest : List Token) (z : WithHeight Stmt) → r.do_loop E S from ≡ Some (z, rest) → StmtStands z from rest
  unfolding r.do_loop keyword mark
  do_is from rest z h =
      let s = bind_some (expect row.Reserved (codes "do") from) _ _ h in
      let a = bind_some (S s.0.1) _ _ s.2 in
      let w = bind_some (expect row.Reserved (codes "while") a.0.1) _ _ a.2 in
      let c = bind_some (r.condition E S w.0.1) _ _ w.2 in
      let end = bind_some (expect row.Mark (codes ";") c.0.1) _ _ c.2 in
      let high = max a.0.0.1 c.0.0.1 in
      stmt_built high _ _ from end.0.1 rest z (t.outs-Do s.0.0 a.0.0.0 c.0.0.0 end.0.0) (
        s.0.1,
        a.0.1,
        w.0.1,
        c.0.1,
        expected _ _ _ _ _ s.1,
        stmt_at s.0.1 a.0.1 a.0.0 a.1 high (omega arith),
        expects _ _ _ _ _ w.1,
        condition_is w.0.1 c.0.1 c.0.0 c.1 high (omega arith),
        expected _ _ _ _ _ end.1,
      ) end.2

  plain_for_is : (s : Spot) (from m k rest : List Token) (z : WithHeight Stmt) → At (keyword "for") s from m → Sees (mark "(") m k → r.plain_for E S s k ≡ Some (z, rest) → StmtStands z from rest
  unfolding r.plain_for mark
  plain_for_is s from m k rest z at open_ h =
      let a = bind_some (r.simple E S k) _ _ h in
      let c = bind_some (r.maybe_expr E S a.0.1) _ _ a.2 in
      let d = bind_some (expect row.Mark (codes ";") c.0.1) _ _ c.2 in
      let b = bind_some (r.maybe_full E S d.0.1) _ _ d.2 in
      let g = bind_some (expect row.Mark (codes ")") b.0.1) _ _ b.2 in
      let x = bind_some (S g.0.1) _ _ g.2 in
      let high = max (max a.0.0.1 c.0.0.1) (max b.0.0.1 x.0.0.1) in
      let init = simple_is k a.0.1 a.0.0 a.1 in
      let low_c : c.0.0.1 ≤ high = omega arith in
      let low_b : b.0.0.1 ≤ high = omega arith in
      let test = Optional-map (AnyExpr (Derives c.0.0.1)) (AnyExpr (Derives high)) (λ v us ts k. Derives-taller c.0.0.1 high low_c (an_expr 1 v) us ts k) c.0.0.0 a.0.1 c.0.1 (maybe_expr_is a.0.1 c.0.1 c.0.0 c.1) in
      let last = Optional-map (AnyFull (Derives b.0.0.1)) (AnyFull (Derives high)) (λ v us ts k. Derives-taller b.0.0.1 high low_b (a_full v) us ts k) b.0.0.0 d.0.1 b.0.1 (maybe_full_is d.0.1 b.0.1 b.0.0 b.1) in
      stmt_built high _ _ from x.0.1 rest z (t.outs-For s a.0.0.0 c.0.0.0 b.0.0.0 x.0.0.0) (
        m,
        k,
        a.0.1,
        c.0.1,
        d.0.1,
        b.0.1,
        g.0.1,
        at,
        open_,
        (init.0, Derives-taller a.0.0.1 high (omega arith) (a_stmt a.0.0.0) k a.0.1 init.1.0),
        test,
        expects _ _ _ _ _ d.1,
        last,
        expects _ _ _ _ _ g.1,
        stmt_at g.0.1 x.0.1 x.0.0 x.1 high (omega arith),
      ) x.2

  range_for_is : (s : Spot) (header : r.RangeHeader) (from m k after_header rest : List Token) (z : WithHeight Stmt) → At (keyword "for") s from m → Sees (mark "(") m k →
      r.range_header k ≡ Some (header, after_header) → r.range_for E S s header after_header ≡ Some (z, rest) → StmtStands z from rest
  unfolding r.range_header r.range_for mark keyword
  range_for_is s header from m k after_header rest z at open_ head h =
      let ty = bind_some (type_specifier (after row.Reserved (codes "const") k)) _ _ head in
      let n = bind_some (expect_row row.Ident (after row.Mark (codes "&") ty.0.1)) _ _ ty.2 in
      let c = bind_some (expect row.Mark (codes ":") n.0.1) _ _ n.2 in
      let same = one {Y = r.RangeHeader × List Token} (((sees row.Reserved (codes "const") k, ty.0.0), (sees row.Mark (codes "&") ty.0.1, n.0.0)), c.0.1) (header, after_header) c.2 in
      let y = bind_some (expect_row row.Ident after_header) _ _ h in
      let d = bind_some (expect row.Mark (codes ")") y.0.1) _ _ y.2 in
      let x = bind_some (S d.0.1) _ _ d.2 in
      let tail_ = subst (λ us. Sees (mark ":") n.0.1 us) (ap (λ p. p.1) same) (expects _ _ _ _ _ c.1) in
      let built = subst (λ q. (i j p u v : List Token) × Maybe (keyword "const") q.0.0 k i × TypeSpecified q.0.1 i j × Maybe (mark "&") q.1.0 j p × Identifier q.1.1 p u × Sees (mark ":") u v × (v ≡ after_header))
      (ap (λ p. p.0) same) (
        after row.Reserved (codes "const") k,
        ty.0.1,
        after row.Mark (codes "&") ty.0.1,
        n.0.1,
        after_header,
        eaten row.Reserved (codes "const") k,
        type_specifier_is _ _ _ ty.1,
        eaten row.Mark (codes "&") ty.0.1,
        expect_row_is _ _ _ _ n.1,
        tail_,
        refl,
      ) in
      stmt_built x.0.0.1 _ _ from x.0.1 rest z (t.outs-RangeFor s header.0.0 header.0.1 header.1.0 header.1.1 y.0.0 x.0.0.0) (
        m,
        k,
        built.0,
        built.1,
        built.2,
        built.3,
        built.4,
        d.0.1,
        at,
        open_,
        built.5,
        built.6,
        built.7,
        built.8,
        built.9,
        (y.0.1, subst (λ us. Identifier y.0.0 us y.0.1) (sym built.10) (expect_row_is _ _ _ _ y.1), expects _ _ _ _ _ d.1, (ws d.0.1 x.0.1 x.0.0 x.1).0),
      ) x.2

  for_is : (from rest : List Token) (z : WithHeight Stmt) → r.for_loop E S from ≡ Some (z, rest) → StmtStands z from rest
  unfolding r.for_loop r.maybe_range_header mark keyword
  for_is from rest z h =
      let s = bind_some (expect row.Reserved (codes "for") from) _ _ h in
      let o = bind_some (expect row.Mark (codes "(") s.0.1) _ _ s.2 in
      by s.0.0 s.0.1 o.0.1 (expected _ _ _ _ _ s.1) (expects _ _ _ _ _ o.1) (r.range_header o.0.1) refl o.2
    where
      by : (s : Spot) (m k : List Token) → At (word row.Reserved (codes "for")) s from m → Sees (word row.Mark (codes "(")) m k → (o : Option (r.RangeHeader × List Token)) → r.range_header k ≡ o →
          and_then (r.attempt_of k o) (λ h. r.for_by E S s h) ≡ Some (z, rest) → StmtStands z from rest
      by s m k at open_ None is h = plain_for_is s from m k rest z at open_ h
      by s m k at open_ (Some p) is h = range_for_is s p.0 from m k p.1 rest z at open_ is h

  try_is : (from rest : List Token) (z : WithHeight Stmt) → r.try_block E S from ≡ Some (z, rest) → StmtStands z from rest
  unfolding r.try_block r.handler mark keyword identifier
  try_is from rest z h =
      let s = bind_some (expect row.Reserved (codes "try") from) _ _ h in
      let b = bind_some (e.one_block E S s.0.1) _ _ s.2 in
      let x = bind_some (r.handler E S b.0.1) _ _ b.2 in
      let c = bind_some (e.one_block E S x.0.1) _ _ x.2 in
      let k = bind_some (expect row.Reserved (codes "catch") b.0.1) _ _ x.1 in
      let o = bind_some (expect row.Mark (codes "(") k.0.1) _ _ k.2 in
      let f = bind_some (expect row.Reserved (codes "const") o.0.1) _ _ o.2 in
      let q = bind_some (within (codes "sycl") (codes "exception") f.0.1) _ _ f.2 in
      let a = bind_some (expect row.Mark (codes "&") q.0.1) _ _ q.2 in
      let n = bind_some (expect_row row.Ident a.0.1) _ _ a.2 in
      let d = bind_some (expect row.Mark (codes ")") n.0.1) _ _ n.2 in
      let same = one {Y = Lexeme × List Token} (n.0.0, d.0.1) (x.0.0, x.0.1) d.2 in
      let high = max b.0.0.1 c.0.0.1 in
      let first = one_block_is E S ws s.0.1 b.0.1 b.0.0 b.1 in
      let second = one_block_is E S ws x.0.1 c.0.1 c.0.0 c.1 in
      stmt_built high _ _ from c.0.1 rest z (t.outs-Try s.0.0 b.0.0.0 x.0.0 c.0.0.0) (
        s.0.1,
        b.0.1,
        k.0.1,
        o.0.1,
        f.0.1,
        q.0.1,
        a.0.1,
        x.0.1,
        q.0.0,
        expected _ _ _ _ _ s.1,
        Derives-taller b.0.0.1 high (omega arith) (a_block b.0.0.0) s.0.1 b.0.1 first.0,
        expects _ _ _ _ _ k.1,
        expects _ _ _ _ _ o.1,
        expects _ _ _ _ _ f.1,
        within_is _ _ _ _ _ q.1,
        expects _ _ _ _ _ a.1,
        (
          n.0.1,
          subst (λ y. Identifier y a.0.1 n.0.1) (ap (λ p. p.0) same) (expect_row_is _ _ _ _ n.1),
          subst (λ us. Sees (mark ")") n.0.1 us) (ap (λ p. p.1) same) (expects _ _ _ _ _ d.1),
          Derives-taller c.0.0.1 high (omega arith) (a_block c.0.0.0) x.0.1 c.0.1 second.0,
        ),
      ) c.2

  loop_or_try_is : (from rest : List Token) (z : WithHeight Stmt) → r.loop_or_try E S from ≡ Some (z, rest) → StmtStands z from rest
  unfolding r.loop_or_try
  loop_or_try_is from rest z h =
      ⊎_elim (λ p. while_is from rest z p.1)
      (λ p. ⊎_elim (λ p. do_is from rest z p.1)
      (λ p. ⊎_elim (λ p. for_is from rest z p.1)
      (λ p. ⊎_elim (λ p. try_is from rest z p.1) (λ p. (simple_is from rest z p.1).1)
      (choice (sees row.Reserved (codes "try") from) _ _ (z, rest) p.1))
      (choice (sees row.Reserved (codes "for") from) _ _ (z, rest) p.1))
      (choice (sees row.Reserved (codes "do") from) _ _ (z, rest) p.1))
      (choice (sees row.Reserved (codes "while") from) _ _ (z, rest) h)

  reserved_stmt_is : (from rest : List Token) (z : WithHeight Stmt) → r.reserved_stmt E S from ≡ Some (z, rest) → StmtStands z from rest
  unfolding r.reserved_stmt
  reserved_stmt_is from rest z h =
      ⊎_elim (λ p. branch_is from rest z p.1)
      (λ p. ⊎_elim (λ p. break_is from rest z p.1)
      (λ p. ⊎_elim (λ p. continue_is from rest z p.1)
      (λ p. ⊎_elim (λ p. return_is from rest z p.1) (λ p. loop_or_try_is from rest z p.1)
      (choice (sees row.Reserved (codes "return") from) _ _ (z, rest) p.1))
      (choice (sees row.Reserved (codes "continue") from) _ _ (z, rest) p.1))
      (choice (sees row.Reserved (codes "break") from) _ _ (z, rest) p.1))
      (choice (sees row.Reserved (codes "if") from) _ _ (z, rest) h)

  pub one_stmt_is : (from rest : List Token) (z : WithHeight Stmt) → r.one_stmt E S from ≡ Some (z, rest) → StmtStands z from rest
  unfolding r.one_stmt
  one_stmt_is from rest z h =
      ⊎_elim (λ p. compound_is from rest z p.1)
      (λ p. ⊎_elim (λ p. reserved_stmt_is from rest z p.1)
      (λ p. ⊎_elim (λ p. print_is from rest z p.1) (λ p. (simple_is from rest z p.1).1)
      (choice (r.sees_print from) _ _ (z, rest) p.1))
      (choice (sees_row row.Reserved from) _ _ (z, rest) p.1))
      (choice (sees row.Mark (codes "{") from) _ _ (z, rest) h)
