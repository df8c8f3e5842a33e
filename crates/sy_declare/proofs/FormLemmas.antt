-- What declarations, full expressions, printed items and what they hold are looked at as, form by form.
use Rattle.std.proofs.Common.{◌≡◌, List, Option, Some, None, ap, map, sym, ◌∙◌}
use Rattle.sy_declare.specs.Trees.{declaration, full, initializer_of, maybe_initializer, printed}
use Rattle.sy_note.specs.declared.Spot.{Spot}
use Rattle.sy_rules.specs.Walk.{Ar, De, Dr, Ex, Fu, In, Pr, St, Bl, La, argument_step, declaration_step, declarator_step, expr_step, full_step, initializer_step, printed_step, stmt_step, block_step, lambda_step, declarator_of, expr}
use Rattle.sy_tree.specs.declared.operators.AssignmentOperator.{AssignmentOperator}
use Rattle.sy_tree.specs.declared.parts.Brackets.{Brackets}
use Rattle.sy_tree.specs.declared.parts.ConstSpecifier.{ConstSpecifier}
use Rattle.sy_tree.specs.declared.parts.IntegerType.{IntegerType}
use Rattle.sy_tree.specs.declared.parts.Lexeme.{Lexeme}
use Rattle.sy_tree.specs.declared.parts.ObjectType.{ObjectType}
use Rattle.sy_tree.specs.declared.parts.Qualified.{Qualified}
use Rattle.sy_tree.specs.declared.parts.TypeSpecifier.{TypeSpecifier}
use Rattle.sy_tree.specs.declared.tree.Argument.{Argument}
use Rattle.sy_tree.specs.declared.tree.Argument.TheOpen.{Declaration-F, Declarator-F, FullExpression-F, Initializer-F, Printed-F}
use Rattle.sy_tree.specs.declared.tree.Declaration.{Declaration, fold-roll-Declaration}
use Rattle.sy_tree.specs.declared.tree.Declaration.TheVariants as declarations
use Rattle.sy_tree.specs.declared.tree.Declarator.{Declarator, fold-roll-Declarator}
use Rattle.sy_tree.specs.declared.tree.Declarator.TheVariants as declarators
use Rattle.sy_tree.specs.declared.tree.FullExpression.{FullExpression, fold-roll-FullExpression}
use Rattle.sy_tree.specs.declared.tree.FullExpression.TheVariants as fulls
use Rattle.sy_tree.specs.declared.tree.Initializer.{Initializer, fold-roll-Initializer}
use Rattle.sy_tree.specs.declared.tree.Initializer.TheVariants as initializers
use Rattle.sy_tree.specs.declared.tree.Printed.{Printed, fold-roll-Printed}
use Rattle.sy_tree.specs.declared.tree.Printed.TheVariants as items
use Rattle.sy_tree.specs.declared.tree.Expr.{Expr}
use Rattle.sy_tree.specs.declared.tree.Lambda.{Lambda}
use Rattle.sy_walk.specs.Trees.{argument, lambda}

-- ---- full expressions

pub full_Plain : (a : Expr) → full (fulls.Plain a) ≡ full_step (FullExpression-F.Plain (expr a))
full_Plain a = ap full (sym (fulls.rolls-Plain a)) ∙ fold-roll-FullExpression Ar De Dr Ex Fu In Pr St Bl La argument_step declaration_step declarator_step expr_step full_step initializer_step printed_step stmt_step block_step lambda_step (FullExpression-F.Plain a)

pub full_Assignment : (t : Expr) (s : Spot) (op : AssignmentOperator) (v : Expr) → full (fulls.Assignment t s op v) ≡ full_step (FullExpression-F.Assignment (expr t) s op (expr v))
full_Assignment t s op v = ap full (sym (fulls.rolls-Assignment t s op v)) ∙ fold-roll-FullExpression Ar De Dr Ex Fu In Pr St Bl La argument_step declaration_step declarator_step expr_step full_step initializer_step printed_step stmt_step block_step lambda_step (FullExpression-F.Assignment t s op v)

-- ---- declarators and initializers, which are looked at by what holds them

pub declarator_Uninitialized : (x : Lexeme) → declarator_of (declarators.Uninitialized x) ≡ Declarator-F.Uninitialized x
declarator_Uninitialized x = ap declarator_of (sym (declarators.rolls-Uninitialized x)) ∙ fold-roll-Declarator Ar De Dr Ex Fu In Pr St Bl La argument_step declaration_step declarator_step expr_step full_step initializer_step printed_step stmt_step block_step lambda_step (Declarator-F.Uninitialized x)

pub declarator_Equal : (x : Lexeme) (s : Spot) (a : Expr) → declarator_of (declarators.Equal x s a) ≡ Declarator-F.Equal x s (expr a)
declarator_Equal x s a = ap declarator_of (sym (declarators.rolls-Equal x s a)) ∙ fold-roll-Declarator Ar De Dr Ex Fu In Pr St Bl La argument_step declaration_step declarator_step expr_step full_step initializer_step printed_step stmt_step block_step lambda_step (Declarator-F.Equal x s a)

pub declarator_Bracketed : (x : Lexeme) (b : Brackets) (s : Spot) (a : Expr) (e : Spot) → declarator_of (declarators.Bracketed x b s a e) ≡ Declarator-F.Bracketed x b s (expr a) e
declarator_Bracketed x b s a e = ap declarator_of (sym (declarators.rolls-Bracketed x b s a e)) ∙ fold-roll-Declarator Ar De Dr Ex Fu In Pr St Bl La argument_step declaration_step declarator_step expr_step full_step initializer_step printed_step stmt_step block_step lambda_step (Declarator-F.Bracketed x b s a e)

pub initializer_Copy : (s : Spot) (a : Expr) → initializer_of (initializers.Copy s a) ≡ Initializer-F.Copy s (expr a)
initializer_Copy s a = ap initializer_of (sym (initializers.rolls-Copy s a)) ∙ fold-roll-Initializer Ar De Dr Ex Fu In Pr St Bl La argument_step declaration_step declarator_step expr_step full_step initializer_step printed_step stmt_step block_step lambda_step (Initializer-F.Copy s a)

pub initializer_Direct : (b : Brackets) (s : Spot) (xs : List Argument) (e : Spot) → initializer_of (initializers.Direct b s xs e) ≡ Initializer-F.Direct b s (map argument xs) e
initializer_Direct b s xs e = ap initializer_of (sym (initializers.rolls-Direct b s xs e)) ∙ fold-roll-Initializer Ar De Dr Ex Fu In Pr St Bl La argument_step declaration_step declarator_step expr_step full_step initializer_step printed_step stmt_step block_step lambda_step (Initializer-F.Direct b s xs e)

-- ---- declarations

pub declaration_Integers : (c : Option ConstSpecifier) (t : TypeSpecifier) (xs : List Declarator) (e : Spot) → declaration (declarations.Integers c t xs e) ≡ declaration_step (Declaration-F.Integers c t (map declarator_of xs) e)
declaration_Integers c t xs e = ap declaration (sym (declarations.rolls-Integers c t xs e)) ∙ fold-roll-Declaration Ar De Dr Ex Fu In Pr St Bl La argument_step declaration_step declarator_step expr_step full_step initializer_step printed_step stmt_step block_step lambda_step (Declaration-F.Integers c t xs e)

pub declaration_Vector : (q : Qualified) (t : IntegerType) (x : Lexeme) (i : Option Initializer) (e : Spot) → declaration (declarations.Vector q t x i e) ≡ declaration_step (Declaration-F.Vector q t x (maybe_initializer i) e)
declaration_Vector q t x None e = ap declaration (sym (declarations.rolls-Vector q t x None e)) ∙ fold-roll-Declaration Ar De Dr Ex Fu In Pr St Bl La argument_step declaration_step declarator_step expr_step full_step initializer_step printed_step stmt_step block_step lambda_step (Declaration-F.Vector q t x None e)
declaration_Vector q t x (Some i) e = ap declaration (sym (declarations.rolls-Vector q t x (Some i) e)) ∙ fold-roll-Declaration Ar De Dr Ex Fu In Pr St Bl La argument_step declaration_step declarator_step expr_step full_step initializer_step printed_step stmt_step block_step lambda_step (Declaration-F.Vector q t x (Some i) e)

pub declaration_DeviceVector : (q : Qualified) (x : Lexeme) (i : Option Initializer) (e : Spot) → declaration (declarations.DeviceVector q x i e) ≡ declaration_step (Declaration-F.DeviceVector q x (maybe_initializer i) e)
declaration_DeviceVector q x None e = ap declaration (sym (declarations.rolls-DeviceVector q x None e)) ∙ fold-roll-Declaration Ar De Dr Ex Fu In Pr St Bl La argument_step declaration_step declarator_step expr_step full_step initializer_step printed_step stmt_step block_step lambda_step (Declaration-F.DeviceVector q x None e)
declaration_DeviceVector q x (Some i) e = ap declaration (sym (declarations.rolls-DeviceVector q x (Some i) e)) ∙ fold-roll-Declaration Ar De Dr Ex Fu In Pr St Bl La argument_step declaration_step declarator_step expr_step full_step initializer_step printed_step stmt_step block_step lambda_step (Declaration-F.DeviceVector q x (Some i) e)

pub declaration_ThreadVector : (q : Qualified) (x : Lexeme) (e : Spot) → declaration (declarations.ThreadVector q x e) ≡ declaration_step (Declaration-F.ThreadVector q x e)
declaration_ThreadVector q x e = ap declaration (sym (declarations.rolls-ThreadVector q x e)) ∙ fold-roll-Declaration Ar De Dr Ex Fu In Pr St Bl La argument_step declaration_step declarator_step expr_step full_step initializer_step printed_step stmt_step block_step lambda_step (Declaration-F.ThreadVector q x e)

pub declaration_Thread : (q : Qualified) (x : Lexeme) (b : Brackets) (l : Lambda) (e : Spot) → declaration (declarations.Thread q x b l e) ≡ declaration_step (Declaration-F.Thread q x b (lambda l) e)
declaration_Thread q x b l e = ap declaration (sym (declarations.rolls-Thread q x b l e)) ∙ fold-roll-Declaration Ar De Dr Ex Fu In Pr St Bl La argument_step declaration_step declarator_step expr_step full_step initializer_step printed_step stmt_step block_step lambda_step (Declaration-F.Thread q x b l e)

pub declaration_Object : (t : ObjectType) (x : Lexeme) (i : Option Initializer) (e : Spot) → declaration (declarations.Object t x i e) ≡ declaration_step (Declaration-F.Object t x (maybe_initializer i) e)
declaration_Object t x None e = ap declaration (sym (declarations.rolls-Object t x None e)) ∙ fold-roll-Declaration Ar De Dr Ex Fu In Pr St Bl La argument_step declaration_step declarator_step expr_step full_step initializer_step printed_step stmt_step block_step lambda_step (Declaration-F.Object t x None e)
declaration_Object t x (Some i) e = ap declaration (sym (declarations.rolls-Object t x (Some i) e)) ∙ fold-roll-Declaration Ar De Dr Ex Fu In Pr St Bl La argument_step declaration_step declarator_step expr_step full_step initializer_step printed_step stmt_step block_step lambda_step (Declaration-F.Object t x (Some i) e)

-- ---- printed items

pub printed_Operand : (s : Spot) (a : Expr) → printed (items.Operand s a) ≡ printed_step (Printed-F.Operand s (expr a))
printed_Operand s a = ap printed (sym (items.rolls-Operand s a)) ∙ fold-roll-Printed Ar De Dr Ex Fu In Pr St Bl La argument_step declaration_step declarator_step expr_step full_step initializer_step printed_step stmt_step block_step lambda_step (Printed-F.Operand s a)

pub printed_Text : (s : Spot) (x : Lexeme) → printed (items.Text s x) ≡ printed_step (Printed-F.Text s x)
printed_Text s x = ap printed (sym (items.rolls-Text s x)) ∙ fold-roll-Printed Ar De Dr Ex Fu In Pr St Bl La argument_step declaration_step declarator_step expr_step full_step initializer_step printed_step stmt_step block_step lambda_step (Printed-F.Text s x)

pub printed_EndLine : (s : Spot) (q : Qualified) → printed (items.EndLine s q) ≡ printed_step (Printed-F.EndLine s q)
printed_EndLine s q = ap printed (sym (items.rolls-EndLine s q)) ∙ fold-roll-Printed Ar De Dr Ex Fu In Pr St Bl La argument_step declaration_step declarator_step expr_step full_step initializer_step printed_step stmt_step block_step lambda_step (Printed-F.EndLine s q)
