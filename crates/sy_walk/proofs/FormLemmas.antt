-- What an expression is looked at as, form by form: the definition's fold, at each variant of the tree.
use Rattle.std.proofs.Common.{◌≡◌, Bool, List, map, Option, ap, sym, ◌∙◌}
use Rattle.std.specs.Prelude.{Result}
use Rattle.sy_looks.proofs.LookLemmas.{looked_as}
use Rattle.sy_looks.specs.Looked.{Looked, looked}
use Rattle.sy_looks.specs.declared.walk.Walk.{Walk}
use Rattle.sy_note.specs.declared.Spot.{Spot}
use Rattle.sy_num.specs.declared.UnOp.{UnOp}
use Rattle.sy_rules.specs.declared.seen.Seen.{Seen}
use Rattle.sy_rules.specs.Walk.{Ar, De, Dr, Ex, Fu, In, Pr, St, Bl, La, argument_step, declaration_step, declarator_step, expr, expr_step, full_step, initializer_step, printed_step, stmt_step, block_step, lambda_step}
use Rattle.sy_tree.specs.declared.operators.Operator.{Operator}
use Rattle.sy_tree.specs.declared.parts.AccessTag.{AccessTag}
use Rattle.sy_tree.specs.declared.parts.Brackets.{Brackets}
use Rattle.sy_tree.specs.declared.parts.FunctionObject.{FunctionObject}
use Rattle.sy_tree.specs.declared.parts.IntegerType.{IntegerType}
use Rattle.sy_tree.specs.declared.parts.Lexeme.{Lexeme}
use Rattle.sy_tree.specs.declared.parts.LibraryFunction.{LibraryFunction}
use Rattle.sy_tree.specs.declared.parts.ObjectType.{ObjectType}
use Rattle.sy_tree.specs.declared.parts.Qualified.{Qualified}
use Rattle.sy_tree.specs.declared.parts.Step.{Step}
use Rattle.sy_tree.specs.declared.parts.TemplateArgument.{TemplateArgument}
use Rattle.sy_tree.specs.declared.tree.Argument.{Argument}
use Rattle.sy_tree.specs.declared.tree.Argument.TheOpen.{Expr-F}
use Rattle.sy_tree.specs.declared.tree.Expr.{Expr, fold-roll-Expr}
use Rattle.sy_tree.specs.declared.tree.Expr.TheVariants as the
use Rattle.sy_typed.specs.declared.tree.Typed.{Typed}
use Rattle.sy_walk.specs.Trees.{argument}

integer_is : (x : Lexeme) → expr (the.Integer x) ≡ expr_step (Expr-F.Integer x)
integer_is x = ap expr (sym (the.rolls-Integer x)) ∙ fold-roll-Expr Ar De Dr Ex Fu In Pr St Bl La argument_step declaration_step declarator_step expr_step full_step initializer_step printed_step stmt_step block_step lambda_step (Expr-F.Integer x)

pub integer_looked : (e : Expr) (x : Lexeme) (w m : Walk) (p : Seen × Typed) →
    e ≡ the.Integer x → (p, m) ≡ looked (expr_step (Expr-F.Integer x)) w → (p, m) ≡ looked (expr e) w
integer_looked e x w m p is h = h ∙ ap (λ l. looked l w) (sym (ap expr is ∙ integer_is x))

character_is : (x : Lexeme) → expr (the.Character x) ≡ expr_step (Expr-F.Character x)
character_is x = ap expr (sym (the.rolls-Character x)) ∙ fold-roll-Expr Ar De Dr Ex Fu In Pr St Bl La argument_step declaration_step declarator_step expr_step full_step initializer_step printed_step stmt_step block_step lambda_step (Expr-F.Character x)

pub character_looked : (e : Expr) (x : Lexeme) (w m : Walk) (p : Seen × Typed) →
    e ≡ the.Character x → (p, m) ≡ looked (expr_step (Expr-F.Character x)) w → (p, m) ≡ looked (expr e) w
character_looked e x w m p is h = h ∙ ap (λ l. looked l w) (sym (ap expr is ∙ character_is x))

boolean_is : (s : Spot) (b : Bool) → expr (the.Boolean s b) ≡ expr_step (Expr-F.Boolean s b)
boolean_is s b = ap expr (sym (the.rolls-Boolean s b)) ∙ fold-roll-Expr Ar De Dr Ex Fu In Pr St Bl La argument_step declaration_step declarator_step expr_step full_step initializer_step printed_step stmt_step block_step lambda_step (Expr-F.Boolean s b)

pub boolean_looked : (e : Expr) (s : Spot) (b : Bool) (w m : Walk) (p : Seen × Typed) →
    e ≡ the.Boolean s b → (p, m) ≡ looked (expr_step (Expr-F.Boolean s b)) w → (p, m) ≡ looked (expr e) w
boolean_looked e s b w m p is h = h ∙ ap (λ l. looked l w) (sym (ap expr is ∙ boolean_is s b))

name_is : (x : Lexeme) → expr (the.Name x) ≡ expr_step (Expr-F.Name x)
name_is x = ap expr (sym (the.rolls-Name x)) ∙ fold-roll-Expr Ar De Dr Ex Fu In Pr St Bl La argument_step declaration_step declarator_step expr_step full_step initializer_step printed_step stmt_step block_step lambda_step (Expr-F.Name x)

pub name_looked : {Stop : Type 0} (e : Expr) (x : Lexeme) (w m : Walk) (r : Result (Seen × Typed) Stop) →
    e ≡ the.Name x → Looked (expr_step (Expr-F.Name x)) w r m → Looked (expr e) w r m
name_looked e x w m r is h =
    looked_as (expr e) (expr_step (Expr-F.Name x)) w m r (ap expr is ∙ name_is x) h

call_is : (f : Lexeme) (xs : List Expr) (end : Spot) → expr (the.Call f xs end) ≡ expr_step (Expr-F.Call f (map expr xs) end)
call_is f xs end = ap expr (sym (the.rolls-Call f xs end)) ∙ fold-roll-Expr Ar De Dr Ex Fu In Pr St Bl La argument_step declaration_step declarator_step expr_step full_step initializer_step printed_step stmt_step block_step lambda_step (Expr-F.Call f xs end)

pub call_looked : {Stop : Type 0} (e : Expr) (f : Lexeme) (xs : List Expr) (end : Spot) (f_got : Lexeme) (xs_got : List Expr) (w m : Walk) (r : Result (Seen × Typed) Stop) →
    e ≡ the.Call f xs end → f_got ≡ f → xs_got ≡ xs → Looked (expr_step (Expr-F.Call f_got (map expr xs_got) end)) w r m → Looked (expr e) w r m
call_looked e f xs end f_got xs_got w m r is f_is xs_is h =
    looked_as (expr e) (expr_step (Expr-F.Call f_got (map expr xs_got) end)) w m r (ap expr (is ∙ ap (λ z. the.Call z xs end) (sym f_is) ∙ ap (λ z. the.Call f_got z end) (sym xs_is)) ∙ call_is f_got xs_got end) h

parenthesized_is : (s : Spot) (a : Expr) (end : Spot) → expr (the.Parenthesized s a end) ≡ expr_step (Expr-F.Parenthesized s (expr a) end)
parenthesized_is s a end = ap expr (sym (the.rolls-Parenthesized s a end)) ∙ fold-roll-Expr Ar De Dr Ex Fu In Pr St Bl La argument_step declaration_step declarator_step expr_step full_step initializer_step printed_step stmt_step block_step lambda_step (Expr-F.Parenthesized s a end)

pub parenthesized_looked : {Stop : Type 0} (e : Expr) (s : Spot) (a : Expr) (end : Spot) (a_got : Expr) (w m : Walk) (r : Result (Seen × Typed) Stop) →
    e ≡ the.Parenthesized s a end → a_got ≡ a → Looked (expr_step (Expr-F.Parenthesized s (expr a_got) end)) w r m → Looked (expr e) w r m
parenthesized_looked e s a end a_got w m r is a_is h =
    looked_as (expr e) (expr_step (Expr-F.Parenthesized s (expr a_got) end)) w m r (ap expr (is ∙ ap (λ z. the.Parenthesized s z end) (sym a_is)) ∙ parenthesized_is s a_got end) h

static_cast_is : (s : Spot) (t : IntegerType) (a : Expr) (end : Spot) → expr (the.StaticCast s t a end) ≡ expr_step (Expr-F.StaticCast s t (expr a) end)
static_cast_is s t a end = ap expr (sym (the.rolls-StaticCast s t a end)) ∙ fold-roll-Expr Ar De Dr Ex Fu In Pr St Bl La argument_step declaration_step declarator_step expr_step full_step initializer_step printed_step stmt_step block_step lambda_step (Expr-F.StaticCast s t a end)

pub static_cast_looked : {Stop : Type 0} (e : Expr) (s : Spot) (t : IntegerType) (a : Expr) (end : Spot) (a_got : Expr) (w m : Walk) (r : Result (Seen × Typed) Stop) →
    e ≡ the.StaticCast s t a end → a_got ≡ a → Looked (expr_step (Expr-F.StaticCast s t (expr a_got) end)) w r m → Looked (expr e) w r m
static_cast_looked e s t a end a_got w m r is a_is h =
    looked_as (expr e) (expr_step (Expr-F.StaticCast s t (expr a_got) end)) w m r (ap expr (is ∙ ap (λ z. the.StaticCast s t z end) (sym a_is)) ∙ static_cast_is s t a_got end) h

functional_cast_is : (t : IntegerType) (a : Expr) (end : Spot) → expr (the.FunctionalCast t a end) ≡ expr_step (Expr-F.FunctionalCast t (expr a) end)
functional_cast_is t a end = ap expr (sym (the.rolls-FunctionalCast t a end)) ∙ fold-roll-Expr Ar De Dr Ex Fu In Pr St Bl La argument_step declaration_step declarator_step expr_step full_step initializer_step printed_step stmt_step block_step lambda_step (Expr-F.FunctionalCast t a end)

pub functional_cast_looked : {Stop : Type 0} (e : Expr) (t : IntegerType) (a : Expr) (end : Spot) (a_got : Expr) (w m : Walk) (r : Result (Seen × Typed) Stop) →
    e ≡ the.FunctionalCast t a end → a_got ≡ a → Looked (expr_step (Expr-F.FunctionalCast t (expr a_got) end)) w r m → Looked (expr e) w r m
functional_cast_looked e t a end a_got w m r is a_is h =
    looked_as (expr e) (expr_step (Expr-F.FunctionalCast t (expr a_got) end)) w m r (ap expr (is ∙ ap (λ z. the.FunctionalCast t z end) (sym a_is)) ∙ functional_cast_is t a_got end) h

construct_is : (t : ObjectType) (b : Brackets) (s : Spot) (xs : List Argument) (end : Spot) → expr (the.Construct t b s xs end) ≡ expr_step (Expr-F.Construct t b s (map argument xs) end)
construct_is t b s xs end = ap expr (sym (the.rolls-Construct t b s xs end)) ∙ fold-roll-Expr Ar De Dr Ex Fu In Pr St Bl La argument_step declaration_step declarator_step expr_step full_step initializer_step printed_step stmt_step block_step lambda_step (Expr-F.Construct t b s xs end)

pub construct_looked : {Stop : Type 0} (e : Expr) (t : ObjectType) (b : Brackets) (s : Spot) (xs : List Argument) (end : Spot) (t_got : ObjectType) (xs_got : List Argument) (w m : Walk) (r : Result (Seen × Typed) Stop) →
    e ≡ the.Construct t b s xs end → t_got ≡ t → xs_got ≡ xs → Looked (expr_step (Expr-F.Construct t_got b s (map argument xs_got) end)) w r m → Looked (expr e) w r m
construct_looked e t b s xs end t_got xs_got w m r is t_is xs_is h =
    looked_as (expr e) (expr_step (Expr-F.Construct t_got b s (map argument xs_got) end)) w m r (ap expr (is ∙ ap (λ z. the.Construct z b s xs end) (sym t_is) ∙ ap (λ z. the.Construct t_got b s z end) (sym xs_is)) ∙ construct_is t_got b s xs_got end) h

group_barrier_is : (q : Qualified) (a : Expr) (end : Spot) → expr (the.GroupBarrier q a end) ≡ expr_step (Expr-F.GroupBarrier q (expr a) end)
group_barrier_is q a end = ap expr (sym (the.rolls-GroupBarrier q a end)) ∙ fold-roll-Expr Ar De Dr Ex Fu In Pr St Bl La argument_step declaration_step declarator_step expr_step full_step initializer_step printed_step stmt_step block_step lambda_step (Expr-F.GroupBarrier q a end)

pub group_barrier_looked : {Stop : Type 0} (e : Expr) (q : Qualified) (a : Expr) (end : Spot) (a_got : Expr) (w m : Walk) (r : Result (Seen × Typed) Stop) →
    e ≡ the.GroupBarrier q a end → a_got ≡ a → Looked (expr_step (Expr-F.GroupBarrier q (expr a_got) end)) w r m → Looked (expr e) w r m
group_barrier_looked e q a end a_got w m r is a_is h =
    looked_as (expr e) (expr_step (Expr-F.GroupBarrier q (expr a_got) end)) w m r (ap expr (is ∙ ap (λ z. the.GroupBarrier q z end) (sym a_is)) ∙ group_barrier_is q a_got end) h

access_tag_is : (q : Qualified) (t : AccessTag) → expr (the.AccessTag q t) ≡ expr_step (Expr-F.AccessTag q t)
access_tag_is q t = ap expr (sym (the.rolls-AccessTag q t)) ∙ fold-roll-Expr Ar De Dr Ex Fu In Pr St Bl La argument_step declaration_step declarator_step expr_step full_step initializer_step printed_step stmt_step block_step lambda_step (Expr-F.AccessTag q t)

pub access_tag_looked : (e : Expr) (q : Qualified) (t : AccessTag) (w m : Walk) (p : Seen × Typed) →
    e ≡ the.AccessTag q t → (p, m) ≡ looked (expr_step (Expr-F.AccessTag q t)) w → (p, m) ≡ looked (expr e) w
access_tag_looked e q t w m p is h = h ∙ ap (λ l. looked l w) (sym (ap expr is ∙ access_tag_is q t))

in_order_is : (q : Qualified) (b : Brackets) (end : Spot) → expr (the.InOrder q b end) ≡ expr_step (Expr-F.InOrder q b end)
in_order_is q b end = ap expr (sym (the.rolls-InOrder q b end)) ∙ fold-roll-Expr Ar De Dr Ex Fu In Pr St Bl La argument_step declaration_step declarator_step expr_step full_step initializer_step printed_step stmt_step block_step lambda_step (Expr-F.InOrder q b end)

pub in_order_looked : (e : Expr) (q : Qualified) (b : Brackets) (end : Spot) (w m : Walk) (p : Seen × Typed) →
    e ≡ the.InOrder q b end → (p, m) ≡ looked (expr_step (Expr-F.InOrder q b end)) w → (p, m) ≡ looked (expr e) w
in_order_looked e q b end w m p is h = h ∙ ap (λ l. looked l w) (sym (ap expr is ∙ in_order_is q b end))

error_code_is : (q : Qualified) (x : Lexeme) → expr (the.ErrorCode q x) ≡ expr_step (Expr-F.ErrorCode q x)
error_code_is q x = ap expr (sym (the.rolls-ErrorCode q x)) ∙ fold-roll-Expr Ar De Dr Ex Fu In Pr St Bl La argument_step declaration_step declarator_step expr_step full_step initializer_step printed_step stmt_step block_step lambda_step (Expr-F.ErrorCode q x)

pub error_code_looked : (e : Expr) (q : Qualified) (x : Lexeme) (x_got : Lexeme) (w m : Walk) (p : Seen × Typed) →
    e ≡ the.ErrorCode q x → x_got ≡ x → (p, m) ≡ looked (expr_step (Expr-F.ErrorCode q x_got)) w → (p, m) ≡ looked (expr e) w
error_code_looked e q x x_got w m p is x_is h = h ∙ ap (λ l. looked l w) (sym (ap expr (is ∙ ap (λ z. the.ErrorCode q z) (sym x_is)) ∙ error_code_is q x_got))

initialize_to_identity_is : (q : Qualified) (b : Brackets) (end : Spot) → expr (the.InitializeToIdentity q b end) ≡ expr_step (Expr-F.InitializeToIdentity q b end)
initialize_to_identity_is q b end = ap expr (sym (the.rolls-InitializeToIdentity q b end)) ∙ fold-roll-Expr Ar De Dr Ex Fu In Pr St Bl La argument_step declaration_step declarator_step expr_step full_step initializer_step printed_step stmt_step block_step lambda_step (Expr-F.InitializeToIdentity q b end)

pub initialize_to_identity_looked : (e : Expr) (q : Qualified) (b : Brackets) (end : Spot) (w m : Walk) (p : Seen × Typed) →
    e ≡ the.InitializeToIdentity q b end → (p, m) ≡ looked (expr_step (Expr-F.InitializeToIdentity q b end)) w → (p, m) ≡ looked (expr e) w
initialize_to_identity_looked e q b end w m p is h = h ∙ ap (λ l. looked l w) (sym (ap expr is ∙ initialize_to_identity_is q b end))

function_object_is : (q : Qualified) (f : FunctionObject) (t : Option IntegerType) (b : Brackets) (end : Spot) → expr (the.FunctionObject q f t b end) ≡ expr_step (Expr-F.FunctionObject q f t b end)
function_object_is q f t b end = ap expr (sym (the.rolls-FunctionObject q f t b end)) ∙ fold-roll-Expr Ar De Dr Ex Fu In Pr St Bl La argument_step declaration_step declarator_step expr_step full_step initializer_step printed_step stmt_step block_step lambda_step (Expr-F.FunctionObject q f t b end)

pub function_object_looked : (e : Expr) (q : Qualified) (f : FunctionObject) (t : Option IntegerType) (b : Brackets) (end : Spot) (w m : Walk) (p : Seen × Typed) →
    e ≡ the.FunctionObject q f t b end → (p, m) ≡ looked (expr_step (Expr-F.FunctionObject q f t b end)) w → (p, m) ≡ looked (expr e) w
function_object_looked e q f t b end w m p is h = h ∙ ap (λ l. looked l w) (sym (ap expr is ∙ function_object_is q f t b end))

library_call_is : (q : Qualified) (f : LibraryFunction) (xs : List Argument) (end : Spot) → expr (the.LibraryCall q f xs end) ≡ expr_step (Expr-F.LibraryCall q f (map argument xs) end)
library_call_is q f xs end = ap expr (sym (the.rolls-LibraryCall q f xs end)) ∙ fold-roll-Expr Ar De Dr Ex Fu In Pr St Bl La argument_step declaration_step declarator_step expr_step full_step initializer_step printed_step stmt_step block_step lambda_step (Expr-F.LibraryCall q f xs end)

pub library_call_looked : {Stop : Type 0} (e : Expr) (q : Qualified) (f : LibraryFunction) (xs : List Argument) (end : Spot) (xs_got : List Argument) (w m : Walk) (r : Result (Seen × Typed) Stop) →
    e ≡ the.LibraryCall q f xs end → xs_got ≡ xs → Looked (expr_step (Expr-F.LibraryCall q f (map argument xs_got) end)) w r m → Looked (expr e) w r m
library_call_looked e q f xs end xs_got w m r is xs_is h =
    looked_as (expr e) (expr_step (Expr-F.LibraryCall q f (map argument xs_got) end)) w m r (ap expr (is ∙ ap (λ z. the.LibraryCall q f z end) (sym xs_is)) ∙ library_call_is q f xs_got end) h

subscript_is : (a : Expr) (s : Spot) (i : Expr) (end : Spot) → expr (the.Subscript a s i end) ≡ expr_step (Expr-F.Subscript (expr a) s (expr i) end)
subscript_is a s i end = ap expr (sym (the.rolls-Subscript a s i end)) ∙ fold-roll-Expr Ar De Dr Ex Fu In Pr St Bl La argument_step declaration_step declarator_step expr_step full_step initializer_step printed_step stmt_step block_step lambda_step (Expr-F.Subscript a s i end)

pub subscript_looked : {Stop : Type 0} (e : Expr) (a : Expr) (s : Spot) (i : Expr) (end : Spot) (a_got : Expr) (i_got : Expr) (w m : Walk) (r : Result (Seen × Typed) Stop) →
    e ≡ the.Subscript a s i end → a_got ≡ a → i_got ≡ i → Looked (expr_step (Expr-F.Subscript (expr a_got) s (expr i_got) end)) w r m → Looked (expr e) w r m
subscript_looked e a s i end a_got i_got w m r is a_is i_is h =
    looked_as (expr e) (expr_step (Expr-F.Subscript (expr a_got) s (expr i_got) end)) w m r (ap expr (is ∙ ap (λ z. the.Subscript z s i end) (sym a_is) ∙ ap (λ z. the.Subscript a_got s z end) (sym i_is)) ∙ subscript_is a_got s i_got end) h

member_call_is : (a : Expr) (x : Lexeme) (t : Option TemplateArgument) (xs : List Argument) (end : Spot) → expr (the.MemberCall a x t xs end) ≡ expr_step (Expr-F.MemberCall (expr a) x t (map argument xs) end)
member_call_is a x t xs end = ap expr (sym (the.rolls-MemberCall a x t xs end)) ∙ fold-roll-Expr Ar De Dr Ex Fu In Pr St Bl La argument_step declaration_step declarator_step expr_step full_step initializer_step printed_step stmt_step block_step lambda_step (Expr-F.MemberCall a x t xs end)

pub member_call_looked : {Stop : Type 0} (e : Expr) (a : Expr) (x : Lexeme) (t : Option TemplateArgument) (xs : List Argument) (end : Spot) (a_got : Expr) (x_got : Lexeme) (xs_got : List Argument) (w m : Walk) (r : Result (Seen × Typed) Stop) →
    e ≡ the.MemberCall a x t xs end → a_got ≡ a → x_got ≡ x → xs_got ≡ xs → Looked (expr_step (Expr-F.MemberCall (expr a_got) x_got t (map argument xs_got) end)) w r m → Looked (expr e) w r m
member_call_looked e a x t xs end a_got x_got xs_got w m r is a_is x_is xs_is h =
    looked_as (expr e) (expr_step (Expr-F.MemberCall (expr a_got) x_got t (map argument xs_got) end)) w m r (ap expr (is ∙ ap (λ z. the.MemberCall z x t xs end) (sym a_is) ∙ ap (λ z. the.MemberCall a_got z t xs end) (sym x_is) ∙ ap (λ z. the.MemberCall a_got x_got t z end) (sym xs_is)) ∙ member_call_is a_got x_got t xs_got end) h

postfix_is : (a : Expr) (s : Spot) (step : Step) → expr (the.Postfix a s step) ≡ expr_step (Expr-F.Postfix (expr a) s step)
postfix_is a s step = ap expr (sym (the.rolls-Postfix a s step)) ∙ fold-roll-Expr Ar De Dr Ex Fu In Pr St Bl La argument_step declaration_step declarator_step expr_step full_step initializer_step printed_step stmt_step block_step lambda_step (Expr-F.Postfix a s step)

pub postfix_looked : {Stop : Type 0} (e : Expr) (a : Expr) (s : Spot) (step : Step) (a_got : Expr) (w m : Walk) (r : Result (Seen × Typed) Stop) →
    e ≡ the.Postfix a s step → a_got ≡ a → Looked (expr_step (Expr-F.Postfix (expr a_got) s step)) w r m → Looked (expr e) w r m
postfix_looked e a s step a_got w m r is a_is h =
    looked_as (expr e) (expr_step (Expr-F.Postfix (expr a_got) s step)) w m r (ap expr (is ∙ ap (λ z. the.Postfix z s step) (sym a_is)) ∙ postfix_is a_got s step) h

prefix_is : (s : Spot) (step : Step) (a : Expr) → expr (the.Prefix s step a) ≡ expr_step (Expr-F.Prefix s step (expr a))
prefix_is s step a = ap expr (sym (the.rolls-Prefix s step a)) ∙ fold-roll-Expr Ar De Dr Ex Fu In Pr St Bl La argument_step declaration_step declarator_step expr_step full_step initializer_step printed_step stmt_step block_step lambda_step (Expr-F.Prefix s step a)

pub prefix_looked : {Stop : Type 0} (e : Expr) (s : Spot) (step : Step) (a : Expr) (a_got : Expr) (w m : Walk) (r : Result (Seen × Typed) Stop) →
    e ≡ the.Prefix s step a → a_got ≡ a → Looked (expr_step (Expr-F.Prefix s step (expr a_got))) w r m → Looked (expr e) w r m
prefix_looked e s step a a_got w m r is a_is h =
    looked_as (expr e) (expr_step (Expr-F.Prefix s step (expr a_got))) w m r (ap expr (is ∙ ap (λ z. the.Prefix s step z) (sym a_is)) ∙ prefix_is s step a_got) h

unary_is : (s : Spot) (op : UnOp) (a : Expr) → expr (the.Unary s op a) ≡ expr_step (Expr-F.Unary s op (expr a))
unary_is s op a = ap expr (sym (the.rolls-Unary s op a)) ∙ fold-roll-Expr Ar De Dr Ex Fu In Pr St Bl La argument_step declaration_step declarator_step expr_step full_step initializer_step printed_step stmt_step block_step lambda_step (Expr-F.Unary s op a)

pub unary_looked : {Stop : Type 0} (e : Expr) (s : Spot) (op : UnOp) (a : Expr) (a_got : Expr) (w m : Walk) (r : Result (Seen × Typed) Stop) →
    e ≡ the.Unary s op a → a_got ≡ a → Looked (expr_step (Expr-F.Unary s op (expr a_got))) w r m → Looked (expr e) w r m
unary_looked e s op a a_got w m r is a_is h =
    looked_as (expr e) (expr_step (Expr-F.Unary s op (expr a_got))) w m r (ap expr (is ∙ ap (λ z. the.Unary s op z) (sym a_is)) ∙ unary_is s op a_got) h

cast_is : (s : Spot) (t : IntegerType) (a : Expr) → expr (the.Cast s t a) ≡ expr_step (Expr-F.Cast s t (expr a))
cast_is s t a = ap expr (sym (the.rolls-Cast s t a)) ∙ fold-roll-Expr Ar De Dr Ex Fu In Pr St Bl La argument_step declaration_step declarator_step expr_step full_step initializer_step printed_step stmt_step block_step lambda_step (Expr-F.Cast s t a)

pub cast_looked : {Stop : Type 0} (e : Expr) (s : Spot) (t : IntegerType) (a : Expr) (a_got : Expr) (w m : Walk) (r : Result (Seen × Typed) Stop) →
    e ≡ the.Cast s t a → a_got ≡ a → Looked (expr_step (Expr-F.Cast s t (expr a_got))) w r m → Looked (expr e) w r m
cast_looked e s t a a_got w m r is a_is h =
    looked_as (expr e) (expr_step (Expr-F.Cast s t (expr a_got))) w m r (ap expr (is ∙ ap (λ z. the.Cast s t z) (sym a_is)) ∙ cast_is s t a_got) h

binary_is : (a : Expr) (s : Spot) (op : Operator) (b : Expr) → expr (the.Binary a s op b) ≡ expr_step (Expr-F.Binary (expr a) s op (expr b))
binary_is a s op b = ap expr (sym (the.rolls-Binary a s op b)) ∙ fold-roll-Expr Ar De Dr Ex Fu In Pr St Bl La argument_step declaration_step declarator_step expr_step full_step initializer_step printed_step stmt_step block_step lambda_step (Expr-F.Binary a s op b)

pub binary_looked : {Stop : Type 0} (e : Expr) (a : Expr) (s : Spot) (op : Operator) (b : Expr) (a_got : Expr) (b_got : Expr) (w m : Walk) (r : Result (Seen × Typed) Stop) →
    e ≡ the.Binary a s op b → a_got ≡ a → b_got ≡ b → Looked (expr_step (Expr-F.Binary (expr a_got) s op (expr b_got))) w r m → Looked (expr e) w r m
binary_looked e a s op b a_got b_got w m r is a_is b_is h =
    looked_as (expr e) (expr_step (Expr-F.Binary (expr a_got) s op (expr b_got))) w m r (ap expr (is ∙ ap (λ z. the.Binary z s op b) (sym a_is) ∙ ap (λ z. the.Binary a_got s op z) (sym b_is)) ∙ binary_is a_got s op b_got) h

conditional_is : (a : Expr) (s : Spot) (b : Expr) (c : Expr) → expr (the.Conditional a s b c) ≡ expr_step (Expr-F.Conditional (expr a) s (expr b) (expr c))
conditional_is a s b c = ap expr (sym (the.rolls-Conditional a s b c)) ∙ fold-roll-Expr Ar De Dr Ex Fu In Pr St Bl La argument_step declaration_step declarator_step expr_step full_step initializer_step printed_step stmt_step block_step lambda_step (Expr-F.Conditional a s b c)

pub conditional_looked : {Stop : Type 0} (e : Expr) (a : Expr) (s : Spot) (b : Expr) (c : Expr) (a_got : Expr) (b_got : Expr) (c_got : Expr) (w m : Walk) (r : Result (Seen × Typed) Stop) →
    e ≡ the.Conditional a s b c → a_got ≡ a → b_got ≡ b → c_got ≡ c → Looked (expr_step (Expr-F.Conditional (expr a_got) s (expr b_got) (expr c_got))) w r m → Looked (expr e) w r m
conditional_looked e a s b c a_got b_got c_got w m r is a_is b_is c_is h =
    looked_as (expr e) (expr_step (Expr-F.Conditional (expr a_got) s (expr b_got) (expr c_got))) w m r (ap expr (is ∙ ap (λ z. the.Conditional z s b c) (sym a_is) ∙ ap (λ z. the.Conditional a_got s z c) (sym b_is) ∙ ap (λ z. the.Conditional a_got s b_got z) (sym c_is)) ∙ conditional_is a_got s b_got c_got) h
