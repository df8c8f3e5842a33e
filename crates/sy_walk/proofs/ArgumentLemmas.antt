-- What an argument is looked at as: the definition's fold, at each variant of the tree; and calls over their arguments.
use Rattle.std.proofs.Common.{◌≡◌, List, [], map, Option, None, Some, ap, subst, sym, ◌∙◌}
use Rattle.std.specs.Prelude.{Result}
use Rattle.sy_looks.proofs.LookLemmas.{chained_to, known_there, looked_as, with_known}
use Rattle.sy_looks.specs.Looked.{Looked, looked}
use Rattle.sy_looks.specs.declared.walk.Walk.{Walk}
use Rattle.sy_note.specs.declared.Spot.{Spot}
use Rattle.sy_rules.specs.declared.library.Role.{Role}
use Rattle.sy_rules.specs.declared.names.Taken.{Taken}
use Rattle.sy_rules.specs.declared.seen.Seen.{Seen}
use Rattle.sy_rules.specs.declared.seen.SeenArgument.{SeenArgument}
use Rattle.sy_rules.specs.declared.seen.SeenArgument.TheVariants as seen
use Rattle.sy_rules.specs.declared.seen.SeenLambda.{SeenLambda}
use Rattle.sy_rules.specs.ExprTypes.{member_or_wait}
use Rattle.sy_rules.specs.Names.{where_taken}
use Rattle.sy_rules.specs.Outcome.{and_then}
use Rattle.sy_rules.specs.Walk.{Ar, De, Dr, Ex, Fu, In, Pr, St, Bl, La, argument_step, arguments, declaration_step, declarator_step, expr, expr_step, full_step, initializer_step, printed_step, stmt_step, block_step, lambda_step, judged, member_call, one_argument, role_in, taken_before_member, taken_by_member, untaken}
use Rattle.sy_rules.specs.Words.{member_named}
use Rattle.sy_tree.specs.declared.parts.Lexeme.{Lexeme}
use Rattle.sy_tree.specs.declared.parts.TemplateArgument.{TemplateArgument}
use Rattle.sy_tree.specs.declared.tree.Argument.{Argument, fold-roll-Argument}
use Rattle.sy_tree.specs.declared.tree.Argument.TheOpen.{Argument-F, Expr-F}
use Rattle.sy_tree.specs.declared.tree.Argument.TheVariants as the
use Rattle.sy_tree.specs.declared.tree.Expr.{Expr}
use Rattle.sy_tree.specs.declared.tree.Lambda.{Lambda}
use Rattle.sy_typed.specs.declared.things.Member.{Member}
use Rattle.sy_typed.specs.declared.tree.Typed.{Typed}
use Rattle.sy_typed.specs.declared.tree.TypedArgument.{TypedArgument}
use Rattle.sy_typed.specs.declared.tree.TypedArgument.TheVariants as typed
use Rattle.sy_typed.specs.declared.tree.TypedLambda.{TypedLambda}
use Rattle.sy_typed.specs.declared.tree.TypedNode.TheVariants as node
use Rattle.sy_walk.specs.Trees.{argument, lambda}
use Rattle.sy_walk.specs.Values.{values}

-- ---- an argument

value_is : (a : Expr) → argument (the.Value a) ≡ Argument-F.Value (expr a)
value_is a = ap argument (sym (the.rolls-Value a)) ∙ fold-roll-Argument Ar De Dr Ex Fu In Pr St Bl La argument_step declaration_step declarator_step expr_step full_step initializer_step printed_step stmt_step block_step lambda_step (Argument-F.Value a)

braced_is : (s : Spot) (xs : List Expr) (end : Spot) → argument (the.Braced s xs end) ≡ Argument-F.Braced s (map expr xs) end
braced_is s xs end = ap argument (sym (the.rolls-Braced s xs end)) ∙ fold-roll-Argument Ar De Dr Ex Fu In Pr St Bl La argument_step declaration_step declarator_step expr_step full_step initializer_step printed_step stmt_step block_step lambda_step (Argument-F.Braced s xs end)

lambda_is : (l : Lambda) → argument (the.Lambda l) ≡ Argument-F.Lambda (lambda l)
lambda_is l = ap argument (sym (the.rolls-Lambda l)) ∙ fold-roll-Argument Ar De Dr Ex Fu In Pr St Bl La argument_step declaration_step declarator_step expr_step full_step initializer_step printed_step stmt_step block_step lambda_step (Argument-F.Lambda l)

pub value_looked : (k : Taken) (r : Option Role) (x : Argument) (a : Expr) (w m : Walk) (p : Seen × Typed) →
    x ≡ the.Value a → (p, m) ≡ looked (where_taken k (expr a)) w →
    ((seen.Value p.0, typed.Value p.1), m) ≡ looked (one_argument k r (argument x)) w
value_looked k r x a w m p is h =
    known_there (λ q. (seen.Value q.0, typed.Value q.1)) (where_taken k (expr a)) w m p h
    ∙ ap (λ z. looked (one_argument k r z) w) (sym (ap argument is ∙ value_is a))

pub braced_looked : (k : Taken) (r : Option Role) (x : Argument) (s : Spot) (xs : List Expr) (end : Spot) (xs_got : List Expr) (w m : Walk) (q : List Seen × List Typed) →
    x ≡ the.Braced s xs end → xs_got ≡ xs → (q, m) ≡ looked (values (map expr xs_got)) w →
    ((seen.Braced q.0, typed.Braced q.1 end), m) ≡ looked (one_argument k r (argument x)) w
braced_looked k r x s xs end xs_got w m q is xs_is h =
    known_there (λ z. (seen.Braced z.0, typed.Braced z.1 end)) (values (map expr xs_got)) w m q h
    ∙ ap (λ z. looked (one_argument k r z) w) (sym (ap argument (is ∙ ap (λ z. the.Braced s z end) (sym xs_is)) ∙ braced_is s xs_got end))

pub lambda_looked : {Stop : Type 0} (k : Taken) (r : Option Role) (x : Argument) (l : Lambda) (w m : Walk) (p : Result (SeenArgument × TypedArgument) Stop) →
    x ≡ the.Lambda l → Looked (one_argument k r (Argument-F.Lambda (lambda l))) w p m → Looked (one_argument k r (argument x)) w p m
lambda_looked k r x l w m p is h =
    looked_as (one_argument k r (argument x)) (one_argument k r (Argument-F.Lambda (lambda l))) w m p (ap (one_argument k r) (ap argument is ∙ lambda_is l)) h

pub untaken_looked : (k : Taken) (r : Option Role) (l : La) (w : Walk) (p : SeenArgument × TypedArgument) →
    r ≡ None → p ≡ untaken → (p, w) ≡ looked (one_argument k r (Argument-F.Lambda l)) w
untaken_looked k r l w p e h =
    ap (λ z. (z, w)) h ∙ ap (λ z. looked (one_argument k z (Argument-F.Lambda l)) w) (sym e)

pub taken_looked : (k : Taken) (r : Option Role) (role : Role) (l : La) (w m : Walk) (p : SeenLambda × TypedLambda) →
    r ≡ Some role → (p, m) ≡ looked (l role) w → ((seen.Lambda p.0, typed.Lambda p.1), m) ≡ looked (one_argument k r (Argument-F.Lambda l)) w
taken_looked k r role l w m p e h =
    known_there (λ q. (seen.Lambda q.0, typed.Lambda q.1)) (l role) w m p h
    ∙ ap (λ z. looked (one_argument k z (Argument-F.Lambda l)) w) (sym e)

-- ---- a call of a member

abbrev member_call_of : Option Member → Ex → Lexeme → Option TemplateArgument → List Ar → Spot → Ex
member_call_of v a x t xs end n =
    and_then (where_taken (taken_before_member n.setting.taken v) a n)
    (λ p m. and_then (arguments (taken_by_member v) (role_in p.0 v) [] xs m)
    (λ q. judged (Expr-F.MemberCall p.0 x t q.0 end) (node.MemberCall p.1 (member_or_wait x.text) q.1 end) x.spot))

pub member_call_looked : {Stop : Type 0} (v : Option Member) (k : Taken) (a : Ex) (x : Lexeme) (t : Option TemplateArgument) (xs : List Ar) (end : Spot)
    (w m j i : Walk) (p : Seen × Typed) (q : List SeenArgument × List TypedArgument) (r : Result (Seen × Typed) Stop) →
    v ≡ member_named x.text → k ≡ taken_before_member w.names.setting.taken v →
    (p, m) ≡ looked (where_taken k a) w → (q, j) ≡ looked (arguments (taken_by_member v) (role_in p.0 v) [] xs) m →
    Looked (judged (Expr-F.MemberCall p.0 x t q.0 end) (node.MemberCall p.1 (member_or_wait x.text) q.1 end) x.spot) j r i →
    Looked (member_call a x t xs end) w r i
member_call_looked v k a x t xs end w m j i p q r ev ek ep eq h =
    subst (λ z. Looked (member_call_of z a x t xs end) w r i) ev
    (with_known (λ z n. and_then (where_taken z a n)
    (λ p m. and_then (arguments (taken_by_member v) (role_in p.0 v) [] xs m)
    (λ q. judged (Expr-F.MemberCall p.0 x t q.0 end) (node.MemberCall p.1 (member_or_wait x.text) q.1 end) x.spot)))
    (λ n. taken_before_member n.setting.taken v) w i r k ek
    (chained_to (where_taken k a) (λ p m. and_then (arguments (taken_by_member v) (role_in p.0 v) [] xs m)
    (λ q. judged (Expr-F.MemberCall p.0 x t q.0 end) (node.MemberCall p.1 (member_or_wait x.text) q.1 end) x.spot)) w m i p r ep
    (chained_to (arguments (taken_by_member v) (role_in p.0 v) [] xs)
    (λ q. judged (Expr-F.MemberCall p.0 x t q.0 end) (node.MemberCall p.1 (member_or_wait x.text) q.1 end) x.spot) m j i q r eq h)))
