-- Each form of a typed tree is alike, with all that is known of it, where its parts are.
use Rattle.std.proofs.Common.{ap, refl, subst, sym, ◌∙◌}
use Rattle.std.specs.List.{list_any}
use Rattle.std.specs.Prelude.{Bool, false, List, None, Option, Some, [], ℕ, ◌||◌, ◌∷◌, ◌≡◌, ⊤}
use Rattle.sy_note.specs.declared.Spot.{Spot}
use Rattle.sy_num.specs.declared.UnOp.{UnOp}
use Rattle.sy_tree.specs.declared.operators.AssignmentOperator.{AssignmentOperator}
use Rattle.sy_tree.specs.declared.operators.Operator.{Operator}
use Rattle.sy_tree.specs.declared.parts.LibraryFunction.{LibraryFunction}
use Rattle.sy_tree.specs.declared.parts.Step.{Step as TreeStep}
use Rattle.sy_typed.specs.declared.things.Member.{Member}
use Rattle.sy_typed.specs.declared.things.Member.TheVariants as member
use Rattle.sy_typed.specs.declared.things.Thing.{Thing}
use Rattle.sy_typed.specs.declared.things.Thing.TheVariants as thing
use Rattle.sy_meaning.specs.declared.runs.World.{World}
use Rattle.sy_meaning.specs.Words.{Object, scalar_of}
use Rattle.sy_meaning.specs.Outcomes.{Ex, St, inside, with_list}
use Rattle.sy_meaning.specs.Ends.{in_full}
use Rattle.sy_meaning.specs.Locations.{element_of}
use Rattle.sy_meaning.specs.Expressions.{Argument, Block, Calls, Exp, Lambda, assignment, binary, braced, call, cast, conditional, full, indexed, lambda, makes_of, plain, postfix_step, prefix_step, subscript, unary, value}
use Rattle.sy_meaning.specs.Combining.{combines}
use Rattle.sy_meaning.specs.Making.{Given, has_end, make_temporary, type_at, value_at}
use Rattle.sy_meaning.specs.Library.{barrier, library_member}
use Rattle.sy_meaning.specs.Lambdas.{captures_of, copy, depends_on, fill, parallel_for, range_error, single_task}
use Rattle.sy_meaning.specs.Statements.{Statement, any_makes, discarded, print_operand, prints, with_arguments}
use Rattle.sy_meaning.specs.Meaning.{call_library, called_member, combine_member, construct, first_lambda, lambda_member, last_of_if, library_call, member_call, plain_member, with_kernel}
use Rattle.sy_meaning.proofs.AlikeLemmas.{Bound, ExAlike, OpAlike, StAlike, gave, goes, lists, longer, stretched, within}
use Rattle.sy_meaning.proofs.AlikeMakingLemmas.{barrier_alike, copy_alike, depends_alike, fill_alike, library_call_alike, member_alike, parallel_for_alike, prints_alike, single_task_alike, temporary_alike}
use Rattle.sy_meaning.proofs.AlikeRunLemmas.{AllTwins, CallsAlike, Twin, assignment_alike, binary_alike, call_alike, captures_alike, cast_alike, combines_alike, conditional_alike, emplace_alike, in_full_alike, indexed_twin, postfix_alike, prefix_alike, submit_alike, subscript_alike, unary_alike, with_runs}
use Rattle.sy_meaning.proofs.AlikeStatementLemmas.{AllArguments, BlockTwin, LambdaTwin, MaybeStatementTwin, PrintingTwin, StatementTwin, discarded_alike, full_twin, makes_same, print_operand_alike, twins_make, with_arguments_alike}

pub twin_of : {k : Bound} (f g : St) (l m : ℕ) → StAlike k f g → l ≡ m → StatementTwin k (record { run = f; last = l }) (record { run = g; last = m })
twin_of f g l m p e = record { run = g; is = ap (λ n. record { run = g; last = n }) (sym e); runs = p }

pub leaf_twin : {k : Bound} (e : Exp) → ExAlike k e.locate e.locate → ExAlike k e.run e.run → Twin k e e
leaf_twin e p q = record { locate = e.locate; run = e.run; is = refl; locates = p; runs = q }

plain_of : {k : Bound} (t : Thing) (line : ℕ) (l m : ℕ) (b c : Bool) (f g : Ex) → ExAlike k f g → l ≡ m → b ≡ c → Twin k (plain t line l b f) (plain t line m c g)
plain_of t line l m b c f g p e n =
    record { locate = g; run = g; is = ap (λ x. plain t line x c g) (sym e) ∙ ap (λ x. plain t line l x g) (sym n); locates = p; runs = p }

-- in place of the second
under : {k : Bound} (f : Ex) (go : Exp → Ex) (a b : Exp) (t : Twin k a b) → ExAlike k f (go (with_runs a t.locate t.run)) → ExAlike k f (go b)
under {k} f go a b t p = subst (λ c. ExAlike k f (go c)) (sym t.is) p

last_is : {k : Bound} (a b : Exp) → Twin k a b → a.last ≡ b.last
last_is a b t = ap (λ c. c.last) (sym t.is)

makes_is : {k : Bound} (a b : Exp) → Twin k a b → a.makes ≡ b.makes
makes_is a b t = ap (λ c. c.makes) (sym t.is)

either_makes : (a b c d : Bool) → a ≡ c → b ≡ d → (a || b) ≡ (c || d)
either_makes a b c d e n = ap (λ x. x || b) e ∙ ap (λ x. c || x) n

-- ---- expressions

pub parenthesized_twin : {k : Bound} (a b : Exp) (last : ℕ) → Twin k a b → Twin k (record a { last = last }) (record b { last = last })
parenthesized_twin a b last t =
    let ends : Exp → Exp = λ c. record c { last = last } in
    record { locate = t.locate; run = t.run; is = ap ends t.is; locates = t.locates; runs = t.runs }

pub cast_twin : {k : Bound} (t : Thing) (line last : ℕ) (a b : Exp) → Twin k a b → Twin k (plain t line last a.makes (cast t a)) (plain t line last b.makes (cast t b))
cast_twin t line last a b p =
    plain_of t line last last a.makes b.makes (cast t a) (cast t b) (under (cast t a) (cast t) a b p (cast_alike t a p.locate p.run p.runs)) refl (makes_is a b p)

pub plain_cast_twin : {k : Bound} (t : Thing) (line : ℕ) (a b : Exp) → Twin k a b → Twin k (plain t line a.last a.makes (cast t a)) (plain t line b.last b.makes (cast t b))
plain_cast_twin t line a b p =
    plain_of t line a.last b.last a.makes b.makes (cast t a) (cast t b) (under (cast t a) (cast t) a b p (cast_alike t a p.locate p.run p.runs)) (last_is a b p) (makes_is a b p)

pub postfix_twin : {k : Bound} (t : Thing) (line : ℕ) (step : TreeStep) (a b : Exp) → Twin k a b → Twin k (plain t line line a.makes (postfix_step step line a)) (plain t line line b.makes (postfix_step step line b))
postfix_twin t line step a b p =
    plain_of t line line line a.makes b.makes (postfix_step step line a) (postfix_step step line b) (under (postfix_step step line a) (postfix_step step line) a b p (postfix_alike step line a p.locate p.run p.locates)) refl (makes_is a b p)

pub prefix_twin : {k : Bound} (t : Thing) (line : ℕ) (step : TreeStep) (a b : Exp) → Twin k a b → Twin k (plain t line a.last a.makes (prefix_step step line a)) (plain t line b.last b.makes (prefix_step step line b))
prefix_twin t line step a b p =
    plain_of t line a.last b.last a.makes b.makes (prefix_step step line a) (prefix_step step line b) (under (prefix_step step line a) (prefix_step step line) a b p (prefix_alike step line a p.locate p.run p.locates)) (last_is a b p) (makes_is a b p)

pub unary_twin : {k : Bound} (t : Thing) (line : ℕ) (op : UnOp) (a b : Exp) → Twin k a b → Twin k (plain t line a.last a.makes (unary op line a)) (plain t line b.last b.makes (unary op line b))
unary_twin t line op a b p =
    plain_of t line a.last b.last a.makes b.makes (unary op line a) (unary op line b) (under (unary op line a) (unary op line) a b p (unary_alike op line a p.locate p.run p.runs)) (last_is a b p) (makes_is a b p)

pub binary_twin : {k : Bound} (t : Thing) (line : ℕ) (op : Operator) (a b x y : Exp) → Twin k a x → Twin k b y → Twin k (plain t line b.last (a.makes || b.makes) (binary op line a b)) (plain t line y.last (x.makes || y.makes) (binary op line x y))
binary_twin t line op a b x y p q =
    let f = binary op line a b in
    plain_of t line b.last y.last (a.makes || b.makes) (x.makes || y.makes) f (binary op line x y) (under f (λ c. binary op line c y) a x p (under f (binary op line (with_runs a p.locate p.run)) b y q (binary_alike op line a b p.locate p.run q.locate q.run p.runs q.runs))) (last_is b y q) (either_makes a.makes b.makes x.makes y.makes (makes_is a x p) (makes_is b y q))

pub conditional_twin : {k : Bound} (t : Thing) (line : ℕ) (c a b z x y : Exp) → Twin k c z → Twin k a x → Twin k b y → Twin k (plain t line b.last (c.makes || (a.makes || b.makes)) (conditional t c a b)) (plain t line y.last (z.makes || (x.makes || y.makes)) (conditional t z x y))
conditional_twin t line c a b z x y o p q =
    let f = conditional t c a b in
    let either = either_makes a.makes b.makes x.makes y.makes (makes_is a x p) (makes_is b y q) in
    plain_of t line b.last y.last (c.makes || (a.makes || b.makes)) (z.makes || (x.makes || y.makes)) f (conditional t z x y) (under f (λ d. conditional t d x y) c z o (under f (λ d. conditional t (with_runs c o.locate o.run) d y) a x p (under f (conditional t (with_runs c o.locate o.run) (with_runs a p.locate p.run)) b y q (conditional_alike t c a b o.locate o.run p.locate p.run q.locate q.run o.runs p.runs q.runs)))) (last_is b y q) (either_makes c.makes (a.makes || b.makes) z.makes (x.makes || y.makes) (makes_is c z o) either)

pub call_twin : {k : Bound} (c d : Calls) → CallsAlike k c d → (t : Thing) (line last f : ℕ) (es fs : List Exp) → AllTwins k es fs → Twin k (plain t line last (list_any makes_of es) (call c line f es)) (plain t line last (list_any makes_of fs) (call d line f fs))
call_twin {k} c d h t line last f es fs p =
    plain_of t line last last (list_any makes_of es) (list_any makes_of fs) (call c line f es) (call d line f fs) (call_alike c d h line f es fs p) refl (twins_make k es fs p)

pub construct_twin : {k : Bound} (t : Thing) (s last : Spot) (xs ys : List Argument) → AllArguments k xs ys → Twin k (construct xs last t s) (construct ys last t s)
construct_twin {k} t s last xs ys p =
    let go : List Given → Ex = λ zs. inside (make_temporary t s.line zs) in
    plain_of t s.line last.line last.line (has_end t || any_makes xs) (has_end t || any_makes ys) (with_arguments xs go) (with_arguments ys go) (with_arguments_alike xs ys go go p (λ zs. within (make_temporary t s.line zs) (make_temporary t s.line zs) (temporary_alike t s.line zs))) refl (ap (λ c. has_end t || c) (makes_same k xs ys p))

pub library_twin : {k : Bound} (f : LibraryFunction) (t : Thing) (s last : Spot) (xs ys : List Argument) → AllArguments k xs ys → Twin k (call_library f xs last t s) (call_library f ys last t s)
library_twin {k} f t s last xs ys p =
    let go : List Given → Ex = λ zs. inside (library_call f s t zs) in
    plain_of t s.line last.line last.line (any_makes xs) (any_makes ys) (with_arguments xs go) (with_arguments ys go) (with_arguments_alike xs ys go go p (λ zs. within (library_call f s t zs) (library_call f s t zs) (library_call_alike f s t zs))) refl (makes_same k xs ys p)

pub barrier_twin : {k : Bound} (t : Thing) (s : Spot) (last : ℕ) (a b : Exp) → Twin k a b → Twin k (plain t s.line last a.makes (inside (barrier s))) (plain t s.line last b.makes (inside (barrier s)))
barrier_twin t s last a b p =
    plain_of t s.line last last a.makes b.makes (inside (barrier s)) (inside (barrier s)) (within (barrier s) (barrier s) (barrier_alike s)) refl (makes_is a b p)

indexed_with : {k : Bound} (t : Thing) (line last : ℕ) (a i : Exp) (l x m y : Ex) → ExAlike k a.run x → ExAlike k i.run y → Twin k (indexed t line last (a.makes || i.makes) (element_of a.what a.location) (subscript line a i)) (indexed t line last (a.makes || i.makes) (element_of a.what a.location) (subscript line (with_runs a l x) (with_runs i m y)))
indexed_with t line last a i l x m y p q =
    indexed_twin t line last (a.makes || i.makes) (element_of a.what a.location) (subscript line a i) (subscript line (with_runs a l x) (with_runs i m y)) (subscript_alike line a i l x m y p q)

pub subscript_twin : {k : Bound} (t : Thing) (line last : ℕ) (a i x y : Exp) → Twin k a x → Twin k i y → Twin k (indexed t line last (a.makes || i.makes) (element_of a.what a.location) (subscript line a i)) (indexed t line last (x.makes || y.makes) (element_of x.what x.location) (subscript line x y))
subscript_twin {k} t line last a i x y p q =
    let e = indexed t line last (a.makes || i.makes) (element_of a.what a.location) (subscript line a i) in
    subst (λ c. Twin k e (indexed t line last (c.makes || y.makes) (element_of c.what c.location) (subscript line c y))) (sym p.is) (subst (λ c. Twin k e (indexed t line last (a.makes || c.makes) (element_of a.what a.location) (subscript line (with_runs a p.locate p.run) c))) (sym q.is) (indexed_with t line last a i p.locate p.run q.locate q.run p.runs q.runs))

-- ---- members

plain_member_alike : {k : Bound} (m : Member) (line : ℕ) (a : Exp) (l x : Ex) (o : Object) (zs : List Given) → ExAlike k (plain_member m line a o zs) (plain_member m line (with_runs a l x) o zs)
plain_member_alike member.Fill line a l x o zs = within (fill line zs) (fill line zs) (fill_alike line zs)
plain_member_alike member.Copy line a l x o zs = within (copy line zs) (copy line zs) (copy_alike line zs)
plain_member_alike member.DependsOn line a l x o zs = within (depends_on (value_at 0 zs)) (depends_on (value_at 0 zs)) (depends_alike (value_at 0 zs))
plain_member_alike m line a l x o zs = within (library_member m line a.what o zs) (library_member m line a.what o zs) (member_alike m line a.what o zs)

combine_member_alike : {beyond : Bound} (line : ℕ) (a : Exp) (l x : Ex) → ExAlike beyond a.locate l → (t : Thing) (zs : List Given) → ExAlike beyond (combine_member line a t zs) (combine_member line (with_runs a l x) t zs)
combine_member_alike {beyond} line a l x p (thing.Reducer k f) zs = λ r h.
    goes (a.locate r) (l (stretched beyond r)) (λ q. combines f k line a.location q (scalar_of (type_at 0 zs) (value_at 0 zs))) (λ q. combines f k line a.location q (scalar_of (type_at 0 zs) (value_at 0 zs))) (p r h) (λ q. combines_alike f k line a.location q (scalar_of (type_at 0 zs) (value_at 0 zs)))
combine_member_alike line a l x p t zs = λ r h. gave h

called_member_with : {k : Bound} (m : Member) (line : ℕ) (a : Exp) (l x : Ex) (xs ys : List Argument) → ExAlike k a.locate l → ExAlike k a.run x → AllArguments k xs ys → ExAlike k (called_member m line a xs) (called_member m line (with_runs a l x) ys)
called_member_with member.Combine line a l x xs ys p q t = with_arguments_alike xs ys (combine_member line a a.what) (combine_member line (with_runs a l x) a.what) t (combine_member_alike line a l x p a.what)
called_member_with {k} m line a l x xs ys p q t = λ r h.
    goes (a.run r) (x (stretched k r)) (λ o. with_arguments xs (plain_member m line a o)) (λ o. with_arguments ys (plain_member m line (with_runs a l x) o)) (q r h) (λ o. with_arguments_alike xs ys (plain_member m line a o) (plain_member m line (with_runs a l x) o) t (plain_member_alike m line a l x o))

with_kernel_alike : {k : Bound} (l : Lambda) (xs ys : List Argument) (go on : List Given → List Object → Ex) → AllArguments k xs ys → ((zs : List Given) (os : List Object) → ExAlike k (go zs os) (on zs os)) → ExAlike k (with_kernel l xs go) (with_kernel l ys on)
with_kernel_alike {k} l xs ys go on t p =
    with_arguments_alike xs ys (λ zs r. with_list (captures_of l r) (go zs)) (λ zs r. with_list (captures_of l r) (on zs)) t (λ zs r h. lists (captures_of l r) (captures_of l (stretched k r)) (go zs) (on zs) (captures_alike l r h) (p zs))

-- the lambda with another meaning of its body
abbrev with_body : Lambda → St → Lambda
with_body l g = record l { body = record (l.body) { run = g } }

error_other : (t : Thing) (o : Object) (l : Lambda) (g : St) (w : World) → range_error t o (with_body l g) w ≡ range_error t o l w
error_other (thing.NdRange d) o l g w = refl
error_other t o l g w = refl

over_range_alike : {k : Bound} (limit line : ℕ) (l : Lambda) (g : St) (zs : List Given) (os : List Object) → OpAlike k (parallel_for limit line l zs os) (parallel_for limit line (with_body l g) zs os)
over_range_alike {k} limit line l g zs os w h =
    rw (error_other (type_at 0 zs) (value_at 0 zs) l g (longer k w)) (parallel_for_alike limit line l zs os w h)

lambda_member_alike : {k : Bound} (limit : ℕ) (m : Member) (line : ℕ) (xs ys : List Argument) (l : Lambda) (g : St) (o : Object) → AllArguments k xs ys → StAlike k l.body.run g → ExAlike k (lambda_member limit m line xs l o) (lambda_member limit m line ys (record l { body = record (l.body) { run = g } }) o)
lambda_member_alike limit member.Submit line xs ys l g o t p = submit_alike line l g o p
lambda_member_alike limit member.EmplaceBack line xs ys l g o t p = emplace_alike line l o
lambda_member_alike limit member.SingleTask line xs ys l g o t p =
    with_kernel_alike l [] [] (λ zs os. inside (single_task limit line l os)) (λ zs os. inside (single_task limit line l os)) tt (λ zs os. within (single_task limit line l os) (single_task limit line l os) (single_task_alike limit line l os))
lambda_member_alike limit member.ParallelFor line xs ys l g o t p =
    with_kernel_alike l xs ys (λ zs os. inside (parallel_for limit line l zs os)) (λ zs os. inside (parallel_for limit line (with_body l g) zs os)) t (λ zs os. within (parallel_for limit line l zs os) (parallel_for limit line (with_body l g) zs os) (over_range_alike limit line l g zs os))
lambda_member_alike limit m line xs ys l g o t p = λ r h. gave h

abbrev MaybeLambda : Bound → Option Lambda → Option Lambda → Type 0
MaybeLambda k None None = ⊤
MaybeLambda k None (Some m) = ⊥
MaybeLambda k (Some l) None = ⊥
MaybeLambda k (Some l) (Some m) = LambdaTwin k l m

first_lambda_twin : (k : Bound) (xs ys : List Argument) → AllArguments k xs ys → MaybeLambda k (first_lambda xs) (first_lambda ys)
first_lambda_twin k [] [] t = tt
first_lambda_twin k [] (y ∷ ys) t = absurd t
first_lambda_twin k (x ∷ xs) [] t = absurd t
first_lambda_twin k (value a ∷ xs) (value b ∷ ys) t = first_lambda_twin k xs ys t.1
first_lambda_twin k (value a ∷ xs) (braced fs m ∷ ys) t = absurd t.0
first_lambda_twin k (value a ∷ xs) (lambda b ∷ ys) t = absurd t.0
first_lambda_twin k (braced es l ∷ xs) (value b ∷ ys) t = absurd t.0
first_lambda_twin k (braced es l ∷ xs) (braced fs m ∷ ys) t = first_lambda_twin k xs ys t.1
first_lambda_twin k (braced es l ∷ xs) (lambda b ∷ ys) t = absurd t.0
first_lambda_twin k (lambda a ∷ xs) (value b ∷ ys) t = absurd t.0
first_lambda_twin k (lambda a ∷ xs) (braced fs m ∷ ys) t = absurd t.0
first_lambda_twin k (lambda a ∷ xs) (lambda b ∷ ys) t = t.0

member_call_with : {k : Bound} (c d : Calls) (limit : ℕ) (l m : Option Lambda) → MaybeLambda k l m → (a : Exp) (u x : Ex) (f : Member) (line : ℕ) (xs ys : List Argument) → ExAlike k a.locate u → ExAlike k a.run x → AllArguments k xs ys → ExAlike k (member_call c limit l a f line xs) (member_call d limit m (with_runs a u x) f line ys)
member_call_with c d limit None None o a u x f line xs ys p q t = λ r h. called_member_with f line a u x xs ys p q t r h
member_call_with c d limit None (Some m) o a u x f line xs ys p q t = absurd o
member_call_with c d limit (Some l) None o a u x f line xs ys p q t = absurd o
member_call_with {k} c d limit (Some l) (Some m) o a u x f line xs ys p q t =
    subst (λ z. ExAlike k (member_call c limit (Some l) a f line xs) (member_call d limit (Some z) (with_runs a u x) f line ys)) (sym o.is) (λ r h. goes (a.run r) (x (stretched k r)) (lambda_member limit f line xs l) (lambda_member limit f line ys (record l { body = record (l.body) { run = o.run } })) (q r h) (λ v. lambda_member_alike limit f line xs ys l o.run v t o.runs))

pub member_twin : {k : Bound} (c d : Calls) (limit : ℕ) (t : Thing) (line last : ℕ) (a b : Exp) (f : Member) (xs ys : List Argument) → Twin k a b → AllArguments k xs ys → Twin k (plain t line last (a.makes || any_makes xs) (member_call c limit (first_lambda xs) a f line xs)) (plain t line last (b.makes || any_makes ys) (member_call d limit (first_lambda ys) b f line ys))
member_twin {k} c d limit t line last a b f xs ys p q =
    let go = member_call c limit (first_lambda xs) a f line xs in
    plain_of t line last last (a.makes || any_makes xs) (b.makes || any_makes ys) go (member_call d limit (first_lambda ys) b f line ys) (under go (λ z. member_call d limit (first_lambda ys) z f line ys) a b p (member_call_with c d limit (first_lambda xs) (first_lambda ys) (first_lambda_twin k xs ys q) a p.locate p.run f line xs ys p.locates p.runs q)) refl (either_makes a.makes (any_makes xs) b.makes (any_makes ys) (makes_is a b p) (makes_same k xs ys q))

-- ---- full expressions, prints, and the lines of statements

pub plain_full_twin : {k : Bound} (a b : Exp) → Twin k a b → StatementTwin k (record { run = discarded (full a); last = a.last }) (record { run = discarded (full b); last = b.last })
plain_full_twin a b t = twin_of (discarded (full a)) (discarded (full b)) a.last b.last (discarded_alike (full a) (full b) (full_twin a b t)) (last_is a b t)

abbrev pub assignment_statement : ℕ → AssignmentOperator → Exp → Exp → Statement
assignment_statement line op a b = record { run = discarded (in_full (a.makes || b.makes) b.last (assignment a.what op line a b)); last = b.last }

assignment_with : {k : Bound} (line : ℕ) (op : AssignmentOperator) (a b : Exp) (l x m y : Ex) → ExAlike k a.locate l → ExAlike k b.run y → StatementTwin k (assignment_statement line op a b) (assignment_statement line op (with_runs a l x) (with_runs b m y))
assignment_with line op a b l x m y p q =
    let f = assignment a.what op line a b in
    let g = assignment a.what op line (with_runs a l x) (with_runs b m y) in
    let i = in_full (a.makes || b.makes) b.last f in
    let j = in_full (a.makes || b.makes) b.last g in
    twin_of (discarded i) (discarded j) b.last b.last (discarded_alike i j (in_full_alike (a.makes || b.makes) b.last f g (assignment_alike a.what op line a b l x m y p q))) refl

pub assignment_twin : {k : Bound} (line : ℕ) (op : AssignmentOperator) (a b x y : Exp) → Twin k a x → Twin k b y → StatementTwin k (assignment_statement line op a b) (assignment_statement line op x y)
assignment_twin {k} line op a b x y p q =
    subst (λ c. StatementTwin k (assignment_statement line op a b) (assignment_statement line op c y)) (sym p.is) (subst (λ c. StatementTwin k (assignment_statement line op a b) (assignment_statement line op (with_runs a p.locate p.run) c)) (sym q.is) (assignment_with line op a b p.locate p.run q.locate q.run p.locates q.runs))

pub operand_twin : {k : Bound} (line : ℕ) (a b : Exp) → Twin k a b → PrintingTwin k (record { run = print_operand line a; makes = a.makes; last = a.last }) (record { run = print_operand line b; makes = b.makes; last = b.last })
operand_twin {k} line a b t =
    record { run = print_operand line b; is = ap (λ c. record { run = print_operand line b; makes = c.makes; last = c.last }) t.is; runs = print_operand_alike line a b t }

pub text_twin : {k : Bound} (line : ℕ) (text : List ℕ) (last : ℕ) → PrintingTwin k (record { run = discarded (inside (prints line text)); makes = false; last = last }) (record { run = discarded (inside (prints line text)); makes = false; last = last })
text_twin line text last =
    record { run = discarded (inside (prints line text)); is = refl; runs = discarded_alike (inside (prints line text)) (inside (prints line text)) (within (prints line text) (prints line text) (prints_alike line text)) }

pub statement_last : {k : Bound} (a b : Statement) → StatementTwin k a b → a.last ≡ b.last
statement_last a b t = ap (λ c. c.last) (sym t.is)

pub if_last : {k : Bound} (c d : Calls) (limit : ℕ) (a x : Statement) (b y : Option Statement) → StatementTwin k a x → MaybeStatementTwin k b y → last_of_if c limit a b ≡ last_of_if d limit x y
if_last c d limit a x None None p q = statement_last a x p
if_last c d limit a x None (Some y) p q = absurd q
if_last c d limit a x (Some b) None p q = absurd q
if_last c d limit a x (Some b) (Some y) p q = statement_last b y q

pub block_last : {k : Bound} (a b : Block) → BlockTwin k a b → a.last ≡ b.last
block_last a b t = ap (λ c. c.last) (sym t.is)

pub block_is : {k : Bound} (a b : Block) → BlockTwin k a b → StAlike k a.run b.run
block_is {k} a b t = subst (λ c. StAlike k a.run c.run) (sym t.is) t.runs
